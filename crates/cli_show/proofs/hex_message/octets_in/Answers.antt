use Rattle.std.proofs.Common.{◌≡◌, List, ◌∷◌, ℕ, Some, sym, ap, ◌∙◌}
use Rattle.std.proofs.lemmas.List.{nil_from_length, append-nil}
use Rattle.cli_show.specs.InnerReadAhead.{subsequent}
use Rattle.cli_show.specs.ShowHex.{is_blank, decoded_octets}
use Rattle.cli_show.proofs.HexEncoding.{after_octet, decodes_end, decodes_none, decodes_octet, decodes_on}
use Rattle.cli_show.proofs.hex_message.octets_in.Goals as goal

pub loop-first-preserved-then-is_space : goal.loop-first-preserved-then-is_space
loop-first-preserved-then-is_space c =
    c.loop-first.invariant
    ∙ ap (subsequent c.loop-first.octets.items)
    (ap decoded_octets c.in-Some.ensures.cases.0 ∙ decodes_on c.in-Some.first.now c.in-Some.others.now (sym c.is_space.ensures ∙ c.if-is_space.true))

pub returns-in_default-octet_at_front : goal.returns-in_default-octet_at_front
returns-in_default-octet_at_front c =
    let parts = c.in-Some.ensures.cases.0 in
    let none = c.octet_at_front.ensures.none c.in_default-octet_at_front.is in
    sym (c.loop-first.invariant
    ∙ ap (subsequent c.loop-first.octets.items)
    (ap decoded_octets parts ∙ decodes_none c.in-Some.first.now c.in-Some.others.now (sym c.is_space.ensures ∙ c.if-is_space.false) (λ high low rest is. none high low rest (parts ∙ is))))

pub loop-first-preserved : goal.loop-first-preserved
loop-first-preserved c =
    let some = c.in-Some-octet_at_front.ensures.some in
    let parts : c.in-Some.first.now ∷ c.in-Some.others.now ≡ some.0 ∷ some.1 ∷ c.in-Some-octet_at_front.subsequent.now = sym c.in-Some.ensures.cases.0 ∙ some.2 in
    let first : c.in-Some.first.now ≡ some.0 = cc in
    let blank = ap is_blank (sym first) ∙ sym c.is_space.ensures ∙ c.if-is_space.false in
    c.loop-first.invariant
    ∙ ap (subsequent c.loop-first.octets.items) (ap decoded_octets some.2 ∙ decodes_octet some.0 some.1 c.in-Some-octet_at_front.octet c.in-Some-octet_at_front.subsequent.now blank some.3)
    ∙ sym (after_octet c.loop-first.octets.items c.in-Some-octet_at_front.octet (decoded_octets c.in-Some-octet_at_front.subsequent.now))
    ∙ ap (λ (xs : List ℕ). subsequent xs (decoded_octets c.in-Some-octet_at_front.subsequent.now)) (sym c.in_ok-push.ensures.items)

pub returns : goal.returns
returns c =
    let none = nil_from_length c.loop-first.rest.now c.in_default.ensures.cases in
    sym (c.loop-first.invariant ∙ ap (subsequent c.loop-first.octets.items) (ap decoded_octets none ∙ decodes_end) ∙ ap Some (append-nil c.loop-first.octets.items))
