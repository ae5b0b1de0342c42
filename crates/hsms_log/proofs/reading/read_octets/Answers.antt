use Rattle.std.proofs.Common.{◌≡◌, ◌≤◌, ◌/◌, ◌++◌, ℕ, List, length, take, drop, refl, sym, subst, ◌∙◌, arith, rules}
use Rattle.std.proofs.lemmas.List.{take-take}
use Rattle.hsms_log.specs.LineFormat.{IsHexOf}
use Rattle.hsms_log.proofs.HexLaws.{message_found}
use Rattle.hsms_log.proofs.FrameLines.{message_size, written_all}
use Rattle.hsms_log.proofs.reading.read_octets.Goals as goal

pub returns-then-digits-lt20-clause-none : goal.returns-then-digits-lt20-clause-none
returns-then-digits-lt20-clause-none c = λ e frame encoded_bytes. let size = message_size c.args.digits.now frame encoded_bytes in omega (arith, size)

pub returns-clause-found : goal.returns-clause-found
returns-clause-found c =
    let n = length c.args.digits.now / 2 in
    let octets : List ℕ = c.decode_front.new.octets in
    let one : length octets ≡ c.lengthen.new.octets.len = search rules in
    let two : length c.lengthen.new.octets.items ≡ c.lengthen.new.octets.len = search rules in
    let whole = written_all octets c.lengthen.new.octets.items c.lengthen.new.octets.len one two in
    let all : List ℕ = take c.lengthen.new.octets.len (octets ++ drop (length octets) c.lengthen.new.octets.items) in
    let parts = rw c.deref.ensures.value at c.in-Some.ensures.cases in
    let P : List ℕ → Type 0 = λ l. IsHexOf c.args.digits.now (take n l) in
    let encoded_bytes = subst P (sym whole) (c.decode_front.ensures.digits c.if-not-decode_front.false) in
    let ten : 10 ≤ n = omega arith in
    message_found c.args.digits.now (take n all) c.in-Some.header.now (drop 10 (take n all)) c.of.result encoded_bytes (parts.0 ∙ sym (take-take 10 n all ten)) refl c.of.ensures.fits c.of.ensures.encoded_bytes
