use Rattle.std.proofs.Common.{◌≡◌, ◌∙◌, ◌++◌, ◌+◌, [], sym, ap, append-nil, append_assoc, length, arith}
use Rattle.std.proofs.lemmas.Bool.Decides.{nat_tests}
use Rattle.std.proofs.lemmas.List.{nil_from_length}
use Rattle.std.specs.Int.{w32, to_be_bytes}
use Rattle.hsms_frame.specs.Header.{header_octets}
use Rattle.cli_filters.proofs.frames.push_octets.Goals as goal

pub returns-then-is_empty : goal.returns-then-is_empty
returns-then-is_empty c =
    let old = c.args.output.now.items in
    let text = c.args.text.now in
    let front = to_be_bytes w32 (10 + length text) ++ header_octets c.args.header in
    let none : text ≡ [] = nil_from_length text (grind (arith, nat_tests, c.is_empty.ensures, c.if-is_empty.true)) in
    c.in_ok-extend_from_slice.ensures.items ∙ ap (λ o. old ++ o) (c.front_octets.ensures ∙ sym (append-nil front) ∙ ap (λ t. front ++ t) (sym none))

pub returns : goal.returns
returns c =
    let old = c.args.output.now.items in
    let text = c.args.text.now in
    let front = to_be_bytes w32 (10 + length text) ++ header_octets c.args.header in
    c.in_ok-extend_from_slice-2.ensures.items ∙ ap (λ o. o ++ text) (c.in_ok-extend_from_slice.ensures.items ∙ ap (λ o. old ++ o) c.front_octets.ensures) ∙ append_assoc old front text
