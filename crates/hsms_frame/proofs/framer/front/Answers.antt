use Rattle.std.proofs.Common.{◌≡◌, ◌<◌, ◌+◌, ◌∙◌, length, sym, ap, arith}
use Rattle.std.specs.Int.{w32, from_be_bytes}
use Rattle.hsms_frame.specs.Frame.{length_field}
use Rattle.hsms_frame.proofs.Prefixes.{cut_in_field, cut_after_field}
use Rattle.hsms_frame.proofs.framer.front.Goals as goal

pub returns-in_default : goal.returns-in_default
returns-in_default c = cut_in_field c.args.max c.args.octets.now (λ i. omega (arith, c.type_inv.octets i)) c.in_default.ensures.cases

pub returns-in_default-split_first_chunk : goal.returns-in_default-split_first_chunk
returns-in_default-split_first_chunk c =
    let a = c.in-Some.ensures.cases in
    let field : length_field c.args.octets.now ≡ c.from_be_bytes-length.result = sym (c.from_be_bytes-length.ensures ∙ ap (λ xs. from_be_bytes w32 xs) a.0) in
    let short : length c.in-Some.subsequent.now < 10 = c.in_default-split_first_chunk.ensures.cases in
    let size : length c.in-Some.subsequent.now + 4 ≡ length c.args.octets.now = a.2 in
    cut_after_field c.args.max c.args.octets.now (λ i. omega (arith, c.type_inv.octets i)) (omega arith) (omega arith)
    (λ full. absurd (omega arith)) (omega arith)

pub returns-then-text-size : goal.returns-then-text-size
returns-then-text-size c =
    let a = c.in-Some.ensures.cases in
    let b = c.in-Some-split_first_chunk.ensures.cases in
    let field : length_field c.args.octets.now ≡ c.from_be_bytes-length.result = sym (c.from_be_bytes-length.ensures ∙ ap (λ xs. from_be_bytes w32 xs) a.0) in
    let size : length c.in-Some.subsequent.now + 4 ≡ length c.args.octets.now = a.2 in
    let rest : length c.in-Some-split_first_chunk.text.now + 10 ≡ length c.in-Some.subsequent.now = b.2 in
    cut_after_field c.args.max c.args.octets.now (λ i. omega (arith, c.type_inv.octets i)) (omega arith) (omega arith) (λ _. omega arith) (omega arith)
