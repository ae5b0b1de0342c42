-- A range of 32-bit numbers, as `clap` narrows it.
use Rattle.std.proofs.Common.{◌≡◌, ◌≤◌, ℕ, ℤ, Some, subst, ◌∙◌, pos, arith}
use Rattle.std.specs.Int.{int_max, int_min}
use Rattle.std.proofs.lemmas.Bool.Decides.{nat_tests}
use Rattle.clap.specs.Words.{NarrowsTo, signed_between}
use Rattle.clap.specs.declared.builder.value_parser.ValueParser.{ValueParser}
use Rattle.clap.specs.declared.builder.value_parser.ValueParser.TheVariants.{Signed}

between : (least greatest : ℕ) → least ≤ 4294967295 → greatest ≤ 4294967295
    → signed_between (int_max (pos 0) (pos least)) (int_min (pos 4294967295) (pos greatest)) ≡ Signed (pos least) (pos greatest)
between least greatest l g = grind (arith, nat_tests, l, g)

pub narrowed : (parser narrow : ValueParser) (first last : ℤ) (least greatest : ℕ) → least ≤ 4294967295 → greatest ≤ 4294967295
    → parser ≡ Signed (pos 0) (pos 4294967295) → first ≡ pos least → last ≡ pos greatest
    → NarrowsTo parser (Some first) (Some last) narrow → narrow ≡ Signed (pos least) (pos greatest)
narrowed parser narrow first last least greatest l g is_parser is_first is_last narrows =
    subst (λ p. NarrowsTo p (Some (pos least)) (Some (pos greatest)) narrow) is_parser
    (subst (λ z. NarrowsTo parser (Some (pos least)) (Some z) narrow) is_last (subst (λ z. NarrowsTo parser (Some z) (Some last) narrow) is_first narrows))
    ∙ between least greatest l g
