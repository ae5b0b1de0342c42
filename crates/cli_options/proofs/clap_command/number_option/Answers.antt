use Rattle.std.proofs.Common.{◌≡◌, ◌≤◌, ℕ, ℤ, ap, ap₂, ◌∙◌, Some, pos, of_z, to_z, w64, arith}
use Rattle.std.proofs.lemmas.Int.{to_z_pos}
use Rattle.std.specs.Prelude.{Option}
use Rattle.clap.specs.Words.{Rule, rule_of}
use Rattle.clap.specs.declared.builder.value_parser.ValueParser.{ValueParser}
use Rattle.cli_options.proofs.clap_command.number_option.Goals as goal
use Rattle.cli_options.proofs.Ranges.{narrowed}

pub returns-clause-rule : goal.returns-clause-rule
returns-clause-rule c =
    let read : (z : ℤ) (n : ℕ) → n ≤ 4294967295 → z ≡ pos n → to_z w64 (of_z w64 z) ≡ pos n =
    λ z n most is. ap (λ i. to_z w64 (of_z w64 i)) is ∙ to_z_pos w64 n (omega (arith, most)) in
    let least : c.args.number.1 ≤ 4294967295 = omega arith in
    let greatest : c.args.number.2 ≤ 4294967295 = omega arith in
    let parser = narrowed c.value_parser.result c.range.result _ _ c.args.number.1 c.args.number.2 least greatest c.value_parser.ensures
    (c.new.ensures.start ∙ read _ c.args.number.1 least c.from.ensures) (c.new.ensures.end ∙ read _ c.args.number.2 greatest c.from-2.ensures)
    c.range.ensures in
    let given = c.value_parser-2.ensures.given in
    ap rule_of c.value_parser-2.ensures.others
    ∙ ap₂ {A = Rule} {B = Option ValueParser} (λ w v. record w { parser = v }) c.word_option.ensures.rule (given.1 ∙ ap Some (given.2 ∙ parser))
