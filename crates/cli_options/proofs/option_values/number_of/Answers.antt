use Rattle.std.proofs.Common.{◌<◌, ◌^◌, ◌∙◌, sym, ap, Ok, arith}
use Rattle.std.specs.Str.Parse.{ExplainsUnsignedError, HasUnsignedDigitsIfOk, ParsesUnsigned}
use Rattle.clap.specs.Words.{found_of}
use Rattle.cli_options.specs.InnerOptionValues.{described_number}
use Rattle.cli_options.proofs.RequestedOptions.{made_of, number_read}
use Rattle.cli_options.proofs.option_values.number_of.Goals as goal

pub returns-in-Ok-Some-clause-value : goal.returns-in-Ok-Some-clause-value
returns-in-Ok-Some-clause-value c =
    let n = described_number c.args.number in
    let few : c.args.number.2 < 2 ^ 32 = omega arith in
    let read = number_read (λ t r. ParsesUnsigned 32 10 t r × ExplainsUnsignedError 10 t r × HasUnsignedDigitsIfOk t r) n (found_of c.args.options.now)
    c.try_get_one.result (λ t r g. g.0) few c.try_get_one.ensures.none c.try_get_one.ensures.value in
    c.within.ensures ∙ sym (ap (made_of n) (c.in-Ok-Some.is ∙ ap Ok c.in-Ok-Some.field-0-is)) ∙ read

pub returns-in-Ok-None-clause-value : goal.returns-in-Ok-None-clause-value
returns-in-Ok-None-clause-value c =
    let n = described_number c.args.number in
    let few : c.args.number.2 < 2 ^ 32 = omega arith in
    let read = number_read (λ t r. ParsesUnsigned 32 10 t r × ExplainsUnsignedError 10 t r × HasUnsignedDigitsIfOk t r) n (found_of c.args.options.now)
    c.try_get_one.result (λ t r g. g.0) few c.try_get_one.ensures.none c.try_get_one.ensures.value in
    sym (ap (made_of n) (c.in-Ok-None.is ∙ ap Ok c.in-Ok-None.field-0-is)) ∙ read

pub returns-in-Err-clause-value : goal.returns-in-Err-clause-value
returns-in-Err-clause-value c =
    let n = described_number c.args.number in
    let few : c.args.number.2 < 2 ^ 32 = omega arith in
    let read = number_read (λ t r. ParsesUnsigned 32 10 t r × ExplainsUnsignedError 10 t r × HasUnsignedDigitsIfOk t r) n (found_of c.args.options.now)
    c.try_get_one.result (λ t r g. g.0) few c.try_get_one.ensures.none c.try_get_one.ensures.value in
    sym (ap (made_of n) c.in-Err.is) ∙ read
