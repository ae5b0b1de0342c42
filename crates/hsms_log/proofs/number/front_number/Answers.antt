use Rattle.std.proofs.Common.{◌∙◌, take, ap, arith, sym}
use Rattle.std.specs.List.{list_all}
use Rattle.std.specs.Char.{is_ascii_digit}
use Rattle.std.specs.Str.Parse.{digits_value}
use Rattle.std.proofs.lemmas.List.{take-take}
use Rattle.hsms_log.proofs.number.front_number.Goals as goal

pub returns-in-Some : goal.returns-in-Some
returns-in-Some c =
    let known = c.number_of_few.ensures in
    let same = ap (take c.number_of_few.result.1) c.in-Some.ensures.cases.same ∙ take-take c.number_of_few.result.1 19 c.args.text.now known.few in
    record {
      few = known.few;
      within = omega (arith, known.few, c.in-Some.ensures.cases.enough);
      digits = ap (list_all is_ascii_digit) (sym same) ∙ known.digits;
      value = known.value ∙ ap (digits_value 10) same;
    }
