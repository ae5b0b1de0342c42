use Rattle.std.proofs.Common.{◌≡◌, sym, ◌∙◌, ap, true, rules, subst, List, ℕ}
use Rattle.hsms_log.specs.InnerReading.{number_of, is_decimal}
use Rattle.hsms_log.proofs.Numbers.{parsed, text_is, text_found}
use Rattle.hsms_log.proofs.number.number.Goals as goal

pub returns : goal.returns
returns c =
    let same = text_is _ _ c.args.word.now c.from_utf8.result c.in_ok-ok.field-0 c.from_utf8.ensures.cases (λ s h. h.0) (sym c.ok.ensures.value ∙ c.in_ok-ok.was) in
    let whole : is_decimal c.args.word.now ≡ true = search rules in
    let P : List ℕ → Type 0 = λ w. is_decimal w ≡ true in
    c.ok-2.ensures.value ∙ parsed c.in_ok-ok.field-0.now c.parse.result c.parse.ensures.value.0 (subst P (sym same) whole) ∙ ap number_of same

pub returns-in_err-ok : goal.returns-in_err-ok
returns-in_err-ok c =
    let whole : is_decimal c.args.word.now ≡ true = search rules in
    absurd (text_found _ _ c.args.word.now c.from_utf8.result c.from_utf8.ensures.cases (λ e h. h.0) whole (sym c.ok.ensures.value ∙ c.in_err-ok.was))
