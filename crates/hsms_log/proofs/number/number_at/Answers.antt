use Rattle.std.proofs.Common.{◌≡◌, ◌<◌, ℕ, List, length, get_or, Some, ap, ◌∙◌, arith, rules}
use Rattle.std.specs.Prelude.{Option}
use Rattle.hsms_log.proofs.Numbers.{number_here}
use Rattle.hsms_log.proofs.number.number_at.Goals as goal

pub returns : goal.returns
returns c =
    let text = c.args.text.now in
    let number = c.front_number-number.result.0 in
    let count = c.front_number-number.result.1 in
    let known = c.front_number-number.ensures in
    let within : count < length text = omega (arith, known.within) in
    let some : 0 < count = omega arith in
    let space : get_or text count 0 ≡ 32 = search rules in
    let zero : get_or text 0 0 ≡ 48 → count ≡ 1 = search rules in
    let P : List ℕ → Option (ℕ × List ℕ) = λ l. Some (number, l) in
    ap P c.split_at.ensures.back
    ∙ number_here text count number within known.few some space zero known.digits known.value
