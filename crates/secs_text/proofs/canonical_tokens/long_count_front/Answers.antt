use Rattle.std.proofs.Common.{◌∙◌, ◌^◌, ap, rules, sym}
use Rattle.secs_text.specs.Words.{number_below}
use Rattle.secs_text.proofs.CanonicalTokenLists.{counted}
use Rattle.secs_text.proofs.Numbers.{digits_front}
use Rattle.secs_text.proofs.canonical_tokens.long_count_front.Goals as goal

pub number_of_digits-requires-clause-all : goal.number_of_digits-requires-clause-all
number_of_digits-requires-clause-all c =
    digits_front c.args.octets.now c.split_at.result.0.now c.leading_number-size.result.0 c.leading_number-size.ensures.length c.split_at.ensures.front

pub returns-clause-counts : goal.returns-clause-counts
returns-clause-counts c =
    let value = ap (λ o. number_below (2 ^ 64) o) (sym c.split_at.ensures.front) ∙ sym c.number_of_digits.ensures ∙ c.in_ok-number.was in
    counted c.in_ok-number.number c.leading_number-size.result.0 c.args.octets.now value (search rules) (search rules)
