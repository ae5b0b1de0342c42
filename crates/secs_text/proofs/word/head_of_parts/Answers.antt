use Rattle.std.proofs.Common.{◌∙◌, inl, inr, refl, rules, sym}
use Rattle.secs_text.specs.Words.{number_below}
use Rattle.secs_text.proofs.HeadWords.{right_head, wrong_head_is}
use Rattle.secs_text.proofs.word.head_of_parts.Goals as goal

pub returns-clause-value : goal.returns-clause-value
unfolding number_below
returns-clause-value c = right_head c.args.stream.now c.args.rest.now _ _ (search rules) (search rules) (search rules) (search rules)

pub returns-in_default-filter-clause-value : goal.returns-in_default-filter-clause-value
unfolding number_below
returns-in_default-filter-clause-value c =
    wrong_head_is c.args.stream.now c.args.rest.now _ _ (search rules) c.in-70.len_at_least refl (inl (search rules)) c.wrong_head.ensures.value

pub returns-in_default-number_at_most-clause-value : goal.returns-in_default-number_at_most-clause-value
returns-in_default-number_at_most-clause-value c =
    wrong_head_is c.args.stream.now c.args.rest.now _ _ (search rules) c.in-70.len_at_least refl (inr (sym c.number_at_most.ensures.value ∙ c.in_default-number_at_most.is)) c.wrong_head-in_default-number_at_most.ensures.value
