use Rattle.cli_show.proofs.Runs.{one_more}
use Rattle.cli_show.proofs.showing.is_at_end.Goals as goal

pub returns-in-None-clause-answer : goal.returns-in-None-clause-answer
returns-in-None-clause-answer g c = λ rest known_input. rw c.in-None.is at (c.in_ok-next_message.ensures.message rest known_input)

pub returns-in-Some-clause-answer : goal.returns-in-Some-clause-answer
returns-in-Some-clause-answer g c = λ rest known_input.
    one_more _ _ _ _ _ (rw c.in-Some.is at (c.in_ok-next_message.ensures.message rest known_input)) (rw c.in-Some.is at c.in_ok-next_message.ensures.whole)
