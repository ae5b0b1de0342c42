use Rattle.explain_statistics.proofs.failure_groups.Groups.count.Goals as goal

pub returns-in_ok-insert-in-Some-clause-shown_line : goal.returns-in_ok-insert-in-Some-clause-shown_line
returns-in_ok-insert-in-Some-clause-shown_line c = λ faults has. c.like.ensures _ _ (c.in-Some.ensures.grown faults has)
