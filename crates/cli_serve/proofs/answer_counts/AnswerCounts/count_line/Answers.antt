use Rattle.std.proofs.Common.{inr, refl}
use Rattle.cli_serve.proofs.answer_counts.AnswerCounts.count_line.Goals as goal

pub returns-in_default : goal.returns-in_default
returns-in_default c = let none = rw c.in_default.is at c.in_ok-step.ensures.none in inr (none refl, refl)
