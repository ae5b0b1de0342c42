use Rattle.secs_text.proofs.Results.{message_or_fault, not_both, one_fault}
use Rattle.secs_text.proofs.laws.one_answer.Goals as goal

pub returns : goal.returns
returns c = record { some = message_or_fault; not_both = not_both; one_fault = one_fault }
