use Rattle.secs_text.proofs.Results.{messages_or_fault, all_not_both, one_fault_of_all}
use Rattle.secs_text.proofs.laws.one_answer_of_all.Goals as goal

pub returns : goal.returns
returns c = record { some = messages_or_fault; not_both = all_not_both; one_fault = one_fault_of_all }
