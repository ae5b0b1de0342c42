use Rattle.secs_item.proofs.Texts.{some_text_answer, not_both_of_text}
use Rattle.hsms_machine.proofs.Decided.{some_answer}
use Rattle.hsms_machine.proofs.ValidEntries.{one_first}
use Rattle.hsms_machine.proofs.laws.each_entry_has_one_answer.Goals as goal

pub returns-clause-some : goal.returns-clause-some
returns-clause-some c = some_answer some_text_answer not_both_of_text

pub returns-clause-one : goal.returns-clause-one
returns-clause-one c = one_first
