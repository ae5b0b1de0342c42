use Rattle.secs_item.proofs.Texts.{some_text_answer, one_text, one_text_fault, not_both_of_text}
use Rattle.secs_item.proofs.laws.one_answer_of_text.Goals as goal

pub returns-clause-some : goal.returns-clause-some
returns-clause-some c = some_text_answer

pub returns-clause-one_text : goal.returns-clause-one_text
returns-clause-one_text c = one_text

pub returns-clause-one_fault : goal.returns-clause-one_fault
returns-clause-one_fault c = one_text_fault

pub returns-clause-not_both : goal.returns-clause-not_both
returns-clause-not_both c = not_both_of_text
