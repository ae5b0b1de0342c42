use Rattle.secs_item.proofs.Texts.{some_text_answer, not_both_of_text}
use Rattle.hsms_machine.proofs.RepairedLogs.{each_repaired, repaired_alone}
use Rattle.hsms_machine.proofs.laws.each_log_is_repaired.Goals as goal

pub returns-clause-some : goal.returns-clause-some
returns-clause-some c = each_repaired some_text_answer not_both_of_text

pub returns-clause-one : goal.returns-clause-one
returns-clause-one c = repaired_alone
