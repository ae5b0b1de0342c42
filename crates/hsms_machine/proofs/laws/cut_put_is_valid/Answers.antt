use Rattle.secs_item.proofs.Texts.{some_text_answer, not_both_of_text}
use Rattle.hsms_machine.proofs.RepairedLogs.{cut_put}
use Rattle.hsms_machine.proofs.laws.cut_put_is_valid.Goals as goal

pub returns : goal.returns
returns c = cut_put some_text_answer not_both_of_text
