use Rattle.hsms_endpoint.proofs.Outcomes.{turn_has_one_outcome, drive_has_one_outcome}
use Rattle.hsms_endpoint.proofs.laws.each_turn_has_one_outcome.Goals as goal

pub returns-clause-turn : goal.returns-clause-turn
returns-clause-turn c = turn_has_one_outcome c.one_answer_to_pending.ensures.one c.one_answer_of_text.ensures.one_text

pub returns-clause-drive : goal.returns-clause-drive
returns-clause-drive c = drive_has_one_outcome c.one_answer_to_pending.ensures.one c.one_answer_of_text.ensures.one_text
