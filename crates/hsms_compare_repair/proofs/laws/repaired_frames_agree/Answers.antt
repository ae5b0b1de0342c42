use Rattle.hsms_compare_repair.proofs.Keeps.{kept}
use Rattle.hsms_compare_repair.proofs.Repairs.{repaired_prefix}
use Rattle.hsms_compare_repair.proofs.laws.repaired_frames_agree.Goals as goal

pub returns-clause-agree : goal.returns-clause-agree
returns-clause-agree c = repaired_prefix

pub returns-clause-keeps : goal.returns-clause-keeps
returns-clause-keeps c = kept
