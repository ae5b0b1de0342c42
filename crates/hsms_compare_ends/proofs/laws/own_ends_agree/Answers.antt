use Rattle.hsms_compare_ends.proofs.OwnEnds.{own_ends_agree}
use Rattle.hsms_compare_ends.proofs.laws.own_ends_agree.Goals as goal

pub returns : goal.returns
returns c = own_ends_agree
