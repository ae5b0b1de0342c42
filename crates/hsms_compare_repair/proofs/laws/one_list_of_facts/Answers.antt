use Rattle.hsms_compare_repair.proofs.OneFinding.{one_list_of_facts}
use Rattle.hsms_compare_repair.proofs.laws.one_list_of_facts.Goals as goal

pub returns : goal.returns
returns c = one_list_of_facts
