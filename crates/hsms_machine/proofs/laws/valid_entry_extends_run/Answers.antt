use Rattle.hsms_machine.proofs.ValidEntries.{extends}
use Rattle.hsms_machine.proofs.laws.valid_entry_extends_run.Goals as goal

pub returns : goal.returns
returns c = extends
