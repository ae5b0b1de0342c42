use Rattle.hsms_machine.proofs.Expiring.{expiry_put}
use Rattle.hsms_machine.proofs.laws.expiry_put_is_valid.Goals as goal

pub returns : goal.returns
returns c = expiry_put
