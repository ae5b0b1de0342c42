use Rattle.hsms_endpoint.proofs.ExpiryOrder.{all_expiries_are_logged_before_any_s9f9}
use Rattle.hsms_endpoint.proofs.laws.all_expiries_are_logged_before_any_s9f9.Goals as goal

pub returns : goal.returns
returns c = λ desk end now entries end' h. all_expiries_are_logged_before_any_s9f9 desk end now entries end' h
