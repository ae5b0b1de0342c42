use Rattle.hsms_endpoint.proofs.ExpiryOrder.{an_overdue_link_timer_leaves_s9f9_out}
use Rattle.hsms_endpoint.proofs.laws.overdue_link_timer_leaves_s9f9_out.Goals as goal

pub returns : goal.returns
returns c = λ desk end now entries end' cause e h. an_overdue_link_timer_leaves_s9f9_out desk end now entries end' h cause e
