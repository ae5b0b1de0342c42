use Rattle.std.proofs.Common.{◌∙◌, ap}
use Rattle.explain_session.specs.InnerRepairSteps.{entries_of}
use Rattle.explain_session.proofs.RepairRows.{steps_push}
use Rattle.explain_session.proofs.repair_entry.put.Goals as goal

pub returns : goal.returns
returns c = λ text. ap (entries_of text) c.in_ok-push.ensures.items ∙ steps_push text c.args.pending.now.items c.args.step
