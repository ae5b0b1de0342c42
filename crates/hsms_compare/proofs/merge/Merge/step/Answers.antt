use Rattle.std.proofs.Common.{ap}
use Rattle.hsms_compare.specs.Conversation.{sent_by, received_by}
use Rattle.hsms_compare.proofs.Merges.{receives}
use Rattle.hsms_compare.proofs.merge.Merge.step.Goals as goal

pub returns-in-Taken-clause-follows : goal.returns-in-Taken-clause-follows
returns-in-Taken-clause-follows c =
    receives c.args.coming.now c.args.outbound.now (record { position = c.args.position; entry = c.args.entry.now }) _ c.receive.result c.receive.new.self
    (ap received_by c.in-Taken.is) (ap sent_by c.in-Taken.is) c.receive.ensures

pub returns-in-Discarded-clause-follows : goal.returns-in-Discarded-clause-follows
returns-in-Discarded-clause-follows c =
    receives c.args.coming.now c.args.outbound.now (record { position = c.args.position; entry = c.args.entry.now }) _ c.receive-in-Discarded.result c.receive-in-Discarded.new.self
    (ap received_by c.in-Discarded.is) (ap sent_by c.in-Discarded.is) c.receive-in-Discarded.ensures
