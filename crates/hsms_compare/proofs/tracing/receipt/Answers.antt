use Rattle.std.proofs.Common.{◌<◌, length, sym, subst, arith}
use Rattle.hsms_machine.specs.declared.entry.Entry.{Entry}
use Rattle.hsms_compare.specs.Conversation.{received_by}
use Rattle.hsms_compare.proofs.Outcomes.{receipt_at}
use Rattle.hsms_compare.proofs.tracing.receipt.Goals as goal

pub returns-then-count-number : goal.returns-then-count-number
returns-then-count-number c =
    let P : Entry → Type 0 = λ y. 0 < length (received_by y.event) in
    receipt_at c.args.log.now c.loop-i.i c.index-log-i.result c.args.number (omega arith) c.index-log-i.is
    (subst P (sym c.index-log-i.is) (c.is_received.ensures.0 c.if-is_received.true)) (omega arith)
