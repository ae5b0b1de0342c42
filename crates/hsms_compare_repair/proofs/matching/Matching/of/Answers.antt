use Rattle.std.proofs.Common.{arith}
use Rattle.hsms_compare_repair.proofs.Progress.{ends_there, gives_up}
use Rattle.hsms_compare_repair.proofs.matching.Matching.of.Goals as goal

pub returns-then-unknown-ge-GIVEN_UP : goal.returns-then-unknown-ge-GIVEN_UP
returns-then-unknown-ge-GIVEN_UP c =
    let l = c.loop-message in
    gives_up c.args.sent.now c.args.received.now c.args.is_open l.findings.items l.skipped.items l.unknown l.message-index l.invariant (omega arith) (omega arith)

pub returns : goal.returns
returns c =
    let l = c.loop-message in
    ends_there c.args.sent.now c.args.received.now c.args.is_open l.findings.items l.skipped.items l.unknown l.message-index l.invariant (omega arith)
