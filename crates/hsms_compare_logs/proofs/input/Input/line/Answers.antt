use Rattle.std.proofs.Common.{◌++◌}
use Rattle.hsms_compare_logs.proofs.Inputs.{last_text}
use Rattle.hsms_compare_logs.proofs.input.Input.line.Goals as goal

pub returns-then-not-branch-clause-line : goal.returns-then-not-branch-clause-line
returns-then-not-branch-clause-line g c octets known =
    let i = c.loop-held.invariant.0 octets known in
    let moved = rw c.if-branch.false at c.in_ok-take_line.ensures in
    let ended = c.in_ok-pull.ensures.end c.if-not-branch.true i.0 i.1 in
    let pulled = c.in_ok-pull.ensures.block i.0 i.1 in
    let last = last_text (c.args.self.now.block.items ++ octets) c.loop-held.held.items c.loop-held.self.block.items c.take_line.new.held.items i.0 i.2 moved.1 ended
    c.loop-held.invariant.3 moved.2 in
    (pulled.0, pulled.1, last)
