use Rattle.std.proofs.Common.{◌≡◌, ◌≤◌, ◌+◌, ◌*◌}
use Rattle.hsms_log.specs.Auditing.{RisesBy}
use Rattle.hsms_log.specs.InnerAuditing.{HasRead}
use Rattle.hsms_log.proofs.auditing.audit_within.Given as goal

-- The reader is in its state after what was read, and each read was counted.
abbrev pub invariant-loop : goal.invariant-loop
invariant-loop g l =
    let old = g.R.Source.state l.initial.source in
    let now = g.R.Source.state l.source in
    HasRead old.left l.reader now.left
    × (l.reader.line_checker.tally.lines ≤ 4096 * l.counter)
    × RisesBy old.pulls now.pulls l.counter
    × (now.pulls ≤ old.pulls + l.counter)
    × (now.ends ≡ old.ends)
    × (now.empty_pulls ≡ old.empty_pulls)
    × (now.failures ≡ old.failures)
