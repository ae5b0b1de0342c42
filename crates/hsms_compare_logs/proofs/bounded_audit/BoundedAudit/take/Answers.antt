use Rattle.std.proofs.Common.{◌≡◌, ◌≤◌, ◌-◌, length, Some, rules, arith}
use Rattle.hsms_compare_logs.proofs.Inputs.{at_most_of}
use Rattle.hsms_compare_logs.proofs.bounded_audit.BoundedAudit.take.Goals as goal

pub invariant_of-self-2 : goal.invariant_of-self-2
invariant_of-self-2 c =
    let held : c.self.inside.auditor ≡ Some c.in-Some.auditor = search rules in
    let small : length c.args.octets.now ≤ 4611686018427387904 - c.self.inside.taken = search rules in
    let bound = c.self.invariant.1 in (
      c.in_ok-next.ensures.lines c.self.inside.taken (at_most_of c.self.inside.auditor c.in-Some.auditor c.self.inside.taken held c.self.invariant.0),
      omega arith,
    )
