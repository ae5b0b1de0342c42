use Rattle.std.proofs.Common.{◌≡◌, ◌+◌, refl, rules}
use Rattle.explain_lines.specs.Counted.{counted}
use Rattle.explain_statistics.proofs.Grouping.{joins}
use Rattle.explain_statistics.proofs.grouped_annotations.joined.Goals as goal

pub returns-then-are_same_group : goal.returns-then-are_same_group
returns-then-are_same_group c =
    let failure_group = c.in-FailsInGroup.failure_group in
    let other = c.in-FailsInGroup-note.other in
    let same = c.are_same_group.ensures c.if-are_same_group.true in
    let times : c.saturating_add-times.result ≡ counted (failure_group.times + other.times) = search rules in
    joins c.args.last c.args.note failure_group other (record failure_group { times = c.saturating_add-times.result }) c.in-FailsInGroup.is c.in-FailsInGroup-note.is
    same.0 same.1 same.2 same.3 refl refl times
