use Rattle.std.proofs.Common.{◌+◌, length, List, ℕ}
use Rattle.hsms_compare.specs.Readings.{pending}
use Rattle.hsms_compare_logs.specs.Audited.{ReadsText}
use Rattle.hsms_compare_logs.specs.Entries.{most_left}
use Rattle.hsms_compare_logs.specs.Connection.{ReadsConnection}
use Rattle.hsms_compare_logs.proofs.log_entries.LogEntries.drain.Given as goal

abbrev pub invariant-loop-next : goal.invariant-loop-next
invariant-loop-next g l =
    ((text : List ℕ) → ReadsText text l.fn.self.reader.input.audit (g.R.Source.state l.fn.self.reader.input.source).left
    → ReadsText text l.self.reader.input.audit (g.R.Source.state l.self.reader.input.source).left)
    × ((text : List ℕ)
    → ReadsConnection text l.fn.self.reader.input.block.items (g.R.Source.state l.fn.self.reader.input.source).left l.fn.self.reader.max
    l.fn.self.reader.lines l.fn.self.reader.is_ended l.fn.self.next l.fn.self.is_down l.fn.self.is_followed l.fn.self.up l.fn.self.kept
    → ReadsConnection text l.self.reader.input.block.items (g.R.Source.state l.self.reader.input.source).left l.self.reader.max
    l.self.reader.lines l.self.reader.is_ended l.self.next l.self.is_down l.self.is_followed l.self.up l.self.kept)

abbrev pub decreases-loop-next : goal.decreases-loop-next
decreases-loop-next g l = length (pending l.self.next) + most_left l.self.reader.input.block.items l.self.reader.input.audit l.self.reader.is_ended
