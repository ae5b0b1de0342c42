use Rattle.std.proofs.Common.{◌≤◌, List, ℕ}
use Rattle.hsms_compare.specs.Conversation.{Line}
use Rattle.hsms_compare_logs.specs.Audited.{ReadsText}
use Rattle.hsms_compare_logs.specs.Entries.{AreLeft, most_left}
use Rattle.hsms_compare_logs.proofs.entry_reader.EntryReader.next.Given as goal

abbrev pub invariant-loop-self : goal.invariant-loop-self
invariant-loop-self g l =
    ((found : List Line)
    → AreLeft l.fn.self.input.block.items (g.R.Source.state l.fn.self.input.source).left l.fn.self.max l.fn.self.lines l.fn.self.is_ended found
    → AreLeft l.self.input.block.items (g.R.Source.state l.self.input.source).left l.self.max l.self.lines l.self.is_ended found)
    × ((text : List ℕ) → ReadsText text l.fn.self.input.audit (g.R.Source.state l.fn.self.input.source).left
    → ReadsText text l.self.input.audit (g.R.Source.state l.self.input.source).left)
    × (most_left l.self.input.block.items l.self.input.audit l.self.is_ended ≤ most_left l.fn.self.input.block.items l.fn.self.input.audit l.fn.self.is_ended)

abbrev pub decreases-loop-self : goal.decreases-loop-self
decreases-loop-self g l = most_left l.self.input.block.items l.self.input.audit l.self.is_ended
