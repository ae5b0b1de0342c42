use Rattle.std.proofs.Common.{◌≡◌, List, ℕ}
use Rattle.hsms_compare.specs.Conversation.{Line}
use Rattle.hsms_compare_logs.specs.Audited.{ReadsText}
use Rattle.hsms_compare_logs.specs.LogEntries.{after_up, up_line}
use Rattle.hsms_compare_logs.specs.Entries.{AreLeft, most_left}
use Rattle.hsms_compare_logs.proofs.entry_reader.EntryReader.skip_to_up.Given as goal

abbrev pub invariant-loop-next : goal.invariant-loop-next
invariant-loop-next g l =
    ((found : List Line)
    → AreLeft l.fn.self.input.block.items (g.R.Source.state l.fn.self.input.source).left l.fn.self.max l.fn.self.lines l.fn.self.is_ended found
    → (later : List Line)
    × AreLeft l.self.input.block.items (g.R.Source.state l.self.input.source).left l.self.max l.self.lines l.self.is_ended later
    × (after_up found ≡ after_up later) × (up_line found ≡ up_line later))
    × ((text : List ℕ) → ReadsText text l.fn.self.input.audit (g.R.Source.state l.fn.self.input.source).left
    → ReadsText text l.self.input.audit (g.R.Source.state l.self.input.source).left)

abbrev pub decreases-loop-next : goal.decreases-loop-next
decreases-loop-next g l = most_left l.self.input.block.items l.self.input.audit l.self.is_ended
