use Rattle.std.proofs.Common.{◌≡◌, ◌++◌, List, []}
use Rattle.std.specs.Prelude.{ℕ, Bool}
use Rattle.hsms_compare.specs.Conversation.{Line, entries, sent}
use Rattle.hsms_compare.proofs.line_contradiction.LineContradiction.first_sent.Given as goal

abbrev pub invariant-loop-next : goal.invariant-loop-next
invariant-loop-next g l =
    ((lines : List Line) (more : Bool) → g.R.Entries.left l.fn.reader lines more
    → (left : List Line) × (before : List Line)
    × g.R.Entries.left l.reader left more × (lines ≡ before ++ left) × (sent (entries before) ≡ []))
    × ((text : List ℕ) → g.R.Entries.reads l.fn.reader text → g.R.Entries.reads l.reader text)

abbrev pub decreases-loop-next : goal.decreases-loop-next
decreases-loop-next g l = g.R.Entries.most l.reader
