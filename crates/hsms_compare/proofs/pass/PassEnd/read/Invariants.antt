use Rattle.std.proofs.Common.{◌+◌, length, List}
use Rattle.std.specs.Prelude.{ℕ, Bool}
use Rattle.hsms_compare.specs.Conversation.{Line}
use Rattle.hsms_compare.specs.Readings.{pending}
use Rattle.hsms_compare.proofs.LinesRead.{HasRead}
use Rattle.hsms_compare.proofs.pass.PassEnd.read.Given as goal

abbrev pub invariant-loop-equipment_next : goal.invariant-loop-equipment_next
invariant-loop-equipment_next g l =
    ((h e : List Line) (host_more equipment_more : Bool)
    → g.H.Entries.left l.fn.host h host_more → g.E.Entries.left l.fn.equipment e equipment_more
    → (h_left : List Line) × (e_left : List Line)
    × g.H.Entries.left l.host h_left host_more × g.E.Entries.left l.equipment e_left equipment_more
    × HasRead h e l.merge l.host_next l.equipment_next h_left e_left)
    × ((text : List ℕ) → g.H.Entries.reads l.fn.host text → g.H.Entries.reads l.host text)
    × ((text : List ℕ) → g.E.Entries.reads l.fn.equipment text → g.E.Entries.reads l.equipment text)

abbrev pub decreases-loop-equipment_next : goal.decreases-loop-equipment_next
decreases-loop-equipment_next g l =
    (length (pending l.host_next) + g.H.Entries.most l.host) + (length (pending l.equipment_next) + g.E.Entries.most l.equipment)
