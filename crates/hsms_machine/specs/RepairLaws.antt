-- Laws of repairs: the entries that a repair inserts are valid, and each log can be repaired (this project's profile).
use Rattle.std.specs.Prelude.{◌≡◌, ◌≤◌, ◌+◌, ◌*◌, ℕ, suc, List, [], ◌∷◌, Some, None}
use Rattle.hsms_machine.specs.declared.entry.Entry.{Entry}
use Rattle.hsms_machine.specs.declared.rule.Rule.TheVariants.{T3Overdue, LinkOverdue}
use Rattle.hsms_machine.specs.Laws.{HasOctets}
use Rattle.hsms_machine.specs.Settings.{Parameters}
use Rattle.hsms_machine.specs.View.{view_of, waiting_of}
use Rattle.hsms_machine.specs.Run.{Broken, IsRun}
use Rattle.hsms_machine.specs.Repair.{First, Steps, Passed, LeftOut, Changed, Preceded, RepairedBy, IsRepaired, change_by, repair_of}

-- An expiry that is inserted before an entry breaks no rule there.
abbrev pub ExpiryPutIsValid : Type 0
ExpiryPutIsValid =
    (settings : Parameters) (log : List Entry) (entry first : Entry) → IsRun settings log → Broken settings log entry (Some T3Overdue)
    → change_by (repair_of (view_of settings log) entry T3Overdue) entry ≡ First first
    → Broken settings log first None

-- A cut that is inserted before an entry breaks no rule there.
abbrev pub CutPutIsValid : Type 0
CutPutIsValid =
    (settings : Parameters) (log : List Entry) (entry first : Entry) → IsRun settings log → Broken settings log entry (Some LinkOverdue)
    → HasOctets entry.event
    → change_by (repair_of (view_of settings log) entry LinkOverdue) entry ≡ First first
    → Broken settings log first None

-- The number of entries that are checked, one after another, in these steps. They are each entry that is kept or
-- omitted, and each entry before it is changed or preceded.
abbrev pub judgements : Steps → ℕ
judgements Passed = 1
judgements LeftOut = 1
judgements (Changed steps) = suc (judgements steps)
judgements (Preceded one more) = suc (judgements one + judgements more)

-- After a run each entry has a repair, with at most eight checks, and two for each waiting primary.
abbrev pub EachEntryIsRepaired : Type 0
EachEntryIsRepaired =
    (settings : Parameters) (log : List Entry) (entry : Entry) → IsRun settings log → HasOctets entry.event
    → (steps : Steps) × (put : List Entry) × RepairedBy settings log steps entry put
    × (judgements steps ≤ waiting_of (view_of settings log) * 2 + 8)

-- No entry has two repairs.
abbrev pub NoEntryIsRepairedTwice : Type 0
NoEntryIsRepairedTwice =
    (settings : Parameters) (log : List Entry) (one other : Steps) (entry : Entry) (put others : List Entry)
    → RepairedBy settings log one entry put → RepairedBy settings log other entry others
    → (one ≡ other) × (put ≡ others)

-- Holds if the texts of all entries are bytes.
abbrev pub AllHaveOctets : List Entry → Type 0
AllHaveOctets [] = Unit {0}
AllHaveOctets (entry ∷ entries) = HasOctets entry.event × AllHaveOctets entries

-- Each log has a repair.
abbrev pub EachLogIsRepaired : Type 0
EachLogIsRepaired =
    (settings : Parameters) (log : List Entry) → AllHaveOctets log → (repaired : List Entry) × IsRepaired settings [] log repaired

-- No log has two repairs.
abbrev pub NoLogIsRepairedTwice : Type 0
NoLogIsRepairedTwice =
    (settings : Parameters) (log one other : List Entry) → IsRepaired settings [] log one → IsRepaired settings [] log other
    → one ≡ other
