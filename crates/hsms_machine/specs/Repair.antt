-- The repair of a log after a failure (this project's profile): what replaces an entry that breaks a rule, and a log in
-- which each such entry was replaced.
use Rattle.std.specs.Prelude.{◌≡◌, ℕ, ◌+◌, ◌-◌, ◌==◌, ◌&&◌, min, List, [], ◌∷◌, ◌++◌, Option, Some, None, nat_lt, if◌then◌else◌}
use Rattle.hsms_machine.specs.declared.entry.Entry.{Entry}
use Rattle.hsms_machine.specs.declared.entry.Event.{Event}
use Rattle.hsms_machine.specs.declared.entry.Event.TheVariants.{Up, Taken, Discarded, T3, Cut, Down}
use Rattle.hsms_machine.specs.declared.entry.Cause.TheVariants.{T6, T7}
use Rattle.hsms_machine.specs.declared.rule.Rule.{Rule}
use Rattle.hsms_machine.specs.declared.rule.Rule.TheVariants.{Backwards, NotUp, T3Overdue, LinkOverdue, NotDue, NoCause}
use Rattle.hsms_machine.specs.declared.repair.RepairAction.{RepairAction}
use Rattle.hsms_machine.specs.declared.repair.RepairAction.TheVariants.{Raise, Discard, ExpireFirst, CutFirst, DownFirst, LeaveOut}
use Rattle.hsms_machine.specs.declared.open_transactions.Transaction.{Transaction}
use Rattle.hsms_machine.specs.declared.view.View.{View}
use Rattle.hsms_machine.specs.Settings.{Parameters}
use Rattle.hsms_machine.specs.ViewRules.{is_connected}
use Rattle.hsms_machine.specs.View.{view_of}
use Rattle.hsms_machine.specs.Run.{Broken, IsRun}
use Rattle.hsms_machine.specs.OpeningOrder.{first_of}

-- ---- one entry

-- The change that a repair makes at an entry.
pub data Change : Type 0 where
  -- Another entry replaces this one.
  Other : Entry → Change
  -- This entry is inserted before it.
  First : Entry → Change
  -- The entry is omitted.
  Without : Change

abbrev pub entry_of_event : ℕ → Event → Entry
entry_of_event time event = record { time = time; event = event }

-- The event with an accepted frame discarded.
abbrev pub thrown_away : Event → Event
thrown_away (Taken frame) = Discarded frame
thrown_away event = event

-- The change that a repair makes at an entry.
abbrev pub change_by : RepairAction → Entry → Change
change_by (Raise time) entry = Other (entry_of_event time entry.event)
change_by Discard entry = Other (entry_of_event entry.time (thrown_away entry.event))
change_by (ExpireFirst time system) entry = First (entry_of_event time (T3 system))
change_by (CutFirst time cause) entry = First (entry_of_event time (Cut cause))
change_by (DownFirst time) entry = First (entry_of_event time Down)
change_by LeaveOut entry = Without

-- ---- the repair for a broken rule

-- A received frame that may not be accepted is discarded.
abbrev pub discarded : Event → RepairAction
discarded (Taken frame) = Discard
discarded event = LeaveOut

-- A `down` is inserted before an `up` that lacks it, if the log may have several connections.
abbrev pub missing_down : View → ℕ → Event → RepairAction
missing_down view time Up =
    if (view.settings.version == 2) && is_connected view.phase then DownFirst time else LeaveOut
missing_down view time event = LeaveOut

-- The later of two times.
abbrev pub later_of : ℕ → ℕ → ℕ
later_of one other = if nat_lt one other then other else one

-- When the limit had passed since a time: no later than the entry at this time, and no earlier than the entry before
-- it.
abbrev pub expiry_of : View → ℕ → ℕ → ℕ → ℕ
expiry_of view time since limit = later_of view.last_time (min (since + limit) time)

-- The primary that was opened first has expired.
abbrev pub expired : View → ℕ → Option Transaction → RepairAction
expired view time None = LeaveOut
expired view time (Some opened) = ExpireFirst (expiry_of view time opened.time view.settings.t3) opened.header.system

-- The connection was cut when T7 expired.
abbrev pub cut_by_t7 : View → ℕ → RepairAction
cut_by_t7 view time = CutFirst (expiry_of view time view.up_time view.settings.t7) T7

-- The connection was cut when T6 of the first open request expired, or T7 if T6 had not expired by this time.
abbrev pub cut : View → ℕ → Option Transaction → RepairAction
cut view time None = cut_by_t7 view time
cut view time (Some opened) =
    if nat_lt view.settings.t6 (time - opened.time)
    then CutFirst (expiry_of view time opened.time view.settings.t6) T6
    else cut_by_t7 view time

-- The repair for the rule that the entry broke first.
abbrev pub repair_of : View → Entry → Rule → RepairAction
repair_of view entry Backwards = Raise view.last_time
repair_of view entry NotUp = missing_down view entry.time entry.event
repair_of view entry T3Overdue = expired view entry.time (first_of view.sent_data)
repair_of view entry LinkOverdue = cut view entry.time (first_of view.sent_control)
repair_of view entry NotDue = LeaveOut
repair_of view entry NoCause = LeaveOut
repair_of view entry rule = discarded entry.event

-- ---- what replaces an entry

-- Holds if this change is the repair for the first rule that the entry breaks after the log.
abbrev pub Asks : Parameters → List Entry → Entry → Change → Type 0
Asks settings log entry change =
    (rule : Rule) × Broken settings log entry (Some rule)
    × (change_by (repair_of (view_of settings log) entry rule) entry ≡ change)

-- The steps of the repair of one entry.
pub data Steps : Type 0 where
  Passed : Steps
  LeftOut : Steps
  Changed : Steps → Steps
  Preceded : Steps → Steps → Steps

-- Holds if `put` replaces the entry after the log: the entry if it is valid, otherwise its repair, which is repaired
-- itself.
abbrev pub RepairedBy : Parameters → List Entry → Steps → Entry → List Entry → Type 0
RepairedBy settings log Passed entry put = Broken settings log entry None × (put ≡ entry ∷ [])
RepairedBy settings log LeftOut entry put = Asks settings log entry Without × (put ≡ [])
RepairedBy settings log (Changed steps) entry put =
    (other : Entry) × Asks settings log entry (Other other) × RepairedBy settings log steps other put
RepairedBy settings log (Preceded one more) entry put =
    (first : Entry) × (before : List Entry) × (rest : List Entry)
    × Asks settings log entry (First first)
    × RepairedBy settings log one first before
    × RepairedBy settings (log ++ before) more entry rest
    × (put ≡ before ++ rest)

-- ---- a complete log

-- Holds if `after` replaces the entries, after a log that was repaired before.
abbrev pub IsRepaired : Parameters → List Entry → List Entry → List Entry → Type 0
IsRepaired settings before [] after = after ≡ []
IsRepaired settings before (entry ∷ entries) after =
    (steps : Steps) × (put : List Entry) × (rest : List Entry)
    × RepairedBy settings before steps entry put
    × IsRepaired settings (before ++ put) entries rest
    × (after ≡ put ++ rest)

-- ---- laws

-- The repaired log is a run.
abbrev pub RepairedLogPasses : Type 0
RepairedLogPasses =
    (settings : Parameters) (log repaired : List Entry) → IsRepaired settings [] log repaired → IsRun settings repaired

-- A valid entry stays unchanged.
abbrev pub ValidEntryIsKept : Type 0
ValidEntryIsKept =
    (settings : Parameters) (log : List Entry) (steps : Steps) (entry : Entry) (put : List Entry)
    → Broken settings log entry None → RepairedBy settings log steps entry put
    → put ≡ entry ∷ []

-- So a run stays unchanged.
abbrev pub RunIsItsRepair : Type 0
RunIsItsRepair =
    (settings : Parameters) (log repaired : List Entry) → IsRun settings log → IsRepaired settings [] log repaired
    → repaired ≡ log

-- Nothing is changed up to the first entry that breaks a rule.
abbrev pub FrontIsKept : Type 0
FrontIsKept =
    (settings : Parameters) (front more repaired : List Entry)
    → IsRun settings front → IsRepaired settings [] (front ++ more) repaired
    → (rest : List Entry) × (repaired ≡ front ++ rest)
