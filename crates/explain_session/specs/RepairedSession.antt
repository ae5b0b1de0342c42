-- A log that continues after each failure (project-specific profile): the repaired log, each entry with the number of
-- its line.
use Rattle.std.specs.Prelude.{◌≡◌, ℕ, List, [], ◌∷◌, ◌++◌, Option, Some, None}
use Rattle.hsms_machine.specs.declared.entry.Entry.{Entry}
use Rattle.hsms_machine.specs.declared.entry.Event.{Event}
use Rattle.hsms_machine.specs.declared.rule.Rule.{Rule}
use Rattle.hsms_machine.specs.declared.rule.Rule.TheVariants.{T3Overdue, SystemInUse}
use Rattle.hsms_machine.specs.declared.view.View.{View}
use Rattle.hsms_machine.specs.Settings.{Parameters}
use Rattle.hsms_machine.specs.View.{HasView}
use Rattle.hsms_machine.specs.Run.{Broken as IsFirstBroken}
use Rattle.hsms_machine.specs.OpeningLines.{HasPlaces, IsClosing, ClosesNone, IsOldestPrimary, IsNamesake, at_place}
use Rattle.hsms_machine.specs.Repair.{repair_of}
use Rattle.explain_session.specs.declared.repaired_session.Opening.{Opening}
use Rattle.explain_session.specs.declared.repaired_session.Checked.{Checked}
use Rattle.explain_session.specs.declared.repaired_session.Checked.TheVariants.{Lawful, Broken}

-- The state after the entries so far. For open transactions, it also has the lines and the times.
pub record CurrentState : Type 0 where
  pub tracker : View
  pub lines : View
  pub times : View
  pub line : ℕ

-- Holds if the log is a run, and its entries are at the lines that `placed` has as their times.
pub record HasProgress (settings : Parameters) (log placed : List Entry) (repaired_session : CurrentState) : Type 0 where
  pub run : HasView settings log repaired_session.tracker
  pub lines : HasPlaces log placed repaired_session.lines
  pub times : HasPlaces log log repaired_session.times

-- Holds if the property holds for each log and its lines that have this repaired session.
abbrev pub ForEachProgress : CurrentState → (Parameters → List Entry → List Entry → Type 0) → Type 0
ForEachProgress repaired_session Holds =
    (settings : Parameters) (log placed : List Entry) → HasProgress settings log placed repaired_session → Holds settings log placed

-- Holds if the entry is appended to the log, at the current line.
abbrev pub ProgressLeadsTo : CurrentState → Entry → CurrentState → Type 0
ProgressLeadsTo repaired_session entry later =
    ForEachProgress repaired_session (λ settings log placed. HasProgress settings (log ++ entry ∷ []) (placed ++ at_place repaired_session.line entry ∷ []) later)

-- Holds if the event closes an open transaction that was opened at this line and time, or closes none.
abbrev pub Closes : CurrentState → Event → Option Opening → Type 0
Closes repaired_session event (Some opening) =
    ForEachProgress repaired_session (λ settings log placed. IsClosing log placed event opening.line × IsClosing log log event opening.time)
Closes repaired_session event None = ForEachProgress repaired_session (λ settings log placed. ClosesNone log event)

-- Holds if the line is that of the primary that was opened first, or of the transaction with the same system bytes.
abbrev pub ConcernsIn : List Entry → List Entry → Event → Rule → ℕ → Type 0
ConcernsIn log placed event T3Overdue line = IsOldestPrimary log placed line
ConcernsIn log placed event SystemInUse line = IsNamesake log placed event line
ConcernsIn log placed event rule line = ⊥

-- Holds if this is the line at which the transaction that the failure involves was opened.
abbrev pub Concerns : CurrentState → Event → Rule → ℕ → Type 0
Concerns repaired_session event rule line = ForEachProgress repaired_session (λ settings log placed. ConcernsIn log placed event rule line)

abbrev pub ConcernsSome : CurrentState → Event → Rule → Option ℕ → Type 0
ConcernsSome repaired_session event rule (Some line) = Concerns repaired_session event rule line
ConcernsSome repaired_session event rule None = Unit {0}

-- Holds if the entry is valid after the log and is accepted, or if this is the first rule that it breaks and nothing
-- changes.
abbrev pub ChecksAs : CurrentState → Entry → CurrentState → Checked → Type 0
ChecksAs old entry new (Lawful closed) =
    ForEachProgress old (λ settings log placed. IsFirstBroken settings log entry None)
    × ProgressLeadsTo old entry new × Closes old entry.event closed
ChecksAs old entry new (Broken failure) =
    ForEachProgress old (λ settings log placed. IsFirstBroken settings log entry (Some failure.rule))
    × (new ≡ old) × ConcernsSome old entry.event failure.rule failure.concerns
    × (failure.repair_action ≡ repair_of old.tracker entry failure.rule)
