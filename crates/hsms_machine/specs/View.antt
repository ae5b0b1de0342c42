-- What a tracker keeps of a log (this project's profile): the phase, two times, and the open transactions.
use Rattle.std.specs.Prelude.{◌≡◌, ℕ, ◌+◌, ◌-◌, ◌==◌, Bool, true, false, ◌&&◌, ◌||◌, not, List, [], ◌∷◌, ◌++◌, Option, Some, None, Result, IfOk, length, fold, option_to_list, if◌then◌else◌}
use Rattle.std.specs.List.{list_any, filter_map}
use Rattle.hsms_frame.specs.declared.header.Header.{Header}
use Rattle.hsms_machine.specs.declared.entry.Entry.{Entry}
use Rattle.hsms_machine.specs.declared.phase.Phase.{Phase}
use Rattle.hsms_machine.specs.declared.phase.Phase.TheVariants.{Before, NotSelected, Selected, Over, Gone}
use Rattle.hsms_machine.specs.declared.rule.Rule.{Rule}
use Rattle.hsms_machine.specs.declared.open_transactions.Transaction.{Transaction}
use Rattle.hsms_machine.specs.declared.view.View.{View}
use Rattle.hsms_machine.specs.Settings.{Parameters}
use Rattle.hsms_machine.specs.Entry.{entry_at, is_up, is_down, connection_of}
use Rattle.hsms_machine.specs.Transaction.{Pool, SentData, SentControl, TakenData, TakenControl, opens, closes, opened_as}
use Rattle.hsms_machine.specs.Session.{selects, ends_session}
use Rattle.hsms_machine.specs.Timer.{due_at, due_times, least_in}
use Rattle.hsms_machine.specs.Run.{Broken, IsRun}

-- ---- open transactions

-- The entries that open a transaction which no later entry closes, in order.
abbrev pub open_entries : List Entry → List Entry
open_entries [] = []
open_entries (entry ∷ later) =
    if opens entry.event && not (list_any (λ other. closes entry.event other.event) later)
    then entry ∷ open_entries later
    else open_entries later

-- The open transactions of a pool, in order of opening.
abbrev pub open_of : Pool → List Entry → List Transaction
open_of pool log = filter_map (opened_as pool) (open_entries (connection_of log))

-- ---- the phase and the times

-- The phase, by whether the connection was closed, the session ended and it was selected.
abbrev pub phase_by : Bool → Bool → Bool → Phase
phase_by true ended selected = Gone
phase_by false true selected = Over
phase_by false false true = Selected
phase_by false false false = NotSelected

-- The phase after the entries of a connection.
abbrev pub phase_in : List Entry → Phase
phase_in [] = Before
phase_in (entry ∷ later) =
    phase_by
    (list_any (λ other. is_down other.event) (entry ∷ later))
    (list_any (λ other. ends_session other.event) (entry ∷ later))
    (list_any (λ other. selects other.event) (entry ∷ later))

abbrev pub phase_of : List Entry → Phase
phase_of log = phase_in (connection_of log)

-- The time of the last `up`, or 0.
abbrev pub up_time_of : List Entry → ℕ
up_time_of log = fold (λ time entry. if is_up entry.event then entry.time else time) 0 log

-- ---- the view

-- What the rules need to know of a log.
abbrev pub view_of : Parameters → List Entry → View
view_of settings log = record {
  settings = settings;
  phase = phase_of log;
  up_time = up_time_of log;
  last_time = (entry_at log (length log - 1)).time;
  sent_data = open_of SentData log;
  sent_control = open_of SentControl log;
  taken_data = open_of TakenData log;
  taken_control = open_of TakenControl log;
}

-- Holds if the log is a run, and this is its view.
pub record HasView (settings : Parameters) (log : List Entry) (view : View) : Type 0 where
  pub run : IsRun settings log
  pub seen : view_of settings log ≡ view

-- Holds if some run has this view.
abbrev pub HasRun : View → Type 0
HasRun view = (log : List Entry) × HasView view.settings log view

-- Holds if the fact holds for every run with this view.
abbrev pub ForEachRun : View → (List Entry → Type 0) → Type 0
ForEachRun view Holds = (log : List Entry) → HasView view.settings log view → Holds log

-- Holds if, after every run with this view, the result is the first rule that the entry breaks, or none.
abbrev pub IsBrokenAfter : View → Entry → Option Rule → Type 0
IsBrokenAfter view entry answer = ForEachRun view (λ log. Broken view.settings log entry answer)

-- Holds if every run with this view, with the entry appended, is a run with the later view.
abbrev pub LeadsTo : View → Entry → View → Type 0
LeadsTo view entry later = ForEachRun view (λ log. HasView view.settings (log ++ entry ∷ []) later)

-- Holds if the fact holds whenever the result is that no rule is broken.
abbrev pub IfValid : {E : Type 0} → Result (Option Rule) E → Type 0 → Type 0
IfValid result Holds = IfOk result (λ answer. answer ≡ None → Holds)

-- ---- values computed from a view

-- The number of open sent data primaries.
abbrev pub waiting_of : View → ℕ
waiting_of view = length view.sent_data

-- The number of open sent transactions.
abbrev pub own_open_of : View → ℕ
own_open_of view = length view.sent_data + length view.sent_control

abbrev pub due_by_phase : Phase → List ℕ → List ℕ → List ℕ
due_by_phase NotSelected requests selection = requests ++ selection
due_by_phase Selected requests selection = requests
due_by_phase _ requests selection = []

-- The times at which a timer expires: T3 and T6 in the two connected phases, T7 while the session is not selected.
abbrev pub due_times_of : View → List ℕ
due_times_of view =
    due_by_phase view.phase
    (due_times view.settings.t3 view.sent_data ++ due_times view.settings.t6 view.sent_control)
    (option_to_list (due_at view.settings.t7 view.up_time))

-- The earliest of these times.
abbrev pub next_due_of : View → Option ℕ
next_due_of view = least_in (due_times_of view)

-- True if an open sent transaction has these system bytes.
abbrev pub in_use_of : View → ℕ → Bool
in_use_of view system =
    list_any (λ opened. opened.header.system == system) view.sent_data
    || list_any (λ opened. opened.header.system == system) view.sent_control

-- The time and the header of the first of the transactions.
abbrev pub oldest_of : List Transaction → Option (ℕ × Header)
oldest_of [] = None
oldest_of (opened ∷ later) = Some (opened.time, opened.header)
