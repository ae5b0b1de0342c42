-- How a view decides the rules, and how one entry changes it: the rules again, without positions of a log. The results
-- of a tracker are specified both ways: for each log with its view, and for the view alone.
use Rattle.std.specs.Prelude.{◌≡◌, ◌≢◌, ℕ, ◌<◌, ◌==◌, Bool, true, false, ◌&&◌, ◌||◌, not, List, [], ◌++◌, Option, filter, IsTrue, if◌then◌else◌, option_to_list}
use Rattle.std.specs.List.{list_any}
use Rattle.hsms_machine.specs.declared.entry.Entry.{Entry}
use Rattle.hsms_machine.specs.declared.entry.Event.{Event}
use Rattle.hsms_machine.specs.declared.entry.Event.TheVariants.{Sent, Taken, T3}
use Rattle.hsms_machine.specs.declared.phase.Phase.{Phase}
use Rattle.hsms_machine.specs.declared.phase.Phase.TheVariants.{Before, NotSelected, Selected, Over, Gone}
use Rattle.hsms_machine.specs.declared.rule.Rule.{Rule}
use Rattle.hsms_machine.specs.declared.open_transactions.Transaction.{Transaction}
use Rattle.hsms_machine.specs.declared.view.View.{View}
use Rattle.hsms_machine.specs.Entry.{is_up, is_down}
use Rattle.hsms_machine.specs.Transaction.{Pool, SentData, SentControl, TakenData, TakenControl, concludes, opened_as}
use Rattle.hsms_machine.specs.Session.{Facts, selects, ends_session}
use Rattle.hsms_machine.specs.View.{phase_by}
use Rattle.hsms_machine.specs.Rule.{Breaks, IsFirst, all_rules}
use Rattle.hsms_machine.specs.OpeningOrder.{IsOrdered, AreUntil}

-- ---- facts that the rules use

abbrev pub pool_of : View → Pool → List Transaction
pool_of view SentData = view.sent_data
pool_of view SentControl = view.sent_control
pool_of view TakenData = view.taken_data
pool_of view TakenControl = view.taken_control

abbrev pub is_connected : Phase → Bool
is_connected Before = false
is_connected Gone = false
is_connected _ = true

-- The facts that the rules use, by the view.
abbrev pub facts_of : View → Facts
facts_of view = record {
  IsPast = λ time. time < view.last_time;
  HasEntry = view.phase ≢ Before;
  HasUp = view.phase ≢ Before;
  HasDown = view.phase ≡ Gone;
  FollowsDown = view.phase ≡ Gone;
  IsUpSince = λ test. IsTrue (is_connected view.phase && test view.up_time);
  IsSelected = view.phase ≡ Selected;
  IsOver = view.phase ≡ Over;
  SomeOpen = λ pool test. IsTrue (list_any test (pool_of view pool));
}

-- Holds if the result is the first rule that the entry breaks, by the view, or none.
abbrev pub IsBrokenAt : View → Entry → Option Rule → Type 0
IsBrokenAt view entry answer = IsFirst (Breaks (facts_of view) view.settings entry) all_rules answer

-- ---- one more entry

abbrev pub is_gone : Phase → Bool
is_gone Gone = true
is_gone _ = false

abbrev pub is_over : Phase → Bool
is_over Over = true
is_over _ = false

abbrev pub is_selected : Phase → Bool
is_selected Selected = true
is_selected _ = false

-- The phase after an event: an `up` starts again.
abbrev pub phase_after : Phase → Event → Phase
phase_after phase event =
    if is_up event then NotSelected else
    phase_by (is_gone phase || is_down event) (is_over phase || ends_session event) (is_selected phase || selects event)

-- True if the event closes the transaction of the pool.
abbrev pub is_closed_by : Pool → Event → Transaction → Bool
is_closed_by SentData (Taken frame) opened = concludes opened.header frame.header
is_closed_by SentControl (Taken frame) opened = concludes opened.header frame.header
is_closed_by TakenData (Sent frame) opened = concludes opened.header frame.header
is_closed_by TakenControl (Sent frame) opened = concludes opened.header frame.header
is_closed_by SentData (T3 system) opened = opened.header.system == system
is_closed_by _ event opened = false

-- The open transactions of the pool after an entry: none after `up`.
abbrev pub pool_after : Pool → List Transaction → Entry → List Transaction
pool_after pool opened entry =
    if is_up entry.event then [] else
    filter (λ transaction. not (is_closed_by pool entry.event transaction)) opened
    ++ option_to_list (opened_as pool entry)

-- The view after a valid entry.
abbrev pub view_after : View → Entry → View
view_after view entry = record {
  settings = view.settings;
  phase = phase_after view.phase entry.event;
  up_time = if is_up entry.event then entry.time else view.up_time;
  last_time = entry.time;
  sent_data = pool_after SentData view.sent_data entry;
  sent_control = pool_after SentControl view.sent_control entry;
  taken_data = pool_after TakenData view.taken_data entry;
  taken_control = pool_after TakenControl view.taken_control entry;
}

-- ---- in order of opening

-- Holds if each open transaction was opened by the time of the last entry, and each of the four lists is in order.
pub record IsInOrder (view : View) : Type 0 where
  pub sent_data : IsOrdered view.last_time view.sent_data
  pub sent_control : IsOrdered view.last_time view.sent_control
  pub taken_data : IsOrdered view.last_time view.taken_data
  pub taken_control : IsOrdered view.last_time view.taken_control

-- Holds if no open transaction was opened after this time.
pub record IsUntil (time : ℕ) (view : View) : Type 0 where
  pub sent_data : AreUntil time view.sent_data
  pub sent_control : AreUntil time view.sent_control
  pub taken_data : AreUntil time view.taken_data
  pub taken_control : AreUntil time view.taken_control
