-- What a part of the call `tick` has done. Only private functions use this.
use Rattle.std.specs.Prelude.{◌≡◌, ◌≤◌, ℕ, ◌-◌, Bool, true, List, [], ◌∷◌, ◌++◌, map, nat_lt, Option, Some, None, if◌then◌else◌}
use Rattle.std.specs.List.{list_any}
use Rattle.hsms_frame.specs.declared.header.Header.{Header}
use Rattle.hsms_machine.specs.declared.entry.Entry.{Entry}
use Rattle.hsms_machine.specs.declared.open_transactions.Transaction.{Transaction}
use Rattle.hsms_machine.specs.declared.phase.Phase.{Phase}
use Rattle.hsms_machine.specs.declared.phase.Phase.TheVariants.{Selected}
use Rattle.hsms_machine.specs.Settings.{Parameters, IsWithinLimits}
use Rattle.hsms_machine.specs.View.{own_open_of}
use Rattle.hsms_endpoint.specs.declared.state.State.{State}
use Rattle.hsms_endpoint.specs.Frame.{warning}
use Rattle.hsms_endpoint.specs.Action.{Act, asks}
use Rattle.hsms_endpoint.specs.Reaction.{is_equipment}
use Rattle.hsms_machine.specs.OpeningOrder.{IsOrdered}
use Rattle.hsms_endpoint.specs.Turn.{is_up, is_unselected, expired_at, expiry}
use Rattle.hsms_endpoint.specs.InnerActionSteps.{Performs}

-- Holds for a steady endpoint, except that timers may have expired at its current time.
pub record IsLate (end : State) : Type 0 where
  pub settings : end.settings ≡ end.tracker.settings
  pub within : IsWithinLimits end.settings
  pub limit : end.framer.max ≡ end.settings.max
  pub up : is_up end.tracker.phase ≡ true
  pub not_past : end.tracker.last_time ≤ end.moment
  pub taken_data : end.tracker.taken_data ≡ []
  pub taken_control : end.tracker.taken_control ≡ []
  pub few : own_open_of end.tracker ≤ 64
  pub unselected : is_unselected end.tracker.phase ≡ true → end.tracker.sent_data ≡ []
  pub data_ordered : IsOrdered end.moment end.tracker.sent_data
  pub control_ordered : IsOrdered end.moment end.tracker.sent_control

-- True if own data is overdue.
abbrev pub is_data_overdue : State → Bool
is_data_overdue end = list_any (λ opened. nat_lt end.tracker.settings.t3 (end.moment - opened.time)) end.tracker.sent_data

-- The header of the oldest open transaction, if it was opened longer ago than the limit.
abbrev pub overdue_of : ℕ → ℕ → Option (ℕ × Header) → Option Header
overdue_of limit moment None = None
overdue_of limit moment (Some oldest) = if nat_lt limit (moment - oldest.0) then Some oldest.1 else None

-- The endpoint with these data transactions still open, and a last entry at this time.
abbrev pub with_data : State → ℕ → List Transaction → State
with_data end time left = record end { tracker = record end.tracker { last_time = time; sent_data = left } }

abbrev pub headers_of : List Transaction → List Header
headers_of opened = map (λ (transaction : Transaction). transaction.header) opened

-- Holds if the overdue data with these headers was logged so far.
pub record HasExpired (start : State) (before : List Entry) (end : State) (entries : List Entry) (headers : List Header) : Type 0 where
  pub expired : List Transaction
  pub onward : expired_at start.tracker start.moment ≡ expired ++ expired_at end.tracker end.moment
  pub does : Performs start before (map expiry expired) end entries
  pub headers_are : headers ≡ headers_of expired
  pub same : end ≡ with_data start end.tracker.last_time end.tracker.sent_data
  pub late : IsLate end

-- ---- the warnings of equipment

-- S9F9 with this header.
abbrev pub warns_of : Parameters → Header → Act
warns_of settings header = asks (warning settings 9 header)

-- Holds if the session is selected or there is nothing to warn of.
abbrev pub MayWarn : Phase → List Header → Type 0
MayWarn phase [] = Unit {0}
MayWarn phase (header ∷ headers) = phase ≡ Selected

abbrev pub warnings_of : Parameters → List Header → List Act
warnings_of settings headers = if is_equipment settings.role then map (warns_of settings) headers else []
