-- What a part of a call does: acts that append entries to those of the call and extend each run that has the
-- endpoint's view. Only private functions use this.
use Rattle.std.specs.Prelude.{◌≡◌, ◌≤◌, ◌-◌, false, nat_lt}
use Rattle.std.specs.List.{list_any}
use Rattle.hsms_endpoint.specs.declared.state.State.{State}
use Rattle.hsms_endpoint.specs.Turn.{is_t7_overdue, is_t6_overdue}

-- Holds if the log is not later than the current time, and nothing is overdue at it.
pub record IsCalm (end : State) : Type 0 where
  pub not_past : end.tracker.last_time ≤ end.moment
  pub data_in_time : list_any (λ opened. nat_lt end.tracker.settings.t3 (end.moment - opened.time)) end.tracker.sent_data ≡ false
  pub control_in_time : is_t6_overdue end.tracker end.moment ≡ false
  pub selected_in_time : is_t7_overdue end.tracker end.moment ≡ false
