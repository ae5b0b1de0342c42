-- The invariant of an endpoint that is not spent, between two calls. Only private functions use this.
use Rattle.std.specs.Prelude.{◌≡◌, ◌≤◌, true, []}
use Rattle.hsms_machine.specs.declared.phase.Phase.TheVariants.{Before, Over}
use Rattle.hsms_machine.specs.declared.view.View.{View}
use Rattle.hsms_machine.specs.Settings.{IsWithinLimits}
use Rattle.hsms_machine.specs.View.{own_open_of}
use Rattle.hsms_endpoint.specs.declared.state.State.{State}
use Rattle.hsms_endpoint.specs.Turn.{is_up, is_unselected}
use Rattle.hsms_endpoint.specs.ActionSteps.{IsCalm}

-- Holds if there is no entry yet.
pub record IsFresh (view : View) : Type 0 where
  pub time : view.last_time ≡ 0
  pub sent_data : view.sent_data ≡ []
  pub sent_control : view.sent_control ≡ []
  pub taken_data : view.taken_data ≡ []
  pub taken_control : view.taken_control ≡ []

-- Holds if the connection is up, nothing is overdue at the endpoint's current time, and the peer waits for nothing.
pub record IsSteady (end : State) : Type 0 where
  pub calm : IsCalm end
  pub taken_data : end.tracker.taken_data ≡ []
  pub taken_control : end.tracker.taken_control ≡ []
  pub few : own_open_of end.tracker ≤ 64
  pub unselected : is_unselected end.tracker.phase ≡ true → end.tracker.sent_data ≡ []

pub record IsSound (end : State) : Type 0 where
  pub settings : end.settings ≡ end.tracker.settings
  pub within : IsWithinLimits end.settings
  pub limit : end.framer.max ≡ end.settings.max
  pub not_over : ¬ (end.tracker.phase ≡ Over)
  pub fresh : end.tracker.phase ≡ Before → IsFresh end.tracker
  pub steady : is_up end.tracker.phase ≡ true → IsSteady end
