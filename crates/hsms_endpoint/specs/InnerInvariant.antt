-- What only contracts of private functions use, besides the definitions of `Invariant`.
use Rattle.std.specs.Prelude.{◌≡◌, true, List}
use Rattle.hsms_machine.specs.declared.entry.Entry.{Entry}
use Rattle.hsms_machine.specs.declared.entry.Cause.{Cause}
use Rattle.hsms_machine.specs.declared.entry.Event.TheVariants.{Cut}
use Rattle.hsms_machine.specs.Settings.{IsWithinLimits}
use Rattle.hsms_endpoint.specs.declared.state.State.{State}
use Rattle.hsms_endpoint.specs.Action.{Act}
use Rattle.hsms_endpoint.specs.Turn.{is_up}
use Rattle.hsms_endpoint.specs.InnerActionSteps.{IsValidEvent, Performs}
use Rattle.hsms_endpoint.specs.Invariant.{IsSound}

-- Holds if the connection may be cut for this cause.
pub record CanCut (end : State) (cause : Cause) : Type 0 where
  pub settings : end.settings ≡ end.tracker.settings
  pub within : IsWithinLimits end.settings
  pub limit : end.framer.max ≡ end.settings.max
  pub up : is_up end.tracker.phase ≡ true
  pub is_valid : IsValidEvent end (Cut cause)

-- Holds if these acts were done, and the invariant between two calls holds afterwards.
pub record Completes (end : State) (before : List Entry) (acts : List Act) (end' : State) (entries : List Entry) : Type 0 where
  pub does : Performs end before acts end' entries
  pub sound : IsSound end'
