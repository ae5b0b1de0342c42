-- The internals of an endpoint, without its message handler. Only private functions use this.
use Rattle.std.specs.Prelude.{Bool}
use Rattle.hsms_endpoint.specs.declared.state.State.{State}
use Rattle.hsms_endpoint.specs.EndState.{EndState}

-- Its abstract state.
abbrev pub known_of : State → Bool → EndState
known_of end spent = record {
  settings = end.settings;
  view = end.tracker;
  pending = end.framer.pending;
  moment = end.moment;
  next = end.next;
  reception = end.reception;
  asked = end.asked;
  spent = spent;
}
