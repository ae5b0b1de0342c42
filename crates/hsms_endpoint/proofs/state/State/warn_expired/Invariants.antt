use Rattle.std.proofs.Common.{◌≡◌, take}
use Rattle.hsms_endpoint.specs.InnerInvariant.{Completes}
use Rattle.hsms_endpoint.specs.InnerExpiring.{MayWarn, warnings_of}
use Rattle.hsms_endpoint.proofs.state.State.warn_expired.Given as goal

abbrev pub invariant-loop-header : goal.invariant-loop-header
invariant-loop-header l = record {
  input_event : Completes l.fn.self l.fn.entries.items (warnings_of l.fn.self.settings (take l.header-index l.expired)) l.self l.entries.items;
  settings : l.self.settings ≡ l.fn.self.settings;
  selected : MayWarn l.self.tracker.phase l.expired;
}
