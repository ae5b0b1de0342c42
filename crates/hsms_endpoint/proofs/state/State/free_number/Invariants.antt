use Rattle.std.proofs.Common.{◌<◌, ℕ}
use Rattle.hsms_endpoint.specs.SystemBytes.{IsFree, number_on}
use Rattle.hsms_endpoint.proofs.state.State.free_number.Given as goal

abbrev pub invariant-loop-places : goal.invariant-loop-places
invariant-loop-places l = (k : ℕ) → k < l.places → ¬ IsFree l.self.tracker (number_on l.self.next k)
