use Rattle.std.proofs.Common.{◌<◌, ℕ}
use Rattle.std.specs.Prelude.{IsTrue}
use Rattle.hsms_machine.specs.Entry.{entry_at}
use Rattle.hsms_machine.specs.Transaction.{closes}
use Rattle.hsms_compare.proofs.tracing.closing.Given as goal

abbrev pub invariant-loop-i : goal.invariant-loop-i
invariant-loop-i l = (p : ℕ) → l.index < p → p < l.i → IsTrue (closes (entry_at l.log l.index).event (entry_at l.log p).event) → ⊥
