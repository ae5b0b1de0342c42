-- Whether a segment begins a connection of its pair.
use Rattle.std.proofs.Common.{◌≡◌, ℕ, Bool, true, false, Option, Some, None, sym, ◌∙◌}
use Rattle.std.specs.Prelude.{◌↔◌, IsTrue, IfNone, IfSome, is_some}
use Rattle.capture_pcap.specs.declared.segment.Segment.{Segment}
use Rattle.capture_tcp.specs.declared.packet.Side.{Side}
use Rattle.capture_log.specs.declared.socket_pair.Pair.{Pair}
use Rattle.cli_capture.specs.declared.connection_table.Table.{Table}
use Rattle.cli_capture.specs.InnerConnectionTable.{Begins, BeginsWith, Joins}

pub record Decides (table : Table) (pair : Pair) (from : Side) (segment : Segment) (syn : Option ℕ) (begins : Bool) : Type 0 where
  pub there : begins ≡ true → BeginsWith table pair from segment syn
  pub none : begins ≡ false → Begins table pair from segment → ⊥

-- with a SYN
pub with_syn : (table : Table) (pair : Pair) (from : Side) (segment : Segment) (syn : Option ℕ) (begins : Bool) → is_some syn ≡ true → begins ≡ true
    → IfSome syn (λ number. BeginsWith table pair from segment (Some number)) → Decides table pair from segment syn begins
with_syn table pair from segment None begins some is there = absurd cc
with_syn table pair from segment (Some number) begins some is there = record {
  there = λ yes_is. there;
  none = λ no_is any. true_false (sym is ∙ no_is);
}
  where
    true_false : true ≡ false → ⊥
    true_false is = cc

-- with none
pub without_syn : (table : Table) (pair : Pair) (from : Side) (segment : Segment) (syn : Option ℕ) (begins : Bool) → is_some syn ≡ false
    → (IsTrue begins ↔ Joins table pair segment) → IfNone syn ((number : ℕ) → BeginsWith table pair from segment (Some number) → ⊥)
    → Decides table pair from segment syn begins
without_syn table pair from segment (Some number) begins some joins none = absurd cc
without_syn table pair from segment None begins some joins none = record {
  there = λ yes_is. joins.0 yes_is;
  none = λ no_is any. by_syn no_is any.0 any.1;
}
  where
    true_false : true ≡ false → ⊥
    true_false is = cc

    by_syn : begins ≡ false → (syn : Option ℕ) → BeginsWith table pair from segment syn → ⊥
    by_syn no_is None it = true_false (sym (joins.1 it) ∙ no_is)
    by_syn no_is (Some number) it = none number it
