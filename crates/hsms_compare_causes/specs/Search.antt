-- The first entry of a log that passes a test.
use Rattle.std.specs.Prelude.{◌<◌, ◌≤◌, ℕ, Bool, List, Option, IsTrue, MatchOption, length}
use Rattle.hsms_machine.specs.declared.entry.Entry.{Entry}
use Rattle.hsms_machine.specs.Entry.{entry_at}

-- Holds if the entry at k is the first one from this index on that passes the test.
pub record IsFirstFrom (test : Entry → Bool) (log : List Entry) (start k : ℕ) : Type 0 where
  pub from : start ≤ k
  pub there : k < length log
  pub passes : IsTrue (test (entry_at log k))
  pub first : (p : ℕ) → start ≤ p → p < k → IsTrue (test (entry_at log p)) → ⊥

-- Holds if no entry from this index on passes the test.
abbrev pub NoneFrom : (Entry → Bool) → List Entry → ℕ → Type 0
NoneFrom test log start = (p : ℕ) → start ≤ p → p < length log → IsTrue (test (entry_at log p)) → ⊥

-- The index of the first entry from this index on that passes the test, if one does.
abbrev pub FirstFrom : (Entry → Bool) → List Entry → ℕ → Option ℕ → Type 0
FirstFrom test log start found = MatchOption found (NoneFrom test log start) (IsFirstFrom test log start)
