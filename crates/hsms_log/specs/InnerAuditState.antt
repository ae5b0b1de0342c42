-- What only contracts of private functions use, besides the definitions of `AuditState`.
use Rattle.std.specs.Prelude.{◌≡◌, ◌+◌, ◌++◌, if◌then◌else◌, ℕ, List, [], ◌∷◌, Option, Some, None}
use Rattle.hsms_machine.specs.declared.entry.Entry.{Entry}
use Rattle.hsms_log.specs.declared.verdict.Why.{Why}
use Rattle.hsms_log.specs.Counters.{Counters}
use Rattle.hsms_log.specs.Verdict.{FailsAfter, is_sent, is_taken, is_discarded, is_expired}

-- The counts after one more entry.
abbrev pub counted : Counters → Entry → Counters
counted old entry = record {
  lines = old.lines + 1;
  entries = old.entries + 1;
  sent = old.sent + (if is_sent entry.event then 1 else 0);
  taken = old.taken + (if is_taken entry.event then 1 else 0);
  discarded = old.discarded + (if is_discarded entry.event then 1 else 0);
  expired = old.expired + (if is_expired entry.event then 1 else 0);
}

-- Holds for the effect of the check of a line, by its result. If the line does not fail, the state after the lines
-- before it becomes the state after it, and it is counted. Otherwise it fails after them for this reason, and is not
-- counted.
abbrev pub IsChecked : (old new : ℕ) → (Before After : List (List ℕ) → Type 0) → List ℕ → Option Why → Type 0
IsChecked old new Before After line None =
    (new ≡ old + 1) × ((before : List (List ℕ)) → Before before → After (before ++ line ∷ []))
IsChecked old new Before After line (Some why) =
    (new ≡ old) × ((before : List (List ℕ)) → Before before → FailsAfter before line why)
