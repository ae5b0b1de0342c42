-- The result of an audit of an input (project-specific).
use Rattle.std.specs.Prelude.{◌≡◌, ◌≤◌, ◌+◌, ◌<◌, ◌^◌, ◌++◌, ◌⊎◌, ℕ, List, [], length, Option, Some, Result, Ok, Err}
use Rattle.hsms_frame.specs.CallCounts.{next_count}
use Rattle.hsms_frame.specs.Io.{SourceState}
use Rattle.hsms_log.specs.declared.fault.AuditFault.{AuditFault}
use Rattle.hsms_log.specs.declared.fault.AuditFault.TheVariants.{Read, Endless, Memory}
use Rattle.hsms_log.specs.declared.verdict.Why.{Why}
use Rattle.hsms_log.specs.declared.verdict.Verdict.{Verdict}
use Rattle.hsms_log.specs.declared.verdict.Verdict.TheVariants.{Pass, Fail}
use Rattle.hsms_log.specs.Verdict.{Passes, Fails, FailsOnward, FailsSoFar}

-- Holds if no line of what was read fails: a line that has ended, or one that is already too long.
abbrev pub HoldsNoFailure : List ℕ → Type 0
HoldsNoFailure text = (n : ℕ) (why : Why) → FailsSoFar text n why → ⊥

-- The maximum number of bytes of one read.
abbrev pub block_size : ℕ
block_size = 4096

-- Holds if a prefix of the input was read, and no line of it fails.
abbrev pub FrontHolds : List ℕ → Option (List ℕ) → Type 0
FrontHolds input left = (read rest : List ℕ) × (input ≡ read ++ rest) × (left ≡ Some rest) × HoldsNoFailure read

-- Holds if a prefix of the input was read, and each text that begins with it fails at line n. No line fails before the
-- prefix's last block, so nothing was read after a failing line was found.
abbrev pub FrontFails : List ℕ → ℕ → Why → Option (List ℕ) → Type 0
FrontFails input n why left =
    (read block rest : List ℕ) × (input ≡ read ++ (block ++ rest)) × (left ≡ Some rest) × (length block ≤ block_size)
    × HoldsNoFailure read × FailsOnward (read ++ block) n why

-- Holds if this is the audit's result for an input, with what is left of it and whether its end was found. The input
-- may have been read in part. If the end was found, a line that fails is one that only the end of the input ended.
abbrev pub AuditsAs : List ℕ → Result Verdict AuditFault → Option (List ℕ) → Type 0 → Type 0
AuditsAs input (Ok (Pass summary)) left ended = Passes input summary × (left ≡ Some [])
AuditsAs input (Ok (Fail n why)) left ended =
    Fails input n why × (((left ≡ Some []) × ended × HoldsNoFailure input) ⊎ FrontFails input n why left)
AuditsAs input (Err Endless) left ended = FrontHolds input left
AuditsAs input (Err Read) left ended = FrontHolds input left
AuditsAs input (Err Memory) left ended = Unit {0}

-- Holds if a stored count increased by k, unless it reached its maximum.
abbrev pub RisesBy : ℕ → ℕ → ℕ → Type 0
RisesBy old new k = old + k < 2 ^ 64 → new ≡ old + k

-- Holds if a read found the end.
abbrev pub HasEnded : ℕ → ℕ → Type 0
HasEnded old_ends new_ends = new_ends ≡ next_count old_ends

-- How often a source has failed, by the result.
abbrev pub failures_after : {T : Type 0} → Result T AuditFault → ℕ → ℕ
failures_after (Err Read) n = next_count n
failures_after (Err Endless) n = n
failures_after (Err Memory) n = n
failures_after (Ok _) n = n

-- Holds if the reads that the result needs were made. A pass needs the read that found the end. Endless needs all of
-- them, and none that found the end.
abbrev pub UsesReads : ℕ → Result Verdict AuditFault → SourceState → SourceState → Type 0
UsesReads reads (Ok (Pass summary)) old new = HasEnded old.ends new.ends
UsesReads reads (Ok (Fail n why)) old new = Unit {0}
UsesReads reads (Err Endless) old new = RisesBy old.pulls new.pulls reads × (new.ends ≡ old.ends)
UsesReads reads (Err Read) old new = Unit {0}
UsesReads reads (Err Memory) old new = Unit {0}

-- Holds if the counts of a source change as for an audit with at most this many reads. Each read is into a slice with
-- room, and one failed exactly if the result says so.
pub record CountsAudit (reads : ℕ) (result : Result Verdict AuditFault) (old new : SourceState) : Type 0 where
  pub uses : UsesReads reads result old new
  pub pulls : new.pulls ≤ old.pulls + reads
  pub empty_pulls : new.empty_pulls ≡ old.empty_pulls
  pub failures : new.failures ≡ failures_after result old.failures
