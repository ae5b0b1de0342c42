-- A buffer of bytes that were read ahead from a source.
use Rattle.std.specs.Prelude.{◌≡◌, ◌+◌, ◌++◌, max, ℕ, List, Bool, Option, Some, Result, Ok, Err, if◌then◌else◌}
use Rattle.hsms_frame.specs.declared.fault.AheadFault.{AheadFault}
use Rattle.hsms_frame.specs.declared.fault.AheadFault.TheVariants as ahead
use Rattle.hsms_frame.specs.CallCounts.{next_count}

-- Holds if bytes of the input were appended to those that were read before.
abbrev pub ReadsMore : List ℕ → List ℕ → List ℕ → Option (List ℕ) → Type 0
ReadsMore before input now left = (rest : List ℕ) × (left ≡ Some rest) × (before ++ input ≡ now ++ rest)

-- The maximum number of buffered bytes after a read after this many: 65,536 more, or 131,072 in all.
abbrev pub most_ahead : ℕ → ℕ
most_ahead before = max 131072 (before + 65536)

-- How often a source's end was found, by whether there was more.
abbrev pub ends_after_more : {E : Type 0} → Result Bool E → ℕ → ℕ
ends_after_more (Ok is_more) n = if is_more then n else next_count n
ends_after_more (Err fault) n = n

-- How often a source has failed, by the result.
abbrev pub failures_after_more : {T : Type 0} → Result T AheadFault → ℕ → ℕ
failures_after_more (Ok _) n = n
failures_after_more (Err ahead.Read) n = next_count n
failures_after_more (Err ahead.Memory) n = n
