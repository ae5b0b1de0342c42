-- The state of a reader or writer that contracts see, and how a call changes it.
use Rattle.std.specs.Prelude.{◌≡◌, ◌≤◌, ◌<◌, ◌==◌, ◌&&◌, nat_lt, if◌then◌else◌, ℕ, List, [], ◌++◌, length, take, drop, Option, Some, Result, Ok, Err}
use Rattle.hsms_frame.specs.declared.io.Failed.{Failed}
use Rattle.hsms_frame.specs.CallCounts.{next_count, count_failure}

-- The state of a source: the bytes that are left, if it records them, and four counts. These are the numbers of calls,
-- of calls without room for a byte, of times the end was found, and of failures. The end is found by a call with room
-- that returns no byte.
pub record SourceState : Type 0 where
  pub left : Option (List ℕ)
  pub pulls : ℕ
  pub empty_pulls : ℕ
  pub ends : ℕ
  pub failures : ℕ

-- The state of a sink: the bytes that were written, if it records them, and the numbers of calls and of failures.
pub record SinkState : Type 0 where
  pub written : Option (List ℕ)
  pub gives : ℕ
  pub failures : ℕ

-- Holds if the bytes satisfy the claim, or are not recorded.
abbrev pub IfRecorded : Option (List ℕ) → (List ℕ → Type 0) → Type 0
IfRecorded known_input P = (octets : List ℕ) → known_input ≡ Some octets → P octets

-- Holds if the bytes are unchanged.
abbrev pub Stays : Option (List ℕ) → Option (List ℕ) → Type 0
Stays old new = IfRecorded old (λ octets. new ≡ Some octets)

-- Holds if the first n bytes were moved to the front of a buffer, and the others are left.
abbrev pub Takes : Option (List ℕ) → Option (List ℕ) → ℕ → List ℕ → Type 0
Takes old new n buffer =
    IfRecorded old (λ octets. (n ≤ length octets) × (take n buffer ≡ take n octets) × (new ≡ Some (drop n octets)))

-- Holds if fewer bytes than fill a buffer were moved to its front, and the others are left.
abbrev pub TakesFewer : Option (List ℕ) → Option (List ℕ) → List ℕ → Type 0
TakesFewer old new buffer = (n : ℕ) × (n < length buffer) × Takes old new n buffer

-- Holds if no byte is left.
abbrev pub IsAtEnd : Option (List ℕ) → Type 0
IsAtEnd known_input = IfRecorded known_input (λ octets. octets ≡ [])

-- How often a source's end was found, after a read into this much room: plus one if there was room and no byte came.
abbrev pub ends_after : ℕ → Result ℕ Failed → ℕ → ℕ
ends_after room (Ok n) ends = if nat_lt 0 room && (n == 0) then next_count ends else ends
ends_after room (Err _) ends = ends

-- Holds if the counts change as for a read into this much room.
pub record CountsPull (room : ℕ) (result : Result ℕ Failed) (old new : SourceState) : Type 0 where
  pub pulls : new.pulls ≡ next_count old.pulls
  pub empty_pulls : new.empty_pulls ≡ (if room == 0 then next_count old.empty_pulls else old.empty_pulls)
  pub ends : new.ends ≡ ends_after room result old.ends
  pub failures : new.failures ≡ count_failure result old.failures

-- How often the end was found after a read that continues until the buffer is full: plus one if it is not full.
abbrev pub ends_after_fill : ℕ → Result ℕ Failed → ℕ → ℕ
ends_after_fill room (Ok n) ends = if nat_lt n room then next_count ends else ends
ends_after_fill room (Err _) ends = ends

-- Holds if the counts change as for such a read. None of its calls is without room.
pub record CountsFill (room : ℕ) (result : Result ℕ Failed) (old new : SourceState) : Type 0 where
  pub empty_pulls : new.empty_pulls ≡ old.empty_pulls
  pub ends : new.ends ≡ ends_after_fill room result old.ends
  pub failures : new.failures ≡ count_failure result old.failures

-- Holds if these bytes were appended.
abbrev pub Grows : Option (List ℕ) → Option (List ℕ) → List ℕ → Type 0
Grows old new added = IfRecorded old (λ octets. new ≡ Some (octets ++ added))

-- Holds if a prefix of these bytes was appended, and not all of them.
abbrev pub GrowsByFront : Option (List ℕ) → Option (List ℕ) → List ℕ → Type 0
GrowsByFront old new added = IfRecorded old (λ octets. (n : ℕ) × (n < length added) × (new ≡ Some (octets ++ take n added)))

-- Holds if the counts change as for a write.
pub record CountsGive (result : Result ℕ Failed) (old new : SinkState) : Type 0 where
  pub gives : new.gives ≡ next_count old.gives
  pub failures : new.failures ≡ count_failure result old.failures
