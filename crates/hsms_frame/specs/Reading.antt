-- The result of a read of one message, and what it leaves.
use Rattle.std.specs.Prelude.{◌≡◌, ◌≢◌, ◌≤◌, ◌+◌, ◌⊎◌, ◌++◌, ℕ, List, [], length, drop, Option, Some, None, Result, Ok, Err}
use Rattle.hsms_frame.specs.declared.fault.ReadFault.{ReadFault}
use Rattle.hsms_frame.specs.declared.fault.ReadFault.TheVariants.{TooShort, TooLong, Memory, CutOff, Read}
use Rattle.hsms_frame.specs.CallCounts.{next_count}
use Rattle.hsms_frame.specs.Io.{SourceState}
use Rattle.hsms_frame.specs.Frame.{Frame, frame_octets, IsFrame, IsTooShort, IsTooLong, IsFaultless, IsProperFront}

-- Holds if a prefix of the input was taken that starts a message, ends before its end, and shows no error.
abbrev pub StopsWithin : ℕ → List ℕ → Option (List ℕ) → Type 0
StopsWithin max input left =
    (taken rest : List ℕ) × (input ≡ taken ++ rest) × (left ≡ Some rest) × IsFaultless max taken × IsProperFront taken

-- Holds if this is a result for an input, and the last argument is what is left of the input.
abbrev pub ReadsAs : ℕ → List ℕ → Result (Option Frame) ReadFault → Option (List ℕ) → Type 0
ReadsAs max input (Ok (Some f)) left =
    (rest : List ℕ) × (input ≡ frame_octets f ++ rest) × (left ≡ Some rest) × IsFrame f × (10 + length f.text ≤ max)
ReadsAs max input (Ok None) left = (input ≡ []) × (left ≡ Some [])
ReadsAs max input (Err (TooShort n)) left = IsTooShort input n × (left ≡ Some (drop 4 input))
ReadsAs max input (Err (TooLong n h)) left = IsTooLong max input n h × (left ≡ Some (drop 14 input))
ReadsAs max input (Err Memory) left = (14 ≤ length input) × (left ≡ Some (drop 14 input)) × StopsWithin max input left
ReadsAs max input (Err CutOff) left = (input ≢ []) × IsFaultless max input × IsProperFront input × (left ≡ Some [])
ReadsAs max input (Err Read) left = StopsWithin max input left

-- Holds if the input does not decide the result: a failed allocation or a failed read.
abbrev pub IsRefusal : Result (Option Frame) ReadFault → Type 0
IsRefusal answer = (answer ≡ Err Memory) ⊎ (answer ≡ Err Read)

-- How often a source has failed after a read, by the result.
abbrev pub failures_after : {T : Type 0} → Result T ReadFault → ℕ → ℕ
failures_after (Err Read) n = next_count n
failures_after (Err (TooShort _)) n = n
failures_after (Err (TooLong _ _)) n = n
failures_after (Err Memory) n = n
failures_after (Err CutOff) n = n
failures_after (Ok _) n = n

-- How often a source's end was found after a read of required data, by the result.
abbrev pub ends_after_part : {T : Type 0} → Result T ReadFault → ℕ → ℕ
ends_after_part (Err CutOff) n = next_count n
ends_after_part (Err (TooShort _)) n = n
ends_after_part (Err (TooLong _ _)) n = n
ends_after_part (Err Memory) n = n
ends_after_part (Err Read) n = n
ends_after_part (Ok _) n = n

-- How often a source's end was found after a read of optional data, by the result.
abbrev pub ends_after_whole : {T : Type 0} → Result (Option T) ReadFault → ℕ → ℕ
ends_after_whole (Ok None) n = next_count n
ends_after_whole (Ok (Some _)) n = n
ends_after_whole (Err fault) n = ends_after_part {T = ℕ} (Err fault) n

-- Holds if the counts change as for a read of optional data.
pub record CountsWhole {T : Type 0} (result : Result (Option T) ReadFault) (old new : SourceState) : Type 0 where
  pub empty_pulls : new.empty_pulls ≡ old.empty_pulls
  pub ends : new.ends ≡ ends_after_whole result old.ends
  pub failures : new.failures ≡ failures_after result old.failures
