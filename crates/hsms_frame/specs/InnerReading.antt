-- What only contracts of private functions use, besides the definitions of `Reading`.
use Rattle.std.specs.Prelude.{◌≡◌, ◌<◌, ◌≤◌, ℕ, List, [], length, take, drop, Option, Some, None, Result, Ok, Err}
use Rattle.hsms_frame.specs.declared.fault.ReadFault.{ReadFault}
use Rattle.hsms_frame.specs.declared.fault.ReadFault.TheVariants.{TooShort, TooLong, Memory, CutOff, Read}
use Rattle.hsms_frame.specs.Io.{SourceState}
use Rattle.hsms_frame.specs.Frame.{IsOctets, length_field}
use Rattle.hsms_frame.specs.Reading.{failures_after, ends_after_part}

-- Holds if the counts change as for a read of required data.
pub record CountsPart {T : Type 0} (result : Result T ReadFault) (old new : SourceState) : Type 0 where
  pub empty_pulls : new.empty_pulls ≡ old.empty_pulls
  pub ends : new.ends ≡ ends_after_part result old.ends
  pub failures : new.failures ≡ failures_after result old.failures

-- Holds if fewer than k bytes of the input were taken.
abbrev pub StopsBefore : ℕ → List ℕ → Option (List ℕ) → Type 0
StopsBefore k input left =
    (n : ℕ) × (n < k) × (n ≤ length input) × IsOctets (take n input) × (left ≡ Some (drop n input))

-- Holds for a read of k bytes, seen by view: they are a prefix of the input, or the input is shorter and at its end.
abbrev pub TakesFront : {T : Type 0} → (T → List ℕ) → ℕ → List ℕ → Result T ReadFault → Option (List ℕ) → Type 0
TakesFront view k input (Ok x) left =
    (k ≤ length input) × (view x ≡ take k input) × IsOctets (view x) × (left ≡ Some (drop k input))
TakesFront view k input (Err CutOff) left = (length input < k) × IsOctets input × (left ≡ Some [])
TakesFront view k input (Err Memory) left = (0 < k) × (left ≡ Some input)
TakesFront view k input (Err Read) left = StopsBefore k input left
TakesFront view k input (Err (TooShort _)) left = ⊥
TakesFront view k input (Err (TooLong _ _)) left = ⊥

-- Holds for a read of the length field: its number, or none at the end of the input, or the input is shorter and at its
-- end.
abbrev pub TakesLength : List ℕ → Result (Option ℕ) ReadFault → Option (List ℕ) → Type 0
TakesLength input (Ok (Some n)) left =
    (4 ≤ length input) × (n ≡ length_field input) × IsOctets (take 4 input) × (left ≡ Some (drop 4 input))
TakesLength input (Ok None) left = (input ≡ []) × (left ≡ Some [])
TakesLength input (Err CutOff) left = (0 < length input) × (length input < 4) × IsOctets input × (left ≡ Some [])
TakesLength input (Err Read) left = StopsBefore 4 input left
TakesLength input (Err Memory) left = ⊥
TakesLength input (Err (TooShort _)) left = ⊥
TakesLength input (Err (TooLong _ _)) left = ⊥
