-- Bytes that are read ahead.
use Rattle.std.specs.Prelude.{◌≡◌, ◌≢◌, ◌⊎◌, ◌++◌, ℕ, List, [], Bool, true, false, Option, Some, None, Result, Ok, Err}
use Rattle.hsms_frame.specs.declared.fault.FrameFault.{FrameFault}
use Rattle.hsms_frame.specs.declared.fault.FrameFault.TheVariants as frame
use Rattle.hsms_frame.specs.declared.fault.ReadFault.{ReadFault}
use Rattle.hsms_frame.specs.declared.fault.ReadFault.TheVariants.{TooShort, TooLong, Memory, CutOff, Read}
use Rattle.hsms_frame.specs.declared.header.Header.{Header}
use Rattle.cli_show.specs.declared.show_error.ShowError.{ShowError}
use Rattle.cli_show.specs.Show.{IsStopped}

-- What is left of an input: what was read ahead, and what the source has left.
abbrev pub subsequent : List ℕ → Option (List ℕ) → Option (List ℕ)
subsequent ahead None = None
subsequent ahead (Some rest) = Some (ahead ++ rest)

-- Holds if a read of more bytes or its allocation failed.
abbrev pub IsUnread : ReadFault → Type 0
IsUnread fault = (fault ≡ Read) ⊎ (fault ≡ Memory)

-- Holds if a message was found at the start of what was read ahead, or there is none.
abbrev pub FindsNext : ℕ → List ℕ → Result (Option (Header × ℕ)) ReadFault → List ℕ → Option (List ℕ) → Type 0
FindsNext max input (Ok (Some found)) ahead left = (rest : List ℕ) × (left ≡ Some rest) × (input ≡ ahead ++ rest)
FindsNext max input (Ok None) ahead left = (input ≡ []) × (left ≡ Some [])
FindsNext max input (Err fault) ahead left = IsStopped max input fault left

-- True if neither a message nor an error is at the start.
abbrev pub is_open : Result (Option (Header × ℕ)) FrameFault → Bool
is_open (Ok (Some found)) = false
is_open (Ok None) = true
is_open (Err fault) = false

-- The error of a read for an error at the start.
abbrev pub read_fault_of : FrameFault → ReadFault
read_fault_of (frame.TooShort length) = TooShort length
read_fault_of (frame.TooLong length header) = TooLong length header
read_fault_of frame.Memory = Memory

-- The result of a read for what is found at the start.
abbrev pub found_of : Result (Option (Header × ℕ)) FrameFault → Result (Option (Header × ℕ)) ReadFault
found_of (Ok found) = Ok found
found_of (Err fault) = Err (read_fault_of fault)

-- The result if the input ends, and these bytes belong to no message.
abbrev pub EndsAs : List ℕ → Result (Option (Header × ℕ)) ReadFault → Type 0
EndsAs octets (Ok found) = (octets ≡ []) × (found ≡ None)
EndsAs octets (Err fault) = (octets ≢ []) × (fault ≡ CutOff)

-- What is left after a call that shows a message. This includes what was read ahead, unless the call stopped or found
-- the end.
abbrev pub left_after : Result Bool ShowError → List ℕ → Option (List ℕ) → Option (List ℕ)
left_after (Ok true) ahead left = subsequent ahead left
left_after (Ok false) ahead left = left
left_after (Err error) ahead left = left
