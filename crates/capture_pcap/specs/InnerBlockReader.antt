-- What only contracts of private functions use, besides the definitions of `BlockReader`.
use Rattle.std.specs.Prelude.{◌≡◌, ◌<◌, ◌++◌, ℕ, Bool, true, false, List, [], ◌∷◌, length, Option, None, Some, Result, Ok, Err}
use Rattle.hsms_frame.specs.ReadAhead.{ReadsMore}
use Rattle.hsms_frame.specs.CallCounts.{next_count}
use Rattle.capture_pcap.specs.declared.fault.CaptureFault.{CaptureFault}
use Rattle.capture_pcap.specs.declared.fault.FileFault.{FileFault}
use Rattle.capture_pcap.specs.declared.fault.FileFault.TheVariants as stop
use Rattle.capture_pcap.specs.declared.next_block.Front.{Front}
use Rattle.capture_pcap.specs.declared.next_block.Front.TheVariants as front
use Rattle.capture_pcap.specs.declared.packet_reader.Step.{Step}
use Rattle.capture_pcap.specs.declared.packet_reader.Step.TheVariants as step
use Rattle.capture_pcap.specs.declared.block_reader.Opening.{Opening}
use Rattle.capture_pcap.specs.declared.block_reader.Opening.TheVariants as opening
use Rattle.capture_pcap.specs.declared.block_reader.Format.{Format}
use Rattle.capture_pcap.specs.File.{State, Packet, front_at, opening_at, size_of}
use Rattle.capture_pcap.specs.BlockReader.{packet_of}

-- The packets that a step emits.
abbrev pub derived_from : Step → List ℕ → List Packet
derived_from (step.Packet n r) octets = packet_of n r octets ∷ []
derived_from step.Passed octets = []
derived_from step.End octets = []

-- ---- for private contracts

-- Holds if all bytes of the input were read.
abbrev pub ReadsAll : List ℕ → List ℕ → List ℕ → Option (List ℕ) → Type 0
ReadsAll ahead input now left = (left ≡ Some []) × (ahead ++ input ≡ now)

-- Holds if a read or an allocation failed.
abbrev pub IsOfDevice : FileFault → Type 0
IsOfDevice (stop.Capture place f) = ⊥
IsOfDevice stop.CutOff = ⊥
IsOfDevice stop.Read = Unit {0}
IsOfDevice stop.Memory = Unit {0}

-- True if neither a record or block nor an error was found.
abbrev pub is_more : Result Front CaptureFault → Bool
is_more (Ok front.More) = true
is_more (Ok (front.Packet r)) = false
is_more (Ok (front.Begun o size)) = false
is_more (Ok (front.Described i size)) = false
is_more (Ok (front.Passed counts size)) = false
is_more (Err f) = false

abbrev pub is_unopened : Result Opening CaptureFault → Bool
is_unopened (Ok opening.More) = true
is_unopened (Ok (opening.Opened f size)) = false
is_unopened (Err f) = false

-- What is read to find a result: all bytes, if the result is the end of the input.
abbrev pub ReadsFor : {T : Type 0} → Result (Option T) FileFault → List ℕ → List ℕ → List ℕ → Option (List ℕ) → Type 0
ReadsFor (Ok (Some x)) ahead input now left = ReadsMore ahead input now left
ReadsFor (Ok None) ahead input now left = ReadsAll ahead input now left
ReadsFor (Err (stop.Capture place f)) ahead input now left = ReadsMore ahead input now left
ReadsFor (Err stop.CutOff) ahead input now left = ReadsAll ahead input now left
ReadsFor (Err stop.Read) ahead input now left = ReadsMore ahead input now left
ReadsFor (Err stop.Memory) ahead input now left = ReadsMore ahead input now left

-- What is found at the start of the bytes, or why nothing is found.
abbrev pub FindsFront : State → List ℕ → Result (Option Front) FileFault → Type 0
FindsFront s octets (Ok (Some f)) = (front_at s octets ≡ Ok f) × (0 < size_of f)
FindsFront s octets (Ok None) = octets ≡ []
FindsFront s octets (Err (stop.Capture place f)) = (front_at s octets ≡ Err f) × (place ≡ s.place)
FindsFront s octets (Err stop.CutOff) = (0 < length octets) × (front_at s octets ≡ Ok front.More)
FindsFront s octets (Err stop.Read) = Unit {0}
FindsFront s octets (Err stop.Memory) = Unit {0}

-- How often the end of the source was found, after this result of the search.
abbrev pub ends_after_find : {T : Type 0} → Result (Option T) FileFault → ℕ → ℕ
ends_after_find (Ok (Some x)) n = n
ends_after_find (Ok None) n = next_count n
ends_after_find (Err (stop.Capture place f)) n = n
ends_after_find (Err stop.CutOff) n = next_count n
ends_after_find (Err stop.Read) n = n
ends_after_find (Err stop.Memory) n = n

-- The result if the input ends with these bytes.
abbrev pub EndsWith : List ℕ → Result (Option Front) FileFault → Type 0
EndsWith octets (Ok found) = (found ≡ None) × (octets ≡ [])
EndsWith octets (Err f) = (f ≡ stop.CutOff) × (0 < length octets)

-- The record or block at the start, with the offset of an error.
abbrev pub front_reported : ℕ → Result Front CaptureFault → Result (Option Front) FileFault
front_reported place (Ok f) = Ok (Some f)
front_reported place (Err f) = Err (stop.Capture place f)

-- The step for a record or block, with the number of its packet.
abbrev pub step_of : ℕ → Front → Step
step_of n front.More = step.Passed
step_of n (front.Packet r) = step.Packet n r
step_of n (front.Begun o size) = step.Passed
step_of n (front.Described i size) = step.Passed
step_of n (front.Passed counts size) = step.Passed

-- What is read to find a file's format: all bytes, if the result is the end of the input.
abbrev pub OpensFor : {T : Type 0} → Result T FileFault → List ℕ → List ℕ → List ℕ → Option (List ℕ) → Type 0
OpensFor (Ok x) ahead input now left = ReadsMore ahead input now left
OpensFor (Err (stop.Capture place f)) ahead input now left = ReadsMore ahead input now left
OpensFor (Err stop.CutOff) ahead input now left = ReadsAll ahead input now left
OpensFor (Err stop.Read) ahead input now left = ReadsMore ahead input now left
OpensFor (Err stop.Memory) ahead input now left = ReadsMore ahead input now left

-- The format of a file that starts with these bytes, or why there is none.
abbrev pub FindsOpening : List ℕ → Result (Format × ℕ) FileFault → Type 0
FindsOpening octets (Ok (f, size)) = opening_at octets ≡ Ok (opening.Opened f size)
FindsOpening octets (Err (stop.Capture place f)) = (opening_at octets ≡ Err f) × (place ≡ 0)
FindsOpening octets (Err stop.CutOff) = opening_at octets ≡ Ok opening.More
FindsOpening octets (Err stop.Read) = Unit {0}
FindsOpening octets (Err stop.Memory) = Unit {0}

abbrev pub opening_reported : Result Opening CaptureFault → Result (Format × ℕ) FileFault
opening_reported (Ok opening.More) = Err stop.CutOff
opening_reported (Ok (opening.Opened f size)) = Ok (f, size)
opening_reported (Err f) = Err (stop.Capture 0 f)
