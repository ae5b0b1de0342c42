-- Reading a capture file in blocks from a source.
use Rattle.std.specs.Prelude.{◌≡◌, ◌⊎◌, ◌≤◌, ◌<◌, ◌+◌, ◌-◌, ◌^◌, ◌++◌, min, ℕ, List, [], ◌∷◌, length, take, drop, Option, Some, Result, Ok, Err}
use Rattle.hsms_frame.specs.declared.fault.AheadFault.{AheadFault}
use Rattle.hsms_frame.specs.declared.fault.AheadFault.TheVariants as ahead
use Rattle.hsms_frame.specs.CallCounts.{next_count}
use Rattle.capture_pcap.specs.declared.fault.FileFault.{FileFault}
use Rattle.capture_pcap.specs.declared.fault.FileFault.TheVariants as stop
use Rattle.capture_pcap.specs.declared.next_block.Front.{Front}
use Rattle.capture_pcap.specs.declared.next_block.Record.{Record}
use Rattle.capture_pcap.specs.declared.packet_reader.Step.{Step}
use Rattle.capture_pcap.specs.declared.packet_reader.Step.TheVariants as step
use Rattle.capture_pcap.specs.File.{State, Packet, Ending, complete, cut, faulty, Reads, ReadsFile}

-- The maximum number of bytes that are read ahead: those of one record or block, and one block of the source.
abbrev pub greatest_ahead : ℕ
greatest_ahead = 16777232 + 65536

-- The state of reading a file: the reader's state, the bytes of the record or block that was passed last, and the bytes
-- that were read ahead after it.
pub record Reading : Type 0 where
  pub state : State
  pub last : List ℕ
  pub ahead : List ℕ

-- Holds if these packets and this ending are still to be emitted, given that these bytes follow those that were read.
abbrev pub ReadsOn : Reading → List ℕ → List Packet → Ending → Type 0
ReadsOn r rest packets ending = (fs : List Front) × Reads fs r.state (r.ahead ++ rest) packets ending

-- Holds if these packets of those to be read were emitted, and the others are still to be emitted. No packet is
-- skipped, invented or emitted twice, and an ending keeps its position.
abbrev pub Emits : (List Packet → Ending → Type 0) → List Packet → Reading → Option (List ℕ) → Type 0
Emits WasToBeRead packets now left =
    (rest : List ℕ) × (left ≡ Some rest)
    × ((others : List Packet) (ending : Ending) → ReadsOn now rest others ending → WasToBeRead (packets ++ others) ending)

-- The packet whose record or block has these bytes.
abbrev pub packet_of : ℕ → Record → List ℕ → Packet
packet_of n r octets = record { number = n; time = r.time; link = r.link; octets = take r.held (drop r.body octets); whole = r.whole }

-- Holds if the step's packet lies within the first n bytes.
abbrev pub StepIsWithin : ℕ → Step → Type 0
StepIsWithin n (step.Packet number r) = r.body + r.held ≤ n
StepIsWithin n step.Passed = Unit {0}
StepIsWithin n step.End = Unit {0}

-- The result of a step if this input follows what was read. The end, a cut and an error are returned only if no packet
-- comes before them. Whatever the result, the emitted and the remaining packets together are those that were to be
-- read.
abbrev pub StepsAs : Reading → List ℕ → Result Step FileFault → Reading → Option (List ℕ) → Type 0
StepsAs was input (Ok (step.Packet n r)) now left = Emits (ReadsOn was input) (packet_of n r now.last ∷ []) now left
StepsAs was input (Ok step.Passed) now left = Emits (ReadsOn was input) [] now left
StepsAs was input (Ok step.End) now left = Emits (ReadsOn was input) [] now left × ReadsOn was input [] complete × (left ≡ Some [])
StepsAs was input (Err stop.CutOff) now left = Emits (ReadsOn was input) [] now left × ReadsOn was input [] (cut now.state.packets) × (left ≡ Some [])
StepsAs was input (Err (stop.Capture place f)) now left = Emits (ReadsOn was input) [] now left × ReadsOn was input [] (faulty now.state.packets place f)
StepsAs was input (Err stop.Read) now left = Emits (ReadsOn was input) [] now left
StepsAs was input (Err stop.Memory) now left = Emits (ReadsOn was input) [] now left

-- Each step but the last passes a record or block.
abbrev pub PassesOn : Step → ℕ → ℕ → Type 0
PassesOn (step.Packet n r) old new = old < 2 ^ 64 - 1 → old < new
PassesOn step.Passed old new = old < 2 ^ 64 - 1 → old < new
PassesOn step.End old new = new ≡ old

-- The number of packets that were passed: a packet's number is the count up to and including it.
abbrev pub CountsOn : Step → ℕ → ℕ → Type 0
CountsOn (step.Packet n r) old new = (n ≡ min (old + 1) (2 ^ 64 - 1)) × (new ≡ n)
CountsOn step.Passed old new = (new ≡ old) ⊎ (new ≡ min (old + 1) (2 ^ 64 - 1))
CountsOn step.End old new = new ≡ old

-- Each step but the last passes at least one byte. These bytes are a prefix of what was read ahead and the input.
abbrev pub TakesFront : Reading → List ℕ → Reading → Option (List ℕ) → Type 0
TakesFront was input now left =
    (rest : List ℕ) × (left ≡ Some rest) × (was.ahead ++ input ≡ now.last ++ (now.ahead ++ rest)) × (0 < length now.last)

abbrev pub TakesOn : Reading → List ℕ → Reading → Option (List ℕ) → Step → Type 0
TakesOn was input now left (step.Packet n r) = TakesFront was input now left
TakesOn was input now left step.Passed = TakesFront was input now left
TakesOn was input now left step.End = Unit {0}

-- Holds if a prefix of the input was passed, and the opened file's read-ahead bytes follow it.
abbrev pub TakesHeader : List ℕ → Option (List ℕ) → Reading → Type 0
TakesHeader input left now = (header rest : List ℕ) × (left ≡ Some rest) × (input ≡ header ++ (now.ahead ++ rest))

-- Holds if a prefix of the input was consumed.
abbrev pub LeavesRest : List ℕ → Option (List ℕ) → Type 0
LeavesRest input left = (taken rest : List ℕ) × (input ≡ taken ++ rest) × (left ≡ Some rest)

-- The result of opening a file with this input.
abbrev pub OpensAs : List ℕ → Result Reading FileFault → Option (List ℕ) → Type 0
OpensAs input (Ok now) left = Emits (ReadsFile input) [] now left
OpensAs input (Err stop.CutOff) left = ReadsFile input [] (cut 0) × (left ≡ Some [])
OpensAs input (Err (stop.Capture place f)) left = ReadsFile input [] (faulty 0 place f) × LeavesRest input left
OpensAs input (Err stop.Read) left = LeavesRest input left
OpensAs input (Err stop.Memory) left = LeavesRest input left

-- How often a source has failed, after this result.
abbrev pub failures_after : {T : Type 0} → Result T FileFault → ℕ → ℕ
failures_after (Ok _) n = n
failures_after (Err (stop.Capture place f)) n = n
failures_after (Err stop.CutOff) n = n
failures_after (Err stop.Read) n = next_count n
failures_after (Err stop.Memory) n = n

-- How often the end of the source was found, after this result of a step.
abbrev pub ends_after_step : Result Step FileFault → ℕ → ℕ
ends_after_step (Ok (step.Packet number r)) n = n
ends_after_step (Ok step.Passed) n = n
ends_after_step (Ok step.End) n = next_count n
ends_after_step (Err (stop.Capture place f)) n = n
ends_after_step (Err stop.CutOff) n = next_count n
ends_after_step (Err stop.Read) n = n
ends_after_step (Err stop.Memory) n = n

-- How often the end of the source was found, after this result of opening a file.
abbrev pub ends_after_open : {T : Type 0} → Result T FileFault → ℕ → ℕ
ends_after_open (Ok _) n = n
ends_after_open (Err (stop.Capture place f)) n = n
ends_after_open (Err stop.CutOff) n = next_count n
ends_after_open (Err stop.Read) n = n
ends_after_open (Err stop.Memory) n = n

-- ---- for private contracts

-- The file error for a failed read-ahead.
abbrev pub of_ahead : AheadFault → FileFault
of_ahead ahead.Read = stop.Read
of_ahead ahead.Memory = stop.Memory
