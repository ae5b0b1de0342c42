-- The errors of `hsms capture`: their texts, and how often a read or a write failed.
use Rattle.std.specs.Prelude.{◌++◌, ℕ, List, codes, decimal, Result, Ok, Err}
use Rattle.hsms_frame.specs.CallCounts.{next_count}
use Rattle.capture_pcap.specs.Fault.{file_fault_text}
use Rattle.capture_pcap.specs.declared.fault.FileFault.{FileFault}
use Rattle.capture_pcap.specs.declared.fault.FileFault.TheVariants as file
use Rattle.capture_errors.specs.declared.incomplete.Shortfall.{Shortfall}
use Rattle.capture_errors.specs.declared.incomplete.Shortfall.TheVariants.{Lost, Differs, Length, Full, Time, File}
use Rattle.capture_errors.specs.declared.rejection.Rejection.{Rejection}
use Rattle.capture_errors.specs.declared.rejection.Rejection.TheVariants.{Incomplete, Overlap, Peer, NoConnection, NotJudged}
use Rattle.capture_errors.specs.declared.capture_error.CaptureError.{CaptureError}
use Rattle.capture_errors.specs.declared.capture_error.CaptureError.TheVariants.{Refused, Read, Write, Endless, Memory}

-- The packet that is named if something is missing.
abbrev pub packet_of : Shortfall → ℕ
packet_of (Lost packet) = packet
packet_of (Differs packet) = packet
packet_of (Length packet) = packet
packet_of (Full packet) = packet
packet_of (Time packet) = packet
packet_of (File fault packet) = packet

-- The name of an error in the bytes of the file after `Capture`, and another error of the file.
abbrev pub file_text : FileFault → List ℕ
file_text (file.Capture place fault) = codes "Capture " ++ file_fault_text (file.Capture place fault)
file_text fault = file_fault_text fault

-- What is missing, and its packet. For the file its error.
abbrev pub shortfall_text : Shortfall → List ℕ
shortfall_text (Lost packet) = codes "Lost packet=" ++ decimal packet
shortfall_text (Differs packet) = codes "Differs packet=" ++ decimal packet
shortfall_text (Length packet) = codes "Length packet=" ++ decimal packet
shortfall_text (Full packet) = codes "Full packet=" ++ decimal packet
shortfall_text (Time packet) = codes "Time packet=" ++ decimal packet
shortfall_text (File fault packet) = file_text fault

-- Why a capture is rejected, and its packet.
abbrev pub rejection_text : Rejection → List ℕ
rejection_text (Incomplete shortfall) = shortfall_text shortfall
rejection_text (Overlap packet) = codes "Overlap packet=" ++ decimal packet
rejection_text (Peer packet) = codes "Peer packet=" ++ decimal packet
rejection_text NoConnection = codes "NoConnection"
rejection_text NotJudged = codes "NotJudged"

-- The text of an error.
abbrev pub capture_error_text : CaptureError → List ℕ
capture_error_text (Refused rejection) = rejection_text rejection
capture_error_text Read = codes "Read"
capture_error_text Write = codes "Write"
capture_error_text Endless = codes "Endless"
capture_error_text Memory = codes "Memory"

-- Holds if the capture is rejected.
abbrev pub IsRefusal : CaptureError → Type 0
IsRefusal (Refused rejection) = Unit {0}
IsRefusal error = ⊥

-- How often a source has failed, by the result.
abbrev pub reads_after : {T : Type 0} → Result T CaptureError → ℕ → ℕ
reads_after (Ok _) n = n
reads_after (Err Read) n = next_count n
reads_after (Err error) n = n

-- How often a sink has failed, by the result.
abbrev pub writes_after : {T : Type 0} → Result T CaptureError → ℕ → ℕ
writes_after (Ok _) n = n
writes_after (Err Write) n = next_count n
writes_after (Err error) n = n
