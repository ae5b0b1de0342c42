-- The names of the errors of reading a capture.
use Rattle.std.specs.Prelude.{ℕ, List, ◌++◌, codes, decimal}
use Rattle.capture_pcap.specs.declared.fault.CaptureFault.{CaptureFault}
use Rattle.capture_pcap.specs.declared.fault.CaptureFault.TheVariants as capture
use Rattle.capture_pcap.specs.declared.fault.FileFault.{FileFault}
use Rattle.capture_pcap.specs.declared.fault.FileFault.TheVariants as file

-- The name of an error in the bytes of a capture.
abbrev pub capture_fault_text : CaptureFault → List ℕ
capture_fault_text capture.Unknown = codes "Unknown"
capture_fault_text capture.Gzip = codes "Gzip"
capture_fault_text capture.Zstd = codes "Zstd"
capture_fault_text capture.Length = codes "Length"
capture_fault_text capture.Trailer = codes "Trailer"
capture_fault_text capture.Order = codes "Order"
capture_fault_text capture.Interface = codes "Interface"
capture_fault_text capture.Resolution = codes "Resolution"
capture_fault_text capture.Memory = codes "Memory"

-- The name of an error in a capture file, and its offset.
abbrev pub file_fault_text : FileFault → List ℕ
file_fault_text (file.Capture place fault) = capture_fault_text fault ++ codes " octet=" ++ decimal place
file_fault_text file.CutOff = codes "CutOff"
file_fault_text file.Read = codes "Read"
file_fault_text file.Memory = codes "Memory"
