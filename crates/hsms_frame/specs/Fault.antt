-- The names of the errors of a message.
use Rattle.std.specs.Prelude.{ℕ, List, ◌++◌, codes, decimal}
use Rattle.hsms_frame.specs.declared.fault.AheadFault.{AheadFault}
use Rattle.hsms_frame.specs.declared.fault.AheadFault.TheVariants as ahead
use Rattle.hsms_frame.specs.declared.fault.FrameFault.{FrameFault}
use Rattle.hsms_frame.specs.declared.fault.FrameFault.TheVariants as frame
use Rattle.hsms_frame.specs.declared.fault.ReadFault.{ReadFault}
use Rattle.hsms_frame.specs.declared.fault.ReadFault.TheVariants as read
use Rattle.hsms_frame.specs.declared.fault.WriteFault.{WriteFault}
use Rattle.hsms_frame.specs.declared.fault.WriteFault.TheVariants as write

-- The name of an error in bytes, and its length.
abbrev pub frame_fault_text : FrameFault → List ℕ
frame_fault_text (frame.TooShort length) = codes "TooShort length=" ++ decimal length
frame_fault_text (frame.TooLong length header) = codes "TooLong length=" ++ decimal length
frame_fault_text frame.Memory = codes "Memory"

-- The name of an error of a read, and its length.
abbrev pub read_fault_text : ReadFault → List ℕ
read_fault_text (read.TooShort length) = codes "TooShort length=" ++ decimal length
read_fault_text (read.TooLong length header) = codes "TooLong length=" ++ decimal length
read_fault_text read.Memory = codes "Memory"
read_fault_text read.CutOff = codes "CutOff"
read_fault_text read.Read = codes "Read"

-- The name of an error of a write, and its length.
abbrev pub write_fault_text : WriteFault → List ℕ
write_fault_text (write.TooLong length header) = codes "TooLong length=" ++ decimal length
write_fault_text write.Write = codes "Write"

-- The name of an error of a read ahead.
abbrev pub ahead_fault_text : AheadFault → List ℕ
ahead_fault_text ahead.Read = codes "Read"
ahead_fault_text ahead.Memory = codes "Memory"
