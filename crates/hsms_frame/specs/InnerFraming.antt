-- What only contracts of private functions use, besides the definitions of `Framing`.
use Rattle.std.specs.Prelude.{◌+◌, ℕ, length, Option, Some, None, Result, Ok, Err}
use Rattle.hsms_frame.specs.declared.fault.FrameFault.{FrameFault}
use Rattle.hsms_frame.specs.Frame.{Frame}

-- How many bytes a result removes: those of the returned message, or none.
abbrev pub size_of : Result (Option Frame) FrameFault → ℕ
size_of (Ok (Some f)) = 14 + length f.text
size_of (Ok None) = 0
size_of (Err fault) = 0
