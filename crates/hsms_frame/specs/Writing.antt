-- What is written of a message, and the errors of a write.
use Rattle.std.specs.Prelude.{◌≡◌, ◌<◌, ◌≤◌, ◌+◌, ◌^◌, ℕ, List, length, Option, Result, Ok, Err}
use Rattle.hsms_frame.specs.declared.header.Header.{Header}
use Rattle.hsms_frame.specs.declared.fault.FrameFault.{FrameFault}
use Rattle.hsms_frame.specs.declared.fault.FrameFault.TheVariants as frame
use Rattle.hsms_frame.specs.declared.fault.WriteFault.{WriteFault}
use Rattle.hsms_frame.specs.declared.fault.WriteFault.TheVariants as write
use Rattle.hsms_frame.specs.CallCounts.{next_count}
use Rattle.hsms_frame.specs.Io.{Stays, Grows, GrowsByFront}
use Rattle.hsms_frame.specs.Frame.{Frame, frame_octets}

-- Holds if header and text are n bytes, more than a length field can hold.
pub record IsPastLengthField (f : Frame) (n : ℕ) (h : Header) : Type 0 where
  pub size : n ≡ 10 + length f.text
  pub header : h ≡ f.header
  pub long : 2 ^ 32 ≤ n

-- Holds if this is why a message is not encoded: it is too long, or it is not and an allocation failed.
abbrev pub IsNotEncoded : Frame → FrameFault → Type 0
IsNotEncoded f (frame.TooShort n) = ⊥
IsNotEncoded f (frame.TooLong n h) = IsPastLengthField f n h
IsNotEncoded f frame.Memory = 10 + length f.text < 2 ^ 32

-- Holds if this is a result for a message to write, with the output before and after.
abbrev pub WritesAs : Frame → Result (Unit {0}) WriteFault → Option (List ℕ) → Option (List ℕ) → Type 0
WritesAs f (Ok _) old new = (10 + length f.text < 2 ^ 32) × Grows old new (frame_octets f)
WritesAs f (Err (write.TooLong n h)) old new = IsPastLengthField f n h × Stays old new
WritesAs f (Err write.Write) old new = (10 + length f.text < 2 ^ 32) × GrowsByFront old new (frame_octets f)

-- How often a sink has failed after a write, by the result.
abbrev pub failures_after_write : Result (Unit {0}) WriteFault → ℕ → ℕ
failures_after_write (Ok _) n = n
failures_after_write (Err (write.TooLong _ _)) n = n
failures_after_write (Err write.Write) n = next_count n
