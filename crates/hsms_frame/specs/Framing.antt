-- Messages from bytes that come in chunks.
use Rattle.std.specs.Prelude.{◌≡◌, ◌≤◌, ◌<◌, ◌+◌, ◌++◌, ℕ, List, length, take, drop, Option, Some, None, Result, Ok, Err}
use Rattle.hsms_frame.specs.declared.header.Header.{Header}
use Rattle.hsms_frame.specs.declared.fault.FrameFault.{FrameFault}
use Rattle.hsms_frame.specs.declared.fault.FrameFault.TheVariants.{TooShort, TooLong, Memory}
use Rattle.hsms_frame.specs.Header.{header_octets, IsHeader}
use Rattle.hsms_frame.specs.Frame.{Frame, frame_octets, length_field, IsFrame, IsOctets, IsTooShort, IsTooLong, IsFaultless, IsProperFront}

-- The state of a framer: its limit, and the bytes that belong to no returned message.
pub record FramerState : Type 0 where
  pub max : ℕ
  pub pending : List ℕ

-- Holds if the bytes were appended to the pending bytes.
abbrev pub IsPushed : FramerState → List ℕ → FramerState → Type 0
IsPushed old octets new = new ≡ record old { pending = old.pending ++ octets }

-- Holds if this is a result for pending bytes, and the last argument is what is pending afterwards.
abbrev pub FramesAs : ℕ → List ℕ → Result (Option Frame) FrameFault → List ℕ → Type 0
FramesAs max pending (Ok (Some f)) rest = (pending ≡ frame_octets f ++ rest) × IsFrame f × (10 + length f.text ≤ max)
FramesAs max pending (Ok None) rest = IsFaultless max pending × IsProperFront pending × (rest ≡ pending)
FramesAs max pending (Err (TooShort n)) rest = IsTooShort pending n × (rest ≡ pending)
FramesAs max pending (Err (TooLong n h)) rest = IsTooLong max pending n h × (rest ≡ pending)
FramesAs max pending (Err Memory) rest =
    (f : Frame) × (more : List ℕ) × (pending ≡ frame_octets f ++ more) × IsFrame f × (10 + length f.text ≤ max)
    × (0 < length f.text) × (rest ≡ pending)

-- Holds if a complete message is at the front, with this header and this size of its text.
pub record IsFrontOf (max : ℕ) (octets : List ℕ) (h : Header) (size : ℕ) : Type 0 where
  pub there : 14 + size ≤ length octets
  pub field : length_field octets ≡ 10 + size
  pub within : 10 + size ≤ max
  pub header : header_octets h ≡ take 10 (drop 4 octets)
  pub header_fits : IsHeader h
  pub fits : IsOctets octets

-- Holds if this is the result for the front of bytes: a complete message, a part of one, or an error.
abbrev pub FrontAs : ℕ → List ℕ → Result (Option (Header × ℕ)) FrameFault → Type 0
FrontAs max octets (Ok (Some front)) = IsFrontOf max octets front.0 front.1
FrontAs max octets (Ok None) = IsFaultless max octets × IsProperFront octets
FrontAs max octets (Err (TooShort n)) = IsTooShort octets n
FrontAs max octets (Err (TooLong n h)) = IsTooLong max octets n h
FrontAs max octets (Err Memory) = ⊥
