-- Consecutive calls of a framer.
use Rattle.std.specs.Prelude.{◌≡◌, ℕ, List, [], ◌∷◌, Option, Some, None, Result, Ok, Err}
use Rattle.hsms_frame.specs.Frame.{Frame}
use Rattle.hsms_frame.specs.declared.fault.FrameFault.{FrameFault}
use Rattle.hsms_frame.specs.Framing.{FramerState, FramesAs, IsPushed}

-- A call and its result: a push of bytes, or a request for the next message.
pub data Call : Type 0 where
  Push : List ℕ → Result (Unit {0}) FrameFault → Call
  Next : Result (Option Frame) FrameFault → Call

-- Holds if the call has this effect, as the contracts of `push` and `next` state.
abbrev pub Performs : FramerState → Call → FramerState → Type 0
Performs old (Push octets (Ok _)) new = IsPushed old octets new
Performs old (Push octets (Err _)) new = new ≡ old
Performs old (Next answer) new = FramesAs old.max old.pending answer new.pending × (new.max ≡ old.max)

-- Holds if the calls have this effect, in order.
abbrev pub PerformsAll : FramerState → List Call → FramerState → Type 0
PerformsAll old [] new = new ≡ old
PerformsAll old (call ∷ calls) new = (mid : FramerState) × Performs old call mid × PerformsAll mid calls new

-- The bytes that a call pushed.
abbrev pub octets_of : Call → List ℕ
octets_of (Push octets (Ok _)) = octets
octets_of (Push octets (Err _)) = []
octets_of (Next answer) = []

-- The message that a call returned, if it returned one.
abbrev pub message_of : Call → List Frame
message_of (Push octets result) = []
message_of (Next (Ok (Some f))) = f ∷ []
message_of (Next (Ok None)) = []
message_of (Next (Err fault)) = []

-- Holds if no complete message is pending.
abbrev pub IsDrained : FramerState → Type 0
IsDrained framer = (f : Frame) (rest : List ℕ) → FramesAs framer.max framer.pending (Ok (Some f)) rest → ⊥
