-- What only contracts of private functions use, besides the definitions of `Merge`.
use Rattle.std.specs.Prelude.{◌≡◌, ◌≢◌, ◌++◌, ℕ, List, [], ◌∷◌}
use Rattle.hsms_frame.specs.Frame.{Frame}
use Rattle.hsms_compare.specs.declared.channel.SentFrame.{SentFrame}
use Rattle.hsms_compare.specs.declared.stop.MergeResult.{MergeResult}
use Rattle.hsms_compare.specs.declared.stop.MergeResult.TheVariants.{Merged, NoneInFlight, OtherInFlight}
use Rattle.hsms_compare.specs.Conversation.{Line, received_by}
use Rattle.hsms_compare.specs.Merge.{sent_frame, sent_frames_by, frames_of}

-- ---- of private functions

-- The result of a channel for a received frame, and the channel after that.
abbrev pub Receives : List SentFrame → Frame → MergeResult → List SentFrame → Type 0
Receives old frame Merged new = (position : ℕ) × (old ≡ sent_frame position frame ∷ new)
Receives old frame NoneInFlight new = (old ≡ []) × (new ≡ old)
Receives old frame (OtherInFlight position) new =
    (another : Frame) × (later : List SentFrame) × (old ≡ sent_frame position another ∷ later) × (another ≢ frame) × (new ≡ old)

-- How the next line changes what is in flight. It receives the first frame or none, and sends its own frames. Or it
-- receives a frame and none is in flight, or another one is the first.
abbrev pub IsStep : (coming outbound : List SentFrame) → Line → MergeResult → (coming' outbound' : List SentFrame) → Type 0
IsStep coming outbound line Merged coming' outbound' =
    (arrived : List SentFrame) × (coming ≡ arrived ++ coming') × (frames_of arrived ≡ received_by line.entry.event)
    × (outbound' ≡ outbound ++ sent_frames_by line)
IsStep coming outbound line NoneInFlight coming' outbound' =
    (frame : Frame) × (received_by line.entry.event ≡ frame ∷ []) × (coming ≡ []) × (coming' ≡ coming) × (outbound' ≡ outbound)
IsStep coming outbound line (OtherInFlight position) coming' outbound' =
    (frame : Frame) × (another : Frame) × (later : List SentFrame) × (received_by line.entry.event ≡ frame ∷ [])
    × (coming ≡ sent_frame position another ∷ later) × (another ≢ frame) × (coming' ≡ coming) × (outbound' ≡ outbound)
