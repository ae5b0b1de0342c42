-- The merge of two logs, entry by entry, and the frames in flight between their endpoints.
use Rattle.std.specs.Prelude.{◌≡◌, ◌≢◌, ◌++◌, ℕ, List, [], ◌∷◌, map, slice_index_or, length}
use Rattle.hsms_frame.specs.Frame.{Frame}
use Rattle.hsms_machine.specs.declared.entry.Event.TheVariants.{Up}
use Rattle.hsms_machine.specs.declared.settings.Role.{Role}
use Rattle.hsms_machine.specs.declared.settings.Role.TheVariants.{Host, Equipment}
use Rattle.hsms_compare.specs.declared.channel.SentFrame.{SentFrame}
use Rattle.hsms_compare.specs.declared.stop.MergeResult.{MergeResult}
use Rattle.hsms_compare.specs.declared.stop.MergeResult.TheVariants.{Merged, NoneInFlight, OtherInFlight}
use Rattle.hsms_compare.specs.declared.merge.Merge.{Merge}
use Rattle.hsms_compare.specs.Conversation.{Agree, Line, entries, peer, sent, received, sent_by, received_by}
use Rattle.hsms_compare.specs.Agreement.{SendsAs}

-- ---- frames in flight

abbrev pub sent_frame : ℕ → Frame → SentFrame
sent_frame position frame = record { position = position; frame = frame }

-- The frame that a line sends, with its position.
abbrev pub sent_frames_by : Line → List SentFrame
sent_frames_by line = map (sent_frame line.position) (sent_by line.entry.event)

-- The frames that a log sends, each with the position of its line.
abbrev pub sent_frames_of : List Line → List SentFrame
sent_frames_of [] = []
sent_frames_of (line ∷ lines) = sent_frames_by line ++ sent_frames_of lines

abbrev pub frames_of : List SentFrame → List Frame
frames_of flight = map (λ (one : SentFrame). one.frame) flight

-- Holds if these are the frames that the sender's log sends and the receiver's does not receive.
pub record AreInFlight (sender receiver : List Line) (flight : List SentFrame) : Type 0 where
  pub arrived : List SentFrame
  pub all : sent_frames_of sender ≡ arrived ++ flight
  pub received_so : frames_of arrived ≡ received (entries receiver)

-- Holds for two logs that agree, with these frames in flight to the first one and from it.
pub record AreMerged (incoming outgoing : List SentFrame) (own other : List Line) : Type 0 where
  pub agree : Agree (entries own) (entries other)
  pub coming : AreInFlight other own incoming
  pub outbound : AreInFlight own other outgoing

-- ---- a merge

abbrev pub incoming : Role → Merge → List SentFrame
incoming Host merge = merge.to_host
incoming Equipment merge = merge.to_equipment

-- Holds if these lines are merged, of the log of this endpoint and of the other one.
abbrev pub IsMergeOf : Role → Merge → (own other : List Line) → Type 0
IsMergeOf end merge own other = AreMerged (incoming end merge) (incoming (peer end) merge) own other

abbrev pub line_at : List Line → ℕ → Line
line_at lines k = slice_index_or lines k (record { position = 0; entry = record { time = 0; event = Up } })

-- The result of adding the next line of an endpoint's log. It is merged; or it receives a frame, and all that was
-- sent is received; or it receives another frame than the one that the line with this position sent.
abbrev pub IsMergeStep : (own other : List Line) → Role → Line → Merge → MergeResult → Merge → Type 0
IsMergeStep own other end line old Merged new = IsMergeOf end new (own ++ line ∷ []) other
IsMergeStep own other end line old NoneInFlight new =
    (frame : Frame) × (received_by line.entry.event ≡ frame ∷ []) × (sent (entries other) ≡ received (entries own)) × (new ≡ old)
IsMergeStep own other end line old (OtherInFlight position) new =
    (frame : Frame) × (another : Frame) × (k : ℕ) × (received_by line.entry.event ≡ frame ∷ [])
    × ((line_at other k).position ≡ position) × SendsAs (entries other) k another (length (received (entries own))) × (another ≢ frame)
    × (new ≡ old)
