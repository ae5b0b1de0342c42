-- One direction of a connection: what the received frames are of the sent ones. Sent frames are numbered from 0. Marks
-- tell of each sent frame before the next one whether it is skipped.
use Rattle.std.specs.Prelude.{◌≡◌, ◌+◌, ◌-◌, ◌<◌, ◌≤◌, ◌++◌, ℕ, List, [], ◌∷◌, Bool, true, false, IsTrue, length, replicate, slice_index_or, slice_set}
use Rattle.hsms_frame.specs.Frame.{Frame}
use Rattle.hsms_compare_repair.specs.declared.numbered_frame.NumberedFrame.{NumberedFrame}
use Rattle.hsms_compare_repair.specs.declared.finding.Finding.{Finding}
use Rattle.hsms_compare_repair.specs.declared.finding.Finding.TheVariants.{Next, Late, Altered, Repeated, Unknown}

abbrev pub no_frame : NumberedFrame
no_frame = record {
  line = 0;
  frame = record { header = record { session = 0; byte2 = 0; byte3 = 0; ptype = 0; stype = 0; system = 0 }; text = [] };
}

abbrev pub frame_at : List NumberedFrame → ℕ → NumberedFrame
frame_at frames k = slice_index_or frames k no_frame

-- Holds if this frame is the sent one with the number k.
abbrev pub IsSent : List NumberedFrame → Frame → ℕ → Type 0
IsSent sent frame k = (k < length sent) × ((frame_at sent k).frame ≡ frame)

-- Holds if it is the next sent frame, or one of the 255 after that.
abbrev pub IsAhead : List NumberedFrame → ℕ → Frame → ℕ → Type 0
IsAhead sent next frame k = (next ≤ k) × (k < next + 256) × IsSent sent frame k

-- Holds if it is one of the 256 sent frames before the next one.
abbrev pub IsBehind : List NumberedFrame → ℕ → Frame → ℕ → Type 0
IsBehind sent next frame k = (k < next) × (next ≤ k + 256) × IsSent sent frame k

-- Holds if it is one of these, and skipped.
abbrev pub IsSkipped : List NumberedFrame → List Bool → Frame → ℕ → Type 0
IsSkipped sent marks frame k = IsBehind sent (length marks) frame k × IsTrue (slice_index_or marks k false)

-- Holds if the next sent frame has the same header.
abbrev pub HasNextHeader : List NumberedFrame → ℕ → Frame → Type 0
HasNextHeader sent next frame = (next < length sent) × ((frame_at sent next).frame.header ≡ frame.header)

-- Holds if it is received before. At the end of an open log it may also be sent again.
abbrev pub IsRepeated : List NumberedFrame → Bool → ℕ → Frame → Type 0
IsRepeated sent more next frame = ((k : ℕ) × IsBehind sent next frame k) × (IsTrue more → next ≡ length sent → ⊥)

-- The least number for which it holds.
pub record IsLeast (P : ℕ → Type 0) (k : ℕ) : Type 0 where
  pub holds : P k
  pub least : (m : ℕ) → m < k → P m → ⊥

-- The rows of the table. `next` is the number of the next sent frame.
abbrev pub Applies : List NumberedFrame → Bool → List Bool → Frame → Finding → Type 0
Applies sent more marks frame (Next next k) = (next ≡ length marks) × IsLeast (IsAhead sent (length marks) frame) k
Applies sent more marks frame (Late k) = IsLeast (IsSkipped sent marks frame) k
Applies sent more marks frame (Altered next) = (next ≡ length marks) × HasNextHeader sent (length marks) frame
Applies sent more marks frame Repeated = IsRepeated sent more (length marks) frame
Applies sent more marks frame Unknown = Unit {0}

abbrev pub row : Finding → ℕ
row (Next next k) = 0
row (Late k) = 1
row (Altered next) = 2
row Repeated = 3
row Unknown = 4

-- The first row that applies to a received frame.
pub record IsFinding (sent : List NumberedFrame) (more : Bool) (marks : List Bool) (frame : Frame) (found : Finding) : Type 0 where
  pub applies : Applies sent more marks frame found
  pub first : (other : Finding) → row other < row found → Applies sent more marks frame other → ⊥

-- The marks after a received frame. A number past the next one skips those between.
abbrev pub marks_after : List Bool → Finding → List Bool
marks_after marks (Next next k) = marks ++ (replicate (k - next) true ++ false ∷ [])
marks_after marks (Late k) = slice_set marks k false
marks_after marks (Altered next) = marks ++ false ∷ []
marks_after marks Repeated = marks
marks_after marks Unknown = marks

-- The number of unknown frames in a row.
abbrev pub unknown_after : ℕ → Finding → ℕ
unknown_after unknown (Next next k) = 0
unknown_after unknown (Late k) = 0
unknown_after unknown (Altered next) = 0
unknown_after unknown Repeated = 0
unknown_after unknown Unknown = unknown + 1

-- What the received frames are, one after the other, and the last marks and number of unknown frames in a row. After
-- 256 of these no more frames are looked at.
abbrev pub AreFindings : List NumberedFrame → Bool → List Bool → ℕ → List NumberedFrame → List Finding → List Bool → ℕ → Type 0
AreFindings sent more marks unknown [] [] last left = (last ≡ marks) × (left ≡ unknown)
AreFindings sent more marks unknown [] (found ∷ findings) last left = ⊥
AreFindings sent more marks unknown (frame ∷ received) [] last left = (256 ≤ unknown) × (last ≡ marks) × (left ≡ unknown)
AreFindings sent more marks unknown (frame ∷ received) (found ∷ findings) last left =
    (unknown < 256) × IsFinding sent more marks frame.frame found
    × AreFindings sent more (marks_after marks found) (unknown_after unknown found) received findings last left
