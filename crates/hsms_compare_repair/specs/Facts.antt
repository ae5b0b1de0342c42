-- What is told of one direction of a connection.
use Rattle.std.specs.Prelude.{◌≡◌, ◌+◌, ◌-◌, ◌++◌, ◌==◌, ◌&&◌, ◌||◌, if◌then◌else◌, ℕ, zero, suc, List, [], ◌∷◌, Bool, false, nat_le, nat_lt, length, map, take, drop, slice_index_or}
use Rattle.std.specs.List.{filter}
use Rattle.hsms_compare_repair.specs.declared.numbered_frame.NumberedFrame.{NumberedFrame}
use Rattle.hsms_compare_repair.specs.declared.finding.Finding.{Finding}
use Rattle.hsms_compare_repair.specs.declared.finding.Finding.TheVariants.{Next, Late, Altered, Repeated, Unknown}
use Rattle.hsms_compare_repair.specs.declared.fact.Fact.{Fact}
use Rattle.hsms_compare_repair.specs.declared.fact.Fact.TheVariants.{Skipped, Swapped, Differs, Again, Unsent, Later, Unfound}
use Rattle.hsms_compare_repair.specs.Findings.{AreFindings, frame_at}

abbrev pub line_at : List NumberedFrame → ℕ → ℕ
line_at frames k = (frame_at frames k).line

-- What is told of a sent frame that a line skips. Nothing, if the frame is received later.
abbrev pub skipped_fact : List NumberedFrame → List Bool → ℕ → ℕ → List Fact
skipped_fact sent last line k = if slice_index_or last k false then Skipped (line_at sent k) line ∷ [] else []

-- The same of this count of sent frames from the k-th on.
abbrev pub skipped_facts : List NumberedFrame → List Bool → ℕ → ℕ → ℕ → List Fact
skipped_facts sent last line k zero = []
skipped_facts sent last line k (suc count) = skipped_fact sent last line k ++ skipped_facts sent last line (k + 1) count

-- What is told of a received frame, if these are the last marks.
abbrev pub facts_at : List NumberedFrame → List Bool → ℕ → Finding → List Fact
facts_at sent last line (Next next k) = skipped_facts sent last line next (k - next)
facts_at sent last line (Late k) = Swapped (line_at sent k) line ∷ []
facts_at sent last line (Altered next) = Differs (line_at sent next) line ∷ []
facts_at sent last line Repeated = Again line ∷ []
facts_at sent last line Unknown = Unsent line ∷ []

-- What is told of the received frames from the i-th on.
abbrev pub facts_from : List NumberedFrame → List Bool → List NumberedFrame → ℕ → List Finding → List Fact
facts_from sent last received i [] = []
facts_from sent last received i (found ∷ findings) =
    facts_at sent last (line_at received i) found ++ facts_from sent last received (i + 1) findings

-- ---- the last frames, which are unknown

abbrev pub unsents : List ℕ → List Fact
unsents lines = map Unsent lines

abbrev pub laters : List ℕ → List Fact
laters [] = []
laters (line ∷ lines) = Later line (length lines + 1) ∷ []

abbrev pub unfounds : List ℕ → List Fact
unfounds [] = []
unfounds (line ∷ lines) = Unfound line ∷ []

-- If the sender's log is open and all of it is matched, those after the last line that it shows may be sent later. If
-- 256 sent frames or more are left, or 256 unknown ones were received, a part of a log may be missing.
abbrev pub facts_of_unknown : ℕ → Bool → ℕ → ℕ → List ℕ → List Fact
facts_of_unknown count more shown next lines =
    if more && (next == count) then unsents (filter (λ line. nat_le line shown) lines) ++ laters (filter (λ line. nat_lt shown line) lines)
    else if nat_le (next + 256) count || (length lines == 256) then unfounds lines
    else unsents lines

-- ---- all

-- The number of received frames before those that are unknown to the end.
abbrev pub known : List Finding → ℕ → ℕ
known findings left = length findings - left

abbrev pub facts_of_findings : List NumberedFrame → Bool → ℕ → List NumberedFrame → List Finding → List Bool → ℕ → List Fact
facts_of_findings sent more shown received findings last left =
    facts_from sent last received 0 (take (known findings left) findings)
    ++ facts_of_unknown (length sent) more shown (length last)
    (map (λ (frame : NumberedFrame). frame.line) (take left (drop (known findings left) received)))

-- The facts of one direction. The sender's log may have more if it is open, and shows the receiver's lines up to this
-- one as received.
pub record AreFacts (sent received : List NumberedFrame) (more : Bool) (shown : ℕ) (facts : List Fact) : Type 0 where
  pub findings : List Finding
  pub last : List Bool
  pub left : ℕ
  pub found : AreFindings sent more [] 0 received findings last left
  pub told : facts ≡ facts_of_findings sent more shown received findings last left

-- The last line of the sender that the receiver's log shows as received, 0 if there is none.
pub record IsShown (sent received : List NumberedFrame) (more : Bool) (line : ℕ) : Type 0 where
  pub findings : List Finding
  pub last : List Bool
  pub left : ℕ
  pub found : AreFindings sent more [] 0 received findings last left
  pub line_is : line ≡ (if length last == 0 then 0 else line_at sent (length last - 1))
