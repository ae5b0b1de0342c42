-- The laws of the facts of one direction.
use Rattle.std.specs.Prelude.{◌↔◌, ◌≡◌, ◌⊎◌, ◌-◌, ◌++◌, ◌<◌, ◌≤◌, ℕ, List, [], ◌∷◌, Bool, IsTrue, length, map, take, drop}
use Rattle.hsms_frame.specs.Frame.{Frame}
use Rattle.hsms_compare.specs.Conversation.{IsPrefix}
use Rattle.hsms_compare_repair.specs.declared.numbered_frame.NumberedFrame.{NumberedFrame}
use Rattle.hsms_compare_repair.specs.declared.finding.Finding.{Finding}
use Rattle.hsms_compare_repair.specs.declared.finding.Finding.TheVariants.{Next, Late, Altered, Repeated, Unknown}
use Rattle.hsms_compare_repair.specs.declared.fact.Fact.{Fact}
use Rattle.hsms_compare_repair.specs.declared.fact.Fact.TheVariants.{Later}
use Rattle.hsms_compare_repair.specs.Findings.{AreFindings, frame_at}
use Rattle.hsms_compare_repair.specs.Facts.{AreFacts, line_at}

-- A direction has one list of facts.
abbrev pub OneListOfFacts : Type 0
OneListOfFacts =
    (sent received : List NumberedFrame) (more : Bool) (shown : ℕ) (facts others : List Fact)
    → AreFacts sent received more shown facts → AreFacts sent received more shown others → facts ≡ others

abbrev pub frames : List NumberedFrame → List Frame
frames numbered = map (λ (one : NumberedFrame). one.frame) numbered

-- ---- the repair

-- What is received after the repair. What is skipped is received in its place, and what is altered as it was sent. What
-- came late, once more, or was not sent, is left out.
abbrev pub repaired : List NumberedFrame → List NumberedFrame → List Finding → List Frame
repaired sent [] findings = []
repaired sent (frame ∷ received) [] = []
repaired sent (frame ∷ received) (Next next k ∷ findings) =
    frames (take (k - next) (drop next sent)) ++ frame.frame ∷ repaired sent received findings
repaired sent (frame ∷ received) (Late k ∷ findings) = repaired sent received findings
repaired sent (frame ∷ received) (Altered k ∷ findings) = (frame_at sent k).frame ∷ repaired sent received findings
repaired sent (frame ∷ received) (Repeated ∷ findings) = repaired sent received findings
repaired sent (frame ∷ received) (Unknown ∷ findings) = repaired sent received findings

-- After the repair, what is received is a prefix of what is sent.
abbrev pub RepairedFramesAgree : Type 0
RepairedFramesAgree =
    (sent received : List NumberedFrame) (more : Bool) (findings : List Finding) (last : List Bool) (left : ℕ)
    → AreFindings sent more [] 0 received findings last left → IsPrefix (repaired sent received findings) (frames sent)

-- The repair does not change the first received frames, as far as they are the first sent ones.
abbrev pub RepairKeepsWhatAgrees : Type 0
RepairKeepsWhatAgrees =
    (sent received : List NumberedFrame) (more : Bool) (findings : List Finding) (last : List Bool) (left n : ℕ)
    → AreFindings sent more [] 0 received findings last left → IsPrefix (frames (take n received)) (frames sent)
    → IsPrefix (frames (take n received)) (repaired sent received findings)

-- ---- no fact

-- There is no fact exactly if what is received is a prefix of what is sent.
abbrev pub NoFactsExactlyIfPrefix : Type 0
NoFactsExactlyIfPrefix =
    (sent received : List NumberedFrame) (more : Bool) (shown : ℕ)
    → AreFacts sent received more shown [] ↔ IsPrefix (frames received) (frames sent)

-- Holds if the sender's log may be continued so that the direction agrees. What is received after all that it sends
-- has to come after what it shows as received.
abbrev pub MayAgree : List NumberedFrame → List NumberedFrame → Bool → ℕ → Type 0
MayAgree sent received more shown =
    IsPrefix (frames received) (frames sent)
    ⊎ (IsTrue more × (frames (take (length sent) received) ≡ frames sent)
    × ((k : ℕ) → length sent ≤ k → k < length received → shown < line_at received k))

abbrev pub AreLater : List Fact → Type 0
AreLater [] = Unit {0}
AreLater (Later line count ∷ facts) = AreLater facts
AreLater (fact ∷ facts) = ⊥

-- Such a direction has no facts but of frames that may be sent later.
abbrev pub NoFactsIfItMayAgree : Type 0
NoFactsIfItMayAgree =
    (sent received : List NumberedFrame) (more : Bool) (shown : ℕ) (facts : List Fact)
    → MayAgree sent received more shown → AreFacts sent received more shown facts → AreLater facts
