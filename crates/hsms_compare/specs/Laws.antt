-- The laws of two logs of one conversation.
use Rattle.std.specs.Prelude.{◌≡◌, ◌↔◌, ◌<◌, ◌≤◌, ℕ, List, [], ◌∷◌, length, take, slice_index_or, Bool, true, false, IsTrue, ◌++◌}
use Rattle.hsms_frame.specs.Frame.{Frame}
use Rattle.hsms_machine.specs.declared.entry.Entry.{Entry}
use Rattle.hsms_machine.specs.declared.entry.Event.TheVariants.{Up}
use Rattle.hsms_machine.specs.declared.settings.Role.{Role}
use Rattle.hsms_machine.specs.declared.settings.Role.TheVariants.{Host, Equipment}
use Rattle.hsms_compare.specs.declared.outcome.Outcome.{Outcome}
use Rattle.hsms_compare.specs.declared.outcome.Outcome.TheVariants.{NotReceived, Discarded, Unanswered, AnsweredLate, ReplyNotReceived, Replied}
use Rattle.hsms_compare.specs.Outcome.{IsOutcome}
use Rattle.hsms_compare.specs.Conversation.{Step, Agree, IsDelivered, IsPossible, peer, log_of, sent, received, sent_by, received_by}
use Rattle.hsms_compare.specs.Agreement.{AgreeUpTo}

-- What an endpoint received is a prefix of what the other endpoint sent.
abbrev pub NothingIsMadeUp : Type 0
NothingIsMadeUp = (host equipment : List Entry) → Agree host equipment → IsDelivered host equipment × IsDelivered equipment host

-- ---- channels and order

-- Holds if after each step no endpoint has received more frames than the other one has sent.
abbrev pub IsInOrder : List Step → Type 0
IsInOrder history =
    (end : Role) (moment : ℕ)
    → length (received (log_of end (take moment history))) ≤ length (sent (log_of (peer end) (take moment history)))

-- Two logs agree if and only if two conditions hold. In both directions what is received is a prefix of what is sent.
-- Some order of all entries keeps the order of each log and receives no frame before that many are sent.
abbrev pub AgreeIsChannelsAndOrder : Type 0
AgreeIsChannelsAndOrder =
    (host equipment : List Entry) → Agree host equipment
    ↔ (IsDelivered host equipment × IsDelivered equipment host
    × ((history : List Step) × (log_of Host history ≡ host) × (log_of Equipment history ≡ equipment) × IsInOrder history))

-- ---- causes

abbrev pub step_at : List Step → ℕ → Step
step_at history k = slice_index_or history k (record { end = Host; entry = record { time = 0; event = Up } })

-- Holds if the step at k sends this frame, as the n-th of its endpoint.
pub record IsSending (history : List Step) (k : ℕ) (end : Role) (frame : Frame) (n : ℕ) : Type 0 where
  pub its_end : (step_at history k).end ≡ end
  pub sends : sent_by (step_at history k).entry.event ≡ frame ∷ []
  pub number : length (sent (log_of end (take k history))) ≡ n

-- In a possible history each received frame was sent before, by the other endpoint, as the frame with the same
-- number.
abbrev pub CausesComeFirst : Type 0
CausesComeFirst =
    (history : List Step) → IsPossible history
    → (i : ℕ) (end : Role) (frame : Frame) → i < length history → (step_at history i).end ≡ end
    → received_by (step_at history i).entry.event ≡ frame ∷ []
    → (k : ℕ) × (k < i) × IsSending history k (peer end) frame (length (received (log_of end (take i history))))

-- ---- how far

-- The longest prefixes that agree are unique.
abbrev pub OneAgreement : Type 0
OneAgreement =
    (host equipment : List Entry) (i j m n : ℕ) → AgreeUpTo host equipment i j → AgreeUpTo host equipment m n → (i ≡ m) × (j ≡ n)

-- Either log may be taken as the host's.
abbrev pub AgreeBothWays : Type 0
AgreeBothWays = (host equipment : List Entry) → Agree host equipment → Agree equipment host

-- ---- the outcome of a request

abbrev pub is_final : Outcome → Bool
is_final NotReceived = false
is_final (Unanswered m) = false
is_final (ReplyNotReceived m k took) = false
is_final (Discarded m) = true
is_final (AnsweredLate m k took) = true
is_final (Replied m k took i after) = true

-- A request has one outcome.
abbrev pub OneOutcome : Type 0
OneOutcome =
    (own other : List Entry) (j limit : ℕ) (a b : Outcome) → IsOutcome own other j limit a → IsOutcome own other j limit b → a ≡ b

-- A final outcome does not change, whatever follows in both logs.
abbrev pub FinalOutcomeStays : Type 0
FinalOutcomeStays =
    (own other more rest : List Entry) (j limit : ℕ) (a : Outcome) → IsTrue (is_final a) → IsOutcome own other j limit a
    → IsOutcome (own ++ more) (other ++ rest) j limit a
