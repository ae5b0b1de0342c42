-- The outcome of a request, by the logs of both endpoints.
use Rattle.std.specs.Prelude.{◌≡◌, ◌-◌, ◌<◌, ◌≤◌, ℕ, List, Option, Some, None, length, IsTrue}
use Rattle.hsms_frame.specs.Frame.{Frame}
use Rattle.hsms_frame.specs.declared.header.Header.{Header}
use Rattle.hsms_machine.specs.declared.entry.Entry.{Entry}
use Rattle.hsms_machine.specs.declared.entry.Event.{Event}
use Rattle.hsms_machine.specs.declared.entry.Event.TheVariants.{Taken}
use Rattle.hsms_machine.specs.Entry.{entry_at}
use Rattle.hsms_machine.specs.Transaction.{closes}
use Rattle.hsms_compare.specs.declared.outcome.Outcome.{Outcome}
use Rattle.hsms_compare.specs.declared.outcome.Outcome.TheVariants.{NotReceived, Discarded, Unanswered, AnsweredLate, ReplyNotReceived, Replied}
use Rattle.hsms_compare.specs.Conversation.{received}
use Rattle.hsms_compare.specs.Agreement.{SendsAs, ReceivesAs}

-- Holds if the receiver's entry at i receives the frame that the sender's entry at k sends: the one with the same
-- number.
abbrev pub IsDeliveredAt : (sender : List Entry) → ℕ → (receiver : List Entry) → ℕ → Type 0
IsDeliveredAt sender k receiver i = (frame : Frame) × (same : Frame) × (n : ℕ) × SendsAs sender k frame n × ReceivesAs receiver i same n

-- Holds if the receiver's log does not receive what the sender's entry at k sends.
abbrev pub IsNotDelivered : (sender : List Entry) → ℕ → (receiver : List Entry) → Type 0
IsNotDelivered sender k receiver = (frame : Frame) × (n : ℕ) × SendsAs sender k frame n × (length (received receiver) ≤ n)

-- The header of the frame that an event accepts.
abbrev pub taken_by : Event → Option Header
taken_by (Taken frame) = Some frame.header
taken_by event = None

abbrev pub IsTakenAt : List Entry → ℕ → Type 0
IsTakenAt log m = (request : Header) × (taken_by (entry_at log m).event ≡ Some request)

-- Holds if the entry at k is the first that closes the transaction of the entry at m.
pub record IsClosedAt (log : List Entry) (m k : ℕ) : Type 0 where
  pub later : m < k
  pub there : k < length log
  pub closing : IsTrue (closes (entry_at log m).event (entry_at log k).event)
  pub first : (p : ℕ) → m < p → p < k → IsTrue (closes (entry_at log m).event (entry_at log p).event) → ⊥

abbrev pub IsNeverClosed : List Entry → ℕ → Type 0
IsNeverClosed log m = (p : ℕ) → m < p → p < length log → IsTrue (closes (entry_at log m).event (entry_at log p).event) → ⊥

-- The milliseconds from the entry at i to the entry at k.
abbrev pub time_between : List Entry → ℕ → ℕ → ℕ
time_between log i k = (entry_at log k).time - (entry_at log i).time

-- Holds if the other log accepts, with its entry at m, what the own entry at j sends. It closes that transaction with
-- its entry at k, after this time in milliseconds.
pub record IsAnsweredAt (own : List Entry) (j : ℕ) (other : List Entry) (m k took : ℕ) : Type 0 where
  pub delivered : IsDeliveredAt own j other m
  pub taken : IsTakenAt other m
  pub closed : IsClosedAt other m k
  pub time : took ≡ time_between other m k

-- The outcome of the frame that the own entry at j sends, if an answer is in time within the limit.
abbrev pub IsOutcome : (own other : List Entry) → ℕ → ℕ → Outcome → Type 0
IsOutcome own other j limit NotReceived = IsNotDelivered own j other
IsOutcome own other j limit (Discarded m) = IsDeliveredAt own j other m × (taken_by (entry_at other m).event ≡ None)
IsOutcome own other j limit (Unanswered m) = IsDeliveredAt own j other m × IsTakenAt other m × IsNeverClosed other m
IsOutcome own other j limit (AnsweredLate m k took) = IsAnsweredAt own j other m k took × (limit < took)
IsOutcome own other j limit (ReplyNotReceived m k took) =
    IsAnsweredAt own j other m k took × (took ≤ limit) × IsNotDelivered other k own
IsOutcome own other j limit (Replied m k took i after) =
    IsAnsweredAt own j other m k took × (took ≤ limit) × IsDeliveredAt other k own i × (after ≡ time_between own j i)
