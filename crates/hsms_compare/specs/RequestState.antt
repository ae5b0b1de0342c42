-- The state of a request, entry by entry of both logs.
use Rattle.std.specs.Prelude.{◌≡◌, ◌≤◌, ℕ, List, Some, length, IsTrue}
use Rattle.hsms_frame.specs.Frame.{Frame}
use Rattle.hsms_machine.specs.declared.entry.Entry.{Entry}
use Rattle.hsms_machine.specs.Entry.{entry_at}
use Rattle.hsms_compare.specs.declared.request_state.LogCounts.{LogCounts}
use Rattle.hsms_compare.specs.declared.request_state.RequestState.{RequestState}
use Rattle.hsms_compare.specs.declared.request_state.RequestState.TheVariants.{InFlight, Taken, Answered, Done}
use Rattle.hsms_compare.specs.Conversation.{sent, received}
use Rattle.hsms_compare.specs.Agreement.{SendsAs}
use Rattle.hsms_compare.specs.Outcome.{IsOutcome, IsDeliveredAt, IsAnsweredAt, IsNeverClosed, taken_by}
use Rattle.hsms_compare.specs.Laws.{is_final}

-- Holds if the own entry at j sends the frame with this number.
abbrev pub IsRequestAt : List Entry → ℕ → ℕ → Type 0
IsRequestAt own j number = (frame : Frame) × SendsAs own j frame number

abbrev pub IsTimeOf : List Entry → ℕ → ℕ → Type 0
IsTimeOf log i time = time ≡ (entry_at log i).time

-- The counts of a log.
pub record HasCounts (log : List Entry) (counts : LogCounts) : Type 0 where
  pub entries_so : counts.entries ≡ length log
  pub received_so : counts.received ≡ length (received log)
  pub sent_so : counts.sent ≡ length (sent log)

-- The state of the frame that the own entry at j sends, by both logs so far.
abbrev pub IsState : (own other : List Entry) → ℕ → ℕ → ℕ → RequestState → Type 0
IsState own other j limit number InFlight = length (received other) ≤ number
IsState own other j limit number (Taken at time request) =
    IsDeliveredAt own j other at × (taken_by (entry_at other at).event ≡ Some request) × IsTimeOf other at time
    × IsNeverClosed other at
IsState own other j limit number (Answered at answer took reply) =
    IsAnsweredAt own j other at answer took × (took ≤ limit) × IsRequestAt other answer reply × (length (received own) ≤ reply)
IsState own other j limit number (Done outcome) = IsTrue (is_final outcome) × IsOutcome own other j limit outcome
