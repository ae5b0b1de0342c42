-- Where both logs of a connection have a request and its answer.
use Rattle.std.specs.Prelude.{◌≡◌, ◌+◌, ℕ, Option, Some, None, slice_index_or}
use Rattle.hsms_frame.specs.declared.header.Header.{Header}
use Rattle.hsms_machine.specs.Transaction.{closes_taken}
use Rattle.hsms_compare_causes.specs.declared.request_trace.RequestTrace.{RequestTrace}
use Rattle.hsms_compare_causes.specs.declared.traced_log.Counterpart.{Counterpart}
use Rattle.hsms_compare_causes.specs.declared.traced_log.Counterpart.TheVariants.{At, Undecided}
use Rattle.hsms_compare_causes.specs.declared.traced_log.TracedLog.{TracedLog}
use Rattle.hsms_compare_causes.specs.Events.{answers_by, ends_connection}
use Rattle.hsms_compare_causes.specs.Search.{FirstFrom}

-- What the other log has of the frame of the entry at k.
abbrev pub counterpart_at : TracedLog → ℕ → Counterpart
counterpart_at log k = slice_index_or log.counterparts.items k Undecided

-- The line number of the entry at k.
abbrev pub line_number : TracedLog → ℕ → ℕ
line_number log k = slice_index_or log.lines.items k 0

abbrev pub index_of : Counterpart → Option ℕ
index_of (At k) = Some k
index_of counterpart = None

-- The first entry of the other log that sends an answer or a Reject, after the one at b that receives the request.
abbrev pub IsConclusion : TracedLog → Header → (b m : Option ℕ) → Type 0
IsConclusion other request None m = m ≡ None
IsConclusion other request (Some b) m = FirstFrom (λ entry. closes_taken request entry.event) other.entries (b + 1) m

-- The own entry that receives what the other log's entry at m sends. If the other log sends no answer: the first own
-- entry after the request that receives one.
abbrev pub IsReply : (own other : TracedLog) → ℕ → Header → (m a : Option ℕ) → Type 0
IsReply own other j request (Some m) a = a ≡ index_of (counterpart_at other m)
IsReply own other j request None a = FirstFrom (λ entry. answers_by request entry.event) own.entries (j + 1) a

-- The first entry of the other log after b that ends the session or the connection, if it sends no answer.
abbrev pub IsConnectionEnd : TracedLog → (b m e : Option ℕ) → Type 0
IsConnectionEnd other None m e = e ≡ None
IsConnectionEnd other (Some b) (Some m) e = e ≡ None
IsConnectionEnd other (Some b) None e = FirstFrom (λ entry. ends_connection entry.event) other.entries (b + 1) e

-- Holds if these entries belong to the request that the own entry at j sends.
pub record IsTrace (own other : TracedLog) (j : ℕ) (request : Header) (trace : RequestTrace) : Type 0 where
  pub received_so : trace.received ≡ index_of (counterpart_at own j)
  pub answered_so : IsConclusion other request trace.received trace.answered
  pub reply_so : IsReply own other j request trace.answered trace.reply
  pub ended_so : IsConnectionEnd other trace.received trace.answered trace.ended
