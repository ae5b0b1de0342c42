-- Transactions: what answers, opens and closes one, and which are open (SEMI E37, section 7, message exchange
-- procedures; SEMI E5, section 8, transactions).
use Rattle.std.specs.Prelude.{ℕ, ◌+◌, ◌<◌, ◌==◌, Bool, true, false, ◌&&◌, ◌||◌, List, Option, Some, None, IsTrue, if◌then◌else◌}
use Rattle.hsms_frame.specs.Header.{kind_of, stream_of, wait_of}
use Rattle.hsms_frame.specs.declared.header.Header.{Header}
use Rattle.hsms_frame.specs.declared.kinds.Kind.{Kind}
use Rattle.hsms_frame.specs.declared.kinds.Kind.TheVariants.{Primary, Reply, SelectReq, SelectRsp, LinktestReq, LinktestRsp}
use Rattle.hsms_machine.specs.declared.entry.Entry.{Entry}
use Rattle.hsms_machine.specs.declared.entry.Event.{Event}
use Rattle.hsms_machine.specs.declared.entry.Event.TheVariants.{Sent, Taken, T3}
use Rattle.hsms_machine.specs.declared.open_transactions.Transaction.{Transaction}
use Rattle.hsms_machine.specs.Entry.{entry_at, IsOnConnection}
use Rattle.hsms_machine.specs.Message.{is_reject_kind, is_data_request, is_control_request, is_request}

-- ---- responses

-- True for a reply to a primary with the W bit: it has the primary's stream, and the primary's function plus one, or
-- function zero.
abbrev pub is_reply_to : Header → Header → Bool
is_reply_to primary reply =
    wait_of primary
    && (stream_of reply == stream_of primary)
    && ((reply.byte3 == 0) || (reply.byte3 == primary.byte3 + 1))

abbrev pub answers_kind : Kind → Kind → Header → Header → Bool
answers_kind Primary Reply request response = is_reply_to request response
answers_kind SelectReq SelectRsp request response = true
answers_kind LinktestReq LinktestRsp request response = true
answers_kind _ _ request response = false

-- True if the response, sent in the other direction, answers the request.
unfoldable pub answers : Header → Header → Bool
answers request response =
    (response.system == request.system)
    && answers_kind (kind_of request) (kind_of response) request response

-- True if the message, sent in the other direction, is a Reject with the request's system bytes.
unfoldable pub rejects : Header → Header → Bool
rejects request other = (other.system == request.system) && is_reject_kind (kind_of other)

-- True if the message, sent in the other direction, ends the transaction that the request opened.
abbrev pub concludes : Header → Header → Bool
concludes request other = answers request other || rejects request other

-- ---- opening and closing

-- True if the event opens a transaction.
abbrev pub opens : Event → Bool
opens (Sent frame) = is_request frame.header
opens (Taken frame) = is_request frame.header
opens _ = false

-- True if the event closes a transaction that a sent request opened.
abbrev pub closes_sent : Header → Event → Bool
closes_sent request (Taken frame) = concludes request frame.header
closes_sent request (T3 system) = is_data_request request && (request.system == system)
closes_sent request _ = false

-- True if the event closes a transaction that an accepted request opened.
abbrev pub closes_taken : Header → Event → Bool
closes_taken request (Sent frame) = concludes request frame.header
closes_taken request _ = false

-- True if the later event closes the transaction that the earlier one opened.
abbrev pub closes : Event → Event → Bool
closes (Sent frame) later = closes_sent frame.header later
closes (Taken frame) later = closes_taken frame.header later
closes _ later = false

-- Holds if the transaction that the entry at j opened is open before position i of the log.
pub record IsOpen (log : List Entry) (j i : ℕ) : Type 0 where
  pub opened : IsTrue (opens (entry_at log j).event)
  pub earlier : IsOnConnection log j i
  pub not_closed : (k : ℕ) → j < k → k < i → IsTrue (closes (entry_at log j).event (entry_at log k).event) → ⊥

-- ---- by direction and kind

-- The pools of transactions, which differ in who opened them, and in whether they are of data or of control.
pub data Pool : Type 0 where
  SentData : Pool
  SentControl : Pool
  TakenData : Pool
  TakenControl : Pool

abbrev pub opened_by : (Header → Bool) → ℕ → Header → Option Transaction
opened_by test time header = if test header then Some (record { time = time; header = header }) else None

abbrev pub opened_as_at : Pool → ℕ → Event → Option Transaction
opened_as_at SentData time (Sent frame) = opened_by is_data_request time frame.header
opened_as_at SentControl time (Sent frame) = opened_by is_control_request time frame.header
opened_as_at TakenData time (Taken frame) = opened_by is_data_request time frame.header
opened_as_at TakenControl time (Taken frame) = opened_by is_control_request time frame.header
opened_as_at _ time _ = None

-- The transaction of this pool that the entry opens, if it opens one.
abbrev pub opened_as : Pool → Entry → Option Transaction
opened_as pool entry = opened_as_at pool entry.time entry.event

abbrev pub passes : (Transaction → Bool) → Option Transaction → Bool
passes test None = false
passes test (Some transaction) = test transaction

-- Holds if, before position i, some open transaction of the pool passes the test.
abbrev pub SomeOpen : List Entry → ℕ → Pool → (Transaction → Bool) → Type 0
SomeOpen log i pool test = (j : ℕ) × IsOpen log j i × IsTrue (passes test (opened_as pool (entry_at log j)))
