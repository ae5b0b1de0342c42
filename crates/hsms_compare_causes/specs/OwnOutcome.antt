-- The outcome of a request by the log of the endpoint that sent it.
use Rattle.std.specs.Prelude.{◌≡◌, ◌+◌, ◌-◌, ◌&&◌, ℕ, Bool, true, false, List, [], ◌∷◌, Option, Some, None, drop, nat_le, nat_lt, if◌then◌else◌}
use Rattle.std.specs.List.{list_any}
use Rattle.hsms_frame.specs.Header.{kind_of}
use Rattle.hsms_frame.specs.declared.header.Header.{Header}
use Rattle.hsms_machine.specs.declared.entry.Entry.{Entry}
use Rattle.hsms_machine.specs.declared.entry.Event.{Event}
use Rattle.hsms_machine.specs.declared.entry.Event.TheVariants.{Taken}
use Rattle.hsms_machine.specs.Entry.{entry_at}
use Rattle.hsms_machine.specs.Message.{is_control_request, is_reject_kind}
use Rattle.hsms_machine.specs.Session.{ends_session}
use Rattle.hsms_machine.specs.Settings.{Parameters}
use Rattle.hsms_machine.specs.Transaction.{closes_sent}
use Rattle.hsms_compare.specs.Outcome.{time_between}
use Rattle.hsms_compare_causes.specs.declared.own_outcome.OwnOutcome.{OwnOutcome}
use Rattle.hsms_compare_causes.specs.declared.own_outcome.OwnOutcome.TheVariants.{Answered, Late, Rejected, Expired, Overdue, Ended, Open}
use Rattle.hsms_compare_causes.specs.Events.{is_cut_by_t6}
use Rattle.hsms_compare_causes.specs.Search.{FirstFrom}

-- The time within which a request has to be answered.
abbrev pub limit_of : Parameters → Header → ℕ
limit_of settings request = if is_control_request request then settings.t6 else settings.t3

-- ---- closed

abbrev pub answered_at : ℕ → ℕ → ℕ → OwnOutcome
answered_at limit k after = if nat_lt limit after then Late k else Answered k

-- The outcome of a request that the event at k closes, this time after it was sent.
abbrev pub closed_by : ℕ → ℕ → ℕ → Event → OwnOutcome
closed_by limit k after (Taken frame) = if is_reject_kind (kind_of frame.header) then Rejected k else answered_at limit k after
closed_by limit k after event = Expired

-- ---- not closed

abbrev pub is_cut_after : ℕ → ℕ → Entry → Bool
is_cut_after since limit entry = is_cut_by_t6 entry.event && nat_le limit (entry.time - since)

abbrev pub is_later : ℕ → ℕ → Entry → Bool
is_later since limit entry = nat_lt limit (entry.time - since)

-- The entries of the session, up to the one that ends it.
abbrev pub session_of : List Entry → List Entry
session_of [] = []
session_of (entry ∷ entries) = entry ∷ (if ends_session entry.event then [] else session_of entries)

-- The outcome of a request that no entry closes: `cut` if a T6 cut follows in or after its time, and `late` if an entry of
-- the session follows after its time.
abbrev pub unclosed_by : (more control cut late : Bool) → OwnOutcome
unclosed_by more true true late = Expired
unclosed_by more control cut true = Overdue
unclosed_by more control cut false = if more then Open else Ended

abbrev pub unclosed : List Entry → Bool → ℕ → Header → ℕ → OwnOutcome
unclosed log more j request limit =
    unclosed_by more (is_control_request request) (list_any (is_cut_after (entry_at log j).time limit) (drop (j + 1) log))
    (list_any (is_later (entry_at log j).time limit) (drop (j + 1) (session_of log)))

-- ---- all

abbrev pub IsClosedBy : List Entry → Bool → ℕ → Header → ℕ → OwnOutcome → Option ℕ → Type 0
IsClosedBy log more j request limit outcome (Some k) = outcome ≡ closed_by limit k (time_between log j k) (entry_at log k).event
IsClosedBy log more j request limit outcome None = outcome ≡ unclosed log more j request limit

-- The outcome of the request that the entry at j sends, by the first entry that closes it. If `more`, the connection may
-- have more entries.
pub record IsOwnOutcome (log : List Entry) (more : Bool) (j : ℕ) (request : Header) (limit : ℕ) (outcome : OwnOutcome) : Type 0 where
  pub closing : Option ℕ
  pub closing_so : FirstFrom (λ entry. closes_sent request entry.event) log (j + 1) closing
  pub outcome_so : IsClosedBy log more j request limit outcome closing
