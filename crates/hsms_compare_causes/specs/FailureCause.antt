-- Why a request was not answered in time, by what both logs have of it.
use Rattle.std.specs.Prelude.{◌-◌, ℕ, Bool, Option, Some, None, length, nat_le, nat_lt, if◌then◌else◌}
use Rattle.hsms_machine.specs.Entry.{entry_at}
use Rattle.hsms_compare.specs.Outcome.{time_between}
use Rattle.hsms_compare_causes.specs.declared.failure_cause.FailureCause.{FailureCause}
use Rattle.hsms_compare_causes.specs.declared.failure_cause.FailureCause.TheVariants as cause
use Rattle.hsms_compare_causes.specs.declared.own_outcome.OwnOutcome.{OwnOutcome}
use Rattle.hsms_compare_causes.specs.declared.own_outcome.OwnOutcome.TheVariants.{Rejected}
use Rattle.hsms_compare_causes.specs.declared.request_trace.RequestTrace.{RequestTrace}
use Rattle.hsms_compare_causes.specs.declared.traced_log.Counterpart.{Counterpart}
use Rattle.hsms_compare_causes.specs.declared.traced_log.Counterpart.TheVariants.{NotReached}
use Rattle.hsms_compare_causes.specs.declared.traced_log.TracedLog.{TracedLog}
use Rattle.hsms_compare_causes.specs.Events.{is_discarded}
use Rattle.hsms_compare_causes.specs.Trace.{counterpart_at}

-- ---- the other log lacks the request

abbrev pub cause_without_request : Counterpart → Option ℕ → FailureCause
cause_without_request NotReached (Some a) = cause.RequestSkipped
cause_without_request NotReached None = cause.RequestMissing
cause_without_request counterpart reply = cause.Unknown

-- ---- the other log sends no answer

-- The last entry up to which the other endpoint may have answered.
abbrev pub last_chance : TracedLog → Option ℕ → ℕ
last_chance other (Some e) = e
last_chance other None = length other.entries - 1

-- The cause if that is no later than the limit.
abbrev pub ending : Bool → Option ℕ → FailureCause
ending more (Some e) = cause.Ended
ending more None = if more then cause.Unknown else cause.Ended

abbrev pub cause_without_answer : TracedLog → (limit b : ℕ) → Option ℕ → FailureCause
cause_without_answer other limit b e =
    if nat_lt limit (time_between other.entries b (last_chance other e)) then cause.Unanswered
    else ending other.is_open e

-- ---- the other log sends an answer

-- The own log receives it. Of the time from the request to that, the other endpoint took a part.
abbrev pub cause_by_times : (limit took after : ℕ) → FailureCause
cause_by_times limit took after =
    if nat_lt after limit then cause.InTime
    else if nat_lt limit took then cause.AnsweredLate
    else if nat_le (after - took) took then cause.Peer
    else cause.Between

abbrev pub cause_of_lost : Counterpart → FailureCause
cause_of_lost NotReached = cause.ReplyMissing
cause_of_lost counterpart = cause.Unknown

-- The own log does not receive it.
abbrev pub cause_without_reply : (limit took : ℕ) → Counterpart → FailureCause
cause_without_reply limit took counterpart = if nat_lt limit took then cause.AnsweredLate else cause_of_lost counterpart

-- ---- all

-- The cause for the entries that belong to the request: b, m, a and e, as `IsTrace` finds them.
abbrev pub cause_after_receipt : (own other : TracedLog) → (j limit b : ℕ) → (m a e : Option ℕ) → FailureCause
cause_after_receipt own other j limit b None None e = cause_without_answer other limit b e
cause_after_receipt own other j limit b None (Some a) e = cause.Unknown
cause_after_receipt own other j limit b (Some m) None e =
    cause_without_reply limit (time_between other.entries b m) (counterpart_at other m)
cause_after_receipt own other j limit b (Some m) (Some a) e =
    cause_by_times limit (time_between other.entries b m) (time_between own.entries j a)

abbrev pub cause_by_entries : (own other : TracedLog) → (j limit : ℕ) → (b m a e : Option ℕ) → FailureCause
cause_by_entries own other j limit None m a e = cause_without_request (counterpart_at own j) a
cause_by_entries own other j limit (Some b) m a e =
    if is_discarded (entry_at other.entries b).event then cause.Discarded else cause_after_receipt own other j limit b m a e

abbrev pub cause_of_trace : (own other : TracedLog) → (j limit : ℕ) → RequestTrace → FailureCause
cause_of_trace own other j limit trace =
    cause_by_entries own other j limit trace.received trace.answered trace.reply trace.ended

-- The cause of a failed request that the own entry at j sends, by its outcome in the own log and by its entries.
abbrev pub cause_by : (own other : TracedLog) → (j limit : ℕ) → OwnOutcome → RequestTrace → FailureCause
cause_by own other j limit (Rejected k) trace = cause.Rejected
cause_by own other j limit outcome trace = cause_of_trace own other j limit trace
