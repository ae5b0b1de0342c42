-- The requests of a log that were not answered in time.
use Rattle.std.specs.Prelude.{◌≡◌, ◌+◌, ◌-◌, ◌++◌, ℕ, Bool, true, false, List, [], ◌∷◌, Option, Some, None, MatchOption, if◌then◌else◌}
use Rattle.hsms_frame.specs.Header.{kind_of}
use Rattle.hsms_machine.specs.declared.entry.Entry.{Entry}
use Rattle.hsms_machine.specs.declared.entry.Event.{Event}
use Rattle.hsms_machine.specs.declared.entry.Event.TheVariants.{Sent}
use Rattle.hsms_machine.specs.Entry.{entry_at}
use Rattle.hsms_machine.specs.Message.{is_reject_kind}
use Rattle.hsms_machine.specs.Settings.{Parameters}
use Rattle.hsms_compare.specs.Outcome.{time_between}
use Rattle.hsms_compare_causes.specs.declared.failed_request.FailedRequest.{FailedRequest}
use Rattle.hsms_compare_causes.specs.declared.failed_request.RequestLines.{RequestLines}
use Rattle.hsms_compare_causes.specs.declared.failed_request.RequestTimes.{RequestTimes}
use Rattle.hsms_compare_causes.specs.declared.failure_cause.FailureCause.{FailureCause}
use Rattle.hsms_compare_causes.specs.declared.failure_cause.FailureCause.TheVariants as cause
use Rattle.hsms_compare_causes.specs.declared.own_outcome.OwnOutcome.{OwnOutcome}
use Rattle.hsms_compare_causes.specs.declared.own_outcome.OwnOutcome.TheVariants.{Answered, Rejected}
use Rattle.hsms_compare_causes.specs.declared.request_trace.RequestTrace.{RequestTrace}
use Rattle.hsms_compare_causes.specs.declared.traced_log.TracedLog.{TracedLog}
use Rattle.hsms_compare_causes.specs.declared.traced_request.TracedRequest.{TracedRequest}
use Rattle.hsms_compare_causes.specs.Events.{is_discarded}
use Rattle.hsms_compare_causes.specs.Trace.{counterpart_at, index_of, line_number}
use Rattle.hsms_compare_causes.specs.TracedRequest.{IsTraced, request_at}

-- True if the request was not answered in time.
abbrev pub is_failure : OwnOutcome → Bool
is_failure (Answered k) = false
is_failure outcome = true

-- ---- lines and times

-- The entries that are shown. Of a rejected request that is what received it, and what sent the Reject.
abbrev pub shown_trace : TracedLog → OwnOutcome → RequestTrace → RequestTrace
shown_trace own (Rejected k) trace =
    record { received = trace.received; answered = index_of (counterpart_at own k); reply = None; ended = None }
shown_trace own outcome trace = trace

abbrev pub line_in : TracedLog → Option ℕ → Option ℕ
line_in log None = None
line_in log (Some k) = Some (line_number log k)

abbrev pub ended_index : FailureCause → Option ℕ → Option ℕ
ended_index cause.Ended e = e
ended_index cause e = None

abbrev pub lines_by : (own other : TracedLog) → FailureCause → RequestTrace → RequestLines
lines_by own other cause shown = record {
  received = line_in other shown.received;
  answered = line_in other shown.answered;
  reply = line_in own shown.reply;
  ended = line_in other (ended_index cause shown.ended);
}

-- The milliseconds from one entry to another one, if both exist.
abbrev pub span_of : List Entry → Option ℕ → Option ℕ → Option ℕ
span_of log (Some i) (Some k) = Some (time_between log i k)
span_of log i k = None

abbrev pub time_after : Option ℕ → Option ℕ → Option ℕ
time_after (Some took) (Some after) = Some (after - took)
time_after took after = None

abbrev pub times_of : Option ℕ → Option ℕ → RequestTimes
times_of took after = record { took = took; after = after; between = time_after took after }

-- The times between the entries that are shown. Of a rejected request none is shown.
abbrev pub times_by : (own other : TracedLog) → ℕ → OwnOutcome → RequestTrace → RequestTimes
times_by own other j (Rejected k) shown = record { took = None; after = None; between = None }
times_by own other j outcome shown =
    times_of (span_of other.entries shown.received shown.answered) (span_of own.entries (Some j) shown.reply)

abbrev pub discards_at : TracedLog → Option ℕ → Bool
discards_at log None = false
discards_at log (Some k) = is_discarded (entry_at log.entries k).event

abbrev pub sends_reject : Event → Bool
sends_reject (Sent frame) = is_reject_kind (kind_of frame.header)
sends_reject event = false

abbrev pub rejects_at : TracedLog → Option ℕ → Bool
rejects_at log None = false
rejects_at log (Some k) = sends_reject (entry_at log.entries k).event

abbrev pub failed_with : (own other : TracedLog) → ℕ → TracedRequest → RequestTrace → FailedRequest
failed_with own other j traced shown = record {
  line = line_number own j;
  request = traced.request;
  outcome = traced.outcome;
  cause = traced.cause;
  lines = lines_by own other traced.cause shown;
  times = times_by own other j traced.outcome shown;
  is_discarded = discards_at other shown.received;
  is_rejected = rejects_at other shown.answered;
}

abbrev pub failed_by : (own other : TracedLog) → ℕ → TracedRequest → FailedRequest
failed_by own other j traced = failed_with own other j traced (shown_trace own traced.outcome traced.entries)

-- ---- all

abbrev pub failure_of : (own other : TracedLog) → ℕ → Option TracedRequest → Option FailedRequest
failure_of own other j None = None
failure_of own other j (Some traced) = if is_failure traced.outcome then Some (failed_by own other j traced) else None

abbrev pub failure_list : Option FailedRequest → List FailedRequest
failure_list None = []
failure_list (Some failed) = failed ∷ []

-- The failure of the request that the own entry at j sends, if it sends one that fails.
pub record IsFailureAt (own other : TracedLog) (settings : Parameters) (j : ℕ) (failure : Option FailedRequest) : Type 0 where
  pub traced : Option TracedRequest
  pub traced_so : MatchOption traced (request_at own j ≡ None) (IsTraced own other j settings)
  pub failure_so : failure ≡ failure_of own other j traced

-- The failures of the own entries, the first of which has the index j.
abbrev pub AreFailures : (own other : TracedLog) → Parameters → ℕ → List Entry → List FailedRequest → Type 0
AreFailures own other settings j [] found = found ≡ []
AreFailures own other settings j (entry ∷ entries) found =
    (failure : Option FailedRequest) × (later : List FailedRequest) × IsFailureAt own other settings j failure
    × AreFailures own other settings (j + 1) entries later × (found ≡ failure_list failure ++ later)
