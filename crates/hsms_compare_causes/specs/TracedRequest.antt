-- A request, traced through both logs.
use Rattle.std.specs.Prelude.{◌≡◌, ℕ, Option, Some}
use Rattle.hsms_frame.specs.declared.header.Header.{Header}
use Rattle.hsms_machine.specs.Entry.{entry_at}
use Rattle.hsms_machine.specs.Settings.{Parameters}
use Rattle.hsms_compare_causes.specs.declared.traced_log.TracedLog.{TracedLog}
use Rattle.hsms_compare_causes.specs.declared.traced_request.TracedRequest.{TracedRequest}
use Rattle.hsms_compare_causes.specs.Events.{request_of}
use Rattle.hsms_compare_causes.specs.FailureCause.{cause_by}
use Rattle.hsms_compare_causes.specs.OwnOutcome.{IsOwnOutcome, limit_of}
use Rattle.hsms_compare_causes.specs.Trace.{IsTrace}

-- The header of the request that the entry at j sends.
abbrev pub request_at : TracedLog → ℕ → Option Header
request_at log j = request_of (entry_at log.entries j).event

-- Holds if this is what both logs have of the request that the own entry at j sends.
pub record IsTraced (own other : TracedLog) (j : ℕ) (settings : Parameters) (traced : TracedRequest) : Type 0 where
  pub request_so : request_at own j ≡ Some traced.request
  pub outcome_so : IsOwnOutcome own.entries own.is_open j traced.request (limit_of settings traced.request) traced.outcome
  pub entries_so : IsTrace own other j traced.request traced.entries
  pub cause_so : traced.cause ≡ cause_by own other j (limit_of settings traced.request) traced.outcome traced.entries
