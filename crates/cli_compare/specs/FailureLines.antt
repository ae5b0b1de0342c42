-- The lines of the failed requests of a pair of connections.
use Rattle.std.specs.Prelude.{◌++◌, ℕ, Bool, true, false, List, [], ◌∷◌, Option, Some, None, codes, decimal}
use Rattle.std.specs.Int.{to_be_bytes, w32}
use Rattle.std.specs.List.{flat_map}
use Rattle.hex.specs.Hex.{encode_lower}
use Rattle.hsms_frame.specs.Header.{kind_of, stream_of}
use Rattle.hsms_frame.specs.declared.header.Header.{Header}
use Rattle.hsms_frame.specs.declared.kinds.Kind.{Kind}
use Rattle.hsms_frame.specs.declared.kinds.Kind.TheVariants.{SelectReq, LinktestReq}
use Rattle.hsms_compare_causes.specs.declared.failed_request.FailedRequest.{FailedRequest}
use Rattle.hsms_compare_causes.specs.declared.failure_cause.FailureCause.{FailureCause}
use Rattle.hsms_compare_causes.specs.declared.failure_cause.FailureCause.TheVariants as cause
use Rattle.hsms_compare_causes.specs.declared.own_outcome.OwnOutcome.{OwnOutcome}
use Rattle.hsms_compare_causes.specs.declared.own_outcome.OwnOutcome.TheVariants.{Answered, Late, Rejected, Expired, Overdue, Ended, Open}
use Rattle.cli_compare.specs.FactLines.{line_words}

abbrev pub outcome_word : OwnOutcome → List ℕ
outcome_word (Answered k) = codes "answered"
outcome_word (Late k) = codes "late"
outcome_word (Rejected k) = codes "rejected"
outcome_word Expired = codes "expired"
outcome_word Overdue = codes "overdue"
outcome_word Ended = codes "ended"
outcome_word Open = codes "open"

abbrev pub cause_word : FailureCause → List ℕ
cause_word cause.Rejected = codes "rejected"
cause_word cause.RequestSkipped = codes "request-skipped"
cause_word cause.RequestMissing = codes "request-missing"
cause_word cause.Discarded = codes "discarded"
cause_word cause.Ended = codes "ended"
cause_word cause.Unanswered = codes "unanswered"
cause_word cause.InTime = codes "in-time"
cause_word cause.AnsweredLate = codes "answered-late"
cause_word cause.Peer = codes "peer"
cause_word cause.Between = codes "between"
cause_word cause.ReplyMissing = codes "reply-missing"
cause_word cause.Unknown = codes "unknown"

-- ---- the request

unfoldable pub primary_words : Header → List ℕ
primary_words request = codes "S" ++ decimal (stream_of request) ++ codes "F" ++ decimal request.byte3 ++ codes " W"

abbrev pub words_by_kind : Kind → Header → List ℕ
words_by_kind SelectReq request = codes "select.req"
words_by_kind LinktestReq request = codes "linktest.req"
words_by_kind kind request = primary_words request

abbrev pub request_words : Header → List ℕ
request_words request = words_by_kind (kind_of request) request

-- System bytes, in hexadecimal.
abbrev pub system_words : ℕ → List ℕ
system_words system = codes " " ++ encode_lower (to_be_bytes w32 system)

-- The outcome of a request, and its line.
unfoldable pub beginning_words : List ℕ → FailedRequest → List ℕ
beginning_words end failed = outcome_word failed.outcome ++ codes " " ++ line_words end failed.line ++ codes " "

-- The kind of a request, and its system bytes.
unfoldable pub name_words : Header → List ℕ
name_words request = request_words request ++ system_words request.system

unfoldable pub cause_words : FailureCause → List ℕ
cause_words reason = codes " cause=" ++ cause_word reason

-- ---- what both logs have of it

-- A number with its name, if there is one.
abbrev pub number_words : List ℕ → Option ℕ → List ℕ
number_words name None = []
number_words name (Some n) = codes " " ++ name ++ codes "=" ++ decimal n

abbrev pub received_name : Bool → List ℕ
received_name true = codes "discarded"
received_name false = codes "received"

abbrev pub answered_name : Bool → List ℕ
answered_name true = codes "rejected"
answered_name false = codes "answered"

unfoldable pub line_details : FailedRequest → List ℕ
line_details failed =
    number_words (received_name failed.is_discarded) failed.lines.received
    ++ number_words (answered_name failed.is_rejected) failed.lines.answered

unfoldable pub time_details : FailedRequest → List ℕ
time_details failed =
    number_words (codes "took") failed.times.took ++ number_words (codes "reply") failed.lines.reply
    ++ number_words (codes "after") failed.times.after ++ number_words (codes "between") failed.times.between
    ++ number_words (codes "ended") failed.lines.ended

abbrev pub detail_words : FailedRequest → List ℕ
detail_words failed = line_details failed ++ time_details failed

-- ---- the line

-- The line of a failed request that an end sent.
unfoldable pub failure_line : List ℕ → FailedRequest → List ℕ
failure_line end failed =
    beginning_words end failed ++ name_words failed.request ++ cause_words failed.cause ++ detail_words failed ++ 10 ∷ []

abbrev pub failure_lines : List ℕ → List FailedRequest → List ℕ
failure_lines end failures = flat_map (failure_line end) failures
