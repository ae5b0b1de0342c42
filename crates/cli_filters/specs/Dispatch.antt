-- What the command does between its input and its output.
use Rattle.std.specs.Prelude.{◌≡◌, ℕ, Bool, true, false, List, string_bytes, Option, Result, Ok, Err, OnOk, OnErr}
use Rattle.hsms_frame.specs.CallCounts.{count_failure}
use Rattle.hsms_frame.specs.declared.io.Failed.{Failed}
use Rattle.hsms_frame.specs.Io.{SourceState, SinkState, IfRecorded, Grows, GrowsByFront}
use Rattle.hsms_log.specs.declared.verdict.Verdict.{Verdict}
use Rattle.hsms_log.specs.Auditing.{HasEnded}
use Rattle.cli_options.specs.declared.fault.ToolFault.{ToolFault}
use Rattle.cli_options.specs.declared.request.Encoding.{Encoding}
use Rattle.cli_options.specs.declared.request.Form.{Form}
use Rattle.cli_options.specs.declared.request.Form.TheVariants as form
use Rattle.cli_options.specs.declared.request.Task.{Task}
use Rattle.cli_options.specs.declared.request.Task.TheVariants as asked
use Rattle.cli_output.specs.Verdict.{is_pass}
use Rattle.cli_show.specs.declared.show_error.ShowError.{ShowError}
use Rattle.cli_show.specs.Show.{Shows}
use Rattle.cli_show.specs.ShowErrors as show
use Rattle.cli_show.specs.ShowHex.{ShowsHex}
use Rattle.cli_filters.specs.declared.audit_error.AuditError.{AuditError}
use Rattle.cli_filters.specs.declared.command_error.CommandError.{CommandError}
use Rattle.cli_filters.specs.declared.command_error.CommandError.TheVariants.{Help, Show, Encode, Audit}
use Rattle.cli_filters.specs.declared.encode_error.EncodeError.{EncodeError}
use Rattle.cli_filters.specs.Audit.{AuditsTo, CountsVerdict}
use Rattle.cli_filters.specs.Audit as audit
use Rattle.cli_filters.specs.CommandErrors.{ReportsAudit, ReportsEncode, ReportsShow}
use Rattle.cli_filters.specs.Encode.{EncodesAll}
use Rattle.cli_filters.specs.EncodeErrors as encode

-- A text is written, or a part of it if the write fails.
pub record HasPrinted (text : List ℕ) (done : Result (Unit {0}) Failed) (old new : SourceState) (before after : SinkState) : Type 0 where
  pub ok : OnOk done (Grows before.written after.written text)
  pub err : OnErr done (GrowsByFront before.written after.written text)
  pub reads : new.failures ≡ old.failures
  pub writes : after.failures ≡ count_failure done before.failures

-- What is shown of an input, according to the form of its messages.
abbrev pub ShowsForm : Form → ℕ → ℕ → List ℕ → Result (Unit {0}) ShowError → Option (List ℕ) → Option (List ℕ) → Option (List ℕ) → Type 0
ShowsForm form.Octets max depth input result left old new = Shows max depth input result left old new
ShowsForm form.Lines max depth input result left old new = ShowsHex false max depth input result left old new
ShowsForm form.BareLines max depth input result left old new = ShowsHex true max depth input result left old new

-- What is shown of an input, by its result, what is left of it, and what was written before and is now.
abbrev pub Showings : Type 1
Showings = List ℕ → Result (Unit {0}) ShowError → Option (List ℕ) → Option (List ℕ) → Option (List ℕ) → Type 0

-- The messages of an input are shown. If they all are, the end of the input was found.
pub record HasShown (Lines : Showings) (done : Result (Unit {0}) ShowError) (old new : SourceState) (before after : SinkState) : Type 0 where
  pub lines : IfRecorded old.left (λ input. Lines input done new.left before.written after.written)
  pub end : OnOk done (HasEnded old.ends new.ends)
  pub reads : new.failures ≡ show.reads_after done old.failures
  pub writes : after.failures ≡ show.writes_after done before.failures

-- The messages in notation are encoded. If they all are, the end of the input was found.
pub record HasEncoded (e : Encoding) (done : Result (Unit {0}) EncodeError) (old new : SourceState) (before after : SinkState) : Type 0 where
  pub frames : IfRecorded old.left (λ input. EncodesAll e.device e.max e.depth e.hex e.system input done new.left before.written after.written)
  pub end : OnOk done (HasEnded old.ends new.ends)
  pub reads : new.failures ≡ encode.reads_after done old.failures
  pub writes : after.failures ≡ encode.writes_after done before.failures

-- A log is audited, and the line of its verdict is written.
pub record HasAudited (done : Result Verdict AuditError) (old new : SourceState) (before after : SinkState) : Type 0 where
  pub line : IfRecorded old.left (λ input. AuditsTo input done new.left (HasEnded old.ends new.ends) before.written after.written)
  pub counts : CountsVerdict done old new
  pub writes : after.failures ≡ audit.writes_after done before.failures

-- The command's result for that of a part.
abbrev pub answer_of : {T E : Type 0} → (T → Bool) → (E → CommandError) → Result T E → Result Bool CommandError
answer_of passes wrap (Ok x) = Ok (passes x)
answer_of passes wrap (Err error) = Err (wrap error)

-- What is done for a task, with the states of input and output before and now. Help is printed; messages are shown or
-- encoded; a log is audited, and the result is true if it passes.
abbrev pub Performs : Task → Result Bool CommandError → SourceState → SourceState → SinkState → SinkState → Type 0
Performs (asked.Help text) result old new before after =
    (done : Result (Unit {0}) Failed) × (result ≡ answer_of (λ _. true) (λ _. Help) done) × HasPrinted (string_bytes text) done old new before after
Performs (asked.Show s) result old new before after =
    (done : Result (Unit {0}) ShowError) × (result ≡ answer_of (λ _. true) Show done) × HasShown (ShowsForm s.form s.max s.depth) done old new before after
Performs asked.Audit result old new before after =
    (done : Result Verdict AuditError) × (result ≡ answer_of is_pass Audit done) × HasAudited done old new before after
Performs (asked.Encode e) result old new before after =
    (done : Result (Unit {0}) EncodeError) × (result ≡ answer_of (λ _. true) Encode done) × HasEncoded e done old new before after

-- The messages of an input are shown, with the error as that of the tool.
abbrev pub ShowsAs : Showings → Result (Unit {0}) ToolFault → SourceState → SourceState → SinkState → SinkState → Type 0
ShowsAs Lines result old new before after =
    (done : Result (Unit {0}) ShowError) × ReportsShow done result × HasShown Lines done old new before after

-- The messages in notation are encoded, with the error as that of the tool.
abbrev pub EncodesAs : Encoding → Result (Unit {0}) ToolFault → SourceState → SourceState → SinkState → SinkState → Type 0
EncodesAs e result old new before after =
    (done : Result (Unit {0}) EncodeError) × ReportsEncode done result × HasEncoded e done old new before after

-- A log is audited, with the error as that of the tool. The result is true if the log passes.
abbrev pub AuditsAs : Result Bool ToolFault → SourceState → SourceState → SinkState → SinkState → Type 0
AuditsAs result old new before after =
    (done : Result Verdict AuditError) × ReportsAudit done result × HasAudited done old new before after
