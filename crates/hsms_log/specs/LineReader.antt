-- The state of a text that is read in chunks.
use Rattle.std.specs.Prelude.{◌≡◌, ℕ, List}
use Rattle.hsms_log.specs.declared.audit_state.LineChecker.{LineChecker}
use Rattle.hsms_log.specs.declared.verdict.Verdict.{Verdict}
use Rattle.hsms_log.specs.declared.verdict.Verdict.TheVariants.{Pass, Fail}
use Rattle.hsms_log.specs.Lines.{ended_lines, open_line, IsOverlong}
use Rattle.hsms_log.specs.Verdict.{FailsOnward}
use Rattle.hsms_log.specs.AuditState.{Follows, limit_after}

-- The state of a reader: the checker of the lines that have ended, and the bytes of the line that may continue.
pub record Reading : Type 0 where
  pub line_checker : LineChecker
  pub held : List ℕ

-- Holds if this is the reader's state after this text, of which no line fails so far.
pub record StateInvariant (reader : Reading) (text : List ℕ) : Type 0 where
  pub lines : Follows reader.line_checker (ended_lines text)
  pub held : reader.held ≡ open_line text
  pub can_continue : IsOverlong (limit_after reader.line_checker.session) reader.held → ⊥

-- Holds if the verdict is a failure of each text that begins with this one.
abbrev pub FailsAs : List ℕ → Verdict → Type 0
FailsAs text (Pass summary) = ⊥
FailsAs text (Fail n why) = FailsOnward text n why
