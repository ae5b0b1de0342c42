-- The state of a text that is audited in chunks, to its end.
use Rattle.std.specs.Prelude.{◌≡◌, ◌+◌, ◌-◌, ◌<◌, ◌≤◌, ◌^◌, ℕ, List, [], None, IsSome, MatchOption, length}
use Rattle.hsms_machine.specs.declared.entry.Entry.{Entry}
use Rattle.hsms_log.specs.declared.auditor.Auditor.{Auditor}
use Rattle.hsms_log.specs.AuditState.{Allows}
use Rattle.hsms_log.specs.LineReader.{StateInvariant, FailsAs}

-- Holds if the audit has processed this text: no line of it fails so far, or the verdict is that of each text that
-- begins with it.
abbrev pub HasProcessed : Auditor → List ℕ → Type 0
HasProcessed auditor text = MatchOption auditor.found (StateInvariant auditor.reader text) (λ verdict. FailsAs text verdict)

-- Holds if at most this many lines have ended, or a line fails.
abbrev pub HasAtMost : ℕ → Auditor → Type 0
HasAtMost n auditor = auditor.found ≡ None → auditor.reader.line_checker.tally.lines ≤ n

-- Holds if the lines of these bytes can be counted, or a line fails.
abbrev pub HasRoom : Auditor → List ℕ → Type 0
HasRoom auditor octets = auditor.found ≡ None → auditor.reader.line_checker.tally.lines + length octets < 2 ^ 64 - 1

-- Holds if an entry can be processed without a line, or a line fails. The settings were read, no line has begun since
-- the last one ended, and the settings allow the entry's message.
abbrev pub CanProcess : Auditor → Entry → Type 0
CanProcess auditor entry =
    auditor.found ≡ None → (auditor.reader.held ≡ []) × Allows auditor.reader.line_checker.session entry

-- Holds if the settings were read and no line has begun since the last one ended, or a line fails.
abbrev pub IsBetween : Auditor → Type 0
IsBetween auditor =
    auditor.found ≡ None → (auditor.reader.held ≡ []) × IsSome auditor.reader.line_checker.session
