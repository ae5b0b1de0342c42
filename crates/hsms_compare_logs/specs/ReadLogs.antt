-- A log that was read to its end.
use Rattle.std.specs.Prelude.{◌≡◌, ℕ, List}
use Rattle.hsms_machine.specs.Settings.{Parameters}
use Rattle.hsms_log.specs.Verdict.{HasAuditVerdict}
use Rattle.hsms_compare.specs.Conversation.{Line}
use Rattle.hsms_compare_repair.specs.Logs.{HasFramesOf}
use Rattle.hsms_compare_logs.specs.declared.read_log.FinishedLog.{FinishedLog}
use Rattle.hsms_compare_logs.specs.declared.read_log.ReadLog.{ReadLog}
use Rattle.hsms_compare_logs.specs.LogEntries.{HasEntries, connection_of, has_later_connections, is_open_connection, up_line}
use Rattle.hsms_compare_logs.specs.Records.{IsLogOf}

-- Holds if a log has these entries: the line of its first `up`, the frames of its first connection, and whether that may
-- have more entries, and whether other connections follow it.
pub record IsOfEntries (found : List Line) (log : ReadLog) : Type 0 where
  pub up : log.up ≡ up_line found
  pub frames : HasFramesOf (connection_of found) log.frames
  pub continued : log.frames.is_open ≡ is_open_connection found
  pub followed : log.is_followed ≡ has_later_connections found

-- Holds if a log has this text.
pub record IsOfText (text : List ℕ) (log : ReadLog) : Type 0 where
  pub verdict : HasAuditVerdict text log.verdict
  pub entries : (s : Parameters) (found : List Line) → HasEntries text s found → IsOfEntries found log

-- Holds if a log has this text, and these are the entries of its first connection.
pub record IsFinished (text : List ℕ) (finished : FinishedLog) : Type 0 where
  pub log : IsOfText text finished.log
  pub entries : (s : Parameters) (found : List Line) → HasEntries text s found
      → IsLogOf (connection_of found) (is_open_connection found) finished.entries
