-- The log of one end of a connection, as it is told of a capture: the settings, and then each entry behind a comment that
-- names its packet.
use Rattle.std.specs.Prelude.{◌≡◌, ℕ, Option, None, Some, List, [], ◌∷◌, ◌++◌, flat_map, codes, decimal}
use Rattle.hsms_machine.specs.Settings.{Parameters}
use Rattle.hsms_machine.specs.declared.entry.Entry.{Entry}
use Rattle.hsms_log.specs.LineFormat.{entry_line, settings_line}
use Rattle.hsms_log.specs.Auditing.{HoldsNoFailure}
use Rattle.hsms_log.specs.Auditor.{HasProcessed}
use Rattle.hsms_log.specs.Verdict.{FailsOnward, HasAuditVerdict}
use Rattle.hsms_log.specs.declared.auditor.Auditor.{Auditor}
use Rattle.hsms_log.specs.declared.verdict.Why.{Why}
use Rattle.capture_log.specs.declared.audited_log.LogVerdict.{LogVerdict}
use Rattle.capture_log.specs.declared.audited_log.LogComment.{LogComment}
use Rattle.capture_log.specs.declared.audited_log.LogComment.TheVariants as remark

-- the comment above an entry, or in the place of one
abbrev pub remark_text : LogComment → List ℕ
remark_text (remark.Packet packet) = codes "# packet " ++ (decimal packet ++ 10 ∷ [])
remark_text remark.Replaced = codes "# assumed: replaced by a new connection\n"
remark_text remark.Assumption = codes "# assumed: before the capture\n"
remark_text (remark.LeftOut packet) = codes "# packet " ++ (decimal packet ++ codes " skipped: its request is not in the capture\n")

-- an entry of a log, and the comment above it, or a comment alone
pub record Note : Type 0 where
  pub remark : LogComment
  pub entry : Option Entry

abbrev pub entry_text : Option Entry → List ℕ
entry_text None = []
entry_text (Some entry) = entry_line entry ++ 10 ∷ []

abbrev pub note_text : Note → List ℕ
note_text note = remark_text note.remark ++ entry_text note.entry

-- the text of a log
abbrev pub log_text : Parameters → List Note → List ℕ
log_text settings notes = (settings_line settings ++ 10 ∷ []) ++ flat_map note_text notes

-- ---- the packet of the line that fails

-- the packet that a comment names as that of its entry, or the one before
abbrev pub packet_named : ℕ → LogComment → ℕ
packet_named before (remark.Packet packet) = packet
packet_named before remark.Replaced = before
packet_named before remark.Assumption = before
packet_named before (remark.LeftOut packet) = before

-- the last one of a log, or 0 where it names none
abbrev pub packet_after : ℕ → List Note → ℕ
packet_after before [] = before
packet_after before (note ∷ notes) = packet_after (packet_named before note.remark) notes

-- the first line that fails is one of a note: up to it none fails, and with it each log that goes on does
pub record FailsWith (settings : Parameters) (front : List Note) (note : Note) : Type 0 where
  pub line : ℕ
  pub why : Why
  pub before : HoldsNoFailure (log_text settings front)
  pub fails : FailsOnward (log_text settings (front ++ note ∷ [])) line why

-- the last packet that is named up to the note with which a log fails; none where it doesn't fail
abbrev pub FailsAt : Parameters → List Note → Option ℕ → Type 0
FailsAt settings notes None = HoldsNoFailure (log_text settings notes)
FailsAt settings notes (Some packet) =
    (front : List Note) × (note : Note) × (rest : List Note) × (notes ≡ front ++ note ∷ rest) × FailsWith settings front note
    × (packet ≡ packet_after 0 (front ++ note ∷ []))

-- what the audit says of a log
abbrev pub SaysOf : Parameters → List Note → LogVerdict → Type 0
SaysOf settings notes emitted = HasAuditVerdict (log_text settings notes) emitted.verdict × FailsAt settings notes emitted.packet

-- ---- what is known of a log

-- what contracts see of the log of an end: its audit, which is gone where memory was refused, how many lines it has at
-- most, the packet that was named last, and that of the line that fails
pub record CurrentState : Type 0 where
  pub auditor : Option Auditor
  pub lines : ℕ
  pub packet : ℕ
  pub failed : Option ℕ

-- the audit goes on, and has heard this text
abbrev pub HasAuditedBy : Option Auditor → List ℕ → Type 0
HasAuditedBy None text = ⊥
HasAuditedBy (Some auditor) text = HasProcessed auditor text

abbrev pub HasAudited : List ℕ → CurrentState → Type 0
HasAudited text account = HasAuditedBy account.auditor text

-- an audit that has heard this text goes on
abbrev pub ContinuesAfter : List ℕ → Type 0
ContinuesAfter text = (auditor : Auditor) × (auditor.found ≡ None) × HasProcessed auditor text

-- the same of an audit as `FailsAt` says of all
abbrev pub FailsSo : Parameters → List Note → Option ℕ → Type 0
FailsSo settings notes None = ContinuesAfter (log_text settings notes)
FailsSo settings notes (Some packet) =
    (front : List Note) × (note : Note) × (rest : List Note) × (line : ℕ) × (why : Why) × (notes ≡ front ++ note ∷ rest)
    × ContinuesAfter (log_text settings front) × FailsOnward (log_text settings (front ++ note ∷ [])) line why
    × (packet ≡ packet_after 0 (front ++ note ∷ []))

-- the audit has heard the log of these settings and entries
pub record HasLogged (settings : Parameters) (notes : List Note) (account : CurrentState) : Type 0 where
  pub audited : HasAudited (log_text settings notes) account
  pub packet : account.packet ≡ packet_after 0 notes
  pub failed : FailsSo settings notes account.failed
