-- The entries of a connection that was read to its end.
use Rattle.std.proofs.Common.{◌≡◌, ◌++◌, ℕ, List, None, Bool, sym, ◌∙◌, ap, subst}
use Rattle.std.specs.Prelude.{Option, not, ◌&&◌}
use Rattle.std.proofs.lemmas.List.{append-nil}
use Rattle.hsms_log.specs.declared.verdict.Verdict.{Verdict}
use Rattle.hsms_compare.specs.Conversation.{Line}
use Rattle.hsms_compare_logs.specs.declared.log_record.LogRecord.{LogRecord}
use Rattle.hsms_compare_logs.specs.Records.{HasRecordOf, IsLogOf}
use Rattle.hsms_compare_logs.specs.Connection.{ReadsEntries}
use Rattle.hsms_compare_logs.specs.LogEntries.{connection_of, is_open_connection}
use Rattle.hsms_compare_logs.specs.ReadLogs.{IsOfEntries}

pub of_entries : (block : List ℕ) (left : Option (List ℕ)) (max count : ℕ) (ended down followed : Bool) (up : Option ℕ) (kept : LogRecord) (verdict : Verdict) (more : Bool) (found : List Line)
    → more ≡ (not followed && not down) → ReadsEntries block left max count ended None down followed up kept found
    → IsOfEntries found (record { up = up; frames = record { sent = kept.frames.sent; received = kept.frames.received; is_open = more }; is_followed = followed; verdict = verdict })
of_entries block left max count ended down followed up kept verdict more found is (up_is, done, rest, e, f, (lines_is, more_is, others_is)) =
    let P : List Line → Type 0 = λ x. HasRecordOf x kept in
    let all = subst P (sym (e ∙ ap (λ l. done ++ l) lines_is ∙ append-nil done)) f in
    record { up = up_is; frames = record { sent_so = all.frames.sent_so; received_so = all.frames.received_so }; continued = is ∙ sym more_is; followed = sym others_is }

pub log_of_entries : (block : List ℕ) (left : Option (List ℕ)) (max count : ℕ) (ended down followed : Bool) (up : Option ℕ) (kept : LogRecord) (more : Bool) (found : List Line)
    → more ≡ (not followed && not down) → ReadsEntries block left max count ended None down followed up kept found
    → IsLogOf (connection_of found) (is_open_connection found) (record { entries = kept.entries; lines = kept.lines; is_open = more })
log_of_entries block left max count ended down followed up kept more found is (up_is, done, rest, e, f, (lines_is, more_is, others_is)) =
    let P : List Line → Type 0 = λ x. HasRecordOf x kept in
    let all = subst P (sym (e ∙ ap (λ l. done ++ l) lines_is ∙ append-nil done)) f in
    record { entries = record { entries_so = all.entries.entries_so; lines_so = all.entries.lines_so }; continued = is ∙ sym more_is }
