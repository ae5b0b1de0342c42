use Rattle.std.proofs.Common.{refl}
use Rattle.hsms_log.specs.LineFormat.{entry_line}
use Rattle.hsms_log.proofs.RuleCheckLaws.{checked_follows}
use Rattle.hsms_log.proofs.RuleReports.{entry_carried}
use Rattle.hsms_log.proofs.audit_state.LineChecker.entry.Goals as goal

pub returns-in-Some : goal.returns-in-Some
returns-in-Some c =
    let session = c.in-Some.session in
    let line = entry_line c.args.entry.now in
    let allowed = rw c.in-Some.is at c.requires.allowed in
    let carries = entry_carried session.settings.max c.args.entry.now c.entry_is_in_range.ensures allowed in
    checked_follows c.carried_entry.result c.args.self.now _ session c.carried_entry.new.session line c.in-Some.is refl (c.carried_entry.ensures line carries)
