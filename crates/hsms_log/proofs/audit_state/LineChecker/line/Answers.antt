use Rattle.std.proofs.Common.{refl}
use Rattle.hsms_log.proofs.RuleCheckLaws.{checked_follows}
use Rattle.hsms_log.proofs.audit_state.LineChecker.line.Goals as goal

pub returns-in-Some : goal.returns-in-Some
returns-in-Some c =
    checked_follows c.check_entry_line.result c.args.self.now _ c.in-Some.session c.check_entry_line.new.session c.args.line.now c.in-Some.is refl
    c.check_entry_line.ensures
