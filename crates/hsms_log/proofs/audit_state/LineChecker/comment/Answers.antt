use Rattle.std.proofs.Common.{refl}
use Rattle.hsms_log.proofs.RuleReports.{comment_follows}
use Rattle.hsms_log.proofs.audit_state.LineChecker.comment.Goals as goal

pub returns-in-Some-clause-follows : goal.returns-in-Some-clause-follows
returns-in-Some-clause-follows c =
    comment_follows c.args.self.now (record { session = c.args.self.now.session; tally = c.count_line.new.self; octets = c.args.self.now.octets }) c.in-Some.session
    c.in-Some.is refl c.settings_are_in_range.ensures.least_max c.count_line.ensures
