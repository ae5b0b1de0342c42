use Rattle.std.proofs.Common.{ap}
use Rattle.hsms_log.specs.Counters.{Counters}
use Rattle.hsms_log.proofs.RuleCheckLaws.{first_follows}
use Rattle.hsms_log.proofs.audit_state.LineChecker.first_line.Goals as goal

pub returns : goal.returns
returns c = (
  ap (λ (t : Counters). t.lines) c.count_line.ensures,
  λ before. first_follows c.args.self.now (record { settings = c.in-Some.settings; tracker = c.new-tracker.result }) c.count_line.new.self before c.args.line.now
      c.requires.first c.in-Some.ensures.found c.new-tracker.ensures c.count_line.ensures,
)
