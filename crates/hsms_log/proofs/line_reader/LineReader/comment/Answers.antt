use Rattle.std.proofs.Common.{ap, ◌∙◌}
use Rattle.hsms_log.specs.LineReader.{Reading}
use Rattle.hsms_log.proofs.RuleReports.{entry_invariant}
use Rattle.hsms_log.proofs.line_reader.LineReader.comment.Goals as goal

pub returns-clause-consistent : goal.returns-clause-consistent
returns-clause-consistent c =
    λ text comment is. entry_invariant c.args.self.now (record { line_checker = c.comment.new.self; held = c.self.inside.held.items }) c.self.inside.line_checker text comment
    c.requires.between (ap (λ (r : Reading). r.held) c.self.view_is ∙ c.requires.between) is.one is.whole
    (ap (λ (r : Reading). r.line_checker) c.self.view_is) (λ before. c.comment.ensures.follows before comment is)
