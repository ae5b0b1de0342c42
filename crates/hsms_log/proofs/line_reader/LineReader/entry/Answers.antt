use Rattle.std.proofs.Common.{ap, ◌+◌, ◌∙◌}
use Rattle.hsms_log.specs.LineFormat.{entry_line}
use Rattle.hsms_log.specs.LineReader.{Reading}
use Rattle.hsms_log.proofs.RuleReports.{entry_invariant, entry_fails}
use Rattle.hsms_log.proofs.WrittenLog.{entry_one, entry_whole}
use Rattle.hsms_log.proofs.line_reader.LineReader.entry.Goals as goal

pub returns-clause-consistent : goal.returns-clause-consistent
returns-clause-consistent c =
    let entry = c.args.entry.now in
    let range = c.entry_is_in_range.ensures in
    let check_result = rw c.in_default.is at c.in_ok-why.ensures in
    λ e text. entry_invariant c.args.self.now (record { line_checker = c.entry.new.self; held = c.self.inside.held.items }) c.self.inside.line_checker text (entry_line entry)
    c.requires.between (ap (λ (r : Reading). r.held) c.self.view_is ∙ c.requires.between) (entry_one entry range) (entry_whole entry range)
    (ap (λ (r : Reading). r.line_checker) c.self.view_is) check_result.1

pub returns-clause-number : goal.returns-clause-number
returns-clause-number c =
    let check_result = rw c.in_default.is at c.in_ok-why.ensures in
    λ e. check_result.0 ∙ ap (λ (r : Reading). r.line_checker.tally.lines + 1) c.self.view_is

pub returns-in-Some-clause-fails : goal.returns-in-Some-clause-fails
returns-in-Some-clause-fails c =
    let entry = c.args.entry.now in
    let range = c.entry_is_in_range.ensures in
    let check_result = rw c.in-Some.is at c.in_ok-why.ensures in
    entry_fails c.args.self.now c.self.inside.line_checker (entry_line entry) _ c.in-Some.why c.failure.result c.requires.between (entry_one entry range)
    (entry_whole entry range) (ap (λ (r : Reading). r.line_checker) c.self.view_is) c.failure.ensures
    (ap (λ n. n + 1) (check_result.0 ∙ ap (λ (r : Reading). r.line_checker.tally.lines) c.self.view_is)) check_result.1
