use Rattle.std.proofs.Common.{◌∙◌, ℕ, ap, subst}
use Rattle.explain_statistics.specs.FirstFailure.{failed_at}
use Rattle.explain_lines.specs.AnnotatedFailure.{either, first_why}
use Rattle.explain_lines.specs.CarriedLine.{IsCarried}
use Rattle.cli_explain.proofs.FollowingLines.{later_follows}
use Rattle.explain_lines.proofs.Results.{on_ok_more}
use Rattle.cli_explain.proofs.ContinuedLogs.{later_continues}
use Rattle.cli_explain.proofs.Firsts.{keeps_page, keeps_then}
use Rattle.cli_explain.proofs.log_line.later_line.Goals as goal

pub returns-clause-shown_line : goal.returns-clause-shown_line
returns-clause-shown_line c =
    let what = c.in_ok-carried.carried in
    let check_result = c.in_ok-judge.ensures in
    let why = first_why c.judge.new.self.notes.items in
    let M : ℕ → Type 0 = λ max. IsCarried max c.args.line.now what in
    let is_carried = subst M c.max-max.ensures.value c.in_ok-carried.ensures in
    on_ok_more _ _ c.submit.result
    (λ first before real shown after. (
      later_follows c.args.known.now c.judge.new.known c.next_line.new.self c.args.report.now.tally c.submit.new.self.tally before real c.args.line.now what c.line.result why
          c.next_line.ensures shown is_carried check_result.settings check_result.line c.line.ensures (c.submit.ensures.entries ∙ check_result.entries)
          (first ∙ ap (λ f. either f (failed_at c.line.result why)) check_result.first) check_result.check_result check_result.clock after.0,
      later_continues c.args.known.now c.judge.new.known c.next_line.new.self before real c.args.line.now what c.judge.new.self.notes.items
          c.next_line.ensures shown is_carried check_result.settings check_result.line check_result.repairs check_result.clock after.1,
    ))
    c.submit.ensures.first

pub returns-clause-shown : goal.returns-clause-shown
returns-clause-shown c =
    let check_result = c.in_ok-judge.ensures in
    on_ok_more _ _ c.submit.result (λ emits. keeps_then _ _ _ (keeps_page _ _ check_result.window check_result.groups check_result.first check_result.page) emits) c.submit.ensures.shown
