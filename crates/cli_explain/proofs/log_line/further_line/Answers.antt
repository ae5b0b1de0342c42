use Rattle.std.proofs.Common.{◌≡◌, ◌+◌, ◌∙◌, refl, ap, rules}
use Rattle.explain_lines.specs.Counted.{counted}
use Rattle.explain_statistics.specs.FirstFailure.{failed_at}
use Rattle.explain_lines.specs.AnnotatedFailure.{either, first_why}
use Rattle.cli_explain.proofs.FollowingLines.{further_fails}
use Rattle.cli_explain.proofs.ContinuedLogs.{number_more}
use Rattle.cli_explain.proofs.Firsts.{keeps_page, keeps_then}
use Rattle.cli_explain.proofs.log_line.further_line.Goals as goal

pub returns-clause-shown_line : goal.returns-clause-shown_line
returns-clause-shown_line c = λ before real some after.
    let old = c.args.report.now.tally in
    let number : c.saturating_add-number.result ≡ counted (c.args.so_far + 1) = search rules in (
      further_fails old c.submit.new.self.tally c.args.so_far c.saturating_add-number.result before real old.first refl
          (c.in_ok-submit.ensures.first
          ∙ ap (λ n. either old.first (failed_at c.plain.result.number (first_why n))) c.clear.ensures.items)
          some after.0,
      number_more c.args.so_far c.saturating_add-number.result before real number after.1,
    )

pub returns-clause-shown : goal.returns-clause-shown
returns-clause-shown c =
    keeps_then _ _ _ (keeps_page c.args.report.now _ refl refl refl refl) c.in_ok-submit.ensures.shown
