use Rattle.std.proofs.Common.{◌∙◌, Some, refl, ap}
use Rattle.hsms_log.specs.declared.verdict.Why.TheVariants.{Unreadable}
use Rattle.explain_statistics.specs.FirstFailure.{failed_at}
use Rattle.explain_lines.specs.AnnotatedFailure.{either, first_why}
use Rattle.cli_explain.proofs.FollowingLines.{first_fails, first_follows}
use Rattle.cli_explain.proofs.ContinuedLogs.{first_continues, number_more}
use Rattle.cli_explain.proofs.Firsts.{keeps_page, keeps_then}
use Rattle.cli_explain.proofs.log_line.first_line.Goals as goal

pub returns-in_ok-submit-in-Some-clause-shown_line : goal.returns-in_ok-submit-in-Some-clause-shown_line
returns-in_ok-submit-in-Some-clause-shown_line c = λ before real shown after.
    let old = c.args.report.now.tally in
    let settings = c.in-Some.settings in
    let encoded_bytes = c.in-Some.ensures.found in
    let known = c.new.ensures in (
      first_follows c.new.result old c.submit.new.self.tally 0 before real c.args.line.now settings old.first refl
          (c.in_ok-submit-in-Some.ensures.first
          ∙ ap (λ t. either t.first (failed_at c.plain.result.number (first_why c.emit_ends.new.self.notes.items))) c.emit_ends.ensures.tally
          ∙ ap (λ n. either old.first (failed_at c.plain.result.number (first_why n))) (ap (λ v. v.items) c.emit_ends.ensures.notes ∙ c.clear.ensures.items))
          (c.in_ok-submit-in-Some.ensures.entries ∙ ap (λ t. t.entries) c.emit_ends.ensures.tally) shown encoded_bytes known.settings known.repaired_session known.line known.clock after.0,
      first_continues c.new.result settings before real c.args.line.now after.1 shown encoded_bytes known.settings known.repaired_session known.line
          known.clock,
    )

pub returns-in_ok-submit-in-Some-clause-shown : goal.returns-in_ok-submit-in-Some-clause-shown
returns-in_ok-submit-in-Some-clause-shown c =
    keeps_then _ _ _ (keeps_page c.args.report.now _ refl refl refl refl) (keeps_then _ _ _ c.emit_ends.ensures.shown c.in_ok-submit-in-Some.ensures.shown)

pub returns-in_ok-submit-in-None-clause-shown_line : goal.returns-in_ok-submit-in-None-clause-shown_line
returns-in_ok-submit-in-None-clause-shown_line c = λ before real shown after.
    let old = c.args.report.now.tally in
    let noted = c.in_ok-note_unreadable-in-None.ensures in
    let number = c.plain-in-None.result.number in (
      first_fails old c.submit-in-None.new.self.tally 0 1 before real c.args.line.now old.first refl
          (c.in_ok-submit-in-None.ensures.first
          ∙ ap (λ t. either t.first (failed_at number (first_why c.note_unreadable.new.self.notes.items))) c.note_unreadable.ensures.tally
          ∙ ap (λ w. either old.first (failed_at number w)) (noted.notes ∙ ap (λ n. either (first_why n) (Some Unreadable)) c.clear.ensures.items)
          ∙ ap (λ n. either old.first (failed_at n (Some Unreadable))) c.plain-in-None.ensures)
          shown c.in-None.ensures.none after.0,
      number_more 0 1 before real refl after.1,
    )
