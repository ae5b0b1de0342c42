use Rattle.std.proofs.Common.{◌∙◌, Some, ap}
use Rattle.hsms_log.specs.declared.verdict.Why.{Why}
use Rattle.explain_lines.specs.declared.annotation.Note.TheVariants.{Fails}
use Rattle.explain_lines.specs.AnnotatedFailure.{either, first_why}
use Rattle.explain_lines.proofs.AnnotatedFailures.{first_why-push}
use Rattle.cli_explain.proofs.report.Report.note_unreadable.Goals as goal

pub returns-clause-notes : goal.returns-clause-notes
returns-clause-notes c =
    let before = first_why c.args.self.now.notes.items in
    ap first_why c.in_ok-push.ensures.items ∙ first_why-push c.args.self.now.notes.items (Fails c.unreadable.result)
    ∙ ap (λ (w : Why). either before (Some w)) c.unreadable.ensures.why

pub returns-clause-adds : goal.returns-clause-adds
returns-clause-adds c = (c.unreadable.result, c.unreadable.ensures.why, c.unreadable.ensures.sentence, c.unreadable.ensures.expected, c.in_ok-push.ensures.items)
