use Rattle.std.proofs.Common.{◌≡◌, ◌∙◌, ap, sym}
use Rattle.cli_options.specs.declared.explain_options.OutputFormat.TheVariants.{Text}
use Rattle.explain_lines.proofs.Results.{on_ok}
use Rattle.explain_forms.proofs.OutputBuffers.{some_then}
use Rattle.cli_explain.specs.InnerLineFilter.{is_written_at_once, page_lines_at}
use Rattle.cli_explain.proofs.LineFilters.{line_held, line_emitted, text_lines}
use Rattle.cli_explain.proofs.line_filter.Window.take.Goals as goal

pub returns-then-is_reported-clause-shown_line : goal.returns-then-is_reported-clause-shown_line
returns-then-is_reported-clause-shown_line c = λ is.
    let old = c.args.self.now in
    let asked = ap (λ e. e.form) c.is_reported.ensures.excerpt ∙ is in
    let at_once = ap (λ l. is_written_at_once l old.subsequent c.args.notes.now) (text_lines old.excerpt.form old.excerpt.lines (page_lines_at old.excerpt c.args.shown_line.number) is) in
    let named = c.emit_named.ensures in
    let then_is = ap (λ e. e.form) named.excerpt ∙ asked in
    let held = c.emit_held.ensures in
    line_emitted _ _ _ _ _ c.args.shown_line c.args.notes.now (sym at_once ∙ sym c.is_reported.ensures.shown_line ∙ c.if-is_reported.true)
    (some_then _ _ _ (named.shown_line asked) (held.shown_line then_is)) (c.submit.ensures.shown_line (ap (λ e. e.form) held.excerpt ∙ then_is))

pub returns-else-is_reported-clause-shown_line : goal.returns-else-is_reported-clause-shown_line
returns-else-is_reported-clause-shown_line c =
    let old = c.args.self.now in
    on_ok _ c.hold.result
    (λ is.
    let at_once = ap (λ l. is_written_at_once l old.subsequent c.args.notes.now) (text_lines old.excerpt.form old.excerpt.lines (page_lines_at old.excerpt c.args.shown_line.number) is) in
    line_held _ _ c.args.shown_line c.args.notes.now (sym at_once ∙ sym c.is_reported.ensures.shown_line ∙ c.if-is_reported.false))
