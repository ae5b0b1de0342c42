use Rattle.std.proofs.Common.{◌≡◌, ◌++◌, ◌∷◌, [], ℕ, List, length, subst, append_assoc, rules}
use Rattle.hsms_log.proofs.Parts.{empty_is}
use Rattle.std.specs.Prelude.{OnOk}
use Rattle.cli_explain.specs.declared.report.Report.{Report}
use Rattle.cli_explain.specs.InnerFirstFailureOutput.{KeepsShown}
use Rattle.cli_explain.specs.InnerLinesProcessed.{HasProcessed}
use Rattle.explain_lines.proofs.Results.{on_ok_more}
use Rattle.cli_explain.proofs.ProcessedLines.{processed_complete}
use Rattle.cli_explain.proofs.explainer.Explainer.end_line.Goals as goal

pub returns-then-is_empty-clause-reception : goal.returns-then-is_empty-clause-reception
returns-then-is_empty-clause-reception c =
    let size : length c.args.self.now.held.items ≡ 0 = search rules in
    let none = empty_is c.args.self.now.held.items size in
    on_ok_more _ _ c.emit_line.result
    (λ shown_line text no_feed. processed_complete c.args.self.now _ text c.args.part.now c.without_carriage_return.result.now no_feed none none
    c.without_carriage_return.ensures shown_line)
    c.emit_line.ensures.shown_line

pub returns-clause-reception : goal.returns-clause-reception
returns-clause-reception c =
    on_ok_more _ _ c.emit_held.result
    (λ shown_line text no_feed reception.
    let P : List ℕ → Type 0 = λ l. HasProcessed c.emit_held.new.self l in
    subst P (append_assoc text c.args.part.now (10 ∷ [])) (shown_line (text ++ c.args.part.now) (c.in_ok-hold.ensures.reception text no_feed reception)))
    c.emit_held.ensures.reception

pub returns-clause-shown : goal.returns-clause-shown
returns-clause-shown c =
    let P : Report → Type 0 = λ r. OnOk c.emit_held.result (KeepsShown r c.emit_held.new.self.report) in
    subst P c.in_ok-hold.ensures.report c.emit_held.ensures.shown
