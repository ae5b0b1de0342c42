use Rattle.std.proofs.Common.{◌<◌, ◌≢◌, [], length, ap, arith, rules}
use Rattle.explain_lines.proofs.Results.{on_ok_more}
use Rattle.cli_explain.proofs.ProcessedLines.{last_ended}
use Rattle.cli_explain.proofs.explainer.Explainer.end_last.Goals as goal

pub returns-clause-shown_line : goal.returns-clause-shown_line
returns-clause-shown_line c =
    let held = c.args.self.now.held.items in
    let size : 0 < length held = search rules in
    let some : held ≢ [] = λ none. let empty = ap length none in absurd (omega (arith, size, empty)) in
    on_ok_more _ _ c.emit_held.result (λ shown_line text reception. last_ended c.args.self.now c.emit_held.new.self text some (shown_line text) reception) c.emit_held.ensures.reception
