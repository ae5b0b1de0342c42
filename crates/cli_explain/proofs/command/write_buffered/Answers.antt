use Rattle.std.proofs.Common.{refl}
use Rattle.cli_explain.proofs.Firsts.{all_written}
use Rattle.cli_explain.proofs.FormattedLines.{all_more}
use Rattle.cli_explain.proofs.command.write_buffered.Goals as goal

pub returns-clause-some : goal.returns-clause-some
returns-clause-some g c = all_more _ _ _ c.in_ok-put.ensures.ok

pub returns-clause-reception : goal.returns-clause-reception
returns-clause-reception g c = λ text reception. record { lines = reception.lines; held = reception.held; few = reception.few }

pub returns-clause-shown : goal.returns-clause-shown
returns-clause-shown g c = λ excerpt start before.
    let collected = c.buffer_pending.ensures in
    let report = c.args.explainer.now.report in
    all_written excerpt start _ _ report (record report { page = c.clear.new.self }) c.in_ok-shown_line.shown_line.now refl refl refl
    (λ text has. c.in_ok-shown_line.ensures text collected.collected (collected.shown_line text has)) (c.clear.ensures collected.collected) c.in_ok-put.ensures.ok before
