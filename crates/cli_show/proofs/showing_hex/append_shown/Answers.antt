use Rattle.std.proofs.Common.{Some, ap, sym, ◌∙◌}
use Rattle.std.proofs.lemmas.Result.{err_from_is_err_and}
use Rattle.cli_options.specs.Request.{is_bare}
use Rattle.cli_show.specs.ShowHex.{IsRefusedLine, ShowsLine}
use Rattle.cli_show.proofs.HexSteps.{appended_line, stopped_write}
use Rattle.cli_show.proofs.showing_hex.append_shown.Goals as goal

pub returns-in-Ok-Some-clause-shown : goal.returns-in-Ok-Some-clause-shown
returns-in-Ok-Some-clause-shown g c =
    let found = rw c.in-Ok-Some.field-0-is at c.in-Ok-Some.ensures in
    appended_line (is_bare c.args.showing.form) c.args.showing.max c.args.showing.depth c.args.number c.args.line.now c.deref.result.now c.append_octets.result (g.W.Sink.state c.args.sink.now).written c.args.held.now (g.W.Sink.state c.append_octets.new.sink).written c.append_octets.new.held
    (sym found ∙ ap Some (sym c.deref.ensures.value)) c.append_octets.ensures.shown

pub returns-in_err-put_out-in-Ok-None-clause-shown : goal.returns-in_err-put_out-in-Ok-None-clause-shown
returns-in_err-put_out-in-Ok-None-clause-shown g c =
    let p = err_from_is_err_and c.from_residual.result c.from_residual.ensures.1 in
    rw (p.1, p.2) (stopped_write (ShowsLine (is_bare c.args.showing.form) c.args.showing.max c.args.showing.depth c.args.line.now) (IsRefusedLine (is_bare c.args.showing.form) c.args.showing.max c.args.number c.args.line.now) (g.W.Sink.state c.args.sink.now).written c.args.held.now (g.W.Sink.state c.put_out.new.sink).written c.put_out.new.held c.in_err-put_out-in-Ok-None.ensures.err)

pub returns-in_err-put_out-in-Err-clause-shown : goal.returns-in_err-put_out-in-Err-clause-shown
returns-in_err-put_out-in-Err-clause-shown g c =
    let p = err_from_is_err_and c.from_residual-in_err-put_out-in-Err.result c.from_residual-in_err-put_out-in-Err.ensures.1 in
    rw (p.1, p.2) (stopped_write (ShowsLine (is_bare c.args.showing.form) c.args.showing.max c.args.showing.depth c.args.line.now) (IsRefusedLine (is_bare c.args.showing.form) c.args.showing.max c.args.number c.args.line.now) (g.W.Sink.state c.args.sink.now).written c.args.held.now (g.W.Sink.state c.put_out-in-Err.new.sink).written c.put_out-in-Err.new.held c.in_err-put_out-in-Err.ensures.err)
