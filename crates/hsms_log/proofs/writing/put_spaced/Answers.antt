use Rattle.std.proofs.Common.{◌∷◌, []}
use Rattle.std.specs.Prelude.{decimal}
use Rattle.std.proofs.lemmas.Result.{err_from_is_err_and}
use Rattle.hsms_log.specs.InnerWriting.{spaced}
use Rattle.hsms_log.proofs.Parts.{failed_first, writes_then, writes_err}
use Rattle.hsms_log.proofs.writing.put_spaced.Goals as goal

pub returns-in_err-put : goal.returns-in_err-put
returns-in_err-put g c =
    let p = err_from_is_err_and c.from_residual.result c.from_residual.ensures.1 in
    writes_err c.from_residual.result p.0 (g.W.Sink.state c.args.sink.now) (g.W.Sink.state c.put.new.sink) (spaced c.args.number) p.1
    (failed_first (g.W.Sink.state c.args.sink.now) (g.W.Sink.state c.put.new.sink) (32 ∷ []) (decimal c.args.number) c.in_err-put.ensures)

pub returns : goal.returns
returns g c =
    writes_then c.put_number.result (g.W.Sink.state c.args.sink.now) (g.W.Sink.state c.put.new.sink) (g.W.Sink.state c.put_number.new.sink) (32 ∷ []) (decimal c.args.number)
    c.in_ok-put.ensures c.put_number.ensures
