use Rattle.std.proofs.lemmas.Result.{err_from_is_err_and}
use Rattle.hsms_log.proofs.Parts.{writes_err}
use Rattle.hsms_log.proofs.writing.put.Goals as goal

pub returns-in_err-give_all : goal.returns-in_err-give_all
returns-in_err-give_all g c =
    let p = err_from_is_err_and c.from_residual.result c.from_residual.ensures.1 in
    writes_err c.from_residual.result p.0 (g.W.Sink.state c.args.sink.now) (g.W.Sink.state c.give_all.new.sink) c.args.octets.now p.1
    (c.in_err-give_all.ensures.err, c.in_err-give_all.ensures.failures)
