use Rattle.std.proofs.Common.{◌++◌, ◌∷◌, []}
use Rattle.std.proofs.lemmas.Result.{err_from_is_err_and}
use Rattle.hsms_log.proofs.Parts.{failed_first, failed_second, writes_then, writes_err}
use Rattle.hsms_log.proofs.writing.put_word.Goals as goal

pub returns-in_err-put : goal.returns-in_err-put
returns-in_err-put g c =
    let rest = c.args.word.now ++ 10 ∷ [] in
    let p = err_from_is_err_and c.from_residual.result c.from_residual.ensures.1 in
    writes_err c.from_residual.result p.0 (g.W.Sink.state c.args.sink.now) (g.W.Sink.state c.put.new.sink) (c.args.front.now ++ rest) p.1
    (failed_first (g.W.Sink.state c.args.sink.now) (g.W.Sink.state c.put.new.sink) c.args.front.now rest c.in_err-put.ensures)

pub returns-in_err-put-2 : goal.returns-in_err-put-2
returns-in_err-put-2 g c =
    let rest = c.args.word.now ++ 10 ∷ [] in
    let p = err_from_is_err_and c.from_residual-in_err-put-2.result c.from_residual-in_err-put-2.ensures.1 in
    writes_err c.from_residual-in_err-put-2.result p.0 (g.W.Sink.state c.args.sink.now) (g.W.Sink.state c.put-2.new.sink) (c.args.front.now ++ rest) p.1
    (failed_second (g.W.Sink.state c.args.sink.now) (g.W.Sink.state c.put.new.sink) (g.W.Sink.state c.put-2.new.sink) c.args.front.now rest c.in_ok-put.ensures
    (failed_first (g.W.Sink.state c.put.new.sink) (g.W.Sink.state c.put-2.new.sink) c.args.word.now (10 ∷ []) c.in_err-put-2.ensures))

pub returns : goal.returns
returns g c =
    let front = c.args.front.now in
    let word = c.args.word.now in
    writes_then c.put-3.result (g.W.Sink.state c.args.sink.now) (g.W.Sink.state c.put.new.sink) (g.W.Sink.state c.put-3.new.sink) front (word ++ 10 ∷ []) c.in_ok-put.ensures
    (writes_then c.put-3.result (g.W.Sink.state c.put.new.sink) (g.W.Sink.state c.put-2.new.sink) (g.W.Sink.state c.put-3.new.sink) word (10 ∷ []) c.in_ok-put-2.ensures c.put-3.ensures)
