use Rattle.std.proofs.Common.{◌++◌, ◌∷◌, [], take, drop, get_or, ◌≤◌, ◌+◌, length, sym, ap, arith}
use Rattle.std.specs.List.{flat_map}
use Rattle.std.proofs.lemmas.List.{take_all}
use Rattle.std.proofs.lemmas.Result.{err_from_is_err_and}
use Rattle.hsms_log.specs.InnerWriting.{spaced}
use Rattle.hsms_log.proofs.Parts.{written_then, written_along, failed_first, failed_second, failed_along, writes_then, writes_err, numbers_next, numbers_parted}
use Rattle.hsms_log.proofs.writing.put_numbers.Goals as goal

pub returns-in_err-put_spaced : goal.returns-in_err-put_spaced
returns-in_err-put_spaced g c =
    let xs = c.args.numbers.now in
    let i = c.loop-number.number-index in
    let b = spaced (get_or xs i 0) in
    let rest = flat_map spaced (drop (i + 1) xs) ++ 10 ∷ [] in
    let p = err_from_is_err_and c.from_residual.result c.from_residual.ensures.1 in
    writes_err c.from_residual.result p.0 (g.W.Sink.state c.args.sink.now) (g.W.Sink.state c.put_spaced.new.sink) (flat_map spaced xs ++ 10 ∷ []) p.1
    (failed_along (g.W.Sink.state c.args.sink.now) (g.W.Sink.state c.put_spaced.new.sink) (flat_map spaced (take i xs) ++ (b ++ rest)) (flat_map spaced xs ++ 10 ∷ [])
    (numbers_parted xs i (10 ∷ []) c.loop-number-test.true)
    (failed_second (g.W.Sink.state c.args.sink.now) (g.W.Sink.state c.loop-number.sink) (g.W.Sink.state c.put_spaced.new.sink) (flat_map spaced (take i xs)) (b ++ rest) c.loop-number.invariant
    (failed_first (g.W.Sink.state c.loop-number.sink) (g.W.Sink.state c.put_spaced.new.sink) b rest c.in_err-put_spaced.ensures)))

pub loop-number-preserved : goal.loop-number-preserved
loop-number-preserved g c =
    let xs = c.args.numbers.now in
    let i = c.loop-number.number-index in
    let b = spaced (get_or xs i 0) in
    written_along (g.W.Sink.state c.args.sink.now) (g.W.Sink.state c.put_spaced.new.sink) (flat_map spaced (take i xs) ++ b) (flat_map spaced (take (i + 1) xs)) (sym (numbers_next xs i c.loop-number-test.true))
    (written_then (g.W.Sink.state c.args.sink.now) (g.W.Sink.state c.loop-number.sink) (g.W.Sink.state c.put_spaced.new.sink) (flat_map spaced (take i xs)) b c.loop-number.invariant c.in_ok-put_spaced.ensures)

pub returns : goal.returns
returns g c =
    let xs = c.args.numbers.now in
    let i = c.loop-number.number-index in
    let all : length xs ≤ i = omega (arith, c.loop-number-test.false) in
    writes_then c.put.result (g.W.Sink.state c.args.sink.now) (g.W.Sink.state c.loop-number.sink) (g.W.Sink.state c.put.new.sink) (flat_map spaced xs) (10 ∷ [])
    (written_along (g.W.Sink.state c.args.sink.now) (g.W.Sink.state c.loop-number.sink) (flat_map spaced (take i xs)) (flat_map spaced xs) (ap (flat_map spaced) (take_all i xs all)) c.loop-number.invariant)
    c.put.ensures
