use Rattle.std.proofs.Common.{◌++◌, ◌+◌, [], ◌∷◌, take, drop, Ok, Err, sym, arith}
use Rattle.hsms_frame.specs.Io.{SinkState}
use Rattle.hsms_ends.proofs.OutputSteps.{logs_then, logs_first, logs_along, logs_none, logs_one, fails_in_one, taken_next, parted_at}
use Rattle.hsms_ends.proofs.output.log_rest.Goals as goal

pub loop-place-init : goal.loop-place-init
loop-place-init g c =
    let log : SinkState = g.W.Sink.state c.args.log.now in
    (omega arith, logs_none log)

pub loop-place-preserved : goal.loop-place-preserved
loop-place-preserved g c =
    let log : SinkState = g.W.Sink.state c.args.log.now in
    let mid : SinkState = g.W.Sink.state c.loop-place.log in
    let now : SinkState = g.W.Sink.state c.write_entry.new.sink in
    let xs = c.args.entries.now in
    let x = c.index-entries-place.result in
    let i = c.loop-place.place in (
      omega arith,
      logs_along (Ok tt) log now (take i xs ++ x ∷ []) (take (i + 1) xs) (sym (taken_next xs i x c.loop-place-test.true c.index-entries-place.is))
          (logs_then (Ok tt) log mid now (take i xs) (x ∷ []) c.loop-place.invariant.1 (logs_one x mid now (c.in-Ok.ensures.written, c.in-Ok.ensures.failures))),
    )

pub returns-in-Err : goal.returns-in-Err
returns-in-Err g c =
    let log : SinkState = g.W.Sink.state c.args.log.now in
    let mid : SinkState = g.W.Sink.state c.loop-place.log in
    let now : SinkState = g.W.Sink.state c.write_entry.new.sink in
    let xs = c.args.entries.now in
    let x = c.index-entries-place.result in
    let i = c.loop-place.place in
    let fault = c.in-Err.field-0 in
    logs_along (Err fault) log now ((take i xs ++ x ∷ []) ++ drop (i + 1) xs) xs (parted_at xs i x c.loop-place-test.true c.index-entries-place.is)
    (logs_first fault log now (take i xs ++ x ∷ []) (drop (i + 1) xs)
    (logs_then (Err fault) log mid now (take i xs) (x ∷ []) c.loop-place.invariant.1 (fails_in_one mid now x (c.in-Err.ensures.written, c.in-Err.ensures.failures))))
