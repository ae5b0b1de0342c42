use Rattle.std.proofs.Common.{◌+◌, ◌++◌, [], ◌∷◌, take, drop, Ok, Err, sym, arith}
use Rattle.std.proofs.lemmas.List.{take_rest}
use Rattle.hsms_ends.specs.declared.output.Stop.TheVariants.{Link, Log}
use Rattle.hsms_ends.specs.Link.{processed_nothing}
use Rattle.hsms_frame.specs.Io.{SinkState}
use Rattle.hsms_ends.proofs.OutputSteps.{puts_then, puts_nothing, puts_along, puts_log_more, puts_no_link, puts_no_log, puts_rest, puts_whole, taken_next, parted_at}
use Rattle.hsms_ends.proofs.output.put_out.Goals as goal

pub loop-place-init : goal.loop-place-init
loop-place-init g c =
    let log : SinkState = g.W.Sink.state c.args.log.now in
    (omega arith, puts_nothing log (g.L.Link.link_state c.args.link.now))

pub loop-place-preserved : goal.loop-place-preserved
loop-place-preserved g c =
    let link_state = g.L.Link.link_state in
    let log : SinkState = g.W.Sink.state c.args.log.now in
    let mid : SinkState = g.W.Sink.state c.loop-place.log in
    let now : SinkState = g.W.Sink.state c.write_entry.new.sink in
    let x = c.index-entries-place.result in
    let done = take c.loop-place.place c.args.entries.now in (
      omega arith,
      puts_along (Ok tt) log now (link_state c.args.link.now) (link_state c.send_event.new.link) (done ++ x ∷ []) _ processed_nothing
          (sym (taken_next c.args.entries.now c.loop-place.place x c.loop-place-test.true c.index-entries-place.is))
          (puts_then (Ok tt) log mid now (link_state c.args.link.now) (link_state c.loop-place.link) (link_state c.send_event.new.link) done (x ∷ []) processed_nothing processed_nothing c.loop-place.invariant.1
          (puts_whole x mid now (link_state c.loop-place.link) (link_state c.send_event.new.link) (c.in-Ok.ensures.written, c.in-Ok.ensures.failures) c.in-Ok-send_event.ensures)),
    )

pub returns-in-Err-send_event : goal.returns-in-Err-send_event
returns-in-Err-send_event g c =
    let link_state = g.L.Link.link_state in
    let log : SinkState = g.W.Sink.state c.args.log.now in
    let before : SinkState = g.W.Sink.state c.loop-place.log in
    let mid : SinkState = g.W.Sink.state c.write_entry.new.sink in
    let xs = c.args.entries.now in
    let x = c.index-entries-place.result in
    let i = c.loop-place.place in
    let now : SinkState = g.W.Sink.state c.log_rest.new.log in
    let first = puts_then (Err Link) log before mid (link_state c.args.link.now) (link_state c.loop-place.link) (link_state c.send_event.new.link) (take i xs) (x ∷ []) processed_nothing processed_nothing c.loop-place.invariant.1
    (puts_no_link x before mid (link_state c.loop-place.link) (link_state c.send_event.new.link) (c.in-Ok.ensures.written, c.in-Ok.ensures.failures) c.in-Err-send_event.ensures) in
    let rest = rw take_rest at c.log_rest.ensures in
    puts_along (Err c.log_rest.result) log now (link_state c.args.link.now) (link_state c.send_event.new.link) ((take i xs ++ x ∷ []) ++ drop (i + 1) xs) xs processed_nothing
    (parted_at xs i x c.loop-place-test.true c.index-entries-place.is)
    (puts_rest (Err c.log_rest.result) log mid now (link_state c.args.link.now) (link_state c.send_event.new.link) (take i xs ++ x ∷ []) (drop (i + 1) xs) processed_nothing first rest)

pub returns-in-Err : goal.returns-in-Err
returns-in-Err g c =
    let link_state = g.L.Link.link_state in
    let log : SinkState = g.W.Sink.state c.args.log.now in
    let before : SinkState = g.W.Sink.state c.loop-place.log in
    let mid : SinkState = g.W.Sink.state c.write_entry.new.sink in
    let xs = c.args.entries.now in
    let x = c.index-entries-place.result in
    let i = c.loop-place.place in
    let first = puts_then (Err Log) log before mid (link_state c.args.link.now) (link_state c.loop-place.link) (link_state c.loop-place.link) (take i xs) (x ∷ []) processed_nothing processed_nothing c.loop-place.invariant.1
    (puts_no_log x before mid (link_state c.loop-place.link) (c.in-Err.ensures.written, c.in-Err.ensures.failures)) in
    puts_along (Err Log) log mid (link_state c.args.link.now) (link_state c.loop-place.link) ((take i xs ++ x ∷ []) ++ drop (i + 1) xs) xs processed_nothing
    (parted_at xs i x c.loop-place-test.true c.index-entries-place.is)
    (puts_log_more log mid (link_state c.args.link.now) (link_state c.loop-place.link) (take i xs ++ x ∷ []) (drop (i + 1) xs) processed_nothing first)
