use Rattle.std.proofs.lemmas.Result.{on_ok_weaker}
use Rattle.capture_tcp.proofs.CarriedBytes.{turned}
use Rattle.capture_tcp.proofs.Timing.{keeps_both}
use Rattle.capture_tcp.proofs.streams.turn.Goals as goal

pub returns-clause-emitted : goal.returns-clause-emitted
returns-clause-emitted c =
    on_ok_weaker c.reset.result
    (turned c.args.opened c.args.due c.args.streams.now c.acknowledge.new.streams c.deliver.new.streams
    c.args.emitted.now.items c.answer.new.emitted.items c.acknowledge.new.emitted.items c.deliver.new.emitted.items c.reset.new.emitted.items
    c.args.emitter_state.now c.answer.new.emitter_state c.acknowledge.new.emitter_state c.deliver.new.emitter_state c.reset.new.emitter_state
    c.in_ok-answer.ensures.emitted c.in_ok-acknowledge.ensures.emitted c.in_ok-acknowledge.ensures.moves c.in_ok-deliver.ensures.emitted c.in_ok-deliver.ensures.moves)
    c.reset.ensures.emitted

pub returns-clause-times : goal.returns-clause-times
returns-clause-times c =
    let n = c.args.due.at in
    let t = c.args.due.time in
    on_ok_weaker c.reset.result
    (keeps_both n t c.args.emitted.now.items c.deliver.new.emitted.items c.reset.new.emitted.items
    (keeps_both n t c.args.emitted.now.items c.acknowledge.new.emitted.items c.deliver.new.emitted.items
    (keeps_both n t c.args.emitted.now.items c.answer.new.emitted.items c.acknowledge.new.emitted.items c.in_ok-answer.ensures.times c.in_ok-acknowledge.ensures.times) c.in_ok-deliver.ensures.times))
    c.reset.ensures.times
