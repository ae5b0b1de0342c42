use Rattle.std.proofs.lemmas.Result.{on_ok_weaker}
use Rattle.capture_tcp.proofs.CarriedBytes.{no_reset, reset_processed}
use Rattle.capture_tcp.proofs.streams.reset.Goals as goal

pub returns-then-resets-clause-emitted : goal.returns-then-resets-clause-emitted
returns-then-resets-clause-emitted c =
    on_ok_weaker c.go_down.result
    (reset_processed c.args.opened c.args.due c.args.emitter_state.now c.go_down.new.self c.args.emitted.now.items c.go_down.new.emitted.items (let e = c.resets.ensures in let f = c.if-resets.true in cc))
    c.go_down.ensures.emitted

pub returns-clause-emitted : goal.returns-clause-emitted
returns-clause-emitted c = no_reset c.args.opened c.args.due c.args.emitter_state.now c.args.emitted.now.items (let e = c.resets.ensures in let f = c.if-resets.false in cc)
