use Rattle.std.proofs.lemmas.Result.{on_ok_weaker}
use Rattle.capture_tcp.proofs.CarriedBytes.{no_answer, up_processed}
use Rattle.capture_tcp.proofs.streams.answer.Goals as goal

pub returns-then-answers-clause-emitted : goal.returns-then-answers-clause-emitted
returns-then-answers-clause-emitted c =
    on_ok_weaker c.come_up.result
    (up_processed c.args.due c.args.emitter_state.now c.come_up.new.self c.args.emitted.now.items c.come_up.new.emitted.items (let e = c.answers.ensures in let f = c.if-answers.true in cc))
    c.come_up.ensures.emitted

pub returns-clause-emitted : goal.returns-clause-emitted
returns-clause-emitted c = no_answer c.args.due c.args.emitter_state.now c.args.emitted.now.items (let e = c.answers.ensures in let f = c.if-answers.false in cc)
