use Rattle.std.proofs.Common.{subst}
use Rattle.std.proofs.lemmas.Result.{on_ok_weaker}
use Rattle.capture_tcp.specs.declared.packet.Side.{Side}
use Rattle.capture_tcp.specs.InnerDeliverySteps.{Delivers}
use Rattle.capture_tcp.proofs.CarriedBytes.{none_acked, some_acked}
use Rattle.capture_tcp.proofs.streams.acknowledge.Goals as goal

pub returns-in_default-clause-emitted : goal.returns-in_default-clause-emitted
returns-in_default-clause-emitted c =
    (none_acked c.args.due c.args.streams.now c.args.emitted.now.items c.args.emitter_state.now (let e = c.in_default.is in cc)).0

pub returns-clause-emitted : goal.returns-clause-emitted
returns-clause-emitted c =
    on_ok_weaker c.deliver.result
    (λ d. some_acked c.args.due c.args.streams.now c.deliver.new.streams c.args.emitted.now.items c.deliver.new.emitted.items c.args.emitter_state.now c.deliver.new.emitter_state c.in-Some.upto
    (let e = c.in-Some.is in cc)
    (subst (λ (s : Side). Delivers (record { of = s; upto = c.in-Some.upto; packet = c.args.due.at; time = c.args.due.time }) c.args.streams.now c.args.emitted.now.items c.args.emitter_state.now
    c.deliver.new.streams c.deliver.new.emitted.items c.deliver.new.emitter_state) c.other_side.ensures d))
    c.deliver.ensures.emitted
