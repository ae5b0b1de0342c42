use Rattle.capture_tcp.proofs.CarriedBytes.{delivered_active, delivered_passive}
use Rattle.capture_tcp.proofs.streams.deliver.Goals as goal

pub returns-in_ok-active-in-Active-clause-emitted : goal.returns-in_ok-active-in-Active-clause-emitted
returns-in_ok-active-in-Active-clause-emitted c =
    delivered_active c.args.delivery.of c.args.delivery.upto c.args.delivery.packet c.args.delivery.time c.args.streams.now.active.place c.in_ok-active-in-Active.field-0
    c.args.streams.now.active.held c.args.streams.now.passive c.args.emitted.now.items c.cut.new.emitted.items c.args.emitter_state.now c.cut.new.emitter_state c.in-Active.is
    c.in_ok-active-in-Active.ensures.emitted

pub returns-in_ok-passive-in-Passive-clause-emitted : goal.returns-in_ok-passive-in-Passive-clause-emitted
returns-in_ok-passive-in-Passive-clause-emitted c =
    delivered_passive c.args.delivery.of c.args.delivery.upto c.args.delivery.packet c.args.delivery.time c.args.streams.now.passive.place c.in_ok-passive-in-Passive.field-0
    c.args.streams.now.passive.held c.args.streams.now.active c.args.emitted.now.items c.cut-in-Passive.new.emitted.items c.args.emitter_state.now c.cut-in-Passive.new.emitter_state c.in-Passive.is
    c.in_ok-passive-in-Passive.ensures.emitted
