use Rattle.std.proofs.Common.{sym, subst}
use Rattle.capture_tcp.specs.KnownStreams.{seen_of}
use Rattle.capture_events.specs.declared.connection_state.ConnectionState.{ConnectionState}
use Rattle.capture_events.specs.ConnectionState.{TakesPacket}
use Rattle.capture_events.proofs.ConnectionStates.{state_follows, state_over}
use Rattle.capture_events.proofs.connection_state.ConnectionState.take.Goals as goal

pub returns-in-Over : goal.returns-in-Over
returns-in-Over c =
    subst (λ (st : ConnectionState). TakesPacket c.args.max c.args.pair.now c.args.syn (seen_of c.args.packet.segment c.args.packet.octets.now) st _ c.args.events.now.items c.args.events.now.items) (sym c.in-Over.is)
    (state_over c.args.max c.args.syn c.args.pair.now (seen_of c.args.packet.segment c.args.packet.octets.now) c.args.events.now.items)

pub returns-in_ok-left-in-Tracked : goal.returns-in_ok-left-in-Tracked
returns-in_ok-left-in-Tracked c =
    rw (c.in-Tracked.is, c.state_of.ensures)
    (state_follows c.args.max c.args.syn c.args.pair.now (seen_of c.args.packet.segment c.args.packet.octets.now) c.in-Tracked.tracked c.in_ok-left-in-Tracked.left c.args.events.now.items
    c.take.new.events.items c.in_ok-left-in-Tracked.ensures)
