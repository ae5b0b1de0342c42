use Rattle.std.proofs.lemmas.Result.{err_from_is_err_and}
use Rattle.capture_tcp.specs.declared.connection.Connection.{Connection}
use Rattle.capture_tcp.specs.KnownStreams.{seen_of}
use Rattle.capture_tcp.proofs.Connecting.{stays}
use Rattle.capture_tcp.proofs.Stopped.{ended_continues, continues_by, stops_by}
use Rattle.capture_tcp.proofs.MonotonicTimes.{continues_in_time, stays_in_time}
use Rattle.capture_tcp.proofs.connection.Connection.take.Goals as goal

pub returns-then-is_some-clause-emitted : goal.returns-then-is_some-clause-emitted
returns-then-is_some-clause-emitted c =
    stays c.args.self (seen_of c.args.segment c.args.octets.now) c.args.emitted.now.items (let e = c.is_some.ensures in let f = c.if-is_some.true in cc)

pub returns-then-is_some-clause-times : goal.returns-then-is_some-clause-times
returns-then-is_some-clause-times c = stays_in_time c.args.self (seen_of c.args.segment c.args.octets.now) c.args.emitted.now.items

pub returns-clause-times : goal.returns-clause-times
returns-clause-times c =
    let next : Connection = record { turns = c.follow.new.turns; reading = c.follow.new.reading; ending = c.in_ok-connection.field-0 } in
    continues_in_time c.args.self next c.args.segment c.args.octets.now c.args.emitted.now.items c.follow.new.emitted.items (let e = c.is_some.ensures in let f = c.if-is_some.false in cc)
    c.in_ok-connection.ensures.times

pub returns-then-is_some-clause-proceeds : goal.returns-then-is_some-clause-proceeds
returns-then-is_some-clause-proceeds c =
    ended_continues c.args.self (seen_of c.args.segment c.args.octets.now) c.args.emitted.now.items (let e = c.is_some.ensures in let f = c.if-is_some.true in cc)

pub returns-clause-proceeds : goal.returns-clause-proceeds
returns-clause-proceeds c = continues_by c.args.self c.args.segment c.args.octets.now c.args.emitted.now.items c.in_ok-connection.ensures.proceeds

pub returns-in_err-connection-clause-stops : goal.returns-in_err-connection-clause-stops
returns-in_err-connection-clause-stops c =
    let p = err_from_is_err_and c.from_residual.result c.from_residual.ensures.1 in
    rw (p.1, p.2)
    (stops_by c.in_err-connection.field-0.0 c.args.self c.args.segment c.args.octets.now c.args.emitted.now.items (let e = c.is_some.ensures in let f = c.if-is_some.false in cc)
    c.in_err-connection.ensures.stops)
