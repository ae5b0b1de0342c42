use Rattle.std.proofs.lemmas.Result.{err_from_is_err_and}
use Rattle.std.proofs.Common.{◌≡◌, List, [], Option, Some, None, refl, sym, subst}
use Rattle.capture_tcp.specs.declared.ending.Ending.{Ending}
use Rattle.capture_tcp.specs.InnerReaderInvariant.{Followed}
use Rattle.capture_tcp.specs.declared.packet.Packet.{Packet}
use Rattle.capture_tcp.specs.InnerPacketArrival.{Reacts}
use Rattle.capture_tcp.specs.KnownStreams.{ContinuesWith, seen_of}
use Rattle.capture_tcp.proofs.Connecting.{followed_none, followed_some}
use Rattle.capture_tcp.proofs.Stopped.{continues_none, continues_some, stops_full}
use Rattle.capture_tcp.proofs.MonotonicTimes.{followed_in_none, followed_in_some}
use Rattle.capture_tcp.proofs.connection.follow.Goals as goal

pub returns-in_default-clause-emitted : goal.returns-in_default-clause-emitted
returns-in_default-clause-emitted c =
    let s = seen_of c.args.segment c.args.octets.now in
    let freed = c.take.new.emitted.items in
    let none : c.in_ok-packet.field-0 ≡ None = (let e = c.in_default.is in cc) in
    followed_none c.args.turns.now c.take.new.self c.args.reading.now c.args.segment c.args.octets.now c.args.emitted.now.items freed
    (subst (λ (o : Option Packet). ContinuesWith c.args.turns.now [] s c.take.new.self freed o) none
    (subst (λ (ps : List Packet). ContinuesWith c.args.turns.now ps s c.take.new.self freed c.in_ok-packet.field-0) c.new-freed.ensures.items c.in_ok-packet.ensures.ok))

pub returns-clause-emitted : goal.returns-clause-emitted
returns-clause-emitted c =
    let s = seen_of c.args.segment c.args.octets.now in
    let freed = c.take.new.emitted.items in
    let some : c.in_ok-packet.field-0 ≡ Some c.in-Some.packet = (let e = c.in-Some.is in cc) in
    subst (λ (r : Option Ending). Followed c.args.turns.now c.args.reading.now c.args.segment c.args.octets.now c.args.emitted.now.items c.take.new.self c.react.new.reading
    c.react.new.emitted.items r) (sym c.shown_if.ensures)
    (followed_some c.args.turns.now c.take.new.self c.args.reading.now c.react.new.reading c.args.segment c.args.octets.now c.args.emitted.now.items c.react.new.emitted.items freed
    c.in-Some.packet c.of_side-acknowledged.result c.received.result c.ends.result c.received-2.result c.in_ok-ending.ending
    (subst (λ (o : Option Packet). ContinuesWith c.args.turns.now [] s c.take.new.self freed o) some
    (subst (λ (ps : List Packet). ContinuesWith c.args.turns.now ps s c.take.new.self freed c.in_ok-packet.field-0) c.new-freed.ensures.items c.in_ok-packet.ensures.ok))
    c.received.ensures c.of_side-acknowledged.ensures c.ends.ensures c.received-2.ensures
    (subst (λ (ps : List Packet). Reacts (record {
      from = c.args.segment.from;
      flags = c.args.segment.flags;
      packet = c.in-Some.packet;
      acknowledged = c.of_side-acknowledged.result;
      ends = c.ends.result;
      received = c.received-2.result;
    }) c.args.octets.now ps c.args.reading.now c.args.emitted.now.items c.react.new.reading c.react.new.emitted.items c.in_ok-ending.ending)
    (let e = c.deref.ensures.value in cc) c.in_ok-ending.ensures.emitted))

pub returns-in_default-clause-times : goal.returns-in_default-clause-times
returns-in_default-clause-times c = followed_in_none c.args.turns.now c.args.reading.now c.args.segment c.args.octets.now c.args.emitted.now.items

pub returns-clause-times : goal.returns-clause-times
returns-clause-times c =
    let s = seen_of c.args.segment c.args.octets.now in
    let freed = c.take.new.emitted.items in
    let some : c.in_ok-packet.field-0 ≡ Some c.in-Some.packet = (let e = c.in-Some.is in cc) in
    followed_in_some c.args.turns.now c.take.new.self c.args.reading.now c.react.new.reading c.args.segment c.args.octets.now c.args.emitted.now.items c.react.new.emitted.items freed
    c.in-Some.packet
    (subst (λ (o : Option Packet). ContinuesWith c.args.turns.now [] s c.take.new.self freed o) some
    (subst (λ (ps : List Packet). ContinuesWith c.args.turns.now ps s c.take.new.self freed c.in_ok-packet.field-0) c.new-freed.ensures.items c.in_ok-packet.ensures.ok))
    c.in_ok-ending.ensures.times

pub returns-in_default-clause-proceeds : goal.returns-in_default-clause-proceeds
returns-in_default-clause-proceeds c =
    let s = seen_of c.args.segment c.args.octets.now in
    let freed = c.take.new.emitted.items in
    let none : c.in_ok-packet.field-0 ≡ None = (let e = c.in_default.is in cc) in
    continues_none c.args.turns.now c.take.new.self c.args.reading.now c.args.segment c.args.octets.now c.args.emitted.now.items freed (c.take.ensures.near (let e = c.in_ok-packet.was in rw e refl))
    (subst (λ (o : Option Packet). ContinuesWith c.args.turns.now [] s c.take.new.self freed o) none
    (subst (λ (ps : List Packet). ContinuesWith c.args.turns.now ps s c.take.new.self freed c.in_ok-packet.field-0) c.new-freed.ensures.items c.in_ok-packet.ensures.ok))

pub returns-clause-proceeds : goal.returns-clause-proceeds
returns-clause-proceeds c =
    let s = seen_of c.args.segment c.args.octets.now in
    let freed = c.take.new.emitted.items in
    let some : c.in_ok-packet.field-0 ≡ Some c.in-Some.packet = (let e = c.in-Some.is in cc) in
    continues_some c.args.turns.now c.take.new.self c.args.reading.now c.args.segment c.args.octets.now c.args.emitted.now.items freed c.in-Some.packet
    (c.take.ensures.near (let e = c.in_ok-packet.was in rw e refl))
    (subst (λ (o : Option Packet). ContinuesWith c.args.turns.now [] s c.take.new.self freed o) some
    (subst (λ (ps : List Packet). ContinuesWith c.args.turns.now ps s c.take.new.self freed c.in_ok-packet.field-0) c.new-freed.ensures.items c.in_ok-packet.ensures.ok))
    c.in_ok-ending.ensures.near

pub returns-in_err-ending-clause-stops : goal.returns-in_err-ending-clause-stops
returns-in_err-ending-clause-stops c =
    let s = seen_of c.args.segment c.args.octets.now in
    let freed = c.take.new.emitted.items in
    let some : c.in_ok-packet.field-0 ≡ Some c.in-Some.packet = (let e = c.in-Some.is in cc) in
    let p = err_from_is_err_and c.from_residual-in_err-ending.result c.from_residual-in_err-ending.ensures.1 in
    rw (p.1, p.2)
    (stops_full c.in_err-ending.field-0.0 c.args.turns.now c.take.new.self c.args.reading.now c.args.segment c.args.octets.now c.args.emitted.now.items freed c.in-Some.packet
    (subst (λ (o : Option Packet). ContinuesWith c.args.turns.now [] s c.take.new.self freed o) some
    (subst (λ (ps : List Packet). ContinuesWith c.args.turns.now ps s c.take.new.self freed c.in_ok-packet.field-0) c.new-freed.ensures.items c.in_ok-packet.ensures.ok))
    c.in_err-ending.ensures.full)
