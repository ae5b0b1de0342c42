use Rattle.std.proofs.Common.{rules}
use Rattle.std.proofs.lemmas.List.{nil_from_length}
use Rattle.capture_midstream.proofs.Starts.{can_continue, passed_all, starts}
use Rattle.capture_midstream.proofs.synthetic_handshake.start_of.Goals as goal

pub returns-then-are_both-clause-some : goal.returns-then-are_both-clause-some
returns-then-are_both-clause-some c =
    starts c.args.active c.args.passive c.args.packets.now c.loop-packet.rest.now c.in-Some.others.now c.in-Some.packet.now
    c.loop-packet.has_active c.loop-packet.has_passive c.are_both.result c.has_begun-has_active.result c.has_begun-has_passive.result c.loop-packet.time c.max-time.result
    (search rules) c.has_begun-has_active.ensures c.has_begun-has_passive.ensures c.are_both.ensures c.if-are_both.true c.max-time.ensures c.loop-packet.invariant

pub loop-packet-preserved : goal.loop-packet-preserved
loop-packet-preserved c =
    can_continue c.args.active c.args.passive c.args.packets.now c.loop-packet.rest.now c.in-Some.others.now c.in-Some.packet.now
    c.loop-packet.has_active c.loop-packet.has_passive c.are_both.result c.has_begun-has_active.result c.has_begun-has_passive.result c.loop-packet.time c.max-time.result
    (search rules) c.has_begun-has_active.ensures c.has_begun-has_passive.ensures c.are_both.ensures c.if-are_both.false c.max-time.ensures c.loop-packet.invariant

pub returns-clause-none : goal.returns-clause-none
returns-clause-none c =
    passed_all c.args.active c.args.passive c.args.packets.now c.loop-packet.rest.now c.loop-packet.has_active c.loop-packet.has_passive c.loop-packet.time (nil_from_length c.loop-packet.rest.now c.in_default.ensures.cases) c.loop-packet.invariant
