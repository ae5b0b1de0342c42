use Rattle.std.proofs.Common.{◌≡◌, List, false, map, subst}
use Rattle.capture_midstream.specs.declared.buffered_packet.BufferedPacket.{BufferedPacket}
use Rattle.capture_midstream.specs.SyntheticHandshake.{IsStart, has_both}
use Rattle.cli_capture.specs.MidstreamSync.{brought}
use Rattle.cli_capture.specs.InnerMidstreamSync.{TakesThrough}
use Rattle.std.proofs.lemmas.Result.{err_from_is_err_and}
use Rattle.cli_capture.specs.InnerLogRejectionMidstream.{PacketsRefused}
use Rattle.cli_capture.proofs.PacketRefusals.{from_refused}
use Rattle.cli_capture.proofs.Unrefused.{err_map, is_memory_in_log}
use Rattle.cli_capture.proofs.SessionBegins.{takes_from, takes_none}
use Rattle.cli_capture.proofs.Sessions.{ok_map}
use Rattle.cli_capture.proofs.midstream_sync.take_from.Goals as goal

pub returns-in_default-clause-takes : goal.returns-in_default-clause-takes
returns-in_default-clause-takes c =
    let both = c.args.beginnings in
    takes_none c.args.pair.now c.args.gathering.now both c.args.report.now
    (subst (λ (gs : List BufferedPacket). has_both both.active.number both.passive.number gs ≡ false) c.packets-packets.ensures c.in_default.ensures.none)

pub returns-clause-takes : goal.returns-clause-takes
returns-clause-takes c =
    let both = c.args.beginnings in
    let gs = c.args.gathering.now in
    ok_map c.take_all.result
    (λ left through. takes_from c.args.pair.now gs both c.in-Some.start c.in_ok-within.within left c.args.report.now c.take_all.new.report
    (subst (λ (gs : List BufferedPacket). IsStart both.active.number both.passive.number gs c.in-Some.start) c.packets-packets.ensures c.in-Some.ensures.some) c.in_ok-within.ensures.begins
    (subst (λ (gs : List BufferedPacket). TakesThrough c.args.pair.now (map brought gs) c.in_ok-within.within left c.args.report.now c.take_all.new.report) c.packets-packets.ensures through)) c.take_all.ensures.takes

pub returns-in_err-within-clause-refuses : goal.returns-in_err-within-clause-refuses
returns-in_err-within-clause-refuses c =
    let p = err_from_is_err_and c.from_residual.result c.from_residual.ensures.1 in
    rw (p.1, p.2) (is_memory_in_log _ c.args.report.now _ c.in_err-within.ensures.memory)

pub returns-clause-refuses : goal.returns-clause-refuses
returns-clause-refuses c =
    let both = c.args.beginnings in
    let gs = c.args.gathering.now in
    err_map c.take_all.result
    (λ st through. from_refused c.args.pair.now gs both c.in-Some.start c.in_ok-within.within st c.args.report.now c.take_all.new.report
    (subst (λ (gs : List BufferedPacket). IsStart both.active.number both.passive.number gs c.in-Some.start) c.packets-packets.ensures c.in-Some.ensures.some) c.in_ok-within.ensures.begins
    (subst (λ (gs : List BufferedPacket). PacketsRefused c.args.pair.now (map brought gs) c.in_ok-within.within st c.args.report.now c.take_all.new.report) c.packets-packets.ensures through)) c.take_all.ensures.refuses
