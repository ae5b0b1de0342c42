use Rattle.std.proofs.Common.{◌≡◌, ◌++◌, ◌∷◌, ℕ, [], List, None, Option, append_assoc, ap, map, refl, rules, subst, sym, ◌∙◌}
use Rattle.std.proofs.lemmas.List.{map-append}
use Rattle.capture_midstream.specs.declared.buffered_packet.BufferedPacket.{BufferedPacket}
use Rattle.cli_capture.specs.declared.midstream_connection.Within.{Within}
use Rattle.cli_capture.specs.MidstreamSync.{brought}
use Rattle.cli_capture.specs.InnerMidstreamSync.{TakesThrough}
use Rattle.cli_capture.specs.MidstreamConnection.{Brought}
use Rattle.cli_capture.specs.InnerMidstreamConnection.{TakesWithin}
use Rattle.std.proofs.lemmas.Result.{err_from_is_err_and}
use Rattle.cli_capture.proofs.PacketRefusals.{packets_refused_at}
use Rattle.cli_capture.proofs.SessionBegins.{through_none, through_over, through_then}
use Rattle.cli_capture.proofs.Tellings.{tells_nothing, tells_then}
use Rattle.cli_capture.proofs.midstream_connection.take_all.Goals as goal

pub loop-packet-init : goal.loop-packet-init
loop-packet-init c = record {
  emitted = tells_nothing c.args.report.now;
  front = [];
  parts = refl;
  takes = through_none c.args.pair.now c.args.within c.args.report.now;
}

pub loop-packet-preserved-in_ok-left-in-Some-left : goal.loop-packet-preserved-in_ok-left-in-Some-left
loop-packet-preserved-in_ok-left-in-Some-left c =
    let inv = c.loop-packet.invariant in
    let pair = c.args.pair.now in
    let first = c.args.report.now in
    let mid = c.loop-packet.report in
    let g = c.in-Some.packet.now in
    let w = c.in-Some-left.within in
    let left = c.in_ok-left-in-Some-left.left in
    let split : c.loop-packet.rest.now ≡ g ∷ c.in-Some.others.now = search rules in
    record {
      emitted = tells_then first mid c.take.new.report inv.emitted c.in_ok-left-in-Some-left.ensures.emitted;
      front = inv.front ++ g ∷ [];
      parts = inv.parts ∙ ap (λ (gs : List BufferedPacket). inv.front ++ gs) split ∙ sym (append_assoc inv.front (g ∷ []) c.in-Some.others.now);
      takes = subst (λ (bs : List Brought). TakesThrough pair bs c.args.within left first c.take.new.report) (sym (map-append brought inv.front (g ∷ [])))
          (through_then pair (map brought inv.front) (brought g) c.args.within w left first mid c.take.new.report
          (subst (λ (l : Option Within). TakesThrough pair (map brought inv.front) c.args.within l first mid) c.in-Some-left.is inv.takes)
          (subst (λ (os : List ℕ). TakesWithin pair (record { segment = g.segment; octets = os }) w left mid c.take.new.report) c.deref.ensures.value
          c.in_ok-left-in-Some-left.ensures.takes));
    }

pub loop-packet-preserved : goal.loop-packet-preserved
loop-packet-preserved c =
    let inv = c.loop-packet.invariant in
    let pair = c.args.pair.now in
    let g = c.in-Some.packet.now in
    let split : c.loop-packet.rest.now ≡ g ∷ c.in-Some.others.now = search rules in
    record {
      emitted = inv.emitted;
      front = inv.front ++ g ∷ [];
      parts = inv.parts ∙ ap (λ (gs : List BufferedPacket). inv.front ++ gs) split ∙ sym (append_assoc inv.front (g ∷ []) c.in-Some.others.now);
      takes = subst (λ (bs : List Brought). TakesThrough pair bs c.args.within None c.args.report.now c.loop-packet.report) (sym (map-append brought inv.front (g ∷ [])))
          (through_over pair (map brought inv.front) (brought g ∷ []) c.args.within c.args.report.now c.loop-packet.report
          (subst (λ (l : Option Within). TakesThrough pair (map brought inv.front) c.args.within l c.args.report.now c.loop-packet.report) c.in-None.is inv.takes));
    }

pub returns-in_err-left-in-Some-left-clause-refuses : goal.returns-in_err-left-in-Some-left-clause-refuses
returns-in_err-left-in-Some-left-clause-refuses c =
    let p = err_from_is_err_and c.from_residual.result c.from_residual.ensures.1 in
    let inv = c.loop-packet.invariant in
    let pair = c.args.pair.now in
    let g = c.in-Some.packet.now in
    let w = c.in-Some-left.within in
    let split : c.loop-packet.rest.now ≡ g ∷ c.in-Some.others.now = search rules in
    let parts : c.args.packets.now ≡ inv.front ++ g ∷ c.in-Some.others.now = inv.parts ∙ ap (λ (gs : List BufferedPacket). inv.front ++ gs) split in
    rw (p.1, p.2)
    (packets_refused_at pair c.args.packets.now inv.front g c.in-Some.others.now c.deref.result.now c.args.within w _ c.args.report.now c.loop-packet.report c.take.new.report parts
    (subst (λ (l : Option Within). TakesThrough pair (map brought inv.front) c.args.within l c.args.report.now c.loop-packet.report) c.in-Some-left.is inv.takes) inv.emitted
    c.deref.ensures.value c.in_err-left-in-Some-left.ensures.refuses)
