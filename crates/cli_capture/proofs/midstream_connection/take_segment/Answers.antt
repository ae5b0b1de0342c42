use Rattle.std.proofs.Common.{◌≡◌, ℕ, List, None, ap, drop, inl, length, subst, sym, ◌∙◌}
use Rattle.capture_tcp.specs.declared.packet.Segment.{Segment}
use Rattle.capture_tcp.specs.declared.ending.Ending.{Ending}
use Rattle.capture_tcp.specs.KnownStreams.{seen_of}
use Rattle.capture_tcp.specs.ReaderInvariant.{TakesOn}
use Rattle.capture_tcp.specs.Limits.{ContinuesBy}
use Rattle.capture_tcp.specs.Timestamps.{TakesInTime}
use Rattle.capture_tcp.specs.TcpStreams.{Seen}
use Rattle.capture_midstream.specs.SyntheticHandshake.{segment_by}
use Rattle.capture_midstream.specs.SequenceNumbers.{before_by}
use Rattle.cli_capture.specs.Progress.{lack_behind}
use Rattle.cli_capture.specs.MidstreamConnection.{counted, cut_by}
use Rattle.cli_capture.proofs.midstream_connection.take_segment.Goals as goal

-- what is taken is the packet's part from the beginning on
cut_is : (begin packet count : ℕ) (segment kept : Segment) (octets subsequent : List ℕ) → kept ≡ segment_by begin segment (length octets) → packet ≡ counted segment.packet
    → count ≡ before_by begin segment.number (length octets) → subsequent ≡ drop count octets → seen_of (record kept { packet = packet }) subsequent ≡ cut_by begin segment octets
cut_is begin packet count segment kept octets subsequent same number before back =
    ap (λ (g : Segment). seen_of (record g { packet = packet }) subsequent) same
    ∙ ap (λ (n : ℕ). seen_of (record (segment_by begin segment (length octets)) { packet = n }) subsequent) number
    ∙ ap (λ (os : List ℕ). seen_of (record (segment_by begin segment (length octets)) { packet = counted segment.packet }) os) (back ∙ ap (λ (n : ℕ). drop n octets) before)

pub returns-in-None-clause-takes : goal.returns-in-None-clause-takes
returns-in-None-clause-takes c =
    let cut : seen_of (record c.segment_from-cut.result { packet = c.saturating_add.result }) c.split_at.result.1.now ≡ cut_by c.args.begin c.args.segment c.args.octets.now = cut_is c.args.begin c.saturating_add.result c.octets_before.result c.args.segment c.segment_from-cut.result c.args.octets.now c.split_at.result.1.now
    c.segment_from-cut.ensures c.saturating_add.ensures c.octets_before.ensures.numbers c.split_at.ensures.back in (
      sym c.ending.ensures ∙ c.in-None.is,
      subst (λ (s : Seen). TakesOn c.args.connection s c.args.emitted.now.items c.in-Ok.connection c.take.new.emitted.items) cut c.in-Ok.ensures.emitted,
      subst (λ (s : Seen). TakesInTime c.args.connection s c.args.emitted.now.items c.in-Ok.connection c.take.new.emitted.items) cut c.in-Ok.ensures.times,
      subst (λ (s : Seen). ContinuesBy c.args.connection c.args.emitted.now.items s) cut c.in-Ok.ensures.proceeds,
    )

pub returns-in-Some-clause-takes : goal.returns-in-Some-clause-takes
returns-in-Some-clause-takes c =
    let cut : seen_of (record c.segment_from-cut.result { packet = c.saturating_add.result }) c.split_at.result.1.now ≡ cut_by c.args.begin c.args.segment c.args.octets.now = cut_is c.args.begin c.saturating_add.result c.octets_before.result c.args.segment c.segment_from-cut.result c.args.octets.now c.split_at.result.1.now
    c.segment_from-cut.ensures c.saturating_add.ensures c.octets_before.ensures.numbers c.split_at.ensures.back in
    inl (
      c.in-Ok.connection,
      c.in-Some.ending,
      sym c.ending.ensures ∙ c.in-Some.is,
      c.lack_behind.ensures ∙ ap (λ (e : Ending). lack_behind e None) c.ending_in.ensures,
      subst (λ (s : Seen). TakesOn c.args.connection s c.args.emitted.now.items c.in-Ok.connection c.take.new.emitted.items) cut c.in-Ok.ensures.emitted,
      subst (λ (s : Seen). TakesInTime c.args.connection s c.args.emitted.now.items c.in-Ok.connection c.take.new.emitted.items) cut c.in-Ok.ensures.times,
    )
