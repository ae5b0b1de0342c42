use Rattle.std.proofs.Common.{refl, sym, ap, ◌∙◌}
use Rattle.cli_capture.specs.declared.skipped_packets.LeftOut.{LeftOut}
use Rattle.cli_capture.proofs.FileRefusals.{segments_refused}
use Rattle.cli_capture.proofs.Tellings.{tells_behind, tells_nothing}
use Rattle.cli_capture.proofs.Whole.{left_out_shows, other_shows, segment_shows}
use Rattle.cli_capture.proofs.command.take_packet.Goals as goal

pub returns-in-Segment-clause-deals : goal.returns-in-Segment-clause-deals
returns-in-Segment-clause-deals c =
    segment_shows c.take.result c.args.packet.number c.args.packet.header c.args.packet.octets.now c.in-Segment.segment
    (record { segment = c.in-Segment.segment; packet = c.args.packet.number; time = c.args.packet.header.time; octets = c.body_of.result }) c.args.table.now c.take.new.self c.args.report.now
    c.take.new.report (sym c.segment_of.ensures ∙ c.in-Segment.is) refl refl c.body_of.ensures c.take.ensures.deals

pub returns-in-Segment-clause-emitted : goal.returns-in-Segment-clause-emitted
returns-in-Segment-clause-emitted c = tells_behind c.take.result c.args.report.now c.take.new.report c.take.ensures.emitted

pub returns-in-Other : goal.returns-in-Other
returns-in-Other c = record {
  emitted = (_, tells_nothing c.args.report.now);
  deals = other_shows c.args.packet.number c.args.packet.header c.args.packet.octets.now c.args.table.now c.args.report.now (sym c.segment_of.ensures ∙ c.in-Other.is);
  unrefused = tt;
  refuses = tt;
}

pub returns-in-LeftOut : goal.returns-in-LeftOut
returns-in-LeftOut c = record {
  emitted = (c.count.new.self, tells_nothing (record c.args.report.now { left_out = c.count.new.self }));
  deals = left_out_shows c.args.packet.number c.args.packet.header c.args.packet.octets.now c.in-LeftOut.reason c.args.table.now c.args.report.now _
      (sym c.segment_of.ensures ∙ c.in-LeftOut.is)
      (ap (λ (counts : LeftOut). record c.args.report.now { left_out = counts }) c.count.ensures);
  unrefused = tt;
  refuses = tt;
}

pub returns-in-Segment-clause-refuses : goal.returns-in-Segment-clause-refuses
returns-in-Segment-clause-refuses c =
    segments_refused c.take.result c.args.packet.number c.args.packet.header c.args.packet.octets.now c.in-Segment.segment
    (record { segment = c.in-Segment.segment; packet = c.args.packet.number; time = c.args.packet.header.time; octets = c.body_of.result }) c.args.table.now c.args.report.now
    c.take.new.report (sym c.segment_of.ensures ∙ c.in-Segment.is) refl refl c.body_of.ensures c.take.ensures.refuses
