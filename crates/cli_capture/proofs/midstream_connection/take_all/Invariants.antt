use Rattle.std.proofs.Common.{◌≡◌, ◌++◌, List, length, map}
use Rattle.capture_midstream.specs.declared.buffered_packet.BufferedPacket.{BufferedPacket}
use Rattle.cli_capture.specs.MidstreamSync.{brought}
use Rattle.cli_capture.specs.InnerMidstreamSync.{TakesThrough}
use Rattle.cli_capture.specs.InnerReport.{Emits}
use Rattle.cli_capture.proofs.midstream_connection.take_all.Given as goal

-- so far some connections were told, and of this one what those packets tell that were taken
abbrev pub invariant-loop-packet : goal.invariant-loop-packet
invariant-loop-packet l = record {
  emitted : Emits l.initial.report l.report;
  front : List BufferedPacket;
  parts : l.fn.packets ≡ front ++ l.rest;
  takes : TakesThrough l.fn.pair (map brought front) l.fn.within l.left l.initial.report l.report;
}

abbrev pub decreases-loop-packet : goal.decreases-loop-packet
decreases-loop-packet l = length l.rest
