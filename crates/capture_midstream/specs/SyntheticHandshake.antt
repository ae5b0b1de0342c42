-- The packets of a session, as those of a connection whose SYNs stand before the places at which its directions begin.
use Rattle.std.specs.Prelude.{◌≡◌, ◌+◌, ◌-◌, ◌%◌, ◌^◌, ◌&&◌, ◌++◌, ℕ, Bool, true, false, max, if◌then◌else◌, List, [], ◌∷◌, length, Option, Some, None}
use Rattle.std.specs.List.{list_any}
use Rattle.capture_tcp.specs.declared.packet.Segment.{Segment}
use Rattle.capture_tcp.specs.declared.packet.Side.{Side}
use Rattle.capture_tcp.specs.declared.packet.Side.TheVariants.{Active, Passive}
use Rattle.capture_midstream.specs.declared.buffered_packet.BufferedPacket.{BufferedPacket}
use Rattle.capture_midstream.specs.declared.synthetic_handshake.Handshake.{Handshake}
use Rattle.capture_midstream.specs.declared.sync_packet.Start.{Start}
use Rattle.capture_midstream.specs.BufferedPacket.{is_same}
use Rattle.capture_midstream.specs.SequenceNumbers.{from_by, number_following, number_by, reaches_by}

-- ---- the packet with which both directions have begun

abbrev pub from_or : ℕ → Option ℕ → Bool
from_or begin None = false
from_or begin (Some number) = from_by begin number

-- a packet brings what stands at the beginning of a direction, or ends there, or acknowledges it
abbrev pub shows : Side → ℕ → BufferedPacket → Bool
shows side begin g =
    if is_same g.segment.from side then (reaches_by begin g.segment.number (length g.octets.items)) else
    (from_or begin g.segment.acknowledged)

-- some packet does so of each direction
abbrev pub has_both : ℕ → ℕ → List BufferedPacket → Bool
has_both active passive gs = list_any (shows Active active) gs && list_any (shows Passive passive) gs

-- the greatest time of packets
abbrev pub latest : List BufferedPacket → ℕ
latest [] = 0
latest (g ∷ gs) = max g.segment.time (latest gs)

-- the first packet behind which both have begun, and the greatest time up to it
pub record IsStart (active passive : ℕ) (gs : List BufferedPacket) (start : Start) : Type 0 where
  pub before : List BufferedPacket
  pub packet : BufferedPacket
  pub subsequent : List BufferedPacket
  pub parts : gs ≡ before ++ packet ∷ subsequent
  pub not_yet : has_both active passive before ≡ false
  pub now : has_both active passive (before ++ packet ∷ []) ≡ true
  pub number : start.packet ≡ packet.segment.packet
  pub time : start.time ≡ latest (before ++ packet ∷ [])

-- ---- the segments of a connection

-- A segment of so many octets from the beginning of its direction on. What stands before it is cut off, a FIN too.
abbrev pub segment_by : ℕ → Segment → ℕ → Segment
segment_by begin segment count = record segment {
  number = number_by begin segment.number;
  flags = record {
    syn = false;
    fin = segment.flags.fin && from_by begin (number_following segment.number count);
    pushed = segment.flags.pushed;
  };
}

abbrev pub opening_as : ℕ → Side → ℕ → Option ℕ → Bool → Segment
opening_as packet from number acknowledged syn = record {
  from = from;
  packet = packet;
  time = 0;
  number = number;
  acknowledged = acknowledged;
  flags = record { syn = syn; fin = false; pushed = false };
  reset = false;
}

-- the number before another one
abbrev pub number_before : ℕ → ℕ
number_before number = (number + 2 ^ 32 - 1) % 2 ^ 32

-- the active end's SYN, the other one's, which acknowledges it, and the ACK of that, in three packets
abbrev pub opening_by : ℕ → ℕ → Handshake
opening_by active passive = record {
  syn = opening_as 1 Active (number_before active) None true;
  answer = opening_as 2 Passive (number_before passive) (Some active) true;
  acknowledgement = opening_as 3 Active active (Some passive) false;
}
