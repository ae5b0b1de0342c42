-- What a segment is to a connection: of which pair it is, which number of a SYN it tells, and what the connection takes.
use Rattle.std.specs.Prelude.{◌≡◌, ◌⊎◌, ◌+◌, ◌-◌, ◌%◌, ◌^◌, ◌==◌, ◌&&◌, if◌then◌else◌, nat_le, ℕ, Bool, List, [], length, take, drop, Option, Some, None}
use Rattle.std.specs.Int.{bit_at}
use Rattle.std.specs.Option.{option_map}
use Rattle.capture_pcap.specs.declared.segment.Segment.{Segment}
use Rattle.capture_tcp.specs.declared.packet.Segment.{Segment as Taken}
use Rattle.capture_tcp.specs.declared.packet.Side.{Side}
use Rattle.capture_tcp.specs.declared.packet.Side.TheVariants.{Active, Passive}
use Rattle.capture_log.specs.SocketPair.{has_syn, is_first_syn, pairs_at}
use Rattle.capture_log.specs.declared.socket_pair.Pair.{Pair}

-- ---- flags

-- a bit of TCP's flags: FIN is bit 0, SYN 1, RST 2 and PSH 3
abbrev pub has_flag : ℕ → Segment → Bool
has_flag bit segment = bit_at segment.flags bit == 1

abbrev pub has_fin : Segment → Bool
has_fin segment = has_flag 0 segment

abbrev pub has_rst : Segment → Bool
has_rst segment = has_flag 2 segment

abbrev pub has_psh : Segment → Bool
has_psh segment = has_flag 3 segment

-- ---- the pair

-- where these pairs have a connection: of two pairs the second one, whose passive end sent the segment, only where it alone
-- has one
abbrev pub IsAmong : (Pair → Type 0) → Pair × Side × Option Pair → Pair × Side → Type 0
IsAmong HasOne (pair, side, None) found = found ≡ (pair, side)
IsAmong HasOne (pair, side, Some other) found =
    ((found ≡ (other, Passive)) × (HasOne pair → ⊥) × HasOne other) ⊎ ((found ≡ (pair, side)) × (HasOne pair ⊎ (HasOne other → ⊥)))

-- the pair of a segment, and the end that sent it, where the passive end has this port
abbrev pub IsPairAt : (Pair → Type 0) → ℕ → Segment → Option (Pair × Side) → Type 0
IsPairAt HasOne port segment None = pairs_at port segment ≡ None
IsPairAt HasOne port segment (Some found) = (pairs : Pair × Side × Option Pair) × (pairs_at port segment ≡ Some pairs) × IsAmong HasOne pairs found

-- ---- what is taken

-- the number before this one, as TCP counts
abbrev pub number_before : ℕ → ℕ
number_before number = (number + (2 ^ 32 - 1)) % 2 ^ 32

-- the number of the active end's SYN: that of its SYN without ACK, or the one before that which a SYN of the passive end
-- acknowledges
abbrev pub syn_by : Side → Segment → Option ℕ
syn_by Active segment = if is_first_syn segment then Some segment.number else None
syn_by Passive segment = if has_syn segment then option_map number_before segment.acknowledged else None

-- a segment that an end sent, as its connection takes it
abbrev pub taken_segment : Side → ℕ → ℕ → Segment → Taken
taken_segment from packet time segment = record {
  from = from;
  packet = packet;
  time = time;
  number = segment.number;
  acknowledged = segment.acknowledged;
  flags = record { syn = has_syn segment; fin = has_fin segment; pushed = has_psh segment };
  reset = has_rst segment;
}

-- the octets of a segment, where they lie within those of the packet
abbrev pub body_in : Segment → List ℕ → List ℕ
body_in segment octets =
    if nat_le segment.body segment.end && nat_le segment.end (length octets) then
    take (segment.end - segment.body) (drop segment.body octets)
    else []
