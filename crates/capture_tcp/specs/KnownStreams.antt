-- The state of reading a connection during a capture, and what each segment adds.
use Rattle.std.specs.Prelude.{◌≡◌, ◌+◌, ◌++◌, ◌∷◌, ℕ, List, [], length, map, Option}
use Rattle.std.specs.Option.{option_to_list}
use Rattle.capture_tcp.specs.declared.packet.Packet.{Packet}
use Rattle.capture_tcp.specs.declared.packet.Segment.{Segment}
use Rattle.capture_tcp.specs.declared.packet.Side.{Side}
use Rattle.capture_tcp.specs.declared.packet.Side.TheVariants as side
use Rattle.capture_tcp.specs.TcpStreams.{End, active, passive, other, Seen, Placed, Turn, end_of, received, confirmed, latest, timed, places, placed_at, place_of, ack_place, turns}
use Rattle.capture_tcp.specs.Message.{cells_of}
use Rattle.capture_tcp.specs.Laws.{waiting_in}

abbrev pub end_at : Side → End
end_at side.Active = active
end_at side.Passive = passive

-- A segment with this payload.
abbrev pub seen_of : Segment → List ℕ → Seen
seen_of s octets = record {
  from = end_at s.from;
  packet = s.packet;
  time = s.time;
  number = s.number;
  acknowledged = s.acknowledged;
  cells = cells_of s.flags.syn octets s.flags.fin;
  pushed = s.flags.pushed;
  reset = s.reset;
}

-- What is kept of a packet: everything except its cells.
abbrev pub packet_of : Placed → Packet
packet_of p = record { packet = p.packet; time = p.time; from = p.place; to = p.place + length p.cells; acknowledged = p.acknowledged; reset = p.reset }

-- The state of one direction: its SYN's sequence number, and the end of what has no gap. Then the offsets up to which
-- in-order packets of the other direction acknowledge it, and up to which any of its packets do. Last the out-of-order
-- packets, in the order of offsets.
pub record Flow : Type 0 where
  pub base : ℕ
  pub end : ℕ
  pub acknowledged : ℕ
  pub confirmed : ℕ
  pub waiting : List Packet

-- Both directions, and the latest time of the packets.
pub record Known : Type 0 where
  pub active : Flow
  pub passive : Flow
  pub latest : ℕ

abbrev pub flow_of : (End → ℕ) → List Placed → End → Flow
flow_of base before d = record { base = base d; end = end_of before d; acknowledged = received before d; confirmed = confirmed before d; waiting = map packet_of (waiting_in before d) }

abbrev pub known : (End → ℕ) → List Placed → Known
known base before = record { active = flow_of base before active; passive = flow_of base before passive; latest = latest before }

-- ---- after all segments so far

-- The sequence numbers of both SYNs.
abbrev pub bases : ℕ → ℕ → End → ℕ
bases a p active = a
bases a p passive = p

-- A segment by its offset, after these packets. There is none if its offset is outside the window.
abbrev pub placed_after : (End → ℕ) → List Placed → Seen → List Placed
placed_after base before s =
    placed_at (end_of before s.from) (confirmed before s.from) (timed before s) (place_of (end_of before s.from) (base s.from) s.number) (ack_place before base (other s.from) s.acknowledged)

-- The packets that are delivered at this segment, in their order.
abbrev pub released_after : (End → ℕ) → List Placed → Seen → List Packet
released_after base before s = map (λ (t : Turn). packet_of t.own) (turns before (placed_after base before s))

-- Holds if one more segment is read after these: the state is as specified, the segment is returned by its offset, and
-- the delivered packets are returned.
abbrev pub ContinuesWith : Known → List Packet → Seen → Known → List Packet → Option Packet → Type 0
ContinuesWith old emitted s new later placed =
    (base : End → ℕ) (before : List Seen) → old ≡ known base (places base [] before)
    → (new ≡ known base (places base [] (before ++ s ∷ []))) × (later ≡ emitted ++ released_after base (places base [] before) s)
    × (option_to_list placed ≡ map packet_of (placed_after base (places base [] before) s))

-- The deliveries that are returned segment by segment are, one after another, those of all segments.
abbrev pub TurnsGoOn : Type 0
TurnsGoOn =
    (base : End → ℕ) (before : List Seen) (s : Seen)
    → turns [] (places base [] (before ++ s ∷ [])) ≡ turns [] (places base [] before) ++ turns (places base [] before) (placed_after base (places base [] before) s)
