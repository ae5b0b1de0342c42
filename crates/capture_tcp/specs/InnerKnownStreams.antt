-- What only contracts of private functions use, besides the definitions of `KnownStreams`.
use Rattle.std.specs.Prelude.{◌&&◌, ◌||◌, ℕ, max, if◌then◌else◌, List, [], Option, Some, None}
use Rattle.std.specs.Option.{unwrap_or}
use Rattle.capture_tcp.specs.declared.packet.Packet.{Packet}
use Rattle.capture_tcp.specs.TcpStreams.{Seen, Placed, place_of, acknowledged_at, asks_only, is_taken}
use Rattle.capture_tcp.specs.InnerOutOfOrder.{Drained, put_after, drained, acked}
use Rattle.capture_tcp.specs.KnownStreams.{packet_of, Flow}

-- ---- one more segment

-- A segment at an offset.
abbrev pub placed_as : ℕ → ℕ → Seen → ℕ → Option ℕ → Placed
placed_as end acknowledged s place ack = record {
  from = s.from;
  packet = s.packet;
  time = s.time;
  place = place;
  cells = if s.reset || asks_only acknowledged place s.pushed s.cells then [] else s.cells;
  acknowledged = ack;
  reset = s.reset && is_taken end acknowledged s.acknowledged place;
}

-- Both directions after a packet, which one of them carries; the packet by its offset; and the packets that are
-- delivered at it.
pub record Step : Type 0 where
  pub own : Flow
  pub peer : Flow
  pub placed : Option Packet
  pub emitted : List Packet

abbrev pub step_by : Flow → Flow → Packet → Step
step_by own peer p = with_drained (drained own.end (put_after p own.waiting))
  where
    with_drained : Drained → Step
    with_drained d = record {
      own = record own { end = d.end; waiting = d.left };
      peer = record peer { acknowledged = acked peer.acknowledged d.emitted; confirmed = max peer.confirmed (unwrap_or p.acknowledged 0) };
      placed = Some p;
      emitted = d.emitted;
    }

abbrev pub step_at : Flow → Flow → Seen → Option ℕ → Step
step_at own peer s None = record { own = own; peer = peer; placed = None; emitted = [] }
step_at own peer s (Some place) = step_by own peer (packet_of (placed_as own.end own.confirmed s place (acknowledged_at peer.end peer.base s.acknowledged)))

abbrev pub step : Flow → Flow → Seen → Step
step own peer s = step_at own peer s (place_of own.end own.base s.number)

-- The latest time after a packet, if there is one.
abbrev pub latest_after : ℕ → Option Packet → ℕ
latest_after n None = n
latest_after n (Some p) = p.time
