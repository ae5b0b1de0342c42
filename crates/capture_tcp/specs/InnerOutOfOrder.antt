-- Packets that wait in the order of their offsets, and what an advancing end removes from their front.
use Rattle.std.specs.Prelude.{◌<◌, ℕ, max, nat_le, nat_lt, if◌then◌else◌, List, [], ◌∷◌}
use Rattle.std.specs.Option.{unwrap_or}
use Rattle.capture_tcp.specs.declared.packet.Packet.{Packet}

-- A packet is inserted after those with its offset.
abbrev pub put_after : Packet → List Packet → List Packet
put_after p [] = p ∷ []
put_after p (q ∷ qs) = if nat_lt p.from q.from then p ∷ q ∷ qs else q ∷ put_after p qs

-- Holds if the first packet is after the end.
abbrev pub IsStopped : ℕ → List Packet → Type 0
IsStopped end [] = Unit {0}
IsStopped end (q ∷ qs) = end < q.from

-- The packets that an advancing end removes from the front, the new end, and the packets that are left.
pub record Drained : Type 0 where
  pub end : ℕ
  pub emitted : List Packet
  pub left : List Packet

abbrev pub and_released : Packet → Drained → Drained
and_released p d = record d { emitted = p ∷ d.emitted }

unfoldable pub drained : ℕ → List Packet → Drained
drained end [] = record { end = end; emitted = []; left = [] }
drained end (q ∷ qs) = if nat_le q.from end then and_released q (drained (max end q.to) qs) else record { end = end; emitted = []; left = q ∷ qs }

-- The greatest offset that these packets acknowledge.
unfoldable pub acked : ℕ → List Packet → ℕ
acked n [] = n
acked n (p ∷ ps) = acked (max n (unwrap_or p.acknowledged 0)) ps
