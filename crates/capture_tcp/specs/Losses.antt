-- Which packet is the loss, as one pass over the packets finds it.
use Rattle.std.specs.Prelude.{◌≡◌, ◌≤◌, ◌++◌, ◌∷◌, ℕ, true, nat_lt, if◌then◌else◌, List, [], length, map, Option, Some, None}
use Rattle.std.specs.Option.{unwrap_or}
use Rattle.capture_tcp.specs.declared.losses.BothEnds.{BothEnds}
use Rattle.capture_tcp.specs.declared.losses.Need.{Need}
use Rattle.capture_tcp.specs.declared.packet.Packet.{Packet}
use Rattle.capture_tcp.specs.declared.packet.Side.{Side}
use Rattle.capture_tcp.specs.declared.packet.Side.TheVariants as side
use Rattle.capture_tcp.specs.TcpStreams.{End, active, passive, Placed, or_else, end_of, is_beyond, loss}
use Rattle.capture_tcp.specs.KnownStreams.{packet_of}

abbrev pub side_of : End → Side
side_of active = side.Active
side_of passive = side.Passive

abbrev pub other_end : BothEnds → Side → ℕ
other_end e side.Active = e.passive
other_end e side.Passive = e.active

abbrev pub ends_of : List Placed → BothEnds
ends_of ps = record { active = end_of ps active; passive = end_of ps passive }

-- What a packet needs. No ACK counts as an ACK of nothing.
abbrev pub needs_of : Side → Packet → Need
needs_of s p = record { packet = p.packet; from = s; place = p.from; acknowledged = unwrap_or p.acknowledged 0 }

-- The packet of the first need.
abbrev pub first_of : List Need → Option ℕ
first_of [] = None
first_of (n ∷ ns) = Some n.packet

-- ---- what a reader knows

abbrev pub need_at : Placed → Need
need_at p = needs_of (side_of p.from) (packet_of p)

abbrev pub HeadIncomplete : List Placed → List Placed → Type 0
HeadIncomplete all [] = Unit {0}
HeadIncomplete all (p ∷ ps) = is_beyond all p ≡ true

-- Holds if, whatever follows, none of the first packets is the loss. These are the needs of the others, at most `most`;
-- the first of them has missing data.
abbrev pub IsWatched : ℕ → List Need → List Placed → Type 0
IsWatched most needs all =
    (settled : List Placed) × (rest : List Placed) × (all ≡ settled ++ rest) × (needs ≡ map need_at rest)
    × ((later : List Placed) → loss [] (all ++ later) ≡ loss settled (rest ++ later)) × HeadIncomplete all rest × (length rest ≤ most)

abbrev pub Watches : List Need → List Placed → Type 0
Watches needs all = IsWatched 4096 needs all

-- The first of these needs that acknowledges missing data.
abbrev pub past_of : BothEnds → List Need → Option ℕ
past_of e [] = None
past_of e (n ∷ ns) = if nat_lt (other_end e n.from) n.acknowledged then Some n.packet else past_of e ns

-- The first of these needs that acknowledges missing data, or the first of all if there is none.
abbrev pub shown_of : BothEnds → List Need → Option ℕ
shown_of e needs = or_else (past_of e needs) (first_of needs)

-- Holds if this is the next packet after the earlier ones.
abbrev pub IsNext : Side → Packet → BothEnds → List Placed → Placed → Type 0
IsNext s packet ends before p = (s ≡ side_of p.from) × (packet ≡ packet_of p) × (ends ≡ ends_of (before ++ p ∷ []))

abbrev pub WatchesOn : List Need → Side → Packet → BothEnds → List Need → Type 0
WatchesOn old s packet ends new = (before : List Placed) (p : Placed) → Watches old before → IsNext s packet ends before p → Watches new (before ++ p ∷ [])

-- Holds if this packet is the loss, whatever follows, and the next 4,096 are present.
abbrev pub IsLoss : ℕ → List Placed → Type 0
IsLoss k all =
    (before : List Placed) × (p : Placed) × (rest : List Placed) × (all ≡ before ++ p ∷ rest) × (p.packet ≡ k) × (length rest ≡ 4096)
    × ((later : List Placed) → loss [] (all ++ later) ≡ Some k)

abbrev pub FindsLoss : List Need → Side → Packet → BothEnds → ℕ → List Need → Type 0
FindsLoss old s packet ends k new =
    (before : List Placed) (p : Placed) → Watches old before → IsNext s packet ends before p → IsLoss k (before ++ p ∷ []) × IsWatched 4097 new (before ++ p ∷ [])

-- Holds if `k` is the loss, provided that nothing follows.
abbrev pub ReturnsLoss : List Need → Option ℕ → Type 0
ReturnsLoss needs k = (all : List Placed) → Watches needs all → k ≡ loss [] all
