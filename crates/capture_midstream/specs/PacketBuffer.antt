-- The packets of a session, until both directions have begun.
use Rattle.std.specs.Prelude.{◌≡◌, ◌≤◌, ◌^◌, ◌⊎◌, ◌++◌, ◌∷◌, ℕ, true, List, [], All, length, sum_by}
use Rattle.std.specs.Int.{IsPowerOfTwo}
use Rattle.capture_tcp.specs.declared.packet.Segment.{Segment}
use Rattle.capture_tcp.specs.declared.packet.Side.TheVariants.{Active, Passive}
use Rattle.capture_midstream.specs.declared.buffered_packet.BufferedPacket.{BufferedPacket}
use Rattle.capture_midstream.specs.declared.packet_buffer.Beginnings.{Beginnings}
use Rattle.capture_midstream.specs.declared.session_filter.Session.{Session}
use Rattle.capture_midstream.specs.BufferedPacket.{BeginsWith}

-- one packet more is kept, with these octets
abbrev pub BuffersPackets : Segment → List ℕ → List BufferedPacket → List BufferedPacket → Type 0
BuffersPackets segment octets old new =
    (g : BufferedPacket) × (g.segment ≡ segment) × (g.octets.items ≡ octets) × (new ≡ old ++ g ∷ [])

-- both directions begin so, as far as these packets tell
abbrev pub AreBeginnings : Session → List BufferedPacket → Beginnings → Type 0
AreBeginnings s gs both = BeginsWith s Active gs both.active × BeginsWith s Passive gs both.passive

abbrev pub AreSure : Beginnings → Type 0
AreSure both = (both.active.is_sure ≡ true) × (both.passive.is_sure ≡ true)

-- it isn't sure of one of them
abbrev pub AreUnsure : Session → List BufferedPacket → Type 0
AreUnsure s gs = (both : Beginnings) × AreBeginnings s gs both × (AreSure both → ⊥)

-- how many octets these packets bring
abbrev pub octets_brought : List BufferedPacket → ℕ
octets_brought gs = sum_by (λ g. length g.octets.items) gs

-- no more are kept: they are 4,096, or bring 2^26 octets
abbrev pub IsFull : List BufferedPacket → Type 0
IsFull gs = (4096 ≤ length gs) ⊎ (2 ^ 26 ≤ octets_brought gs)

-- they are looked at: they are as many as some power of two, or no more are kept
abbrev pub IsDue : List BufferedPacket → Type 0
IsDue gs = IsPowerOfTwo (length gs) ⊎ IsFull gs

-- none brings an octet
abbrev pub AreSilent : List BufferedPacket → Type 0
AreSilent gs = All (λ g. g.octets.items ≡ []) gs
