-- What only contracts of private functions use, besides the definitions of `BufferedPacket`.
use Rattle.std.specs.Prelude.{ℕ, List, [], ◌∷◌, Option, Some, None}
use Rattle.capture_tcp.specs.declared.reassembly.Cell.{Cell as HeldCell}
use Rattle.capture_tcp.specs.declared.reassembly.Cell.TheVariants as held
use Rattle.capture_tcp.specs.declared.packet.Side.{Side}
use Rattle.capture_tcp.specs.TcpStreams.{End, Placed}
use Rattle.capture_midstream.specs.declared.chunk.Piece.{Piece}
use Rattle.capture_midstream.specs.declared.session_filter.Session.{Session}
use Rattle.capture_midstream.specs.declared.candidate.Spot.{Spot}
use Rattle.capture_midstream.specs.SyncPoint.{IsSureBy}
use Rattle.capture_midstream.specs.BufferedPacket.{midst, placed_as, octet_at, highest, unbroken_from, octets_upto, BeginsBy}

-- ---- the octets of a direction, by their places

abbrev pub placed_by : Side → Piece → Placed
placed_by side piece = placed_as side piece.place piece.octets.items

abbrev pub placed_of : Side → Option Piece → List Placed
placed_of side None = []
placed_of side (Some piece) = placed_by side piece ∷ []

abbrev pub held_octet : Option HeldCell → Option ℕ
held_octet None = None
held_octet (Some held.Syn) = None
held_octet (Some (held.Octet n)) = Some n
held_octet (Some held.Fin) = None

-- ---- where a direction begins

-- the place is where they begin, and it is told whether that is sure
abbrev pub FindsIn : Session → (ℕ → Option ℕ) → ℕ → ℕ → Spot → Type 0
FindsIn s at from upto spot =
    BeginsBy s (octets_upto upto at) from upto spot.place × IsSureBy s (octets_upto upto at spot.place) spot.is_sure

abbrev pub IsSpotOf : Session → End → List Placed → Spot → Type 0
IsSpotOf s d ps spot = FindsIn s (octet_at ps d) (unbroken_from d ps) (highest midst ps) spot
