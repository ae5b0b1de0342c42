-- The place at which pieces begin.
use Rattle.std.proofs.Common.{◌≡◌, ◌-◌, ℕ, List, Option, map, ap, ◌∙◌, subst}
use Rattle.std.specs.Prelude.{Result, Ok, Err, IfOk}
use Rattle.capture_tcp.specs.Reassembly.{IsStoreOf, Store}
use Rattle.capture_tcp.specs.KnownStreams.{end_at}
use Rattle.capture_tcp.specs.TcpStreams.{End, Placed}
use Rattle.capture_tcp.specs.declared.packet.Side.{Side}
use Rattle.capture_midstream.specs.declared.buffered_packet.BufferedPacket.{BufferedPacket}
use Rattle.capture_midstream.specs.declared.chunk.Piece.{Piece}
use Rattle.capture_midstream.specs.declared.session_filter.Session.{Session}
use Rattle.capture_midstream.specs.declared.candidate.Spot.{Spot}
use Rattle.capture_midstream.specs.BufferedPacket.{BeginsWith, first_number, highest, lowest, midst, number_at, octet_at, pieces_from, unbroken, unbroken_from}
use Rattle.capture_midstream.specs.InnerBufferedPacket.{FindsIn, IsSpotOf, placed_by}

at_limits : (s : Session) (at : ℕ → Option ℕ) (from upto low high : ℕ) (spot : Spot) → from ≡ low → upto ≡ high → FindsIn s at from upto spot → FindsIn s at low high spot
at_limits s at from upto low high spot first last finds =
    let P : ℕ → Type 0 = λ n. FindsIn s at from n spot in
    let Q : ℕ → Type 0 = λ n. FindsIn s at n high spot in
    subst Q first (subst P last finds)

pub spots : {E : Type 0} (s : Session) (xs : List Piece) (low from upto : ℕ) (held : Store) (result : Result Spot E)
    → ((ps : List Placed) (d : End) → IsStoreOf held ps d → from ≡ unbroken (midst - low) (octet_at ps d) midst)
    → ((side : Side) → low ≡ lowest midst (map (placed_by side) xs)) → ((side : Side) → upto ≡ highest midst (map (placed_by side) xs))
    → ((side : Side) → IsStoreOf held (map (placed_by side) xs) (end_at side))
    → IfOk result (λ spot. (ps : List Placed) (d : End) → IsStoreOf held ps d → FindsIn s (octet_at ps d) from upto spot)
    → IfOk result (λ spot. (side : Side) → IsSpotOf s (end_at side) (map (placed_by side) xs) spot)
spots s xs low from upto held (Ok spot) first lower last holds finds = λ side.
    let ps = map (placed_by side) xs in
    let d = end_at side in
    at_limits s (octet_at ps d) from upto (unbroken_from d ps) (highest midst ps) spot
    (first ps d (holds side) ∙ ap (λ (n : ℕ). unbroken (midst - n) (octet_at ps d) midst) (lower side)) (last side) (finds ps d (holds side))
spots s xs low from upto held (Err fault) first lower last holds finds = finds

pub begun : (s : Session) (side : Side) (gs : List BufferedPacket) (xs items : List Piece) (first number : ℕ) (spot : Spot) → xs ≡ items
    → map (placed_by side) items ≡ pieces_from side first 0 gs → first ≡ first_number side gs → number ≡ number_at first spot.place
    → ((d : Side) → IsSpotOf s (end_at d) (map (placed_by d) xs) spot) → BeginsWith s side gs (record { number = number; is_sure = spot.is_sure })
begun s side gs xs items first number spot same all is at spots =
    let P : List Placed → Type 0 = λ ps. IsSpotOf s (end_at side) ps spot in
    let found = subst P (ap (λ (ys : List Piece). map (placed_by side) ys) same ∙ all ∙ ap (λ (n : ℕ). pieces_from side n 0 gs) is) (spots side) in
    (spot.place, found.0, at ∙ ap (λ (n : ℕ). number_at n spot.place) is, found.1)
