-- The octets of a direction, packet by packet.
use Rattle.std.proofs.Common.{◌≡◌, ◌++◌, ◌∷◌, ℕ, List, [], length, map, Option, Some, None, sym, ap, ◌∙◌, append_assoc, false}
use Rattle.std.proofs.lemmas.List.{append-nil, length-map, map-append}
use Rattle.capture_tcp.specs.Message.{cells_of}
use Rattle.capture_tcp.specs.TcpStreams.{octet, Placed}
use Rattle.capture_tcp.specs.declared.packet.Side.{Side}
use Rattle.capture_midstream.specs.declared.buffered_packet.BufferedPacket.{BufferedPacket}
use Rattle.capture_midstream.specs.declared.chunk.Piece.{Piece}
use Rattle.capture_midstream.specs.BufferedPacket.{acknowledged_after, piece_of, pieces_from}
use Rattle.capture_midstream.specs.InnerBufferedPacket.{placed_by, placed_of}

-- so many cells as octets
pub cells_length : (octets : List ℕ) → length (cells_of false octets false) ≡ length octets
cells_length octets = ap length (append-nil (map (λ n. octet n) octets)) ∙ length-map octets (λ n. octet n)

-- behind one more packet, which brings a piece or none
abbrev Behind : Side → ℕ → ℕ → List BufferedPacket → List Piece → List Placed → Type 0
Behind side first acked gs pieces all = map (placed_by side) pieces ++ pieces_from side first acked gs ≡ all

pub one_more : (side : Side) (first acked next : ℕ) (g : BufferedPacket) (gs rest : List BufferedPacket) (pieces : List Piece) (piece : Piece) (o : Option Piece) (all : List Placed)
    → placed_of side o ≡ piece_of side first acked g → o ≡ Some piece → gs ≡ g ∷ rest → next ≡ acknowledged_after side first acked g
    → Behind side first acked gs pieces all → Behind side first next rest (pieces ++ piece ∷ []) all
unfolding pieces_from
one_more side first acked next g gs rest pieces piece o all is some parts after before =
    let left : List Placed = pieces_from side first (acknowledged_after side first acked g) rest in
    ap (λ (n : ℕ). map (placed_by side) (pieces ++ piece ∷ []) ++ pieces_from side first n rest) after
    ∙ ap (λ (ps : List Placed). ps ++ left) (map-append (placed_by side) pieces (piece ∷ []))
    ∙ append_assoc (map (placed_by side) pieces) (placed_by side piece ∷ []) left
    ∙ ap (λ (ps : List Placed). map (placed_by side) pieces ++ (ps ++ left)) (sym (ap (placed_of side) some) ∙ is)
    ∙ ap (λ (xs : List BufferedPacket). map (placed_by side) pieces ++ pieces_from side first acked xs) (sym parts)
    ∙ before

pub as_before : (side : Side) (first acked next : ℕ) (g : BufferedPacket) (gs rest : List BufferedPacket) (pieces : List Piece) (o : Option Piece) (all : List Placed)
    → placed_of side o ≡ piece_of side first acked g → o ≡ None → gs ≡ g ∷ rest → next ≡ acknowledged_after side first acked g
    → Behind side first acked gs pieces all → Behind side first next rest pieces all
unfolding pieces_from
as_before side first acked next g gs rest pieces o all is none parts after before =
    let left : List Placed = pieces_from side first (acknowledged_after side first acked g) rest in
    ap (λ (n : ℕ). map (placed_by side) pieces ++ pieces_from side first n rest) after
    ∙ ap (λ (ps : List Placed). map (placed_by side) pieces ++ (ps ++ left)) (sym (ap (placed_of side) none) ∙ is)
    ∙ ap (λ (xs : List BufferedPacket). map (placed_by side) pieces ++ pieces_from side first acked xs) (sym parts)
    ∙ before
