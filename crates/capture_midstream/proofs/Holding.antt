-- Octets that are held, piece by piece.
use Rattle.std.proofs.Common.{◌≡◌, ◌++◌, ◌∷◌, ℕ, List, [], map, refl, sym, ap, subst, ◌∙◌, append_assoc, false}
use Rattle.std.proofs.lemmas.List.{append-nil, map-append}
use Rattle.capture_tcp.specs.Reassembly.{IsStoreOf, PutsIn, Store}
use Rattle.capture_tcp.specs.KnownStreams.{end_at}
use Rattle.capture_tcp.specs.Message.{cells_of}
use Rattle.capture_tcp.specs.TcpStreams.{End, Placed}
use Rattle.capture_tcp.specs.declared.packet.Side.{Side}
use Rattle.capture_midstream.specs.declared.chunk.Piece.{Piece}
use Rattle.capture_midstream.specs.InnerBufferedPacket.{placed_by}

-- the pieces that were passed are held, from a place on
pub record Holds (from : ℕ) (pieces rest : List Piece) (held : Store) : Type 0 where
  pub done : List Piece
  pub parts : pieces ≡ done ++ rest
  pub place : held.place ≡ from
  pub holds : (side : Side) → IsStoreOf held (map (placed_by side) done) (end_at side)

pub holds_none : (from : ℕ) (pieces : List Piece) (held : Store) → held.place ≡ from → ((d : End) → IsStoreOf held [] d) → Holds from pieces pieces held
holds_none from pieces held place holds = record { done = []; parts = refl; place = place; holds = λ side. holds (end_at side) }

pub holds_more : (from : ℕ) (pieces rest others : List Piece) (piece : Piece) (octets : List ℕ) (old new : Store) → rest ≡ piece ∷ others → octets ≡ piece.octets.items
    → PutsIn old piece.place (cells_of false octets false) new → Holds from pieces rest old → Holds from pieces others new
holds_more from pieces rest others piece octets old new parts same puts so_far = record {
  done = so_far.done ++ piece ∷ [];
  parts = so_far.parts ∙ ap (λ xs. so_far.done ++ xs) parts ∙ sym (append_assoc so_far.done (piece ∷ []) others);
  place = puts.0 ∙ so_far.place;
  holds = λ side.
      let P : List Placed → Type 0 = λ ps. IsStoreOf new ps (end_at side) in
      subst P (sym (map-append (placed_by side) so_far.done (piece ∷ [])))
      (puts.1 (map (placed_by side) so_far.done) (placed_by side piece) (so_far.holds side) refl (ap (λ xs. cells_of false xs false) (sym same)));
}

pub holds_all : (from : ℕ) (pieces : List Piece) (held : Store) → Holds from pieces [] held → (side : Side) → IsStoreOf held (map (placed_by side) pieces) (end_at side)
holds_all from pieces held so_far side =
    let P : List Piece → Type 0 = λ xs. IsStoreOf held (map (placed_by side) xs) (end_at side) in
    subst P (sym (so_far.parts ∙ append-nil so_far.done)) (so_far.holds side)
