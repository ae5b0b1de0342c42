-- What is buffered of one direction by offset, from an offset on.
use Rattle.std.specs.Prelude.{◌≡◌, ◌<◌, ◌≤◌, ◌-◌, ◌+◌, ◌++◌, ◌∷◌, ◌^◌, ◌⊎◌, ℕ, Bool, nat_lt, length, drop, if◌then◌else◌, List, [], get_or, Option, Some, None}
use Rattle.std.specs.Option.{option_map}
use Rattle.capture_tcp.specs.declared.reassembly.Cell.{Cell as HeldCell}
use Rattle.capture_tcp.specs.declared.reassembly.Cell.TheVariants as held
use Rattle.capture_tcp.specs.TcpStreams.{End, Cell, syn, octet, fin, Placed, cell_at, contradicts, end_of, stream_of}
use Rattle.capture_tcp.specs.Message.{message_size}

abbrev pub wire_cell : HeldCell → Cell
wire_cell held.Syn = syn
wire_cell (held.Octet n) = octet n
wire_cell held.Fin = fin

-- The cells from an offset on, of which some may be missing.
pub record Store : Type 0 where
  pub place : ℕ
  pub cells : List (Option HeldCell)

abbrev pub cell_held : Store → ℕ → Option Cell
cell_held s n = option_map wire_cell (get_or s.cells (n - s.place) None)

-- Holds if, from its offset on, the store has what these packets carried, the first copy of each cell.
abbrev pub IsStoreOf : Store → List Placed → End → Type 0
IsStoreOf s ps d = (n : ℕ) → s.place ≤ n → cell_held s n ≡ cell_at ps d n

-- Holds if the store has one more packet, which carries these cells.
abbrev pub PutsIn : Store → ℕ → List Cell → Store → Type 0
PutsIn old place cells new =
    (new.place ≡ old.place)
    × ((ps : List Placed) (p : Placed) → IsStoreOf old ps p.from → p.place ≡ place → p.cells ≡ cells → IsStoreOf new (ps ++ p ∷ []) p.from)

-- Holds if a packet at an offset, which carries these cells, ends more than 2^26 offsets after the first that is
-- buffered, or after all offsets.
abbrev pub EndsFar : ℕ → ℕ → List Cell → Type 0
EndsFar first place cells = (first + 2 ^ 26 < place + length cells) ⊎ (2 ^ 64 ≤ place + length cells)

-- Holds if it is the cell at an offset. What comes before the store's offset is no longer buffered.
abbrev pub CellIs : Store → ℕ → Option HeldCell → Type 0
CellIs s n c = (n < s.place → c ≡ None) × ((ps : List Placed) (d : End) → IsStoreOf s ps d → s.place ≤ n → option_map wire_cell c ≡ cell_at ps d n)

-- ---- conflicting copies

-- Holds if the result is whether a packet with these cells contradicts those before it. What is not acknowledged must
-- still be buffered, and the packet must end before 2^64.
abbrev pub ReturnsConflict : Store → ℕ → ℕ → List Cell → Bool → Type 0
ReturnsConflict s acknowledged place cells emitted =
    s.place ≤ acknowledged → place + length cells < 2 ^ 64 → (ps : List Placed) (d : End) → IsStoreOf s ps d
    → emitted ≡ contradicts ps d acknowledged place cells

-- ---- the message at the front

-- The contiguous cells at the front.
abbrev pub and_piece : Option HeldCell → List Cell → List Cell
and_piece None cs = []
and_piece (Some c) cs = wire_cell c ∷ cs

abbrev pub in_piece : List (Option HeldCell) → List Cell
in_piece [] = []
in_piece (s ∷ ss) = and_piece s (in_piece ss)

-- The size of a message from an offset on, if it ends by another offset.
abbrev pub fitting : ℕ → ℕ → Option ℕ → Option ℕ
fitting upto place None = None
fitting upto place (Some n) = if nat_lt upto (place + n) then None else Some n

-- The contiguous cells from an offset on.
abbrev pub piece_from : Store → ℕ → List Cell
piece_from s place = in_piece (drop (place - s.place) s.cells)

-- Holds if this number of cells is cut off the stream at an offset: a complete message is there and ends by another
-- offset.
abbrev pub IsFront : Store → ℕ → ℕ → Option ℕ → Type 0
IsFront s place upto count =
    s.place ≤ place → (ps : List Placed) (d : End) → IsStoreOf s ps d → place ≤ end_of ps d
    → count ≡ fitting upto place (message_size (drop place (stream_of ps d)))

-- Holds if this number of cells is cut off, by what is buffered.
abbrev pub IsPiece : Store → ℕ → ℕ → Option ℕ → Type 0
IsPiece s place upto count = s.place ≤ place → count ≡ fitting upto place (message_size (piece_from s place))
