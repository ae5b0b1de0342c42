-- What only contracts of private functions use, besides the definitions of `Reassembly`.
use Rattle.std.specs.Prelude.{◌≡◌, ◌-◌, ◌+◌, ◌++◌, ◌∷◌, ◌&&◌, ◌||◌, ℕ, Bool, false, nat_le, if◌then◌else◌, List, [], map, get_or, slice_get, Option, Some, None}
use Rattle.std.specs.Option.{option_map}
use Rattle.capture_tcp.specs.declared.reassembly.Cell.{Cell as HeldCell}
use Rattle.capture_tcp.specs.declared.reassembly.Cell.TheVariants as held
use Rattle.capture_tcp.specs.TcpStreams.{or_else, is_other}
use Rattle.capture_tcp.specs.Reassembly.{wire_cell}

-- ---- cells that are stored

abbrev pub flag_of : Bool → HeldCell → List HeldCell
flag_of is_set c = if is_set then c ∷ [] else []

abbrev pub octets_of : List ℕ → List HeldCell
octets_of octets = map (λ n. held.Octet n) octets

abbrev pub held_of : Bool → List ℕ → Bool → List HeldCell
held_of syns octets fins = flag_of syns held.Syn ++ (octets_of octets ++ flag_of fins held.Fin)

-- The cell at an offset, of cells that start at another.
abbrev pub cell_from : ℕ → List HeldCell → ℕ → Option HeldCell
cell_from place cs n = if nat_le place n then slice_get cs (n - place) else None

-- Holds if cells from an offset on are stored too, if the store starts at a base. A buffered cell stays unchanged.
abbrev pub IsStored : ℕ → ℕ → List HeldCell → List (Option HeldCell) → List (Option HeldCell) → Type 0
IsStored base place cs ss ts = (i : ℕ) → get_or ts i None ≡ or_else (get_or ss i None) (cell_from place cs (base + i))

-- ---- conflicting copies

abbrev pub is_another : HeldCell → Option HeldCell → Bool
is_another c held = is_other (wire_cell c) (option_map wire_cell held)

abbrev pub differs_at : ℕ → ℕ → ℕ → HeldCell → List (Option HeldCell) → Bool
differs_at base acknowledged place c ss = nat_le acknowledged place && is_another c (get_or ss (place - base) None)

-- True if some of these cells, from an offset on, is not acknowledged and differs from the buffered one.
unfoldable pub differs : ℕ → ℕ → ℕ → List HeldCell → List (Option HeldCell) → Bool
differs base acknowledged place [] ss = false
differs base acknowledged place (c ∷ cs) ss = differs_at base acknowledged place c ss || differs base acknowledged (place + 1) cs ss

-- ---- the message at the front

-- This number plus another.
abbrev pub further : ℕ → Option ℕ → Option ℕ
further i None = None
further i (Some n) = Some (i + n)

abbrev pub octet_in : HeldCell → Option ℕ
octet_in held.Syn = None
octet_in (held.Octet n) = Some n
octet_in held.Fin = None
