-- The connection of a pair of ends, and what becomes of it with a packet.
use Rattle.std.specs.Prelude.{◌≡◌, ◌⊎◌, ◌<◌, ◌%◌, ◌^◌, ◌==◌, ◌∷◌, ℕ, Bool, true, false, List, [], Option, Some}
use Rattle.capture_log.specs.declared.socket_pair.Pair.{Pair}

-- ---- a connection begins

-- those that are forgotten are left out, and the others stay, in their order
abbrev pub LeavesOut : {X : Type 0} → (X → Type 0) → List (Pair × X) → List (Pair × X) → Type 0
LeavesOut Forgotten [] kept = kept ≡ []
LeavesOut {X} Forgotten (one ∷ all) kept =
    (rest : List (Pair × X)) × LeavesOut Forgotten all rest
    × ((Forgotten one.1 × (kept ≡ rest)) ⊎ ((Forgotten one.1 → ⊥) × (kept ≡ one ∷ rest)))

abbrev pub KeepsIf : {X : Type 0} → Bool → (X → Type 0) → List (Pair × X) → List (Pair × X) → Type 0
KeepsIf true Forgotten all kept = LeavesOut Forgotten all kept
KeepsIf false Forgotten all kept = kept ≡ all

-- which is done at each 4,096th that begins
abbrev pub KeepsOf : {X : Type 0} → (X → ℕ → Type 0) → ℕ → List (Pair × X) → List (Pair × X) → Type 0
KeepsOf Forgotten begun all kept = KeepsIf (begun % 4096 == 0) (λ one. Forgotten one begun) all kept

-- ---- what becomes of them with a segment

-- a packet has a time where that is known and lies within 2^64 milliseconds
abbrev pub HasTime : Option ℕ → ℕ → Type 0
HasTime captured time = (captured ≡ Some time) × (time < 2 ^ 64)
