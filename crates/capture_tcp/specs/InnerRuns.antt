-- Runs of cells, in the order of their offsets. What comes between two runs is missing.
use Rattle.std.specs.Prelude.{◌≡◌, ◌<◌, ◌≤◌, ◌-◌, ◌+◌, ◌++◌, ◌∷◌, ℕ, zero, suc, max, min, length, List, [], Option, Some, None}
use Rattle.capture_tcp.specs.declared.reassembly.Cell.{Cell as HeldCell}
use Rattle.capture_tcp.specs.TcpStreams.{or_else}
use Rattle.capture_tcp.specs.InnerReassembly.{cell_from}

-- Contiguous cells from an offset on.
pub record CellRun : Type 0 where
  pub at : ℕ
  pub cells : List HeldCell

-- The offset after a run.
abbrev pub end_of_run : CellRun → ℕ
end_of_run r = r.at + length r.cells

-- The cell at an offset.
abbrev pub run_cell : List CellRun → ℕ → Option HeldCell
run_cell [] n = None
run_cell (r ∷ rs) n = or_else (cell_from r.at r.cells n) (run_cell rs n)

-- The cells at this number of offsets, from one on, of which some may be missing.
abbrev pub cells_between : ℕ → ℕ → (ℕ → Option HeldCell) → List (Option HeldCell)
cells_between zero n f = []
cells_between (suc k) n f = f n ∷ cells_between k (n + 1) f

-- Holds if the runs are in order and do not overlap, and all are between two offsets.
abbrev pub AreApart : ℕ → ℕ → List CellRun → Type 0
AreApart low high [] = low ≤ high
AreApart low high (r ∷ rs) = (low ≤ r.at) × AreApart (end_of_run r) high rs

-- Holds if there is a run at an index, and this holds of it.
abbrev pub HasAt : (CellRun → Type 0) → List CellRun → ℕ → Type 0
HasAt P [] i = ⊥
HasAt P (r ∷ rs) zero = P r
HasAt P (r ∷ rs) (suc i) = HasAt P rs i

-- Holds if this holds of the run at an index, or there is none.
abbrev pub IfAt : (CellRun → Type 0) → List CellRun → ℕ → Type 0
IfAt P [] i = Unit {0}
IfAt P (r ∷ rs) zero = P r
IfAt P (r ∷ rs) (suc i) = IfAt P rs i

-- Holds if the run at an index is the first that starts after an offset.
abbrev pub IsAfter : ℕ → List CellRun → ℕ → Type 0
IsAfter n rs k = (0 < k → HasAt (λ r. r.at ≤ n) rs (k - 1)) × IfAt (λ r. n < r.at) rs k × (k ≤ length rs)

-- Holds if the run before an index has this number of a packet's cells from an offset on.
abbrev pub IsKnown : ℕ → ℕ → List CellRun → ℕ → ℕ → Type 0
IsKnown n count rs k known = (0 < k → HasAt (λ r. known ≡ min (end_of_run r - n) count) rs (k - 1)) × (k ≡ 0 → known ≡ 0) × (known ≤ count)

-- Holds if this number of runs from an index on end by an offset, and the next one does not.
abbrev pub AreWithin : ℕ → List CellRun → ℕ → ℕ → Type 0
AreWithin end rs k count = (0 < count → HasAt (λ r. end_of_run r ≤ end) rs (k + (count - 1))) × IfAt (λ r. end < end_of_run r) rs (k + count) × (k + count ≤ length rs)

-- The lesser of the offset at which the run at an index starts, and another offset.
abbrev pub start_at : ℕ → List CellRun → ℕ → ℕ
start_at end [] i = end
start_at end (r ∷ rs) zero = min r.at end
start_at end (r ∷ rs) (suc i) = start_at end rs i

-- These cells from an offset on, but where the runs have a cell, that one.
abbrev pub cell_or : HeldCell → Option HeldCell → HeldCell
cell_or c None = c
cell_or c (Some d) = d

abbrev pub first_copies : List CellRun → ℕ → List HeldCell → List HeldCell
first_copies rs n [] = []
first_copies rs n (c ∷ cs) = cell_or c (run_cell rs n) ∷ first_copies rs (n + 1) cs

-- ---- what code does

-- Holds if cells from an offset on are stored too. A stored cell stays unchanged.
abbrev pub StoresRun : ℕ → List HeldCell → List CellRun → List CellRun → Type 0
StoresRun place cs old new =
    (high : ℕ) → AreApart 0 high old
    → AreApart 0 (max high (place + length cs)) new × ((n : ℕ) → run_cell new n ≡ or_else (run_cell old n) (cell_from place cs n))

-- Holds if cells from an offset on are stored before the run at an index, if the run before ends by the offset.
abbrev pub StoresAt : ℕ → ℕ → List HeldCell → List CellRun → List CellRun → Type 0
StoresAt k place cs old new =
    (0 < length cs → 0 < k → HasAt (λ r. end_of_run r ≤ place) old (k - 1)) → IfAt (λ r. place ≤ r.at) old k → StoresRun place cs old new

-- Holds if the last run ended at an offset, and has these cells too.
abbrev pub ExtendsLast : ℕ → List HeldCell → List CellRun → List CellRun → Type 0
ExtendsLast place cs old new =
    (before : List CellRun) × (r : CellRun) × (old ≡ before ++ r ∷ []) × (new ≡ before ++ (record { at = r.at; cells = r.cells ++ cs }) ∷ []) × (place ≡ end_of_run r)

-- Holds if nothing from an offset on changes.
abbrev pub KeepsFrom : ℕ → List CellRun → List CellRun → Type 0
KeepsFrom first old new = (high : ℕ) → AreApart 0 high old → AreApart 0 high new × ((n : ℕ) → first ≤ n → run_cell new n ≡ run_cell old n)
