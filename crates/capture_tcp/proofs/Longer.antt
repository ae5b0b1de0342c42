-- What more packets leave unchanged: what is buffered, and the streams.
use Rattle.std.proofs.Common.{◌≡◌, ◌≤◌, inl, inr, ◌+◌, ℕ, zero, suc, true, List, [], ◌∷◌, ◌++◌, length, Option, Some, None, is_some, refl, sym, ap, ◌∙◌, arith}
use Rattle.std.proofs.lemmas.Bool.{cases_lt}
use Rattle.capture_tcp.specs.TcpStreams.{End, Cell, Placed, or_else, cell_in, cell_at, run, bound, end_of, cells_up_to, stream_of}
use Rattle.capture_tcp.specs.Laws.{IsHeld}
use Rattle.capture_tcp.proofs.Ends.{end_is, from_first, from_second, in_span, same}
use Rattle.capture_tcp.proofs.Lists.{Each, weaken, Begins, begins_cons}

-- ---- buffered cells and streams

or_assoc : (x y z : Option Cell) → or_else (or_else x y) z ≡ or_else x (or_else y z)
or_assoc None y z = refl
or_assoc (Some c) y z = refl

pub cell_more : (xs ys : List Placed) (d : End) (n : ℕ) → cell_at (xs ++ ys) d n ≡ or_else (cell_at xs d n) (cell_at ys d n)
unfolding cell_at
cell_more [] ys d n = refl
cell_more (x ∷ xs) ys d n = ap (λ z. or_else (cell_in x d n) z) (cell_more xs ys d n) ∙ sym (or_assoc (cell_in x d n) (cell_at xs d n) (cell_at ys d n))

stays_some : (x y : Option Cell) (c : Cell) → x ≡ Some c → or_else x y ≡ Some c
stays_some None y c e = absurd cc
stays_some (Some a) y c e = e

stays_there : (x y : Option Cell) → is_some x ≡ true → is_some (or_else x y) ≡ true
stays_there None y e = absurd cc
stays_there (Some c) y e = refl

pub held_more : (xs ys : List Placed) (d : End) (n : ℕ) → IsHeld xs d n → IsHeld (xs ++ ys) d n
held_more xs ys d n h = rw (cell_more xs ys d n) (stays_there (cell_at xs d n) (cell_at ys d n) h)

pub end_more : (xs ys : List Placed) (d : End) → end_of xs d ≤ end_of (xs ++ ys) d
end_more xs ys d =
    elim (cases_lt (end_of (xs ++ ys) d) (end_of xs d)) [
      | inl lt ↦ absurd ((end_is (xs ++ ys) d).1 (held_more xs ys d (end_of (xs ++ ys) d) ((end_is xs d).0 (end_of (xs ++ ys) d) lt)))
      | inr le ↦ le
    ]

bound_more : (xs ys : List Placed) → bound xs ≤ bound (xs ++ ys)
unfolding bound
bound_more [] ys = omega arith
bound_more (x ∷ xs) ys = let later = bound_more xs ys in omega (arith, later)

cells_more : (j k : ℕ) (xs ys : List Placed) (d : End) (n : ℕ) → j ≤ k → Begins Cell (cells_up_to j xs d n) (cells_up_to k (xs ++ ys) d n)
unfolding cells_up_to
cells_more zero k xs ys d n le = (cells_up_to k (xs ++ ys) d n, refl)
cells_more (suc j) zero xs ys d n le = absurd (omega (arith, le))
cells_more (suc j) (suc k) xs ys d n le = by_cell (cell_at xs d n) refl (cells_more j k xs ys d (n + 1) (omega (arith, le)))
  where
    by_cell : (o : Option Cell) → cell_at xs d n ≡ o → Begins Cell (cells_up_to j xs d (n + 1)) (cells_up_to k (xs ++ ys) d (n + 1))
        → Begins Cell (cells_up_to (suc j) xs d n) (cells_up_to (suc k) (xs ++ ys) d n)
    by_cell None e later = rw e (cells_up_to (suc k) (xs ++ ys) d n, refl)
    by_cell (Some c) e later =
        rw (e, cell_more xs ys d n, stays_some (cell_at xs d n) (cell_at ys d n) c e) (begins_cons c (cells_up_to j xs d (n + 1)) (cells_up_to k (xs ++ ys) d (n + 1)) later)

pub stream_more : (xs ys : List Placed) (d : End) → Begins Cell (stream_of xs d) (stream_of (xs ++ ys) d)
stream_more xs ys d = cells_more (bound xs) (bound (xs ++ ys)) xs ys d 0 (bound_more xs ys)

cells_length : (k : ℕ) (ps : List Placed) (d : End) (n : ℕ) → n + length (cells_up_to k ps d n) ≡ run k ps d n
unfolding cells_up_to run
cells_length zero ps d n = omega arith
cells_length (suc k) ps d n = by_cell (cell_at ps d n) refl (cells_length k ps d (n + 1))
  where
    by_cell : (o : Option Cell) → cell_at ps d n ≡ o → n + 1 + length (cells_up_to k ps d (n + 1)) ≡ run k ps d (n + 1)
        → n + length (cells_up_to (suc k) ps d n) ≡ run (suc k) ps d n
    by_cell None e later = rw e (omega arith)
    by_cell (Some c) e later = rw e (omega (arith, later))

pub stream_length : (ps : List Placed) (d : End) → length (stream_of ps d) ≡ end_of ps d
stream_length ps d = let e = cells_length (bound ps) ps d 0 in omega (arith, e)

-- ---- what a packet carries is buffered

abbrev pub Holds : List Placed → Placed → Type 0
Holds ps p = (n : ℕ) → is_some (cell_in p p.from n) ≡ true → IsHeld ps p.from n

pub each_holds : (ps : List Placed) → Each (Holds ps) ps
unfolding cell_at
each_holds [] = tt
each_holds (p ∷ ps) = (
  λ n e. from_first (cell_in p p.from n) (cell_at ps p.from n) e,
  weaken (Holds ps) (Holds (p ∷ ps)) ps (λ q h n e. from_second (cell_in p q.from n) (cell_at ps q.from n) (h n e)) (each_holds ps),
)

-- All that an in-order packet carries is before the end.
pub within_own : (ps : List Placed) (p : Placed) → Holds ps p → p.place ≤ end_of ps p.from → p.place + length p.cells ≤ end_of ps p.from
within_own ps p h le =
    elim (cases_lt (end_of ps p.from) (p.place + length p.cells)) [
      | inl lt ↦ absurd ((end_is ps p.from).1 (h (end_of ps p.from) (in_span p p.from (end_of ps p.from) (same p.from) le lt)))
      | inr ge ↦ ge
    ]
