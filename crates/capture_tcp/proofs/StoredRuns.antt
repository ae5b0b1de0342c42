-- Cells that are stored among runs.
use Rattle.std.proofs.Common.{◌≡◌, ◌<◌, ◌≤◌, ◌+◌, ◌-◌, ◌++◌, ◌∷◌, ℕ, zero, suc, true, List, [], length, max, min, take, drop, slice_get, Option, Some, None, is_some, refl, sym, ap, subst, ◌∙◌, arith, inl, inr, length-append, length-drop, length-take}
use Rattle.std.proofs.lemmas.Bool.{le-leb, cases_lt}
use Rattle.std.proofs.lemmas.List.{drop-drop, take-append-drop}
use Rattle.capture_tcp.specs.declared.reassembly.Cell.{Cell as HeldCell}
use Rattle.capture_tcp.specs.TcpStreams.{or_else}
use Rattle.capture_tcp.specs.InnerReassembly.{cell_from}
use Rattle.capture_tcp.specs.InnerRuns.{CellRun, end_of_run, run_cell, AreApart, HasAt, IfAt, IsAfter, IsKnown, AreWithin, start_at, cell_or, first_copies, StoresRun, StoresAt}
use Rattle.capture_tcp.proofs.ApartRuns.{after_all, before_all, get_drop, has_both, has_drop, has_map, higher, if_drop, if_map, lower, too_early, too_late}

-- ---- one of two cells

or_none : (x : Option HeldCell) → or_else x None ≡ x
or_none None = refl
or_none (Some c) = refl

or_assoc : (x y z : Option HeldCell) → or_else (or_else x y) z ≡ or_else x (or_else y z)
or_assoc None y z = refl
or_assoc (Some c) y z = refl

or_some : (x y : Option HeldCell) → is_some x ≡ true → or_else x y ≡ x
or_some None y e = absurd cc
or_some (Some c) y e = refl

some_or : (x y : Option HeldCell) → is_some x ≡ true → is_some (or_else x y) ≡ true
some_or None y e = absurd cc
some_or (Some c) y e = refl

or_later : (x y : Option HeldCell) → is_some y ≡ true → is_some (or_else x y) ≡ true
or_later None y e = e
or_later (Some c) y e = refl

-- ---- a run

some_get : (cs : List HeldCell) (i : ℕ) → i < length cs → is_some (slice_get cs i) ≡ true
some_get [] i lt = absurd (omega (arith, lt))
some_get (c ∷ cs) zero lt = refl
some_get (c ∷ cs) (suc i) lt = some_get cs i (omega (arith, lt))

inside_some : (at n : ℕ) (cs : List HeldCell) → at ≤ n → n < at + length cs → is_some (cell_from at cs n) ≡ true
inside_some at n cs le lt = rw (le-leb at n le) (some_get cs (n - at) (omega (arith, le, lt)))

early : (at n : ℕ) (cs : List HeldCell) → n < at → cell_from at cs n ≡ None
early at n cs lt = sym (too_early at n cs lt)

past : (at n : ℕ) (cs : List HeldCell) → at + length cs ≤ n → cell_from at cs n ≡ None
past at n cs le = sym (too_late at n cs (omega (arith, le)) (omega (arith, le)))

covered : (n i : ℕ) (rs : List CellRun) → HasAt (λ (q : CellRun). (q.at ≤ n) × (n < end_of_run q)) rs i → is_some (run_cell rs n) ≡ true
covered n i [] h = absurd h
covered n zero (r ∷ rs) h = some_or (cell_from r.at r.cells n) (run_cell rs n) (inside_some r.at n r.cells h.0 h.1)
covered n (suc i) (r ∷ rs) h = or_later (cell_from r.at r.cells n) (run_cell rs n) (covered n i rs h)

-- ---- lists of runs

run_append : (xs ys : List CellRun) (n : ℕ) → run_cell (xs ++ ys) n ≡ or_else (run_cell xs n) (run_cell ys n)
run_append [] ys n = refl
run_append (x ∷ xs) ys n = ap (or_else (cell_from x.at x.cells n)) (run_append xs ys n) ∙ sym (or_assoc (cell_from x.at x.cells n) (run_cell xs n) (run_cell ys n))

append_apart : (low mid high : ℕ) (xs ys : List CellRun) → AreApart low mid xs → AreApart mid high ys → AreApart low high (xs ++ ys)
append_apart low mid high [] ys f g = lower mid low high ys g f
append_apart low mid high (x ∷ xs) ys f g = (f.0, append_apart (end_of_run x) mid high xs ys f.1 g)

end_le : (low high a i : ℕ) (rs : List CellRun) → AreApart low high rs → HasAt (λ (q : CellRun). end_of_run q ≤ a) rs i → low ≤ a
end_le low high a i [] h at = absurd at
end_le low high a zero (r ∷ rs) h at =
    let first : low ≤ r.at = h.0 in
    let here : r.at + length r.cells ≤ a = at in
    omega (arith, first, here)
end_le low high a (suc i) (r ∷ rs) h at =
    let later : r.at + length r.cells ≤ a = end_le (end_of_run r) high a i rs h.1 at in
    let first : low ≤ r.at = h.0 in
    omega (arith, first, later)

first_le : (low high a i : ℕ) (r : CellRun) (rs : List CellRun) → AreApart low high (r ∷ rs) → HasAt (λ (q : CellRun). end_of_run q ≤ a) (r ∷ rs) i → end_of_run r ≤ a
first_le low high a zero r rs h at = at
first_le low high a (suc i) r rs h at = end_le (end_of_run r) high a i rs h.1 at

take_apart : (low high a k : ℕ) (rs : List CellRun) → AreApart low high rs → low ≤ a → k ≤ length rs
    → ((i : ℕ) → k ≡ suc i → HasAt (λ (q : CellRun). end_of_run q ≤ a) rs i) → AreApart low a (take k rs)
take_apart low high a zero rs h le many f = le
take_apart low high a (suc k) [] h le many f = absurd (omega (arith, many))
take_apart low high a (suc k) (r ∷ rs) h le many f = (
  h.0,
  take_apart (end_of_run r) high a k rs h.1 (first_le low high a k r rs h (f k refl)) (omega (arith, many))
      (λ i e. subst (HasAt (λ (q : CellRun). end_of_run q ≤ a) (r ∷ rs)) e (f k refl)),
)

drop_apart : (low high m a k : ℕ) (rs : List CellRun) → AreApart low high rs → high ≤ m → a ≤ m → IfAt (λ (q : CellRun). a ≤ q.at) rs k → AreApart a m (drop k rs)
drop_apart low high m a zero [] h up le f = le
drop_apart low high m a zero (r ∷ rs) h up le f = (f, higher (end_of_run r) high m rs h.1 up)
drop_apart low high m a (suc k) [] h up le f = le
drop_apart low high m a (suc k) (r ∷ rs) h up le f = drop_apart (end_of_run r) high m a k rs h.1 up le f

-- ---- where the new run ends

within_start : (low high end stop i : ℕ) (rs : List CellRun) → AreApart low high rs → stop ≡ start_at end rs (suc i) → HasAt (λ (q : CellRun). end_of_run q ≤ end) rs i
    → HasAt (λ (q : CellRun). end_of_run q ≤ stop) rs i
within_start low high end stop i [] h e at = at
within_start low high end stop zero (r ∷ []) h e at =
    let here : r.at + length r.cells ≤ end = at in
    let same : stop ≡ end = e in
    omega (arith, same, here)
within_start low high end stop zero (r ∷ q ∷ rs) h e at =
    let here : r.at + length r.cells ≤ end = at in
    let next : r.at + length r.cells ≤ q.at = h.1.0 in
    let least : stop ≡ min q.at end = e in
    omega (arith, least, here, next)
within_start low high end stop (suc i) (r ∷ rs) h e at = within_start (end_of_run r) high end stop i rs h.1 e at

starts_from : (end stop j : ℕ) (rs : List CellRun) → stop ≡ start_at end rs j → IfAt (λ (q : CellRun). stop ≤ q.at) rs j
starts_from end stop j [] e = tt
starts_from end stop zero (r ∷ rs) e = let least : stop ≡ min r.at end = e in omega (arith, least)
starts_from end stop (suc j) (r ∷ rs) e = starts_from end stop j rs e

pub start_le : (end j : ℕ) (rs : List CellRun) → start_at end rs j ≤ end
start_le end j [] = omega arith
start_le end zero (r ∷ rs) = omega arith
start_le end (suc j) (r ∷ rs) = start_le end j rs

reached : (end stop n j : ℕ) (rs : List CellRun) → stop ≡ start_at end rs j → IfAt (λ (q : CellRun). end < end_of_run q) rs j → stop ≤ n → n < end
    → is_some (run_cell (drop j rs) n) ≡ true
reached end stop n j [] e f le lt = let same : stop ≡ end = e in absurd (omega (arith, same, le, lt))
reached end stop n zero (r ∷ rs) e f le lt =
    let least : stop ≡ min r.at end = e in
    let passes : end < r.at + length r.cells = f in
    some_or (cell_from r.at r.cells n) (run_cell rs n) (inside_some r.at n r.cells (omega (arith, least, le, lt)) (omega (arith, passes, lt)))
reached end stop n (suc j) (r ∷ rs) e f le lt = reached end stop n j rs e f le lt

-- ---- first copies

from_here : (place n : ℕ) (c : HeldCell) (cs : List HeldCell) → n ≡ place → cell_from place (c ∷ cs) n ≡ Some c
from_here place n c cs e =
    let at : n - place ≡ 0 = omega (arith, e) in
    rw (le-leb place n (omega (arith, e)), at) refl

from_later : (place n : ℕ) (c : HeldCell) (cs : List HeldCell) → place < n → cell_from place (c ∷ cs) n ≡ cell_from (place + 1) cs n
from_later place n c cs lt =
    let at : n - place ≡ suc (n - (place + 1)) = omega (arith, lt) in
    rw (le-leb place n (omega (arith, lt)), le-leb (place + 1) n (omega (arith, lt)), at) refl

length_copies : (rs : List CellRun) (n : ℕ) (cs : List HeldCell) → length (first_copies rs n cs) ≡ length cs
length_copies rs n [] = refl
length_copies rs n (c ∷ cs) = ap (λ (k : ℕ). suc k) (length_copies rs (n + 1) cs)

or_is : (c : HeldCell) (o : Option HeldCell) → Some (cell_or c o) ≡ or_else o (Some c)
or_is c None = refl
or_is c (Some d) = refl

copy_at : (rs : List CellRun) (a n : ℕ) (cs : List HeldCell) → a ≤ n → n < a + length cs → cell_from a (first_copies rs a cs) n ≡ or_else (run_cell rs n) (cell_from a cs n)
copy_at rs a n [] le lt = absurd (omega (arith, le, lt))
copy_at rs a n (c ∷ cs) le lt =
    elim (cases_lt a n) [
      | inl less ↦ from_later a n (cell_or c (run_cell rs a)) (first_copies rs (a + 1) cs) less ∙ copy_at rs (a + 1) n cs (omega (arith, less)) (omega (arith, lt))
          ∙ ap (or_else (run_cell rs n)) (sym (from_later a n c cs less))
      | inr ge ↦
          let same : n ≡ a = omega (arith, le, ge) in
          from_here a n (cell_or c (run_cell rs a)) (first_copies rs (a + 1) cs) same ∙ or_is c (run_cell rs a) ∙ ap (λ (m : ℕ). or_else (run_cell rs m) (Some c)) (sym same)
          ∙ ap (or_else (run_cell rs n)) (sym (from_here a n c cs same))
    ]

pub copies_next : (rs : List CellRun) (n : ℕ) (c : HeldCell) (cs : List HeldCell) → first_copies rs n (c ∷ cs) ≡ cell_or c (run_cell rs n) ∷ first_copies rs (n + 1) cs
copies_next rs n c cs = refl

-- ---- a new run

none_new : (x y z r c : Option HeldCell) → r ≡ None → y ≡ None → c ≡ None → or_else x (or_else r z) ≡ or_else (or_else x (or_else y z)) c
none_new x y z (Some r) c e f g = absurd cc
none_new x (Some y) z None c e f g = absurd cc
none_new x None z None (Some c) e f g = absurd cc
none_new x None z None None e f g = sym (or_none (or_else x z))

some_new : (x r z v : Option HeldCell) → x ≡ None → is_some r ≡ true → r ≡ v → or_else x (or_else r z) ≡ v
some_new (Some x) r z v e f g = absurd cc
some_new None r z v e f g = or_some r z f ∙ g

last_new : (x y z r c : Option HeldCell) → x ≡ None → y ≡ None → r ≡ None → or_else z c ≡ z → or_else x (or_else r z) ≡ or_else (or_else x (or_else y z)) c
last_new (Some x) y z r c e f g h = absurd cc
last_new None (Some y) z r c e f g h = absurd cc
last_new None None z (Some r) c e f g h = absurd cc
last_new None None z None c e f g h = sym h

spliced : (a b m end : ℕ) (xs ys zs : List CellRun) (r : CellRun) (cs : List HeldCell) → AreApart 0 a xs → AreApart a b ys → AreApart b m zs
    → r.at ≡ a → end_of_run r ≡ b → end ≡ a + length cs → b ≤ end
    → ((n : ℕ) → a ≤ n → n < b → cell_from r.at r.cells n ≡ or_else (run_cell (xs ++ (ys ++ zs)) n) (cell_from a cs n))
    → ((n : ℕ) → b ≤ n → n < end → is_some (run_cell zs n) ≡ true)
    → (n : ℕ) → run_cell (xs ++ (r ∷ zs)) n ≡ or_else (run_cell (xs ++ (ys ++ zs)) n) (cell_from a cs n)
spliced a b m end xs ys zs r cs f g h at ends e le copies reaches n =
    run_append xs (r ∷ zs) n
    ∙ elim (cases_lt n a) [
      | inl before ↦
          none_new (run_cell xs n) (run_cell ys n) (run_cell zs n) (cell_from r.at r.cells n) (cell_from a cs n) (early r.at n r.cells (omega (arith, before, at))) (before_all a b n ys g before)
          (early a n cs before)
          ∙ old
      | inr ge ↦ elim (cases_lt n b) [
        | inl inside ↦
            some_new (run_cell xs n) (cell_from r.at r.cells n) (run_cell zs n) (or_else (run_cell (xs ++ (ys ++ zs)) n) (cell_from a cs n)) (after_all 0 a n xs f ge)
            (inside_some r.at n r.cells (omega (arith, ge, at)) (omega (arith, long, inside))) (copies n ge inside)
        | inr beyond ↦
            last_new (run_cell xs n) (run_cell ys n) (run_cell zs n) (cell_from r.at r.cells n) (cell_from a cs n) (after_all 0 a n xs f ge) (after_all a b n ys g beyond)
            (past r.at n r.cells (omega (arith, long, beyond))) (last beyond)
            ∙ old
      ]
    ]
  where
    long : r.at + length r.cells ≡ b
    long = ends

    old : or_else (or_else (run_cell xs n) (or_else (run_cell ys n) (run_cell zs n))) (cell_from a cs n) ≡ or_else (run_cell (xs ++ (ys ++ zs)) n) (cell_from a cs n)
    old = ap (λ (o : Option HeldCell). or_else o (cell_from a cs n)) (sym (run_append xs (ys ++ zs) n ∙ ap (or_else (run_cell xs n)) (run_append ys zs n)))

    last : b ≤ n → or_else (run_cell zs n) (cell_from a cs n) ≡ run_cell zs n
    last beyond =
        elim (cases_lt n end) [
          | inl lt ↦ or_some (run_cell zs n) (cell_from a cs n) (reaches n beyond lt)
          | inr ge ↦ ap (or_else (run_cell zs n)) (past a n cs (omega (arith, e, ge))) ∙ or_none (run_cell zs n)
        ]

-- What is stored before the run at an index, in place of runs that end by the end of it.
pub stores_run : (k count place stop end : ℕ) (cs new : List HeldCell) (rs ts : List CellRun) (r : CellRun) → AreWithin end rs k count → k ≤ length rs
    → end ≡ place + length cs → stop ≡ start_at end rs (k + count) → place < stop → new ≡ take (stop - place) cs
    → ((high : ℕ) → AreApart 0 high rs → r ≡ record { at = place; cells = first_copies rs place new })
    → ts ≡ take k rs ++ r ∷ drop count (drop k rs) → StoresAt k place cs rs ts
stores_run k count place stop end cs new rs ts r w many e stops lt cut is list ends from high h =
    let m = max high end in
    let le : stop ≤ end = subst (λ (n : ℕ). n ≤ end) (sym stops) (start_le end (k + count) rs) in
    let up : high ≤ m = omega arith in
    let top : stop ≤ m = omega (arith, le) in
    let few : length new ≡ stop - place = ap length cut ∙ length-take (stop - place) cs ∙ (let fits : min (stop - place) (length cs) ≡ stop - place = omega (arith, le, e) in fits) in
    let run = is high h in
    let long : length r.cells ≡ stop - place = ap (λ (z : CellRun). length z.cells) run ∙ length_copies rs place new ∙ few in
    let at : r.at ≡ place = ap (λ (z : CellRun). z.at) run in
    let r_end : r.at + length r.cells ≡ stop = omega (arith, at, long, lt) in
    let xs = take_apart 0 high place k rs h (omega arith) many (λ i f. let one : k - 1 ≡ i = omega (arith, f) in subst (HasAt (λ (q : CellRun). end_of_run q ≤ place) rs) one (ends (omega (arith, lt, le, e)) (omega (arith, f)))) in
    let rest = drop_apart 0 high m place k rs h up (omega (arith, lt, top)) from in
    let ys = take_apart place m stop count (drop k rs) rest (omega (arith, lt)) (let d = length-drop k rs in let all : k + count ≤ length rs = w.2 in omega (arith, d, all))
    (λ i f.
    let one : k + (count - 1) ≡ k + i = omega (arith, f) in
    let next : k + count ≡ suc (k + i) = omega (arith, f) in
    has_drop (λ (q : CellRun). end_of_run q ≤ stop) k i (k + i) rs refl
    (within_start 0 high end stop (k + i) rs h (stops ∙ ap (start_at end rs) next) (subst (HasAt (λ (q : CellRun). end_of_run q ≤ end) rs) one (w.0 (omega (arith, f)))))) in
    let zs = drop_apart place m m stop count (drop k rs) rest (omega arith) top (if_drop (λ (q : CellRun). stop ≤ q.at) k count (k + count) rs refl (starts_from end stop (k + count) rs stops)) in
    let split : rs ≡ take k rs ++ (take count (drop k rs) ++ drop count (drop k rs)) = sym (take-append-drop k rs) ∙ ap (λ (z : List CellRun). take k rs ++ z) (sym (take-append-drop count (drop k rs))) in (
      subst (AreApart 0 (max high (place + length cs))) (sym list)
          (subst (λ (n : ℕ). AreApart 0 (max high n) (take k rs ++ r ∷ drop count (drop k rs))) e
          (append_apart 0 place m (take k rs) (r ∷ drop count (drop k rs)) xs (omega (arith, at), subst (λ (n : ℕ). AreApart n m (drop count (drop k rs))) (sym r_end) zs))),
      λ n.
          ap (λ (z : List CellRun). run_cell z n) list
          ∙ spliced place stop m end (take k rs) (take count (drop k rs)) (drop count (drop k rs)) r cs xs ys zs at r_end e le
          (λ i ge inside.
          ap (λ (z : CellRun). cell_from z.at z.cells i) run ∙ copy_at rs place i new ge (omega (arith, few, inside, lt))
          ∙ ap (λ (z : List CellRun). or_else (run_cell z i) (cell_from place new i)) split
          ∙ ap (or_else (run_cell (take k rs ++ (take count (drop k rs) ++ drop count (drop k rs))) i)) (taken place i (stop - place) cs new cut ge (omega (arith, inside, ge))))
          (λ i beyond inside. subst (λ (z : List CellRun). is_some (run_cell z i) ≡ true) (dropped k count rs) (reached end stop i (k + count) rs stops w.1 beyond inside))
          n
          ∙ ap (λ (z : List CellRun). or_else (run_cell z n) (cell_from place cs n)) (sym split),
    )
  where
    dropped : (k count : ℕ) (rs : List CellRun) → drop (k + count) rs ≡ drop count (drop k rs)
    dropped k count rs = sym (drop-drop count k rs)

    get_take : (j i : ℕ) (cs : List HeldCell) → i < j → slice_get (take j cs) i ≡ slice_get cs i
    get_take zero i cs lt = absurd (omega (arith, lt))
    get_take (suc j) i [] lt = refl
    get_take (suc j) zero (c ∷ cs) lt = refl
    get_take (suc j) (suc i) (c ∷ cs) lt = get_take j i cs (omega (arith, lt))

    taken : (place i j : ℕ) (cs new : List HeldCell) → new ≡ take j cs → place ≤ i → i - place < j → cell_from place new i ≡ cell_from place cs i
    taken place i j cs new e ge lt = rw (le-leb place i ge) (ap (λ (z : List HeldCell). slice_get z (i - place)) e ∙ get_take j (i - place) cs lt)

-- Nothing new is stored: the next run has all cells.
pub stores_none : (k count place stop end : ℕ) (cs : List HeldCell) (rs ts : List CellRun) → AreWithin end rs k count → end ≡ place + length cs
    → stop ≡ start_at end rs (k + count) → stop ≤ place → ts ≡ rs → StoresAt k place cs rs ts
stores_none k count place stop end cs rs ts w e stops le same ends from high h = (
  subst (AreApart 0 (max high (place + length cs))) (sym same) (higher 0 high (max high (place + length cs)) rs h (omega arith)),
  λ n.
      ap (λ (z : List CellRun). run_cell z n) same
      ∙ elim (cases_lt n place) [
        | inl before ↦ sym (ap (or_else (run_cell rs n)) (early place n cs before) ∙ or_none (run_cell rs n))
        | inr ge ↦ elim (cases_lt n end) [
          | inl inside ↦ sym (or_some (run_cell rs n) (cell_from place cs n) (has_it n (omega (arith, le, ge)) inside))
          | inr beyond ↦ sym (ap (or_else (run_cell rs n)) (past place n cs (omega (arith, e, beyond))) ∙ or_none (run_cell rs n))
        ]
      ],
)
  where
    has_it : (n : ℕ) → stop ≤ n → n < end → is_some (run_cell rs n) ≡ true
    has_it n low high =
        subst (λ (z : List CellRun). is_some (run_cell z n) ≡ true) (take-append-drop (k + count) rs)
        (subst (λ (o : Option HeldCell). is_some o ≡ true) (sym (run_append (take (k + count) rs) (drop (k + count) rs) n))
        (or_later (run_cell (take (k + count) rs) n) (run_cell (drop (k + count) rs) n) (reached end stop n (k + count) rs stops w.1 low high)))

-- ---- cells after the last run

apart_last : (low high : ℕ) (xs : List CellRun) (p : CellRun) → AreApart low high (xs ++ p ∷ []) → AreApart low p.at xs × (p.at + length p.cells ≤ high)
apart_last low high [] p h = (h.0, h.1)
apart_last low high (x ∷ xs) p h = let later = apart_last (end_of_run x) high xs p h.1 in ((h.0, later.0), later.1)

get_front : (cs ds : List HeldCell) (i : ℕ) → i < length cs → slice_get (cs ++ ds) i ≡ slice_get cs i
get_front [] ds i lt = absurd (omega (arith, lt))
get_front (c ∷ cs) ds zero lt = refl
get_front (c ∷ cs) ds (suc i) lt = get_front cs ds i (omega (arith, lt))

get_back : (cs ds : List HeldCell) (i j : ℕ) → i ≡ length cs + j → slice_get (cs ++ ds) i ≡ slice_get ds j
get_back [] ds i j e = let same : i ≡ j = omega (arith, e) in ap (slice_get ds) same
get_back (c ∷ cs) ds zero j e = absurd (omega (arith, e))
get_back (c ∷ cs) ds (suc i) j e = get_back cs ds i j (omega (arith, e))

extended : (at end n : ℕ) (cs ds : List HeldCell) → end ≡ at + length cs → cell_from at (cs ++ ds) n ≡ or_else (cell_from at cs n) (cell_from end ds n)
extended at end n cs ds e =
    elim (cases_lt n at) [
      | inl before ↦ early at n (cs ++ ds) before ∙ sym (early end n ds (omega (arith, e, before))) ∙ ap (λ (o : Option HeldCell). or_else o (cell_from end ds n)) (sym (early at n cs before))
      | inr ge ↦ elim (cases_lt n end) [
        | inl inside ↦
            at_place (cs ++ ds) ge ∙ get_front cs ds (n - at) (omega (arith, e, ge, inside)) ∙ sym (at_place cs ge)
            ∙ sym (or_some (cell_from at cs n) (cell_from end ds n) (inside_some at n cs ge (omega (arith, e, inside))))
        | inr beyond ↦
            at_place (cs ++ ds) ge ∙ get_back cs ds (n - at) (n - end) (omega (arith, e, beyond)) ∙ sym (rw (le-leb end n beyond) refl)
            ∙ ap (λ (o : Option HeldCell). or_else o (cell_from end ds n)) (sym (past at n cs (omega (arith, e, beyond))))
      ]
    ]
  where
    at_place : (zs : List HeldCell) → at ≤ n → cell_from at zs n ≡ slice_get zs (n - at)
    at_place zs le = rw (le-leb at n le) refl

pub stores_last : (k place : ℕ) (cs : List HeldCell) (rs ts xs : List CellRun) (p q : CellRun) → rs ≡ xs ++ p ∷ [] → ts ≡ xs ++ q ∷ [] → q ≡ record { at = p.at; cells = p.cells ++ cs }
    → place ≡ end_of_run p → StoresAt k place cs rs ts
stores_last k place cs rs ts xs p q e f g at ends from high h =
    let a = apart_last 0 high xs p (subst (AreApart 0 high) e h) in
    let top : p.at + length p.cells ≤ high = a.1 in
    let end : place ≡ p.at + length p.cells = at in
    let starts : q.at ≡ p.at = ap (λ (z : CellRun). z.at) g in
    let long : length q.cells ≡ length p.cells + length cs = ap (λ (z : CellRun). length z.cells) g ∙ length-append p.cells cs in (
      subst (AreApart 0 (max high (place + length cs))) (sym f)
          (append_apart 0 p.at (max high (place + length cs)) xs (q ∷ []) a.0 (omega (arith, starts), omega (arith, starts, long, end))),
      λ n.
          let one : cell_from q.at q.cells n ≡ or_else (cell_from p.at p.cells n) (cell_from place cs n) = ap (λ (z : CellRun). cell_from z.at z.cells n) g ∙ extended p.at place n p.cells cs at in
          ap (λ (z : List CellRun). run_cell z n) f ∙ run_append xs (q ∷ []) n
          ∙ ap (or_else (run_cell xs n)) (or_none (cell_from q.at q.cells n) ∙ one ∙ ap (λ (o : Option HeldCell). or_else o (cell_from place cs n)) (sym (or_none (cell_from p.at p.cells n))))
          ∙ sym (or_assoc (run_cell xs n) (run_cell (p ∷ []) n) (cell_from place cs n))
          ∙ ap (λ (o : Option HeldCell). or_else o (cell_from place cs n)) (sym (run_append xs (p ∷ []) n) ∙ ap (λ (z : List CellRun). run_cell z n) (sym e)),
    )

-- ---- without what is known

next_from : (low high n known count i : ℕ) (rs : List CellRun) → AreApart low high rs → HasAt (λ (q : CellRun). known ≡ min (end_of_run q - n) count) rs i
    → IfAt (λ (q : CellRun). n < q.at) rs (suc i) → IfAt (λ (q : CellRun). n + known ≤ q.at) rs (suc i)
next_from low high n known count i [] h at f = tt
next_from low high n known count zero (r ∷ []) h at f = tt
next_from low high n known count zero (r ∷ q ∷ rs) h at f =
    let next : r.at + length r.cells ≤ q.at = h.1.0 in
    let here : known ≡ min (r.at + length r.cells - n) count = at in
    let after : n < q.at = f in
    omega (arith, here, after, next)
next_from low high n known count (suc i) (r ∷ rs) h at f = next_from (end_of_run r) high n known count i rs h.1 at f

rest_from : (place known n : ℕ) (cs rest : List HeldCell) → rest ≡ drop known cs → place + known ≤ n → cell_from (place + known) rest n ≡ cell_from place cs n
rest_from place known n cs rest e le =
    rw (le-leb (place + known) n le, le-leb place n (omega (arith, le)))
    (ap (λ (z : List HeldCell). slice_get z (n - (place + known))) e ∙ get_drop known (n - (place + known)) (n - place) cs (omega (arith, le)))

pub stores_rest : (k place known next : ℕ) (cs rest : List HeldCell) (rs ts : List CellRun) → IsAfter place rs k → IsKnown place (length cs) rs k known → next ≡ place + known
    → rest ≡ drop known cs → StoresAt k next rest rs ts → StoresRun place cs rs ts
stores_rest k place known next cs rest rs ts s is at e stores high h =
    let long : length rest ≡ length cs - known = ap length e ∙ length-drop known cs in
    let few : known ≤ length cs = is.2 in
    let first = stores ends (from k s is) high h in
    let same : next + length rest ≡ place + length cs = omega (arith, at, long, few) in (
      subst (λ (n : ℕ). AreApart 0 (max high n) ts) same first.0,
      λ n.
          first.1 n
          ∙ elim (cases_lt n (place + known)) [
            | inl before ↦ elim (cases_lt n place) [
              | inl less ↦ ap (or_else (run_cell rs n)) (early next n rest (omega (arith, at, before)) ∙ sym (early place n cs less))
              | inr ge ↦
                  let has = known_there k s is n ge before in
                  or_some (run_cell rs n) (cell_from next rest n) has ∙ sym (or_some (run_cell rs n) (cell_from place cs n) has)
            ]
            | inr ge ↦ ap (or_else (run_cell rs n)) (ap (λ (i : ℕ). cell_from i rest n) at ∙ rest_from place known n cs rest e ge)
          ],
    )
  where
    ends : 0 < length rest → 0 < k → HasAt (λ (q : CellRun). end_of_run q ≤ next) rs (k - 1)
    ends some lt =
        has_map (λ (q : CellRun). known ≡ min (end_of_run q - place) (length cs)) (λ (q : CellRun). end_of_run q ≤ next) (k - 1) rs
        (λ q f.
        let here : known ≡ min (q.at + length q.cells - place) (length cs) = f in
        let long : length rest ≡ length cs - known = ap length e ∙ length-drop known cs in
        omega (arith, here, at, long, some)) (is.0 lt)

    from : (k : ℕ) → IsAfter place rs k → IsKnown place (length cs) rs k known → IfAt (λ (q : CellRun). next ≤ q.at) rs k
    from zero s is =
        let none = is.1 refl in
        if_map (λ (q : CellRun). place < q.at) (λ (q : CellRun). next ≤ q.at) 0 rs (λ q f. let after : place < q.at = f in omega (arith, after, at, none)) s.1
    from (suc i) s is =
        let one : suc i - 1 ≡ i = omega arith in
        let some : 0 < suc i = omega arith in
        if_map (λ (q : CellRun). place + known ≤ q.at) (λ (q : CellRun). next ≤ q.at) (suc i) rs (λ q f. let from : place + known ≤ q.at = f in omega (arith, from, at))
        (next_from 0 high place known (length cs) i rs h (subst (HasAt (λ (q : CellRun). known ≡ min (end_of_run q - place) (length cs)) rs) one (is.0 some)) s.1)

    known_there : (k : ℕ) → IsAfter place rs k → IsKnown place (length cs) rs k known → (n : ℕ) → place ≤ n → n < place + known → is_some (run_cell rs n) ≡ true
    known_there zero s is n ge lt = let none = is.1 refl in absurd (omega (arith, none, ge, lt))
    known_there (suc i) s is n ge lt =
        let some : 0 < suc i = omega arith in
        covered n (suc i - 1) rs
        (has_map (λ (q : CellRun). (q.at ≤ place) × (known ≡ min (end_of_run q - place) (length cs))) (λ (q : CellRun). (q.at ≤ n) × (n < end_of_run q)) (suc i - 1) rs
        (λ q f.
        let a : q.at ≤ place = f.0 in
        let b : known ≡ min (q.at + length q.cells - place) (length cs) = f.1 in
        (omega (arith, a, ge), omega (arith, b, ge, lt)))
        (has_both (λ (q : CellRun). q.at ≤ place) (λ (q : CellRun). known ≡ min (end_of_run q - place) (length cs)) (suc i - 1) rs (s.0 some) (is.0 some)))

-- ---- the list of runs

pub splice : (k count : ℕ) (rs : List CellRun) (r : CellRun) → k ≤ length rs
    → take (suc k) (take k rs ++ r ∷ drop k rs) ++ drop (suc (k + count)) (take k rs ++ r ∷ drop k rs) ≡ take k rs ++ r ∷ drop count (drop k rs)
splice zero count rs r le = let same : zero + count ≡ count = omega arith in ap (λ (n : ℕ). r ∷ drop n rs) same
splice (suc k) count [] r le = absurd (omega (arith, le))
splice (suc k) count (q ∷ rs) r le =
    let same : suc k + count ≡ suc (k + count) = omega arith in
    ap (λ (n : ℕ). q ∷ (take (suc k) (take k rs ++ r ∷ drop k rs) ++ drop n (take k rs ++ r ∷ drop k rs))) same
    ∙ ap (λ (z : List CellRun). q ∷ z) (splice k count rs r (omega (arith, le)))

pub removed : (index count k : ℕ) (rs ins ts : List CellRun) (r : CellRun) → k ≤ length rs → index ≡ k + 1 → ins ≡ take k rs ++ r ∷ drop k rs
    → ts ≡ take index ins ++ drop (index + count) ins → ts ≡ take k rs ++ r ∷ drop count (drop k rs)
removed index count k rs ins ts r le e f g =
    let one : index ≡ suc k = omega (arith, e) in
    let more : index + count ≡ suc (k + count) = omega (arith, e) in
    g ∙ ap (λ (z : List CellRun). take index z ++ drop (index + count) z) f
    ∙ ap (λ (n : ℕ). take n (take k rs ++ r ∷ drop k rs) ++ drop (index + count) (take k rs ++ r ∷ drop k rs)) one
    ∙ ap (λ (n : ℕ). take (suc k) (take k rs ++ r ∷ drop k rs) ++ drop n (take k rs ++ r ∷ drop k rs)) more ∙ splice k count rs r le
