-- The end of what has no gap.
use Rattle.std.proofs.Common.{◌≡◌, ◌<◌, ◌≤◌, ◌⊎◌, ◌-◌, ℕ, zero, suc, ◌+◌, ◌&&◌, max, cond, Bool, true, false, nat_le, List, [], ◌∷◌, ◌++◌, length, slice_get, Option, Some, None, is_some, refl, subst, arith, inl, inr}
use Rattle.std.proofs.lemmas.Bool.{le-leb, leb-true, cases_lt}
use Rattle.std.proofs.lemmas.Option.{slice_get_cases}
use Rattle.capture_tcp.specs.TcpStreams.{End, active, passive, same_end, Cell, Placed, or_else, cell_in, cell_at, run, bound, end_of}
use Rattle.capture_tcp.specs.Laws.{Span, Covers, IsOrdered, absorb, IsEnd, IsHeld}
use Rattle.capture_tcp.proofs.Absorbed.{alike, absorb_end, one_end}

in_cells : (cells : List Cell) (i : ℕ) → i < length cells → is_some (slice_get cells i) ≡ true
in_cells cells i lt =
    elim (slice_get_cases cells i).1 [
      | inl x ↦ rw x.2 refl
      | inr p ↦ absurd (omega (arith, p.0))
    ]

of_cells : (cells : List Cell) (i : ℕ) → is_some (slice_get cells i) ≡ true → i < length cells
of_cells cells i e =
    elim (slice_get_cases cells i).1 [
      | inl x ↦ x.1
      | inr p ↦ absurd (none (slice_get cells i) p.1 e)
    ]
  where
    none : (x : Option Cell) → x ≡ None → is_some x ≡ true → ⊥
    none None e h = absurd cc
    none (Some c) e h = absurd cc

pub in_span : (p : Placed) (d : End) (n : ℕ) → same_end p.from d ≡ true → p.place ≤ n → n < p.place + length p.cells → is_some (cell_in p d n) ≡ true
in_span p d n same le lt = rw (same, le-leb p.place n le) (in_cells p.cells (n - p.place) (omega arith))

pub guarded : (s t : Bool) (x : Option Cell) → is_some (cond (s && t) x None) ≡ true → (s ≡ true) × (t ≡ true) × (is_some x ≡ true)
guarded false t x e = absurd cc
guarded true false x e = absurd cc
guarded true true x e = (refl, refl, e)

pub of_span : (p : Placed) (d : End) (n : ℕ) → is_some (cell_in p d n) ≡ true → (p.place ≤ n) × (n < p.place + length p.cells)
of_span p d n e =
    let g = guarded (same_end p.from d) (nat_le p.place n) (slice_get p.cells (n - p.place)) e in
    let le = leb-true p.place n g.1 in
    let lt = of_cells p.cells (n - p.place) g.2 in
    (le, omega (arith, le, lt))

pub either : (x y : Option Cell) → is_some (or_else x y) ≡ true → (is_some x ≡ true) ⊎ (is_some y ≡ true)
either None y e = inr e
either (Some c) y e = inl refl

pub from_first : (x y : Option Cell) → is_some x ≡ true → is_some (or_else x y) ≡ true
from_first None y e = absurd cc
from_first (Some c) y e = refl

pub from_second : (x y : Option Cell) → is_some y ≡ true → is_some (or_else x y) ≡ true
from_second None y e = e
from_second (Some c) y e = refl

pub not_past : (ps : List Placed) (d : End) (n : ℕ) → IsHeld ps d n → n < bound ps
unfolding cell_at bound
not_past [] d n e = absurd cc
not_past (p ∷ ps) d n e =
    elim (either (cell_in p d n) (cell_at ps d n) e) [
      | inl first ↦ let s = of_span p d n first in omega (arith, s.1)
      | inr later ↦ let lt = not_past ps d n later in omega (arith, lt)
    ]

run_end : (k n : ℕ) (ps : List Placed) (d : End) → n + k ≡ bound ps → ((m : ℕ) → m < n → IsHeld ps d m) → IsEnd (IsHeld ps d) (run k ps d n)
unfolding run
run_end zero n ps d e before = (before, λ held. let lt = not_past ps d n held in omega (arith, e, lt))
run_end (suc k) n ps d e before = by_test (λ held. run_end k (n + 1) ps d (omega arith) (more held)) (is_some (cell_at ps d n)) refl
  where
    more : IsHeld ps d n → (m : ℕ) → m < n + 1 → IsHeld ps d m
    more held m lt =
        elim (cases_lt m n) [
          | inl less ↦ before m less
          | inr ge ↦ let same : n ≡ m = omega arith in subst (λ (m : ℕ). IsHeld ps d m) same held
        ]

    by_test : (IsHeld ps d n → IsEnd (IsHeld ps d) (run k ps d (n + 1))) → (b : Bool) → is_some (cell_at ps d n) ≡ b
        → IsEnd (IsHeld ps d) (cond b (run k ps d (n + 1)) n)
    by_test later true e = later e
    by_test later false e = (before, λ held. absurd cc)

pub end_is : (ps : List Placed) (d : End) → IsEnd (IsHeld ps d) (end_of ps d)
end_is ps d = run_end (bound ps) 0 ps d (omega arith) (λ m lt. absurd (omega (arith, lt)))

pub held_after : (before : List Placed) (p : Placed) (d : End) (n : ℕ) → IsHeld (before ++ (p ∷ [])) d n → IsHeld before d n ⊎ (is_some (cell_in p d n) ≡ true)
unfolding cell_at
held_after [] p d n e = elim (either (cell_in p d n) None e) [ inl x ↦ inr x | inr y ↦ absurd cc ]
held_after (q ∷ qs) p d n e =
    elim (either (cell_in q d n) (cell_at (qs ++ (p ∷ [])) d n) e) [
      | inl first ↦ inl (from_first (cell_in q d n) (cell_at qs d n) first)
      | inr later ↦ elim (held_after qs p d n later) [
        | inl x ↦ inl (from_second (cell_in q d n) (cell_at qs d n) x)
        | inr y ↦ inr y
      ]
    ]

held_before : (before : List Placed) (p : Placed) (d : End) (n : ℕ) → IsHeld before d n → IsHeld (before ++ (p ∷ [])) d n
unfolding cell_at
held_before [] p d n e = absurd cc
held_before (q ∷ qs) p d n e =
    elim (either (cell_in q d n) (cell_at qs d n) e) [
      | inl first ↦ from_first (cell_in q d n) (cell_at (qs ++ (p ∷ [])) d n) first
      | inr later ↦ from_second (cell_in q d n) (cell_at (qs ++ (p ∷ [])) d n) (held_before qs p d n later)
    ]

held_now : (before : List Placed) (p : Placed) (d : End) (n : ℕ) → is_some (cell_in p d n) ≡ true → IsHeld (before ++ (p ∷ [])) d n
unfolding cell_at
held_now [] p d n e = from_first (cell_in p d n) None e
held_now (q ∷ qs) p d n e = from_second (cell_in q d n) (cell_at (qs ++ (p ∷ [])) d n) (held_now qs p d n e)

pub same : (d : End) → same_end d d ≡ true
same active = refl
same passive = refl

pub can_continue : (before : List Placed) (p : Placed) (waiting : List Span) → IsOrdered waiting
    → ((n : ℕ) → end_of before p.from ≤ n → (IsHeld before p.from n → Covers waiting n) × (Covers waiting n → IsHeld before p.from n))
    → p.place ≤ end_of before p.from
    → end_of (before ++ (p ∷ [])) p.from ≡ absorb (max (end_of before p.from) (p.place + length p.cells)) waiting
can_continue before p waiting ordered waits there =
    let e = end_of before p.from in
    let d = p.from in
    let top = max e (p.place + length p.cells) in
    one_end top waiting (end_of (before ++ (p ∷ [])) d) (absorb top waiting)
    (alike (end_of (before ++ (p ∷ [])) d)
    (λ n h. elim (held_after before p d n h) [
      | inl x ↦ elim (cases_lt n e) [ inl lt ↦ inl (omega arith) | inr ge ↦ inr ((waits n ge).0 x) ]
      | inr y ↦ let s = of_span p d n y in inl (omega (arith, s.1))
    ])
    (λ n h. elim (cases_lt n e) [
      | inl lt ↦ held_before before p d n ((end_is before d).0 n lt)
      | inr ge ↦ elim h [
        | inl lt ↦ held_now before p d n (in_span p d n (same d) (omega (arith, there, ge)) (omega (arith, lt, ge)))
        | inr c ↦ held_before before p d n ((waits n ge).1 c)
      ]
    ])
    (end_is (before ++ (p ∷ [])) d))
    (absorb_end top waiting ordered)
