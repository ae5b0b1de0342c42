-- Messages that are cut off a longer stream, up to an offset that it has: they are the same.
use Rattle.std.proofs.Common.{◌≡◌, ◌<◌, ◌≤◌, inl, inr, ℕ, zero, suc, ◌+◌, Bool, true, false, cond, nat_lt, List, [], ◌∷◌, ◌++◌, length, take, drop, map, Option, Some, None, refl, sym, ap, subst, ◌∙◌, arith, length-append, length-drop}
use Rattle.std.proofs.lemmas.Bool.{lt-ltb, cases_lt}
use Rattle.std.proofs.lemmas.List.{append_assoc, take-append-le, drop-append-le}
use Rattle.capture_tcp.specs.TcpStreams.{End, active, passive, Cell, Placed, Delivery, Left, Cut, and_then, cut_by, cut_off, Shown, Both, left_of, with_left, delivered, show}
use Rattle.capture_tcp.specs.Laws.{IsSize}
use Rattle.capture_tcp.proofs.Lists.{Each, Begins}

abbrev pub end_left : Left → ℕ
end_left l = l.place + length l.cells

abbrev pub longer : Left → List Cell → Left
longer l more = record { place = l.place; cells = l.cells ++ more }

-- ---- the end of what is left stays

by_end : (o : Option ℕ) (upto : ℕ) (l : Left) (next : ℕ → Cut) → ((n : ℕ) → o ≡ Some n → n ≤ length l.cells)
    → ((n : ℕ) → end_left (next n).left ≡ l.place + n + length (drop n l.cells)) → end_left (cut_by upto l next o).left ≡ end_left l
by_end None upto l next fits h = refl
by_end (Some n) upto l next fits h = by_late (nat_lt upto (l.place + n))
  where
    by_late : (late : Bool) → end_left (cond late (record { messages = []; left = l }) (and_then (take n l.cells) (next n))).left ≡ end_left l
    by_late true = refl
    by_late false =
        let le = fits n refl in
        let dropped = length-drop n l.cells in
        let e = h n in
        omega (arith, le, dropped, e)

pub cut_end : (size : List Cell → Option ℕ) → IsSize size → (k upto : ℕ) (l : Left) → end_left (cut_off k size upto l).left ≡ end_left l
unfolding cut_off
cut_end size is zero upto l = refl
cut_end size is (suc k) upto l =
    by_end (size l.cells) upto l (λ n. cut_off k size upto (record { place = l.place + n; cells = drop n l.cells }))
    (λ n e. (is.there l.cells n e).1) (λ n. cut_end size is k upto (record { place = l.place + n; cells = drop n l.cells }))

-- ---- the same messages

abbrev pub SameCut : List Cell → Cut → Cut → Type 0
SameCut more c d = (d.messages ≡ c.messages) × (d.left ≡ longer c.left more)

stops : (upto : ℕ) (l : Left) (more : List Cell) (next : ℕ → Cut) (o : Option ℕ) → ((n : ℕ) → o ≡ Some n → length l.cells < n) → upto ≤ end_left l
    → SameCut more (record { messages = []; left = l }) (cut_by upto (longer l more) next o)
stops upto l more next None past within = (refl, refl)
stops upto l more next (Some n) past within =
    let lt = past n refl in
    rw (lt-ltb upto (l.place + n) (omega (arith, lt, within))) (refl, refl)

can_continue : (upto n : ℕ) (l : Left) (more : List Cell) (next further : ℕ → Cut) → n ≤ length l.cells → SameCut more (next n) (further n)
    → SameCut more (cut_by upto l next (Some n)) (cut_by upto (longer l more) further (Some n))
can_continue upto n l more next further fits h = by_late (nat_lt upto (l.place + n))
  where
    by_late : (late : Bool)
        → SameCut more (cond late (record { messages = []; left = l }) (and_then (take n l.cells) (next n)))
        (cond late (record { messages = []; left = longer l more }) (and_then (take n (l.cells ++ more)) (further n)))
    by_late true = (refl, refl)
    by_late false =
        (ap (λ (m : List Cell). m ∷ (further n).messages) (take-append-le n l.cells more fits) ∙ ap (λ (ms : List (List Cell)). take n l.cells ∷ ms) h.0, h.1)

none_or : (size : List Cell → Option ℕ) (cells more : List Cell) → IsSize size → size cells ≡ None → (n : ℕ) → size (cells ++ more) ≡ Some n → length cells < n
none_or size cells more is e n f =
    elim (cases_lt (length cells) n) [
      | inl lt ↦ lt
      | inr le ↦ let emitted = is.emitted cells more n f le in absurd cc
    ]

pub cut_more : (size : List Cell → Option ℕ) → IsSize size → (j k upto : ℕ) (l : Left) (more : List Cell) → length l.cells ≤ j → length (l.cells ++ more) ≤ k → upto ≤ end_left l
    → SameCut more (cut_off j size upto l) (cut_off k size upto (longer l more))
unfolding cut_off
cut_more size is zero zero upto l more short long within = (refl, refl)
cut_more size is zero (suc k) upto l more short long within =
    stops upto l more (λ n. cut_off k size upto (record { place = l.place + n; cells = drop n (l.cells ++ more) })) (size (l.cells ++ more))
    (λ n e. let there = is.there (l.cells ++ more) n e in omega (arith, short, there.0)) within
cut_more size is (suc j) zero upto l more short long within = by_size (size l.cells) refl
  where
    by_size : (o : Option ℕ) → size l.cells ≡ o
        → SameCut more (cut_by upto l (λ n. cut_off j size upto (record { place = l.place + n; cells = drop n l.cells })) o) (record { messages = []; left = longer l more })
    by_size None e = (refl, refl)
    by_size (Some n) e =
        let there = is.there l.cells n e in
        let whole = length-append l.cells more in
        absurd (omega (arith, there.0, there.1, long, whole))
cut_more size is (suc j) (suc k) upto l more short long within =
    by_size (size l.cells) refl
    (λ n le pos. cut_more size is j k upto (record { place = l.place + n; cells = drop n l.cells }) more
    (let dropped = length-drop n l.cells in omega (arith, dropped, short, pos))
    (let dropped = length-drop n l.cells in
    let rest = length-append (drop n l.cells) more in
    let whole = length-append l.cells more in
    omega (arith, dropped, rest, whole, long, pos, le))
    (let dropped = length-drop n l.cells in omega (arith, dropped, within, le)))
  where
    by_size : (o : Option ℕ) → size l.cells ≡ o
        → ((n : ℕ) → n ≤ length l.cells → 0 < n
        → SameCut more (cut_off j size upto (record { place = l.place + n; cells = drop n l.cells })) (cut_off k size upto (record { place = l.place + n; cells = drop n l.cells ++ more })))
        → SameCut more (cut_by upto l (λ n. cut_off j size upto (record { place = l.place + n; cells = drop n l.cells })) o)
        (cut_by upto (longer l more) (λ n. cut_off k size upto (record { place = l.place + n; cells = drop n (l.cells ++ more) })) (size (l.cells ++ more)))
    by_size None e later =
        stops upto l more (λ n. cut_off k size upto (record { place = l.place + n; cells = drop n (l.cells ++ more) })) (size (l.cells ++ more))
        (none_or size l.cells more is e) within
    by_size (Some n) e later =
        let there = is.there l.cells n e in
        let same : SameCut more (cut_off j size upto (record { place = l.place + n; cells = drop n l.cells })) (cut_off k size upto (record { place = l.place + n; cells = drop n (l.cells ++ more) })) =
        subst (λ (z : List Cell). SameCut more (cut_off j size upto (record { place = l.place + n; cells = drop n l.cells })) (cut_off k size upto (record { place = l.place + n; cells = z })))
        (sym (drop-append-le n l.cells more there.1)) (later n there.1 there.0) in
        subst (λ (o : Option ℕ). SameCut more (cut_by upto l (λ n. cut_off j size upto (record { place = l.place + n; cells = drop n l.cells })) (Some n))
        (cut_by upto (longer l more) (λ n. cut_off k size upto (record { place = l.place + n; cells = drop n (l.cells ++ more) })) o))
        (sym (is.stays l.cells more n e))
        (can_continue upto n l more (λ n. cut_off j size upto (record { place = l.place + n; cells = drop n l.cells }))
        (λ n. cut_off k size upto (record { place = l.place + n; cells = drop n (l.cells ++ more) })) there.1 same)

-- ---- what is shown of both streams

abbrev pub both_longer : (End → List Cell) → Both → Both
both_longer more b = record { active = longer b.active (more active); passive = longer b.passive (more passive) }

left_longer : (more : End → List Cell) (b : Both) (d : End) → left_of (both_longer more b) d ≡ longer (left_of b d) (more d)
left_longer more b active = refl
left_longer more b passive = refl

with_longer : (more : End → List Cell) (b : Both) (d : End) (l : Left) → with_left (both_longer more b) d (longer l (more d)) ≡ both_longer more (with_left b d l)
with_longer more b active l = refl
with_longer more b passive l = refl

pub with_ends : (last : End → ℕ) (b : Both) (o : End) (l : Left) → end_left l ≡ last o → ((d : End) → end_left (left_of b d) ≡ last d) → (d : End)
    → end_left (left_of (with_left b o l) d) ≡ last d
with_ends last b active l e h active = e
with_ends last b active l e h passive = h passive
with_ends last b passive l e h active = h active
with_ends last b passive l e h passive = e

abbrev shown : End → Placed → List Cell → Shown
shown o at m = record { of = o; cells = m; at = at }

show_step : (size : List Cell → Option ℕ) (more : End → List Cell) (o : End) (at : Placed) (b : Both) (c d : Cut) (ds es : List Delivery) → SameCut (more o) c d
    → Begins Shown (show size (with_left b o c.left) ds) (show size (both_longer more (with_left b o c.left)) (ds ++ es))
    → Begins Shown (map (shown o at) c.messages ++ show size (with_left b o c.left) ds)
    (map (shown o at) d.messages ++ show size (with_left (both_longer more b) o d.left) (ds ++ es))
show_step size more o at b c d ds es same h =
    let left : show size (with_left (both_longer more b) o d.left) (ds ++ es) ≡ show size (both_longer more (with_left b o c.left)) (ds ++ es) =
    ap (λ (l : Left). show size (with_left (both_longer more b) o l) (ds ++ es)) same.1 ∙ ap (λ (z : Both). show size z (ds ++ es)) (with_longer more b o c.left) in (
      h.0,
      ap (λ (ms : List (List Cell)). map (shown o at) ms ++ show size (with_left (both_longer more b) o d.left) (ds ++ es)) same.0
          ∙ ap (λ (z : List Shown). map (shown o at) c.messages ++ z) (left ∙ h.1)
          ∙ sym (append_assoc (map (shown o at) c.messages) (show size (with_left b o c.left) ds) h.0),
    )

-- What is delivered within the streams shows the same of longer ones.
pub show_more : (size : List Cell → Option ℕ) → IsSize size → (more : End → List Cell) (last : End → ℕ) (b : Both) (ds es : List Delivery)
    → ((d : End) → end_left (left_of b d) ≡ last d) → Each (λ (x : Delivery). x.upto ≤ last x.of) ds
    → Begins Shown (show size b ds) (show size (both_longer more b) (ds ++ es))
unfolding show
show_more size is more last b [] es ends h = (show size (both_longer more b) es, refl)
show_more size is more last b (x ∷ ds) es ends h =
    let l = left_of b x.of in
    let c = delivered size b x in
    let here = ends x.of in
    let cut = cut_more size is (length l.cells) (length (l.cells ++ more x.of)) x.upto l (more x.of) (omega arith) (omega arith) (omega (arith, here, h.0)) in
    let same : SameCut (more x.of) c (delivered size (both_longer more b) x) =
    subst (λ (m : Left). SameCut (more x.of) c (cut_off (length m.cells) size x.upto m)) (sym (left_longer more b x.of)) cut in
    show_step size more x.of x.at b c (delivered size (both_longer more b) x) ds es same
    (show_more size is more last (with_left b x.of c.left) ds es
    (with_ends last b x.of c.left (cut_end size is (length l.cells) x.upto l ∙ here) ends) h.1)
