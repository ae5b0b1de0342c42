-- Of a complete connection each complete message of a stream is shown: its packets are all delivered, so all that its
-- streams hold is delivered.
use Rattle.std.proofs.Common.{◌≡◌, ◌<◌, ◌≤◌, ◌⊎◌, inl, inr, ◌+◌, ◌-◌, ◌&&◌, ◌||◌, ℕ, zero, suc, Bool, true, false, cond, nat_lt, nat_le, List, [], ◌∷◌, ◌++◌, length, take, drop, map, filter, flat_map, slice_get, Option, Some, None, is_some, refl, sym, ap, subst, ◌∙◌, arith, length-drop}
use Rattle.std.proofs.lemmas.Bool.{le-leb, lt-ltb, le-ltb, ltb-false, cases_lt}
use Rattle.std.proofs.lemmas.List.{append_assoc, append-nil, take-append-drop}
use Rattle.std.specs.List.{list_any}
use Rattle.capture_tcp.specs.TcpStreams.{End, active, passive, same_end, Cell, Placed, cell_in, cell_at, bound, end_of, cells_up_to, stream_of, insert_by_place, in_order, Turn, turns_at, turns, is_beyond, is_past, loss, breaks_off, is_before, is_open, up_to_reset, emitted_turns, Delivery, deliveries, Left, Cut, and_then, cut_by, cut_off, Shown, Both, left_of, with_left, both_streams, show, shows_of}
use Rattle.capture_tcp.specs.Laws.{IsHeld, IsSize, IsWhole, messages_shown, front_and, messages_by, messages_in}
use Rattle.capture_tcp.proofs.CutOff.{end_left, cut_end}
use Rattle.capture_tcp.proofs.Ends.{end_is, either, guarded, not_past, of_span, same}
use Rattle.capture_tcp.proofs.StreamPrefixes.{streams_end}
use Rattle.capture_tcp.proofs.Lists.{Each, weaken, each_append, each_filter, each_map, Begins, begins_append, begins_cons}
use Rattle.capture_tcp.proofs.Numbered.{neither, not_gap_more}
use Rattle.capture_tcp.proofs.Queue.{end_stays, of_other, takes}
use Rattle.capture_tcp.proofs.DeliveredPackets.{turn_of, frees, order_each, same_from}

-- ---- one of a list

abbrev OneOf : {A : Type 0} → (A → Type 0) → List A → Type 0
OneOf P [] = ⊥
OneOf P (x ∷ xs) = P x ⊎ OneOf P xs

one_weaker : {A : Type 0} (P Q : A → Type 0) (xs : List A) → ((x : A) → P x → Q x) → OneOf P xs → OneOf Q xs
one_weaker P Q [] f h = absurd h
one_weaker P Q (x ∷ xs) f (inl h) = inl (f x h)
one_weaker P Q (x ∷ xs) f (inr h) = inr (one_weaker P Q xs f h)

of_one : {A : Type 0} (X : Type 0) (P : A → Type 0) (xs : List A) → ((x : A) → P x → X) → OneOf P xs → X
of_one X P [] f h = absurd h
of_one X P (x ∷ xs) f (inl h) = f x h
of_one X P (x ∷ xs) f (inr h) = of_one X P xs f h

one_or_other : {A : Type 0} (P Q R : A → Type 0) (xs : List A) → ((x : A) → P x → Q x ⊎ R x) → OneOf P xs → OneOf Q xs ⊎ OneOf R xs
one_or_other P Q R [] f h = absurd h
one_or_other P Q R (x ∷ xs) f (inl h) = elim (f x h) [ inl q ↦ inl (inl q) | inr r ↦ inr (inl r) ]
one_or_other P Q R (x ∷ xs) f (inr h) = elim (one_or_other P Q R xs f h) [ inl q ↦ inl (inr q) | inr r ↦ inr (inr r) ]

one_in_front : {A : Type 0} (P : A → Type 0) (xs ys : List A) → OneOf P xs → OneOf P (xs ++ ys)
one_in_front P [] ys h = absurd h
one_in_front P (x ∷ xs) ys (inl h) = inl h
one_in_front P (x ∷ xs) ys (inr h) = inr (one_in_front P xs ys h)

one_after : {A : Type 0} (P : A → Type 0) (xs ys : List A) → OneOf P ys → OneOf P (xs ++ ys)
one_after P [] ys h = h
one_after P (x ∷ xs) ys h = inr (one_after P xs ys h)

one_of_each : {A : Type 0} (P Q : A → Type 0) (xs : List A) → OneOf P xs → Each Q xs → OneOf (λ x. P x × Q x) xs
one_of_each P Q [] h g = absurd h
one_of_each P Q (x ∷ xs) (inl h) g = inl (h, g.0)
one_of_each P Q (x ∷ xs) (inr h) g = inr (one_of_each P Q xs h g.1)

one_filter : {A : Type 0} (P : A → Type 0) (f : A → Bool) (xs : List A) → OneOf (λ x. P x × (f x ≡ true)) xs → OneOf P (filter f xs)
one_filter P f [] h = absurd h
one_filter P f (x ∷ xs) h = by_test (f x) refl h (one_filter P f xs)
  where
    by_test : (b : Bool) → f x ≡ b → (P x × (f x ≡ true)) ⊎ OneOf (λ y. P y × (f y ≡ true)) xs → (OneOf (λ y. P y × (f y ≡ true)) xs → OneOf P (filter f xs))
        → OneOf P (cond b (x ∷ filter f xs) (filter f xs))
    by_test true e (inl g) later = inl g.0
    by_test true e (inr g) later = inr (later g)
    by_test false e (inl g) later = let passes = g.1 in absurd cc
    by_test false e (inr g) later = later g

one_map : {A B : Type 0} (P : B → Type 0) (f : A → B) (xs : List A) → OneOf (λ x. P (f x)) xs → OneOf P (map f xs)
one_map P f [] h = absurd h
one_map P f (x ∷ xs) (inl h) = inl h
one_map P f (x ∷ xs) (inr h) = inr (one_map P f xs h)

one_insert : (P : Placed → Type 0) (p : Placed) (qs : List Placed) → P p ⊎ OneOf P qs → OneOf P (insert_by_place p qs)
one_insert P p [] h = h
one_insert P p (q ∷ qs) h = by_test (nat_le p.place q.place) h (one_insert P p qs)
  where
    by_test : (b : Bool) → P p ⊎ (P q ⊎ OneOf P qs) → (P p ⊎ OneOf P qs → OneOf P (insert_by_place p qs)) → OneOf P (cond b (p ∷ q ∷ qs) (q ∷ insert_by_place p qs))
    by_test true h later = h
    by_test false (inl g) later = inr (later (inl g))
    by_test false (inr (inl g)) later = inl g
    by_test false (inr (inr g)) later = inr (later (inr g))

one_order : (P : Placed → Type 0) (ps : List Placed) → OneOf P ps → OneOf P (in_order ps)
one_order P [] h = absurd h
one_order P (p ∷ ps) (inl h) = one_insert P p (in_order ps) (inl h)
one_order P (p ∷ ps) (inr h) = one_insert P p (in_order ps) (inr (one_order P ps h))

-- ---- each packet is delivered, if no gap is left

all_three : (a b c : Bool) → a ≡ true → b ≡ true → c ≡ true → (a && b && c) ≡ true
all_three false b c e f g = absurd cc
all_three true false c e f g = absurd cc
all_three true true c e f g = g

abbrev InTurn : List Placed → Placed → Type 0
InTurn before p = nat_lt (end_of before p.from) p.place ≡ false

-- A waiting packet is delivered at the packet that moves the end to its offset.
freed_now : (before : List Placed) (p q : Placed) → end_of before q.from < q.place → q.place ≤ end_of (before ++ (p ∷ [])) q.from → (frees before p q ≡ true) × InTurn before p
freed_now before p q lt le = by_own (same_end p.from q.from) refl
  where
    by_own : (b : Bool) → same_end p.from q.from ≡ b → (frees before p q ≡ true) × InTurn before p
    by_own false e =
        let stays = end_stays before p q.from (of_other p q.from (end_of before q.from) e) in
        absurd (omega (arith, lt, le, stays))
    by_own true e =
        let own : q.from ≡ p.from = sym (same_from p.from q.from e) in
        let waits : end_of before p.from < q.place = subst (λ (d : End). end_of before d < q.place) own lt in
        let there : q.place ≤ end_of (before ++ (p ∷ [])) p.from = subst (λ (d : End). q.place ≤ end_of (before ++ (p ∷ [])) d) own le in
        elim (cases_lt (end_of before p.from) p.place) [
          | inl gap ↦ let stays = (takes before p gap).1 in absurd (omega (arith, waits, there, stays))
          | inr here ↦ (
            all_three (same_end q.from p.from) (nat_lt (end_of before p.from) q.place) (nat_le q.place (end_of (before ++ (p ∷ [])) p.from))
                (subst (λ (d : End). same_end q.from d ≡ true) own (same q.from)) (lt-ltb (end_of before p.from) q.place waits) (le-leb q.place (end_of (before ++ (p ∷ [])) p.from) there),
            le-ltb (end_of before p.from) p.place here,
          )
        ]

abbrev OwnTurn : (Placed → Type 0) → List Turn → Type 0
OwnTurn P ts = OneOf (λ (t : Turn). P t.own) ts

own_turn : (P : Placed → Type 0) (before : List Placed) (p : Placed) → P p → InTurn before p → OwnTurn P (turns_at before p)
own_turn P before p h e = rw e (inl h)

freed_turn : (P : Placed → Type 0) (before : List Placed) (p : Placed) → OneOf (λ (q : Placed). P q × (frees before p q ≡ true)) before → InTurn before p → OwnTurn P (turns_at before p)
freed_turn P before p h e =
    let freed = filter (frees before p) before in
    rw e (inr (one_map (λ (t : Turn). P t.own) (turn_of p) (in_order freed) (one_order P freed (one_filter P (frees before p) before h))))

abbrev Waits : (Placed → Type 0) → List Placed → Placed → Type 0
Waits P before q = P q × (end_of before q.from < q.place)

abbrev Freed : (Placed → Type 0) → List Placed → Placed → Placed → Type 0
Freed P before p q = (P q × (frees before p q ≡ true)) × InTurn before p

waits_or_freed : (P : Placed → Type 0) (before : List Placed) (p q : Placed) → Waits P before q → Waits P (before ++ (p ∷ [])) q ⊎ Freed P before p q
waits_or_freed P before p q h =
    elim (cases_lt (end_of (before ++ (p ∷ [])) q.from) q.place) [
      | inl lt ↦ inl (h.0, lt)
      | inr le ↦ let now = freed_now before p q h.1 le in inr ((h.0, now.0), now.1)
    ]

has_turn : (P : Placed → Type 0) (before ps : List Placed) → ((q : Placed) → P q → q.place ≤ end_of (before ++ ps) q.from)
    → OneOf (Waits P before) before ⊎ OneOf P ps → OwnTurn P (turns before ps)
unfolding turns
has_turn P before [] within (inl h) =
    absurd (of_one ⊥ (Waits P before) before
    (λ q g.
    let waits = g.1 in
    let there : q.place ≤ end_of before q.from = subst (λ (z : List Placed). q.place ≤ end_of z q.from) (append-nil before) (within q g.0) in
    omega (arith, waits, there)) h)
has_turn P before [] within (inr h) = absurd h
has_turn P before (p ∷ ps) within h =
    by_place
    (has_turn P (before ++ (p ∷ [])) ps (λ q g. subst (λ (z : List Placed). q.place ≤ end_of z q.from) (sym (append_assoc before (p ∷ []) ps)) (within q g))) h
  where
    by_freed : (OneOf (Waits P (before ++ (p ∷ []))) (before ++ (p ∷ [])) ⊎ OneOf P ps → OwnTurn P (turns (before ++ (p ∷ [])) ps))
        → OneOf (Waits P (before ++ (p ∷ []))) before ⊎ OneOf (Freed P before p) before → OwnTurn P (turns_at before p ++ turns (before ++ (p ∷ [])) ps)
    by_freed later (inl still) =
        one_after (λ (t : Turn). P t.own) (turns_at before p) (turns (before ++ (p ∷ [])) ps) (later (inl (one_in_front (Waits P (before ++ (p ∷ []))) before (p ∷ []) still)))
    by_freed later (inr freed) =
        one_in_front (λ (t : Turn). P t.own) (turns_at before p) (turns (before ++ (p ∷ [])) ps)
        (freed_turn P before p (one_weaker (Freed P before p) (λ (q : Placed). P q × (frees before p q ≡ true)) before (λ q g. g.0) freed)
        (of_one (InTurn before p) (Freed P before p) before (λ q g. g.1) freed))

    by_place : (OneOf (Waits P (before ++ (p ∷ []))) (before ++ (p ∷ [])) ⊎ OneOf P ps → OwnTurn P (turns (before ++ (p ∷ [])) ps))
        → OneOf (Waits P before) before ⊎ (P p ⊎ OneOf P ps) → OwnTurn P (turns_at before p ++ turns (before ++ (p ∷ [])) ps)
    by_place later (inl waiting) =
        by_freed later (one_or_other (Waits P before) (Waits P (before ++ (p ∷ []))) (Freed P before p) before (waits_or_freed P before p) waiting)
    by_place later (inr (inl g)) =
        elim (cases_lt (end_of before p.from) p.place) [
          | inl gap ↦
              let stays = (takes before p gap).1 in
              one_after (λ (t : Turn). P t.own) (turns_at before p) (turns (before ++ (p ∷ [])) ps)
              (later (inl (one_after (Waits P (before ++ (p ∷ []))) before (p ∷ []) (inl (g, omega (arith, gap, stays))))))
          | inr here ↦
              one_in_front (λ (t : Turn). P t.own) (turns_at before p) (turns (before ++ (p ∷ [])) ps) (own_turn P before p g (le-ltb (end_of before p.from) p.place here))
        ]
    by_place later (inr (inr g)) = one_after (λ (t : Turn). P t.own) (turns_at before p) (turns (before ++ (p ∷ [])) ps) (later (inr g))

-- If nothing is lost, no packet stays out of order.
no_gap_left : (before ps : List Placed) → loss before ps ≡ None → Each (λ (q : Placed). q.place ≤ end_of (before ++ ps) q.from) ps
unfolding loss
no_gap_left before [] e = tt
no_gap_left before (p ∷ ps) e = by_test (is_beyond (before ++ (p ∷ take 4096 ps)) p) refl e (no_gap_left (before ++ (p ∷ [])) ps)
  where
    longer : Begins Placed (before ++ (p ∷ take 4096 ps)) (before ++ (p ∷ ps))
    longer =
        begins_append before (p ∷ take 4096 ps) (p ∷ ps) (begins_cons p (take 4096 ps) ps (drop 4096 ps, sym (take-append-drop 4096 ps)))

    by_test : (b : Bool) → is_beyond (before ++ (p ∷ take 4096 ps)) p ≡ b → cond b (Some p.packet) (loss (before ++ (p ∷ [])) ps) ≡ None
        → (loss (before ++ (p ∷ [])) ps ≡ None → Each (λ (q : Placed). q.place ≤ end_of ((before ++ (p ∷ [])) ++ ps) q.from) ps)
        → Each (λ (q : Placed). q.place ≤ end_of (before ++ (p ∷ ps)) q.from) (p ∷ ps)
    by_test true f e later = absurd cc
    by_test false f e later =
        let g = neither (is_past (before ++ (p ∷ take 4096 ps)) p) (nat_lt (end_of (before ++ (p ∷ take 4096 ps)) p.from) p.place) f in (
          ltb-false (end_of (before ++ (p ∷ ps)) p.from) p.place (not_gap_more (before ++ (p ∷ take 4096 ps)) (before ++ (p ∷ ps)) p longer g.1),
          weaken (λ (q : Placed). q.place ≤ end_of ((before ++ (p ∷ [])) ++ ps) q.from) (λ (q : Placed). q.place ≤ end_of (before ++ (p ∷ ps)) q.from) ps
              (λ q le. subst (λ (z : List Placed). q.place ≤ end_of z q.from) (append_assoc before (p ∷ []) ps) le) (later e),
        )

-- ---- all deliveries are emitted

at_own : (Q : Placed → Type 0) (before : List Placed) (p : Placed) → Each Q before → Q p → Each (λ (t : Turn). Q t.own) (turns_at before p)
at_own Q before p g h = by_gap (nat_lt (end_of before p.from) p.place)
  where
    by_gap : (b : Bool) → Each (λ (t : Turn). Q t.own) (cond b [] (turn_of p p ∷ map (turn_of p) (in_order (filter (frees before p) before))))
    by_gap true = tt
    by_gap false =
        let freed = filter (frees before p) before in (
          h,
          each_map (λ (t : Turn). Q t.own) (turn_of p) (in_order freed)
              (order_each Q freed (weaken (λ (q : Placed). Q q × (frees before p q ≡ true)) Q freed (λ q f. f.0) (each_filter Q (frees before p) before g))),
        )

turns_own : (Q : Placed → Type 0) (before ps : List Placed) → Each Q before → Each Q ps → Each (λ (t : Turn). Q t.own) (turns before ps)
unfolding turns
turns_own Q before [] g h = tt
turns_own Q before (p ∷ ps) g h =
    each_append (λ (t : Turn). Q t.own) (turns_at before p) (turns (before ++ (p ∷ [])) ps) (at_own Q before p g h.0)
    (turns_own Q (before ++ (p ∷ [])) ps (each_append Q before (p ∷ []) g (h.0, tt)) h.1)

none_resets : (ps : List Placed) → list_any (λ (p : Placed). p.reset) ps ≡ false → Each (λ (p : Placed). p.reset ≡ false) ps
none_resets [] e = tt
none_resets (p ∷ ps) e = let f = neither p.reset (list_any (λ (q : Placed). q.reset) ps) e in (f.0, none_resets ps f.1)

without_reset : (opened : Bool) (ts : List Turn) → Each (λ (t : Turn). t.own.reset ≡ false) ts → up_to_reset opened ts ≡ ts
without_reset opened [] h = refl
without_reset opened (t ∷ ts) h = by_reset t.own.reset h.0 (without_reset (opened || is_open t) ts h.1)
  where
    by_reset : (reset : Bool) → reset ≡ false → up_to_reset (opened || is_open t) ts ≡ ts
        → cond (reset && (opened || is_open t)) (t ∷ []) (t ∷ up_to_reset (opened || is_open t) ts) ≡ t ∷ ts
    by_reset true e later = absurd cc
    by_reset false e later = ap (λ (z : List Turn). t ∷ z) later

all_before : (ts : List Turn) → filter (is_before None) ts ≡ ts
all_before [] = refl
all_before (t ∷ ts) = ap (λ (z : List Turn). t ∷ z) (all_before ts)

all_recorded : (ps : List Placed) → IsWhole ps → emitted_turns ps ≡ turns [] ps
all_recorded ps whole =
    let off : breaks_off ps ≡ None = rw (whole.nothing_lost, whole.none_differs) refl in
    let before : filter (is_before (breaks_off ps)) (turns [] ps) ≡ turns [] ps =
    ap (λ (o : Option ℕ). filter (is_before o) (turns [] ps)) off ∙ all_before (turns [] ps) in
    ap (up_to_reset false) before ∙ without_reset false (turns [] ps) (turns_own (λ (p : Placed). p.reset ≡ false) [] ps tt (none_resets ps whole.never_reset))

-- ---- so all that a stream holds is delivered

abbrev Reaches : End → ℕ → Delivery → Type 0
Reaches d end x = (same_end x.of d ≡ true) × (end ≤ x.upto)

abbrev own_delivery : Turn → Delivery
own_delivery t = record { of = t.own.from; upto = t.own.place + length t.own.cells; at = t.at }

of_own : (P : Delivery → Type 0) (at own : Placed) (a : Option ℕ) → P (own_delivery (turn_of at own)) → OneOf P (deliveries (turn_of at (record own { acknowledged = a })))
of_own P at own None h = inl h
of_own P at own (Some n) h = inr (inl h)

of_turns : (P : Delivery → Type 0) (ts : List Turn) → OneOf (λ (t : Turn). P (own_delivery t)) ts → OneOf P (flat_map deliveries ts)
of_turns P [] h = absurd h
of_turns P (t ∷ ts) (inl h) = one_in_front P (deliveries t) (flat_map deliveries ts) (of_own P t.at t.own t.own.acknowledged h)
of_turns P (t ∷ ts) (inr h) = one_after P (deliveries t) (flat_map deliveries ts) (of_turns P ts h)

brought : (ps : List Placed) (d : End) (n : ℕ) → IsHeld ps d n → OneOf (λ (p : Placed). is_some (cell_in p d n) ≡ true) ps
unfolding cell_at
brought [] d n e = absurd cc
brought (p ∷ ps) d n e =
    elim (either (cell_in p d n) (cell_at ps d n) e) [
      | inl first ↦ inl first
      | inr later ↦ inr (brought ps d n later)
    ]

abbrev Brings : List Placed → End → ℕ → Placed → Type 0
Brings ps d n p = (is_some (cell_in p d n) ≡ true) × (p.place ≤ end_of ps p.from)

reaches : (p at : Placed) (d : End) (n end : ℕ) → is_some (cell_in p d n) ≡ true → end ≡ suc n → Reaches d end (own_delivery (turn_of at p))
reaches p at d n end h e =
    let s = of_span p d n h in
    let lt = s.1 in
    let far : end ≤ p.place + length p.cells = omega (arith, e, lt) in
    ((guarded (same_end p.from d) (nat_le p.place n) (slice_get p.cells (n - p.place)) h).0, far)

end_delivered : (ps : List Placed) (d : End) (n : ℕ) → IsWhole ps → end_of ps d ≡ suc n → OneOf (Reaches d (end_of ps d)) (flat_map deliveries (emitted_turns ps))
end_delivered ps d n whole e =
    let held : IsHeld ps d n = (end_is ps d).0 n (omega (arith, e)) in
    let one : OneOf (Brings ps d n) ps =
    one_of_each (λ (p : Placed). is_some (cell_in p d n) ≡ true) (λ (p : Placed). p.place ≤ end_of ps p.from) ps (brought ps d n held) (no_gap_left [] ps whole.nothing_lost) in
    let turn : OwnTurn (Brings ps d n) (turns [] ps) = has_turn (Brings ps d n) [] ps (λ q g. g.1) (inr one) in
    subst (λ (ts : List Turn). OneOf (Reaches d (end_of ps d)) (flat_map deliveries ts)) (sym (all_recorded ps whole))
    (of_turns (Reaches d (end_of ps d)) (turns [] ps)
    (one_weaker (λ (t : Turn). Brings ps d n t.own) (λ (t : Turn). Reaches d (end_of ps d) (own_delivery t)) (turns [] ps) (λ t g. reaches t.own t.at d n (end_of ps d) g.0 e) turn))

-- ---- messages that are cut in parts are those that are cut at once

size_none : (size : List Cell → Option ℕ) → IsSize size → (k : ℕ) (cells : List Cell) → length cells ≤ 0 → messages_by k size cells ≡ []
unfolding messages_by
size_none size is zero cells le = refl
size_none size is (suc k) cells le = by_size (size cells) refl
  where
    by_size : (o : Option ℕ) → size cells ≡ o → front_and cells (λ n. messages_by k size (drop n cells)) o ≡ []
    by_size None e = refl
    by_size (Some n) e = let there = is.there cells n e in absurd (omega (arith, there.0, there.1, le))

any_count : (size : List Cell → Option ℕ) → IsSize size → (j k : ℕ) (cells : List Cell) → length cells ≤ j → length cells ≤ k → messages_by j size cells ≡ messages_by k size cells
unfolding messages_by
any_count size is zero k cells le ge = sym (size_none size is k cells le)
any_count size is (suc j) zero cells le ge = size_none size is (suc j) cells ge
any_count size is (suc j) (suc k) cells le ge = by_size (size cells) refl (λ n. any_count size is j k (drop n cells))
  where
    by_size : (o : Option ℕ) → size cells ≡ o
        → ((n : ℕ) → length (drop n cells) ≤ j → length (drop n cells) ≤ k → messages_by j size (drop n cells) ≡ messages_by k size (drop n cells))
        → front_and cells (λ n. messages_by j size (drop n cells)) o ≡ front_and cells (λ n. messages_by k size (drop n cells)) o
    by_size None e later = refl
    by_size (Some n) e later =
        let there = is.there cells n e in
        let dropped = length-drop n cells in
        ap (λ (z : List (List Cell)). take n cells ∷ z) (later n (omega (arith, there.0, dropped, le)) (omega (arith, there.0, dropped, ge)))

no_message : (size : List Cell → Option ℕ) (cells : List Cell) → size cells ≡ None → messages_in size cells ≡ []
unfolding messages_by
no_message size cells e = by_count (length cells)
  where
    by_count : (k : ℕ) → messages_by k size cells ≡ []
    by_count zero = refl
    by_count (suc k) = rw e refl

first_message : (size : List Cell → Option ℕ) → IsSize size → (cells : List Cell) (n : ℕ) → size cells ≡ Some n → messages_in size cells ≡ take n cells ∷ messages_in size (drop n cells)
unfolding messages_by
first_message size is cells n e = by_count (length cells) refl
  where
    by_count : (k : ℕ) → length cells ≡ k → messages_by k size cells ≡ take n cells ∷ messages_in size (drop n cells)
    by_count zero len = let there = is.there cells n e in absurd (omega (arith, there.0, there.1, len))
    by_count (suc k) len =
        let there = is.there cells n e in
        let dropped = length-drop n cells in
        rw e (ap (λ (z : List (List Cell)). take n cells ∷ z) (any_count size is k (length (drop n cells)) (drop n cells) (omega (arith, there.0, dropped, len)) (omega arith)))

cut_in_parts : (size : List Cell → Option ℕ) → IsSize size → (k upto : ℕ) (l : Left)
    → messages_in size l.cells ≡ (cut_off k size upto l).messages ++ messages_in size (cut_off k size upto l).left.cells
unfolding cut_off
cut_in_parts size is zero upto l = refl
cut_in_parts size is (suc k) upto l = by_size (size l.cells) refl (λ n. cut_in_parts size is k upto (record { place = l.place + n; cells = drop n l.cells }))
  where
    by_size : (o : Option ℕ) → size l.cells ≡ o
        → ((n : ℕ) → messages_in size (drop n l.cells) ≡ (cut_off k size upto (record { place = l.place + n; cells = drop n l.cells })).messages
        ++ messages_in size (cut_off k size upto (record { place = l.place + n; cells = drop n l.cells })).left.cells)
        → messages_in size l.cells ≡ (cut_by upto l (λ n. cut_off k size upto (record { place = l.place + n; cells = drop n l.cells })) o).messages
        ++ messages_in size (cut_by upto l (λ n. cut_off k size upto (record { place = l.place + n; cells = drop n l.cells })) o).left.cells
    by_size None e later = refl
    by_size (Some n) e later = by_late (nat_lt upto (l.place + n)) (first_message size is l.cells n e ∙ ap (λ (z : List (List Cell)). take n l.cells ∷ z) (later n))
      where
        by_late : (late : Bool)
            → messages_in size l.cells ≡ take n l.cells ∷ ((cut_off k size upto (record { place = l.place + n; cells = drop n l.cells })).messages
            ++ messages_in size (cut_off k size upto (record { place = l.place + n; cells = drop n l.cells })).left.cells)
            → messages_in size l.cells
            ≡ (cond late (record { messages = []; left = l }) (and_then (take n l.cells) (cut_off k size upto (record { place = l.place + n; cells = drop n l.cells })))).messages
            ++ messages_in size (cond late (record { messages = []; left = l }) (and_then (take n l.cells) (cut_off k size upto (record { place = l.place + n; cells = drop n l.cells })))).left.cells
        by_late true parts = refl
        by_late false parts = parts

-- Up to the end no complete message is left.
none_left : (size : List Cell → Option ℕ) → IsSize size → (k upto : ℕ) (l : Left) → length l.cells ≤ k → end_left l ≤ upto
    → messages_in size (cut_off k size upto l).left.cells ≡ []
unfolding cut_off
none_left size is zero upto l short within = size_none size is (length l.cells) l.cells short
none_left size is (suc k) upto l short within = by_size (size l.cells) refl (λ n. none_left size is k upto (record { place = l.place + n; cells = drop n l.cells }))
  where
    by_size : (o : Option ℕ) → size l.cells ≡ o
        → ((n : ℕ) → length (drop n l.cells) ≤ k → l.place + n + length (drop n l.cells) ≤ upto
        → messages_in size (cut_off k size upto (record { place = l.place + n; cells = drop n l.cells })).left.cells ≡ [])
        → messages_in size (cut_by upto l (λ n. cut_off k size upto (record { place = l.place + n; cells = drop n l.cells })) o).left.cells ≡ []
    by_size None e later = no_message size l.cells e
    by_size (Some n) e later =
        let there = is.there l.cells n e in
        let dropped = length-drop n l.cells in
        rw (le-ltb upto (l.place + n) (omega (arith, there.1, within)))
        (later n (omega (arith, there.0, dropped, short)) (omega (arith, there.1, dropped, within)))

-- ---- all deliveries of a stream cut all of its messages

shown_same : (o d : End) (at : Placed) (ms : List (List Cell)) (ss : List Shown) → same_end o d ≡ true
    → messages_shown d (map (λ m. record { of = o; cells = m; at = at }) ms ++ ss) ≡ ms ++ messages_shown d ss
shown_same o d at [] ss e = refl
shown_same o d at (m ∷ ms) ss e = rw e (ap (λ (z : List (List Cell)). m ∷ z) (shown_same o d at ms ss e))

shown_other : (o d : End) (at : Placed) (ms : List (List Cell)) (ss : List Shown) → same_end o d ≡ false
    → messages_shown d (map (λ m. record { of = o; cells = m; at = at }) ms ++ ss) ≡ messages_shown d ss
shown_other o d at [] ss e = refl
shown_other o d at (m ∷ ms) ss e = rw e (shown_other o d at ms ss e)

nothing_after : (ms ns : List (List Cell)) → ms ++ ns ≡ [] → ns ≡ []
nothing_after [] ns e = e
nothing_after (m ∷ ms) ns e = absurd cc

-- No message is left, or all that is present is still to be delivered.
abbrev IsDue : (List Cell → Option ℕ) → End → Left → List Delivery → Type 0
IsDue size d l ds = (messages_in size l.cells ≡ []) ⊎ OneOf (Reaches d (end_left l)) ds

abbrev ShowsAll : (List Cell → Option ℕ) → End → Left → List Delivery → List Shown → Type 0
ShowsAll size d l ds ss = IsDue size d l ds → messages_shown d ss ≡ messages_in size l.cells

same_step : (size : List Cell → Option ℕ) (o : End) (l : Left) (c : Cut) (upto : ℕ) (at : Placed) (ds : List Delivery) (ss : List Shown) → same_end o o ≡ true
    → messages_in size l.cells ≡ c.messages ++ messages_in size c.left.cells → (end_left l ≤ upto → messages_in size c.left.cells ≡ []) → end_left c.left ≡ end_left l
    → ShowsAll size o c.left ds ss → ShowsAll size o l (record { of = o; upto = upto; at = at } ∷ ds) (map (λ m. record { of = o; cells = m; at = at }) c.messages ++ ss)
same_step size o l c upto at ds ss same parts done ends later due =
    shown_same o o at c.messages ss same ∙ ap (λ (z : List (List Cell)). c.messages ++ z) (later (by_due due)) ∙ sym parts
  where
    by_due : (messages_in size l.cells ≡ []) ⊎ (Reaches o (end_left l) (record { of = o; upto = upto; at = at }) ⊎ OneOf (Reaches o (end_left l)) ds) → IsDue size o c.left ds
    by_due (inl e) = inl (nothing_after c.messages (messages_in size c.left.cells) (sym parts ∙ e))
    by_due (inr (inl h)) = inl (done h.1)
    by_due (inr (inr h)) = inr (subst (λ (end : ℕ). OneOf (Reaches o end) ds) (sym ends) h)

other_step : (size : List Cell → Option ℕ) (o d : End) (l : Left) (ms : List (List Cell)) (upto : ℕ) (at : Placed) (ds : List Delivery) (ss : List Shown) → same_end o d ≡ false
    → ShowsAll size d l ds ss → ShowsAll size d l (record { of = o; upto = upto; at = at } ∷ ds) (map (λ m. record { of = o; cells = m; at = at }) ms ++ ss)
other_step size o d l ms upto at ds ss apart later due = shown_other o d at ms ss apart ∙ later (by_due due)
  where
    by_due : (messages_in size l.cells ≡ []) ⊎ (Reaches d (end_left l) (record { of = o; upto = upto; at = at }) ⊎ OneOf (Reaches d (end_left l)) ds) → IsDue size d l ds
    by_due (inl e) = inl e
    by_due (inr (inl h)) = let own = h.0 in absurd cc
    by_due (inr (inr h)) = inr h

step : (size : List Cell → Option ℕ) → IsSize size → (b : Both) (o : End) (upto : ℕ) (at : Placed) (ds : List Delivery) (d : End)
    → ((b : Both) → ShowsAll size d (left_of b d) ds (show size b ds))
    → ShowsAll size d (left_of b d) (record { of = o; upto = upto; at = at } ∷ ds) (show size b (record { of = o; upto = upto; at = at } ∷ ds))
unfolding show
step size is b active upto at ds active h =
    let l = b.active in
    let cut = cut_off (length l.cells) size upto l in
    same_step size active l cut upto at ds (show size (with_left b active cut.left) ds) refl (cut_in_parts size is (length l.cells) upto l)
    (λ le. none_left size is (length l.cells) upto l (omega arith) le) (cut_end size is (length l.cells) upto l) (h (with_left b active cut.left))
step size is b passive upto at ds passive h =
    let l = b.passive in
    let cut = cut_off (length l.cells) size upto l in
    same_step size passive l cut upto at ds (show size (with_left b passive cut.left) ds) refl (cut_in_parts size is (length l.cells) upto l)
    (λ le. none_left size is (length l.cells) upto l (omega arith) le) (cut_end size is (length l.cells) upto l) (h (with_left b passive cut.left))
step size is b active upto at ds passive h =
    let cut = cut_off (length b.active.cells) size upto b.active in
    other_step size active passive b.passive cut.messages upto at ds (show size (with_left b active cut.left) ds) refl (h (with_left b active cut.left))
step size is b passive upto at ds active h =
    let cut = cut_off (length b.passive.cells) size upto b.passive in
    other_step size passive active b.active cut.messages upto at ds (show size (with_left b passive cut.left) ds) refl (h (with_left b passive cut.left))

shows_all : (size : List Cell → Option ℕ) → IsSize size → (ds : List Delivery) (d : End) (b : Both) → ShowsAll size d (left_of b d) ds (show size b ds)
unfolding show
shows_all size is [] d b (inl e) = sym e
shows_all size is [] d b (inr h) = absurd h
shows_all size is (x ∷ ds) d b due = step size is b x.of x.upto x.at ds d (shows_all size is ds d) due

all_due : (size : List Cell → Option ℕ) → IsSize size → (ps : List Placed) (d : End) → IsWhole ps → IsDue size d (left_of (both_streams ps) d) (flat_map deliveries (emitted_turns ps))
all_due size is ps d whole = by_end (end_of ps d) refl
  where
    by_end : (end : ℕ) → end_of ps d ≡ end → IsDue size d (left_of (both_streams ps) d) (flat_map deliveries (emitted_turns ps))
    by_end zero e =
        let ends = streams_end ps d in
        let cells = (left_of (both_streams ps) d).cells in
        inl (size_none size is (length cells) cells (omega (arith, ends, e)))
    by_end (suc n) e =
        inr (subst (λ (end : ℕ). OneOf (Reaches d end) (flat_map deliveries (emitted_turns ps))) (sym (streams_end ps d)) (end_delivered ps d n whole e))

pub all_shown : (size : List Cell → Option ℕ) (ps : List Placed) (d : End) → IsSize size → IsWhole ps → messages_shown d (shows_of size ps) ≡ messages_in size (stream_of ps d)
all_shown size ps active is whole = shows_all size is (flat_map deliveries (emitted_turns ps)) active (both_streams ps) (all_due size is ps active whole)
all_shown size ps passive is whole = shows_all size is (flat_map deliveries (emitted_turns ps)) passive (both_streams ps) (all_due size is ps passive whole)

-- ---- the cells determine a stream

not_past_bound : (n : ℕ) (ps : List Placed) (d : End) → bound ps ≤ n → cell_at ps d n ≡ None
not_past_bound n ps d le = by_cell (cell_at ps d n) refl
  where
    by_cell : (o : Option Cell) → cell_at ps d n ≡ o → o ≡ None
    by_cell None e = refl
    by_cell (Some c) e = let lt = not_past ps d n (ap is_some e) in absurd (omega (arith, le, lt))

none_from : (k n : ℕ) (ps : List Placed) (d : End) → cell_at ps d n ≡ None → cells_up_to k ps d n ≡ []
unfolding cells_up_to
none_from zero n ps d e = refl
none_from (suc k) n ps d e = rw e refl

same_cells : (j k n : ℕ) (ps qs : List Placed) (d : End) → ((m : ℕ) → cell_at ps d m ≡ cell_at qs d m) → bound ps ≤ n + j → bound qs ≤ n + k
    → cells_up_to j ps d n ≡ cells_up_to k qs d n
unfolding cells_up_to
same_cells zero k n ps qs d h le ge = sym (none_from k n qs d (sym (h n) ∙ not_past_bound n ps d (omega (arith, le))))
same_cells (suc j) zero n ps qs d h le ge = none_from (suc j) n ps d (h n ∙ not_past_bound n qs d (omega (arith, ge)))
same_cells (suc j) (suc k) n ps qs d h le ge = by_cell (cell_at ps d n) refl (same_cells j k (n + 1) ps qs d h (omega (arith, le)) (omega (arith, ge)))
  where
    by_cell : (o : Option Cell) → cell_at ps d n ≡ o → cells_up_to j ps d (n + 1) ≡ cells_up_to k qs d (n + 1) → cells_up_to (suc j) ps d n ≡ cells_up_to (suc k) qs d n
    by_cell None e later = rw (e, sym (h n) ∙ e) refl
    by_cell (Some c) e later = rw (e, sym (h n) ∙ e) (ap (λ (z : List Cell). c ∷ z) later)

pub any_same : (size : List Cell → Option ℕ) (ps qs : List Placed) (d : End) → IsSize size → IsWhole ps → IsWhole qs → ((n : ℕ) → cell_at ps d n ≡ cell_at qs d n)
    → messages_shown d (shows_of size ps) ≡ messages_shown d (shows_of size qs)
any_same size ps qs d is whole other h =
    all_shown size ps d is whole ∙ ap (messages_in size) (same_cells (bound ps) (bound qs) 0 ps qs d h (omega arith) (omega arith)) ∙ sym (all_shown size qs d is other)
