-- Out-of-order packets, as a queue in the order of offsets.
use Rattle.std.proofs.Common.{◌≡◌, ◌<◌, ◌≤◌, inl, inr, ℕ, ◌&&◌, Bool, true, false, cond, nat_lt, nat_le, List, [], ◌∷◌, ◌++◌, map, filter, is_some, refl, sym, ap, ◌∙◌, arith}
use Rattle.std.proofs.lemmas.Bool.{le-leb, lt-leb, lt-ltb, le-ltb, leb-true, leb-false, cases_lt}
use Rattle.std.proofs.lemmas.List.{append-nil}
use Rattle.std.proofs.lemmas.List.Elements.{filter-append}
use Rattle.capture_tcp.specs.TcpStreams.{End, active, passive, other, same_end, Placed, cell_in, end_of, insert_by_place, in_order, turns_at}
use Rattle.capture_tcp.specs.Laws.{insert_after, reached, left_waiting, waits, waiting_in}
use Rattle.capture_tcp.proofs.Ends.{end_is, held_after, of_span}
use Rattle.capture_tcp.proofs.Longer.{end_more}
use Rattle.capture_tcp.proofs.Lists.{Each, weaken, each_filter}

-- ---- a packet is inserted after those with its offset

first_by : (r q : Placed) (qs : List Placed) → r.place ≤ q.place → insert_by_place r (q ∷ qs) ≡ r ∷ q ∷ qs
first_by r q qs le = rw (le-leb r.place q.place le) refl

later_by : (r q : Placed) (qs : List Placed) → q.place < r.place → insert_by_place r (q ∷ qs) ≡ q ∷ insert_by_place r qs
later_by r q qs lt = rw (lt-leb r.place q.place lt) refl

first_inserted : (p q : Placed) (qs : List Placed) → p.place < q.place → insert_after p (q ∷ qs) ≡ p ∷ q ∷ qs
first_inserted p q qs lt = rw (lt-ltb p.place q.place lt) refl

later_inserted : (p q : Placed) (qs : List Placed) → q.place ≤ p.place → insert_after p (q ∷ qs) ≡ q ∷ insert_after p qs
later_inserted p q qs le = rw (le-ltb p.place q.place le) refl

either_way : (r p : Placed) (qs : List Placed) → insert_by_place r (insert_after p qs) ≡ insert_after p (insert_by_place r qs)
either_way r p [] =
    elim (cases_lt p.place r.place) [
      | inl lt ↦ later_by r p [] lt ∙ sym (first_inserted p r [] lt)
      | inr le ↦ first_by r p [] le ∙ sym (later_inserted p r [] le)
    ]
either_way r p (q ∷ qs) =
    elim (cases_lt p.place q.place) [
      | inl pq ↦ ap (insert_by_place r) (first_inserted p q qs pq) ∙ (elim (cases_lt p.place r.place) [
        | inl pr ↦ later_by r p (q ∷ qs) pr ∙ (elim (cases_lt q.place r.place) [
          | inl qr ↦ ap (λ (z : List Placed). p ∷ z) (later_by r q qs qr) ∙ sym (first_inserted p q (insert_by_place r qs) pq) ∙ sym (ap (insert_after p) (later_by r q qs qr))
          | inr rq ↦ ap (λ (z : List Placed). p ∷ z) (first_by r q qs rq) ∙ sym (first_inserted p r (q ∷ qs) pr) ∙ sym (ap (insert_after p) (first_by r q qs rq))
        ])
        | inr rp ↦
            let rq : r.place ≤ q.place = omega (arith, pq, rp) in
            first_by r p (q ∷ qs) rp ∙ sym (ap (λ (z : List Placed). r ∷ z) (first_inserted p q qs pq)) ∙ sym (later_inserted p r (q ∷ qs) rp) ∙ sym (ap (insert_after p) (first_by r q qs rq))
      ])
      | inr qp ↦ ap (insert_by_place r) (later_inserted p q qs qp) ∙ (elim (cases_lt q.place r.place) [
        | inl qr ↦ later_by r q (insert_after p qs) qr ∙ ap (λ (z : List Placed). q ∷ z) (either_way r p qs) ∙ sym (later_inserted p q (insert_by_place r qs) qp) ∙ sym (ap (insert_after p) (later_by r q qs qr))
        | inr rq ↦
            let rp : r.place ≤ p.place = omega (arith, rq, qp) in
            first_by r q (insert_after p qs) rq ∙ sym (ap (λ (z : List Placed). r ∷ z) (later_inserted p q qs qp)) ∙ sym (later_inserted p r (q ∷ qs) rp) ∙ sym (ap (insert_after p) (first_by r q qs rq))
      ])
    ]

order_more : (ps : List Placed) (p : Placed) → in_order (ps ++ (p ∷ [])) ≡ insert_after p (in_order ps)
order_more [] p = refl
order_more (r ∷ ps) p = ap (insert_by_place r) (order_more ps p) ∙ either_way r p (in_order ps)

-- ---- a filter of what is in order

abbrev pub Sorted : List Placed → Type 0
Sorted [] = Unit {0}
Sorted (q ∷ qs) = Each (λ (r : Placed). q.place ≤ r.place) qs × Sorted qs

insert_least : (n : ℕ) (p : Placed) (qs : List Placed) → n ≤ p.place → Each (λ (r : Placed). n ≤ r.place) qs → Each (λ (r : Placed). n ≤ r.place) (insert_by_place p qs)
insert_least n p [] le h = (le, tt)
insert_least n p (q ∷ qs) le h = by_test (nat_le p.place q.place) (insert_least n p qs le h.1)
  where
    by_test : (b : Bool) → Each (λ (r : Placed). n ≤ r.place) (insert_by_place p qs) → Each (λ (r : Placed). n ≤ r.place) (cond b (p ∷ q ∷ qs) (q ∷ insert_by_place p qs))
    by_test true later = (le, h)
    by_test false later = (h.0, later)

insert_sorted : (p : Placed) (qs : List Placed) → Sorted qs → Sorted (insert_by_place p qs)
insert_sorted p [] h = (tt, tt)
insert_sorted p (q ∷ qs) h = by_test (nat_le p.place q.place) refl (insert_sorted p qs h.1)
  where
    by_test : (b : Bool) → nat_le p.place q.place ≡ b → Sorted (insert_by_place p qs) → Sorted (cond b (p ∷ q ∷ qs) (q ∷ insert_by_place p qs))
    by_test true e later =
        let le = leb-true p.place q.place e in
        ((le, weaken (λ (r : Placed). q.place ≤ r.place) (λ (r : Placed). p.place ≤ r.place) qs (λ r g. omega (arith, le, g)) h.0), h)
    by_test false e later =
        let lt = leb-false p.place q.place e in
        (insert_least q.place p qs (omega (arith, lt)) h.0, later)

pub order_sorted : (ps : List Placed) → Sorted (in_order ps)
order_sorted [] = tt
order_sorted (p ∷ ps) = insert_sorted p (in_order ps) (order_sorted ps)

keep_least : (n : ℕ) (f : Placed → Bool) (qs : List Placed) → Each (λ (r : Placed). n ≤ r.place) qs → Each (λ (r : Placed). n ≤ r.place) (filter f qs)
keep_least n f qs h =
    weaken (λ (r : Placed). (n ≤ r.place) × (f r ≡ true)) (λ (r : Placed). n ≤ r.place) (filter f qs) (λ r g. g.0) (each_filter (λ (r : Placed). n ≤ r.place) f qs h)

insert_first : (p : Placed) (qs : List Placed) → Each (λ (r : Placed). p.place ≤ r.place) qs → insert_by_place p qs ≡ p ∷ qs
insert_first p [] h = refl
insert_first p (q ∷ qs) h = first_by p q qs h.0

kept_insert : (f : Placed → Bool) (p : Placed) (qs : List Placed) → Sorted qs → f p ≡ true → filter f (insert_by_place p qs) ≡ insert_by_place p (filter f qs)
kept_insert f p [] h e = rw e refl
kept_insert f p (q ∷ qs) h e =
    elim (cases_lt q.place p.place) [
      | inl lt ↦ ap (filter f) (later_by p q qs lt) ∙ by_test lt (f q) refl (kept_insert f p qs h.1 e)
      | inr le ↦
          ap (filter f) (first_by p q qs le) ∙ first (f p) e
          ∙ sym (insert_first p (filter f (q ∷ qs)) (keep_least p.place f (q ∷ qs) (le, weaken (λ (r : Placed). q.place ≤ r.place) (λ (r : Placed). p.place ≤ r.place) qs (λ r g. omega (arith, le, g)) h.0)))
    ]
  where
    first : (b : Bool) → b ≡ true → cond b (p ∷ filter f (q ∷ qs)) (filter f (q ∷ qs)) ≡ p ∷ filter f (q ∷ qs)
    first true g = refl
    first false g = absurd cc

    by_test : q.place < p.place → (b : Bool) → f q ≡ b → filter f (insert_by_place p qs) ≡ insert_by_place p (filter f qs)
        → cond b (q ∷ filter f (insert_by_place p qs)) (filter f (insert_by_place p qs)) ≡ insert_by_place p (cond b (q ∷ filter f qs) (filter f qs))
    by_test lt true g later = ap (λ (z : List Placed). q ∷ z) later ∙ sym (later_by p q (filter f qs) lt)
    by_test lt false g later = later

dropped_insert : (f : Placed → Bool) (p : Placed) (qs : List Placed) → f p ≡ false → filter f (insert_by_place p qs) ≡ filter f qs
dropped_insert f p [] e = rw e refl
dropped_insert f p (q ∷ qs) e = by_place (nat_le p.place q.place) (dropped_insert f p qs e)
  where
    by_place : (b : Bool) → filter f (insert_by_place p qs) ≡ filter f qs → filter f (cond b (p ∷ q ∷ qs) (q ∷ insert_by_place p qs)) ≡ filter f (q ∷ qs)
    by_place true later = rw e refl
    by_place false later = ap (λ (z : List Placed). cond (f q) (q ∷ z) z) later

filter_order : (f : Placed → Bool) (ps : List Placed) → in_order (filter f ps) ≡ filter f (in_order ps)
filter_order f [] = refl
filter_order f (p ∷ ps) = by_test (f p) refl (filter_order f ps)
  where
    by_test : (b : Bool) → f p ≡ b → in_order (filter f ps) ≡ filter f (in_order ps) → in_order (cond b (p ∷ filter f ps) (filter f ps)) ≡ filter f (insert_by_place p (in_order ps))
    by_test true e later = ap (insert_by_place p) later ∙ sym (kept_insert f p (in_order ps) (order_sorted ps) e)
    by_test false e later = later ∙ sym (dropped_insert f p (in_order ps) e)

-- ---- what the end has reached, and what it has not

abbrev reaches : ℕ → Placed → Bool
reaches end q = nat_le q.place end

abbrev outlasts : ℕ → Placed → Bool
outlasts end q = nat_lt end q.place

none_reached : (end : ℕ) (qs : List Placed) → Each (λ (r : Placed). end < r.place) qs → (filter (reaches end) qs ≡ []) × (filter (outlasts end) qs ≡ qs)
none_reached end [] h = (refl, refl)
none_reached end (q ∷ qs) h =
    let later = none_reached end qs h.1 in
    (rw (lt-leb q.place end h.0) later.0, rw (lt-ltb end q.place h.0) (ap (λ (z : List Placed). q ∷ z) later.1))

split_queue : (end : ℕ) (qs : List Placed) → Sorted qs → (filter (reaches end) qs ≡ reached end qs) × (filter (outlasts end) qs ≡ left_waiting end qs)
split_queue end [] h = (refl, refl)
split_queue end (q ∷ qs) h =
    elim (cases_lt end q.place) [
      | inl lt ↦
          let past : Each (λ (r : Placed). end < r.place) (q ∷ qs) = (lt, weaken (λ (r : Placed). q.place ≤ r.place) (λ (r : Placed). end < r.place) qs (λ r g. omega (arith, lt, g)) h.0) in
          let none = none_reached end (q ∷ qs) past in
          (none.0 ∙ sym (no_more lt), none.1 ∙ sym (all_left lt))
      | inr le ↦
          let later = split_queue end qs h.1 in
          (one_more le ∙ ap (λ (z : List Placed). q ∷ z) later.0 ∙ sym (takes le), one_less le ∙ later.1 ∙ sym (passes le))
    ]
  where
    no_more : end < q.place → reached end (q ∷ qs) ≡ []
    no_more lt = rw (lt-leb q.place end lt) refl

    all_left : end < q.place → left_waiting end (q ∷ qs) ≡ q ∷ qs
    all_left lt = rw (lt-leb q.place end lt) refl

    one_more : q.place ≤ end → filter (reaches end) (q ∷ qs) ≡ q ∷ filter (reaches end) qs
    one_more le = rw (le-leb q.place end le) refl

    takes : q.place ≤ end → reached end (q ∷ qs) ≡ q ∷ reached end qs
    takes le = rw (le-leb q.place end le) refl

    one_less : q.place ≤ end → filter (outlasts end) (q ∷ qs) ≡ filter (outlasts end) qs
    one_less le = rw (le-ltb end q.place le) refl

    passes : q.place ≤ end → left_waiting end (q ∷ qs) ≡ left_waiting end qs
    passes le = rw (le-leb q.place end le) refl

filter_both : (f g : Placed → Bool) (qs : List Placed) → filter (λ q. f q && g q) qs ≡ filter g (filter f qs)
filter_both f g [] = refl
filter_both f g (q ∷ qs) = by_tests (f q) (g q) refl (filter_both f g qs)
  where
    by_tests : (a b : Bool) → g q ≡ b → filter (λ q. f q && g q) qs ≡ filter g (filter f qs)
        → cond (a && b) (q ∷ filter (λ q. f q && g q) qs) (filter (λ q. f q && g q) qs) ≡ filter g (cond a (q ∷ filter f qs) (filter f qs))
    by_tests false b e later = later
    by_tests true true e later = rw e (ap (λ (z : List Placed). q ∷ z) later)
    by_tests true false e later = rw e later

same_filter : (f g : Placed → Bool) (qs : List Placed) → ((q : Placed) → f q ≡ g q) → filter f qs ≡ filter g qs
same_filter f g [] h = refl
same_filter f g (q ∷ qs) h = rw (h q) (ap (λ (z : List Placed). cond (g q) (q ∷ z) z) (same_filter f g qs h))

turns_by_queue : (before : List Placed) (p : Placed) → p.place ≤ end_of before p.from
    → turns_at before p ≡ record { at = p; own = p } ∷ map (λ q. record { at = p; own = q }) (reached (end_of (before ++ (p ∷ [])) p.from) (waiting_in before p.from))
turns_by_queue before p le =
    let end = end_of (before ++ (p ∷ [])) p.from in
    let waiting = filter (waits before p.from) before in
    let freed : in_order (filter (λ q. waits before p.from q && reaches end q) before) ≡ reached end (waiting_in before p.from) =
    ap in_order (filter_both (waits before p.from) (reaches end) before) ∙ filter_order (reaches end) waiting ∙ (split_queue end (in_order waiting) (order_sorted waiting)).0 in
    rw (le-ltb (end_of before p.from) p.place le) (ap (λ (qs : List Placed). record { at = p; own = p } ∷ map (λ q. record { at = p; own = q }) qs) freed)

-- ---- the queue after a packet

pub end_stays : (before : List Placed) (p : Placed) (d : End) → (is_some (cell_in p d (end_of before d)) ≡ true → ⊥) → end_of (before ++ (p ∷ [])) d ≡ end_of before d
end_stays before p d never =
    let more = end_more before (p ∷ []) d in
    elim (cases_lt (end_of before d) (end_of (before ++ (p ∷ [])) d)) [
      | inl lt ↦ absurd (elim (held_after before p d (end_of before d) ((end_is (before ++ (p ∷ [])) d).0 (end_of before d) lt)) [
        | inl x ↦ (end_is before d).1 x
        | inr y ↦ never y
      ])
      | inr le ↦ omega (arith, more, le)
    ]

pub of_other : (p : Placed) (d : End) (n : ℕ) → same_end p.from d ≡ false → is_some (cell_in p d n) ≡ true → ⊥
of_other p d n e h = absurd cc

waits_later : (same : Bool) (e f x : ℕ) → e ≤ f → (same && nat_lt f x) ≡ ((same && nat_lt e x) && nat_lt f x)
waits_later false e f x le = refl
waits_later true e f x le =
    elim (cases_lt f x) [
      | inl lt ↦ lt-ltb f x lt ∙ sym (both (nat_lt e x) (nat_lt f x) (lt-ltb e x (omega (arith, lt, le))) (lt-ltb f x lt))
      | inr ge ↦ le-ltb f x ge ∙ sym (second (nat_lt e x) (nat_lt f x) (le-ltb f x ge))
    ]
  where
    both : (a b : Bool) → a ≡ true → b ≡ true → (a && b) ≡ true
    both false b g h = absurd cc
    both true b g h = h

    second : (a b : Bool) → b ≡ false → (a && b) ≡ false
    second false b g = refl
    second true b g = g

-- A delivered packet leaves what its end has not reached.
queue_left : (before : List Placed) (p : Placed) → p.place ≤ end_of before p.from
    → waiting_in (before ++ (p ∷ [])) p.from ≡ left_waiting (end_of (before ++ (p ∷ [])) p.from) (waiting_in before p.from)
queue_left before p le =
    let end = end_of (before ++ (p ∷ [])) p.from in
    let more = end_more before (p ∷ []) p.from in
    let waiting = filter (waits before p.from) before in
    let now = filter-append (waits (before ++ (p ∷ [])) p.from) before (p ∷ []) in
    let kept : filter (waits (before ++ (p ∷ [])) p.from) before ≡ filter (outlasts end) waiting =
    same_filter (waits (before ++ (p ∷ [])) p.from) (λ q. waits before p.from q && outlasts end q) before (λ q. waits_later (same_end q.from p.from) (end_of before p.from) end q.place more)
    ∙ filter_both (waits before p.from) (outlasts end) before in
    let all = now ∙ ap (λ (z : List Placed). filter (waits (before ++ (p ∷ [])) p.from) before ++ z) (alone (waits (before ++ (p ∷ [])) p.from p) (not_waiting (same_end p.from p.from) (le-ltb end p.place (omega (arith, le, more)))))
    ∙ append-nil (filter (waits (before ++ (p ∷ [])) p.from) before) ∙ kept in
    ap in_order all ∙ filter_order (outlasts end) waiting ∙ (split_queue end (in_order waiting) (order_sorted waiting)).1
  where
    not_waiting : {b : Bool} (a : Bool) → b ≡ false → (a && b) ≡ false
    not_waiting false e = refl
    not_waiting true e = e

    alone : (b : Bool) → b ≡ false → cond b (p ∷ []) [] ≡ []
    alone true e = absurd cc
    alone false e = refl

-- An out-of-order packet waits after those with its offset.
queue_takes : (before : List Placed) (p : Placed) → end_of before p.from < p.place
    → (end_of (before ++ (p ∷ [])) p.from ≡ end_of before p.from) × (waiting_in (before ++ (p ∷ [])) p.from ≡ insert_after p (waiting_in before p.from))
queue_takes before p lt =
    let end = end_stays before p p.from (λ h. let s = of_span p p.from (end_of before p.from) h in omega (arith, s.0, lt)) in
    let now : filter (waits (before ++ (p ∷ [])) p.from) (before ++ (p ∷ [])) ≡ filter (waits before p.from) (before ++ (p ∷ [])) =
    ap (λ (e : ℕ). filter (λ (q : Placed). same_end q.from p.from && nat_lt e q.place) (before ++ (p ∷ []))) end in
    let there : filter (waits before p.from) (p ∷ []) ≡ p ∷ [] = alone (waits before p.from p) (both (same_end p.from p.from) (nat_lt (end_of before p.from) p.place) (same p.from) (lt-ltb (end_of before p.from) p.place lt)) in (
      end,
      ap in_order (now ∙ filter-append (waits before p.from) before (p ∷ []) ∙ ap (λ (z : List Placed). filter (waits before p.from) before ++ z) there)
          ∙ order_more (filter (waits before p.from) before) p,
    )
  where
    both : (a b : Bool) → a ≡ true → b ≡ true → (a && b) ≡ true
    both false b g h = absurd cc
    both true b g h = h

    same : (d : End) → same_end d d ≡ true
    same active = refl
    same passive = refl

    alone : (b : Bool) → b ≡ true → cond b (p ∷ []) [] ≡ p ∷ []
    alone true e = refl
    alone false e = absurd cc

-- The other direction is unchanged.
pub stays : (before : List Placed) (p : Placed)
    → (end_of (before ++ (p ∷ [])) (other p.from) ≡ end_of before (other p.from)) × (waiting_in (before ++ (p ∷ [])) (other p.from) ≡ waiting_in before (other p.from))
stays before p =
    let d = other p.from in
    let end = end_stays before p d (of_other p d (end_of before d) (apart p.from)) in
    let now : filter (waits (before ++ (p ∷ [])) d) (before ++ (p ∷ [])) ≡ filter (waits before d) (before ++ (p ∷ [])) =
    ap (λ (e : ℕ). filter (λ (q : Placed). same_end q.from d && nat_lt e q.place) (before ++ (p ∷ []))) end in
    let gone : filter (waits before d) (p ∷ []) ≡ [] = alone (same_end p.from d) (nat_lt (end_of before d) p.place) (apart p.from) in
    (end, ap in_order (now ∙ filter-append (waits before d) before (p ∷ []) ∙ ap (λ (z : List Placed). filter (waits before d) before ++ z) gone ∙ append-nil (filter (waits before d) before)))
  where
    apart : (d : End) → same_end d (other d) ≡ false
    apart active = refl
    apart passive = refl

    alone : (a b : Bool) → a ≡ false → cond (a && b) (p ∷ []) [] ≡ []
    alone true b e = absurd cc
    alone false b e = refl

pub can_continue : (before : List Placed) (p : Placed) → p.place ≤ end_of before p.from
    → (turns_at before p ≡ record { at = p; own = p } ∷ map (λ q. record { at = p; own = q }) (reached (end_of (before ++ (p ∷ [])) p.from) (waiting_in before p.from)))
    × (waiting_in (before ++ (p ∷ [])) p.from ≡ left_waiting (end_of (before ++ (p ∷ [])) p.from) (waiting_in before p.from))
can_continue before p le = (turns_by_queue before p le, queue_left before p le)

pub takes : (before : List Placed) (p : Placed) → end_of before p.from < p.place
    → (turns_at before p ≡ []) × (end_of (before ++ (p ∷ [])) p.from ≡ end_of before p.from)
    × (waiting_in (before ++ (p ∷ [])) p.from ≡ insert_after p (waiting_in before p.from))
takes before p lt =
    let later = queue_takes before p lt in
    (rw (lt-ltb (end_of before p.from) p.place lt) refl, later.0, later.1)
