-- What waits covers what is buffered after the end, so a drained queue moves the end to where the contiguous bytes end.
use Rattle.std.proofs.Common.{◌≡◌, ◌<◌, ◌≤◌, ◌+◌, ◌-◌, ◌++◌, ◌&&◌, inl, inr, ℕ, max, Bool, true, false, cond, nat_le, nat_lt, List, [], ◌∷◌, length, map, filter, slice_get, None, is_some, refl, sym, ap, subst, arith}
use Rattle.std.proofs.lemmas.Bool.{le-leb, lt-leb, lt-ltb, cases_lt}
use Rattle.capture_tcp.specs.declared.packet.Packet.{Packet}
use Rattle.capture_tcp.specs.TcpStreams.{End, same_end, Placed, cell_in, cell_at, end_of, insert_by_place, in_order}
use Rattle.capture_tcp.specs.Laws.{Span, Covers, IsOrdered, IsHeld, absorb, insert_after, reached, left_waiting, waits, waiting_in}
use Rattle.capture_tcp.specs.InnerOutOfOrder.{Drained, and_released, put_after, drained}
use Rattle.capture_tcp.specs.KnownStreams.{packet_of}
use Rattle.capture_tcp.proofs.Absorbed.{absorbed, none_waits, stopped}
use Rattle.capture_tcp.proofs.Draining.{can_continue, stops}
use Rattle.capture_tcp.proofs.Ends.{either, from_first, from_second, of_span, in_span, can_continue as end_continues}
use Rattle.capture_tcp.proofs.Lists.{Each, everywhere, weaken, each_filter}
use Rattle.capture_tcp.proofs.Longer.{Holds, each_holds, within_own}
use Rattle.capture_tcp.proofs.Queue.{Sorted, order_sorted}
use Rattle.capture_tcp.proofs.DeliveredPackets.{order_each, same_from}

abbrev pub span_of : Placed → Span
span_of p = record { from = p.place; to = p.place + length p.cells }

-- ---- the queue of packets is that of the definition

pub put_is : (p : Placed) (qs : List Placed) → put_after (packet_of p) (map packet_of qs) ≡ map packet_of (insert_after p qs)
put_is p [] = refl
put_is p (q ∷ qs) = by_test (nat_lt p.place q.place) (put_is p qs)
  where
    by_test : (b : Bool) → put_after (packet_of p) (map packet_of qs) ≡ map packet_of (insert_after p qs)
        → cond b (packet_of p ∷ packet_of q ∷ map packet_of qs) (packet_of q ∷ put_after (packet_of p) (map packet_of qs))
        ≡ map packet_of (cond b (p ∷ q ∷ qs) (q ∷ insert_after p qs))
    by_test true later = refl
    by_test false later = ap (λ (z : List Packet). packet_of q ∷ z) later

absorb_grows : (end : ℕ) (ss : List Span) → end ≤ absorb end ss
unfolding absorb
absorb_grows end [] = omega arith
absorb_grows end (s ∷ ss) = by_test (nat_le s.from end) (absorb_grows (max end s.to) ss)
  where
    by_test : (b : Bool) → max end s.to ≤ absorb (max end s.to) ss → end ≤ cond b (absorb (max end s.to) ss) end
    by_test true later = omega (arith, later)
    by_test false later = omega arith

abbrev IsDrained : Drained → ℕ → List Placed → Type 0
IsDrained d end qs = (d.end ≡ end) × (d.emitted ≡ map packet_of (reached end qs)) × (d.left ≡ map packet_of (left_waiting end qs))

drained_at : (qs : List Placed) (d d' : Drained) (e e' : ℕ) → d ≡ d' → e ≡ e' → IsDrained d' e' qs → IsDrained d e qs
drained_at qs d d' e e' h k x = rw (h, k) x

pub drained_is : (end : ℕ) (qs : List Placed) → IsDrained (drained end (map packet_of qs)) (absorb end (map span_of qs)) qs
drained_is end [] = drained_at [] (drained end []) (record { end = end; emitted = []; left = [] }) (absorb end []) end (stops end [] tt) (none_waits end) (refl, refl, refl)
drained_is end (q ∷ qs) =
    elim (cases_lt end q.place) [
      | inl lt ↦ drained_at (q ∷ qs) (drained end (packet_of q ∷ map packet_of qs)) (record { end = end; emitted = []; left = packet_of q ∷ map packet_of qs })
          (absorb end (span_of q ∷ map span_of qs)) end (stops end (packet_of q ∷ map packet_of qs) lt) (stopped end (span_of q) (map span_of qs) lt) (none lt)
      | inr le ↦ drained_at (q ∷ qs) (drained end (packet_of q ∷ map packet_of qs)) (and_released (packet_of q) (drained (max end (q.place + length q.cells)) (map packet_of qs)))
          (absorb end (span_of q ∷ map span_of qs)) (absorb (max end (q.place + length q.cells)) (map span_of qs)) (can_continue end (packet_of q) (map packet_of qs) le)
          (absorbed end (span_of q) (map span_of qs) le) (one le (drained_is (max end (q.place + length q.cells)) qs))
    ]
  where
    none : end < q.place → IsDrained (record { end = end; emitted = []; left = packet_of q ∷ map packet_of qs }) end (q ∷ qs)
    none lt = rw (lt-leb q.place end lt) (refl, refl, refl)

    one : q.place ≤ end → IsDrained (drained (max end (q.place + length q.cells)) (map packet_of qs)) (absorb (max end (q.place + length q.cells)) (map span_of qs)) qs
        → IsDrained (and_released (packet_of q) (drained (max end (q.place + length q.cells)) (map packet_of qs))) (absorb (max end (q.place + length q.cells)) (map span_of qs)) (q ∷ qs)
    one le later =
        let grows = absorb_grows (max end (q.place + length q.cells)) (map span_of qs) in
        let within : q.place ≤ absorb (max end (q.place + length q.cells)) (map span_of qs) = omega (arith, grows, le) in
        rw (le-leb q.place (absorb (max end (q.place + length q.cells)) (map span_of qs)) within)
        (later.0, ap (λ (z : List Packet). packet_of q ∷ z) later.1, later.2)

-- ---- the spans that wait are in order

covers_least : (m : ℕ) (qs : List Placed) → Each (λ (r : Placed). m ≤ r.place) qs → (n : ℕ) → Covers (map span_of qs) n → m ≤ n
covers_least m [] h n c = absurd c
covers_least m (q ∷ qs) h n (inl c) = omega (arith, h.0, c.0)
covers_least m (q ∷ qs) h n (inr c) = covers_least m qs h.1 n c

spans_ordered : (qs : List Placed) → Sorted qs → IsOrdered (map span_of qs)
spans_ordered [] h = tt
spans_ordered (q ∷ qs) h = (covers_least q.place qs h.0, spans_ordered qs h.1)

-- ---- they cover what is buffered after the end

covers_insert : (p : Placed) (qs : List Placed) (n : ℕ) → Covers (map span_of (p ∷ qs)) n → Covers (map span_of (insert_by_place p qs)) n
covers_insert p [] n c = c
covers_insert p (q ∷ qs) n c = by_test (nat_le p.place q.place) (covers_insert p qs n) c
  where
    by_test : (b : Bool) → (Covers (map span_of (p ∷ qs)) n → Covers (map span_of (insert_by_place p qs)) n) → Covers (map span_of (p ∷ q ∷ qs)) n
        → Covers (map span_of (cond b (p ∷ q ∷ qs) (q ∷ insert_by_place p qs))) n
    by_test true later c = c
    by_test false later (inl x) = inr (later (inl x))
    by_test false later (inr (inl y)) = inl y
    by_test false later (inr (inr z)) = inr (later (inr z))

insert_covers : (p : Placed) (qs : List Placed) (n : ℕ) → Covers (map span_of (insert_by_place p qs)) n → Covers (map span_of (p ∷ qs)) n
insert_covers p [] n c = c
insert_covers p (q ∷ qs) n c = by_test (nat_le p.place q.place) (insert_covers p qs n) c
  where
    swap : Covers (map span_of (p ∷ qs)) n → Covers (map span_of (p ∷ q ∷ qs)) n
    swap (inl x) = inl x
    swap (inr y) = inr (inr y)

    by_test : (b : Bool) → (Covers (map span_of (insert_by_place p qs)) n → Covers (map span_of (p ∷ qs)) n)
        → Covers (map span_of (cond b (p ∷ q ∷ qs) (q ∷ insert_by_place p qs))) n → Covers (map span_of (p ∷ q ∷ qs)) n
    by_test true later c = c
    by_test false later (inl x) = inr (inl x)
    by_test false later (inr y) = swap (later y)

covers_order : (ps : List Placed) (n : ℕ) → Covers (map span_of ps) n → Covers (map span_of (in_order ps)) n
covers_order [] n c = c
covers_order (p ∷ ps) n (inl x) = covers_insert p (in_order ps) n (inl x)
covers_order (p ∷ ps) n (inr y) = covers_insert p (in_order ps) n (inr (covers_order ps n y))

order_covers : (ps : List Placed) (n : ℕ) → Covers (map span_of (in_order ps)) n → Covers (map span_of ps) n
order_covers [] n c = c
order_covers (p ∷ ps) n c = by_first (order_covers ps n) (insert_covers p (in_order ps) n c)
  where
    by_first : (Covers (map span_of (in_order ps)) n → Covers (map span_of ps) n) → Covers (map span_of (p ∷ in_order ps)) n → Covers (map span_of (p ∷ ps)) n
    by_first later (inl x) = inl x
    by_first later (inr y) = inr (later y)

both : (a b : Bool) → a ≡ true → b ≡ true → (a && b) ≡ true
both false b e f = absurd cc
both true b e f = f

first_true : (a b : Bool) → (a && b) ≡ true → a ≡ true
first_true false b e = absurd cc
first_true true b e = refl

kept_covers : (w : Placed → Bool) (q : Placed) (qs : List Placed) (n : ℕ) → Covers (map span_of (filter w qs)) n → Covers (map span_of (filter w (q ∷ qs))) n
kept_covers w q qs n c = by_test (w q)
  where
    by_test : (b : Bool) → Covers (map span_of (cond b (q ∷ filter w qs) (filter w qs))) n
    by_test true = inr c
    by_test false = c

here_covers : (w : Placed → Bool) (q : Placed) (qs : List Placed) (n : ℕ) → w q ≡ true → (q.place ≤ n) × (n < q.place + length q.cells) → Covers (map span_of (filter w (q ∷ qs))) n
here_covers w q qs n e c = rw e (inl c)

held_covered : (all qs : List Placed) (d : End) (n : ℕ) → Each (Holds all) qs → end_of all d ≤ n → IsHeld qs d n → Covers (map span_of (filter (waits all d) qs)) n
unfolding cell_at
held_covered all [] d n h le held = absurd cc
held_covered all (q ∷ qs) d n h le held =
    elim (either (cell_in q d n) (cell_at qs d n) held) [
      | inl first ↦ here first
      | inr later ↦ kept_covers (waits all d) q qs n (held_covered all qs d n h.1 le later)
    ]
  where
    here : is_some (cell_in q d n) ≡ true → Covers (map span_of (filter (waits all d) (q ∷ qs))) n
    here first =
        let span = of_span q d n first in
        let own : same_end q.from d ≡ true = first_true (same_end q.from d) (nat_le q.place n) (of_both first) in
        elim (cases_lt (end_of all d) q.place) [
          | inl lt ↦ here_covers (waits all d) q qs n (both (same_end q.from d) (nat_lt (end_of all d) q.place) own (lt-ltb (end_of all d) q.place lt)) span
          | inr ge ↦
              let same = same_from q.from d own in
              let early : q.place ≤ end_of all q.from = subst (λ (e : End). q.place ≤ end_of all e) (sym same) ge in
              let within = within_own all q h.0 early in
              let bound : q.place + length q.cells ≤ end_of all d = subst (λ (e : End). q.place + length q.cells ≤ end_of all e) same within in
              absurd (omega (arith, bound, le, span.1))
        ]
      where
        of_both : is_some (cell_in q d n) ≡ true → (same_end q.from d && nat_le q.place n) ≡ true
        of_both e = by_test (same_end q.from d && nat_le q.place n) e
          where
            by_test : (b : Bool) → is_some (cond b (slice_get q.cells (n - q.place)) None) ≡ true → b ≡ true
            by_test true e = refl
            by_test false e = absurd cc

covered_held : (w : Placed → Bool) (qs : List Placed) (d : End) (n : ℕ) → ((q : Placed) → w q ≡ true → same_end q.from d ≡ true) → Covers (map span_of (filter w qs)) n → IsHeld qs d n
unfolding cell_at
covered_held w [] d n own c = absurd c
covered_held w (q ∷ qs) d n own c = by_test (covered_held w qs d n own) (w q) refl c
  where
    by_test : (Covers (map span_of (filter w qs)) n → IsHeld qs d n) → (b : Bool) → w q ≡ b → Covers (map span_of (cond b (q ∷ filter w qs) (filter w qs))) n
        → is_some (cell_at (q ∷ qs) d n) ≡ true
    by_test later true e (inl x) = from_first (cell_in q d n) (cell_at qs d n) (in_span q d n (own q e) x.0 x.1)
    by_test later true e (inr y) = from_second (cell_in q d n) (cell_at qs d n) (later y)
    by_test later false e c = from_second (cell_in q d n) (cell_at qs d n) (later c)

pub end_by_queue : (before : List Placed) (p : Placed) → p.place ≤ end_of before p.from
    → end_of (before ++ (p ∷ [])) p.from ≡ absorb (max (end_of before p.from) (p.place + length p.cells)) (map span_of (waiting_in before p.from))
end_by_queue before p le =
    let d = p.from in
    let kept = filter (waits before d) before in
    end_continues before p (map span_of (waiting_in before d)) (spans_ordered (waiting_in before d) (order_sorted kept))
    (λ n ge. (
      λ held. covers_order kept n (held_covered before before d n (each_holds before) ge held),
      λ c. covered_held (waits before d) before d n (λ q e. first_true (same_end q.from d) (nat_lt (end_of before d) q.place) e) (order_covers kept n c),
    )) le

-- ---- each waiting packet is of its direction, after its end

pub all_wait : (before : List Placed) (d : End) → Each (λ (q : Placed). waits before d q ≡ true) (waiting_in before d)
all_wait before d =
    let kept = filter (waits before d) before in
    order_each (λ (q : Placed). waits before d q ≡ true) kept
    (weaken (λ (q : Placed). Unit {0} × (waits before d q ≡ true)) (λ (q : Placed). waits before d q ≡ true) kept (λ q h. h.1)
    (each_filter (λ (q : Placed). Unit {0}) (waits before d) before (everywhere before)))
