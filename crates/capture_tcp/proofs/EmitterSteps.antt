-- One more segment: the state after it, and what is delivered.
use Rattle.std.proofs.Common.{◌≡◌, ◌<◌, ◌≤◌, ◌++◌, ◌&&◌, inl, inr, ℕ, max, Bool, true, false, cond, nat_le, nat_lt, List, [], ◌∷◌, map, Option, Some, None, refl, sym, ap, subst, ◌∙◌, arith}
use Rattle.std.proofs.lemmas.Bool.{le-leb, lt-ltb, ltb-true, cases_lt}
use Rattle.std.proofs.lemmas.List.{append-nil}
use Rattle.std.specs.Option.{option_to_list, unwrap_or}
use Rattle.capture_tcp.specs.declared.packet.Packet.{Packet}
use Rattle.capture_tcp.specs.TcpStreams.{End, active, passive, other, same_end, Seen, Placed, Turn, acknowledged_at, acknowledges, end_of, greatest_acknowledged, ack_place, place_of, placed_at, places, latest, timed, received, confirmed, confirmed_by, bound, run, turns, turns_at}
use Rattle.capture_tcp.specs.Laws.{absorb, insert_after, left_waiting, reached, waits, waiting_in}
use Rattle.capture_tcp.specs.InnerOutOfOrder.{IsStopped, Drained, drained, put_after, acked}
use Rattle.capture_tcp.specs.KnownStreams.{Flow, ContinuesWith, Known, flow_of, packet_of, placed_after, released_after}
use Rattle.capture_tcp.specs.InnerKnownStreams.{Step, latest_after, placed_as, step, step_at, step_by}
use Rattle.capture_tcp.proofs.Absorbed.{absorbed}
use Rattle.capture_tcp.proofs.Draining.{stops}
use Rattle.capture_tcp.proofs.StreamPrefixes.{places_more}
use Rattle.capture_tcp.proofs.Lists.{Each, weaken}
use Rattle.capture_tcp.proofs.Longer.{end_more}
use Rattle.capture_tcp.proofs.Queue.{can_continue, stays, takes}
use Rattle.capture_tcp.proofs.DeliveredPackets.{same_from, turns_more}
use Rattle.capture_tcp.proofs.Waited.{span_of, put_is, drained_is, end_by_queue, all_wait}

abbrev turn_at : Placed → Placed → Turn
turn_at p q = record { at = p; own = q }

abbrev own_of : Turn → Packet
own_of t = packet_of t.own

-- ---- the queue that is drained

of_first : (a b : Bool) → (a && b) ≡ true → a ≡ true
of_first false b e = absurd cc
of_first true b e = refl

of_second : (a b : Bool) → (a && b) ≡ true → b ≡ true
of_second false b e = absurd cc
of_second true b e = e

insert_first : (p : Placed) (qs : List Placed) (end : ℕ) → p.place ≤ end → Each (λ (q : Placed). end < q.place) qs → insert_after p qs ≡ p ∷ qs
insert_first p [] end le h = refl
insert_first p (q ∷ qs) end le h = rw (lt-ltb p.place q.place (omega (arith, le, h.0))) refl

insert_stopped : (p : Placed) (qs : List Placed) (end : ℕ) → end < p.place → Each (λ (q : Placed). end < q.place) qs → IsStopped end (map packet_of (insert_after p qs))
insert_stopped p [] end lt h = lt
insert_stopped p (q ∷ qs) end lt h = by_test (nat_lt p.place q.place)
  where
    by_test : (b : Bool) → IsStopped end (map packet_of (cond b (p ∷ q ∷ qs) (q ∷ insert_after p qs)))
    by_test true = lt
    by_test false = h.0

after_end : (before : List Placed) (d : End) → Each (λ (q : Placed). end_of before d < q.place) (waiting_in before d)
after_end before d =
    weaken (λ (q : Placed). waits before d q ≡ true) (λ (q : Placed). end_of before d < q.place) (waiting_in before d)
    (λ q e. ltb-true (end_of before d) q.place (of_second (same_end q.from d) (nat_lt (end_of before d) q.place) e)) (all_wait before d)

of_direction : (before : List Placed) (d : End) → Each (λ (q : Placed). q.from ≡ d) (waiting_in before d)
of_direction before d =
    weaken (λ (q : Placed). waits before d q ≡ true) (λ (q : Placed). q.from ≡ d) (waiting_in before d)
    (λ q e. same_from q.from d (of_first (same_end q.from d) (nat_lt (end_of before d) q.place) e)) (all_wait before d)

abbrev Drains : List Placed → Placed → Drained → Type 0
Drains before p d =
    (d.end ≡ end_of (before ++ (p ∷ [])) p.from) × (d.emitted ≡ map own_of (turns_at before p)) × (d.left ≡ map packet_of (waiting_in (before ++ (p ∷ [])) p.from))

released_map : (p : Placed) (qs : List Placed) → map packet_of qs ≡ map own_of (map (turn_at p) qs)
released_map p [] = refl
released_map p (q ∷ qs) = ap (λ (z : List Packet). packet_of q ∷ z) (released_map p qs)

reached_first : (p : Placed) (qs : List Placed) (end : ℕ) → p.place ≤ end → (reached end (p ∷ qs) ≡ p ∷ reached end qs) × (left_waiting end (p ∷ qs) ≡ left_waiting end qs)
reached_first p qs end le = (rw (le-leb p.place end le) refl, rw (le-leb p.place end le) refl)

drains : (before : List Placed) (p : Placed) → Drains before p (drained (end_of before p.from) (put_after (packet_of p) (map packet_of (waiting_in before p.from))))
drains before p =
    elim (cases_lt (end_of before p.from) p.place) [
      | inl lt ↦ subsequent lt
      | inr le ↦ within le
    ]
  where
    subsequent : end_of before p.from < p.place → Drains before p (drained (end_of before p.from) (put_after (packet_of p) (map packet_of (waiting_in before p.from))))
    subsequent lt =
        let taken = takes before p lt in
        let queue = put_is p (waiting_in before p.from) in
        let stopped = stops (end_of before p.from) (map packet_of (insert_after p (waiting_in before p.from)))
        (insert_stopped p (waiting_in before p.from) (end_of before p.from) lt (after_end before p.from)) in
        let all = ap (drained (end_of before p.from)) queue ∙ stopped in (
          ap (λ (d : Drained). d.end) all ∙ sym taken.1,
          ap (λ (d : Drained). d.emitted) all ∙ sym (ap (λ (ts : List Turn). map own_of ts) taken.0),
          ap (λ (d : Drained). d.left) all ∙ sym (ap (λ (qs : List Placed). map packet_of qs) taken.2),
        )

    within : p.place ≤ end_of before p.from → Drains before p (drained (end_of before p.from) (put_after (packet_of p) (map packet_of (waiting_in before p.from))))
    within le =
        let end = end_of before p.from in
        let now = end_of (before ++ (p ∷ [])) p.from in
        let waiting = waiting_in before p.from in
        let went = can_continue before p le in
        let queue = put_is p waiting ∙ ap (λ (qs : List Placed). map packet_of qs) (insert_first p waiting end le (after_end before p.from)) in
        let comes : absorb end (map span_of (p ∷ waiting)) ≡ now = absorbed end (span_of p) (map span_of waiting) le ∙ sym (end_by_queue before p le) in
        let found = drained_is end (p ∷ waiting) in
        let more = end_more before (p ∷ []) p.from in
        let first = reached_first p waiting now (omega (arith, le, more)) in (
          ap (λ (qs : List Packet). (drained end qs).end) queue ∙ found.0 ∙ comes,
          ap (λ (qs : List Packet). (drained end qs).emitted) queue ∙ found.1 ∙ ap (λ (n : ℕ). map packet_of (reached n (p ∷ waiting))) comes
              ∙ ap (λ (qs : List Placed). map packet_of qs) first.0 ∙ ap (λ (z : List Packet). packet_of p ∷ z) (released_map p (reached now waiting))
              ∙ sym (ap (λ (ts : List Turn). map own_of ts) went.0),
          ap (λ (qs : List Packet). (drained end qs).left) queue ∙ found.2 ∙ ap (λ (n : ℕ). map packet_of (left_waiting n (p ∷ waiting))) comes
              ∙ ap (λ (qs : List Placed). map packet_of qs) first.1 ∙ sym (ap (λ (qs : List Placed). map packet_of qs) went.1),
        )

-- ---- what is acknowledged by in-order packets

greatest_more : (d : End) (ts us : List Turn) → greatest_acknowledged d (ts ++ us) ≡ max (greatest_acknowledged d ts) (greatest_acknowledged d us)
greatest_more d [] us = omega arith
greatest_more d (t ∷ ts) us = let later = greatest_more d ts us in rw later (omega arith)

turns_one : (before : List Placed) (p : Placed) → turns before (p ∷ []) ≡ turns_at before p
unfolding turns
turns_one before p = append-nil (turns_at before p)

pub received_more : (before : List Placed) (p : Placed) (d : End) → received (before ++ (p ∷ [])) d ≡ max (received before d) (greatest_acknowledged d (turns_at before p))
received_more before p d =
    ap (greatest_acknowledged d) (turns_more [] before (p ∷ []) ∙ ap (λ (ts : List Turn). turns [] before ++ ts) (turns_one before p))
    ∙ greatest_more d (turns [] before) (turns_at before p)

reached_each : (P : Placed → Type 0) (end : ℕ) (qs : List Placed) → Each P qs → Each P (reached end qs)
reached_each P end [] h = tt
reached_each P end (q ∷ qs) h = by_test (nat_le q.place end) (reached_each P end qs h.1)
  where
    by_test : (b : Bool) → Each P (reached end qs) → Each P (cond b (q ∷ reached end qs) [])
    by_test true later = (h.0, later)
    by_test false later = tt

turned : (p : Placed) (qs : List Placed) → Each (λ (q : Placed). q.from ≡ p.from) qs → Each (λ (t : Turn). t.own.from ≡ p.from) (map (turn_at p) qs)
turned p [] h = tt
turned p (q ∷ qs) h = (h.0, turned p qs h.1)

pub turns_own : (before : List Placed) (p : Placed) → Each (λ (t : Turn). t.own.from ≡ p.from) (turns_at before p)
turns_own before p =
    elim (cases_lt (end_of before p.from) p.place) [
      | inl lt ↦ subst (Each (λ (t : Turn). t.own.from ≡ p.from)) (sym (takes before p lt).0) tt
      | inr le ↦
          let freed = reached (end_of (before ++ (p ∷ [])) p.from) (waiting_in before p.from) in
          subst (Each (λ (t : Turn). t.own.from ≡ p.from)) (sym (can_continue before p le).0)
          (refl, turned p freed (reached_each (λ (q : Placed). q.from ≡ p.from) (end_of (before ++ (p ∷ [])) p.from) (waiting_in before p.from) (of_direction before p.from)))
    ]

own_none : (d : End) (t : Turn) → t.own.from ≡ d → acknowledges d t ≡ 0
own_none active t e = rw e refl
own_none passive t e = rw e refl

none_own : (d : End) (ts : List Turn) → Each (λ (t : Turn). t.own.from ≡ d) ts → greatest_acknowledged d ts ≡ 0
none_own d [] h = refl
none_own d (t ∷ ts) h = rw (own_none d t h.0, none_own d ts h.1) refl

placed_ack : (d : End) (at own : Placed) (a : Option ℕ) → own.from ≡ d → acknowledges (other d) (turn_at at (record own { acknowledged = a })) ≡ unwrap_or a 0
placed_ack active at own None e = rw e refl
placed_ack active at own (Some n) e = rw e refl
placed_ack passive at own None e = rw e refl
placed_ack passive at own (Some n) e = rw e refl

acked_is : (d : End) (n : ℕ) (ts : List Turn) → Each (λ (t : Turn). t.own.from ≡ d) ts → acked n (map own_of ts) ≡ max n (greatest_acknowledged (other d) ts)
unfolding acked
acked_is d n [] h = omega arith
acked_is d n (t ∷ ts) h =
    let one : acknowledges (other d) t ≡ unwrap_or t.own.acknowledged 0 = placed_ack d t.at t.own t.own.acknowledged h.0 in
    acked_is d (max n (unwrap_or t.own.acknowledged 0)) ts h.1 ∙ rw one (omega arith)

-- ---- what is acknowledged by packets

confirmed_more : (xs ys : List Placed) (d : End) → confirmed (xs ++ ys) d ≡ max (confirmed xs d) (confirmed ys d)
confirmed_more [] ys d = omega arith
confirmed_more (x ∷ xs) ys d = let later = confirmed_more xs ys d in rw later (omega arith)

confirmed_own : (d : End) (p : Placed) → p.from ≡ d → confirmed_by d p ≡ 0
confirmed_own active p e = rw e refl
confirmed_own passive p e = rw e refl

confirmed_other : (d : End) (p : Placed) (a : Option ℕ) → p.from ≡ d → confirmed_by (other d) (record p { acknowledged = a }) ≡ unwrap_or a 0
confirmed_other active p None e = rw e refl
confirmed_other active p (Some n) e = rw e refl
confirmed_other passive p None e = rw e refl
confirmed_other passive p (Some n) e = rw e refl

confirmed_one : (before : List Placed) (p : Placed) (d : End) → confirmed (before ++ (p ∷ [])) d ≡ max (confirmed before d) (confirmed_by d p)
confirmed_one before p d = let more : confirmed (before ++ (p ∷ [])) d ≡ max (confirmed before d) (max (confirmed_by d p) 0) = confirmed_more before (p ∷ []) d in omega (arith, more)

-- ---- a step

abbrev Stepped : (End → ℕ) → List Placed → List Placed → Seen → Step → Type 0
Stepped base before after s r =
    (r.own ≡ flow_of base after s.from) × (r.peer ≡ flow_of base after (other s.from)) × (r.emitted ≡ released_after base before s)
    × (option_to_list r.placed ≡ map packet_of (placed_after base before s))

flow_is : (b : ℕ) (e f a c m n : ℕ) (w v : List Packet) → e ≡ f → a ≡ c → m ≡ n → w ≡ v
    → ◌≡◌ {A = Flow} (record { base = b; end = e; acknowledged = a; confirmed = m; waiting = w }) (record { base = b; end = f; acknowledged = c; confirmed = n; waiting = v })
flow_is b e f a c m n w v h k l o = rw (h, k, l, o) refl

step_one : (base : End → ℕ) (before : List Placed) (p : Placed)
    → ((step_by (flow_of base before p.from) (flow_of base before (other p.from)) (packet_of p)).own ≡ flow_of base (before ++ (p ∷ [])) p.from)
    × ((step_by (flow_of base before p.from) (flow_of base before (other p.from)) (packet_of p)).peer ≡ flow_of base (before ++ (p ∷ [])) (other p.from))
    × ((step_by (flow_of base before p.from) (flow_of base before (other p.from)) (packet_of p)).emitted ≡ map own_of (turns before (p ∷ [])))
step_one base before p =
    let d = p.from in
    let found = drains before p in
    let ts = turns_at before p in
    let own = turns_own before p in
    let r = drained (end_of before d) (put_after (packet_of p) (map packet_of (waiting_in before d))) in
    let kept : received before d ≡ received (before ++ (p ∷ [])) d = omega (arith, received_more before p d, none_own d ts own) in
    let reception : acked (received before (other d)) r.emitted ≡ received (before ++ (p ∷ [])) (other d) =
    ap (acked (received before (other d))) found.1 ∙ acked_is d (received before (other d)) ts own ∙ sym (received_more before p (other d)) in
    let mine : confirmed before d ≡ confirmed (before ++ (p ∷ [])) d = omega (arith, confirmed_one before p d, confirmed_own d p refl) in
    let its : max (confirmed before (other d)) (unwrap_or p.acknowledged 0) ≡ confirmed (before ++ (p ∷ [])) (other d) =
    ap (max (confirmed before (other d))) (sym (confirmed_other d p p.acknowledged refl)) ∙ sym (confirmed_one before p (other d)) in
    let same = stays before p in (
      flow_is (base d) r.end (end_of (before ++ (p ∷ [])) d) (received before d) (received (before ++ (p ∷ [])) d) (confirmed before d) (confirmed (before ++ (p ∷ [])) d)
          r.left (map packet_of (waiting_in (before ++ (p ∷ [])) d)) found.0 kept mine found.2,
      flow_is (base (other d)) (end_of before (other d)) (end_of (before ++ (p ∷ [])) (other d)) (acked (received before (other d)) r.emitted) (received (before ++ (p ∷ [])) (other d))
          (max (confirmed before (other d)) (unwrap_or p.acknowledged 0)) (confirmed (before ++ (p ∷ [])) (other d)) (map packet_of (waiting_in before (other d)))
          (map packet_of (waiting_in (before ++ (p ∷ [])) (other d))) (sym same.0) reception its (sym (ap (λ (qs : List Placed). map packet_of qs) same.1)),
      found.1 ∙ sym (ap (λ (us : List Turn). map own_of us) (turns_one before p)),
    )

abbrev StepAt : (End → ℕ) → List Placed → Seen → Option ℕ → Type 0
StepAt base before s o =
    ((step_at (flow_of base before s.from) (flow_of base before (other s.from)) s o).own
    ≡ flow_of base (before ++ placed_at (end_of before s.from) (confirmed before s.from) s o (ack_place before base (other s.from) s.acknowledged)) s.from)
    × ((step_at (flow_of base before s.from) (flow_of base before (other s.from)) s o).peer
    ≡ flow_of base (before ++ placed_at (end_of before s.from) (confirmed before s.from) s o (ack_place before base (other s.from) s.acknowledged)) (other s.from))
    × ((step_at (flow_of base before s.from) (flow_of base before (other s.from)) s o).emitted
    ≡ map own_of (turns before (placed_at (end_of before s.from) (confirmed before s.from) s o (ack_place before base (other s.from) s.acknowledged))))
    × (option_to_list (step_at (flow_of base before s.from) (flow_of base before (other s.from)) s o).placed
    ≡ map packet_of (placed_at (end_of before s.from) (confirmed before s.from) s o (ack_place before base (other s.from) s.acknowledged)))

turns_none : (before : List Placed) → [] ≡ map own_of (turns before [])
unfolding turns
turns_none before = refl

step_by_place : (base : End → ℕ) (before : List Placed) (s : Seen) (o : Option ℕ) → StepAt base before s o
step_by_place base before s None =
    let same = sym (append-nil before) in
    (ap (λ (qs : List Placed). flow_of base qs s.from) same, ap (λ (qs : List Placed). flow_of base qs (other s.from)) same, turns_none before, refl)
step_by_place base before s (Some place) =
    let one = step_one base before (placed_as (end_of before s.from) (confirmed before s.from) s place (acknowledged_at (end_of before (other s.from)) (base (other s.from)) s.acknowledged)) in
    (one.0, one.1, one.2, refl)

step_is : (base : End → ℕ) (before : List Placed) (s : Seen)
    → Stepped base before (before ++ placed_after base before s) s (step (flow_of base before s.from) (flow_of base before (other s.from)) (timed before s))
step_is base before s = step_by_place base before (timed before s) (place_of (end_of before s.from) (base s.from) s.number)

-- ---- of both directions

pub one_more : (base : End → ℕ) (before : List Seen) (s : Seen) → places base [] (before ++ (s ∷ [])) ≡ places base [] before ++ placed_after base (places base [] before) s
unfolding places
one_more base before s = places_more base [] before (s ∷ [])

abbrev Behind : (End → ℕ) → List Seen → Seen → End → Step → Type 0
Behind base before s d r =
    (r.own ≡ flow_of base (places base [] (before ++ (s ∷ []))) d) × (r.peer ≡ flow_of base (places base [] (before ++ (s ∷ []))) (other d))
    × (r.emitted ≡ released_after base (places base [] before) s) × (option_to_list r.placed ≡ map packet_of (placed_after base (places base [] before) s))

suffix_is : (base : End → ℕ) (before : List Seen) (s : Seen) (d : End) → s.from ≡ d
    → Behind base before s d (step (flow_of base (places base [] before) d) (flow_of base (places base [] before) (other d)) (timed (places base [] before) s))
suffix_is base before s d e =
    let ps = places base [] before in
    let stepped = step_is base ps s in
    let now = ap (λ (qs : List Placed). flow_of base qs s.from) (one_more base before s) in
    let peer = ap (λ (qs : List Placed). flow_of base qs (other s.from)) (one_more base before s) in
    subst (λ (d : End). Behind base before s d (step (flow_of base ps d) (flow_of base ps (other d)) (timed ps s))) e
    (stepped.0 ∙ sym now, stepped.1 ∙ sym peer, stepped.2, stepped.3)

pub known_is : (a b c d : Flow) (m n : ℕ) → a ≡ b → c ≡ d → m ≡ n
    → ◌≡◌ {A = Known} (record { active = a; passive = c; latest = m }) (record { active = b; passive = d; latest = n })
known_is a b c d m n e f g = rw (e, f, g) refl

-- ---- the latest time

latest_more : (xs ys : List Placed) → latest (xs ++ ys) ≡ max (latest xs) (latest ys)
latest_more [] ys = omega arith
latest_more (x ∷ xs) ys = let later = latest_more xs ys in rw later (omega arith)

latest_by : (before : List Placed) (end acked : ℕ) (s : Seen) (o ack : Option ℕ) (placed : Option Packet)
    → option_to_list placed ≡ map packet_of (placed_at end acked (timed before s) o ack) → latest_after (latest before) placed ≡ latest (before ++ placed_at end acked (timed before s) o ack)
latest_by before end acked s None ack None e = ap latest (sym (append-nil before))
latest_by before end acked s None ack (Some p) e = absurd cc
latest_by before end acked s (Some place) ack None e = absurd cc
latest_by before end acked s (Some place) ack (Some p) e =
    let q = placed_as end acked (timed before s) place ack in
    let same : p ≡ packet_of q = cc in
    let time : p.time ≡ max (latest before) s.time = ap (λ (z : Packet). z.time) same in
    let more : latest (before ++ q ∷ []) ≡ max (latest before) (max (max (latest before) s.time) 0) = latest_more before (q ∷ []) in
    omega (arith, time, more)

latest_is : (base : End → ℕ) (before : List Seen) (s : Seen) (placed : Option Packet)
    → option_to_list placed ≡ map packet_of (placed_after base (places base [] before) s)
    → latest_after (latest (places base [] before)) placed ≡ latest (places base [] (before ++ (s ∷ [])))
latest_is base before s placed e =
    let ps = places base [] before in
    latest_by ps (end_of ps s.from) (confirmed ps s.from) s (place_of (end_of ps s.from) (base s.from) s.number) (ack_place ps base (other s.from) s.acknowledged) placed e
    ∙ sym (ap latest (one_more base before s))

-- With the latest time so far.
abbrev pub raised : Known → Seen → Seen
raised k s = record s { time = max k.latest s.time }

pub active_continues : (old : Known) (emitted : List Packet) (s t : Seen) (own peer : Flow) (now : ℕ) (later : List Packet) (placed : Option Packet) → t ≡ raised old s → s.from ≡ active
    → own ≡ (step old.active old.passive t).own → peer ≡ (step old.active old.passive t).peer → later ≡ emitted ++ (step old.active old.passive t).emitted
    → placed ≡ (step old.active old.passive t).placed → now ≡ latest_after old.latest placed
    → ContinuesWith old emitted s (record { active = own; passive = peer; latest = now }) later placed
active_continues old emitted s t own peer clock later placed is from f g h k l base before e =
    let ps = places base [] before in
    let now = places base [] (before ++ (s ∷ [])) in
    let r = step (flow_of base ps active) (flow_of base ps passive) (timed ps s) in
    let subsequent : Behind base before s active r = suffix_is base before s active from in
    let same : step old.active old.passive t ≡ r = ap (step old.active old.passive) is ∙ ap (λ (k : Known). step k.active k.passive (raised k s)) e in
    let places_it : option_to_list placed ≡ map packet_of (placed_after base ps s) = ap option_to_list (k ∙ ap (λ (z : Step). z.placed) same) ∙ subsequent.3 in
    let clocks : clock ≡ latest now = l ∙ ap (λ (k : Known). latest_after k.latest placed) e ∙ latest_is base before s placed places_it in (
      known_is own (flow_of base now active) peer (flow_of base now passive) clock (latest now)
          (f ∙ ap (λ (z : Step). z.own) same ∙ subsequent.0) (g ∙ ap (λ (z : Step). z.peer) same ∙ subsequent.1) clocks,
      h ∙ ap (λ (z : Step). emitted ++ z.emitted) same ∙ ap (λ (z : List Packet). emitted ++ z) subsequent.2,
      places_it,
    )

pub passive_continues : (old : Known) (emitted : List Packet) (s t : Seen) (own peer : Flow) (now : ℕ) (later : List Packet) (placed : Option Packet) → t ≡ raised old s → s.from ≡ passive
    → own ≡ (step old.passive old.active t).own → peer ≡ (step old.passive old.active t).peer → later ≡ emitted ++ (step old.passive old.active t).emitted
    → placed ≡ (step old.passive old.active t).placed → now ≡ latest_after old.latest placed
    → ContinuesWith old emitted s (record { active = peer; passive = own; latest = now }) later placed
passive_continues old emitted s t own peer clock later placed is from f g h k l base before e =
    let ps = places base [] before in
    let now = places base [] (before ++ (s ∷ [])) in
    let r = step (flow_of base ps passive) (flow_of base ps active) (timed ps s) in
    let subsequent : Behind base before s passive r = suffix_is base before s passive from in
    let same : step old.passive old.active t ≡ r = ap (step old.passive old.active) is ∙ ap (λ (k : Known). step k.passive k.active (raised k s)) e in
    let places_it : option_to_list placed ≡ map packet_of (placed_after base ps s) = ap option_to_list (k ∙ ap (λ (z : Step). z.placed) same) ∙ subsequent.3 in
    let clocks : clock ≡ latest now = l ∙ ap (λ (k : Known). latest_after k.latest placed) e ∙ latest_is base before s placed places_it in (
      known_is peer (flow_of base now active) own (flow_of base now passive) clock (latest now)
          (g ∙ ap (λ (z : Step). z.peer) same ∙ subsequent.1) (f ∙ ap (λ (z : Step). z.own) same ∙ subsequent.0) clocks,
      h ∙ ap (λ (z : Step). emitted ++ z.emitted) same ∙ ap (λ (z : List Packet). emitted ++ z) subsequent.2,
      places_it,
    )

-- Nothing is known before the first segment.

pub begins : (base : End → ℕ) (d : End) → ◌≡◌ {A = Flow} (record { base = base d; end = 0; acknowledged = 0; confirmed = 0; waiting = [] }) (flow_of base [] d)
unfolding bound run turns
begins base d = refl

pub turns_go_on : (base : End → ℕ) (before : List Seen) (s : Seen)
    → turns [] (places base [] (before ++ (s ∷ []))) ≡ turns [] (places base [] before) ++ turns (places base [] before) (placed_after base (places base [] before) s)
turns_go_on base before s = ap (turns []) (one_more base before s) ∙ turns_more [] (places base [] before) (placed_after base (places base [] before) s)
