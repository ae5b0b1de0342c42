-- What is final after a packet, and emitted.
use Rattle.std.proofs.Common.{◌≡◌, ◌<◌, ◌≤◌, ◌++◌, ◌∷◌, ℕ, suc, Bool, true, false, cond, nat_lt, List, [], length, filter, map, min, take, Option, Some, None, Result, Ok, refl, sym, ap, subst, ◌∙◌, arith, inl, inr}
use Rattle.std.proofs.lemmas.Bool.{ltb-true, lt-ltb, le-ltb, leb-true, leb-false, le-leb, lt-leb, cases_lt}
use Rattle.std.proofs.lemmas.List.{append-nil, append_assoc}
use Rattle.capture_tcp.specs.declared.ending.Ending.{Ending}
use Rattle.capture_tcp.specs.declared.ending.Ending.TheVariants as ending
use Rattle.capture_tcp.specs.declared.losses.BothEnds.{BothEnds}
use Rattle.capture_tcp.specs.declared.losses.Need.{Need}
use Rattle.capture_tcp.specs.declared.packet.Packet.{Packet}
use Rattle.capture_tcp.specs.declared.packet.Side.{Side}
use Rattle.capture_tcp.specs.declared.reader_state.Arrival.{Arrival}
use Rattle.capture_tcp.specs.declared.reader_state.Reading.{Reading}
use Rattle.capture_tcp.specs.declared.streams.Due.{Due}
use Rattle.capture_tcp.specs.declared.streams.Stream.{Stream}
use Rattle.capture_tcp.specs.declared.emitter.Emitter.{Emitter}
use Rattle.capture_tcp.specs.declared.events.TimedEvent.{TimedEvent}
use Rattle.capture_tcp.specs.TcpStreams.{End, active, passive, Placed, Turn, Both, both_streams, received, turns, loss, difference, earlier, breaks_off, contradicts, is_beyond}
use Rattle.capture_tcp.specs.Losses.{FindsLoss, IsLoss, IsNext, IsWatched, Watches, WatchesOn, first_of, need_at}
use Rattle.capture_tcp.specs.ConnectionEvents.{Entry}
use Rattle.capture_tcp.specs.EventSteps.{entry_as}
use Rattle.capture_tcp.specs.DeliverySteps.{Log, and_log, due_of, is_over, remains_after, emit_turns}
use Rattle.capture_tcp.specs.Emitted.{IsHeldBack, is_sure}
use Rattle.capture_tcp.specs.ReaderState.{AreRising, AreStreamsOf, HasPassed, IsStreamOf, Waits, lefts, log_of, emitted_dues, initial_state}
use Rattle.capture_tcp.specs.InnerReaderState.{IsClosed, IsLimit, EmitsBefore}
use Rattle.capture_tcp.specs.EndOfStream.{IsEnded, broken, ended_at, ended_by, ends_for_good, is_known, packets_after}
use Rattle.capture_tcp.specs.InnerEndOfStream.{BreaksAt, Finishes, EachAfter}
use Rattle.capture_tcp.specs.PacketArrival.{IsReading, breaks_sure, is_first}
use Rattle.capture_tcp.specs.InnerPacketArrival.{Arrives, ContinuesWith, MayLose, PassesBoth, PassesTo, Reacts, EmitsIfSettled, EmitsSettled}
use Rattle.capture_tcp.proofs.Lists.{Each, weaken}
use Rattle.capture_tcp.proofs.Numbered.{before_later, difference_more, later_packets, loss_past, passes, passes_both, passes_earlier, rising_after, rising_front, rising_lower}
use Rattle.capture_tcp.proofs.DeliveredPackets.{Ordered, turns_each, turns_ordered}
use Rattle.capture_tcp.proofs.Awaited.{due_each, sure_kept}
use Rattle.capture_tcp.proofs.Finishing.{after_each, held_back, none_kept, ordered_back}
use Rattle.capture_tcp.proofs.WatchedBytes.{returns_loss, watched_more}

-- ---- what comes before the first packet with missing data

sure_passes : (o : Option ℕ) (n : ℕ) → is_sure o n ≡ true → passes o n ≡ true
sure_passes None n e = e
sure_passes (Some k) n e = e

passes_sure : (o : Option ℕ) (n : ℕ) → passes o n ≡ true → is_sure o n ≡ true
passes_sure None n e = e
passes_sure (Some k) n e = e

before_loss : (settled rest later : List Placed) (needs : List Need) (n : ℕ) → needs ≡ map need_at rest → AreRising 0 (settled ++ (rest ++ later)) → AreRising n later
    → passes (first_of needs) n ≡ true → passes (loss settled (rest ++ later)) n ≡ true
before_loss settled [] later needs n e h r f = loss_past n settled later r
before_loss settled (q ∷ rest) later needs n e h r f =
    let first : first_of needs ≡ Some q.packet = ap first_of e in
    let lt = ltb-true n q.packet (subst (λ (o : Option ℕ). passes o n ≡ true) first f) in
    loss_past n settled (q ∷ (rest ++ later)) (lt, (rising_after 0 settled (q ∷ (rest ++ later)) h).1)

sure_limit : (needs : List Need) (ps : List Placed) (d : Option ℕ) → Watches needs ps → difference [] ps ≡ d → IsLimit true (earlier (first_of needs) d) ps
sure_limit needs ps d w e later h n r sure =
    let both = passes_both (first_of needs) d n (sure_passes (earlier (first_of needs) d) n sure) in
    let whole : ps ++ later ≡ w.0 ++ (w.1 ++ later) = ap (λ (z : List Placed). z ++ later) w.2 ∙ append_assoc w.0 w.1 later in
    let lost : passes (loss [] (ps ++ later)) n ≡ true =
    subst (λ (o : Option ℕ). passes o n ≡ true) (sym (w.4 later)) (before_loss w.0 w.1 later needs n w.3 (subst (AreRising 0) whole h) r both.0) in
    let differs = difference_more n [] ps later r (subst (λ (o : Option ℕ). passes o n ≡ true) (sym e) both.1) in
    passes_sure (breaks_off (ps ++ later)) n (passes_earlier (loss [] (ps ++ later)) (difference [] (ps ++ later)) n lost differs)

-- ---- what is dropped

passed : (s r : Stream) (acked : ℕ) (ps : List Placed) (d : End) → acked ≡ received ps d → IsStreamOf s ps d → PassesTo s acked r → IsStreamOf r ps d
passed s r acked ps d e h p =
    let at = p.0 in
    let place = p.1 in
    let low = h.1 in
    let high = h.2 in
    let known = h.3 in
    (p.2 ps d h.0, omega (arith, at, place, low), omega (arith, at, high), omega (arith, place, known, e))

waits_same : (more : Bool) (t u : Emitter) (queue : List Due) (ps : List Placed) (emitted : List TimedEvent) → u.emitter_state ≡ t.emitter_state → u.opened ≡ t.opened
    → u.streams.active.place ≡ t.streams.active.place → u.streams.passive.place ≡ t.streams.passive.place → Waits more t queue ps emitted → Waits more u queue ps emitted
waits_same more t u queue ps emitted emitter_state opened a b w =
    (w.0, w.1, w.2, w.3, λ later h. w.4 later h ∙ same_log (ps ++ later) (w.1 ++ turns ps later), λ later h. let has = w.5 later h in (has.0, has.1 ∙ same_lefts (ps ++ later)))
  where
    same_lefts : (all : List Placed) → lefts t.streams all ≡ lefts u.streams all
    same_lefts all = rw (a, b) refl

    same_log : (all : List Placed) (us : List Turn) → and_log (map entry_as emitted) (emit_turns t.emitter_state t.opened (lefts t.streams all) (emitted_dues all us))
        ≡ and_log (map entry_as emitted) (emit_turns u.emitter_state u.opened (lefts u.streams all) (emitted_dues all us))
    same_log all us = rw (emitter_state, opened, a, b) refl

pub nothing_follows : (ps : List Placed) → AreRising 0 ps → AreRising 0 (ps ++ [])
nothing_follows ps h = subst (AreRising 0) (sym (append-nil ps)) h

-- What waits is not emitted for these packets alone.
pub none_waits : (limit : Option ℕ) (queue : List Due) (gone rest : List Turn) (ps : List Placed) → AreRising 0 ps → limit ≡ breaks_off ps → turns [] ps ≡ gone ++ rest
    → queue ≡ map due_of rest → IsHeldBack limit queue → emitted_dues ps rest ≡ []
none_waits limit queue gone rest ps rises is whole waits back =
    let held : IsHeldBack (breaks_off ps) (map due_of rest) = subst (λ (o : Option ℕ). IsHeldBack o (map due_of rest)) is (subst (IsHeldBack limit) waits back) in
    none_kept ps rest (held_back (breaks_off ps) rest (ordered_back gone rest (subst Ordered whole (turns_ordered 0 [] ps rises))) held)

-- The offsets up to which each direction is emitted.
emitted_places : (limit : Option ℕ) (t : Emitter) (queue : List Due) (ps : List Placed) (emitted : List TimedEvent) → AreRising 0 ps → limit ≡ breaks_off ps → Waits true t queue ps emitted
    → IsHeldBack limit queue → lefts t.streams ps ≡ remains_after (both_streams ps) (emitted_dues ps (turns [] ps))
emitted_places limit t queue ps emitted rises is w back =
    let has = subst (HasPassed t w.0) (append-nil ps) (w.5 [] (nothing_follows ps rises)) in
    let dues : emitted_dues ps (turns [] ps) ≡ map due_of w.0 =
    ap (emitted_dues ps) w.2 ∙ sure_kept ps w.0 w.1 (due_each (λ (d : Due). is_sure (breaks_off ps) d.at ≡ true) w.0 has.0)
    ∙ ap (λ (ds : List Due). map due_of w.0 ++ ds) (none_waits limit queue w.0 w.1 ps rises is w.2 w.3 back) ∙ append-nil (map due_of w.0) in
    sym has.1 ∙ ap (remains_after (both_streams ps)) (sym dues)

-- It is buffered from there on.
kept_from : (s r : Stream) (acked emitted : ℕ) (ps : List Placed) (d : End) → acked ≡ received ps d → IsStreamOf s ps d → PassesTo s acked r → s.place ≡ emitted
    → r.held.place ≡ min (received ps d) emitted
kept_from s r acked emitted ps d e h p is =
    let place = p.1 in
    let low = h.1 in
    let known = h.3 in
    omega (arith, place, low, known, e, is)

closed_all : (ps : List Placed) (emitted : List TimedEvent) → IsClosed true ps emitted → IsEnded true ps emitted ending.Closed
closed_all ps emitted closed lt h =
    let log = closed lt h in
    (sym (ap (λ (l : Log). l.emitted) log), sym (ap (λ (l : Log). ended_by l.closed (ps ++ lt)) log))

closed_known : (ps : List Placed) (emitted : List TimedEvent) → AreRising 0 ps → IsClosed true ps emitted → is_known ps ≡ true
closed_known ps emitted rises closed =
    let log = ap log_of (sym (append-nil ps)) ∙ closed [] (nothing_follows ps rises) in
    ap (λ (l : Log). ends_for_good (ended_by l.closed ps) ps) log

pub sure_closed : (acked : BothEnds) (old new : Reading) (next : Emitter) (left : List Due) (emitted later : List TimedEvent) (first limit : Option ℕ) → first ≡ first_of old.losses
    → limit ≡ earlier first old.differs → EmitsBefore limit old.emitter old.due.items emitted next left later true → new.losses ≡ old.losses → EmitsIfSettled acked old emitted new later (Some ending.Closed)
sure_closed acked old new next left emitted later first limit e f emits losses unbroken away ps rises acks r =
    let is : limit ≡ earlier (first_of old.losses) old.differs = f ∙ ap (λ (o : Option ℕ). earlier o old.differs) e in
    let sound = subst (λ (o : Option ℕ). IsLimit true o ps) (sym is) (sure_limit old.losses ps old.differs r.0 r.1) in
    let closed = (emits away true ps rises (nothing_follows ps rises) r.2 sound r.3).1 in
    (closed_all ps (away ++ later) closed, closed_known ps (away ++ later) rises closed, subst (λ (ns : List Need). IsWatched 4097 ns ps) (sym losses) (watched_more old.losses ps r.0))

pub sure_open : (acked : BothEnds) (old new : Reading) (next : Emitter) (left : List Due) (emitted later : List TimedEvent) (first limit : Option ℕ) → first ≡ first_of old.losses
    → limit ≡ earlier first old.differs → EmitsBefore limit old.emitter old.due.items emitted next left later false → PassesBoth next.streams acked new.emitter.streams
    → new.losses ≡ old.losses → new.differs ≡ old.differs → new.due.items ≡ left → new.emitter.emitter_state ≡ next.emitter_state → new.emitter.opened ≡ next.opened
    → EmitsIfSettled acked old emitted new later None
sure_open acked old new next left emitted later first limit e f emits pass losses differs queue emitter_state opened unbroken away ps rises acks r =
    let is : limit ≡ earlier (first_of old.losses) old.differs = f ∙ ap (λ (o : Option ℕ). earlier o old.differs) e in
    let sound = subst (λ (o : Option ℕ). IsLimit true o ps) (sym is) (sure_limit old.losses ps old.differs r.0 r.1) in
    let h = emits away true ps rises (nothing_follows ps rises) r.2 sound r.3 in
    let limit_is : limit ≡ breaks_off ps = is ∙ ap (λ (o : Option ℕ). earlier o old.differs) (returns_loss old.losses ps r.0) ∙ ap (earlier (loss [] ps)) (sym r.1) in
    let emitted_to = emitted_places limit next left ps (away ++ later) rises limit_is h.1.0 h.1.1 in (
      (
        subst (λ (ns : List Need). Watches ns ps) (sym losses) r.0,
        r.1 ∙ sym differs,
        (
          passed next.streams.active new.emitter.streams.active acked.active ps active (ap (λ (b : BothEnds). b.active) acks) h.0.0 pass.0,
          passed next.streams.passive new.emitter.streams.passive acked.passive ps passive (ap (λ (b : BothEnds). b.passive) acks) h.0.1 pass.1,
        ),
        subst (λ (q : List Due). Waits true new.emitter q ps (away ++ later)) (sym queue) (waits_same true next new.emitter left ps (away ++ later) emitter_state opened pass.0.0 pass.1.0 h.1.0),
      ),
      subst (λ (q : List Due). IsHeldBack (earlier (first_of new.losses) new.differs) q) (sym queue)
          (subst (λ (o : Option ℕ). IsHeldBack o left) (is ∙ ap (λ (ns : List Need). earlier (first_of ns) old.differs) (sym losses) ∙ ap (earlier (first_of new.losses)) (sym differs)) h.1.1),
      (
        kept_from next.streams.active new.emitter.streams.active acked.active (initial_state ps active) ps active (ap (λ (b : BothEnds). b.active) acks) h.0.0 pass.0
            (ap (λ (b : Both). b.active.place) emitted_to),
        kept_from next.streams.passive new.emitter.streams.passive acked.passive (initial_state ps passive) ps passive (ap (λ (b : BothEnds). b.passive) acks) h.0.1 pass.1
            (ap (λ (b : Both). b.passive.place) emitted_to),
      ),
      (
        ap is_over emitter_state ∙ h.1.2,
        ap (λ (ns : List Need). breaks_sure (first_of ns) new.differs) losses ∙ ap (breaks_sure (first_of old.losses)) differs ∙ unbroken,
      ),
    )

-- ---- the number of packets after one

all_after : (k m : ℕ) (ps : List Placed) → k ≤ m → AreRising m ps → packets_after k ps ≡ length ps
all_after k m [] le h = refl
all_after k m (p ∷ ps) le h = rw (lt-ltb k p.packet (omega (arith, le, h.0))) (ap (λ (n : ℕ). suc n) (all_after k p.packet ps (omega (arith, le, h.0)) h.1))

pub after_single : (n : ℕ) (settled : List Placed) (q : Placed) (next : List Placed) → AreRising n (settled ++ q ∷ next) → packets_after q.packet (settled ++ q ∷ next) ≡ length next
after_single n [] q next h = rw (le-ltb q.packet q.packet (omega arith)) (all_after q.packet q.packet next (omega arith) h.1)
after_single n (s ∷ ss) q next h =
    let later = (rising_after s.packet ss (q ∷ next) h.1).0 in
    rw (le-ltb q.packet s.packet (omega (arith, later))) (after_single s.packet ss q next h.1)

after_loss : (k : ℕ) (ps : List Placed) → IsLoss k ps → AreRising 0 ps → packets_after k ps ≡ 4096
after_loss k ps lost rises =
    let n = after_single 0 lost.0 lost.1 lost.2 (subst (AreRising 0) lost.3 rises) in
    ap (packets_after k) lost.3 ∙ ap (λ (m : ℕ). packets_after m (lost.0 ++ lost.1 ∷ lost.2)) (sym lost.4) ∙ n ∙ lost.5

-- Fewer than 4,096 packets come after one that may be lost.
after_watched : (needs : List Need) (ps : List Placed) (k : ℕ) → Watches needs ps → AreRising 0 ps → first_of needs ≡ Some k → packets_after k ps < 4096
after_watched needs ps k w rises first = by_rest w.1 w.2 w.3 w.6
  where
    by_rest : (rest : List Placed) → ps ≡ w.0 ++ rest → needs ≡ map need_at rest → length rest ≤ 4096 → packets_after k ps < 4096
    by_rest [] whole same most = absurd (let no : None ≡ Some k = sym (ap first_of same) ∙ first in cc)
    by_rest (q ∷ next) whole same most =
        let found : Some q.packet ≡ Some k = sym (ap first_of same) ∙ first in
        let is : q.packet ≡ k = cc in
        let n : packets_after k ps ≡ length next =
        ap (packets_after k) whole ∙ ap (λ (m : ℕ). packets_after m (w.0 ++ q ∷ next)) (sym is) ∙ after_single 0 w.0 q next (subst (AreRising 0) whole rises) in
        omega (arith, n, most)

after_with_more : (k : ℕ) (ps qs : List Placed) → packets_after k ps ≤ packets_after k (ps ++ qs)
after_with_more k [] qs = omega arith
after_with_more k (p ∷ ps) qs = by_test (nat_lt k p.packet) (after_with_more k ps qs)
  where
    kept : List Placed → List Placed
    kept rs = filter (λ (q : Placed). nat_lt k q.packet) rs

    by_test : (b : Bool) → packets_after k ps ≤ packets_after k (ps ++ qs)
        → length (cond b (p ∷ kept ps) (kept ps)) ≤ length (cond b (p ∷ kept (ps ++ qs)) (kept (ps ++ qs)))
    by_test true le = omega (arith, le)
    by_test false le = le

-- ---- whether the ending is known

known_by : (closed : Bool) (ps : List Placed) → ends_for_good (broken (loss [] ps) (difference [] ps)) ps ≡ true → ends_for_good (ended_by closed ps) ps ≡ true
known_by true ps h = refl
known_by false ps h = h

lost_known : (k : ℕ) (d : Option ℕ) (ps : List Placed) → packets_after k ps ≡ 4096 → ends_for_good (broken (Some k) d) ps ≡ true
lost_known k None ps e = le-leb 4096 (packets_after k ps) (omega (arith, e))
lost_known k (Some j) ps e = by_test (nat_lt k j)
  where
    by_test : (b : Bool) → ends_for_good (cond b (ending.Lost k) (ending.Differs j)) ps ≡ true
    by_test true = le-leb 4096 (packets_after k ps) (omega (arith, e))
    by_test false = refl

unknown_by : (first d : Option ℕ) (ps : List Placed) → breaks_sure first d ≡ false → ((k : ℕ) → first ≡ Some k → packets_after k ps < 4096)
    → ends_for_good (broken first d) ps ≡ false
unknown_by None None ps e few = refl
unknown_by (Some j) None ps e few = lt-leb 4096 (packets_after j ps) (few j refl)
unknown_by None (Some k) ps e few = absurd cc
unknown_by (Some j) (Some k) ps e few =
    let lt = leb-false k j e in
    rw (lt-ltb j k (omega (arith, lt))) (lt-leb 4096 (packets_after j ps) (few j refl))

good_more : (e : Ending) (ps qs : List Placed) → ends_for_good e ps ≡ true → ends_for_good e (ps ++ qs) ≡ true
good_more ending.Closed ps qs h = refl
good_more ending.Complete ps qs h = absurd cc
good_more (ending.Lost k) ps qs h =
    let many = leb-true 4096 (packets_after k ps) h in
    le-leb 4096 (packets_after k (ps ++ qs)) (omega (arith, many, after_with_more k ps qs))
good_more (ending.Differs k) ps qs h = refl

-- After the end it stays known.
pub known_more : (ps qs : List Placed) (emitted : List TimedEvent) (e : Ending) → AreRising 0 (ps ++ qs) → IsEnded true ps emitted e → is_known ps ≡ true → is_known (ps ++ qs) ≡ true
known_more ps qs emitted e rises h known =
    let here : e ≡ ended_at ps = (h [] (nothing_follows ps (rising_front 0 ps qs rises))).1 ∙ ap ended_at (append-nil ps) in
    subst (λ (x : Ending). ends_for_good x (ps ++ qs) ≡ true) (h qs rises).1 (good_more e ps qs (subst (λ (x : Ending). ends_for_good x ps ≡ true) (sym here) known))

-- What was emitted is all that these packets give, and nothing has ended it.
pub log_now : (r : Reading) (ps : List Placed) (emitted : List TimedEvent) → AreRising 0 ps → IsReading r ps emitted
    → log_of ps ≡ record { emitted = map entry_as emitted; closed = is_over r.emitter.emitter_state }
unfolding turns emit_turns
log_now r ps emitted rises h =
    let w = h.0.3 in
    let t = r.emitter in
    let limit : earlier (first_of r.losses) r.differs ≡ breaks_off ps =
    ap (λ (o : Option ℕ). earlier o r.differs) (returns_loss r.losses ps h.0.0) ∙ ap (earlier (loss [] ps)) (sym h.0.1) in
    let none = none_waits (earlier (first_of r.losses) r.differs) r.due.items w.0 w.1 ps rises limit w.2 w.3 h.1 in
    let at = ps ++ [] in
    ap log_of (sym (append-nil ps)) ∙ w.4 [] (nothing_follows ps rises)
    ∙ ap (λ (ts : List Turn). and_log (map entry_as emitted) (emit_turns t.emitter_state t.opened (lefts t.streams at) (emitted_dues at ts))) (append-nil w.1)
    ∙ ap (λ (z : List Placed). and_log (map entry_as emitted) (emit_turns t.emitter_state t.opened (lefts t.streams at) (emitted_dues z w.1))) (append-nil ps)
    ∙ ap (λ (ds : List Due). and_log (map entry_as emitted) (emit_turns t.emitter_state t.opened (lefts t.streams at) ds)) none
    ∙ ap (λ (es : List Entry). record { emitted = es; closed = is_over t.emitter_state }) (append-nil (map entry_as emitted))

pub unknown_yet : (r : Reading) (ps : List Placed) (emitted : List TimedEvent) → AreRising 0 ps → IsReading r ps emitted → is_known ps ≡ false
unknown_yet r ps emitted rises h =
    ap (λ (l : Log). ends_for_good (ended_by l.closed ps) ps) (log_now r ps emitted rises h) ∙ ap (λ (b : Bool). ends_for_good (ended_by b ps) ps) h.3.0
    ∙ ap (λ (o : Option ℕ). ends_for_good (broken o (difference [] ps)) ps) (sym (returns_loss r.losses ps h.0.0))
    ∙ ap (λ (o : Option ℕ). ends_for_good (broken (first_of r.losses) o) ps) h.0.1
    ∙ unknown_by (first_of r.losses) r.differs ps h.3.1 (λ k first. after_watched r.losses ps k h.0.0 rises first)

-- ---- a packet is lost

loss_among : (P : ℕ → Type 0) (before ps : List Placed) (k : ℕ) → Each (λ (p : Placed). P p.packet) ps → loss before ps ≡ Some k → P k
unfolding loss
loss_among P before [] k h e = absurd cc
loss_among P before (p ∷ ps) k h e = by_test (is_beyond (before ++ (p ∷ take 4096 ps)) p) e (loss_among P (before ++ (p ∷ [])) ps k h.1)
  where
    by_test : (b : Bool) → cond b (Some p.packet) (loss (before ++ (p ∷ [])) ps) ≡ Some k → (loss (before ++ (p ∷ [])) ps ≡ Some k → P k) → P k
    by_test true e later = let same : p.packet ≡ k = cc in subst P same h.0
    by_test false e later = later e

difference_stays : (before xs ys : List Placed) (k : ℕ) → difference before xs ≡ Some k → difference before (xs ++ ys) ≡ Some k
unfolding difference
difference_stays before [] ys k e = absurd cc
difference_stays before (p ∷ ps) ys k e = by_test (contradicts before p.from (received before p.from) p.place p.cells) e (difference_stays (before ++ (p ∷ [])) ps ys k)
  where
    by_test : (b : Bool) → cond b (Some p.packet) (difference (before ++ (p ∷ [])) ps) ≡ Some k
        → (difference (before ++ (p ∷ [])) ps ≡ Some k → difference (before ++ (p ∷ [])) (ps ++ ys) ≡ Some k)
        → cond b (Some p.packet) (difference (before ++ (p ∷ [])) (ps ++ ys)) ≡ Some k
    by_test true e later = e
    by_test false e later = later e

abbrev Breaks : Option ℕ → Option ℕ → ℕ → Option ℕ → Type 0
Breaks l o k d = (earlier l o ≡ earlier (Some k) d) × (broken (Some k) d ≡ broken l o)

breaks_by : (k : ℕ) (d o : Option ℕ) → ((j : ℕ) → d ≡ Some j → o ≡ Some j) → (d ≡ None → passes o k ≡ true) → Breaks (Some k) o k d
breaks_by k (Some j) o same past = rw (same j refl) (refl, refl)
breaks_by k None None same past = (refl, refl)
breaks_by k None (Some j) same past =
    let lt = ltb-true k j (past refl) in
    let least : min k j ≡ k = omega (arith, lt) in
    rw (least, lt-ltb k j lt) (refl, refl)

not_sure_at : (k : ℕ) (d : Option ℕ) → is_sure (earlier (Some k) d) k ≡ false
not_sure_at k None = le-ltb k k (omega arith)
not_sure_at k (Some j) = le-ltb k (min k j) (omega arith)

lost_breaks : (k : ℕ) (d : Option ℕ) (ps : List Placed) → ((later : List Placed) → loss [] (ps ++ later) ≡ Some k) → difference [] ps ≡ d
    → BreaksAt true (earlier (Some k) d) (broken (Some k) d) ps
lost_breaks k d ps lost differs later h =
    let here : loss [] ps ≡ Some k = ap (loss []) (sym (append-nil ps)) ∙ lost [] in
    let rises : AreRising k later = loss_among (λ n. AreRising n later) [] ps k (before_later 0 ps later h) here in
    let o = difference [] (ps ++ later) in
    let by = breaks_by k d o (λ j e. difference_stays [] ps later j (differs ∙ e))
    (λ e. difference_more k [] ps later rises (subst (λ (z : Option ℕ). passes z k ≡ true) (sym (differs ∙ e)) refl)) in
    let subsequent = after_each (earlier (Some k) d) k (turns ps later) (not_sure_at k d)
    (turns_each (λ (p : Placed). k ≤ p.packet) ps later
    (weaken (λ (p : Placed). k < p.packet) (λ (p : Placed). k ≤ p.packet) later (λ p lt. omega (arith, lt)) (later_packets k later rises))) in
    (ap (λ (l : Option ℕ). earlier l o) (lost later) ∙ by.0, by.1 ∙ ap (λ (l : Option ℕ). broken l o) (sym (lost later)), subsequent)

pub lost_ends : (k : ℕ) (lost : Option ℕ) (acked : BothEnds) (old new : Reading) (emitted later : List TimedEvent) (e : Ending) → lost ≡ Some k
    → Finishes (Some k) old.differs old.emitter old.due.items emitted later e → new.losses ≡ old.losses → ContinuesWith lost acked old emitted new later (Some e)
lost_ends k lost acked old new emitted later e is finishes losses away ps rises acks may differs streams waits =
    let both : IsLoss k ps × IsWatched 4097 old.losses ps = subst (λ (o : Option ℕ). MayLose o old.losses ps) is may in
    let sure = both.0 in
    let here : loss [] ps ≡ Some k = ap (loss []) (sym (append-nil ps)) ∙ sure.6 [] in (
      finishes away true ps rises (nothing_follows ps rises) streams (lost_breaks k old.differs ps sure.6 differs) waits,
      known_by (log_of ps).closed ps
          (ap (λ (o : Option ℕ). ends_for_good (broken o (difference [] ps)) ps) here ∙ ap (λ (o : Option ℕ). ends_for_good (broken (Some k) o) ps) differs
          ∙ lost_known k old.differs ps (after_loss k ps sure rises)),
      subst (λ (ns : List Need). IsWatched 4097 ns ps) (sym losses) both.1,
    )

pub none_lost : (lost : Option ℕ) (acked : BothEnds) (old new : Reading) (emitted later : List TimedEvent) (r : Option Ending) → lost ≡ None
    → EmitsSettled acked old emitted new later r → ContinuesWith lost acked old emitted new later r
none_lost lost acked old new emitted later r is emits away ps rises acks may differs streams waits =
    emits away ps rises acks (subst (λ (o : Option ℕ). MayLose o old.losses ps) is may, differs, streams, waits)

-- ---- a copy conflicts, and nothing before it is missing

difference_among : (P : ℕ → Type 0) (before ps : List Placed) (k : ℕ) → Each (λ (p : Placed). P p.packet) ps → difference before ps ≡ Some k → P k
unfolding difference
difference_among P before [] k h e = absurd cc
difference_among P before (p ∷ ps) k h e =
    by_test (contradicts before p.from (received before p.from) p.place p.cells) e (difference_among P (before ++ (p ∷ [])) ps k h.1)
  where
    by_test : (b : Bool) → cond b (Some p.packet) (difference (before ++ (p ∷ [])) ps) ≡ Some k → (difference (before ++ (p ∷ [])) ps ≡ Some k → P k) → P k
    by_test true e later = let same : p.packet ≡ k = cc in subst P same h.0
    by_test false e later = later e

-- There is no loss before it.
no_loss_before : (first : Option ℕ) (k j : ℕ) → is_first first k ≡ true → j < k → passes first j ≡ true
no_loss_before None k j e lt = refl
no_loss_before (Some l) k j e lt = let le = leb-true k l e in lt-ltb j l (omega (arith, le, lt))

breaks_there : (l : Option ℕ) (k : ℕ) → ((j : ℕ) → l ≡ Some j → k ≤ j) → (earlier l (Some k) ≡ Some k) × (broken l (Some k) ≡ ending.Differs k)
breaks_there None k h = (refl, refl)
breaks_there (Some j) k h =
    let le = h j refl in
    let least : min j k ≡ k = omega (arith, le) in
    rw (least, le-ltb j k le) (refl, refl)

first_least : (first : Option ℕ) (k : ℕ) → is_first first k ≡ true → (earlier first (Some k) ≡ Some k) × (broken first (Some k) ≡ ending.Differs k)
first_least first k e = breaks_there first k (λ j f. leb-true k j (subst (λ (o : Option ℕ). is_first o k ≡ true) f e))

differs_breaks : (needs : List Need) (k : ℕ) (ps : List Placed) → Watches needs ps → difference [] ps ≡ Some k → is_first (first_of needs) k ≡ true
    → BreaksAt true (earlier (first_of needs) (Some k)) (broken (first_of needs) (Some k)) ps
differs_breaks needs k ps w differs e later h =
    let all = ps ++ later in
    let whole : all ≡ w.0 ++ (w.1 ++ later) = ap (λ (z : List Placed). z ++ later) w.2 ∙ append_assoc w.0 w.1 later in
    let rises : AreRising k later = difference_among (λ n. AreRising n later) [] ps k (before_later 0 ps later h) differs in
    let stays : difference [] all ≡ Some k = difference_stays [] ps later k differs in
    let none : (j : ℕ) → loss [] all ≡ Some j → k ≤ j =
    λ j f. elim (cases_lt j k) [
      | inr le ↦ le
      | inl lt ↦
          let passed = before_loss w.0 w.1 later needs j w.3 (subst (AreRising 0) whole h) (rising_lower j k later (omega (arith, lt)) rises) (no_loss_before (first_of needs) k j e lt) in
          let here : nat_lt j j ≡ true = subst (λ (o : Option ℕ). passes o j ≡ true) (sym (w.4 later) ∙ f) passed in
          let less = ltb-true j j here in
          absurd (omega (arith, less))
    ] in
    let there = breaks_there (loss [] all) k none in
    let first = first_least (first_of needs) k e in
    let subsequent = after_each (Some k) k (turns ps later) (le-ltb k k (omega arith))
    (turns_each (λ (p : Placed). k ≤ p.packet) ps later
    (weaken (λ (p : Placed). k < p.packet) (λ (p : Placed). k ≤ p.packet) later (λ p lt. omega (arith, lt)) (later_packets k later rises))) in (
      ap (earlier (loss [] all)) stays ∙ there.0 ∙ sym first.0,
      first.1 ∙ sym there.1 ∙ sym (ap (broken (loss [] all)) stays),
      subst (λ (o : Option ℕ). EachAfter o (turns ps later)) (sym first.0) subsequent,
    )

pub differs_ends : (first : Option ℕ) (acked : BothEnds) (old new : Reading) (emitted later : List TimedEvent) (e : Ending) → first ≡ first_of old.losses
    → breaks_sure first old.differs ≡ true → Finishes first old.differs old.emitter old.due.items emitted later e → new.losses ≡ old.losses
    → EmitsSettled acked old emitted new later (Some e)
differs_ends first acked old new emitted later e is sure finishes losses away ps rises acks r = by_differs old.differs refl sure
  where
    by_differs : (o : Option ℕ) → old.differs ≡ o → breaks_sure first o ≡ true
        → IsEnded true ps (away ++ later) e × (is_known ps ≡ true) × IsWatched 4097 new.losses ps
    by_differs None f g = absurd cc
    by_differs (Some k) f g =
        let before = subst (λ (o : Option ℕ). is_first o k ≡ true) is g in
        let breaks = differs_breaks old.losses k ps r.0 (r.1 ∙ f) before in (
          finishes away true ps rises (nothing_follows ps rises) r.2
              (subst (λ (o : Option ℕ). BreaksAt true (earlier o old.differs) (broken o old.differs) ps) (sym is)
              (subst (λ (o : Option ℕ). BreaksAt true (earlier (first_of old.losses) o) (broken (first_of old.losses) o) ps) (sym f) breaks)) r.3,
          known_by (log_of ps).closed ps
              (ap (λ (o : Option ℕ). ends_for_good (broken o (difference [] ps)) ps) (sym (returns_loss old.losses ps r.0))
              ∙ ap (λ (o : Option ℕ). ends_for_good (broken (first_of old.losses) o) ps) (r.1 ∙ f)
              ∙ ap (λ (x : Ending). ends_for_good x ps) (first_least (first_of old.losses) k before).1),
          subst (λ (ns : List Need). IsWatched 4097 ns ps) (sym losses) (watched_more old.losses ps r.0),
        )

-- ---- a packet arrives

may_lose : {E : Type 0} (r : Result (Option ℕ) E) (o : Option ℕ) (from : Side) (packet : Packet) (ends : BothEnds) (old new : List Need) (ps : List Placed) (p : Placed) → r ≡ Ok o
    → (r ≡ Ok None → WatchesOn old from packet ends new) → ((k : ℕ) → r ≡ Ok (Some k) → FindsLoss old from packet ends k new) → Watches old ps
    → IsNext from packet ends ps p → MayLose o new (ps ++ p ∷ [])
may_lose r None from packet ends old new ps p is none lost w next = none is ps p w next
may_lose r (Some k) from packet ends old new ps p is none lost w next = lost k is ps p w next

pub reacts : {E : Type 0} (r : Result (Option ℕ) E) (a : Arrival) (octets : List ℕ) (freed : List Packet) (old mid some new : Reading) (emitted later : List TimedEvent) (lost : Option ℕ)
    (end : Option Ending) → Arrives a octets freed old mid → r ≡ Ok lost → (r ≡ Ok None → WatchesOn mid.losses a.from a.packet a.ends some.losses)
    → ((k : ℕ) → r ≡ Ok (Some k) → FindsLoss mid.losses a.from a.packet a.ends k some.losses) → some.differs ≡ mid.differs → some.emitter ≡ mid.emitter → some.due.items ≡ mid.due.items
    → ContinuesWith lost a.received some emitted new later end → Reacts a octets freed old emitted new later end
reacts r a octets freed old mid some new emitted later lost end arrives is none found differs emitter queue proceeds away ps p arrival rises reading =
    let knows = reading.0 in
    let got = arrives ps p arrival knows.1 knows.2 in
    let watched : Watches mid.losses ps = subst (λ (ns : List Need). Watches ns ps) (sym got.2) knows.0 in
    let may = may_lose r lost a.from a.packet a.ends mid.losses some.losses ps p is none found watched (arrival.1, arrival.0, arrival.5) in
    proceeds away (ps ++ p ∷ []) rises arrival.6 may (got.0 ∙ sym differs) (subst (λ (t : Emitter). AreStreamsOf t.streams (ps ++ p ∷ [])) (sym emitter) got.1)
    (subst (λ (q : List Due). Waits true some.emitter q (ps ++ p ∷ []) (away ++ emitted)) (sym queue)
    (subst (λ (t : Emitter). Waits true t mid.due.items (ps ++ p ∷ []) (away ++ emitted)) (sym emitter) (got.3 (away ++ emitted) knows.3)))
