-- The deliveries of more packets start with those of fewer.
use Rattle.std.proofs.Common.{◌≡◌, ◌<◌, ◌≤◌, ℕ, ◌+◌, ◌&&◌, ◌||◌, Bool, true, false, cond, nat_lt, nat_le, List, [], ◌∷◌, ◌++◌, length, map, filter, flat_map, Option, Some, None, refl, sym, ap, subst, ◌∙◌, arith}
use Rattle.std.proofs.lemmas.Bool.{leb-true, ltb-false, le-ltb}
use Rattle.std.proofs.lemmas.List.{append_assoc, append-nil}
use Rattle.capture_tcp.specs.TcpStreams.{End, active, passive, same_end, other, Placed, Turn, end_of, insert_by_place, in_order, turns_at, turns, loss, breaks_off, difference, is_before, is_open, is_past, up_to_reset, emitted_turns, Delivery, deliveries}
use Rattle.capture_tcp.proofs.Lists.{Each, everywhere, weaken, both_hold, each_append, each_filter, each_map, Begins, begins_cons}
use Rattle.capture_tcp.proofs.Longer.{end_more, Holds, each_holds, within_own}
use Rattle.capture_tcp.proofs.Numbered.{Rising, rising_front, later_packets, before_later, passes, passes_less, passes_both, loss_settled, breaks_more}

pub turns_more : (before xs ys : List Placed) → turns before (xs ++ ys) ≡ turns before xs ++ turns (before ++ xs) ys
unfolding turns
turns_more before [] ys = ap (λ (z : List Placed). turns z ys) (sym (append-nil before))
turns_more before (x ∷ xs) ys =
    ap (λ (z : List Turn). turns_at before x ++ z)
    (turns_more (before ++ (x ∷ [])) xs ys ∙ ap (λ (z : List Placed). turns (before ++ (x ∷ [])) xs ++ turns z ys) (append_assoc before (x ∷ []) xs))
    ∙ sym (append_assoc (turns_at before x) (turns (before ++ (x ∷ [])) xs) (turns (before ++ (x ∷ xs)) ys))

abbrev pub turn_of : Placed → Placed → Turn
turn_of p q = record { at = p; own = q }

abbrev pub frees : List Placed → Placed → Placed → Bool
frees before p q = same_end q.from p.from && nat_lt (end_of before p.from) q.place && nat_le q.place (end_of (before ++ (p ∷ [])) p.from)

insert_each : (P : Placed → Type 0) (p : Placed) (qs : List Placed) → P p → Each P qs → Each P (insert_by_place p qs)
insert_each P p [] f h = (f, tt)
insert_each P p (q ∷ qs) f h = by_test (nat_le p.place q.place) (insert_each P p qs f h.1)
  where
    by_test : (b : Bool) → Each P (insert_by_place p qs) → Each P (cond b (p ∷ q ∷ qs) (q ∷ insert_by_place p qs))
    by_test true later = (f, h)
    by_test false later = (h.0, later)

pub order_each : (P : Placed → Type 0) (ps : List Placed) → Each P ps → Each P (in_order ps)
order_each P [] h = tt
order_each P (p ∷ ps) h = insert_each P p (in_order ps) h.0 (order_each P ps h.1)

-- ---- at which packet

pub at_itself : (before : List Placed) (p : Placed) → Each (λ (t : Turn). t.at ≡ p) (turns_at before p)
at_itself before p = by_gap (nat_lt (end_of before p.from) p.place)
  where
    by_gap : (b : Bool) → Each (λ (t : Turn). t.at ≡ p) (cond b [] (turn_of p p ∷ map (turn_of p) (in_order (filter (frees before p) before))))
    by_gap true = tt
    by_gap false =
        let freed = in_order (filter (frees before p) before) in
        (refl, each_map (λ (t : Turn). t.at ≡ p) (turn_of p) freed (weaken (λ (q : Placed). Unit {0}) (λ (q : Placed). p ≡ p) freed (λ q u. refl) (everywhere freed)))

pub turns_each : (P : Placed → Type 0) (before ps : List Placed) → Each P ps → Each (λ (t : Turn). P t.at) (turns before ps)
unfolding turns
turns_each P before [] h = tt
turns_each P before (p ∷ ps) h =
    each_append (λ (t : Turn). P t.at) (turns_at before p) (turns (before ++ (p ∷ [])) ps)
    (weaken (λ (t : Turn). t.at ≡ p) (λ (t : Turn). P t.at) (turns_at before p) (λ t e. subst P (sym e) h.0) (at_itself before p))
    (turns_each P (before ++ (p ∷ [])) ps h.1)

abbrev pub Ordered : List Turn → Type 0
Ordered [] = Unit {0}
Ordered (t ∷ ts) = Each (λ (u : Turn). t.at.packet ≤ u.at.packet) ts × Ordered ts

ordered_append : (n : ℕ) (ts us : List Turn) → Each (λ (t : Turn). t.at.packet ≡ n) ts → Each (λ (u : Turn). n ≤ u.at.packet) us → Ordered us → Ordered (ts ++ us)
ordered_append n [] us f g o = o
ordered_append n (t ∷ ts) us f g o = (
  each_append (λ (u : Turn). t.at.packet ≤ u.at.packet) ts us
      (weaken (λ (u : Turn). u.at.packet ≡ n) (λ (u : Turn). t.at.packet ≤ u.at.packet) ts (λ u e. omega (arith, e, f.0)) f.1)
      (weaken (λ (u : Turn). n ≤ u.at.packet) (λ (u : Turn). t.at.packet ≤ u.at.packet) us (λ u le. omega (arith, le, f.0)) g),
  ordered_append n ts us f.1 g o,
)

pub turns_ordered : (m : ℕ) (before ps : List Placed) → Rising m ps → Ordered (turns before ps)
unfolding turns
turns_ordered m before [] h = tt
turns_ordered m before (p ∷ ps) h =
    ordered_append p.packet (turns_at before p) (turns (before ++ (p ∷ [])) ps)
    (weaken (λ (t : Turn). t.at ≡ p) (λ (t : Turn). t.at.packet ≡ p.packet) (turns_at before p) (λ t e. ap (λ (q : Placed). q.packet) e) (at_itself before p))
    (weaken (λ (t : Turn). p.packet < t.at.packet) (λ (t : Turn). p.packet ≤ t.at.packet) (turns (before ++ (p ∷ [])) ps) (λ t lt. omega (arith, lt))
    (turns_each (λ (q : Placed). p.packet < q.packet) (before ++ (p ∷ [])) ps (later_packets p.packet ps h.1)))
    (turns_ordered p.packet (before ++ (p ∷ [])) ps h.1)

-- ---- what is emitted

pub before_is : (o : Option ℕ) (t : Turn) → is_before o t ≡ passes o t.at.packet
before_is None t = refl
before_is (Some k) t = refl

pub nothing_later : (a : Option ℕ) (n : ℕ) (ts : List Turn) → passes a n ≡ false → Each (λ (u : Turn). n ≤ u.at.packet) ts → filter (is_before a) ts ≡ []
nothing_later a n [] e h = refl
nothing_later None n (t ∷ ts) e h = absurd cc
nothing_later (Some k) n (t ∷ ts) e h =
    let le = ltb-false n k e in
    rw (le-ltb t.at.packet k (omega (arith, le, h.0))) (nothing_later (Some k) n ts e h.1)

filter_front : (a b : Option ℕ) (ts us : List Turn) → Ordered ts → Each (λ (t : Turn). passes a t.at.packet ≡ true → passes b t.at.packet ≡ true) ts
    → Begins Turn (filter (is_before a) ts) (filter (is_before b) (ts ++ us))
filter_front a b [] us o h = (filter (is_before b) us, refl)
filter_front a b (t ∷ ts) us o h = by_test (is_before a t) refl (filter_front a b ts us o.1 h.1)
  where
    by_test : (x : Bool) → is_before a t ≡ x → Begins Turn (filter (is_before a) ts) (filter (is_before b) (ts ++ us))
        → Begins Turn (cond x (t ∷ filter (is_before a) ts) (filter (is_before a) ts)) (filter (is_before b) (t ∷ (ts ++ us)))
    by_test true e later =
        let here : is_before b t ≡ true = before_is b t ∙ h.0 (sym (before_is a t) ∙ e) in
        rw here (begins_cons t (filter (is_before a) ts) (filter (is_before b) (ts ++ us)) later)
    by_test false e later =
        rw (nothing_later a t.at.packet ts (sym (before_is a t) ∙ e) o.0) (filter (is_before b) (t ∷ (ts ++ us)), refl)

reset_more : (opened : Bool) (ts us : List Turn) → Begins Turn (up_to_reset opened ts) (up_to_reset opened (ts ++ us))
reset_more opened [] us = (up_to_reset opened us, refl)
reset_more opened (t ∷ ts) us = by_reset (t.own.reset && (opened || is_open t)) (reset_more (opened || is_open t) ts us)
  where
    by_reset : (b : Bool) → Begins Turn (up_to_reset (opened || is_open t) ts) (up_to_reset (opened || is_open t) (ts ++ us))
        → Begins Turn (cond b (t ∷ []) (t ∷ up_to_reset (opened || is_open t) ts)) (cond b (t ∷ []) (t ∷ up_to_reset (opened || is_open t) (ts ++ us)))
    by_reset true later = ([], refl)
    by_reset false later = begins_cons t (up_to_reset (opened || is_open t) ts) (up_to_reset (opened || is_open t) (ts ++ us)) later

pub kept_more : (m : ℕ) (xs ys : List Placed) → Rising m (xs ++ ys)
    → Begins Turn (filter (is_before (breaks_off xs)) (turns [] xs)) (filter (is_before (breaks_off (xs ++ ys))) (turns [] (xs ++ ys)))
kept_more m xs ys h =
    let passed : Each (λ (t : Turn). passes (breaks_off xs) t.at.packet ≡ true → passes (breaks_off (xs ++ ys)) t.at.packet ≡ true) (turns [] xs) =
    weaken (λ (t : Turn). Rising t.at.packet ys) (λ (t : Turn). passes (breaks_off xs) t.at.packet ≡ true → passes (breaks_off (xs ++ ys)) t.at.packet ≡ true) (turns [] xs)
    (λ t later e. breaks_more t.at.packet m xs ys h later e) (turns_each (λ (p : Placed). Rising p.packet ys) [] xs (before_later m xs ys h)) in
    let front = filter_front (breaks_off xs) (breaks_off (xs ++ ys)) (turns [] xs) (turns xs ys) (turns_ordered m [] xs (rising_front m xs ys h)) passed in
    (front.0, ap (λ (ts : List Turn). filter (is_before (breaks_off (xs ++ ys))) ts) (turns_more [] xs ys) ∙ front.1)

pub emitted_more : (m : ℕ) (xs ys : List Placed) → Rising m (xs ++ ys) → Begins Turn (emitted_turns xs) (emitted_turns (xs ++ ys))
emitted_more m xs ys h =
    let front = kept_more m xs ys h in
    subst (λ (ts : List Turn). Begins Turn (emitted_turns xs) (up_to_reset false ts)) (sym front.1) (reset_more false (filter (is_before (breaks_off xs)) (turns [] xs)) front.0)

-- ---- what is emitted is within what is buffered

abbrev Fair : (Placed → Type 0) → List Placed → Turn → Type 0
Fair Q all t = Q t.own × (t.own.place ≤ end_of all t.own.from) × (t.own.packet ≤ t.at.packet)

both_true : (a b : Bool) → (a && b) ≡ true → (a ≡ true) × (b ≡ true)
both_true false b e = absurd cc
both_true true b e = (refl, e)

pub same_from : (a b : End) → same_end a b ≡ true → a ≡ b
same_from active active e = refl
same_from active passive e = absurd cc
same_from passive active e = absurd cc
same_from passive passive e = refl

freed_fair : (Q : Placed → Type 0) (all before : List Placed) (p q : Placed) → end_of (before ++ (p ∷ [])) p.from ≤ end_of all p.from → Q q → q.packet ≤ p.packet
    → frees before p q ≡ true → Fair Q all (turn_of p q)
freed_fair Q all before p q subsequent held le e =
    let f = both_true (same_end q.from p.from && nat_lt (end_of before p.from) q.place) (nat_le q.place (end_of (before ++ (p ∷ [])) p.from)) e in
    let g = both_true (same_end q.from p.from) (nat_lt (end_of before p.from) q.place) f.0 in
    let there = leb-true q.place (end_of (before ++ (p ∷ [])) p.from) f.1 in
    let within : q.place ≤ end_of all p.from = omega (arith, there, subsequent) in
    (held, subst (λ (e : End). q.place ≤ end_of all e) (sym (same_from q.from p.from g.0)) within, le)

at_fair : (Q : Placed → Type 0) (all before : List Placed) (p : Placed) → end_of before p.from ≤ end_of all p.from
    → end_of (before ++ (p ∷ [])) p.from ≤ end_of all p.from → Q p → Each (λ (q : Placed). Q q × (q.packet ≤ p.packet)) before → Each (Fair Q all) (turns_at before p)
at_fair Q all before p now subsequent held h = by_gap (nat_lt (end_of before p.from) p.place) refl
  where
    by_gap : (b : Bool) → nat_lt (end_of before p.from) p.place ≡ b
        → Each (Fair Q all) (cond b [] (turn_of p p ∷ map (turn_of p) (in_order (filter (frees before p) before))))
    by_gap true e = tt
    by_gap false e =
        let le = ltb-false (end_of before p.from) p.place e in
        let freed = filter (frees before p) before in (
          (held, omega (arith, le, now), omega arith),
          each_map (Fair Q all) (turn_of p) (in_order freed)
              (order_each (λ (q : Placed). Fair Q all (turn_of p q)) freed
              (weaken (λ (q : Placed). (Q q × (q.packet ≤ p.packet)) × (frees before p q ≡ true)) (λ (q : Placed). Fair Q all (turn_of p q)) freed
              (λ q f. freed_fair Q all before p q subsequent f.0.0 f.0.1 f.1) (each_filter (λ (q : Placed). Q q × (q.packet ≤ p.packet)) (frees before p) before h))),
        )

turns_fair : (Q : Placed → Type 0) (all before ps : List Placed) (m : ℕ) → all ≡ before ++ ps → Each (λ (q : Placed). Q q × (q.packet ≤ m)) before → Each Q ps → Rising m ps
    → Each (Fair Q all) (turns before ps)
unfolding turns
turns_fair Q all before [] m e f g h = tt
turns_fair Q all before (p ∷ ps) m e f g h =
    let split : all ≡ (before ++ (p ∷ [])) ++ ps = e ∙ sym (append_assoc before (p ∷ []) ps) in
    let early = weaken (λ (q : Placed). Q q × (q.packet ≤ m)) (λ (q : Placed). Q q × (q.packet ≤ p.packet)) before (λ q r. (r.0, omega (arith, r.1, h.0))) f in
    let now : end_of before p.from ≤ end_of all p.from = subst (λ (z : List Placed). end_of before p.from ≤ end_of z p.from) (sym e) (end_more before (p ∷ ps) p.from) in
    let subsequent : end_of (before ++ (p ∷ [])) p.from ≤ end_of all p.from =
    subst (λ (z : List Placed). end_of (before ++ (p ∷ [])) p.from ≤ end_of z p.from) (sym split) (end_more (before ++ (p ∷ [])) ps p.from) in
    each_append (Fair Q all) (turns_at before p) (turns (before ++ (p ∷ [])) ps) (at_fair Q all before p now subsequent g.0 early)
    (turns_fair Q all (before ++ (p ∷ [])) ps p.packet split
    (each_append (λ (q : Placed). Q q × (q.packet ≤ p.packet)) before (p ∷ []) early ((g.0, omega arith), tt)) g.1 h.1)

abbrev pub Within : List Placed → Delivery → Type 0
Within ps d = d.upto ≤ end_of ps d.of

turn_within : (ps : List Placed) (at own : Placed) (a : Option ℕ) → own.place + length own.cells ≤ end_of ps own.from
    → is_past ps (record own { acknowledged = a }) ≡ false → Each (Within ps) (deliveries (turn_of at (record own { acknowledged = a })))
turn_within ps at own None le past = (le, tt)
turn_within ps at own (Some n) le past = (ltb-false (end_of ps (other own.from)) n past, (le, tt))

pub reset_each : (P : Turn → Type 0) (opened : Bool) (ts : List Turn) → Each P ts → Each P (up_to_reset opened ts)
reset_each P opened [] h = tt
reset_each P opened (t ∷ ts) h = by_reset (t.own.reset && (opened || is_open t)) (reset_each P (opened || is_open t) ts h.1)
  where
    by_reset : (b : Bool) → Each P (up_to_reset (opened || is_open t) ts) → Each P (cond b (t ∷ []) (t ∷ up_to_reset (opened || is_open t) ts))
    by_reset true later = (h.0, tt)
    by_reset false later = (h.0, later)

pub flat_each : (P : Delivery → Type 0) (ts : List Turn) → Each (λ (t : Turn). Each P (deliveries t)) ts → Each P (flat_map deliveries ts)
flat_each P [] h = tt
flat_each P (t ∷ ts) h = each_append P (deliveries t) (flat_map deliveries ts) h.0 (flat_each P ts h.1)

abbrev Sound : List Placed → Placed → Type 0
Sound ps p = Holds ps p × (passes (loss [] ps) p.packet ≡ true → is_past ps p ≡ false)

sound_within : (ps : List Placed) (t : Turn) → Fair (Sound ps) ps t → is_before (breaks_off ps) t ≡ true → Each (Within ps) (deliveries t)
sound_within ps t f e =
    let passed = passes_both (loss [] ps) (difference [] ps) t.at.packet (sym (before_is (breaks_off ps) t) ∙ e) in
    turn_within ps t.at t.own t.own.acknowledged (within_own ps t.own f.0.0 f.1) (f.0.1 (passes_less (loss [] ps) t.own.packet t.at.packet f.2 passed.0))

pub emitted_within : (m : ℕ) (ps : List Placed) → Rising m ps → Each (Within ps) (flat_map deliveries (emitted_turns ps))
emitted_within m ps h =
    let sound = both_hold (Holds ps) (λ (p : Placed). passes (loss [] ps) p.packet ≡ true → is_past ps p ≡ false) ps (each_holds ps) (loss_settled m [] ps h) in
    let fair = turns_fair (Sound ps) ps [] ps m refl tt sound h in
    let kept = filter (is_before (breaks_off ps)) (turns [] ps) in
    flat_each (Within ps) (emitted_turns ps)
    (reset_each (λ (t : Turn). Each (Within ps) (deliveries t)) false kept
    (weaken (λ (t : Turn). Fair (Sound ps) ps t × (is_before (breaks_off ps) t ≡ true)) (λ (t : Turn). Each (Within ps) (deliveries t)) kept
    (λ t f. sound_within ps t f.0 f.1) (each_filter (Fair (Sound ps) ps) (is_before (breaks_off ps)) (turns [] ps) fair)))

-- What is delivered before the end of the log is present.
pub each_within : (m : ℕ) (ps : List Placed) → Rising m ps → Each (λ (t : Turn). is_before (breaks_off ps) t ≡ true → Each (Within ps) (deliveries t)) (turns [] ps)
each_within m ps h =
    let sound = both_hold (Holds ps) (λ (p : Placed). passes (loss [] ps) p.packet ≡ true → is_past ps p ≡ false) ps (each_holds ps) (loss_settled m [] ps h) in
    weaken (Fair (Sound ps) ps) (λ (t : Turn). is_before (breaks_off ps) t ≡ true → Each (Within ps) (deliveries t)) (turns [] ps)
    (λ t f e. sound_within ps t f e) (turns_fair (Sound ps) ps [] ps m refl tt sound h)
