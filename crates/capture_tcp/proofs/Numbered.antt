-- Packets with increasing numbers: more packets do not make the log stop earlier.
use Rattle.std.proofs.Common.{◌≡◌, ◌<◌, ◌≤◌, ℕ, zero, suc, min, ◌||◌, Bool, true, false, cond, nat_lt, List, [], ◌∷◌, ◌++◌, length, take, drop, Option, Some, None, refl, sym, subst, arith}
use Rattle.std.proofs.lemmas.Bool.{lt-ltb, le-ltb, ltb-true, ltb-false}
use Rattle.std.proofs.lemmas.List.{append_assoc, take-append-drop, take_at}
pub use Rattle.capture_tcp.specs.ReaderState.{AreRising as Rising}
use Rattle.capture_tcp.specs.TcpStreams.{Placed, other, end_of, is_past, is_beyond, loss, contradicts, received, difference, earlier, breaks_off}
use Rattle.capture_tcp.proofs.Lists.{Each, weaken, Begins, begins_cons, begins_append}
use Rattle.capture_tcp.proofs.Longer.{end_more}

pub rising_lower : (m n : ℕ) (ps : List Placed) → m ≤ n → Rising n ps → Rising m ps
rising_lower m n [] le h = tt
rising_lower m n (p ∷ ps) le h = (omega (arith, le, h.0), h.1)

pub later_packets : (m : ℕ) (ps : List Placed) → Rising m ps → Each (λ (p : Placed). m < p.packet) ps
later_packets m [] h = tt
later_packets m (p ∷ ps) h =
    (h.0, weaken (λ (q : Placed). p.packet < q.packet) (λ (q : Placed). m < q.packet) ps (λ q lt. omega (arith, h.0, lt)) (later_packets p.packet ps h.1))

pub rising_after : (m : ℕ) (xs ys : List Placed) → Rising m (xs ++ ys) → Rising m ys
rising_after m [] ys h = h
rising_after m (x ∷ xs) ys h = rising_lower m x.packet ys (omega (arith, h.0)) (rising_after x.packet xs ys h.1)

pub rising_front : (m : ℕ) (xs ys : List Placed) → Rising m (xs ++ ys) → Rising m xs
rising_front m [] ys h = tt
rising_front m (x ∷ xs) ys h = (h.0, rising_front x.packet xs ys h.1)

-- What comes later has a greater number than each of these.
pub before_later : (m : ℕ) (xs ys : List Placed) → Rising m (xs ++ ys) → Each (λ (p : Placed). Rising p.packet ys) xs
before_later m [] ys h = tt
before_later m (x ∷ xs) ys h = (rising_after x.packet xs ys h.1, before_later x.packet xs ys h.1)

-- ---- what is before the packet where a log stops

abbrev pub passes : Option ℕ → ℕ → Bool
passes None n = true
passes (Some k) n = nat_lt n k

pub passes_less : (o : Option ℕ) (m n : ℕ) → m ≤ n → passes o n ≡ true → passes o m ≡ true
passes_less None m n le e = refl
passes_less (Some k) m n le e = let lt = ltb-true n k e in lt-ltb m k (omega (arith, le, lt))

pub passes_both : (a b : Option ℕ) (n : ℕ) → passes (earlier a b) n ≡ true → (passes a n ≡ true) × (passes b n ≡ true)
passes_both None b n e = (refl, e)
passes_both (Some j) None n e = (e, refl)
passes_both (Some j) (Some k) n e = let lt = ltb-true n (min j k) e in (lt-ltb n j (omega (arith, lt)), lt-ltb n k (omega (arith, lt)))

pub passes_earlier : (a b : Option ℕ) (n : ℕ) → passes a n ≡ true → passes b n ≡ true → passes (earlier a b) n ≡ true
passes_earlier None b n e f = f
passes_earlier (Some j) None n e f = e
passes_earlier (Some j) (Some k) n e f =
    let l = ltb-true n j e in
    let r = ltb-true n k f in
    lt-ltb n (min j k) (omega (arith, l, r))

-- ---- loss

pub neither : (a b : Bool) → (a || b) ≡ false → (a ≡ false) × (b ≡ false)
neither true b e = absurd cc
neither false b e = (refl, e)

none_of : (a b : Bool) → a ≡ false → b ≡ false → (a || b) ≡ false
none_of true b e f = absurd cc
none_of false b e f = f

not_past_by : (xs ys : List Placed) (p : Placed) (o : Option ℕ) → is_past xs (record p { acknowledged = o }) ≡ false → is_past (xs ++ ys) (record p { acknowledged = o }) ≡ false
not_past_by xs ys p None e = refl
not_past_by xs ys p (Some n) e =
    let le = ltb-false (end_of xs (other p.from)) n e in
    let more = end_more xs ys (other p.from) in
    le-ltb (end_of (xs ++ ys) (other p.from)) n (omega (arith, le, more))

not_past_more : (xs zs : List Placed) (p : Placed) → Begins Placed xs zs → is_past xs p ≡ false → is_past zs p ≡ false
not_past_more xs zs p h e = subst (λ (z : List Placed). is_past z p ≡ false) (sym h.1) (not_past_by xs h.0 p p.acknowledged e)

pub not_gap_more : (xs zs : List Placed) (p : Placed) → Begins Placed xs zs → nat_lt (end_of xs p.from) p.place ≡ false → nat_lt (end_of zs p.from) p.place ≡ false
not_gap_more xs zs p h e =
    let le = ltb-false (end_of xs p.from) p.place e in
    let more = end_more xs h.0 p.from in
    subst (λ (z : List Placed). nat_lt (end_of z p.from) p.place ≡ false) (sym h.1) (le-ltb (end_of (xs ++ h.0) p.from) p.place (omega (arith, le, more)))

complete_more : (xs zs : List Placed) (p : Placed) → Begins Placed xs zs → is_beyond xs p ≡ false → is_beyond zs p ≡ false
complete_more xs zs p h e =
    let f = neither (is_past xs p) (nat_lt (end_of xs p.from) p.place) e in
    none_of (is_past zs p) (nat_lt (end_of zs p.from) p.place) (not_past_more xs zs p h f.0) (not_gap_more xs zs p h f.1)

take_begins : {A : Type 0} (n : ℕ) (xs ys : List A) → Begins A (take n xs) (take n (xs ++ ys))
take_begins zero xs ys = ([], refl)
take_begins (suc n) [] ys = (take (suc n) ys, refl)
take_begins (suc n) (x ∷ xs) ys = begins_cons x (take n xs) (take n (xs ++ ys)) (take_begins n xs ys)

-- `n` is before all of these.
pub loss_past : (n : ℕ) (before ps : List Placed) → Rising n ps → passes (loss before ps) n ≡ true
unfolding loss
loss_past n before [] h = refl
loss_past n before (p ∷ ps) h =
    by_test (is_beyond (before ++ (p ∷ take 4096 ps)) p) (loss_past n (before ++ (p ∷ [])) ps (rising_lower n p.packet ps (omega (arith, h.0)) h.1))
  where
    by_test : (b : Bool) → passes (loss (before ++ (p ∷ [])) ps) n ≡ true → passes (cond b (Some p.packet) (loss (before ++ (p ∷ [])) ps)) n ≡ true
    by_test true later = lt-ltb n p.packet h.0
    by_test false later = later

loss_more : (n m : ℕ) (before xs ys : List Placed) → Rising m (xs ++ ys) → Rising n ys → passes (loss before xs) n ≡ true → passes (loss before (xs ++ ys)) n ≡ true
unfolding loss
loss_more n m before [] ys h later e = loss_past n before ys later
loss_more n m before (p ∷ ps) ys h later e =
    by_tests (is_beyond (before ++ (p ∷ take 4096 ps)) p) (is_beyond (before ++ (p ∷ take 4096 (ps ++ ys))) p) refl refl e (loss_more n p.packet (before ++ (p ∷ [])) ps ys h.1 later)
  where
    longer : Begins Placed (before ++ (p ∷ take 4096 ps)) (before ++ (p ∷ take 4096 (ps ++ ys)))
    longer =
        begins_append before (p ∷ take 4096 ps) (p ∷ take 4096 (ps ++ ys))
        (begins_cons p (take 4096 ps) (take 4096 (ps ++ ys)) (take_begins 4096 ps ys))

    by_tests : (a b : Bool) → is_beyond (before ++ (p ∷ take 4096 ps)) p ≡ a → is_beyond (before ++ (p ∷ take 4096 (ps ++ ys))) p ≡ b
        → passes (cond a (Some p.packet) (loss (before ++ (p ∷ [])) ps)) n ≡ true
        → (passes (loss (before ++ (p ∷ [])) ps) n ≡ true → passes (loss (before ++ (p ∷ [])) (ps ++ ys)) n ≡ true)
        → passes (cond b (Some p.packet) (loss (before ++ (p ∷ [])) (ps ++ ys))) n ≡ true
    by_tests true true short long now more = now
    by_tests true false short long now more =
        let lt = ltb-true n p.packet now in
        loss_past n (before ++ (p ∷ [])) (ps ++ ys) (rising_lower n p.packet (ps ++ ys) (omega (arith, lt)) h.1)
    by_tests false true short long now more =
        let same = complete_more (before ++ (p ∷ take 4096 ps)) (before ++ (p ∷ take 4096 (ps ++ ys))) p longer short in absurd cc
    by_tests false false short long now more = more now

-- Before the loss each packet acknowledges what is buffered.
pub loss_settled : (m : ℕ) (before ps : List Placed) → Rising m ps
    → Each (λ (p : Placed). passes (loss before ps) p.packet ≡ true → is_past (before ++ ps) p ≡ false) ps
unfolding loss
loss_settled m before [] h = tt
loss_settled m before (p ∷ ps) h =
    by_test (is_beyond (before ++ (p ∷ take 4096 ps)) p) refl (loss_settled p.packet (before ++ (p ∷ [])) ps h.1)
  where
    longer : Begins Placed (before ++ (p ∷ take 4096 ps)) (before ++ (p ∷ ps))
    longer =
        begins_append before (p ∷ take 4096 ps) (p ∷ ps) (begins_cons p (take 4096 ps) ps (drop 4096 ps, sym (take-append-drop 4096 ps)))

    by_test : (b : Bool) → is_beyond (before ++ (p ∷ take 4096 ps)) p ≡ b
        → Each (λ (q : Placed). passes (loss (before ++ (p ∷ [])) ps) q.packet ≡ true → is_past ((before ++ (p ∷ [])) ++ ps) q ≡ false) ps
        → Each (λ (q : Placed). passes (cond b (Some p.packet) (loss (before ++ (p ∷ [])) ps)) q.packet ≡ true → is_past (before ++ (p ∷ ps)) q ≡ false) (p ∷ ps)
    by_test true e later = (
      λ now. let lt = ltb-true p.packet p.packet now in absurd (omega (arith, lt)),
      weaken (λ (q : Placed). p.packet < q.packet) (λ (q : Placed). nat_lt q.packet p.packet ≡ true → is_past (before ++ (p ∷ ps)) q ≡ false) ps
          (λ q past now. let lt = ltb-true q.packet p.packet now in absurd (omega (arith, lt, past))) (later_packets p.packet ps h.1),
    )
    by_test false e later =
        let f = neither (is_past (before ++ (p ∷ take 4096 ps)) p) (nat_lt (end_of (before ++ (p ∷ take 4096 ps)) p.from) p.place) e in (
          λ now. not_past_more (before ++ (p ∷ take 4096 ps)) (before ++ (p ∷ ps)) p longer f.0,
          weaken (λ (q : Placed). passes (loss (before ++ (p ∷ [])) ps) q.packet ≡ true → is_past ((before ++ (p ∷ [])) ++ ps) q ≡ false)
              (λ (q : Placed). passes (loss (before ++ (p ∷ [])) ps) q.packet ≡ true → is_past (before ++ (p ∷ ps)) q ≡ false) ps
              (λ q g now. subst (λ (z : List Placed). is_past z q ≡ false) (append_assoc before (p ∷ []) ps) (g now)) later,
        )

-- ---- a loss is final by the next 4,096 packets

within_take : {A : Type 0} (n : ℕ) (xs ys : List A) → length xs ≤ n → Begins A xs (take n (xs ++ ys))
within_take n [] ys le = (take n ys, refl)
within_take zero (x ∷ xs) ys le = absurd (omega (arith, le))
within_take (suc n) (x ∷ xs) ys le = begins_cons x xs (take n (xs ++ ys)) (within_take n xs ys (omega (arith, le)))

pub where_true : (b : Bool) (x y : Option ℕ) → b ≡ true → cond b x y ≡ x
where_true true x y e = refl
where_true false x y e = absurd cc

where_false : (b : Bool) (x y : Option ℕ) → b ≡ false → cond b x y ≡ y
where_false true x y e = absurd cc
where_false false x y e = refl

pub settled_sure : (before : List Placed) (p : Placed) (next later : List Placed) → length next ≤ 4096 → is_beyond (before ++ (p ∷ next)) p ≡ false
    → loss before (p ∷ (next ++ later)) ≡ loss (before ++ (p ∷ [])) (next ++ later)
unfolding loss
settled_sure before p next later le e =
    let longer : Begins Placed (before ++ (p ∷ next)) (before ++ (p ∷ take 4096 (next ++ later))) =
    begins_append before (p ∷ next) (p ∷ take 4096 (next ++ later)) (begins_cons p next (take 4096 (next ++ later)) (within_take 4096 next later le)) in
    where_false (is_beyond (before ++ (p ∷ take 4096 (next ++ later))) p) (Some p.packet) (loss (before ++ (p ∷ [])) (next ++ later))
    (complete_more (before ++ (p ∷ next)) (before ++ (p ∷ take 4096 (next ++ later))) p longer e)

pub loss_sure : (before : List Placed) (p : Placed) (next later : List Placed) → length next ≡ 4096 → is_beyond (before ++ (p ∷ next)) p ≡ true
    → loss before (p ∷ (next ++ later)) ≡ Some p.packet
unfolding loss
loss_sure before p next later len e =
    where_true (is_beyond (before ++ (p ∷ take 4096 (next ++ later))) p) (Some p.packet) (loss (before ++ (p ∷ [])) (next ++ later))
    (subst (λ (z : List Placed). is_beyond (before ++ (p ∷ z)) p ≡ true) (sym (take_at next later 4096 len)) e)

-- ---- conflicting copies

difference_past : (n : ℕ) (before ps : List Placed) → Rising n ps → passes (difference before ps) n ≡ true
unfolding difference
difference_past n before [] h = refl
difference_past n before (p ∷ ps) h =
    by_test (contradicts before p.from (received before p.from) p.place p.cells) (difference_past n (before ++ (p ∷ [])) ps (rising_lower n p.packet ps (omega (arith, h.0)) h.1))
  where
    by_test : (b : Bool) → passes (difference (before ++ (p ∷ [])) ps) n ≡ true → passes (cond b (Some p.packet) (difference (before ++ (p ∷ [])) ps)) n ≡ true
    by_test true later = lt-ltb n p.packet h.0
    by_test false later = later

pub difference_more : (n : ℕ) (before xs ys : List Placed) → Rising n ys → passes (difference before xs) n ≡ true → passes (difference before (xs ++ ys)) n ≡ true
unfolding difference
difference_more n before [] ys later e = difference_past n before ys later
difference_more n before (p ∷ ps) ys later e =
    by_test (contradicts before p.from (received before p.from) p.place p.cells) e (difference_more n (before ++ (p ∷ [])) ps ys later)
  where
    by_test : (b : Bool) → passes (cond b (Some p.packet) (difference (before ++ (p ∷ [])) ps)) n ≡ true
        → (passes (difference (before ++ (p ∷ [])) ps) n ≡ true → passes (difference (before ++ (p ∷ [])) (ps ++ ys)) n ≡ true)
        → passes (cond b (Some p.packet) (difference (before ++ (p ∷ [])) (ps ++ ys))) n ≡ true
    by_test true now more = now
    by_test false now more = more now

pub breaks_more : (n m : ℕ) (xs ys : List Placed) → Rising m (xs ++ ys) → Rising n ys → passes (breaks_off xs) n ≡ true → passes (breaks_off (xs ++ ys)) n ≡ true
breaks_more n m xs ys h later e =
    let f = passes_both (loss [] xs) (difference [] xs) n e in
    passes_earlier (loss [] (xs ++ ys)) (difference [] (xs ++ ys)) n (loss_more n m [] xs ys h later f.0) (difference_more n [] xs ys later f.1)
