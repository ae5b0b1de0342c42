-- The packet that shows a loss, found in the reader's state.
use Rattle.std.proofs.Common.{◌≡◌, ◌<◌, ◌≤◌, ◌++◌, ◌∷◌, ◌∙◌, ℕ, suc, Bool, true, false, cond, nat_le, nat_lt, List, [], length, take, map, Option, Some, None, refl, sym, ap, subst, arith, append_assoc}
use Rattle.std.proofs.lemmas.Bool.{leb-true}
use Rattle.std.proofs.lemmas.List.{append-nil, take_all, take_at}
use Rattle.capture_tcp.specs.declared.ending.Ending.{Ending}
use Rattle.capture_tcp.specs.declared.ending.Ending.TheVariants as ending
use Rattle.capture_tcp.specs.declared.losses.Need.{Need}
use Rattle.capture_tcp.specs.declared.events.TimedEvent.{TimedEvent}
use Rattle.capture_tcp.specs.TcpStreams.{Placed, or_else, is_beyond, first_past, loss, loss_shown, difference}
use Rattle.capture_tcp.specs.ReaderState.{AreRising, log_of}
use Rattle.capture_tcp.specs.EndOfStream.{IsEnded, IsShownEnded, broken, ended, ended_at, ended_by, ends_for_good, is_known, packets_after, shown_by}
use Rattle.capture_tcp.specs.Losses.{ends_of, need_at, past_of, shown_of, HeadIncomplete, IsWatched}
use Rattle.capture_tcp.proofs.Lists.{Each, weaken}
use Rattle.capture_tcp.proofs.Numbered.{before_later, where_true}
use Rattle.capture_tcp.proofs.SettledEvents.{after_single, nothing_follows}
use Rattle.capture_tcp.proofs.WatchedBytes.{past_is}

-- ---- among the packets that are kept

past_same : (all ps : List Placed) → past_of (ends_of all) (map need_at ps) ≡ first_past all ps
past_same all [] = refl
past_same all (q ∷ qs) =
    let here = past_is all q in
    let later = past_same all qs in
    rw (here, later) refl

-- No packet before it is a loss.
passes_by : (k : ℕ) (before settled tail : List Placed) → Each (λ (s : Placed). s.packet < k) settled → loss before (settled ++ tail) ≡ Some k
    → loss_shown before (settled ++ tail) ≡ loss_shown (before ++ settled) tail
unfolding loss loss_shown
passes_by k before [] tail less is = ap (λ (z : List Placed). loss_shown z tail) (sym (append-nil before))
passes_by k before (s ∷ ss) tail less is =
    by_test (is_beyond (before ++ (s ∷ take 4096 (ss ++ tail))) s) is (λ later. passes_by k (before ++ (s ∷ [])) ss tail less.1 later ∙ ap (λ (z : List Placed). loss_shown z tail) (append_assoc before (s ∷ []) ss))
  where
    seen : Option ℕ
    seen = or_else (first_past (before ++ (s ∷ take 4096 (ss ++ tail))) (s ∷ take 4096 (ss ++ tail))) (Some s.packet)

    by_test : (b : Bool) → cond b (Some s.packet) (loss (before ++ (s ∷ [])) (ss ++ tail)) ≡ Some k
        → (loss (before ++ (s ∷ [])) (ss ++ tail) ≡ Some k → loss_shown (before ++ (s ∷ [])) (ss ++ tail) ≡ loss_shown (before ++ (s ∷ ss)) tail)
        → cond b seen (loss_shown (before ++ (s ∷ [])) (ss ++ tail)) ≡ loss_shown (before ++ (s ∷ ss)) tail
    by_test true same later = let k_is : s.packet ≡ k = cc in let lt = less.0 in absurd (omega (arith, k_is, lt))
    by_test false same later = later same

shown_from : (settled : List Placed) (q : Placed) (next later : List Placed) → AreRising 0 (settled ++ (q ∷ (next ++ later))) → is_beyond (settled ++ (q ∷ next)) q ≡ true
    → take 4096 (next ++ later) ≡ next → loss [] (settled ++ (q ∷ (next ++ later))) ≡ loss settled (q ∷ (next ++ later))
    → loss_shown [] (settled ++ (q ∷ (next ++ later))) ≡ shown_of (ends_of (settled ++ (q ∷ next))) (map need_at (q ∷ next))
unfolding loss loss_shown
shown_from settled q next later rises subsequent window same =
    let tail = q ∷ (next ++ later) in
    let all = settled ++ (q ∷ next) in
    let here : is_beyond (settled ++ (q ∷ take 4096 (next ++ later))) q ≡ true = subst (λ (z : List Placed). is_beyond (settled ++ (q ∷ z)) q ≡ true) (sym window) subsequent in
    let found : loss settled tail ≡ Some q.packet = where_true (is_beyond (settled ++ (q ∷ take 4096 (next ++ later))) q) (Some q.packet) (loss (settled ++ (q ∷ [])) (next ++ later)) here in
    let less : Each (λ (s : Placed). s.packet < q.packet) settled =
    weaken (λ (s : Placed). AreRising s.packet tail) (λ (s : Placed). s.packet < q.packet) settled (λ s r. r.0) (before_later 0 settled tail rises) in
    passes_by q.packet [] settled tail less (same ∙ found)
    ∙ where_true (is_beyond (settled ++ (q ∷ take 4096 (next ++ later))) q)
    (or_else (first_past (settled ++ (q ∷ take 4096 (next ++ later))) (q ∷ take 4096 (next ++ later))) (Some q.packet)) (loss_shown (settled ++ (q ∷ [])) (next ++ later)) here
    ∙ ap (λ (z : List Placed). or_else (first_past (settled ++ (q ∷ z)) (q ∷ z)) (Some q.packet)) window
    ∙ ap (λ (o : Option ℕ). or_else o (Some q.packet)) (sym (past_same all (q ∷ next)))

-- The kept packets determine the packet, whatever follows the next 4,096.
shown_by_rest : (settled rest ps later : List Placed) (needs : List Need) (k : ℕ) → ps ≡ settled ++ rest → needs ≡ map need_at rest
    → ((more : List Placed) → loss [] (ps ++ more) ≡ loss settled (rest ++ more)) → HeadIncomplete ps rest → loss [] ps ≡ Some k → AreRising 0 (ps ++ later)
    → ((next : List Placed) → (q : Placed) → rest ≡ q ∷ next → take 4096 (next ++ later) ≡ next) → loss_shown [] (ps ++ later) ≡ shown_of (ends_of ps) needs
unfolding loss
shown_by_rest settled [] ps later needs k whole same more lacks is rises window =
    let none : loss [] ps ≡ None = ap (loss []) (sym (append-nil ps)) ∙ more [] in absurd (let no : None ≡ Some k = sym none ∙ is in cc)
shown_by_rest settled (q ∷ next) ps later needs k whole same more lacks is rises window =
    let all : ps ++ later ≡ settled ++ (q ∷ (next ++ later)) = ap (λ (z : List Placed). z ++ later) whole ∙ append_assoc settled (q ∷ next) later in
    let subsequent : is_beyond (settled ++ (q ∷ next)) q ≡ true = subst (λ (z : List Placed). is_beyond z q ≡ true) whole lacks in
    ap (loss_shown []) all
    ∙ shown_from settled q next later (subst (AreRising 0) all rises) subsequent (window next q refl) (ap (loss []) (sym all) ∙ more later)
    ∙ ap (λ (z : List Placed). shown_of (ends_of z) (map need_at (q ∷ next))) (sym whole) ∙ ap (shown_of (ends_of ps)) (sym same)

-- If none follows.
pub shown_now : (needs : List Need) (ps : List Placed) (k : ℕ) → IsWatched 4097 needs ps → loss [] ps ≡ Some k → AreRising 0 ps → loss_shown [] ps ≡ shown_of (ends_of ps) needs
shown_now needs ps k w is rises =
    ap (loss_shown []) (sym (append-nil ps))
    ∙ shown_by_rest w.0 w.1 ps [] needs k w.2 w.3 w.4 w.5 is (nothing_follows ps rises)
    (λ next q one. let most = w.6 in let long : length w.1 ≡ suc (length next) = ap length one in
    ap (take 4096) (append-nil next) ∙ take_all 4096 next (omega (arith, long, most)))

-- If 4,096 follow, whatever comes after these.
many_next : (settled rest ps : List Placed) (k : ℕ) → ps ≡ settled ++ rest → ((more : List Placed) → loss [] (ps ++ more) ≡ loss settled (rest ++ more)) → HeadIncomplete ps rest
    → length rest ≤ 4097 → loss [] ps ≡ Some k → AreRising 0 ps → 4096 ≤ packets_after k ps → (next : List Placed) (q : Placed) → rest ≡ q ∷ next → length next ≡ 4096
unfolding loss
many_next settled [] ps k whole more lacks most is rises many next q one = absurd cc
many_next settled (p ∷ ns) ps k whole more lacks most is rises many next q one =
    let few : take 4096 ns ≡ ns = take_all 4096 ns (omega (arith, most)) in
    let subsequent : is_beyond (settled ++ (p ∷ ns)) p ≡ true = subst (λ (z : List Placed). is_beyond z p ≡ true) whole lacks in
    let found : loss settled (p ∷ ns) ≡ Some p.packet =
    where_true (is_beyond (settled ++ (p ∷ take 4096 ns)) p) (Some p.packet) (loss (settled ++ (p ∷ [])) ns)
    (subst (λ (z : List Placed). is_beyond (settled ++ (p ∷ z)) p ≡ true) (sym few) subsequent) in
    let at : loss [] ps ≡ Some p.packet = ap (loss []) (sym (append-nil ps)) ∙ more [] ∙ ap (loss settled) (append-nil (p ∷ ns)) ∙ found in
    let k_is : Some p.packet ≡ Some k = sym at ∙ is in
    let same : p.packet ≡ k = cc in
    let n : packets_after k ps ≡ length ns =
    ap (packets_after k) whole ∙ ap (λ (m : ℕ). packets_after m (settled ++ p ∷ ns)) (sym same) ∙ after_single 0 settled p ns (subst (AreRising 0) whole rises) in
    let tail : ns ≡ next = cc in
    let long = ap length tail in
    omega (arith, n, many, most, long)

pub shown_sure : (needs : List Need) (ps later : List Placed) (k : ℕ) → IsWatched 4097 needs ps → loss [] ps ≡ Some k → 4096 ≤ packets_after k ps → AreRising 0 ps
    → AreRising 0 (ps ++ later) → loss_shown [] (ps ++ later) ≡ shown_of (ends_of ps) needs
shown_sure needs ps later k w is many rises more_rise =
    shown_by_rest w.0 w.1 ps later needs k w.2 w.3 w.4 w.5 is more_rise
    (λ next q one. let long = many_next w.0 w.1 ps k w.2 w.4 w.5 w.6 is rises many next q one in take_at next later 4096 long)

-- ---- the ending, by the packet that shows a loss

pub shown_same : (x y : Option ℕ) (e : Ending) → ((k : ℕ) → e ≡ ending.Lost k → x ≡ y) → shown_by x e ≡ shown_by y e
shown_same x y ending.Closed same = refl
shown_same x y ending.Complete same = refl
shown_same x y (ending.Lost k) same = ap (λ (o : Option ℕ). shown_by o (ending.Lost k)) (same k refl)
shown_same x y (ending.Differs k) same = refl

-- An ending that is not a loss is reported unchanged.
pub reported_as_it_is : (o : Option ℕ) (e x : Ending) → shown_by o e ≡ x → ((k : ℕ) → x ≡ ending.Lost k → ⊥) → e ≡ x
reported_as_it_is o ending.Closed x is none = is
reported_as_it_is o ending.Complete x is none = is
reported_as_it_is None (ending.Lost k) x is none = is
reported_as_it_is (Some n) (ending.Lost k) x is none = absurd (none n (sym is))
reported_as_it_is o (ending.Differs k) x is none = is

broken_lost : (a b : Option ℕ) (k : ℕ) → broken a b ≡ ending.Lost k → a ≡ Some k
broken_lost None None k e = absurd cc
broken_lost (Some j) None k e = cc
broken_lost None (Some d) k e = absurd cc
broken_lost (Some j) (Some d) k e = by_first (nat_lt j d) e
  where
    by_first : (b : Bool) → cond b (ending.Lost j) (ending.Differs d) ≡ ending.Lost k → Some j ≡ Some k
    by_first true e = cc
    by_first false e = absurd cc

lost_by_closed : (b : Bool) (ps : List Placed) (k : ℕ) → ended_by b ps ≡ ending.Lost k → loss [] ps ≡ Some k
lost_by_closed true ps k e = absurd cc
lost_by_closed false ps k e = broken_lost (loss [] ps) (difference [] ps) k e

pub lost_at : (ps : List Placed) (k : ℕ) → ended_at ps ≡ ending.Lost k → loss [] ps ≡ Some k
lost_at ps k e = lost_by_closed (log_of ps).closed ps k e

-- It ended, and this is reported, whatever follows.
pub shown_ended : (needs : List Need) (ps : List Placed) (emitted : List TimedEvent) (e : Ending) → AreRising 0 ps → IsEnded true ps emitted e → is_known ps ≡ true → IsWatched 4097 needs ps
    → IsShownEnded true ps emitted (shown_by (shown_of (ends_of ps) needs) e)
shown_ended needs ps emitted e rises ends known w later more =
    let now : e ≡ ended_at ps = (ends [] (nothing_follows ps rises)).1 ∙ ap ended_at (append-nil ps) in
    let then = ends later more in
    let same : shown_by (shown_of (ends_of ps) needs) e ≡ shown_by (loss_shown [] (ps ++ later)) e =
    shown_same (shown_of (ends_of ps) needs) (loss_shown [] (ps ++ later)) e (λ k is.
    let here : ended_at ps ≡ ending.Lost k = sym now ∙ is in
    let good : nat_le 4096 (packets_after k ps) ≡ true = subst (λ (x : Ending). ends_for_good x ps ≡ true) here known in
    sym (shown_sure needs ps later k w (lost_at ps k here) (leb-true 4096 (packets_after k ps) good) rises more)) in
    (then.0, same ∙ ap (shown_by (loss_shown [] (ps ++ later))) then.1)

-- It ended, and this is reported, if nothing follows.
pub shown_at_end : (needs : List Need) (ps : List Placed) (e : Ending) → AreRising 0 ps → e ≡ ended_at ps → IsWatched 4097 needs ps
    → shown_by (shown_of (ends_of ps) needs) e ≡ ended ps
shown_at_end needs ps e rises now w =
    shown_same (shown_of (ends_of ps) needs) (loss_shown [] ps) e (λ k is. sym (shown_now needs ps k w (lost_at ps k (sym now ∙ is)) rises))
    ∙ ap (shown_by (loss_shown [] ps)) now
