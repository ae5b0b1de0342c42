-- The first loss, found in one pass over the packets.
use Rattle.std.proofs.Common.{◌≡◌, ◌<◌, ◌≤◌, ◌++◌, ◌||◌, ℕ, suc, Bool, true, false, nat_lt, List, [], ◌∷◌, length, take, map, Option, Some, None, Result, Ok, refl, sym, ap, subst, ◌∙◌, arith, length-append}
use Rattle.std.proofs.lemmas.Bool.{le-ltb}
use Rattle.std.proofs.lemmas.List.{append-nil, append_assoc, take_all, map-append}
use Rattle.std.specs.List.{slice_index_or}
use Rattle.std.specs.Option.{unwrap_or}
use Rattle.capture_tcp.specs.declared.losses.BothEnds.{BothEnds}
use Rattle.capture_tcp.specs.declared.losses.Need.{Need}
use Rattle.capture_tcp.specs.declared.packet.Packet.{Packet}
use Rattle.capture_tcp.specs.declared.packet.Side.{Side}
use Rattle.capture_tcp.specs.TcpStreams.{End, active, passive, Placed, end_of, is_past, is_beyond, loss}
use Rattle.capture_tcp.specs.Losses.{ends_of, side_of, needs_of, need_at, other_end, past_of, HeadIncomplete, IsWatched, Watches, IsNext, WatchesOn, IsLoss, FindsLoss, ReturnsLoss, first_of}
use Rattle.capture_tcp.specs.InnerLosses.{is_incomplete, unsettled, IsUnsettled, own_end}
use Rattle.capture_tcp.proofs.Numbered.{loss_sure, settled_sure, where_true}

-- ---- the first needs

passes_settled : (e : BothEnds) (n : Need) (ns : List Need) → is_incomplete e n ≡ false → unsettled e (n ∷ ns) ≡ unsettled e ns
unfolding unsettled
passes_settled e n ns h = rw h refl

stays_unsettled : (e : BothEnds) (ns : List Need) → IsUnsettled e ns → unsettled e ns ≡ ns
unfolding unsettled
stays_unsettled e [] h = refl
stays_unsettled e (n ∷ ns) h = rw h refl

pub settles_one : (e : BothEnds) (n : Need) (old ns first : List Need) → old ≡ n ∷ ns → is_incomplete e n ≡ false → unsettled e old ≡ unsettled e first → unsettled e ns ≡ unsettled e first
settles_one e n old ns first is h kept = sym (passes_settled e n ns h) ∙ sym (ap (unsettled e) is) ∙ kept

pub settles_all : (e : BothEnds) (ns first : List Need) → IsUnsettled e ns → unsettled e ns ≡ unsettled e first → ns ≡ unsettled e first
settles_all e ns first h kept = sym (stays_unsettled e ns h) ∙ kept

-- ---- a packet has the missing data that the definition gives

past_by : (all : List Placed) (e : End) (a : Option ℕ) (p : Placed)
    → nat_lt (other_end (ends_of all) (side_of e)) (unwrap_or a 0) ≡ is_past all (record p { from = e; acknowledged = a })
past_by all active None p = le-ltb (end_of all passive) 0 (omega arith)
past_by all active (Some n) p = refl
past_by all passive None p = le-ltb (end_of all active) 0 (omega arith)
past_by all passive (Some n) p = refl

-- A packet acknowledges missing data exactly if the definition says so.
pub past_is : (all : List Placed) (p : Placed) → nat_lt (other_end (ends_of all) (need_at p).from) (need_at p).acknowledged ≡ is_past all p
past_is all p = past_by all p.from p.acknowledged p

own_is : (all : List Placed) (e : End) → own_end (ends_of all) (side_of e) ≡ end_of all e
own_is all active = refl
own_is all passive = refl

incomplete_is : (all : List Placed) (p : Placed) → is_incomplete (ends_of all) (need_at p) ≡ is_beyond all p
incomplete_is all p =
    ap (λ (b : Bool). b || nat_lt (own_end (ends_of all) (side_of p.from)) p.place) (past_is all p)
    ∙ ap (λ (n : ℕ). is_past all p || nat_lt n p.place) (own_is all p.from)

-- ---- the settled packets are removed

proceeds : (settled rest all : List Placed) → all ≡ settled ++ rest → length rest ≤ 4097 → ((later : List Placed) → loss [] (all ++ later) ≡ loss settled (rest ++ later))
    → IsWatched 4097 (unsettled (ends_of all) (map need_at rest)) all
proceeds settled [] all e le f = (settled, [], e, stays_unsettled (ends_of all) [] tt, f, tt, le)
proceeds settled (q ∷ next) all e le f = by_need (is_beyond all q) refl (λ g h. proceeds (settled ++ (q ∷ [])) next all g (omega (arith, le)) h)
  where
    by_need : (b : Bool) → is_beyond all q ≡ b
        → (all ≡ (settled ++ (q ∷ [])) ++ next → ((later : List Placed) → loss [] (all ++ later) ≡ loss (settled ++ (q ∷ [])) (next ++ later))
        → IsWatched 4097 (unsettled (ends_of all) (map need_at next)) all)
        → IsWatched 4097 (unsettled (ends_of all) (map need_at (q ∷ next))) all
    by_need true h go = (settled, q ∷ next, e, stays_unsettled (ends_of all) (map need_at (q ∷ next)) (incomplete_is all q ∙ h), f, h, le)
    by_need false h go =
        let here : is_beyond (settled ++ (q ∷ next)) q ≡ false = subst (λ (z : List Placed). is_beyond z q ≡ false) e h in
        subst (λ (ns : List Need). IsWatched 4097 ns all) (sym (passes_settled (ends_of all) (need_at q) (map need_at next) (incomplete_is all q ∙ h)))
        (go (e ∙ sym (append_assoc settled (q ∷ []) next)) (λ later. f later ∙ settled_sure settled q next later (omega (arith, le)) here))

-- One more packet.
pub watched : (old : List Need) (s : Side) (packet : Packet) (ends : BothEnds) (new : List Need) → new ≡ unsettled ends (old ++ needs_of s packet ∷ [])
    → (before : List Placed) (p : Placed) → Watches old before → IsNext s packet ends before p → IsWatched 4097 new (before ++ (p ∷ []))
watched old s packet ends new e before p w n =
    let all = before ++ (p ∷ []) in
    let settled = w.0 in
    let rest = w.1 in
    let split : all ≡ settled ++ (rest ++ (p ∷ [])) = ap (λ (z : List Placed). z ++ (p ∷ [])) w.2 ∙ append_assoc settled rest (p ∷ []) in
    let longer = length-append rest (p ∷ []) in
    let most = w.6 in
    let more : (later : List Placed) → loss [] (all ++ later) ≡ loss settled ((rest ++ (p ∷ [])) ++ later) =
    λ later. ap (loss []) (append_assoc before (p ∷ []) later) ∙ w.4 (p ∷ later) ∙ ap (loss settled) (sym (append_assoc rest (p ∷ []) later)) in
    let went = proceeds settled (rest ++ (p ∷ [])) all split (omega (arith, longer, most)) more in
    let queue : map need_at (rest ++ (p ∷ [])) ≡ old ++ (need_at p ∷ []) = map-append need_at rest (p ∷ []) ∙ ap (λ (z : List Need). z ++ (need_at p ∷ [])) (sym w.3) in
    let one : needs_of s packet ≡ need_at p = ap (λ (z : Side). needs_of z packet) n.0 ∙ ap (needs_of (side_of p.from)) n.1 in
    let needs : unsettled (ends_of all) (map need_at (rest ++ (p ∷ []))) ≡ new =
    ap (unsettled (ends_of all)) queue ∙ ap (λ (z : Need). unsettled (ends_of all) (old ++ (z ∷ []))) (sym one) ∙ ap (λ (z : BothEnds). unsettled z (old ++ (needs_of s packet ∷ []))) (sym n.2) ∙ sym e in
    subst (λ (ns : List Need). IsWatched 4097 ns all) needs went

pub watched_more : (needs : List Need) (all : List Placed) → Watches needs all → IsWatched 4097 needs all
watched_more needs all (settled, rest, whole, same, more, lacks, most) = (settled, rest, whole, same, more, lacks, omega (arith, most))

length_map : (qs : List Placed) → length (map need_at qs) ≡ length qs
length_map [] = refl
length_map (q ∷ qs) = ap (λ (n : ℕ). suc n) (length_map qs)

pub watches_on : (old : List Need) (s : Side) (packet : Packet) (ends : BothEnds) (new : List Need) → new ≡ unsettled ends (old ++ needs_of s packet ∷ []) → length new ≤ 4096
    → WatchesOn old s packet ends new
watches_on old s packet ends new e le before p w n =
    let found = watched old s packet ends new e before p w n in
    let l : length new ≡ length found.1 = ap length found.3 ∙ length_map found.1 in
    (found.0, found.1, found.2, found.3, found.4, found.5, omega (arith, l, le))

is_loss : (settled rest all : List Placed) (new : List Need) (k : ℕ) → all ≡ settled ++ rest → new ≡ map need_at rest → HeadIncomplete all rest → length rest ≤ 4097
    → 4096 < length new → first_of new ≡ Some k → ((later : List Placed) → loss [] (all ++ later) ≡ loss settled (rest ++ later)) → IsLoss k all
is_loss settled [] all new k whole same lacks most lt first f = let l = ap length same in absurd (omega (arith, l, lt))
is_loss settled (q ∷ next) all new k whole same lacks most lt first f =
    let l : length new ≡ length (q ∷ next) = ap length same ∙ length_map (q ∷ next) in
    let many : length next ≡ 4096 = omega (arith, l, lt, most) in
    let subsequent : is_beyond (settled ++ (q ∷ next)) q ≡ true = subst (λ (z : List Placed). is_beyond z q ≡ true) whole lacks in
    let found : Some q.packet ≡ Some k = sym (ap first_of same) ∙ first in
    (settled, q, next, whole, cc, many, λ later. f later ∙ loss_sure settled q next later many subsequent ∙ found)

finds_loss : (old : List Need) (s : Side) (packet : Packet) (ends : BothEnds) (new : List Need) (k : ℕ) → new ≡ unsettled ends (old ++ needs_of s packet ∷ []) → 4096 < length new
    → first_of new ≡ Some k → FindsLoss old s packet ends k new
finds_loss old s packet ends new k e lt first before p w n =
    let found = watched old s packet ends new e before p w n in
    (is_loss found.0 found.1 (before ++ (p ∷ [])) new k found.2 found.3 found.5 found.6 lt first found.4, found)

emits_by : (settled rest all : List Placed) (new : List Need) → all ≡ settled ++ rest → new ≡ map need_at rest → HeadIncomplete all rest → length rest ≤ 4096
    → first_of new ≡ loss settled rest
unfolding loss
emits_by settled [] all new whole same lacks most = ap first_of same
emits_by settled (q ∷ next) all new whole same lacks most =
    let few : take 4096 next ≡ next = take_all 4096 next (omega (arith, most)) in
    let subsequent : is_beyond (settled ++ (q ∷ next)) q ≡ true = subst (λ (z : List Placed). is_beyond z q ≡ true) whole lacks in
    ap first_of same
    ∙ sym (where_true (is_beyond (settled ++ (q ∷ take 4096 next)) q) (Some q.packet) (loss (settled ++ (q ∷ [])) next)
    (subst (λ (z : List Placed). is_beyond (settled ++ (q ∷ z)) q ≡ true) (sym few) subsequent))

pub returns_loss : (needs : List Need) → ReturnsLoss needs (first_of needs)
returns_loss needs all w =
    emits_by w.0 w.1 all needs w.2 w.3 w.5 w.6 ∙ ap (loss w.0) (sym (append-nil w.1)) ∙ sym (w.4 []) ∙ ap (loss []) (append-nil all)

pub watches_none : (needs : List Need) → needs ≡ [] → Watches needs []
watches_none needs e = ([], [], refl, e, λ later. refl, tt, omega arith)

pub first_none : (needs : List Need) → length needs ≡ 0 → None ≡ first_of needs
first_none [] e = refl
first_none (n ∷ ns) e = absurd (omega (arith, e))

pub first_some : (needs : List Need) (n : Need) → 0 < length needs → n ≡ slice_index_or needs 0 n → Some n.packet ≡ first_of needs
first_some [] n lt e = absurd (omega (arith, lt))
first_some (m ∷ ns) n lt e = ap (λ (z : Need). Some z.packet) e

pub returns_first : (needs : List Need) (k : Option ℕ) → k ≡ first_of needs → ReturnsLoss needs k
returns_first needs k e = subst (ReturnsLoss needs) (sym e) (returns_loss needs)

none_there : (old : List Need) (s : Side) (packet : Packet) (ends : BothEnds) (new : List Need) → 4096 < length new → first_of new ≡ None → WatchesOn old s packet ends new
none_there old s packet ends [] lt e = absurd (omega (arith, lt))
none_there old s packet ends (n ∷ ns) lt e = absurd cc

-- By the result.
pub took_none : {E : Type 0} (old : List Need) (s : Side) (packet : Packet) (ends : BothEnds) (new : List Need) (r : Option ℕ) → r ≡ first_of new → 4096 < length new
    → ◌≡◌ {A = Result (Option ℕ) E} (Ok r) (Ok None) → WatchesOn old s packet ends new
took_none old s packet ends new r f lt e = let none : r ≡ None = cc in none_there old s packet ends new lt (sym f ∙ none)

pub took_some : {E : Type 0} (old : List Need) (s : Side) (packet : Packet) (ends : BothEnds) (new : List Need) (k : ℕ) (r : Option ℕ) → r ≡ first_of new → 4096 < length new
    → new ≡ unsettled ends (old ++ needs_of s packet ∷ []) → ◌≡◌ {A = Result (Option ℕ) E} (Ok r) (Ok (Some k)) → FindsLoss old s packet ends k new
took_some old s packet ends new k r f lt is e = let some : r ≡ Some k = cc in finds_loss old s packet ends new k is lt (sym f ∙ some)

-- ---- the packet that shows it

pub past_here : (e : BothEnds) (n : Need) (all left rest : List Need) (b : Bool) → past_of e all ≡ past_of e left → left ≡ n ∷ rest → b ≡ nat_lt (other_end e n.from) n.acknowledged
    → b ≡ true → Some n.packet ≡ past_of e all
past_here e n all left rest b so is lacks t =
    let here : nat_lt (other_end e n.from) n.acknowledged ≡ true = sym lacks ∙ t in
    let one : past_of e (n ∷ rest) ≡ Some n.packet = rw here refl in
    sym (so ∙ ap (past_of e) is ∙ one)

pub past_after : (e : BothEnds) (n : Need) (all left rest : List Need) (b : Bool) → past_of e all ≡ past_of e left → left ≡ n ∷ rest → b ≡ nat_lt (other_end e n.from) n.acknowledged
    → b ≡ false → past_of e all ≡ past_of e rest
past_after e n all left rest b so is lacks f =
    let here : nat_lt (other_end e n.from) n.acknowledged ≡ false = sym lacks ∙ f in
    let one : past_of e (n ∷ rest) ≡ past_of e rest = rw here refl in
    so ∙ ap (past_of e) is ∙ one

pub past_none : (e : BothEnds) (all left : List Need) → past_of e all ≡ past_of e left → left ≡ [] → None ≡ past_of e all
past_none e all left so is = sym (so ∙ ap (past_of e) is)
