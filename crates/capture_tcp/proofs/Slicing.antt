-- Messages that are cut off a stream one by one, and emitted.
use Rattle.std.proofs.Common.{◌≡◌, ◌<◌, ◌≤◌, ◌+◌, ◌-◌, ◌++◌, ◌∷◌, ℕ, zero, suc, Bool, true, false, cond, nat_lt, List, [], length, take, drop, map, Option, Some, None, refl, sym, ap, subst, ◌∙◌, arith, inl, inr, length-drop}
use Rattle.std.proofs.lemmas.Bool.{lt-ltb, le-ltb, cases_lt}
use Rattle.std.proofs.lemmas.List.{append-nil, append_assoc, take-append-le, drop-append-le, drop-drop}
use Rattle.capture_tcp.specs.declared.reassembly.Cell.{Cell as HeldCell}
use Rattle.capture_tcp.specs.declared.packet.Side.{Side}
use Rattle.capture_tcp.specs.declared.packet.Side.TheVariants as side
use Rattle.capture_tcp.specs.declared.events.TimedEvent.{TimedEvent}
use Rattle.capture_tcp.specs.declared.events.EmitterState.{EmitterState}
use Rattle.capture_tcp.specs.TcpStreams.{End, Cell, Left, Cut, and_then, cut_by, cut_off}
use Rattle.capture_tcp.specs.Message.{message_size}
use Rattle.capture_tcp.specs.Reassembly.{Store, fitting, in_piece, piece_from}
use Rattle.capture_tcp.specs.ConnectionEvents.{Entry, entry, down, message, entry_of}
use Rattle.capture_tcp.specs.KnownStreams.{end_at}
use Rattle.capture_tcp.specs.EventSteps.{Processed, process_input, processes_input, and_processed, entry_as, closes_down, says_first, cut_entries, cut_to}
use Rattle.capture_tcp.specs.InnerEventSteps.{ProcessesInput, IsLeft, Cuts}
use Rattle.capture_tcp.proofs.Sizes.{is_size}

-- ---- entries that are processed one after another

abbrev reception : EmitterState → List Entry → Processed
reception s es = record { state = s; emitted = es }

same_processed : (s t : EmitterState) (es fs : List Entry) → s ≡ t → es ≡ fs → reception s es ≡ reception t fs
same_processed s t es fs e f = rw (e, f) refl

pub processes_none : (t : EmitterState) → processes_input t [] ≡ reception t []
unfolding processes_input
processes_none t = refl

pub processes_first : (t : EmitterState) (e : Entry) (es : List Entry) → processes_input t (e ∷ es) ≡ and_processed (process_input t e) (λ s. processes_input s es)
unfolding processes_input
processes_first t e es = refl

pub processes_one : (t : EmitterState) (e : Entry) → processes_input t (e ∷ []) ≡ process_input t e
unfolding processes_input
processes_one t e = same_processed (process_input t e).state (process_input t e).state ((process_input t e).emitted ++ []) (process_input t e).emitted refl (append-nil (process_input t e).emitted)

pub processes_append : (t : EmitterState) (xs ys : List Entry) → processes_input t (xs ++ ys) ≡ and_processed (processes_input t xs) (λ s. processes_input s ys)
unfolding processes_input
processes_append t [] ys = refl
processes_append t (x ∷ xs) ys =
    let s = (process_input t x).state in
    let later = processes_append s xs ys in
    same_processed (processes_input s (xs ++ ys)).state (processes_input (processes_input s xs).state ys).state ((process_input t x).emitted ++ (processes_input s (xs ++ ys)).emitted)
    (((process_input t x).emitted ++ (processes_input s xs).emitted) ++ (processes_input (processes_input s xs).state ys).emitted)
    (ap (λ (h : Processed). h.state) later)
    (ap (λ (h : Processed). (process_input t x).emitted ++ h.emitted) later ∙ sym (append_assoc (process_input t x).emitted (processes_input s xs).emitted (processes_input (processes_input s xs).state ys).emitted))

-- What was processed, and then more.
pub processed_then : (h : Processed) (f : EmitterState → Processed) (a b c : List TimedEvent) (s t : EmitterState) → ProcessesInput h a s b → ProcessesInput (f s) b t c → ProcessesInput (and_processed h f) a t c
processed_then h f a b c s t x y =
    let same = ap f x.0 in (
      y.0 ∙ ap (λ (g : Processed). g.state) same,
      y.1 ∙ ap (λ (es : List Entry). es ++ (f s).emitted) x.1 ∙ append_assoc (map entry_as a) h.emitted (f s).emitted
          ∙ ap (λ (g : Processed). map entry_as a ++ (h.emitted ++ g.emitted)) same,
    )

pub processed_as : (g h : Processed) (a b : List TimedEvent) (s : EmitterState) → g ≡ h → ProcessesInput g a s b → ProcessesInput h a s b
processed_as g h a b s e x = subst (λ (h : Processed). ProcessesInput h a s b) e x

pub none_processed : (t : EmitterState) (a : List TimedEvent) → ProcessesInput (processes_input t []) a t a
unfolding processes_input
none_processed t a = (refl, sym (append-nil (map entry_as a)))

from_side : (s : Side) (t : EmitterState) (n : ℕ) (octets : List ℕ) → process_input t (entry n (message (end_at s) octets)) ≡ says_first t n s octets
from_side side.Active t n octets = refl
from_side side.Passive t n octets = refl

pub message_processed : (t u : EmitterState) (s : Side) (n : ℕ) (octets : List ℕ) (a b : List TimedEvent) → ProcessesInput (says_first t n s octets) a u b
    → ProcessesInput (processes_input t (entry n (message (end_at s) octets) ∷ [])) a u b
message_processed t u s n octets a b h =
    processed_as (says_first t n s octets) (processes_input t (entry n (message (end_at s) octets) ∷ [])) a b u
    (sym (processes_one t (entry n (message (end_at s) octets)) ∙ from_side s t n octets)) h

pub down_processed : (t u : EmitterState) (n : ℕ) (a b : List TimedEvent) → ProcessesInput (closes_down t n) a u b → ProcessesInput (processes_input t (entry n down ∷ [])) a u b
down_processed t u n a b h = processed_as (closes_down t n) (processes_input t (entry n down ∷ [])) a b u (sym (processes_one t (entry n down))) h

-- ---- what is buffered without a gap after others

pub piece_drop : (k : ℕ) (ss : List (Option HeldCell)) → k ≤ length (in_piece ss) → in_piece (drop k ss) ≡ drop k (in_piece ss)
piece_drop zero ss le = refl
piece_drop (suc k) [] le = absurd (omega (arith, le))
piece_drop (suc k) (None ∷ ss) le = absurd (omega (arith, le))
piece_drop (suc k) (Some c ∷ ss) le = piece_drop k ss (omega (arith, le))

pub piece_after : (s : Store) (place count : ℕ) → s.place ≤ place → count ≤ length (piece_from s place) → piece_from s (place + count) ≡ drop count (piece_from s place)
piece_after s place count low le =
    let at : place + count - s.place ≡ (place - s.place) + count = omega (arith, low) in
    ap (λ (i : ℕ). in_piece (drop i s.cells)) at ∙ ap in_piece (sym (drop-drop count (place - s.place) s.cells))
    ∙ piece_drop count (drop (place - s.place) s.cells) le

-- ---- enough steps

abbrev subsequent : Left → ℕ → Left
subsequent l n = record { place = l.place + n; cells = drop n l.cells }

abbrev stopped : Left → Cut
stopped l = record { messages = []; left = l }

enough : (j k upto : ℕ) (l : Left) → length l.cells ≤ j → length l.cells ≤ k → cut_off j message_size upto l ≡ cut_off k message_size upto l
unfolding cut_off
enough zero zero upto l a b = refl
enough zero (suc k) upto l a b = by_size (message_size l.cells) refl
  where
    by_size : (o : Option ℕ) → message_size l.cells ≡ o → stopped l ≡ cut_by upto l (λ n. cut_off k message_size upto (subsequent l n)) o
    by_size None e = refl
    by_size (Some n) e = let there = is_size.there l.cells n e in absurd (omega (arith, there.0, there.1, a))
enough (suc j) zero upto l a b = by_size (message_size l.cells) refl
  where
    by_size : (o : Option ℕ) → message_size l.cells ≡ o → cut_by upto l (λ n. cut_off j message_size upto (subsequent l n)) o ≡ stopped l
    by_size None e = refl
    by_size (Some n) e = let there = is_size.there l.cells n e in absurd (omega (arith, there.0, there.1, b))
enough (suc j) (suc k) upto l a b =
    by_size (message_size l.cells) refl
    (λ n pos. let dropped = length-drop n l.cells in enough j k upto (subsequent l n) (omega (arith, dropped, a, pos)) (omega (arith, dropped, b, pos)))
  where
    by_size : (o : Option ℕ) → message_size l.cells ≡ o → ((n : ℕ) → 0 < n → cut_off j message_size upto (subsequent l n) ≡ cut_off k message_size upto (subsequent l n))
        → cut_by upto l (λ n. cut_off j message_size upto (subsequent l n)) o ≡ cut_by upto l (λ n. cut_off k message_size upto (subsequent l n)) o
    by_size None e later = refl
    by_size (Some n) e later =
        let there = is_size.there l.cells n e in
        ap (λ (c : Cut). cond (nat_lt upto (l.place + n)) (stopped l) (and_then (take n l.cells) c)) (later n there.0)

cut_some : (k upto n : ℕ) (l : Left) → message_size l.cells ≡ Some n → l.place + n ≤ upto → cut_off (suc k) message_size upto l ≡ and_then (take n l.cells) (cut_off k message_size upto (subsequent l n))
unfolding cut_off
cut_some k upto n l e le = rw (e, le-ltb upto (l.place + n) le) refl

cut_stop : (k upto : ℕ) (l : Left) → ((n : ℕ) → message_size l.cells ≡ Some n → upto < l.place + n) → cut_off k message_size upto l ≡ stopped l
unfolding cut_off
cut_stop zero upto l h = refl
cut_stop (suc k) upto l h = by_size (message_size l.cells) refl
  where
    by_size : (o : Option ℕ) → message_size l.cells ≡ o → cut_by upto l (λ n. cut_off k message_size upto (subsequent l n)) o ≡ stopped l
    by_size None e = refl
    by_size (Some n) e = rw (lt-ltb upto (l.place + n) (h n e)) refl

-- The first message, and then the others.
cut_first : (upto n : ℕ) (l : Left) → message_size l.cells ≡ Some n → l.place + n ≤ upto → cut_to upto l ≡ and_then (take n l.cells) (cut_to upto (subsequent l n))
cut_first upto n l e le =
    let there = is_size.there l.cells n e in
    let dropped = length-drop n l.cells in
    let one : length l.cells ≡ suc (length l.cells - 1) = omega (arith, there.0, there.1) in
    ap (λ (k : ℕ). cut_off k message_size upto l) one ∙ cut_some (length l.cells - 1) upto n l e le
    ∙ ap (and_then (take n l.cells)) (enough (length l.cells - 1) (length (drop n l.cells)) upto (subsequent l n) (omega (arith, dropped, there.0)) (omega arith))

-- ---- by what is buffered

fits_some : (upto place n : ℕ) (o : Option ℕ) → Some n ≡ fitting upto place o → o ≡ Some n
fits_some upto place n None e = absurd cc
fits_some upto place n (Some m) e = by_test (nat_lt upto (place + m)) e
  where
    by_test : (b : Bool) → Some n ≡ cond b None (Some m) → Some m ≡ Some n
    by_test true e = absurd cc
    by_test false e = sym e

fits_none : (upto place n : ℕ) (o : Option ℕ) → None ≡ fitting upto place o → o ≡ Some n → place + n ≤ upto → ⊥
fits_none upto place n None e f le = absurd cc
fits_none upto place n (Some m) e f le =
    let same : m ≡ n = cc in
    by_test (nat_lt upto (place + m)) (le-ltb upto (place + m) (omega (arith, same, le))) e
  where
    by_test : (b : Bool) → b ≡ false → None ≡ cond b None (Some m) → ⊥
    by_test true g e = absurd cc
    by_test false g e = absurd cc

pub cut_none : (s : Store) (d : End) (n upto place : ℕ) (emitted : List TimedEvent) (t : EmitterState) → (s.place ≤ place → None ≡ fitting upto place (message_size (piece_from s place)))
    → Cuts s d n upto place emitted t place emitted t
cut_none s d n upto place emitted t front l left fits =
    let piece = piece_from s place in
    let more = left.2.0 in
    let none = front left.1 in
    let stop : cut_to upto l ≡ stopped l =
    cut_stop (length l.cells) upto l
    (λ m e. elim (cases_lt upto (l.place + m)) [
      | inl lt ↦ lt
      | inr le ↦
          let whole : message_size (piece ++ more) ≡ Some m = ap message_size (sym left.2.1) ∙ e in
          let at = left.0 in
          absurd (fits_none upto place m (message_size piece) none (is_size.emitted piece more m whole (omega (arith, fits, le, at))) (omega (arith, le, at)))
    ]) in (
      processed_as (processes_input t []) (processes_input t (cut_entries d n (cut_to upto l))) emitted emitted t (ap (λ (c : Cut). processes_input t (cut_entries d n c)) (sym stop)) (none_processed t emitted),
      subst (λ (c : Cut). IsLeft s place c.left) (sym stop) left,
    )

remains_after : (s : Store) (place count : ℕ) (l : Left) → count ≤ length (piece_from s place) → IsLeft s place l → IsLeft s (place + count) (subsequent l count)
remains_after s place count l le left =
    let at = left.0 in
    let low = left.1 in (
      omega (arith, at),
      omega (arith, low),
      (left.2.0, ap (drop count) left.2.1 ∙ drop-append-le count (piece_from s place) left.2.0 le ∙ ap (λ (cs : List Cell). cs ++ left.2.0) (sym (piece_after s place count low le))),
    )

pub cut_one : (s : Store) (d : End) (n upto place count : ℕ) (emitted mid now : List TimedEvent) (t u v : EmitterState) (later : ℕ) → (s.place ≤ place → Some count ≡ fitting upto place (message_size (piece_from s place)))
    → place + count ≤ upto → (s.place ≤ place → count ≤ length (piece_from s place) → ProcessesInput (processes_input t (entry_of d n [] (take count (piece_from s place)))) emitted u mid)
    → Cuts s d n upto (place + count) mid u later now v → Cuts s d n upto place emitted t later now v
cut_one s d n upto place count emitted mid now t u v later front ends emits next l left fits =
    let piece = piece_from s place in
    let more = left.2.0 in
    let at = left.0 in
    let size : message_size piece ≡ Some count = fits_some upto place count (message_size piece) (front left.1) in
    let le = (is_size.there piece count size).1 in
    let whole : message_size l.cells ≡ Some count = ap message_size left.2.1 ∙ is_size.stays piece more count size in
    let first : take count l.cells ≡ take count piece = ap (take count) left.2.1 ∙ take-append-le count piece more le in
    let suffix_is : length (piece_from s (place + count)) ≡ length (drop count piece) = ap length (piece_after s place count left.1 le) in
    let dropped = length-drop count piece in
    let rest = next (subsequent l count) (remains_after s place count l le left) (omega (arith, fits, suffix_is, dropped, le)) in
    let cut = cut_first upto count l whole (omega (arith, ends, at)) in
    let others = cut_to upto (subsequent l count) in
    let one : ProcessesInput (processes_input t (entry_of d n [] (take count l.cells))) emitted u mid =
    subst (λ (cs : List Cell). ProcessesInput (processes_input t (entry_of d n [] cs)) emitted u mid) (sym first) (emits left.1 le) in
    let both = processed_then (processes_input t (entry_of d n [] (take count l.cells))) (λ s. processes_input s (cut_entries d n others)) emitted mid now u v one rest.0 in (
      processed_as (and_processed (processes_input t (entry_of d n [] (take count l.cells))) (λ s. processes_input s (cut_entries d n others))) (processes_input t (cut_entries d n (cut_to upto l))) emitted now v
          (sym (ap (λ (c : Cut). processes_input t (cut_entries d n c)) cut ∙ processes_append t (entry_of d n [] (take count l.cells)) (cut_entries d n others))) both,
      subst (λ (c : Cut). IsLeft s later c.left) (sym cut) rest.1,
    )
