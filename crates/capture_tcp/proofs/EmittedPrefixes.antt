-- A capture that is cut anywhere emits a prefix of what the complete one emits.
use Rattle.std.proofs.Common.{◌≡◌, ◌≤◌, ◌++◌, ◌∷◌, ◌+◌, ◌||◌, ℕ, Bool, true, false, cond, List, [], length, filter, flat_map, Option, Some, None, refl, sym, ap, subst, ◌∙◌, arith}
use Rattle.std.proofs.lemmas.List.{append-nil, append_assoc}
use Rattle.capture_tcp.specs.declared.events.EmitterState.{EmitterState}
use Rattle.capture_tcp.specs.declared.events.EmitterState.TheVariants as emitter_state
use Rattle.capture_tcp.specs.TcpStreams.{End, active, passive, Cell, Placed, Turn, Left, Both, left_of, with_left, Delivery, deliveries, is_before, breaks_off, turns, both_streams, end_of, places}
use Rattle.capture_tcp.specs.Message.{message_size}
use Rattle.capture_tcp.specs.ConnectionEvents.{Entry, entry, entry_of, down, emits}
use Rattle.capture_tcp.specs.EventSteps.{cut_entries, cut_to, processes_input}
use Rattle.capture_tcp.specs.DeliverySteps.{answer_entries, delivers, due_of, opens, resets}
use Rattle.capture_tcp.specs.ReaderState.{AreRising}
use Rattle.capture_tcp.specs.Entries.{PrefixIsEmitted}
use Rattle.capture_tcp.proofs.Connecting.{all_rise}
use Rattle.capture_tcp.proofs.CutOff.{both_longer, cut_end, cut_more, end_left, with_ends}
use Rattle.capture_tcp.proofs.StreamPrefixes.{places_begin, places_more, places_rise, streams_end, streams_more}
use Rattle.capture_tcp.proofs.LastingFacts.{numbered_front}
use Rattle.capture_tcp.proofs.Lists.{Begins, Each, each_filter, weaken}
use Rattle.capture_tcp.proofs.Longer.{stream_more}
use Rattle.capture_tcp.proofs.Numbered.{Rising, rising_front}
use Rattle.capture_tcp.proofs.Sizes.{is_size}
use Rattle.capture_tcp.proofs.EmittedEvents.{processed_emitted, signs, emits_all, emitted_signs, turn_by}
use Rattle.capture_tcp.proofs.DeliveredPackets.{Within, each_within, kept_more}

-- Holds if both streams end there.
abbrev EndAt : (End → ℕ) → Both → Type 0
EndAt last b = (d : End) → end_left (left_of b d) ≡ last d

abbrev subsequent : Both → End → ℕ → Both
subsequent b d n = with_left b d (cut_to n (left_of b d)).left

after_ends : (last : End → ℕ) (b : Both) (d : End) (n : ℕ) → EndAt last b → EndAt last (subsequent b d n)
after_ends last b d n ends =
    with_ends last b d (cut_to n (left_of b d)).left (cut_end message_size is_size (length (left_of b d).cells) n (left_of b d) ∙ ends d) ends

-- What is delivered up to an offset that exists is the same in longer streams.
one_longer : (more : End → List Cell) (last : End → ℕ) (b : Both) (d : End) (n at : ℕ) → EndAt last b → n ≤ last d
    → (cut_entries d at (cut_to n (left_of (both_longer more b) d)) ≡ cut_entries d at (cut_to n (left_of b d))) × (subsequent (both_longer more b) d n ≡ both_longer more (subsequent b d n))
one_longer more last b active n at ends le =
    let l = b.active in
    let here = ends active in
    let same = cut_more message_size is_size (length l.cells) (length (l.cells ++ more active)) n l (more active) (omega arith) (omega arith) (omega (arith, here, le)) in
    (ap (λ (ms : List (List Cell)). flat_map (λ m. entry_of active at [] m) ms) same.0, ap (λ (z : Left). with_left (both_longer more b) active z) same.1)
one_longer more last b passive n at ends le =
    let l = b.passive in
    let here = ends passive in
    let same = cut_more message_size is_size (length l.cells) (length (l.cells ++ more passive)) n l (more passive) (omega arith) (omega arith) (omega (arith, here, le)) in
    (ap (λ (ms : List (List Cell)). flat_map (λ m. entry_of passive at [] m) ms) same.0, ap (λ (z : Left). with_left (both_longer more b) passive z) same.1)

-- A delivery is the same in longer streams, and preserves where both streams end.
record IsLonger (more : End → List Cell) (last : End → ℕ) (b : Both) (t : Turn) : Type 0 where
  same : (delivers (due_of t) (both_longer more b)).entries ≡ (delivers (due_of t) b).entries
  left : (delivers (due_of t) (both_longer more b)).both ≡ both_longer more (delivers (due_of t) b).both
  ends : EndAt last (delivers (due_of t) b).both

two_entries : (b : Both) (d e : End) (m n at : ℕ) → List Entry
two_entries b d e m n at = cut_entries d at (cut_to m (left_of b d)) ++ cut_entries e at (cut_to n (left_of (subsequent b d m) e))

two_longer : (more : End → List Cell) (last : End → ℕ) (b : Both) (d e : End) (m n at : ℕ) → EndAt last b → m ≤ last d → n ≤ last e
    → (two_entries (both_longer more b) d e m n at ≡ two_entries b d e m n at) × (subsequent (subsequent (both_longer more b) d m) e n ≡ both_longer more (subsequent (subsequent b d m) e n))
unfolding two_entries
two_longer more last b d e m n at ends low high =
    let one = one_longer more last b d m at ends low in
    let two = one_longer more last (subsequent b d m) e n at (after_ends last b d m ends) high in
    let x = cut_entries d at (cut_to m (left_of b d)) in (
      ap (λ (es : List Entry). es ++ cut_entries e at (cut_to n (left_of (subsequent (both_longer more b) d m) e))) one.0
          ∙ ap (λ (z : Both). x ++ cut_entries e at (cut_to n (left_of z e))) one.1 ∙ ap (λ (es : List Entry). x ++ es) two.0,
      ap (λ (z : Both). subsequent z e n) one.1 ∙ two.1,
    )

abbrev UpTo : (End → ℕ) → Turn → Type 0
UpTo last t = Each (λ (x : Delivery). x.upto ≤ last x.of) (deliveries t)

turn_longer : (more : End → List Cell) (last : End → ℕ) (b : Both) (at own : Placed) (e : End) (a : Option ℕ) → EndAt last b → UpTo last (turn_by at own e a)
    → IsLonger more last b (turn_by at own e a)
unfolding two_entries
turn_longer more last b at own active None ends h =
    let n = own.place + length own.cells in
    let one = one_longer more last b active n at.packet ends h.0 in
    record { same = one.0; left = one.1; ends = after_ends last b active n ends }
turn_longer more last b at own passive None ends h =
    let n = own.place + length own.cells in
    let one = one_longer more last b passive n at.packet ends h.0 in
    record { same = one.0; left = one.1; ends = after_ends last b passive n ends }
turn_longer more last b at own active (Some m) ends h =
    let n = own.place + length own.cells in
    let two = two_longer more last b passive active m n at.packet ends h.0 h.1.0 in
    record { same = two.0; left = two.1; ends = after_ends last (subsequent b passive m) active n (after_ends last b passive m ends) }
turn_longer more last b at own passive (Some m) ends h =
    let n = own.place + length own.cells in
    let two = two_longer more last b active passive m n at.packet ends h.0 h.1.0 in
    record { same = two.0; left = two.1; ends = after_ends last (subsequent b active m) passive n (after_ends last b active m ends) }

-- Delivery by delivery.
signs_more : (more : End → List Cell) (last : End → ℕ) (o : Bool) (b : Both) (ts us : List Turn) → EndAt last b → Each (UpTo last) ts
    → Begins Entry (signs o b ts) (signs o (both_longer more b) (ts ++ us))
unfolding signs
signs_more more last o b [] us ends h = (signs o (both_longer more b) us, refl)
signs_more more last o b (t ∷ ts) us ends h =
    let it : IsLonger more last b t = turn_longer more last b t.at t.own t.own.from t.own.acknowledged ends h.0 in
    by_reset (resets o (due_of t)) it.same it.left
    (signs_more more last (o || opens (due_of t)) (delivers (due_of t) b).both ts us it.ends h.1)
  where
    a : List Entry
    a = answer_entries (due_of t)

    d : List Entry
    d = (delivers (due_of t) b).entries

    later : Bool
    later = o || opens (due_of t)

    left : Both
    left = (delivers (due_of t) b).both

    by_reset : (r : Bool) → (delivers (due_of t) (both_longer more b)).entries ≡ d → (delivers (due_of t) (both_longer more b)).both ≡ both_longer more left
        → Begins Entry (signs later left ts) (signs later (both_longer more left) (ts ++ us))
        → Begins Entry (a ++ (d ++ cond r (entry t.at.packet down ∷ []) (signs later left ts)))
        (a ++ ((delivers (due_of t) (both_longer more b)).entries
        ++ cond r (entry t.at.packet down ∷ []) (signs later (delivers (due_of t) (both_longer more b)).both (ts ++ us))))
    by_reset true same is on =
        ([], ap (λ (es : List Entry). a ++ (es ++ entry t.at.packet down ∷ [])) same ∙ sym (append-nil (a ++ (d ++ entry t.at.packet down ∷ []))))
    by_reset false same is on = (
      on.0,
      ap (λ (es : List Entry). a ++ (es ++ signs later (delivers (due_of t) (both_longer more b)).both (ts ++ us))) same
          ∙ ap (λ (z : Both). a ++ (d ++ signs later z (ts ++ us))) is ∙ ap (λ (es : List Entry). a ++ (d ++ es)) on.1
          ∙ ap (λ (es : List Entry). a ++ es) (sym (append_assoc d (signs later left ts) on.0)) ∙ sym (append_assoc a (d ++ signs later left ts) on.0),
    )

abbrev kept : List Placed → List Turn
kept ps = filter (is_before (breaks_off ps)) (turns [] ps)

reported_is : (ps : List Placed) → AreRising 0 ps → emits ps ≡ (processes_input (emitter_state.Waiting None) (signs false (both_streams ps) (kept ps))).emitted
reported_is ps h = sym (emits_all ps h) ∙ emitted_signs (emitter_state.Waiting None) false (both_streams ps) (kept ps)

emitted_more : (xs ys : List Placed) → Rising 0 (xs ++ ys) → AreRising 0 xs → AreRising 0 (xs ++ ys) → Begins Entry (emits xs) (emits (xs ++ ys))
emitted_more xs ys rising rises rises_all =
    let more : End → List Cell = λ d. (stream_more xs ys d).0 in
    let turns_on = kept_more 0 xs ys rising in
    let within : Each (UpTo (end_of xs)) (kept xs) =
    weaken (λ (t : Turn). (is_before (breaks_off xs) t ≡ true → Each (Within xs) (deliveries t)) × (is_before (breaks_off xs) t ≡ true)) (UpTo (end_of xs)) (kept xs)
    (λ t f. f.0 f.1)
    (each_filter (λ (t : Turn). is_before (breaks_off xs) t ≡ true → Each (Within xs) (deliveries t)) (is_before (breaks_off xs)) (turns [] xs)
    (each_within 0 xs (rising_front 0 xs ys rising))) in
    let on = signs_more more (end_of xs) false (both_streams xs) (kept xs) turns_on.0 (streams_end xs) within in
    let start : EmitterState = emitter_state.Waiting None in
    let first = signs false (both_streams xs) (kept xs) in (
      (processes_input (processes_input start first).state on.0).emitted,
      reported_is (xs ++ ys) rises_all
          ∙ ap (λ (b : Both). (processes_input start (signs false b (kept (xs ++ ys)))).emitted) (streams_more xs ys)
          ∙ ap (λ (ts : List Turn). (processes_input start (signs false (both_longer more (both_streams xs)) ts)).emitted) turns_on.1
          ∙ ap (λ (es : List Entry). (processes_input start es).emitted) on.1 ∙ processed_emitted start first on.0
          ∙ ap (λ (es : List Entry). es ++ (processes_input (processes_input start first).state on.0).emitted) (sym (reported_is xs rises)),
    )

pub front_reported : PrefixIsEmitted
front_reported base first later numbered =
    let xs = places base [] first in
    let split = places_begin base xs later in
    let whole : places base [] (first ++ later) ≡ xs ++ split.0 = places_more base [] first later ∙ split.1 in
    let rises = places_rise base [] 0 (first ++ later) numbered in
    let rising : Rising 0 (xs ++ split.0) = subst (Rising 0) (sym rises.1 ∙ whole) rises.2 in
    let on = emitted_more xs split.0 rising (all_rise base first (numbered_front 0 first later numbered)) (subst (AreRising 0) whole (all_rise base (first ++ later) numbered)) in
    (on.0, ap emits whole ∙ on.1)
