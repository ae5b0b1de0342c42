-- A capture that is cut shows a prefix of what the complete one shows.
use Rattle.std.proofs.Common.{◌≡◌, ◌<◌, ℕ, List, [], ◌∷◌, ◌++◌, flat_map, Option, Some, None, refl, sym, ap, subst, ◌∙◌, arith}
use Rattle.std.proofs.lemmas.List.{append_assoc, append-nil}
use Rattle.std.proofs.lemmas.List.Concat.{flat_map-append}
use Rattle.capture_tcp.specs.TcpStreams.{End, active, passive, other, Cell, Seen, Placed, Turn, Delivery, deliveries, emitted_turns, Both, left_of, both_streams, stream_of, end_of, show, shows_of, Shown, placed_at, places, confirmed, timed, place_of, ack_place, wire_shows}
use Rattle.capture_tcp.specs.Laws.{IsSize, AreNumbered}
use Rattle.capture_tcp.proofs.Lists.{Begins}
use Rattle.capture_tcp.proofs.Longer.{stream_length, stream_more}
use Rattle.capture_tcp.proofs.Numbered.{Rising, rising_front, rising_lower}
use Rattle.capture_tcp.proofs.DeliveredPackets.{emitted_more, emitted_within}
use Rattle.capture_tcp.proofs.CutOff.{end_left, both_longer, show_more}

-- ---- offsets

pub places_more : (base : End → ℕ) (before : List Placed) (xs ys : List Seen) → places base before (xs ++ ys) ≡ places base (places base before xs) ys
unfolding places
places_more base before [] ys = refl
places_more base before (s ∷ xs) ys =
    places_more base (before ++ placed_at (end_of before s.from) (confirmed before s.from) (timed before s) (place_of (end_of before s.from) (base s.from) s.number)
    (ack_place before base (other s.from) s.acknowledged)) xs ys

pub places_begin : (base : End → ℕ) (before : List Placed) (ss : List Seen) → Begins Placed before (places base before ss)
unfolding places
places_begin base before [] = ([], sym (append-nil before))
places_begin base before (s ∷ ss) =
    let new = placed_at (end_of before s.from) (confirmed before s.from) (timed before s) (place_of (end_of before s.from) (base s.from) s.number) (ack_place before base (other s.from) s.acknowledged) in
    let later = places_begin base (before ++ new) ss in
    (new ++ later.0, later.1 ∙ append_assoc before new later.0)

abbrev Rises : List Placed → ℕ → List Placed → Type 0
Rises before n ps = (rest : List Placed) × (ps ≡ before ++ rest) × Rising n rest

new_rises : (end acknowledged n : ℕ) (s : Seen) (place ack : Option ℕ) (rest : List Placed) → n < s.packet → Rising s.packet rest → Rising n (placed_at end acknowledged s place ack ++ rest)
new_rises end acknowledged n s None ack rest lt h = rising_lower n s.packet rest (omega (arith, lt)) h
new_rises end acknowledged n s (Some place) ack rest lt h = (lt, h)

pub places_rise : (base : End → ℕ) (before : List Placed) (n : ℕ) (ss : List Seen) → AreNumbered n ss → Rises before n (places base before ss)
unfolding places
places_rise base before n [] h = ([], sym (append-nil before), tt)
places_rise base before n (s ∷ ss) h =
    let place = place_of (end_of before s.from) (base s.from) s.number in
    let ack = ack_place before base (other s.from) s.acknowledged in
    let new = placed_at (end_of before s.from) (confirmed before s.from) (timed before s) place ack in
    let later = places_rise base (before ++ new) s.packet ss h.1 in
    (new ++ later.0, later.1 ∙ append_assoc before new later.0, new_rises (end_of before s.from) (confirmed before s.from) n (timed before s) place ack later.0 h.0 later.2)

-- ---- what is shown

abbrev both_of : List Cell → List Cell → Both
both_of a p = record { active = record { place = 0; cells = a }; passive = record { place = 0; cells = p } }

pub streams_end : (ps : List Placed) (d : End) → end_left (left_of (both_streams ps) d) ≡ end_of ps d
streams_end ps active = let e = stream_length ps active in omega (arith, e)
streams_end ps passive = let e = stream_length ps passive in omega (arith, e)

-- More packets make the streams longer.
pub streams_more : (xs ys : List Placed) → both_streams (xs ++ ys) ≡ both_longer (λ d. (stream_more xs ys d).0) (both_streams xs)
streams_more xs ys =
    ap (λ (a : List Cell). both_of a (stream_of (xs ++ ys) passive)) (stream_more xs ys active).1
    ∙ ap (λ (p : List Cell). both_of (stream_of xs active ++ (stream_more xs ys active).0) p) (stream_more xs ys passive).1

pub shows_more : (size : List Cell → Option ℕ) → IsSize size → (m : ℕ) (xs ys : List Placed) → Rising m (xs ++ ys) → Rising m xs
    → Begins Shown (shows_of size xs) (shows_of size (xs ++ ys))
shows_more size is m xs ys h front =
    let more : End → List Cell = λ d. (stream_more xs ys d).0 in
    let emitted = emitted_more m xs ys h in
    let given : flat_map deliveries (emitted_turns (xs ++ ys)) ≡ flat_map deliveries (emitted_turns xs) ++ flat_map deliveries emitted.0 =
    ap (λ (ts : List Turn). flat_map deliveries ts) emitted.1 ∙ flat_map-append deliveries (emitted_turns xs) emitted.0 in
    let shown = show_more size is more (end_of xs) (both_streams xs) (flat_map deliveries (emitted_turns xs)) (flat_map deliveries emitted.0) (streams_end xs) (emitted_within m xs front) in (
      shown.0,
      ap (λ (b : Both). show size b (flat_map deliveries (emitted_turns (xs ++ ys)))) (streams_more xs ys)
          ∙ ap (λ (ds : List Delivery). show size (both_longer more (both_streams xs)) ds) given ∙ shown.1,
    )

pub front : (size : List Cell → Option ℕ) (base : End → ℕ) (first later : List Seen) → IsSize size → AreNumbered 0 (first ++ later)
    → (rest : List Shown) × (wire_shows size base (first ++ later) ≡ wire_shows size base first ++ rest)
front size base first later is h =
    let known = places base [] first in
    let split = places_begin base known later in
    let whole : places base [] (first ++ later) ≡ known ++ split.0 = places_more base [] first later ∙ split.1 in
    let rises = places_rise base [] 0 (first ++ later) h in
    let numbered : Rising 0 (known ++ split.0) = subst (Rising 0) (sym rises.1 ∙ whole) rises.2 in
    let shown = shows_more size is 0 known split.0 numbered (rising_front 0 known split.0 numbered) in
    (shown.0, ap (λ (ps : List Placed). shows_of size ps) whole ∙ shown.1)
