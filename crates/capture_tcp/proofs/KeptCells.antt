-- What is shown of a direction is a prefix of its stream, and nothing of it comes after a loss.
use Rattle.std.proofs.Common.{◌≡◌, ◌<◌, ◌≤◌, ◌⊎◌, inl, inr, min, arith, ℕ, zero, suc, ◌+◌, Bool, true, false, nat_lt, cond, List, [], ◌∷◌, ◌++◌, length, take, drop, map, filter, flat_map, Option, Some, None, refl, sym, ap, subst, ◌∙◌}
use Rattle.std.proofs.lemmas.Bool.{ltb-true}
use Rattle.std.proofs.lemmas.List.{append_assoc, take-append-drop}
use Rattle.capture_tcp.specs.TcpStreams.{End, active, passive, same_end, Cell, Placed, Turn, Delivery, deliveries, is_before, Left, Cut, and_then, cut_by, cut_off, Shown, Both, left_of, with_left, delivered, show, both_streams, shows_of, stream_of, turns, loss, difference, earlier, breaks_off, emitted_turns}
use Rattle.capture_tcp.specs.Laws.{cells_shown, EachShown}
use Rattle.capture_tcp.proofs.Lists.{Each, each_filter, everywhere, weaken}
use Rattle.capture_tcp.proofs.DeliveredPackets.{flat_each, reset_each}

flat : List (List Cell) → List Cell
flat [] = []
flat (m ∷ ms) = m ++ flat ms

by_keeps : (o : Option ℕ) (upto : ℕ) (l : Left) (next : ℕ → Cut) → ((n : ℕ) → drop n l.cells ≡ flat (next n).messages ++ (next n).left.cells)
    → l.cells ≡ flat (cut_by upto l next o).messages ++ (cut_by upto l next o).left.cells
unfolding flat
by_keeps None upto l next h = refl
by_keeps (Some n) upto l next h = by_late (nat_lt upto (l.place + n))
  where
    by_late : (late : Bool) → l.cells ≡ flat (cond late (record { messages = []; left = l }) (and_then (take n l.cells) (next n))).messages
        ++ (cond late (record { messages = []; left = l }) (and_then (take n l.cells) (next n))).left.cells
    by_late true = refl
    by_late false = sym (take-append-drop n l.cells) ∙ ap (λ (z : List Cell). take n l.cells ++ z) (h n) ∙ sym (append_assoc (take n l.cells) (flat (next n).messages) (next n).left.cells)

cut_keeps : (k : ℕ) (size : List Cell → Option ℕ) (upto : ℕ) (l : Left) → l.cells ≡ flat (cut_off k size upto l).messages ++ (cut_off k size upto l).left.cells
unfolding cut_off flat
cut_keeps zero size upto l = refl
cut_keeps (suc k) size upto l =
    by_keeps (size l.cells) upto l (λ n. cut_off k size upto (record { place = l.place + n; cells = drop n l.cells }))
    (λ n. cut_keeps k size upto (record { place = l.place + n; cells = drop n l.cells }))

shown_same : (o d : End) (at : Placed) (ms : List (List Cell)) (ss : List Shown) → same_end o d ≡ true
    → cells_shown d (map (λ m. record { of = o; cells = m; at = at }) ms ++ ss) ≡ flat ms ++ cells_shown d ss
unfolding flat
shown_same o d at [] ss e = refl
shown_same o d at (m ∷ ms) ss e = rw e (ap (λ (z : List Cell). m ++ z) (shown_same o d at ms ss e) ∙ sym (append_assoc m (flat ms) (cells_shown d ss)))

shown_other : (o d : End) (at : Placed) (ms : List (List Cell)) (ss : List Shown) → same_end o d ≡ false
    → cells_shown d (map (λ m. record { of = o; cells = m; at = at }) ms ++ ss) ≡ cells_shown d ss
shown_other o d at [] ss e = refl
shown_other o d at (m ∷ ms) ss e = rw e (shown_other o d at ms ss e)

abbrev Keeps : (List Cell → Option ℕ) → List Delivery → End → Both → Type 0
Keeps size ds d b = (rest : List Cell) × ((left_of b d).cells ≡ cells_shown d (show size b ds) ++ rest)

same_step : (size : List Cell → Option ℕ) (ds : List Delivery) (o : End) (l m : Left) (at : Placed) (ms : List (List Cell)) (ss : List Shown)
    → l.cells ≡ flat ms ++ m.cells → same_end o o ≡ true → (rest : List Cell) × (m.cells ≡ cells_shown o ss ++ rest)
    → (rest : List Cell) × (l.cells ≡ cells_shown o (map (λ c. record { of = o; cells = c; at = at }) ms ++ ss) ++ rest)
same_step size ds o l m at ms ss kept same h = (
  h.0,
  kept ∙ ap (λ (z : List Cell). flat ms ++ z) h.1 ∙ sym (append_assoc (flat ms) (cells_shown o ss) h.0)
      ∙ ap (λ (z : List Cell). z ++ h.0) (sym (shown_same o o at ms ss same)),
)

other_step : (o d : End) (l : List Cell) (at : Placed) (ms : List (List Cell)) (ss : List Shown) → same_end o d ≡ false
    → (rest : List Cell) × (l ≡ cells_shown d ss ++ rest) → (rest : List Cell) × (l ≡ cells_shown d (map (λ c. record { of = o; cells = c; at = at }) ms ++ ss) ++ rest)
other_step o d l at ms ss e h = (h.0, h.1 ∙ ap (λ (z : List Cell). z ++ h.0) (sym (shown_other o d at ms ss e)))

step : (size : List Cell → Option ℕ) (b : Both) (o : End) (upto : ℕ) (at : Placed) (ds : List Delivery) (d : End) → ((b : Both) → Keeps size ds d b)
    → Keeps size (record { of = o; upto = upto; at = at } ∷ ds) d b
unfolding show
step size b active upto at ds active h =
    let cut = cut_off (length b.active.cells) size upto b.active in
    same_step size ds active b.active cut.left at cut.messages (show size (with_left b active cut.left) ds) (cut_keeps (length b.active.cells) size upto b.active) refl (h (with_left b active cut.left))
step size b passive upto at ds passive h =
    let cut = cut_off (length b.passive.cells) size upto b.passive in
    same_step size ds passive b.passive cut.left at cut.messages (show size (with_left b passive cut.left) ds) (cut_keeps (length b.passive.cells) size upto b.passive) refl (h (with_left b passive cut.left))
step size b active upto at ds passive h =
    let cut = cut_off (length b.active.cells) size upto b.active in
    other_step active passive b.passive.cells at cut.messages (show size (with_left b active cut.left) ds) refl (h (with_left b active cut.left))
step size b passive upto at ds active h =
    let cut = cut_off (length b.passive.cells) size upto b.passive in
    other_step passive active b.active.cells at cut.messages (show size (with_left b passive cut.left) ds) refl (h (with_left b passive cut.left))

pub show_keeps : (size : List Cell → Option ℕ) (ds : List Delivery) (d : End) (b : Both) → Keeps size ds d b
unfolding show
show_keeps size [] d b = ((left_of b d).cells, refl)
show_keeps size (x ∷ ds) d b = step size b x.of x.upto x.at ds d (show_keeps size ds d)

-- ---- nothing after a loss

each_message : (P : Placed → Type 0) (o : End) (at : Placed) (ms : List (List Cell)) (ss : List Shown) → P at → EachShown P ss
    → EachShown P (map (λ m. record { of = o; cells = m; at = at }) ms ++ ss)
each_message P o at [] ss p h = h
each_message P o at (m ∷ ms) ss p h = (p, each_message P o at ms ss p h)

show_each : (P : Placed → Type 0) (size : List Cell → Option ℕ) (ds : List Delivery) (b : Both) → Each (λ (d : Delivery). P d.at) ds → EachShown P (show size b ds)
unfolding show
show_each P size [] b h = tt
show_each P size (d ∷ ds) b h =
    let cut = delivered size b d in
    each_message P d.of d.at cut.messages (show size (with_left b d.of cut.left) ds) h.0 (show_each P size ds (with_left b d.of cut.left) h.1)

of_turn : (P : Placed → Type 0) (at own : Placed) (a : Option ℕ) → P at
    → Each (λ (d : Delivery). P d.at) (deliveries (record { at = at; own = record own { acknowledged = a } }))
of_turn P at own None p = (p, tt)
of_turn P at own (Some n) p = (p, (p, tt))

-- What is shown is shown at the packets of the deliveries.
pub shows_each : (P : Placed → Type 0) (size : List Cell → Option ℕ) (ps : List Placed) → Each (λ (t : Turn). P t.at) (emitted_turns ps) → EachShown P (shows_of size ps)
shows_each P size ps h =
    show_each P size (flat_map deliveries (emitted_turns ps)) (both_streams ps)
    (flat_each (λ (d : Delivery). P d.at) (emitted_turns ps)
    (weaken (λ (t : Turn). P t.at) (λ (t : Turn). Each (λ (d : Delivery). P d.at) (deliveries t)) (emitted_turns ps)
    (λ t at. of_turn P t.at t.own t.own.acknowledged at) h))

-- The log stops at the earlier of the two, or before.
breaks_by : (a b : Option ℕ) (k : ℕ) → (a ≡ Some k) ⊎ (b ≡ Some k) → (j : ℕ) × (earlier a b ≡ Some j) × (j ≤ k)
breaks_by None b k (inl e) = absurd cc
breaks_by None b k (inr e) = (k, e, omega arith)
breaks_by (Some j) None k (inl e) = let same : j ≡ k = cc in (j, refl, omega (arith, same))
breaks_by (Some j) None k (inr e) = absurd cc
breaks_by (Some j) (Some i) k (inl e) = let same : j ≡ k = cc in (min j i, refl, omega (arith, same))
breaks_by (Some j) (Some i) k (inr e) = let same : i ≡ k = cc in (min j i, refl, omega (arith, same))

pub turns_before : (ps : List Placed) (k : ℕ) → (loss [] ps ≡ Some k) ⊎ (difference [] ps ≡ Some k) → Each (λ (t : Turn). t.at.packet < k) (emitted_turns ps)
turns_before ps k e =
    let off = breaks_by (loss [] ps) (difference [] ps) k e in
    let le = off.2 in
    let kept = filter (is_before (breaks_off ps)) (turns [] ps) in
    reset_each (λ (t : Turn). t.at.packet < k) false kept
    (weaken (λ (t : Turn). Unit {0} × (is_before (breaks_off ps) t ≡ true)) (λ (t : Turn). t.at.packet < k) kept
    (λ t f. let lt = ltb-true t.at.packet off.0 (subst (λ (o : Option ℕ). is_before o t ≡ true) off.1 f.1) in omega (arith, lt, le))
    (each_filter (λ (t : Turn). Unit {0}) (is_before (breaks_off ps)) (turns [] ps) (everywhere (turns [] ps))))

pub none_after : (size : List Cell → Option ℕ) (ps : List Placed) (k : ℕ) → (loss [] ps ≡ Some k) ⊎ (difference [] ps ≡ Some k)
    → EachShown (λ at. at.packet < k) (shows_of size ps)
none_after size ps k e = shows_each (λ at. at.packet < k) size ps (turns_before ps k e)

pub kept : (size : List Cell → Option ℕ) (ps : List Placed) (d : End) → (rest : List Cell) × (stream_of ps d ≡ cells_shown d (shows_of size ps) ++ rest)
kept size ps active = show_keeps size (flat_map deliveries (emitted_turns ps)) active (both_streams ps)
kept size ps passive = show_keeps size (flat_map deliveries (emitted_turns ps)) passive (both_streams ps)
