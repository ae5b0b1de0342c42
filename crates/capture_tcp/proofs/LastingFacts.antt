-- What was emitted of a connection that has ended is all of it, whatever follows, and each entry is emitted at one of
-- its packets.
use Rattle.std.proofs.Common.{◌≡◌, ◌++◌, ◌∷◌, ◌&&◌, ◌||◌, inl, inr, ℕ, Bool, true, false, cond, min, nat_eq, nat_le, List, [], filter, Option, Some, None, refl, sym, ap, subst, ◌∙◌, arith}
use Rattle.std.proofs.lemmas.Bool.{cases_lt, eq-eqb}
use Rattle.std.proofs.lemmas.List.{append-nil}
use Rattle.std.specs.List.{list_any}
use Rattle.capture_tcp.specs.declared.ending.Ending.{Ending}
use Rattle.capture_tcp.specs.declared.ending.Ending.TheVariants as ending
use Rattle.capture_tcp.specs.declared.events.TimedEvent.{TimedEvent}
use Rattle.capture_tcp.specs.TcpStreams.{End, passive, other, Placed, Seen, Shown, Turn, ack_place, acknowledges, breaks_off, earlier, end_of, is_before, is_open, place_of, placed_at, places, confirmed, shows_of, timed, emitted_turns, turns, loss_shown}
use Rattle.capture_tcp.specs.Message.{message_size}
use Rattle.capture_tcp.specs.ConnectionEvents.{ConnectionEvent, up, message, down, Entry, entry, entry_of, and_later, answered_at, after_up, first_message, is_left_out, is_message, is_separate, reset_entries, separated_by, shown_entries, emits, up_to_down}
use Rattle.capture_tcp.specs.Laws.{AreNumbered, EachEntry, EachShown, EmittedAtPackets}
use Rattle.capture_tcp.specs.ReaderState.{AreRising, log_of}
use Rattle.capture_tcp.specs.EndOfStream.{EndsSo, IsShownEnded, ended, ended_at, ends_for_good, is_known}
use Rattle.capture_tcp.specs.ReaderInvariant.{EndingIsSure, StateInvariantAs}
use Rattle.capture_tcp.proofs.Evidence.{reported_as_it_is}
use Rattle.capture_tcp.proofs.Lists.{Each, each_append, each_filter, weaken}
use Rattle.capture_tcp.proofs.StreamPrefixes.{places_begin, places_more}
use Rattle.capture_tcp.proofs.KeptCells.{shows_each}
use Rattle.capture_tcp.proofs.EmittedEvents.{at_cells, from, emits_all}
use Rattle.capture_tcp.proofs.DeliveredPackets.{reset_each, turns_each}
use Rattle.capture_tcp.proofs.Connecting.{all_rise}
use Rattle.capture_tcp.proofs.SettledEvents.{nothing_follows}

-- ---- at which packets

abbrev AllAt : (ℕ → Type 0) → List Entry → Type 0
AllAt P es = Each (λ (e : Entry). P e.packet) es

at_shown : (P : ℕ → Type 0) (ss : List Shown) → EachShown (λ at. P at.packet) ss → AllAt P (shown_entries ss)
at_shown P [] h = tt
at_shown P (s ∷ ss) h =
    let es = entry_of s.of s.at.packet [] s.cells in
    each_append (λ (e : Entry). P e.packet) es (shown_entries ss)
    (weaken (λ (e : Entry). e.packet ≡ s.at.packet) (λ (e : Entry). P e.packet) es (λ e is. subst P (sym is) h.0) (at_cells s.of s.at.packet [] s.cells))
    (at_shown P ss h.1)

abbrev TurnsAt : (ℕ → Type 0) → List Turn → Type 0
TurnsAt P ts = Each (λ (t : Turn). P t.at.packet) ts

at_resets : (P : ℕ → Type 0) (opened : Bool) (ts : List Turn) → TurnsAt P ts → AllAt P (reset_entries opened ts)
at_resets P opened [] h = tt
at_resets P opened (t ∷ ts) h = by_reset (t.own.reset && (opened || is_open t)) (at_resets P (opened || is_open t) ts h.1)
  where
    by_reset : (r : Bool) → AllAt P (reset_entries (opened || is_open t) ts)
        → AllAt P (cond r (entry t.at.packet down ∷ []) (reset_entries (opened || is_open t) ts))
    by_reset true later = (h.0, tt)
    by_reset false later = later

at_answer : (P : ℕ → Type 0) (ts : List Turn) (k : ℕ) → TurnsAt P ts → answered_at ts ≡ Some k → P k
at_answer P [] k h e = absurd cc
at_answer P (t ∷ ts) k h e = by_test (nat_le 1 (acknowledges passive t)) e (at_answer P ts k h.1)
  where
    by_test : (b : Bool) → cond b (Some t.at.packet) (answered_at ts) ≡ Some k → (answered_at ts ≡ Some k → P k) → P k
    by_test true f later = let same : t.at.packet ≡ k = cc in subst P same h.0
    by_test false f later = later f

at_message : (P : ℕ → Type 0) (es : List Entry) (k : ℕ) → AllAt P es → first_message es ≡ Some k → P k
at_message P [] k h e = absurd cc
at_message P (x ∷ es) k h e = by_test (is_message x.emitted) e (at_message P es k h.1)
  where
    by_test : (b : Bool) → cond b (Some x.packet) (first_message es) ≡ Some k → (first_message es ≡ Some k → P k) → P k
    by_test true f later = let same : x.packet ≡ k = cc in subst P same h.0
    by_test false f later = later f

at_earlier : (P : ℕ → Type 0) (a b : Option ℕ) (k : ℕ) → earlier a b ≡ Some k → ((j : ℕ) → a ≡ Some j → P j) → ((j : ℕ) → b ≡ Some j → P j) → P k
at_earlier P None b k e f g = g k e
at_earlier P (Some i) None k e f g = f k e
at_earlier P (Some i) (Some j) k e f g =
    let same : min i j ≡ k = cc in
    elim (cases_lt i j) [
      | inl lt ↦ let is : min i j ≡ i = omega (arith, lt) in subst P (sym is ∙ same) (f i refl)
      | inr ge ↦ let is : min i j ≡ j = omega (arith, ge) in subst P (sym is ∙ same) (g j refl)
    ]

at_down : (P : ℕ → Type 0) (es : List Entry) (separated : Option End) → AllAt P es → AllAt P (up_to_down es separated)
at_down P [] separated h = tt
at_down P (e ∷ es) separated h = by_emitted e.emitted (λ s. at_down P es s h.1)
  where
    by_side : (d : End) (octets : List ℕ) (b : Bool) → ((s : Option End) → AllAt P (up_to_down es s))
        → AllAt P (cond b (up_to_down es separated) (e ∷ up_to_down es (separated_by separated d (is_separate octets))))
    by_side d octets true later = later separated
    by_side d octets false later = (h.0, later (separated_by separated d (is_separate octets)))

    by_emitted : (t : ConnectionEvent) → ((s : Option End) → AllAt P (up_to_down es s)) → AllAt P (and_later e (up_to_down es) separated t)
    by_emitted up later = later separated
    by_emitted (message d octets) later = by_side d octets (is_left_out separated d) later
    by_emitted down later = (h.0, tt)

at_up : (P : ℕ → Type 0) (o : Option ℕ) (es : List Entry) → ((k : ℕ) → o ≡ Some k → P k) → AllAt P es → AllAt P (after_up o es)
at_up P None es f h = tt
at_up P (Some k) es f h = (
  f k refl,
  at_down P (from k es) None
      (weaken (λ (e : Entry). P e.packet × (nat_le k e.packet ≡ true)) (λ (e : Entry). P e.packet) (from k es) (λ e x. x.0)
      (each_filter (λ (e : Entry). P e.packet) (λ (e : Entry). nat_le k e.packet) es h)),
)

pub emitted_all_at : (P : ℕ → Type 0) (ps : List Placed) → TurnsAt P (emitted_turns ps) → AllAt P (emits ps)
emitted_all_at P ps at_turns =
    let ts = emitted_turns ps in
    let es = shown_entries (shows_of message_size ps) in
    let at_messages = at_shown P (shows_of message_size ps) (shows_each (λ at. P at.packet) message_size ps at_turns) in
    at_up P (earlier (answered_at ts) (first_message es)) (es ++ reset_entries false ts)
    (λ k e. at_earlier P (answered_at ts) (first_message es) k e (λ j f. at_answer P ts j at_turns f) (λ j f. at_message P es j at_messages f))
    (each_append (λ (e : Entry). P e.packet) es (reset_entries false ts) at_messages (at_resets P false ts at_turns))

pub emitted_at : (P : ℕ → Type 0) (ps : List Placed) → Each (λ (p : Placed). P p.packet) ps → AllAt P (emits ps)
emitted_at P ps h =
    let kept = filter (is_before (breaks_off ps)) (turns [] ps) in
    emitted_all_at P ps
    (reset_each (λ (t : Turn). P t.at.packet) false kept
    (weaken (λ (t : Turn). P t.at.packet × (is_before (breaks_off ps) t ≡ true)) (λ (t : Turn). P t.at.packet) kept (λ t x. x.0)
    (each_filter (λ (t : Turn). P t.at.packet) (is_before (breaks_off ps)) (turns [] ps) (turns_each (λ (p : Placed). P p.packet) [] ps h))))

abbrev SeenAt : (ℕ → Type 0) → List Seen → Type 0
SeenAt P ss = Each (λ (s : Seen). P s.packet) ss

placed_each : (P : ℕ → Type 0) (end acked : ℕ) (s : Seen) (o ack : Option ℕ) → P s.packet → Each (λ (p : Placed). P p.packet) (placed_at end acked s o ack)
placed_each P end acked s None ack h = tt
placed_each P end acked s (Some place) ack h = (h, tt)

places_each : (P : ℕ → Type 0) (base : End → ℕ) (before : List Placed) (ss : List Seen) → Each (λ (p : Placed). P p.packet) before → SeenAt P ss
    → Each (λ (p : Placed). P p.packet) (places base before ss)
unfolding places
places_each P base before [] f h = f
places_each P base before (s ∷ ss) f h =
    let place = place_of (end_of before s.from) (base s.from) s.number in
    let ack = ack_place before base (other s.from) s.acknowledged in
    let new = placed_at (end_of before s.from) (confirmed before s.from) (timed before s) place ack in
    places_each P base (before ++ new) ss
    (each_append (λ (p : Placed). P p.packet) before new f (placed_each P (end_of before s.from) (confirmed before s.from) (timed before s) place ack h.0)) h.1

or_true : (a b : Bool) → b ≡ true → (a || b) ≡ true
or_true true b e = refl
or_true false b e = e

seen_each : (ss : List Seen) → SeenAt (λ n. list_any (λ s. nat_eq s.packet n) ss ≡ true) ss
seen_each [] = tt
seen_each (s ∷ ss) = (
  ap (λ (b : Bool). b || list_any (λ (x : Seen). nat_eq x.packet s.packet) ss) (eq-eqb s.packet s.packet refl),
  weaken (λ (x : Seen). list_any (λ (y : Seen). nat_eq y.packet x.packet) ss ≡ true)
      (λ (x : Seen). (nat_eq s.packet x.packet || list_any (λ (y : Seen). nat_eq y.packet x.packet) ss) ≡ true) ss
      (λ x e. or_true (nat_eq s.packet x.packet) (list_any (λ (y : Seen). nat_eq y.packet x.packet) ss) e) (seen_each ss),
)

pub each_entry : (P : ℕ → Type 0) (es : List Entry) → AllAt P es → EachEntry P es
each_entry P [] h = tt
each_entry P (e ∷ es) h = (h.0, each_entry P es h.1)

pub emitted_at_packets : EmittedAtPackets
emitted_at_packets base seen =
    let P : ℕ → Type 0 = λ n. list_any (λ s. nat_eq s.packet n) seen ≡ true in
    let ps = places base [] seen in
    each_entry P (emits ps) (emitted_at P ps (places_each P base [] seen tt (seen_each seen)))

-- ---- a connection that ended stays so

never_complete : (ps : List Placed) (emitted : List TimedEvent) (e : Ending) → AreRising 0 ps → IsShownEnded true ps emitted e → is_known ps ≡ true → e ≡ ending.Complete → ⊥
never_complete ps emitted e rises ends known is =
    let now : ending.Complete ≡ ended ps = sym is ∙ (ends [] (nothing_follows ps rises)).1 ∙ ap ended (append-nil ps) in
    let no : false ≡ true = ap (λ (x : Ending). ends_for_good x ps) (sym (reported_as_it_is (loss_shown [] ps) (ended_at ps) ending.Complete (sym now) (λ k no. cc))) ∙ known in
    cc

pub numbered_front : (last : ℕ) (xs ys : List Seen) → AreNumbered last (xs ++ ys) → AreNumbered last xs
numbered_front last [] ys h = tt
numbered_front last (x ∷ xs) ys h = (h.0, numbered_front x.packet xs ys h.1)

pub ending_sure : EndingIsSure
ending_sure c emitted e base seen later is consistent numbered =
    let ps = places base [] seen in
    let split = places_begin base ps later in
    let whole : places base [] (seen ++ later) ≡ ps ++ split.0 = places_more base [] seen later ∙ split.1 in
    let all_rise_here = all_rise base (seen ++ later) numbered in
    let h : IsShownEnded true ps emitted e × (is_known ps ≡ true) × EndsSo true ps emitted = subst (λ (o : Option Ending). StateInvariantAs o c.turns c.reading emitted base seen) is consistent in
    let r = h.0 split.0 (subst (AreRising 0) whole all_rise_here) in (
      r.0 ∙ ap (λ (z : List Placed). (log_of z).emitted) (sym whole) ∙ emits_all (places base [] (seen ++ later)) all_rise_here,
      r.1 ∙ ap ended (sym whole),
      never_complete ps emitted e (all_rise base seen (numbered_front 0 seen later numbered)) h.0 h.1,
    )
