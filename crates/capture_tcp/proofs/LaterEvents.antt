-- Deliveries that are emitted one after another.
use Rattle.std.proofs.Common.{◌≡◌, ◌≤◌, ◌+◌, ◌-◌, ◌++◌, ◌∷◌, ◌||◌, ℕ, zero, suc, Bool, true, false, cond, nat_lt, List, [], length, take, drop, map, Option, Some, None, refl, sym, ap, subst, ◌∙◌, arith, length-drop}
use Rattle.std.proofs.lemmas.List.{append_assoc, drop-drop, map-append}
use Rattle.std.specs.Option.{unwrap_or}
use Rattle.capture_tcp.specs.declared.emitter.Emitter.{Emitter}
use Rattle.capture_tcp.specs.declared.packet.Side.{Side}
use Rattle.capture_tcp.specs.declared.packet.Side.TheVariants as side
use Rattle.capture_tcp.specs.declared.streams.Due.{Due}
use Rattle.capture_tcp.specs.declared.streams.Stream.{Stream}
use Rattle.capture_tcp.specs.declared.streams.Streams.{Streams}
use Rattle.capture_tcp.specs.declared.events.TimedEvent.{TimedEvent}
use Rattle.capture_tcp.specs.declared.events.EmitterState.{EmitterState}
use Rattle.capture_tcp.specs.TcpStreams.{Cell, Left, Cut, and_then, cut_by, cut_off, Both}
use Rattle.capture_tcp.specs.Message.{message_size}
use Rattle.capture_tcp.specs.Reassembly.{Store, piece_from}
use Rattle.capture_tcp.specs.ConnectionEvents.{Entry}
use Rattle.capture_tcp.specs.EventSteps.{Processed, processes_input, entry_as}
use Rattle.capture_tcp.specs.DeliverySteps.{Log, and_log, by_ack, delivers, entries_at, given, remains_after, opens, other_side, resets, emit_turns}
use Rattle.capture_tcp.specs.InnerDeliverySteps.{MovesTo, TakesTurn, ReachesAll, stream_at}
use Rattle.capture_tcp.specs.Emitted.{EachDue, is_sure}
use Rattle.capture_tcp.specs.InnerEmitted.{AreTails, Drains, Fits, HasEmitted, SameStores, Spans, SpansTo, log_by}
use Rattle.capture_tcp.proofs.Slicing.{piece_after}

-- ---- what is left after a delivery is the end of the streams

abbrev IsTail : List Cell → Left → Type 0
IsTail cs l = l.cells ≡ drop l.place cs

cut_tail : (k upto : ℕ) (l : Left) (cs : List Cell) → IsTail cs l → IsTail cs (cut_off k message_size upto l).left
unfolding cut_off
cut_tail zero upto l cs e = e
cut_tail (suc k) upto l cs e =
    by_size (message_size l.cells)
    (λ n. cut_tail k upto (record { place = l.place + n; cells = drop n l.cells }) cs (ap (drop n) e ∙ drop-drop n l.place cs))
  where
    next : ℕ → Cut
    next n = cut_off k message_size upto (record { place = l.place + n; cells = drop n l.cells })

    by_late : (late : Bool) (n : ℕ) → IsTail cs (next n).left → IsTail cs (cond late (record { messages = []; left = l }) (and_then (take n l.cells) (next n))).left
    by_late true n h = e
    by_late false n h = h

    by_size : (o : Option ℕ) → ((n : ℕ) → IsTail cs (next n).left) → IsTail cs (cut_by upto l next o).left
    by_size None h = e
    by_size (Some n) h = by_late (nat_lt upto (l.place + n)) n (h n)

given_tails : (s : Side) (upto n at : ℕ) (b : Both) (x y : List Cell) → AreTails x y b → AreTails x y (given (record { of = s; upto = upto; packet = n; time = at }) b).both
given_tails side.Active upto n at b x y h = (cut_tail (length b.active.cells) upto b.active x h.0, h.1)
given_tails side.Passive upto n at b x y h = (h.0, cut_tail (length b.passive.cells) upto b.passive y h.1)

ack_tails : (t : Due) (o : Option ℕ) (b : Both) (x y : List Cell) → AreTails x y b → AreTails x y (by_ack t o b).both
ack_tails t None b x y h = h
ack_tails t (Some n) b x y h = given_tails (other_side t.from) n t.at t.time b x y h

turn_tails : (t : Due) (b : Both) (x y : List Cell) → AreTails x y b → AreTails x y (delivers t b).both
turn_tails t b x y h =
    given_tails t.from t.packet.to t.at t.time (by_ack t t.packet.acknowledged b).both x y (ack_tails t t.packet.acknowledged b x y h)

-- ---- the streams span to the same offsets

moves_span : (s r : Stream) (upto end : ℕ) → SpansTo s end → upto ≤ end → MovesTo s upto r → SpansTo r end
moves_span s r upto end span le move =
    let h = span.0 in
    let k = span.1 in
    let g = span.2 in
    let m = move.1 in
    let n = move.2 in
    let count = r.place - s.place in
    let fits : count ≤ length (piece_from s.held s.place) = omega (arith, k, g, m, n, le) in
    let dropped = length-drop count (piece_from s.held s.place) in
    let at : s.place + count ≡ r.place = omega (arith, m) in
    let piece : length (piece_from r.held r.place) ≡ length (drop count (piece_from s.held s.place)) =
    ap (λ (z : Store). length (piece_from z r.place)) move.0 ∙ ap (λ (p : ℕ). length (piece_from s.held p)) (sym at)
    ∙ ap length (piece_after s.held s.place count h fits) in
    let low : r.held.place ≡ s.held.place = ap (λ (z : Store). z.place) move.0 in (
      omega (arith, low, h, m),
      omega (arith, k, m, n, le),
      omega (arith, piece, dropped, g, m, fits),
    )

spans_by : (s : Side) (old new : Streams) (ends : Side → ℕ) → SpansTo (stream_at new s) (ends s) → SpansTo (stream_at new (other_side s)) (ends (other_side s)) → Spans new ends
spans_by side.Active old new ends h k side.Active = h
spans_by side.Active old new ends h k side.Passive = k
spans_by side.Passive old new ends h k side.Active = k
spans_by side.Passive old new ends h k side.Passive = h

stores_by : (s : Side) (old new : Streams) → ((stream_at new s).held ≡ (stream_at old s).held) → ((stream_at new (other_side s)).held ≡ (stream_at old (other_side s)).held)
    → SameStores old new
stores_by side.Active old new h k = (h, k)
stores_by side.Passive old new h k = (k, h)

reaches_all : (s : Streams) (ends : Side → ℕ) (t : Due) → Spans s ends → Fits ends t → ReachesAll s t
reaches_all s ends t span fits =
    let a = (span (other_side t.from)).2 in
    let b = (span t.from).2 in
    (omega (arith, fits.0, a), omega (arith, fits.1, b))

-- ---- a log after others

and_twice : (a b : List Entry) (l : Log) → and_log a (and_log b l) ≡ and_log (a ++ b) l
and_twice a b l = ap (λ (es : List Entry). record { emitted = es; closed = l.closed }) (sym (append_assoc a b l.emitted))

-- One delivery.
abbrev pub emitted_then : Bool → List Entry → Log → Log
emitted_then true es l = record { emitted = es; closed = true }
emitted_then false es l = and_log es l

pub submit_first : (s : EmitterState) (opened : Bool) (b : Both) (t : Due) (ts : List Due)
    → emit_turns s opened b (t ∷ ts)
    ≡ emitted_then (resets opened t) (processes_input s (entries_at opened t b)).emitted (emit_turns (processes_input s (entries_at opened t b)).state (opened || opens t) (delivers t b).both ts)
unfolding emit_turns
submit_first s opened b t ts = by_reset (resets opened t)
  where
    h : Processed
    h = processes_input s (entries_at opened t b)

    by_reset : (r : Bool) → cond r (record { emitted = h.emitted; closed = true }) (and_log h.emitted (emit_turns h.state (opened || opens t) (delivers t b).both ts))
        ≡ emitted_then r h.emitted (emit_turns h.state (opened || opens t) (delivers t b).both ts)
    by_reset true = refl
    by_reset false = refl

then_by : (r : Bool) (a : List Entry) (es : List Entry) (l : Log) (later : List TimedEvent) → map entry_as later ≡ a ++ es → and_log a (emitted_then r es l) ≡ log_by r later l
then_by true a es l later e = ap (λ (z : List Entry). record { emitted = z; closed = true }) (sym e)
then_by false a es l later e = and_twice a es l ∙ ap (λ (z : List Entry). and_log z l) (sym e)

pub one_emitted : (t : Due) (old new : Emitter) (emitted later : List TimedEvent) (ends : Side → ℕ) (closed : Bool)
    → TakesTurn old.opened t old.streams emitted old.emitter_state new.streams later new.emitter_state → new.opened ≡ (old.opened || opens t) → closed ≡ resets old.opened t
    → Spans old.streams ends → Fits ends t → Spans new.streams ends × SameStores old.streams new.streams × HasEmitted (t ∷ []) old emitted new later closed
unfolding remains_after
one_emitted t old new emitted later ends closed turn opened reset span fits =
    let took = turn (reaches_all old.streams ends t span fits) in
    let own = took.2 in
    let peer = took.1 in (
      spans_by t.from old.streams new.streams ends
          (moves_span (stream_at old.streams t.from) (stream_at new.streams t.from) t.packet.to (ends t.from) (span t.from) fits.1 own)
          (moves_span (stream_at old.streams (other_side t.from)) (stream_at new.streams (other_side t.from)) (unwrap_or t.packet.acknowledged 0) (ends (other_side t.from)) (span (other_side t.from)) fits.0 peer),
      stores_by t.from old.streams new.streams own.0 peer.0,
      λ b left.
          let gave = took.0 b left in
          let c = (delivers t b).both in
          let h = processes_input old.emitter_state (entries_at old.opened t b) in (
            c,
            gave.1,
            turn_tails t b,
            λ rest.
                ap (and_log (map entry_as emitted)) (submit_first old.emitter_state old.opened b t rest)
                ∙ then_by (resets old.opened t) (map entry_as emitted) h.emitted (emit_turns h.state (old.opened || opens t) c rest) later gave.0.1
                ∙ ap (λ (r : Bool). log_by r later (emit_turns h.state (old.opened || opens t) c rest)) (sym reset)
                ∙ ap (λ (s : EmitterState). log_by closed later (emit_turns s (old.opened || opens t) c rest)) (sym gave.0.0)
                ∙ ap (λ (o : Bool). log_by closed later (emit_turns new.emitter_state o c rest)) (sym opened),
            refl,
          ),
    )

-- ---- delivery after delivery

each_at : (P : Due → Type 0) (xs : List Due) (t : Due) (ys : List Due) → EachDue P (xs ++ t ∷ ys) → P t
each_at P [] t ys h = h.0
each_at P (x ∷ xs) t ys h = each_at P xs t ys h.1

each_more : (P : Due → Type 0) (xs : List Due) (t : Due) → EachDue P xs → P t → EachDue P (xs ++ t ∷ [])
each_more P [] t h p = (p, tt)
each_more P (x ∷ xs) t h p = (h.0, each_more P xs t h.1 p)

has_emitted_none : (old : Emitter) (emitted : List TimedEvent) → HasEmitted [] old emitted old emitted false
unfolding remains_after
has_emitted_none old emitted b left = (b, left, λ x y h. h, λ rest. refl, refl)

pub left_append : (xs ys : List Due) (b : Both) → remains_after b (xs ++ ys) ≡ remains_after (remains_after b xs) ys
unfolding remains_after
left_append [] ys b = refl
left_append (x ∷ xs) ys b = left_append xs ys (delivers x b).both

has_emitted_both : (xs ys : List Due) (a b c : Emitter) (u v w : List TimedEvent) (closed : Bool) → HasEmitted xs a u b v false → HasEmitted ys b v c w closed
    → HasEmitted (xs ++ ys) a u c w closed
has_emitted_both xs ys a b c u v w closed f g both left =
    let first = f both left in
    let second = g first.0 first.1 in (
      second.0,
      second.1,
      λ x y h. second.2 x y (first.2 x y h),
      λ rest.
          ap (λ (ts : List Due). and_log (map entry_as u) (emit_turns a.emitter_state a.opened both ts)) (append_assoc xs ys rest)
          ∙ first.3 (ys ++ rest) ∙ second.3 rest,
      second.4 ∙ ap (λ (c : Both). remains_after c ys) first.4 ∙ sym (left_append xs ys both),
    )

-- ---- what was emitted before, and removed, precedes it

released_after : (away emitted : List TimedEvent) (l : Log) → and_log (map entry_as (away ++ emitted)) l ≡ and_log (map entry_as away) (and_log (map entry_as emitted) l)
released_after away emitted l =
    ap (λ (es : List Entry). and_log es l) (map-append entry_as away emitted) ∙ sym (and_twice (map entry_as away) (map entry_as emitted) l)

log_after_away : (closed : Bool) (away later : List TimedEvent) (l : Log) → and_log (map entry_as away) (log_by closed later l) ≡ log_by closed (away ++ later) l
log_after_away true away later l = ap (λ (es : List Entry). record { emitted = es; closed = true }) (sym (map-append entry_as away later))
log_after_away false away later l = sym (released_after away later l)

has_emitted_after : (away : List TimedEvent) (taken : List Due) (old new : Emitter) (emitted later : List TimedEvent) (closed : Bool) → HasEmitted taken old emitted new later closed
    → HasEmitted taken old (away ++ emitted) new (away ++ later) closed
has_emitted_after away taken old new emitted later closed h b left =
    let r = h b left in (
      r.0,
      r.1,
      r.2,
      λ rest.
          released_after away emitted (emit_turns old.emitter_state old.opened b (taken ++ rest))
          ∙ ap (and_log (map entry_as away)) (r.3 rest)
          ∙ log_after_away closed away later (emit_turns new.emitter_state new.opened r.0 rest),
      r.4,
    )

pub drains_after : (away : List TimedEvent) (limit : Option ℕ) (queue left : List Due) (old new : Emitter) (emitted later : List TimedEvent) (closed : Bool)
    → Drains limit queue old emitted left new later closed → Drains limit queue old (away ++ emitted) left new (away ++ later) closed
drains_after away limit queue left old new emitted later closed drains ends span each =
    let r = drains ends span each in
    (r.0, r.1, r.2, r.3, r.4, has_emitted_after away r.0 old new emitted later closed r.5)

-- ---- up to where a queue is emitted

pub drained_none : (limit : Option ℕ) (queue : List Due) (old : Emitter) (emitted : List TimedEvent) → Drains limit queue old emitted queue old emitted false
drained_none limit queue old emitted ends span each = ([], refl, tt, span, (refl, refl), has_emitted_none old emitted)

pub drained_on : (limit : Option ℕ) (queue left : List Due) (t : Due) (old mid new : Emitter) (emitted some later : List TimedEvent) (closed : Bool)
    → Drains limit queue old emitted (t ∷ left) mid some false → is_sure limit t.at ≡ true
    → TakesTurn mid.opened t mid.streams some mid.emitter_state new.streams later new.emitter_state → new.opened ≡ (mid.opened || opens t) → closed ≡ resets mid.opened t
    → Drains limit queue old emitted left new later closed
drained_on limit queue left t old mid new emitted some later closed drained sure turn opened reset ends span each =
    let before = drained ends span each in
    let taken = before.0 in
    let fits = each_at (λ t. is_sure limit t.at ≡ true → Fits ends t) taken t left (subst (EachDue (λ t. is_sure limit t.at ≡ true → Fits ends t)) before.1 each) sure in
    let one = one_emitted t mid new some later ends closed turn opened reset before.3 fits in (
      taken ++ t ∷ [],
      before.1 ∙ sym (append_assoc taken (t ∷ []) left),
      each_more (λ t. is_sure limit t.at ≡ true) taken t before.2 sure,
      one.0,
      (one.1.0 ∙ before.4.0, one.1.1 ∙ before.4.1),
      has_emitted_both taken (t ∷ []) old mid new emitted some later closed before.5 one.2,
    )
