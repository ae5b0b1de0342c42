-- What is emitted, and what is still to be emitted, whatever follows.
use Rattle.std.proofs.Common.{◌≡◌, ◌≤◌, ◌++◌, ◌∷◌, ◌||◌, ℕ, Bool, true, false, cond, List, [], length, drop, map, Option, Some, None, refl, sym, ap, subst, ◌∙◌, arith, length-drop}
use Rattle.std.proofs.lemmas.List.{append-nil, append_assoc, drop-append-le, map-append}
use Rattle.capture_tcp.specs.declared.packet.Side.{Side}
use Rattle.capture_tcp.specs.declared.packet.Side.TheVariants as side
use Rattle.capture_tcp.specs.declared.streams.Due.{Due}
use Rattle.capture_tcp.specs.declared.streams.Stream.{Stream}
use Rattle.capture_tcp.specs.declared.streams.Streams.{Streams}
use Rattle.capture_tcp.specs.declared.emitter.Emitter.{Emitter}
use Rattle.capture_tcp.specs.declared.events.TimedEvent.{TimedEvent}
use Rattle.capture_tcp.specs.declared.events.EmitterState.{EmitterState}
use Rattle.capture_tcp.specs.declared.events.EmitterState.TheVariants as emitter_state
use Rattle.capture_tcp.specs.TcpStreams.{End, active, passive, Cell, Placed, Turn, Left, Both, both_streams, stream_of, end_of, received, turns, breaks_off, is_before, deliveries}
use Rattle.capture_tcp.specs.ConnectionEvents.{ConnectionEvent, up, message, down, Entry, entry}
use Rattle.capture_tcp.specs.Reassembly.{Store, IsStoreOf, piece_from}
use Rattle.capture_tcp.specs.KnownStreams.{end_at}
use Rattle.capture_tcp.specs.EventSteps.{Processed, and_processed, process_input, processes_input, entry_as}
use Rattle.capture_tcp.specs.InnerEventSteps.{IsLeft}
use Rattle.capture_tcp.specs.DeliverySteps.{Log, and_log, due_of, is_over, remains_after, resets, opens, entries_at, delivers, emit_turns}
use Rattle.capture_tcp.specs.InnerDeliverySteps.{AreLeft}
use Rattle.capture_tcp.specs.Emitted.{EachDue, IsHeldBack, is_sure}
use Rattle.capture_tcp.specs.InnerEmitted.{AreTails, Drains, Fits, Spans, SpansTo, log_by}
use Rattle.capture_tcp.specs.ReaderState.{AreRising, AreStreamsOf, HasPassed, IsStreamOf, MayFollow, Waits, left_at, lefts, log_of, emitted_dues}
use Rattle.capture_tcp.specs.InnerReaderState.{IsLimit, EmitsBefore}
use Rattle.capture_tcp.proofs.Lists.{Each, weaken}
use Rattle.capture_tcp.proofs.Longer.{stream_length, stream_more}
use Rattle.capture_tcp.proofs.Numbered.{before_later}
use Rattle.capture_tcp.proofs.LaterEvents.{drains_after, left_append}
use Rattle.capture_tcp.proofs.DeliveredPackets.{Within, each_within, turns_each}
use Rattle.capture_tcp.proofs.CompleteStreams.{piece_is}

-- ---- deliveries, and what is kept of them

split : (rest : List Turn) (taken left : List Due) → map due_of rest ≡ taken ++ left
    → (a : List Turn) × (b : List Turn) × (rest ≡ a ++ b) × (map due_of a ≡ taken) × (map due_of b ≡ left)
split rest [] left e = ([], rest, refl, refl, e)
split [] (t ∷ taken) left e = absurd cc
split (r ∷ rest) (t ∷ taken) left e =
    let first : due_of r ≡ t = cc in
    let others : map due_of rest ≡ taken ++ left = cc in
    let later = split rest taken left others in (
      r ∷ later.0,
      later.1,
      ap (λ (ts : List Turn). r ∷ ts) later.2,
      ap (λ (ds : List Due). due_of r ∷ ds) later.3 ∙ ap (λ (d : Due). d ∷ taken) first,
      later.4,
    )

sure_before : (o : Option ℕ) (t : Turn) → is_sure o t.at.packet ≡ true → is_before o t ≡ true
sure_before None t e = refl
sure_before (Some k) t e = e

pub sure_kept : (all : List Placed) (a more : List Turn) → Each (λ (t : Turn). is_sure (breaks_off all) t.at.packet ≡ true) a
    → emitted_dues all (a ++ more) ≡ map due_of a ++ emitted_dues all more
sure_kept all [] more h = refl
sure_kept all (t ∷ a) more h = rw (sure_before (breaks_off all) t h.0) (ap (λ (ds : List Due). due_of t ∷ ds) (sure_kept all a more h.1))

each_front : {A : Type 0} (P : A → Type 0) (xs ys : List A) → Each P (xs ++ ys) → Each P xs
each_front P [] ys h = tt
each_front P (x ∷ xs) ys h = (h.0, each_front P xs ys h.1)

pub each_back : {A : Type 0} (P : A → Type 0) (xs ys : List A) → Each P (xs ++ ys) → Each P ys
each_back P [] ys h = h
each_back P (x ∷ xs) ys h = each_back P xs ys h.1

each_due : (P : Due → Type 0) (ts : List Turn) → Each (λ (t : Turn). P (due_of t)) ts → EachDue P (map due_of ts)
each_due P [] h = tt
each_due P (t ∷ ts) h = (h.0, each_due P ts h.1)

pub due_each : (P : Due → Type 0) (ts : List Turn) → EachDue P (map due_of ts) → Each (λ (t : Turn). P (due_of t)) ts
due_each P [] h = tt
due_each P (t ∷ ts) h = (h.0, due_each P ts h.1)

due_append : (P : Due → Type 0) (xs ys : List Due) → EachDue P xs → EachDue P ys → EachDue P (xs ++ ys)
due_append P [] ys f g = g
due_append P (x ∷ xs) ys f g = (f.0, due_append P xs ys f.1 g)

both_each : (P Q R : Turn → Type 0) (ts : List Turn) → ((t : Turn) → P t → Q t → R t) → Each P ts → Each Q ts → Each R ts
both_each P Q R [] f g h = tt
both_each P Q R (t ∷ ts) f g h = (f t g.0 h.0, both_each P Q R ts f g.1 h.1)

-- What follows has greater numbers than each delivery.
pub follows_turns : (more : Bool) (ps later : List Placed) → MayFollow more ps later → Each (λ (t : Turn). AreRising t.at.packet later) (turns [] ps)
follows_turns true ps later h = turns_each (λ (p : Placed). AreRising p.packet later) [] ps (before_later 0 ps later h)
follows_turns false ps later h = turns_each (λ (p : Placed). AreRising p.packet later) [] ps (none ps)
  where
    none : (qs : List Placed) → Each (λ (p : Placed). AreRising p.packet later) qs
    none [] = tt
    none (q ∷ qs) = (subst (AreRising q.packet) (sym h) tt, none qs)

-- ---- what is buffered of the streams

abbrev pub ends_by : List Placed → Side → ℕ
ends_by ps d = end_of ps (end_at d)

span_is : (s : Stream) (ps : List Placed) (d : End) → IsStreamOf s ps d → SpansTo s (end_of ps d)
span_is s ps d h =
    let low = h.1 in
    let high = h.2 in
    let piece : length (piece_from s.held s.place) ≡ length (drop s.place (stream_of ps d)) = ap length (piece_is s.held s.place ps d h.0 low high) in
    let dropped = length-drop s.place (stream_of ps d) in
    let whole = stream_length ps d in
    (low, high, omega (arith, piece, dropped, whole, high))

spans_are : (s : Streams) (ps : List Placed) → AreStreamsOf s ps → Spans s (ends_by ps)
spans_are s ps h side.Active = span_is s.active ps active h.0
spans_are s ps h side.Passive = span_is s.passive ps passive h.1

left_is : (s : Stream) (ps later : List Placed) (d : End) → IsStreamOf s ps d → IsLeft s.held s.place (left_at s.place (stream_of (ps ++ later) d))
left_is s ps later d h =
    let more = stream_more ps later d in
    let whole = stream_length ps d in
    let high = h.2 in (
      refl,
      h.1,
      (
        more.0,
        ap (drop s.place) more.1 ∙ drop-append-le s.place (stream_of ps d) more.0 (omega (arith, whole, high))
            ∙ ap (λ (cs : List Cell). cs ++ more.0) (sym (piece_is s.held s.place ps d h.0 h.1 high)),
      ),
    )

lefts_are : (s : Streams) (ps later : List Placed) → AreStreamsOf s ps → AreLeft s (lefts s (ps ++ later))
lefts_are s ps later h = (left_is s.active ps later active h.0, left_is s.passive ps later passive h.1)

same_left : (l : Left) (place : ℕ) (cells : List Cell) → l.place ≡ place → l.cells ≡ drop l.place cells → l ≡ left_at place cells
same_left l place cells e f = by_parts l.place l.cells e f
  where
    by_parts : (p : ℕ) (cs : List Cell) → p ≡ place → cs ≡ drop p cells → ◌≡◌ {A = Left} (record { place = p; cells = cs }) (left_at place cells)
    by_parts p cs e f = rw (f, e) refl

same_both : (a b c d : Left) → a ≡ b → c ≡ d → ◌≡◌ {A = Both} (record { active = a; passive = c }) (record { active = b; passive = d })
same_both a b c d e f = rw (e, f) refl

tails_are : (s : Streams) (all : List Placed) (c : Both) → AreLeft s c → AreTails (stream_of all active) (stream_of all passive) c → c ≡ lefts s all
tails_are s all c left tails =
    same_both c.active (left_at s.active.place (stream_of all active)) c.passive (left_at s.passive.place (stream_of all passive))
    (same_left c.active s.active.place (stream_of all active) left.0.0 tails.0) (same_left c.passive s.passive.place (stream_of all passive) left.1.0 tails.1)

moved_stream : (s r : Stream) (ps : List Placed) (d : End) → IsStreamOf s ps d → r.held ≡ s.held → SpansTo r (end_of ps d) → IsStreamOf r ps d
moved_stream s r ps d h e span =
    (subst (λ (z : Store). IsStoreOf z ps d) (sym e) h.0, span.0, span.1, subst (λ (z : Store). z.place ≤ received ps d) (sym e) h.3)

-- ---- what is delivered is present

fits_by : (ps : List Placed) (at own : Placed) (e : End) (a : Option ℕ)
    → Each (Within ps) (deliveries (record { at = at; own = record own { from = e; acknowledged = a } })) → Fits (ends_by ps) (due_of (record { at = at; own = record own { from = e; acknowledged = a } }))
fits_by ps at own active None h = (omega arith, h.0)
fits_by ps at own active (Some n) h = (h.0, h.1.0)
fits_by ps at own passive None h = (omega arith, h.0)
fits_by ps at own passive (Some n) h = (h.0, h.1.0)

fits_is : (ps : List Placed) (t : Turn) → Each (Within ps) (deliveries t) → Fits (ends_by ps) (due_of t)
fits_is ps t h = fits_by ps t.at t.own t.own.from t.own.acknowledged h

queue_fits : (more : Bool) (limit : Option ℕ) (ps : List Placed) (gone rest : List Turn) → AreRising 0 ps → MayFollow more ps [] → IsLimit more limit ps → turns [] ps ≡ gone ++ rest
    → EachDue (λ t. is_sure limit t.at ≡ true → Fits (ends_by ps) t) (map due_of rest)
queue_fits more limit ps gone rest rises none sound whole =
    each_due (λ t. is_sure limit t.at ≡ true → Fits (ends_by ps) t) rest
    (weaken (λ (t : Turn). is_before (breaks_off ps) t ≡ true → Each (Within ps) (deliveries t)) (λ (t : Turn). is_sure limit t.at.packet ≡ true → Fits (ends_by ps) (due_of t)) rest
    (λ t within e. fits_is ps t (within (sure_before (breaks_off ps) t
    (subst (λ (z : List Placed). is_sure (breaks_off z) t.at.packet ≡ true) (append-nil ps) (sound [] none t.at.packet tt e)))))
    (each_back (λ (t : Turn). is_before (breaks_off ps) t ≡ true → Each (Within ps) (deliveries t)) gone rest
    (subst (Each (λ (t : Turn). is_before (breaks_off ps) t ≡ true → Each (Within ps) (deliveries t))) whole (each_within 0 ps rises))))

-- ---- what is emitted before a limit

-- The state then.
abbrev Comes : Bool → Emitter → List Due → List Placed → List TimedEvent → Bool → Type 0
Comes more new left ps later closed =
    AreStreamsOf new.streams ps
    × ((gone : List Turn) × (rest : List Turn) × (turns [] ps ≡ gone ++ rest) × (left ≡ map due_of rest)
    × ((lt : List Placed) → MayFollow more ps lt
    → log_of (ps ++ lt) ≡ log_by closed later (emit_turns new.emitter_state new.opened (lefts new.streams (ps ++ lt)) (emitted_dues (ps ++ lt) (rest ++ turns ps lt))))
    × ((lt : List Placed) → MayFollow more ps lt → HasPassed new gone (ps ++ lt)))

comes : (limit : Option ℕ) (queue left : List Due) (old new : Emitter) (emitted later : List TimedEvent) (closed : Bool) → Drains limit queue old emitted left new later closed
    → (more : Bool) (ps : List Placed) → AreRising 0 ps → MayFollow more ps [] → AreStreamsOf old.streams ps → IsLimit more limit ps → Waits more old queue ps emitted
    → Comes more new left ps later closed
comes limit queue left old new emitted later closed drains more ps rises none streams sound waits =
    let gone = waits.0 in
    let rest = waits.1 in
    let fits = queue_fits more limit ps gone rest rises none sound waits.2 in
    let drained = drains (ends_by ps) (spans_are old.streams ps streams) (subst (EachDue (λ t. is_sure limit t.at ≡ true → Fits (ends_by ps) t)) (sym waits.3) fits) in
    let taken = drained.0 in
    let parts = split rest taken left (sym waits.3 ∙ drained.1) in
    let a = parts.0 in
    let b = parts.1 in
    let spans = drained.3 in
    let stores = drained.4 in
    let has = drained.5 in
    let sure : Each (λ (t : Turn). is_sure limit t.at.packet ≡ true) a = due_each (λ t. is_sure limit t.at ≡ true) a (subst (EachDue (λ t. is_sure limit t.at ≡ true)) (sym parts.3) drained.2) in
    let kept : (lt : List Placed) → MayFollow more ps lt → Each (λ (t : Turn). is_sure (breaks_off (ps ++ lt)) t.at.packet ≡ true) a =
    λ lt h.
    let rise : Each (λ (t : Turn). AreRising t.at.packet lt) a =
    each_front (λ (t : Turn). AreRising t.at.packet lt) a b (subst (Each (λ (t : Turn). AreRising t.at.packet lt)) parts.2
    (each_back (λ (t : Turn). AreRising t.at.packet lt) gone rest (subst (Each (λ (t : Turn). AreRising t.at.packet lt)) waits.2 (follows_turns more ps lt h)))) in
    both_each (λ (t : Turn). AreRising t.at.packet lt) (λ (t : Turn). is_sure limit t.at.packet ≡ true) (λ (t : Turn). is_sure (breaks_off (ps ++ lt)) t.at.packet ≡ true) a
    (λ t r s. sound lt h t.at.packet r s) rise sure in
    let left_there : (lt : List Placed) → (has (lefts old.streams (ps ++ lt)) (lefts_are old.streams ps lt streams)).0 ≡ lefts new.streams (ps ++ lt) =
    λ lt.
    let all = ps ++ lt in
    let hold = has (lefts old.streams all) (lefts_are old.streams ps lt streams) in
    tails_are new.streams all hold.0 hold.1 (hold.2 (stream_of all active) (stream_of all passive) (refl, refl)) in (
      (moved_stream old.streams.active new.streams.active ps active streams.0 stores.0 (spans side.Active), moved_stream old.streams.passive new.streams.passive ps passive streams.1 stores.1 (spans side.Passive)),
      (
        gone ++ a,
        b,
        waits.2 ∙ ap (λ (ts : List Turn). gone ++ ts) parts.2 ∙ sym (append_assoc gone a b),
        sym parts.4,
        λ lt h.
            let all = ps ++ lt in
            let others = emitted_dues all (b ++ turns ps lt) in
            let dues : emitted_dues all (rest ++ turns ps lt) ≡ taken ++ others =
            ap (λ (ts : List Turn). emitted_dues all (ts ++ turns ps lt)) parts.2 ∙ ap (emitted_dues all) (append_assoc a b (turns ps lt)) ∙ sure_kept all a (b ++ turns ps lt) (kept lt h)
            ∙ ap (λ (ds : List Due). ds ++ others) parts.3 in
            let hold = has (lefts old.streams all) (lefts_are old.streams ps lt streams) in
            waits.4 lt h
            ∙ ap (λ (ds : List Due). and_log (map entry_as emitted) (emit_turns old.emitter_state old.opened (lefts old.streams all) ds)) dues
            ∙ hold.3 others
            ∙ ap (λ (z : Both). log_by closed later (emit_turns new.emitter_state new.opened z others)) (left_there lt),
        λ lt h.
            let all = ps ++ lt in
            let before = waits.5 lt h in
            let hold = has (lefts old.streams all) (lefts_are old.streams ps lt streams) in
            let whole : map due_of (gone ++ a) ≡ map due_of gone ++ taken = map-append due_of gone a ∙ ap (λ (ds : List Due). map due_of gone ++ ds) parts.3 in (
              subst (EachDue (λ (d : Due). is_sure (breaks_off all) d.at ≡ true)) (sym (map-append due_of gone a))
                  (due_append (λ (d : Due). is_sure (breaks_off all) d.at ≡ true) (map due_of gone) (map due_of a) before.0
                  (each_due (λ (d : Due). is_sure (breaks_off all) d.at ≡ true) a (kept lt h))),
              ap (remains_after (both_streams all)) whole ∙ left_append (map due_of gone) taken (both_streams all)
                  ∙ ap (λ (z : Both). remains_after z taken) before.1 ∙ sym hold.4 ∙ left_there lt,
            ),
      ),
    )

-- ---- nothing is emitted after the end

over_process : (n : ℕ) (t : ConnectionEvent) → process_input emitter_state.Over (entry n t) ≡ record { state = emitter_state.Over; emitted = [] }
over_process n up = refl
over_process n (message d octets) = refl
over_process n down = refl

pub over_processes : (es : List Entry) → processes_input emitter_state.Over es ≡ record { state = emitter_state.Over; emitted = [] }
unfolding processes_input
over_processes [] = refl
over_processes (e ∷ es) = ap (λ (h : Processed). and_processed h (λ s. processes_input s es)) (over_process e.packet e.emitted) ∙ over_processes es

over_emits : (opened : Bool) (b : Both) (ts : List Due) → emit_turns emitter_state.Over opened b ts ≡ record { emitted = []; closed = true }
unfolding emit_turns
over_emits opened b [] = refl
over_emits opened b (t ∷ ts) =
    by_reset (resets opened t) (processes_input emitter_state.Over (entries_at opened t b)) (over_processes (entries_at opened t b)) (over_emits (opened || opens t) (delivers t b).both ts)
  where
    by_reset : (r : Bool) (h : Processed) → h ≡ record { state = emitter_state.Over; emitted = [] }
        → emit_turns emitter_state.Over (opened || opens t) (delivers t b).both ts ≡ record { emitted = []; closed = true }
        → cond r (record { emitted = h.emitted; closed = true }) (and_log h.emitted (emit_turns h.state (opened || opens t) (delivers t b).both ts)) ≡ record { emitted = []; closed = true }
    by_reset true h e later = rw e refl
    by_reset false h e later = rw (e, later) refl

over_log : (t : EmitterState) (opened : Bool) (b : Both) (ts : List Due) → is_over t ≡ true → emit_turns t opened b ts ≡ record { emitted = []; closed = true }
over_log (emitter_state.Waiting early) opened b ts e = absurd cc
over_log (emitter_state.Running s) opened b ts e = absurd cc
over_log emitter_state.Over opened b ts e = over_emits opened b ts

abbrev closed_log : List Entry → Log
closed_log es = record { emitted = es; closed = true }

pub reset_emitted : (limit : Option ℕ) (queue left : List Due) (old new : Emitter) (emitted later : List TimedEvent) → Drains limit queue old emitted left new later true
    → EmitsBefore limit old queue emitted new left later true
reset_emitted limit queue left old new emitted later drains away more ps rises none streams sound waits =
    let subsequent = drains_after away limit queue left old new emitted later true drains in
    let h = comes limit queue left old new (away ++ emitted) (away ++ later) true subsequent more ps rises none streams sound waits in
    (h.0, h.1.4)

pub before_emitted : (limit : Option ℕ) (queue left : List Due) (old new : Emitter) (emitted later : List TimedEvent) (closed : Bool) → Drains limit queue old emitted left new later false
    → IsHeldBack limit left → closed ≡ is_over new.emitter_state → EmitsBefore limit old queue emitted new left later closed
before_emitted limit queue left old new emitted later true drains back over away more ps rises none streams sound waits =
    let subsequent = drains_after away limit queue left old new emitted later false drains in
    let h = comes limit queue left old new (away ++ emitted) (away ++ later) false subsequent more ps rises none streams sound waits in (
      h.0,
      λ lt f.
          h.1.4 lt f
          ∙ ap (and_log (map entry_as (away ++ later))) (over_log new.emitter_state new.opened (lefts new.streams (ps ++ lt)) (emitted_dues (ps ++ lt) (h.1.1 ++ turns ps lt)) (sym over))
          ∙ ap (λ (es : List Entry). closed_log es) (append-nil (map entry_as (away ++ later))),
    )
before_emitted limit queue left old new emitted later false drains back over away more ps rises none streams sound waits =
    let subsequent = drains_after away limit queue left old new emitted later false drains in
    let h = comes limit queue left old new (away ++ emitted) (away ++ later) false subsequent more ps rises none streams sound waits in
    (h.0, (h.1, back, sym over))
