-- The reader's state after one more packet.
use Rattle.std.proofs.Common.{◌≡◌, ◌<◌, ◌≤◌, ◌+◌, ◌++◌, ◌∷◌, ◌^◌, inl, inr, ℕ, Bool, true, false, cond, List, [], length, map, Option, Some, None, Result, Ok, Err, IfOk, refl, sym, ap, subst, ◌∙◌, arith}
use Rattle.std.proofs.lemmas.List.{append-nil, append_assoc, map-append}
use Rattle.capture_tcp.specs.declared.packet.Packet.{Packet}
use Rattle.capture_tcp.specs.declared.packet.Side.{Side}
use Rattle.capture_tcp.specs.declared.packet.Side.TheVariants as side
use Rattle.capture_tcp.specs.declared.streams.Due.{Due}
use Rattle.capture_tcp.specs.declared.streams.Stream.{Stream}
use Rattle.capture_tcp.specs.declared.streams.Streams.{Streams}
use Rattle.capture_tcp.specs.declared.reader_state.Arrival.{Arrival}
use Rattle.capture_tcp.specs.declared.reader_state.Reading.{Reading}
use Rattle.capture_tcp.specs.declared.emitter.Emitter.{Emitter}
use Rattle.capture_tcp.specs.declared.events.TimedEvent.{TimedEvent}
use Rattle.capture_tcp.specs.TcpStreams.{End, active, passive, other, same_end, Cell, Placed, Turn, cell_in, cell_at, or_else, received, turns, turns_at, contradicts, difference}
use Rattle.capture_tcp.specs.Reassembly.{Store, IsStoreOf, PutsIn, ReturnsConflict}
use Rattle.capture_tcp.specs.KnownStreams.{packet_of}
use Rattle.capture_tcp.specs.Losses.{side_of}
use Rattle.capture_tcp.specs.EventSteps.{entry_as}
use Rattle.capture_tcp.specs.DeliverySteps.{and_log, due_of, emit_turns}
use Rattle.capture_tcp.specs.ReaderState.{AreRising, HasPassed, IsStreamOf, Waits, lefts, log_of, emitted_dues}
use Rattle.capture_tcp.specs.InnerPacketArrival.{Arrives, Brings, BringsCells, BringsTo, arrival_cells, due_as, own_packet, or_differs}
use Rattle.capture_tcp.proofs.StoredCells.{puts_none}
use Rattle.capture_tcp.proofs.Lists.{Each}
use Rattle.capture_tcp.proofs.Longer.{cell_more, end_more}
use Rattle.capture_tcp.proofs.EmitterSteps.{received_more, turns_own}
use Rattle.capture_tcp.proofs.DeliveredPackets.{at_itself, turns_more}

-- ---- the queue

pub queue_next : (at : Packet) (from : Side) (queue next goal : List Due) (p : Packet) (rest more : List Packet) → rest ≡ p ∷ more
    → queue ++ map (due_as at from) rest ≡ goal → next ≡ queue ++ due_as at from p ∷ [] → next ++ map (due_as at from) more ≡ goal
queue_next at from queue next goal p rest more e h n =
    ap (λ (z : List Due). z ++ map (due_as at from) more) n ∙ append_assoc queue (due_as at from p ∷ []) (map (due_as at from) more)
    ∙ ap (λ (z : List Packet). queue ++ map (due_as at from) z) (sym e) ∙ h

pub queue_all : (at : Packet) (from : Side) (queue goal : List Due) (rest : List Packet) → rest ≡ [] → queue ++ map (due_as at from) rest ≡ goal → queue ≡ goal
queue_all at from queue goal rest e h = sym (append-nil queue) ∙ ap (λ (z : List Packet). queue ++ map (due_as at from) z) (sym e) ∙ h

-- ---- what is buffered

no_cells : (cells : List Cell) → length cells ≡ 0 → cells ≡ []
no_cells [] e = refl
no_cells (c ∷ cs) e = absurd (omega (arith, e))

pub brings_none : (s : Store) (acknowledged : ℕ) (packet : Packet) (cells : List Cell) → packet.from ≡ packet.to → Brings s acknowledged packet cells s false
brings_none s acknowledged packet cells e ps p at brings low held =
    let from : packet.from ≡ p.place = ap (λ (q : Packet). q.from) at in
    let to : packet.to ≡ p.place + length p.cells = ap (λ (q : Packet). q.to) at in
    let none : p.cells ≡ [] = no_cells p.cells (omega (arith, from, to, e)) in (
      sym (ap (contradicts ps p.from acknowledged p.place) none),
      (puts_none s p.place false false [] refl).1 ps p held refl none,
      refl,
    )

pub brings_some : (s r : Store) (acknowledged : ℕ) (packet : Packet) (cells : List Cell) (differs : Bool) → (packet.from ≡ packet.to → ⊥) → packet.to < 2 ^ 64
    → ReturnsConflict s acknowledged packet.from cells differs → PutsIn s packet.from cells r → Brings s acknowledged packet cells r differs
brings_some s r acknowledged packet cells differs other fits emits puts ps p at brings low held =
    let from : packet.from ≡ p.place = ap (λ (q : Packet). q.from) at in
    let to : packet.to ≡ p.place + length p.cells = ap (λ (q : Packet). q.to) at in
    let same : p.cells ≡ cells = by_cells from to brings in
    let long : length p.cells ≡ length cells = ap length same in (
      emits low (omega (arith, from, to, long, fits)) ps p.from held
          ∙ ap (λ (n : ℕ). contradicts ps p.from acknowledged n cells) from ∙ ap (contradicts ps p.from acknowledged p.place) (sym same),
      puts.1 ps p held (sym from) same,
      puts.0,
    )
  where
    by_cells : packet.from ≡ p.place → packet.to ≡ p.place + length p.cells → BringsCells p cells → p.cells ≡ cells
    by_cells from to (inl none) = let zero : length p.cells ≡ 0 = ap length none in absurd (other (omega (arith, from, to, zero)))
    by_cells from to (inr some) = some

none_else : (x : Option Cell) → or_else x None ≡ x
none_else None = refl
none_else (Some c) = refl

-- The other direction's buffer is unchanged.
other_cells : (ps : List Placed) (p : Placed) (d : End) (n : ℕ) → same_end p.from d ≡ false → cell_at (ps ++ p ∷ []) d n ≡ cell_at ps d n
unfolding cell_at
other_cells ps p d n e =
    cell_more ps (p ∷ []) d n ∙ ap (λ (z : Option Cell). or_else (cell_at ps d n) (or_else z None)) none ∙ none_else (cell_at ps d n)
  where
    none : cell_in p d n ≡ None
    none = rw e refl

other_store : (s : Store) (ps : List Placed) (p : Placed) (d : End) → same_end p.from d ≡ false → IsStoreOf s ps d → IsStoreOf s (ps ++ p ∷ []) d
other_store s ps p d e h n le = h n le ∙ sym (other_cells ps p d n e)

more_received : (ps : List Placed) (p : Placed) (d : End) → received ps d ≤ received (ps ++ p ∷ []) d
more_received ps p d = let e = received_more ps p d in omega (arith, e)

longer_stream : (s : Stream) (r : Store) (ps : List Placed) (p : Placed) (d : End) → IsStreamOf s ps d → r.place ≡ s.held.place → IsStoreOf r (ps ++ p ∷ []) d
    → IsStreamOf (record { held = r; place = s.place }) (ps ++ p ∷ []) d
longer_stream s r ps p d h e held =
    let grows = end_more ps (p ∷ []) d in
    let processes_input = more_received ps p d in
    let low = h.1 in
    let high = h.2 in
    let acked = h.3 in
    (held, omega (arith, e, low), omega (arith, grows, high), omega (arith, e, processes_input, acked))

is_active : (d : End) → side.Active ≡ side_of d → d ≡ active
is_active active e = refl
is_active passive e = absurd cc

is_passive : (d : End) → side.Passive ≡ side_of d → d ≡ passive
is_passive active e = absurd cc
is_passive passive e = refl

abbrev with_active : Streams → Store → Streams
with_active s r = record { active = record { held = r; place = s.active.place }; passive = s.passive }

abbrev with_passive : Streams → Store → Streams
with_passive s r = record { active = s.active; passive = record { held = r; place = s.passive.place } }

pub active_brings : (old : Streams) (a : Arrival) (octets : List ℕ) (r : Store) (differs : Bool) → a.from ≡ side.Active
    → Brings old.active.held a.acknowledged a.packet (arrival_cells a octets) r differs → BringsTo old a octets (with_active old r) differs
active_brings old a octets r differs from brings ps p at by cells acked streams =
    let d : p.from ≡ active = is_active p.from (sym from ∙ by) in
    let low : old.active.held.place ≤ a.acknowledged = subst (λ (n : ℕ). old.active.held.place ≤ n) (sym (acked ∙ ap (received ps) d)) streams.0.3 in
    let got = brings ps p at cells low (subst (IsStoreOf old.active.held ps) (sym d) streams.0.0) in (
      got.0 ∙ ap (λ (n : ℕ). contradicts ps p.from n p.place p.cells) acked,
      (
        longer_stream old.active r ps p active streams.0 got.2 (subst (IsStoreOf r (ps ++ p ∷ [])) d got.1),
        longer_stream old.passive old.passive.held ps p passive streams.1 refl (other_store old.passive.held ps p passive (ap (λ (e : End). same_end e passive) d) streams.1.0),
      ),
      refl,
      refl,
    )

pub passive_brings : (old : Streams) (a : Arrival) (octets : List ℕ) (r : Store) (differs : Bool) → a.from ≡ side.Passive
    → Brings old.passive.held a.acknowledged a.packet (arrival_cells a octets) r differs → BringsTo old a octets (with_passive old r) differs
passive_brings old a octets r differs from brings ps p at by cells acked streams =
    let d : p.from ≡ passive = is_passive p.from (sym from ∙ by) in
    let low : old.passive.held.place ≤ a.acknowledged = subst (λ (n : ℕ). old.passive.held.place ≤ n) (sym (acked ∙ ap (received ps) d)) streams.1.3 in
    let got = brings ps p at cells low (subst (IsStoreOf old.passive.held ps) (sym d) streams.1.0) in (
      got.0 ∙ ap (λ (n : ℕ). contradicts ps p.from n p.place p.cells) acked,
      (
        longer_stream old.active old.active.held ps p active streams.0 refl (other_store old.active.held ps p active (ap (λ (e : End). same_end e active) d) streams.0.0),
        longer_stream old.passive r ps p passive streams.1 got.2 (subst (IsStoreOf r (ps ++ p ∷ [])) d got.1),
      ),
      refl,
      refl,
    )

-- ---- the first conflicting copy

abbrev differs_by : List Placed → Placed → Bool
differs_by before p = contradicts before p.from (received before p.from) p.place p.cells

difference_on : (before xs : List Placed) (p : Placed) → difference before (xs ++ p ∷ []) ≡ or_differs (difference before xs) (differs_by (before ++ xs) p) p.packet
unfolding difference
difference_on before [] p = by_test (differs_by before p) (ap (λ (z : List Placed). or_differs None (differs_by z p) p.packet) (sym (append-nil before)))
  where
    by_test : (b : Bool) → or_differs None b p.packet ≡ or_differs None (differs_by (before ++ []) p) p.packet → cond b (Some p.packet) None ≡ or_differs None (differs_by (before ++ []) p) p.packet
    by_test true e = e
    by_test false e = e
difference_on before (x ∷ xs) p =
    by_test (differs_by before x)
    (difference_on (before ++ x ∷ []) xs p ∙ ap (λ (z : List Placed). or_differs (difference (before ++ x ∷ []) xs) (differs_by z p) p.packet) (append_assoc before (x ∷ []) xs))
  where
    by_test : (b : Bool) → difference (before ++ x ∷ []) (xs ++ p ∷ []) ≡ or_differs (difference (before ++ x ∷ []) xs) (differs_by (before ++ x ∷ xs) p) p.packet
        → cond b (Some x.packet) (difference (before ++ x ∷ []) (xs ++ p ∷ [])) ≡ or_differs (cond b (Some x.packet) (difference (before ++ x ∷ []) xs)) (differs_by (before ++ x ∷ xs) p) p.packet
    by_test true e = refl
    by_test false e = e

-- ---- what is still to be emitted

due_is : (t : Turn) (p : Placed) → t.at ≡ p → t.own.from ≡ p.from → due_as (packet_of p) (side_of p.from) (packet_of t.own) ≡ due_of t
due_is t p e f = ap (λ (q : Placed). due_as (packet_of q) (side_of p.from) (packet_of t.own)) (sym e) ∙ ap (λ (d : End). due_as (packet_of t.at) (side_of d) (packet_of t.own)) (sym f)

dues_are : (ts : List Turn) (p : Placed) → Each (λ (t : Turn). t.at ≡ p) ts → Each (λ (t : Turn). t.own.from ≡ p.from) ts
    → map (due_as (packet_of p) (side_of p.from)) (map own_packet ts) ≡ map due_of ts
dues_are [] p f g = refl
dues_are (t ∷ ts) p f g =
    ap (λ (d : Due). d ∷ map (due_as (packet_of p) (side_of p.from)) (map own_packet ts)) (due_is t p f.0 g.0) ∙ ap (λ (ds : List Due). due_of t ∷ ds) (dues_are ts p f.1 g.1)

one_turn : (ps : List Placed) (p : Placed) → turns ps (p ∷ []) ≡ turns_at ps p
unfolding turns
one_turn ps p = append-nil (turns_at ps p)

turn_first : (ps : List Placed) (p : Placed) (later : List Placed) → turns ps (p ∷ later) ≡ turns_at ps p ++ turns (ps ++ p ∷ []) later
unfolding turns
turn_first ps p later = refl

waits_on : (old new : Emitter) (queue next : List Due) (ps : List Placed) (p : Placed) (emitted : List TimedEvent) → new.emitter_state ≡ old.emitter_state → new.opened ≡ old.opened
    → new.streams.active.place ≡ old.streams.active.place → new.streams.passive.place ≡ old.streams.passive.place
    → next ≡ queue ++ map due_of (turns_at ps p) → Waits true old queue ps emitted → Waits true new next (ps ++ p ∷ []) emitted
waits_on old new queue next ps p emitted emitter_state opened a b more w =
    let ts = turns_at ps p in (
      w.0,
      w.1 ++ ts,
      turns_more [] ps (p ∷ []) ∙ ap (λ (z : List Turn). turns [] ps ++ z) (one_turn ps p) ∙ ap (λ (z : List Turn). z ++ ts) w.2 ∙ append_assoc w.0 w.1 ts,
      more ∙ ap (λ (z : List Due). z ++ map due_of ts) w.3 ∙ sym (map-append due_of w.1 ts),
      λ later h.
          let whole : (ps ++ p ∷ []) ++ later ≡ ps ++ p ∷ later = append_assoc ps (p ∷ []) later in
          let all = (ps ++ p ∷ []) ++ later in
          let old_now = w.4 (p ∷ later) (subst (AreRising 0) whole h) in
          let rest : w.1 ++ turns ps (p ∷ later) ≡ (w.1 ++ ts) ++ turns (ps ++ p ∷ []) later =
          ap (λ (z : List Turn). w.1 ++ z) (turn_first ps p later) ∙ sym (append_assoc w.1 ts (turns (ps ++ p ∷ []) later)) in
          ap log_of whole ∙ old_now
          ∙ ap (λ (z : List Turn). and_log (map entry_as emitted) (emit_turns old.emitter_state old.opened (lefts old.streams (ps ++ p ∷ later)) (emitted_dues (ps ++ p ∷ later) z))) rest
          ∙ ap (λ (z : List Placed). and_log (map entry_as emitted) (emit_turns old.emitter_state old.opened (lefts old.streams z) (emitted_dues z ((w.1 ++ ts) ++ turns (ps ++ p ∷ []) later)))) (sym whole)
          ∙ same_log all ((w.1 ++ ts) ++ turns (ps ++ p ∷ []) later),
      λ later h.
          let whole : (ps ++ p ∷ []) ++ later ≡ ps ++ p ∷ later = append_assoc ps (p ∷ []) later in
          subst (HasPassed new w.0) (sym whole) (same_passed (ps ++ p ∷ later) (w.5 (p ∷ later) (subst (AreRising 0) whole h))),
    )
  where
    same_log : (all : List Placed) (us : List Turn) → and_log (map entry_as emitted) (emit_turns old.emitter_state old.opened (lefts old.streams all) (emitted_dues all us))
        ≡ and_log (map entry_as emitted) (emit_turns new.emitter_state new.opened (lefts new.streams all) (emitted_dues all us))
    same_log all us = rw (emitter_state, opened, a, b) refl

    same_lefts : (all : List Placed) → lefts old.streams all ≡ lefts new.streams all
    same_lefts all = rw (a, b) refl

    same_passed : (all : List Placed) → HasPassed old w.0 all → HasPassed new w.0 all
    same_passed all has = (has.0, has.1 ∙ same_lefts all)

pub arrived : (a : Arrival) (octets : List ℕ) (freed : List Packet) (old new : Reading) (differs : Bool) → BringsTo old.emitter.streams a octets new.emitter.streams differs
    → new.emitter.emitter_state ≡ old.emitter.emitter_state → new.emitter.opened ≡ old.emitter.opened → new.losses ≡ old.losses → new.differs ≡ or_differs old.differs differs a.packet.packet
    → new.due.items ≡ old.due.items ++ map (due_as a.packet a.from) freed → Arrives a octets freed old new
arrived a octets freed old new differs brings emitter_state opened losses first queue ps p is known streams =
    let got = brings ps p is.0 is.1 is.2 is.3 streams in
    let number : a.packet.packet ≡ p.packet = ap (λ (q : Packet). q.packet) is.0 in
    let ts = turns_at ps p in
    let dues : map (due_as a.packet a.from) freed ≡ map due_of ts =
    ap (λ (q : Packet). map (due_as q a.from) freed) is.0 ∙ ap (λ (s : Side). map (due_as (packet_of p) s) freed) is.1
    ∙ ap (map (due_as (packet_of p) (side_of p.from))) (is.4 ∙ ap (λ (us : List Turn). map own_packet us) (one_turn ps p))
    ∙ dues_are ts p (at_itself ps p) (turns_own ps p) in (
      difference_on [] ps p ∙ ap (λ (o : Option ℕ). or_differs o (differs_by ps p) p.packet) known
          ∙ ap (λ (b : Bool). or_differs old.differs b p.packet) (sym got.0) ∙ ap (or_differs old.differs differs) (sym number) ∙ sym first,
      got.1,
      losses,
      λ emitted w. waits_on old.emitter new.emitter old.due.items new.due.items ps p emitted emitter_state opened got.2 got.3 (queue ∙ ap (λ (ds : List Due). old.due.items ++ ds) dues) w,
    )

-- ---- what holds of a result

pub ok_weaker : {T E : Type 0} {P Q : T → Type 0} (r : Result T E) → ((x : T) → P x → Q x) → IfOk r P → IfOk r Q
ok_weaker (Ok x) f h = f x h
ok_weaker (Err e) f h = h
