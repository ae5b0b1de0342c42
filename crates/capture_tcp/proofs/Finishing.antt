-- What is emitted up to where a log stops is all of it.
use Rattle.std.proofs.Common.{◌≡◌, ◌≤◌, ◌++◌, ◌∷◌, ℕ, Bool, true, false, List, [], map, Option, Some, None, refl, sym, ap, subst, ◌∙◌, arith}
use Rattle.std.proofs.lemmas.Bool.{ltb-false, le-ltb}
use Rattle.std.proofs.lemmas.List.{append-nil}
use Rattle.capture_tcp.specs.declared.ending.Ending.{Ending}
use Rattle.capture_tcp.specs.declared.ending.Ending.TheVariants as ending
use Rattle.capture_tcp.specs.declared.streams.Due.{Due}
use Rattle.capture_tcp.specs.declared.emitter.Emitter.{Emitter}
use Rattle.capture_tcp.specs.declared.events.TimedEvent.{TimedEvent}
use Rattle.capture_tcp.specs.TcpStreams.{Placed, Turn, turns, earlier, breaks_off, is_before}
use Rattle.capture_tcp.specs.ConnectionEvents.{Entry}
use Rattle.capture_tcp.specs.EventSteps.{entry_as}
use Rattle.capture_tcp.specs.DeliverySteps.{Log, and_log, due_of, is_over, emit_turns}
use Rattle.capture_tcp.specs.Emitted.{IsHeldBack, is_sure}
use Rattle.capture_tcp.specs.ReaderState.{lefts, log_of, emitted_dues}
use Rattle.capture_tcp.specs.InnerReaderState.{IsLimit, EmitsBefore}
use Rattle.capture_tcp.specs.EndOfStream.{broken, ended_by}
use Rattle.capture_tcp.specs.InnerEndOfStream.{BreaksAt, EachAfter, Finishes}
use Rattle.capture_tcp.proofs.Lists.{Each}
use Rattle.capture_tcp.proofs.DeliveredPackets.{Ordered, turns_ordered}

-- ---- what is not emitted

not_before : (o : Option ℕ) (t : Turn) → is_sure o t.at.packet ≡ false → is_before o t ≡ false
not_before None t e = absurd cc
not_before (Some k) t e = e

pub none_kept : (all : List Placed) (ts : List Turn) → EachAfter (breaks_off all) ts → emitted_dues all ts ≡ []
none_kept all [] h = refl
none_kept all (t ∷ ts) h = rw (not_before (breaks_off all) t h.0) (none_kept all ts h.1)

after_append : (o : Option ℕ) (ts us : List Turn) → EachAfter o ts → EachAfter o us → EachAfter o (ts ++ us)
after_append o [] us f g = g
after_append o (t ∷ ts) us f g = (f.0, after_append o ts us f.1 g)

not_sure_later : (o : Option ℕ) (m n : ℕ) → m ≤ n → is_sure o m ≡ false → is_sure o n ≡ false
not_sure_later None m n le e = absurd cc
not_sure_later (Some k) m n le e = let ge = ltb-false m k e in le-ltb n k (omega (arith, ge, le))

pub after_each : (o : Option ℕ) (m : ℕ) (ts : List Turn) → is_sure o m ≡ false → Each (λ (t : Turn). m ≤ t.at.packet) ts → EachAfter o ts
after_each o m [] e h = tt
after_each o m (t ∷ ts) e h = (not_sure_later o m t.at.packet h.0 e, after_each o m ts e h.1)

pub held_back : (o : Option ℕ) (ts : List Turn) → Ordered ts → IsHeldBack o (map due_of ts) → EachAfter o ts
held_back o [] h back = tt
held_back o (t ∷ ts) h back = (back, after_each o t.at.packet ts back h.0)

pub ordered_back : (xs ys : List Turn) → Ordered (xs ++ ys) → Ordered ys
ordered_back [] ys h = h
ordered_back (x ∷ xs) ys h = ordered_back xs ys h.1

-- ---- where it stops

limit_is : (more : Bool) (limit : Option ℕ) (e : Ending) (ps : List Placed) → BreaksAt more limit e ps → IsLimit more limit ps
limit_is more limit e ps breaks later h n rises sure = subst (λ (o : Option ℕ). is_sure o n ≡ true) (sym (breaks later h).0) sure

abbrev closed_log : List Entry → Bool → Log
closed_log es closed = record { emitted = es; closed = closed }

pub closed_ends : (lost differs limit : Option ℕ) (old new : Emitter) (queue left : List Due) (emitted later : List TimedEvent) → limit ≡ earlier lost differs
    → EmitsBefore limit old queue emitted new left later true → Finishes lost differs old queue emitted later ending.Closed
closed_ends lost differs limit old new queue left emitted later is emits away more ps rises none streams breaks waits lt h =
    let sound = limit_is more (earlier lost differs) (broken lost differs) ps breaks in
    let r = emits away more ps rises none streams (subst (λ (o : Option ℕ). IsLimit more o ps) (sym is) sound) waits in
    let log = r.1 lt h in
    (sym (ap (λ (l : Log). l.emitted) log), sym (ap (λ (l : Log). ended_by l.closed (ps ++ lt)) log))

over_none : (s : Emitter) (all : List Placed) → emit_turns s.emitter_state s.opened (lefts s.streams all) [] ≡ closed_log [] (is_over s.emitter_state)
unfolding emit_turns
over_none s all = refl

pub open_ends : (lost differs limit : Option ℕ) (old new : Emitter) (queue left : List Due) (emitted later : List TimedEvent) → limit ≡ earlier lost differs
    → EmitsBefore limit old queue emitted new left later false → Finishes lost differs old queue emitted later (broken lost differs)
open_ends lost differs limit old new queue left emitted later is emits away more ps rises none streams breaks waits lt h =
    let all = ps ++ lt in
    let at = breaks lt h in
    let every_emitted = map entry_as (away ++ later) in
    let sound = limit_is more (earlier lost differs) (broken lost differs) ps breaks in
    let r = emits away more ps rises none streams (subst (λ (o : Option ℕ). IsLimit more o ps) (sym is) sound) waits in
    let w = r.1.0 in
    let gone = w.0 in
    let rest = w.1 in
    let back : IsHeldBack (earlier lost differs) (map due_of rest) = subst (λ (o : Option ℕ). IsHeldBack o (map due_of rest)) is (subst (IsHeldBack limit) w.3 r.1.1) in
    let subsequent = held_back (earlier lost differs) rest (ordered_back gone rest (subst Ordered w.2 (turns_ordered 0 [] ps rises))) back in
    let every : EachAfter (breaks_off all) (rest ++ turns ps lt) =
    subst (λ (o : Option ℕ). EachAfter o (rest ++ turns ps lt)) (sym at.0) (after_append (earlier lost differs) rest (turns ps lt) subsequent at.2) in
    let log : log_of all ≡ closed_log every_emitted false =
    w.4 lt h
    ∙ ap (λ (ds : List Due). and_log every_emitted (emit_turns new.emitter_state new.opened (lefts new.streams all) ds)) (none_kept all (rest ++ turns ps lt) every)
    ∙ ap (and_log every_emitted) (over_none new all)
    ∙ ap (λ (b : Bool). and_log every_emitted (closed_log [] b)) r.1.2
    ∙ ap (λ (es : List Entry). closed_log es false) (append-nil every_emitted) in
    (sym (ap (λ (l : Log). l.emitted) log), at.1 ∙ sym (ap (λ (l : Log). ended_by l.closed all) log))
