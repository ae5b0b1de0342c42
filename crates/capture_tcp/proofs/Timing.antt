-- What is emitted at a packet has its time.
use Rattle.std.proofs.Common.{◌≡◌, ◌++◌, ◌∷◌, ℕ, List, [], map, sym, subst}
use Rattle.capture_tcp.specs.declared.packet.Packet.{Packet}
use Rattle.capture_tcp.specs.declared.packet.Side.{Side}
use Rattle.capture_tcp.specs.declared.reader_state.Reading.{Reading}
use Rattle.capture_tcp.specs.declared.streams.Due.{Due}
use Rattle.capture_tcp.specs.declared.events.Event.{Event}
use Rattle.capture_tcp.specs.declared.events.TimedEvent.{TimedEvent}
use Rattle.capture_tcp.specs.InnerPacketArrival.{due_as}
use Rattle.capture_tcp.specs.Emitted.{EachDue}
use Rattle.capture_tcp.specs.Timestamps.{AreDueTimed, AreTimed}
use Rattle.capture_tcp.specs.InnerTimestamps.{KeepsTimes, QueuesInTime, ReactsInTime, EmitsInTime}

-- ---- what is emitted at a packet

timed_push : (time : ℕ → ℕ) (emitted : List TimedEvent) (h : TimedEvent) → AreTimed time emitted → h.time ≡ time h.packet → AreTimed time (emitted ++ h ∷ [])
timed_push time [] h t e = (e, tt)
timed_push time (x ∷ emitted) h t e = (t.0, timed_push time emitted h t.1 e)

pub keeps_none : (packet at : ℕ) (emitted : List TimedEvent) → KeepsTimes packet at emitted emitted
keeps_none packet at emitted time e t = t

pub keeps_one : (packet at : ℕ) (emitted later : List TimedEvent) (event : Event) → later ≡ emitted ++ record { packet = packet; time = at; event = event } ∷ []
    → KeepsTimes packet at emitted later
keeps_one packet at emitted later event is time e t =
    subst (AreTimed time) (sym is) (timed_push time emitted (record { packet = packet; time = at; event = event }) t (sym e))

pub keeps_both : (packet at : ℕ) (emitted some later : List TimedEvent) → KeepsTimes packet at emitted some → KeepsTimes packet at some later
    → KeepsTimes packet at emitted later
keeps_both packet at emitted some later f g time e t = g time e (f time e t)

-- ---- delivery after delivery

pub emits_none : (dues : List Due) (emitted : List TimedEvent) → EmitsInTime dues emitted dues emitted
emits_none dues emitted time d t = (d, t)

pub emits_one : (dues queue left : List Due) (due : Due) (emitted some later : List TimedEvent) → EmitsInTime dues emitted queue some → queue ≡ due ∷ left
    → KeepsTimes due.at due.time some later → EmitsInTime dues emitted left later
emits_one dues queue left due emitted some later before is keeps time d t =
    let b = before time d t in
    let q : AreDueTimed time (due ∷ left) = subst (AreDueTimed time) is b.0 in
    (q.1, keeps time q.0 b.1)

-- ---- one more packet

due_more : (P : Due → Type 0) (xs ys : List Due) → EachDue P xs → EachDue P ys → EachDue P (xs ++ ys)
due_more P [] ys f g = g
due_more P (x ∷ xs) ys f g = (f.0, due_more P xs ys f.1 g)

freed_timed : (time : ℕ → ℕ) (p : Packet) (from : Side) (freed : List Packet) → time p.packet ≡ p.time → AreDueTimed time (map (due_as p from) freed)
freed_timed time p from [] e = tt
freed_timed time p from (q ∷ freed) e = (e, freed_timed time p from freed e)

pub queued : (p : Packet) (from : Side) (freed : List Packet) (dues later : List Due) → later ≡ dues ++ map (due_as p from) freed → QueuesInTime p dues later
queued p from freed dues later is time e d =
    subst (AreDueTimed time) (sym is) (due_more (λ t. time t.at ≡ t.time) dues (map (due_as p from) freed) d (freed_timed time p from freed e))

pub reacted : (p : Packet) (old mid new : Reading) (emitted later : List TimedEvent) → QueuesInTime p old.due.items mid.due.items
    → EmitsInTime mid.due.items emitted new.due.items later → ReactsInTime p old emitted new later
reacted p old mid new emitted later queues emits time e d t = emits time (queues time e d) t
