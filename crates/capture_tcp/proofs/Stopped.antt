-- When a connection is given up.
use Rattle.std.proofs.Common.{◌≡◌, ◌<◌, ◌^◌, ◌++◌, ◌∷◌, ◌+◌, ℕ, max, List, [], length, map, Option, Some, None, is_some, sym, ap, subst, ◌∙◌, arith, inl, inr, true, false}
use Rattle.std.proofs.lemmas.Bool.{cases_lt}
use Rattle.capture_tcp.specs.declared.connection.Connection.{Connection}
use Rattle.capture_tcp.specs.declared.connection.ConnectionFault.{ConnectionFault}
use Rattle.capture_tcp.specs.declared.ending.Ending.{Ending}
use Rattle.capture_tcp.specs.declared.reassembly.ReassemblyFault.{ReassemblyFault}
use Rattle.capture_tcp.specs.declared.reassembly.ReassemblyFault.TheVariants as held
use Rattle.capture_tcp.specs.declared.packet.Packet.{Packet}
use Rattle.capture_tcp.specs.declared.packet.Segment.{Segment}
use Rattle.capture_tcp.specs.declared.packet.Side.{Side}
use Rattle.capture_tcp.specs.declared.reader_state.Reading.{Reading}
use Rattle.capture_tcp.specs.declared.streams.Streams.{Streams}
use Rattle.capture_tcp.specs.declared.events.TimedEvent.{TimedEvent}
use Rattle.capture_tcp.specs.TcpStreams.{End, active, passive, Cell, Placed, Seen, ack_place, end_of, other, place_of, places, confirmed, timed}
use Rattle.capture_tcp.specs.Reassembly.{EndsFar}
use Rattle.capture_tcp.specs.KnownStreams.{ContinuesWith, Known, known, packet_of, placed_after, seen_of}
use Rattle.capture_tcp.specs.Losses.{side_of}
use Rattle.capture_tcp.specs.InnerDeliverySteps.{stream_at}
use Rattle.capture_tcp.specs.ReaderState.{first_kept}
use Rattle.capture_tcp.specs.PacketArrival.{HoldsFrom}
use Rattle.capture_tcp.specs.InnerPacketArrival.{BringsCells}
use Rattle.capture_tcp.specs.ReaderInvariant.{StateInvariantAs}
use Rattle.capture_tcp.specs.Limits.{ContinuesBy, IsFar, StopsBy, of_held}
use Rattle.capture_tcp.specs.InnerLimits.{FullIf, ContinuesAt, IsFull, IsNear, StopsAt}
use Rattle.capture_tcp.proofs.Connecting.{not_ended, placed_one, side_back}

-- ---- too long

near_far : (k : Known) (base : End → ℕ) (ps : List Placed) → k ≡ known base ps → max k.active.end k.passive.end < 2 ^ 62 → IsFar ps → ⊥
near_far k base ps e lt far =
    let a : k.active.end ≡ end_of ps active = ap (λ (z : Known). z.active.end) e in
    let p : k.passive.end ≡ end_of ps passive = ap (λ (z : Known). z.passive.end) e in
    omega (arith, a, p, lt, far)

-- ---- too much

-- A packet that carries something carries these cells.
brings_all : (p : Placed) (cells : List Cell) → BringsCells p cells → 0 < length p.cells → p.cells ≡ cells
brings_all p cells (inl none) lt = let e : length p.cells ≡ 0 = ap length none in absurd (omega (arith, e, lt))
brings_all p cells (inr same) lt = same

some_cells : (p : Placed) (packet : Packet) → packet ≡ packet_of p → (packet.from ≡ packet.to → ⊥) → 0 < length p.cells
some_cells p packet e other =
    let from : packet.from ≡ p.place = ap (λ (q : Packet). q.from) e in
    let to : packet.to ≡ p.place + length p.cells = ap (λ (q : Packet). q.to) e in
    elim (cases_lt 0 (length p.cells)) [
      | inl lt ↦ lt
      | inr ge ↦ absurd (other (omega (arith, from, to, ge)))
    ]

-- The buffer starts there.
kept_at : (s : Streams) (ps : List Placed) (d : End) → HoldsFrom s ps → (stream_at s (side_of d)).held.place ≡ first_kept ps d
kept_at s ps active h = h.0
kept_at s ps passive h = h.1

own_side : (p : Placed) (s : Side) (d : End) → s ≡ side_of d → p.from ≡ d → s ≡ side_of p.from
own_side p s d e f = e ∙ ap side_of (sym f)

pub stops_full : (fault : ReassemblyFault) (old new : Known) (r : Reading) (segment : Segment) (octets : List ℕ) (emitted : List TimedEvent) (freed : List Packet) (packet : Packet)
    → ContinuesWith old [] (seen_of segment octets) new freed (Some packet)
    → FullIf fault (IsFull (stream_at r.emitter.streams segment.from).held packet (seen_of segment octets).cells) → StopsAt old r segment octets emitted (of_held fault)
stops_full held.Memory old new r segment octets emitted freed packet proceeds full base before away consistent = tt
stops_full held.Full old new r segment octets emitted freed packet proceeds full base before away consistent =
    let s = seen_of segment octets in
    let ps = places base [] before in
    let g = proceeds base before consistent.0 in
    let one = placed_one (end_of ps s.from) (confirmed ps s.from) (timed ps s) (place_of (end_of ps s.from) (base s.from) s.number) (ack_place ps base (other s.from) s.acknowledged) packet g.2 in
    let p = one.0 in
    let some = some_cells p packet one.2 full.0 in
    let from : packet.from ≡ p.place = ap (λ (q : Packet). q.from) one.2 in
    let far : EndsFar (stream_at r.emitter.streams segment.from).held.place p.place s.cells =
    subst (λ (n : ℕ). EndsFar (stream_at r.emitter.streams segment.from).held.place n s.cells) from full.1 in
    let cells : EndsFar (stream_at r.emitter.streams segment.from).held.place p.place p.cells =
    subst (EndsFar (stream_at r.emitter.streams segment.from).held.place p.place) (sym (brings_all p s.cells one.4 some)) far in (
      p,
      one.1,
      (
        some,
        subst (λ (n : ℕ). EndsFar n p.place p.cells) (kept_at r.emitter.streams ps p.from consistent.1.2)
            (subst (λ (d : Side). EndsFar (stream_at r.emitter.streams d).held.place p.place p.cells) (own_side p segment.from s.from (side_back segment.from) one.3) cells),
      ),
    )

pub continues_none : (old new : Known) (r : Reading) (segment : Segment) (octets : List ℕ) (emitted : List TimedEvent) (freed : List Packet)
    → max old.active.end old.passive.end < 2 ^ 62 → ContinuesWith old [] (seen_of segment octets) new freed None → ContinuesAt old r segment octets emitted
continues_none old new r segment octets emitted freed lt proceeds base before away consistent =
    let ps = places base [] before in
    let g = proceeds base before consistent.0 in (
      near_far old base ps consistent.0 lt,
      λ past. none_placed (placed_after base ps (seen_of segment octets)) past.0 g.2 past.1,
    )
  where
    none_placed : (qs : List Placed) (p : Placed) → [] ≡ map packet_of qs → qs ≡ p ∷ [] → ⊥
    none_placed [] p e f = absurd cc
    none_placed (q ∷ qs) p e f = absurd cc

pub continues_some : (old new : Known) (r : Reading) (segment : Segment) (octets : List ℕ) (emitted : List TimedEvent) (freed : List Packet) (packet : Packet)
    → max old.active.end old.passive.end < 2 ^ 62 → ContinuesWith old [] (seen_of segment octets) new freed (Some packet)
    → IsNear (stream_at r.emitter.streams segment.from).held packet (seen_of segment octets).cells → ContinuesAt old r segment octets emitted
continues_some old new r segment octets emitted freed packet lt proceeds near base before away consistent =
    let s = seen_of segment octets in
    let ps = places base [] before in
    let g = proceeds base before consistent.0 in
    let one = placed_one (end_of ps s.from) (confirmed ps s.from) (timed ps s) (place_of (end_of ps s.from) (base s.from) s.number) (ack_place ps base (other s.from) s.acknowledged) packet g.2 in
    let p = one.0 in
    let from : packet.from ≡ p.place = ap (λ (q : Packet). q.from) one.2 in
    let to : packet.to ≡ p.place + length p.cells = ap (λ (q : Packet). q.to) one.2 in (
      near_far old base ps consistent.0 lt,
      λ past.
          let same : past.0 ≡ p = first_same past.0 p (sym past.1 ∙ one.1) in
          let h = subst (λ (q : Placed). (0 < length q.cells) × EndsFar (first_kept ps q.from) q.place q.cells) same past.2 in
          let some = h.0 in
          let cells = brings_all p s.cells one.4 some in
          let long : length p.cells ≡ length s.cells = ap length cells in
          let far : EndsFar (stream_at r.emitter.streams segment.from).held.place p.place p.cells =
          subst (λ (d : Side). EndsFar (stream_at r.emitter.streams d).held.place p.place p.cells) (sym (own_side p segment.from s.from (side_back segment.from) one.3))
          (subst (λ (n : ℕ). EndsFar n p.place p.cells) (sym (kept_at r.emitter.streams ps p.from consistent.1.2)) h.1) in
          let none : length s.cells ≡ 0 =
          near (λ e. omega (arith, e, from, to, some))
          (subst (λ (n : ℕ). EndsFar (stream_at r.emitter.streams segment.from).held.place n s.cells) (sym from)
          (subst (EndsFar (stream_at r.emitter.streams segment.from).held.place p.place) cells far)) in
          omega (arith, long, none, some),
    )
  where
    first_same : (q p : Placed) → ◌≡◌ {A = List Placed} (q ∷ []) (p ∷ []) → q ≡ p
    first_same q p e = cc

-- ---- of a connection

pub stops_by : (fault : ConnectionFault) (c : Connection) (segment : Segment) (octets : List ℕ) (emitted : List TimedEvent) → is_some c.ending ≡ false
    → StopsAt c.turns c.reading segment octets emitted fault → StopsBy c emitted (seen_of segment octets) fault
stops_by fault c segment octets emitted e stops =
    let none = not_ended c.ending e in
    (none, λ base before away consistent. stops base before away (subst (λ (o : Option Ending). StateInvariantAs o c.turns c.reading (away ++ emitted) base before) none consistent))

pub continues_by : (c : Connection) (segment : Segment) (octets : List ℕ) (emitted : List TimedEvent) → ContinuesAt c.turns c.reading segment octets emitted → ContinuesBy c emitted (seen_of segment octets)
continues_by c segment octets emitted proceeds none base before away consistent =
    proceeds base before away (subst (λ (o : Option Ending). StateInvariantAs o c.turns c.reading (away ++ emitted) base before) none consistent)

pub ended_continues : (c : Connection) (s : Seen) (emitted : List TimedEvent) → is_some c.ending ≡ true → ContinuesBy c emitted s
ended_continues c s emitted e none base before away consistent = absurd (let f : is_some c.ending ≡ false = ap is_some none in cc)
