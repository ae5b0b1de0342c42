-- One more segment, and the end: what was emitted is what the definition gives.
use Rattle.std.proofs.Common.{◌≡◌, ◌⊎◌, ◌++◌, ◌||◌, ◌∷◌, inl, inr, ℕ, Bool, true, false, cond, List, [], map, Option, Some, None, is_some, refl, sym, ap, subst, ◌∙◌, arith}
use Rattle.std.proofs.lemmas.List.{append-nil, append_assoc}
use Rattle.std.specs.Option.{option_to_list}
use Rattle.capture_tcp.specs.declared.connection.Connection.{Connection}
use Rattle.capture_tcp.specs.declared.ending.Ending.{Ending}
use Rattle.capture_tcp.specs.declared.losses.BothEnds.{BothEnds}
use Rattle.capture_tcp.specs.declared.packet.Packet.{Packet}
use Rattle.capture_tcp.specs.declared.packet.Segment.{Segment}
use Rattle.capture_tcp.specs.declared.packet.Side.{Side}
use Rattle.capture_tcp.specs.declared.packet.Side.TheVariants as side
use Rattle.capture_tcp.specs.declared.reader_state.Reading.{Reading}
use Rattle.capture_tcp.specs.declared.streams.Due.{Due}
use Rattle.capture_tcp.specs.declared.emitter.Emitter.{Emitter}
use Rattle.capture_tcp.specs.declared.events.TimedEvent.{TimedEvent}
use Rattle.capture_tcp.specs.declared.events.EmitterState.TheVariants as emitter_state
use Rattle.capture_tcp.specs.TcpStreams.{End, active, passive, other, Seen, Placed, places, place_of, ack_place, placed_at, timed, asks_only, end_of, received, confirmed, turns, loss, difference, earlier}
use Rattle.capture_tcp.specs.Reassembly.{Store, IsStoreOf}
use Rattle.capture_tcp.specs.KnownStreams.{ContinuesWith, Known, end_at, known, packet_of, placed_after, seen_of}
use Rattle.capture_tcp.specs.InnerKnownStreams.{placed_as}
use Rattle.capture_tcp.specs.Laws.{AreNumbered}
use Rattle.capture_tcp.specs.Losses.{ReturnsLoss, Watches, ends_of, first_of, shown_of, side_of}
use Rattle.capture_tcp.specs.ConnectionEvents.{Entry, emits}
use Rattle.capture_tcp.specs.EventSteps.{entry_as}
use Rattle.capture_tcp.specs.DeliverySteps.{Log, is_over, remains_after, emit_turns}
use Rattle.capture_tcp.specs.Emitted.{IsHeldBack}
use Rattle.capture_tcp.specs.ReaderState.{AreRising, AreStreamsOf, Waits, lefts, log_of, emitted_dues}
use Rattle.capture_tcp.specs.EndOfStream.{EndsSo, IsShownEnded, broken, ended, ended_at, is_known, shown_by}
use Rattle.capture_tcp.specs.InnerEndOfStream.{BreaksAt, Finishes}
use Rattle.capture_tcp.specs.PacketArrival.{HoldsFrom, IsReading, breaks_sure}
use Rattle.capture_tcp.specs.InnerPacketArrival.{BringsCells, IsArrival, Outcome, Reacts, own_packet}
use Rattle.capture_tcp.specs.ReaderInvariant.{EndsAs, StateInvariantAs, TakesOn, EmittedAtOnce, EmittedIsFinal}
use Rattle.capture_tcp.specs.InnerReaderInvariant.{Followed, of_side}
use Rattle.capture_tcp.proofs.StreamPrefixes.{places_begin, places_more, places_rise}
use Rattle.capture_tcp.proofs.EmitterSteps.{one_more}
use Rattle.std.specs.Option.{option_map}
use Rattle.capture_tcp.proofs.Evidence.{shown_at_end, shown_ended}
use Rattle.capture_tcp.proofs.WatchedBytes.{watched_more}
use Rattle.capture_tcp.proofs.SettledEvents.{known_more, log_now, nothing_follows, unknown_yet}
use Rattle.capture_tcp.proofs.EmittedEvents.{emits_all}

-- ---- a segment by its offset

pub side_back : (s : Side) → s ≡ side_of (end_at s)
side_back side.Active = refl
side_back side.Passive = refl

pub placed_one : (end acked : ℕ) (s : Seen) (o ack : Option ℕ) (packet : Packet) → option_to_list (Some packet) ≡ map packet_of (placed_at end acked s o ack)
    → (p : Placed) × (placed_at end acked s o ack ≡ p ∷ []) × (packet ≡ packet_of p) × (p.from ≡ s.from) × BringsCells p s.cells × (p.time ≡ s.time)
placed_one end acked s None ack packet e = absurd cc
placed_one end acked s (Some place) ack packet e =
    let p = placed_as end acked s place ack in
    let same : packet ≡ packet_of p = cc in
    (p, refl, same, refl, by_test (s.reset || asks_only acked place s.pushed s.cells), refl)
  where
    by_test : (b : Bool) → (cond b [] s.cells ≡ []) ⊎ (cond b [] s.cells ≡ s.cells)
    by_test true = inl refl
    by_test false = inr refl

placed_none : (end acked : ℕ) (s : Seen) (o ack : Option ℕ) → [] ≡ map packet_of (placed_at end acked s o ack) → placed_at end acked s o ack ≡ []
placed_none end acked s None ack e = refl
placed_none end acked s (Some place) ack e = absurd cc

pub all_rise : (base : End → ℕ) (seen : List Seen) → AreNumbered 0 seen → AreRising 0 (places base [] seen)
all_rise base seen h = let r = places_rise base [] 0 seen h in subst (AreRising 0) (sym r.1) r.2

invariant_by : (end : Option Ending) (turns : Known) (r : Reading) (ends : BothEnds) (emitted : List TimedEvent) (base : End → ℕ) (seen : List Seen)
    → turns ≡ known base (places base [] seen) → ends ≡ ends_of (places base [] seen) → AreRising 0 (places base [] seen)
    → Outcome r (places base [] seen) emitted end → StateInvariantAs (option_map (shown_by (shown_of ends r.losses)) end) turns r emitted base seen
invariant_by None turns r ends emitted base seen e f rises h = (e, h)
invariant_by (Some x) turns r ends emitted base seen e f rises h =
    let ps = places base [] seen in (
      subst (λ (b : BothEnds). IsShownEnded true ps emitted (shown_by (shown_of b r.losses) x)) (sym f) (shown_ended r.losses ps emitted x rises h.0 h.1 h.2),
      h.1,
      (x, h.0),
    )

pub followed_none : (old new : Known) (r : Reading) (segment : Segment) (octets : List ℕ) (emitted : List TimedEvent) (freed : List Packet)
    → ContinuesWith old [] (seen_of segment octets) new freed None → Followed old r segment octets emitted new r emitted None
followed_none old new r segment octets emitted freed proceeds base before away numbered consistent =
    let s = seen_of segment octets in
    let ps = places base [] before in
    let g = proceeds base before consistent.0 in
    let none : placed_after base ps s ≡ [] =
    placed_none (end_of ps s.from) (confirmed ps s.from) (timed ps s) (place_of (end_of ps s.from) (base s.from) s.number) (ack_place ps base (other s.from) s.acknowledged) g.2 in
    let now : places base [] (before ++ s ∷ []) ≡ ps = one_more base before s ∙ ap (λ (z : List Placed). ps ++ z) none ∙ append-nil ps in
    (g.0, subst (λ (z : List Placed). IsReading r z (away ++ emitted)) (sym now) consistent.1)

abbrev received_by : Known → BothEnds
received_by k = record { active = k.active.acknowledged; passive = k.passive.acknowledged }

abbrev ends_by : Known → BothEnds
ends_by k = record { active = k.active.end; passive = k.passive.end }

known_received : (base : End → ℕ) (ps : List Placed) (s : Side) → of_side (received_by (known base ps)) s ≡ received ps (end_at s)
known_received base ps side.Active = refl
known_received base ps side.Passive = refl

pub followed_some : (old new : Known) (r next : Reading) (segment : Segment) (octets : List ℕ) (emitted later : List TimedEvent) (freed : List Packet) (packet : Packet) (acked : ℕ)
    (before_received ends subsequent : BothEnds) (end : Option Ending) → ContinuesWith old [] (seen_of segment octets) new freed (Some packet) → before_received ≡ received_by old
    → acked ≡ of_side before_received segment.from → ends ≡ ends_by new → subsequent ≡ received_by new
    → Reacts (record { from = segment.from; flags = segment.flags; packet = packet; acknowledged = acked; ends = ends; received = subsequent }) octets freed r emitted next later end
    → Followed old r segment octets emitted new next later (option_map (shown_by (shown_of ends next.losses)) end)
followed_some old new r next segment octets emitted later freed packet acked before_received ends subsequent end proceeds was acks ends_are received_are reacts base before away numbered consistent =
    let s = seen_of segment octets in
    let ps = places base [] before in
    let g = proceeds base before consistent.0 in
    let one = placed_one (end_of ps s.from) (confirmed ps s.from) (timed ps s) (place_of (end_of ps s.from) (base s.from) s.number) (ack_place ps base (other s.from) s.acknowledged) packet g.2 in
    let p = one.0 in
    let now : places base [] (before ++ s ∷ []) ≡ ps ++ p ∷ [] = one_more base before s ∙ ap (λ (z : List Placed). ps ++ z) one.1 in
    let knows : new ≡ known base (ps ++ p ∷ []) = g.0 ∙ ap (known base) now in
    let own : acked ≡ received ps p.from =
    acks ∙ ap (λ (b : BothEnds). of_side b segment.from) (was ∙ ap received_by consistent.0) ∙ known_received base ps segment.from ∙ ap (received ps) (sym one.3) in
    let arrival : IsArrival (record { from = segment.from; flags = segment.flags; packet = packet; acknowledged = acked; ends = ends; received = subsequent }) octets freed ps p = (
      one.2,
      side_back segment.from ∙ ap side_of (sym one.3),
      one.4,
      own,
      g.1 ∙ ap (λ (z : List Placed). map own_packet (turns ps z)) one.1,
      ends_are ∙ ap ends_by knows,
      received_are ∙ ap received_by knows,
    ) in
    let rises : AreRising 0 (ps ++ p ∷ []) = subst (AreRising 0) now (all_rise base (before ++ s ∷ []) numbered) in
    invariant_by end new next ends (away ++ later) base (before ++ s ∷ []) g.0 (ends_are ∙ ap ends_by knows ∙ ap ends_of (sym now)) (all_rise base (before ++ s ∷ []) numbered)
    (subst (λ (z : List Placed). Outcome next z (away ++ later) end) (sym now) (reacts away ps p arrival rises consistent.1))

-- ---- a connection that has ended stays so

-- In whatever way its end is reported.
ends_more : (emitted_end : List Placed → Ending) (ps qs : List Placed) (emitted : List TimedEvent) (e : Ending)
    → ((later : List Placed) → AreRising 0 (ps ++ later) → (map entry_as emitted ≡ (log_of (ps ++ later)).emitted) × (e ≡ emitted_end (ps ++ later)))
    → (later : List Placed) → AreRising 0 ((ps ++ qs) ++ later) → (map entry_as emitted ≡ (log_of ((ps ++ qs) ++ later)).emitted) × (e ≡ emitted_end ((ps ++ qs) ++ later))
ends_more emitted_end ps qs emitted e h later rises =
    let whole : (ps ++ qs) ++ later ≡ ps ++ (qs ++ later) = append_assoc ps qs later in
    let r = h (qs ++ later) (subst (AreRising 0) whole rises) in
    (r.0 ∙ ap (λ (z : List Placed). (log_of z).emitted) (sym whole), r.1 ∙ ap emitted_end (sym whole))

stays_by : (end : Option Ending) (turns : Known) (r : Reading) (emitted : List TimedEvent) (base : End → ℕ) (before : List Seen) (s : Seen) → is_some end ≡ true
    → AreNumbered 0 (before ++ s ∷ []) → StateInvariantAs end turns r emitted base before → StateInvariantAs end turns r emitted base (before ++ s ∷ [])
stays_by None turns r emitted base before s e numbered h = absurd cc
stays_by (Some x) turns r emitted base before s e numbered h =
    let ps = places base [] before in
    let qs = placed_after base ps s in
    let rises = subst (AreRising 0) (one_more base before s) (all_rise base (before ++ s ∷ []) numbered) in
    subst (λ (z : List Placed). IsShownEnded true z emitted x × (is_known z ≡ true) × EndsSo true z emitted) (sym (one_more base before s))
    (ends_more ended ps qs emitted x h.0, known_more ps qs emitted h.2.0 rises h.2.1 h.1, (h.2.0, ends_more ended_at ps qs emitted h.2.0 h.2.1))

pub stays : (c : Connection) (s : Seen) (emitted : List TimedEvent) → is_some c.ending ≡ true → TakesOn c s emitted c emitted
stays c s emitted e base before away numbered consistent = stays_by c.ending c.turns c.reading (away ++ emitted) base before s e numbered consistent

pub not_ended : (o : Option Ending) → is_some o ≡ false → o ≡ None
not_ended None e = refl
not_ended (Some x) e = absurd cc

pub continues_further : (c next : Connection) (segment : Segment) (octets : List ℕ) (emitted later : List TimedEvent) → is_some c.ending ≡ false
    → Followed c.turns c.reading segment octets emitted next.turns next.reading later next.ending → TakesOn c (seen_of segment octets) emitted next later
continues_further c next segment octets emitted later e followed base before away numbered consistent =
    followed base before away numbered (subst (λ (o : Option Ending). StateInvariantAs o c.turns c.reading (away ++ emitted) base before) (not_ended c.ending e) consistent)

-- ---- the end

at_end : (ps : List Placed) (emitted : List TimedEvent) (e : Ending) → AreRising 0 ps → (map entry_as emitted ≡ (log_of (ps ++ [])).emitted) × (e ≡ ended (ps ++ []))
    → (map entry_as emitted ≡ emits ps) × (e ≡ ended ps)
at_end ps emitted e rises h =
    let r = subst (λ (z : List Placed). (map entry_as emitted ≡ (log_of z).emitted) × (e ≡ ended z)) (append-nil ps) h in
    (r.0 ∙ emits_all ps rises, r.1)

pub ends_before : (c : Connection) (emitted : List TimedEvent) (e : Ending) → c.ending ≡ Some e → EndsAs c emitted emitted e
ends_before c emitted e is base seen away numbered consistent =
    let ps = places base [] seen in
    let h : IsShownEnded true ps (away ++ emitted) e = (subst (λ (o : Option Ending). StateInvariantAs o c.turns c.reading (away ++ emitted) base seen) is consistent).0 in
    at_end ps (away ++ emitted) e (all_rise base seen numbered) (h [] (nothing_follows ps (all_rise base seen numbered)))

breaks_here : (first d : Option ℕ) (ps : List Placed) → first ≡ loss [] ps → difference [] ps ≡ d → BreaksAt false (earlier first d) (broken first d) ps
unfolding turns
breaks_here first d ps e f later h =
    let whole : ps ++ later ≡ ps = ap (λ (z : List Placed). ps ++ z) h ∙ append-nil ps in
    let at : loss [] (ps ++ later) ≡ first = ap (loss []) whole ∙ sym e in
    let by : difference [] (ps ++ later) ≡ d = ap (difference []) whole ∙ f in
    rw (at, by, h) (refl, refl, tt)

waits_end : (t : Emitter) (queue : List Due) (ps : List Placed) (emitted : List TimedEvent) → AreRising 0 ps → Waits true t queue ps emitted → Waits false t queue ps emitted
waits_end t queue ps emitted rises w =
    let none : (later : List Placed) → later ≡ [] → AreRising 0 (ps ++ later) = λ later h. subst (λ (z : List Placed). AreRising 0 (ps ++ z)) (sym h) (nothing_follows ps rises) in
    (w.0, w.1, w.2, w.3, λ later h. w.4 later (none later h), λ later h. w.5 later (none later h))

pub ends_now : (c : Connection) (first : Option ℕ) (ends : BothEnds) (emitted later : List TimedEvent) (e : Ending) → c.ending ≡ None → ReturnsLoss c.reading.losses first
    → Finishes first c.reading.differs c.reading.emitter c.reading.due.items emitted later e → ends ≡ ends_by c.turns
    → EndsAs c emitted later (shown_by (shown_of ends c.reading.losses) e)
ends_now c first ends emitted later e is emits finishes ends_are base seen away numbered consistent =
    let ps = places base [] seen in
    let rises = all_rise base seen numbered in
    let h = subst (λ (o : Option Ending). StateInvariantAs o c.turns c.reading (away ++ emitted) base seen) is consistent in
    let r = h.1.0 in
    let all =
    finishes away false ps rises refl r.2 (breaks_here first c.reading.differs ps (emits ps r.0) r.1)
    (waits_end c.reading.emitter c.reading.due.items ps (away ++ emitted) rises r.3) [] refl in
    let ends_here : ends ≡ ends_of ps = ends_are ∙ ap ends_by h.0 in (
      all.0 ∙ ap (λ (z : List Placed). (log_of z).emitted) (append-nil ps) ∙ emits_all ps rises,
      ap (λ (b : BothEnds). shown_by (shown_of b c.reading.losses) e) ends_here
          ∙ shown_at_end c.reading.losses ps e rises (all.1 ∙ ap ended_at (append-nil ps)) (watched_more c.reading.losses ps r.0),
    )

-- ---- the start

pub begins : (turns : Known) (r : Reading) (a p : Store) (base : End → ℕ) → turns ≡ known base [] → Watches r.losses [] → a.place ≡ 0 → ((d : End) → IsStoreOf a [] d)
    → p.place ≡ 0 → ((d : End) → IsStoreOf p [] d) → r.due.items ≡ [] → r.differs ≡ None
    → r.emitter ≡ record { streams = record { active = record { held = a; place = 0 }; passive = record { held = p; place = 0 } }; emitter_state = emitter_state.Waiting None; opened = false }
    → StateInvariantAs None turns r [] base []
unfolding places difference turns remains_after
begins turns r a p base e w az ah pz ph none differs is = (
  e,
  (
    (
      w,
      sym differs,
      subst (λ (t : Emitter). AreStreamsOf t.streams []) (sym is)
          ((ah active, omega (arith, az), omega arith, omega (arith, az)), (ph passive, omega (arith, pz), omega arith, omega (arith, pz))),
      subst (λ (t : Emitter). Waits true t r.due.items [] []) (sym is) ([], [], refl, none, λ later h. refl, λ later h. (tt, refl)),
    ),
    subst (IsHeldBack (earlier (first_of r.losses) r.differs)) (sym none) tt,
    subst (λ (t : Emitter). HoldsFrom t.streams []) (sym is) (omega (arith, az), omega (arith, pz)),
    (ap (λ (t : Emitter). is_over t.emitter_state) is, ap (breaks_sure (first_of r.losses)) differs),
  ),
)

-- ---- what was emitted is final

abbrev Front : List TimedEvent → List Placed → Type 0
Front emitted all = (rest : List Entry) × (emits all ≡ map entry_as emitted ++ rest)

front_by : (end : Option Ending) (known_turns : Known) (r : Reading) (emitted : List TimedEvent) (base : End → ℕ) (seen : List Seen) (more : List Placed)
    → StateInvariantAs end known_turns r emitted base seen → AreRising 0 (places base [] seen ++ more) → Front emitted (places base [] seen ++ more)
front_by None known_turns r emitted base seen more h rises =
    let ps = places base [] seen in
    let all = ps ++ more in
    let w = h.1.0.3 in
    let rest = emit_turns r.emitter.emitter_state r.emitter.opened (lefts r.emitter.streams all) (emitted_dues all (w.1 ++ turns ps more)) in
    (rest.emitted, sym (emits_all all rises) ∙ ap (λ (l : Log). l.emitted) (w.4 more rises))
front_by (Some e) known_turns r emitted base seen more h rises =
    let all = places base [] seen ++ more in
    ([], sym (emits_all all rises) ∙ sym (h.0 more rises).0 ∙ sym (append-nil (map entry_as emitted)))

pub emitted_settled : EmittedIsFinal
emitted_settled c emitted base seen later consistent numbered =
    let ps = places base [] seen in
    let split = places_begin base ps later in
    let whole : places base [] (seen ++ later) ≡ ps ++ split.0 = places_more base [] seen later ∙ split.1 in
    let rises = subst (AreRising 0) whole (all_rise base (seen ++ later) numbered) in
    subst (Front emitted) (sym whole) (front_by c.ending c.turns c.reading emitted base seen split.0 consistent rises)

-- ---- nothing is delayed

emitted_by_now : (end : Option Ending) (turns_known : Known) (r : Reading) (emitted : List TimedEvent) (base : End → ℕ) (seen : List Seen) → StateInvariantAs end turns_known r emitted base seen
    → AreRising 0 (places base [] seen) → (map entry_as emitted ≡ (log_of (places base [] seen)).emitted) × (is_some end ≡ is_known (places base [] seen))
emitted_by_now None turns_known r emitted base seen h rises =
    let ps = places base [] seen in
    (sym (ap (λ (l : Log). l.emitted) (log_now r ps emitted rises h.1)), sym (unknown_yet r ps emitted rises h.1))
emitted_by_now (Some e) turns_known r emitted base seen h rises =
    let ps = places base [] seen in
    ((h.0 [] (nothing_follows ps rises)).0 ∙ ap (λ (z : List Placed). (log_of z).emitted) (append-nil ps), sym h.1)

pub emitted_at_once : EmittedAtOnce
emitted_at_once c emitted base seen consistent numbered =
    let rises = all_rise base seen numbered in
    let now = emitted_by_now c.ending c.turns c.reading emitted base seen consistent rises in
    (now.0 ∙ emits_all (places base [] seen) rises, now.1)
