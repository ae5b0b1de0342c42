-- The times of events, whatever follows.
use Rattle.std.proofs.Common.{◌≡◌, ◌<◌, ◌≤◌, ◌++◌, ◌∷◌, ℕ, false, max, List, [], Option, Some, None, is_some, refl, sym, ap, subst, ◌∙◌, arith}
use Rattle.std.proofs.lemmas.Bool.{le-leb, lt-leb}
use Rattle.std.proofs.lemmas.List.{append-nil, append_assoc}
use Rattle.capture_tcp.specs.declared.connection.Connection.{Connection}
use Rattle.capture_tcp.specs.declared.ending.Ending.{Ending}
use Rattle.capture_tcp.specs.declared.packet.Packet.{Packet}
use Rattle.capture_tcp.specs.declared.packet.Segment.{Segment}
use Rattle.capture_tcp.specs.declared.reader_state.Reading.{Reading}
use Rattle.capture_tcp.specs.declared.streams.Due.{Due}
use Rattle.capture_tcp.specs.declared.events.TimedEvent.{TimedEvent}
use Rattle.capture_tcp.specs.TcpStreams.{End, Placed, Seen, ack_place, end_of, latest, other, place_of, places, confirmed, timed}
use Rattle.capture_tcp.specs.KnownStreams.{ContinuesWith, Known, packet_of, placed_after, seen_of}
use Rattle.capture_tcp.specs.Laws.{AreNumbered}
use Rattle.capture_tcp.specs.ReaderState.{AreRising}
use Rattle.capture_tcp.specs.ReaderInvariant.{StateInvariantAs}
use Rattle.capture_tcp.specs.Timestamps.{AreDueTimed, AreTimed, EndsInTime, IsInTime, IsInTimeOf, TakesInTime, time_at}
use Rattle.capture_tcp.specs.InnerTimestamps.{FollowsInTime, ReactsInTime, EmitsInTime}
use Rattle.capture_tcp.proofs.Connecting.{all_rise, placed_one}
use Rattle.capture_tcp.proofs.StreamPrefixes.{places_begin, places_more}
use Rattle.capture_tcp.proofs.EmitterSteps.{one_more}
use Rattle.capture_tcp.proofs.SettledEvents.{nothing_follows}

-- ---- the time of a packet stays, whatever follows

greater : (n : ℕ) (ps : List Placed) (p : Placed) (later : List Placed) → AreRising n (ps ++ p ∷ later) → n < p.packet
greater n [] p later h = h.0
greater n (q ∷ ps) p later h = let a = h.0 in let b = greater q.packet ps p later h.1 in omega (arith, a, b)

none_later : (m n : ℕ) (ps : List Placed) → n ≤ m → AreRising m ps → time_at ps n ≡ 0
unfolding time_at
none_later m n [] le h = refl
none_later m n (p ∷ ps) le h = let lt = h.0 in rw (lt-leb p.packet n (omega (arith, lt, le))) (none_later p.packet n ps (omega (arith, lt, le)) h.1)

time_is : (n : ℕ) (ps : List Placed) (p : Placed) (later : List Placed) → AreRising n (ps ++ p ∷ later) → latest ps ≤ p.time → time_at (ps ++ p ∷ later) p.packet ≡ p.time
unfolding time_at
time_is n [] p later h low = rw (le-leb p.packet p.packet (omega arith), none_later p.packet p.packet later (omega arith) h.1) (omega arith)
time_is n (q ∷ ps) p later h low =
    let lt = greater q.packet ps p later h.1 in
    let rest = time_is q.packet ps p later h.1 (omega (arith, low)) in
    rw (le-leb q.packet p.packet (omega (arith, lt)), rest) (omega (arith, low))

abbrev TimedBy : Reading → List TimedEvent → List Placed → Type 0
TimedBy r emitted all = AreDueTimed (time_at all) r.due.items × AreTimed (time_at all) emitted

in_time_more : (r : Reading) (emitted : List TimedEvent) (ps qs : List Placed) → IsInTimeOf r emitted ps → IsInTimeOf r emitted (ps ++ qs)
in_time_more r emitted ps qs h later rises =
    let whole : (ps ++ qs) ++ later ≡ ps ++ (qs ++ later) = append_assoc ps qs later in
    subst (TimedBy r emitted) (sym whole) (h (qs ++ later) (subst (AreRising 0) whole rises))

pub timed_both : (time : ℕ → ℕ) (xs ys : List TimedEvent) → AreTimed time xs → AreTimed time ys → AreTimed time (xs ++ ys)
timed_both time [] ys f g = g
timed_both time (x ∷ xs) ys f g = (f.0, timed_both time xs ys f.1 g)

pub timed_front : (time : ℕ → ℕ) (xs ys : List TimedEvent) → AreTimed time (xs ++ ys) → AreTimed time xs
timed_front time [] ys h = tt
timed_front time (x ∷ xs) ys h = (h.0, timed_front time xs ys h.1)

pub timed_back : (time : ℕ → ℕ) (xs ys : List TimedEvent) → AreTimed time (xs ++ ys) → AreTimed time ys
timed_back time [] ys h = h
timed_back time (x ∷ xs) ys h = timed_back time xs ys h.1

in_time_next : (r next : Reading) (away emitted later : List TimedEvent) (ps : List Placed) (p : Placed) → latest ps ≤ p.time → IsInTimeOf r (away ++ emitted) ps
    → ReactsInTime (packet_of p) r emitted next later → IsInTimeOf next (away ++ later) (ps ++ p ∷ [])
in_time_next r next away emitted later ps p low h reacts more rises =
    let whole : (ps ++ p ∷ []) ++ more ≡ ps ++ p ∷ more = append_assoc ps (p ∷ []) more in
    let all : AreRising 0 (ps ++ p ∷ more) = subst (AreRising 0) whole rises in
    let time = time_at (ps ++ p ∷ more) in
    let g = h (p ∷ more) all in
    let now = reacts time (time_is 0 ps p more all low) g.0 (timed_back time away emitted g.1) in
    subst (TimedBy next (away ++ later)) (sym whole) (now.0, timed_both time away later (timed_front time away emitted g.1) now.1)

-- What was emitted has the time of its packet, whichever segments follow.
pub timed_later : (c : Connection) (emitted : List TimedEvent) (base : End → ℕ) (seen later : List Seen) → AreNumbered 0 (seen ++ later) → IsInTime c emitted base seen
    → AreTimed (time_at (places base [] (seen ++ later))) emitted
timed_later c emitted base seen later numbered timed =
    let ps = places base [] seen in
    let split = places_begin base ps later in
    let whole : places base [] (seen ++ later) ≡ ps ++ split.0 = places_more base [] seen later ∙ split.1 in
    subst (λ (z : List Placed). AreTimed (time_at z) emitted) (sym whole) (timed split.0 (subst (AreRising 0) whole (all_rise base (seen ++ later) numbered))).1

-- ---- one more segment

stays_by : (r : Reading) (emitted : List TimedEvent) (base : End → ℕ) (before : List Seen) (s : Seen) → IsInTimeOf r emitted (places base [] before)
    → IsInTimeOf r emitted (places base [] (before ++ s ∷ []))
stays_by r emitted base before s h =
    let ps = places base [] before in
    subst (IsInTimeOf r emitted) (sym (one_more base before s)) (in_time_more r emitted ps (placed_after base ps s) h)

pub followed_in_none : (turns : Known) (r : Reading) (segment : Segment) (octets : List ℕ) (emitted : List TimedEvent) → FollowsInTime turns r segment octets emitted r emitted
followed_in_none turns r segment octets emitted base before away consistent h = stays_by r (away ++ emitted) base before (seen_of segment octets) h

pub followed_in_some : (old new : Known) (r next : Reading) (segment : Segment) (octets : List ℕ) (emitted later : List TimedEvent) (freed : List Packet) (packet : Packet)
    → ContinuesWith old [] (seen_of segment octets) new freed (Some packet) → ReactsInTime packet r emitted next later → FollowsInTime old r segment octets emitted next later
followed_in_some old new r next segment octets emitted later freed packet proceeds reacts base before away consistent h =
    let s = seen_of segment octets in
    let ps = places base [] before in
    let g = proceeds base before consistent.0 in
    let one = placed_one (end_of ps s.from) (confirmed ps s.from) (timed ps s) (place_of (end_of ps s.from) (base s.from) s.number) (ack_place ps base (other s.from) s.acknowledged) packet g.2 in
    let time : one.0.time ≡ max (latest ps) s.time = one.5 in
    let now : places base [] (before ++ s ∷ []) ≡ ps ++ one.0 ∷ [] = one_more base before s ∙ ap (λ (z : List Placed). ps ++ z) one.1 in
    subst (IsInTimeOf next (away ++ later)) (sym now)
    (in_time_next r next away emitted later ps one.0 (omega (arith, time)) h (subst (λ (q : Packet). ReactsInTime q r emitted next later) one.2 reacts))

pub stays_in_time : (c : Connection) (s : Seen) (emitted : List TimedEvent) → TakesInTime c s emitted c emitted
stays_in_time c s emitted base before away consistent h = stays_by c.reading (away ++ emitted) base before s h

not_ended : (o : Option Ending) → is_some o ≡ false → o ≡ None
not_ended None e = refl
not_ended (Some x) e = absurd cc

pub continues_in_time : (c next : Connection) (segment : Segment) (octets : List ℕ) (emitted later : List TimedEvent) → is_some c.ending ≡ false
    → FollowsInTime c.turns c.reading segment octets emitted next.reading later → TakesInTime c (seen_of segment octets) emitted next later
continues_in_time c next segment octets emitted later e followed base before away consistent h =
    followed base before away (subst (λ (o : Option Ending). StateInvariantAs o c.turns c.reading (away ++ emitted) base before) (not_ended c.ending e) consistent) h

-- ---- the start and the end

pub begins_in_time : (r : Reading) (base : End → ℕ) → r.due.items ≡ [] → IsInTimeOf r [] (places base [] [])
unfolding places
begins_in_time r base none later rises = (subst (AreDueTimed (time_at later)) (sym none) tt, tt)

in_time_now : (r : Reading) (emitted : List TimedEvent) (base : End → ℕ) (seen : List Seen) → AreNumbered 0 seen → IsInTimeOf r emitted (places base [] seen) → TimedBy r emitted (places base [] seen)
in_time_now r emitted base seen numbered h =
    let ps = places base [] seen in
    subst (TimedBy r emitted) (append-nil ps) (h [] (nothing_follows ps (all_rise base seen numbered)))

pub ends_in_time : (c : Connection) (emitted : List TimedEvent) → EndsInTime c emitted emitted
ends_in_time c emitted base seen away numbered h = (in_time_now c.reading (away ++ emitted) base seen numbered h).1

pub ends_later : (c : Connection) (emitted later : List TimedEvent) (left : List Due) → EmitsInTime c.reading.due.items emitted left later → EndsInTime c emitted later
ends_later c emitted later left emits base seen away numbered h =
    let time = time_at (places base [] seen) in
    let now = in_time_now c.reading (away ++ emitted) base seen numbered h in
    timed_both time away later (timed_front time away emitted now.1) (emits time now.0 (timed_back time away emitted now.1)).1
