-- The state of a connection, with one segment more, and at its end.
use Rattle.std.proofs.Common.{◌≡◌, ◌<◌, ◌≤◌, ◌+◌, ◌%◌, ◌^◌, ◌&&◌, ◌++◌, ◌∷◌, ℕ, Bool, true, false, nat_lt, if◌then◌else◌, List, [], length, drop, map, Option, None, Some, is_some, Vec, Global, refl, sym, ap, subst, ◌∙◌, arith}
use Rattle.std.specs.Prelude.{Result, Ok, Err, OnOk}
use Rattle.std.proofs.lemmas.Bool.Decides.{nat_tests}
use Rattle.std.proofs.lemmas.Grind.{common_steps}
use Rattle.std.proofs.lemmas.List.{append-nil, map-append}
use Rattle.capture_log.specs.declared.socket_pair.Pair.{Pair}
use Rattle.capture_tcp.specs.declared.packet.Segment.{Segment}
use Rattle.capture_tcp.specs.declared.packet.Side.{Side}
use Rattle.capture_tcp.specs.declared.packet.Side.TheVariants as side
use Rattle.capture_tcp.specs.KnownStreams.{bases, end_at, seen_of}
use Rattle.capture_tcp.specs.Laws.{AreNumbered}
use Rattle.capture_tcp.specs.Message.{cells_of}
use Rattle.capture_tcp.specs.TcpStreams.{Seen, passive, same_end}
use Rattle.capture_events.specs.declared.event.Event.{Event}
use Rattle.capture_events.specs.declared.event.Event.TheVariants.{Logged}
use Rattle.capture_events.specs.declared.waiting.Waiting.{Waiting}
use Rattle.capture_events.specs.declared.incomplete.Shortfall.{Shortfall}
use Rattle.capture_events.specs.declared.tracked_connection.TrackedConnection.{TrackedConnection}
use Rattle.capture_events.specs.declared.connection_state.ConnectionState.{ConnectionState}
use Rattle.capture_events.specs.declared.connection_state.ConnectionState.TheVariants as state
use Rattle.capture_events.specs.ConnectionItems.{ConnectionItems, answered_by, begins_with_syn, ends, follow, is_answer, is_number, is_over, is_there, shortfall_by, lost_by, new_events, end_event, connection_items, items_by}
use Rattle.capture_events.specs.TrackedConnection.{IsTracked}
use Rattle.capture_events.specs.InnerTrackedConnection.{EndsTracked, Grows, TrackedAs, TakesAll, TakesTracked}
use Rattle.capture_events.specs.ConnectionState.{EndsConnection, StateIs, TakesPacket, is_idle, seen_with}
use Rattle.capture_events.specs.InnerConnectionState.{answers, is_passive, state_by}
use Rattle.capture_events.specs.LoggedEvents.{seen_waiting}
use Rattle.capture_events.proofs.NextSegment.{new_events_of, nothing_emitted, runs_on}
use Rattle.capture_tcp.proofs.LastingFacts.{numbered_front}

-- ---- the passive end's SYN

pub answered_more : (number other : ℕ) (seen more : List Seen) → answered_by number seen ≡ Some other → answered_by number (seen ++ more) ≡ Some other
answered_more number other [] more e = absurd cc
answered_more number other (s ∷ seen) more e = by (is_answer number s) e (answered_more number other seen more)
  where
    by : (b : Bool) → (if b then Some s.number else answered_by number seen) ≡ Some other → (answered_by number seen ≡ Some other → answered_by number (seen ++ more) ≡ Some other)
        → (if b then Some s.number else answered_by number (seen ++ more)) ≡ Some other
    by true e rest = e
    by false e rest = rest e

pub answered_next : (number : ℕ) (seen : List Seen) (s : Seen) → answered_by number seen ≡ None
    → answered_by number (seen ++ s ∷ []) ≡ (if is_answer number s then Some s.number else None)
answered_next number [] s e = refl
answered_next number (x ∷ seen) s e = by (is_answer number x) e (answered_next number seen s)
  where
    by : (b : Bool) → (if b then Some x.number else answered_by number seen) ≡ None
        → (answered_by number seen ≡ None → answered_by number (seen ++ s ∷ []) ≡ (if is_answer number s then Some s.number else None))
        → (if b then Some x.number else answered_by number (seen ++ s ∷ [])) ≡ (if is_answer number s then Some s.number else None)
    by true e rest = absurd cc
    by false e rest = rest e

no_syn : (octets : List ℕ) (fins : Bool) → begins_with_syn (cells_of false octets fins) ≡ false
no_syn [] true = refl
no_syn [] false = refl
no_syn (n ∷ ns) fins = refl

pub answers_is : (number : ℕ) (s : Segment) (octets : List ℕ) → answers number s ≡ is_answer number (seen_of s octets)
answers_is number s octets = by s.from s.flags.syn
  where
    by : (d : Side) (syns : Bool) → (is_passive d && (syns && is_number s.acknowledged ((number + 1) % 2 ^ 32)))
        ≡ (same_end (end_at d) passive && (begins_with_syn (cells_of syns octets s.flags.fin) && is_number s.acknowledged ((number + 1) % 2 ^ 32)))
    by side.Active syns = refl
    by side.Passive true = refl
    by side.Passive false = rw (no_syn octets s.flags.fin) refl

-- ---- one segment more

pub items_tracked : (most number other : ℕ) (seen : List Seen) → answered_by number seen ≡ Some other → connection_items most number seen ≡ follow most (bases number other) [] seen
items_tracked most number other seen e = ap (λ (o : Option ℕ). items_by o most number seen) e

state_tracked : (most number other : ℕ) (seen : List Seen) (left : Option TrackedConnection) → answered_by number seen ≡ Some other → TrackedAs most (bases number other) seen left
    → StateIs most number seen (state_by left)
state_tracked most number other seen None e tracked_as = ap is_over (items_tracked most number other seen e) ∙ tracked_as
state_tracked most number other seen (Some o) e tracked_as = (other, e, tracked_as)

with_next : (most number : ℕ) (pair : Pair) (seen : List Seen) (s : Seen) (next : ConnectionState) (before after : List Event) → is_over (connection_items most number seen) ≡ false
    → StateIs most number (seen ++ s ∷ []) next → after ≡ before ++ new_events pair (connection_items most number seen) (connection_items most number (seen ++ s ∷ []))
    → StateIs most number (seen_with most number seen s) next
    × (after ≡ before ++ new_events pair (connection_items most number seen) (connection_items most number (seen_with most number seen s)))
with_next most number pair seen s next before after proceeds is emits =
    subst (λ (z : List Seen). StateIs most number z next × (after ≡ before ++ new_events pair (connection_items most number seen) (connection_items most number z)))
    (sym (ap (λ (b : Bool). if b then seen else seen ++ s ∷ []) proceeds)) (is, emits)

pub state_follows : (most number : ℕ) (pair : Pair) (s : Seen) (o : TrackedConnection) (left : Option TrackedConnection) (before after : List Event) → TakesTracked most pair s o left before after
    → TakesPacket most pair number s (state.Tracked o) (state_by left) before after
unfolding TakesTracked TakesPacket
state_follows most number pair s o left before after takes = λ seen numbered is.
    let on = takes (bases number is.0) seen numbered is.2 in
    let proceeds = runs_on most (bases number is.0) seen o (numbered_front 0 seen (s ∷ []) numbered) is.2 in
    let first = items_tracked most number is.0 seen is.1 in
    let later = answered_more number is.0 seen (s ∷ []) is.1 in
    let second = items_tracked most number is.0 (seen ++ s ∷ []) later in
    with_next most number pair seen s (state_by left) before after (ap is_over first ∙ ap is_some proceeds)
    (state_tracked most number is.0 (seen ++ s ∷ []) left later on.0)
    (new_events_of pair _ _ before after proceeds on.1 ∙ ap (λ (x : ConnectionItems). before ++ new_events pair x (follow most (bases number is.0) [] (seen ++ s ∷ []))) (sym first)
    ∙ ap (λ (x : ConnectionItems). before ++ new_events pair (connection_items most number seen) x) (sym second))

pub state_over : (most number : ℕ) (pair : Pair) (s : Seen) (events : List Event) → TakesPacket most pair number s state.Over state.Over events events
unfolding TakesPacket
state_over most number pair s events = λ seen numbered over.
    subst (λ (z : List Seen). (is_over (connection_items most number z) ≡ true) × (events ≡ events ++ new_events pair (connection_items most number seen) (connection_items most number z)))
    (sym (ap (λ (b : Bool). if b then seen else seen ++ s ∷ []) over))
    (over, sym (append-nil events) ∙ ap (λ (b : Bool). events ++ (if b then [] else new_events_else most number pair seen)) (sym over))
  where
    new_events_else : ℕ → ℕ → Pair → List Seen → List Event
    new_events_else most number pair seen =
        map (Logged pair) (drop (length (connection_items most number seen).items) (connection_items most number seen).items) ++ end_event pair (is_there (connection_items most number seen).items) (connection_items most number seen).over

-- ---- a packet waits

waits_is : (most number : ℕ) (seen : List Seen) → answered_by number seen ≡ None
    → connection_items most number seen ≡ record { items = []; over = if nat_lt 4096 (length seen) then Some (lost_by seen) else None }
waits_is most number seen e = ap (λ (o : Option ℕ). items_by o most number seen) e

few : (n : ℕ) → n ≤ 4096 → nat_lt 4096 n ≡ false
few n less = grind (arith, nat_tests)

many : (n : ℕ) → 4096 < n → nat_lt 4096 n ≡ true
many n less = grind (arith, nat_tests)

waiting_is : (most number : ℕ) (seen : List Seen) → answered_by number seen ≡ None → length seen ≤ 4096
    → connection_items most number seen ≡ record { items = []; over = None }
waiting_is most number seen e less =
    waits_is most number seen e ∙ ap (λ (b : Bool). record { items = []; over = if b then Some (lost_by seen) else None }) (few (length seen) less)

too_many_is : (most number : ℕ) (seen : List Seen) → answered_by number seen ≡ None → 4096 < length seen
    → connection_items most number seen ≡ record { items = []; over = Some (lost_by seen) }
too_many_is most number seen e less =
    waits_is most number seen e ∙ ap (λ (b : Bool). record { items = []; over = if b then Some (lost_by seen) else None }) (many (length seen) less)

-- A connection that waits has no items.
new_events_from : (pair : Pair) (x y : ConnectionItems) (l : Option (Option Shortfall)) → x ≡ record { items = []; over = None } → y ≡ record { items = []; over = l }
    → new_events pair x y ≡ end_event pair false l
new_events_from pair x y l e f = rw (e, f) refl

pub pushed_is : (waiting pushed : List Waiting) (w : Waiting) (was octets : List ℕ) → pushed ≡ waiting ++ w ∷ [] → w.octets.items ≡ was ++ octets → was ≡ []
    → map seen_waiting pushed ≡ map seen_waiting waiting ++ seen_of w.segment octets ∷ []
pushed_is waiting pushed w was octets is held none =
    ap (map seen_waiting) is ∙ map-append seen_waiting waiting (w ∷ [])
    ∙ ap (λ (ns : List ℕ). map seen_waiting waiting ++ seen_of w.segment ns ∷ []) (held ∙ ap (λ (ns : List ℕ). ns ++ octets) none)

map_length : {A B : Type 0} (f : A → B) (xs : List A) → length (map f xs) ≡ length xs
map_length f xs = grind (arith, common_steps)

next_unanswered : (number : ℕ) (seen : List Seen) (s : Segment) (octets : List ℕ) → answered_by number seen ≡ None → answers number s ≡ false
    → answered_by number (seen ++ seen_of s octets ∷ []) ≡ None
next_unanswered number seen s octets none not_it =
    answered_next number seen (seen_of s octets) none
    ∙ ap (λ (b : Bool). if b then Some s.number else None) (sym (answers_is number s octets) ∙ not_it)

pub waits_on : (most number : ℕ) (pair : Pair) (s : Segment) (octets : List ℕ) (waiting pushed : Vec Waiting Global) (events : List Event)
    → map seen_waiting pushed.items ≡ map seen_waiting waiting.items ++ seen_of s octets ∷ [] → answers number s ≡ false → length pushed.items ≤ 4096
    → TakesPacket most pair number (seen_of s octets) (state.Opening waiting) (state.Opening pushed) events events
unfolding TakesPacket
waits_on most number pair s octets waiting pushed events is not_it less = λ seen numbered old.
    let one = seen_of s octets in
    let here : map seen_waiting pushed.items ≡ seen ++ one ∷ [] = is ∙ ap (λ (ss : List Seen). ss ++ one ∷ []) old.0 in
    let fits : length (seen ++ one ∷ []) ≤ 4096 = subst (λ (n : ℕ). n ≤ 4096) (sym (map_length seen_waiting pushed.items) ∙ ap length here) less in
    let first = waiting_is most number seen old.1 old.2 in
    let later = next_unanswered number seen s octets old.1 not_it in
    let second = waiting_is most number (seen ++ one ∷ []) later fits in
    with_next most number pair seen one (state.Opening pushed) events events (ap is_over first) (here, later, fits)
    (sym (append-nil events) ∙ ap (λ (es : List Event). events ++ es) (sym (new_events_from pair _ _ None first second)))

pub waits_out : (most number : ℕ) (pair : Pair) (s : Segment) (octets : List ℕ) (waiting pushed : Vec Waiting Global) (old new : List Event)
    → map seen_waiting pushed.items ≡ map seen_waiting waiting.items ++ seen_of s octets ∷ [] → answers number s ≡ false → 4096 < length pushed.items
    → new ≡ old ++ end_event pair false (Some (lost_by (map seen_waiting pushed.items)))
    → TakesPacket most pair number (seen_of s octets) (state.Opening waiting) state.Over old new
unfolding TakesPacket
waits_out most number pair s octets waiting pushed old new is not_it less emits = λ seen numbered was.
    let one = seen_of s octets in
    let here : map seen_waiting pushed.items ≡ seen ++ one ∷ [] = is ∙ ap (λ (ss : List Seen). ss ++ one ∷ []) was.0 in
    let past : 4096 < length (seen ++ one ∷ []) = subst (λ (n : ℕ). 4096 < n) (sym (map_length seen_waiting pushed.items) ∙ ap length here) less in
    let first = waiting_is most number seen was.1 was.2 in
    let later = next_unanswered number seen s octets was.1 not_it in
    let second = too_many_is most number (seen ++ one ∷ []) later past in
    with_next most number pair seen one state.Over old new (ap is_over first) (ap is_over second)
    (emits ∙ ap (λ (ss : List Seen). old ++ end_event pair false (Some (lost_by ss))) here
    ∙ ap (λ (es : List Event). old ++ es) (sym (new_events_from pair _ _ (Some (lost_by (seen ++ one ∷ []))) first second)))

pub waits_answered : (most number : ℕ) (pair : Pair) (s : Segment) (octets : List ℕ) (waiting pushed : Vec Waiting Global) (o : TrackedConnection) (left : Option TrackedConnection) (old new : List Event)
    → map seen_waiting pushed.items ≡ map seen_waiting waiting.items ++ seen_of s octets ∷ [] → answers number s ≡ true
    → IsTracked most (bases number s.number) [] o → TakesAll most pair (map seen_waiting pushed.items) o left old new
    → TakesPacket most pair number (seen_of s octets) (state.Opening waiting) (state_by left) old new
unfolding TakesPacket TakesAll
waits_answered most number pair s octets waiting pushed o left old new is it opens takes = λ seen numbered was.
    let one = seen_of s octets in
    let base = bases number s.number in
    let here : map seen_waiting pushed.items ≡ seen ++ one ∷ [] = is ∙ ap (λ (ss : List Seen). ss ++ one ∷ []) was.0 in
    let first = waiting_is most number seen was.1 was.2 in
    let later : answered_by number (seen ++ one ∷ []) ≡ Some s.number =
    answered_next number seen one was.1 ∙ ap (λ (b : Bool). if b then Some s.number else None) (sym (answers_is number s octets) ∙ it) in
    let second = items_tracked most number s.number (seen ++ one ∷ []) later in
    let on = subst (λ (ss : List Seen). TrackedAs most base ss left × Grows pair (follow most base [] []) (follow most base [] ss) old new) here
    (takes base [] (subst (AreNumbered 0) (sym here) numbered) opens) in
    let blank : follow most base [] [] ≡ record { items = []; over = None } = opens.runs ∙ nothing_emitted most base o opens in
    with_next most number pair seen one (state_by left) old new (ap is_over first) (state_tracked most number s.number (seen ++ one ∷ []) left later on.0)
    (new_events_of pair _ _ old new (ap (λ (x : ConnectionItems). x.over) blank) on.1 ∙ ap (λ (x : ConnectionItems). old ++ new_events pair x (follow most base [] (seen ++ one ∷ []))) (blank ∙ sym first)
    ∙ ap (λ (x : ConnectionItems). old ++ new_events pair (connection_items most number seen) x) (sym second))

-- ---- no segment follows

pub end_over : (most number : ℕ) (pair : Pair) (replaced : Bool) (missing : Option Shortfall) (events : List Event)
    → EndsConnection most pair number replaced missing state.Over events events
unfolding EndsConnection
end_over most number pair replaced missing events = λ seen numbered over.
    sym (append-nil events) ∙ ap (λ (b : Bool). events ++ (if b then [] else new_events_else most number pair seen (ends (connection_items most number seen) (shortfall_by (answered_by number seen) number seen missing) replaced))) (sym over)
  where
    new_events_else : ℕ → ℕ → Pair → List Seen → ConnectionItems → List Event
    new_events_else most number pair seen x = map (Logged pair) (drop (length (connection_items most number seen).items) x.items) ++ end_event pair (is_there x.items) x.over

pub end_tracked : {E : Type 0} (result : Result (Unit {0}) E) (pair : Pair) (replaced : Bool) (missing : Option Shortfall) (o : TrackedConnection) (st : ConnectionState) (old new : List Event)
    → st ≡ state.Tracked o → OnOk result ((most : ℕ) → EndsTracked most pair replaced missing o old new)
    → OnOk result ((most number : ℕ) → EndsConnection most pair number replaced missing st old new)
unfolding EndsConnection EndsTracked
end_tracked (Ok done) pair replaced missing o st old new is ends_it = λ most number seen numbered consistent.
    let at = subst (StateIs most number seen) is consistent in
    let first = items_tracked most number at.0 seen at.1 in
    subst (λ (x : ConnectionItems). new ≡ old ++ new_events pair x (ends x (shortfall_by (answered_by number seen) number seen missing) replaced)) (sym first)
    (subst (λ (a : Option ℕ). new ≡ old ++ new_events pair (follow most (bases number at.0) [] seen) (ends (follow most (bases number at.0) [] seen) (shortfall_by a number seen missing) replaced)) (sym at.1)
    (ends_it most (bases number at.0) seen numbered at.2))
end_tracked (Err stop) pair replaced missing o st old new is ends_it = tt

pub end_waiting : {E : Type 0} (result : Result (Unit {0}) E) (pair : Pair) (replaced : Bool) (missing : Option Shortfall) (waiting : Vec Waiting Global) (st : ConnectionState) (shortfall : Option Shortfall)
    → (old new : List Event) → st ≡ state.Opening waiting → shortfall ≡ lost_by (map seen_waiting waiting.items) → OnOk result (new ≡ old ++ end_event pair false (Some shortfall))
    → OnOk result ((most number : ℕ) → EndsConnection most pair number replaced missing st old new)
unfolding EndsConnection
end_waiting (Ok done) pair replaced missing waiting st shortfall old new is shortfall_is emits = λ most number seen numbered consistent.
    let at = subst (StateIs most number seen) is consistent in
    let first = waiting_is most number seen at.1 at.2 in
    emits ∙ ap (λ (l : Option Shortfall). old ++ end_event pair false (Some l)) (shortfall_is ∙ ap lost_by at.0)
    ∙ ap (λ (es : List Event). old ++ es) (sym (new_events_from pair _ _ (Some (lost_by seen)) first
    (ap (λ (a : Option ℕ). ends (connection_items most number seen) (shortfall_by a number seen missing) replaced) at.1 ∙ ap (λ (x : ConnectionItems). ends x (lost_by seen) replaced) first ∙ nothing_more replaced (lost_by seen))))
  where
    nothing_more : (replaced : Bool) (shortfall : Option Shortfall) → ends (record { items = []; over = None }) shortfall replaced ≡ record { items = []; over = Some shortfall }
    nothing_more true None = refl
    nothing_more true (Some l) = refl
    nothing_more false None = refl
    nothing_more false (Some l) = refl
end_waiting (Err stop) pair replaced missing waiting st shortfall old new is shortfall_is emits = tt

-- ---- is over, is idle

pub tracked_proceeds : (most number : ℕ) (seen : List Seen) (st : ConnectionState) (o : TrackedConnection) → st ≡ state.Tracked o → AreNumbered 0 seen → StateIs most number seen st
    → is_over (connection_items most number seen) ≡ false
tracked_proceeds most number seen st o is numbered consistent =
    let at = subst (StateIs most number seen) is consistent in
    ap is_over (items_tracked most number at.0 seen at.1) ∙ ap is_some (runs_on most (bases number at.0) seen o numbered at.2)

pub tracked_not_idle : (most number : ℕ) (seen : List Seen) (st : ConnectionState) (o : TrackedConnection) → st ≡ state.Tracked o → AreNumbered 0 seen → StateIs most number seen st
    → is_idle most number seen ≡ false
tracked_not_idle most number seen st o is numbered consistent =
    let at = subst (StateIs most number seen) is consistent in
    rw (tracked_proceeds most number seen st o is numbered consistent, at.1) refl
