-- The items of a longer list of events.
use Rattle.std.proofs.Common.{◌≡◌, ◌++◌, ◌∷◌, ℕ, Bool, true, false, if◌then◌else◌, List, [], length, map, Option, None, Some, is_some, refl, sym, ap, subst, ◌∙◌, append_assoc}
use Rattle.std.proofs.lemmas.List.{append-nil, map-append}
use Rattle.capture_log.specs.BothLogs.{is_no_message}
use Rattle.capture_log.specs.declared.socket_pair.Pair.{Pair}
use Rattle.capture_tcp.specs.declared.events.TimedEvent.{TimedEvent}
use Rattle.capture_tcp.specs.EventSteps.{entry_as, reported_as}
use Rattle.capture_tcp.specs.Timestamps.{AreTimed, time_at}
use Rattle.capture_tcp.specs.ConnectionEvents.{ConnectionEvent, up, message, down}
use Rattle.capture_tcp.specs.TcpStreams.{Placed, Seen}
use Rattle.capture_events.specs.declared.event.Event.{Event}
use Rattle.capture_events.specs.declared.event.Event.TheVariants.{Logged}
use Rattle.capture_events.specs.declared.log_item.LogItem.{LogItem}
use Rattle.capture_events.specs.declared.incomplete.Shortfall.{Shortfall}
use Rattle.capture_events.specs.declared.incomplete.Shortfall.TheVariants.{Length}
use Rattle.capture_events.specs.ConnectionItems.{ConnectionItems, and_item, bare_resets, is_among, item_of_entry, logged, log_time_of}
use Rattle.capture_events.specs.LoggedEvents.{logged_by, item_of_event, log_time_by}
use Rattle.capture_events.specs.InnerLoggedEvents.{LogsBy}
use Rattle.capture_events.proofs.Lists.{none_of, some_of}

-- ---- the items continue after an event, or end there

pub record Continues (most : ℕ) (t : ConnectionEvent) (packet : ℕ) : Type 0 where
  pub with_it : (item : LogItem) (x : ConnectionItems) → and_item most t packet item x ≡ record { items = item ∷ x.items; over = x.over }
  pub timed : (bare : Bool) (time : ℕ) → log_time_of t bare time ≡ time

pub continues : (most : ℕ) (t : ConnectionEvent) (packet : ℕ) (item : LogItem) (r : ConnectionItems) → (and_item most t packet item r).over ≡ None
    → Continues most t packet × (r.over ≡ None)
continues most up packet item r e = (record { with_it = λ item x. refl; timed = λ bare time. refl }, e)
continues most (message d octets) packet item r e = by (is_no_message most (length octets)) refl e
  where
    with_if : Bool → LogItem → ConnectionItems → ConnectionItems
    with_if b item x = if b then (record { items = []; over = Some (Some (Length packet)) }) else (record x { items = item ∷ x.items })

    by : (b : Bool) → is_no_message most (length octets) ≡ b → (with_if b item r).over ≡ None → Continues most (message d octets) packet × (r.over ≡ None)
    by true is e = absurd cc
    by false is e = (record { with_it = λ item x. ap (λ (b : Bool). with_if b item x) is; timed = λ bare time. refl }, e)
continues most down packet item r e = absurd cc

pub logged_append : (most : ℕ) (bare : List ℕ) (hs ks : List TimedEvent) → (logged_by most bare hs).over ≡ None
    → logged_by most bare (hs ++ ks) ≡ record { items = (logged_by most bare hs).items ++ (logged_by most bare ks).items; over = (logged_by most bare ks).over }
unfolding logged_by
logged_append most bare [] ks e = refl
logged_append most bare (h ∷ hs) ks e =
    let c = continues most (reported_as h.event) h.packet (item_of_event bare h) (logged_by most bare hs) e in
    let rest = logged_append most bare hs ks c.1 in
    ap (λ (x : ConnectionItems). and_item most (reported_as h.event) h.packet (item_of_event bare h) x) rest
    ∙ c.0.with_it (item_of_event bare h) _
    ∙ ap (λ (z : ConnectionItems). record { items = z.items ++ (logged_by most bare ks).items; over = (logged_by most bare ks).over }) (sym (c.0.with_it (item_of_event bare h) (logged_by most bare hs)))

-- No item follows the event that ends the connection.
stops_by : (most : ℕ) (t : ConnectionEvent) (packet : ℕ) (item : LogItem) (x y : ConnectionItems) (shortfall : Option Shortfall) → (x.over ≡ Some shortfall → y ≡ x)
    → (and_item most t packet item x).over ≡ Some shortfall → and_item most t packet item y ≡ and_item most t packet item x
stops_by most up packet item x y shortfall same e = ap (λ (z : ConnectionItems). and_item most up packet item z) (same e)
stops_by most (message d octets) packet item x y shortfall same e = by (is_no_message most (length octets)) e
  where
    with_if : Bool → ConnectionItems → ConnectionItems
    with_if b z = if b then (record { items = []; over = Some (Some (Length packet)) }) else (record z { items = item ∷ z.items })

    by : (b : Bool) → (with_if b x).over ≡ Some shortfall → with_if b y ≡ with_if b x
    by true e = refl
    by false e = ap (with_if false) (same e)
stops_by most down packet item x y shortfall same e = refl

pub stops : (most : ℕ) (bare : List ℕ) (hs ks : List TimedEvent) (shortfall : Option Shortfall) → (logged_by most bare hs).over ≡ Some shortfall
    → logged_by most bare (hs ++ ks) ≡ logged_by most bare hs
unfolding logged_by
stops most bare [] ks shortfall e = absurd cc
stops most bare (h ∷ hs) ks shortfall e =
    stops_by most (reported_as h.event) h.packet (item_of_event bare h) (logged_by most bare hs) (logged_by most bare (hs ++ ks)) shortfall (stops most bare hs ks shortfall) e

-- ---- by the entries of the TCP streams

pub as_entries : (most : ℕ) (ps : List Placed) (seen : List Seen) (hs : List TimedEvent) → AreTimed (time_at ps) hs
    → logged most (item_of_entry ps seen) (map entry_as hs) ≡ logged_by most (bare_resets seen) hs
unfolding logged_by logged
as_entries most ps seen [] timed = refl
as_entries most ps seen (h ∷ hs) timed =
    rw (as_entries most ps seen hs timed.1, sym timed.0) refl

-- ---- before the connection is over, no time depends on resets

pub plain : (most : ℕ) (bare : List ℕ) (hs : List TimedEvent) → (logged_by most [] hs).over ≡ None
    → logged_by most bare hs ≡ record { items = map (item_of_event []) hs; over = None }
unfolding logged_by
plain most bare [] e = refl
plain most bare (h ∷ hs) e =
    let c = continues most (reported_as h.event) h.packet (item_of_event [] h) (logged_by most [] hs) e in
    let same : log_time_by bare h ≡ log_time_by [] h =
    c.0.timed (is_among bare h.packet) h.time ∙ sym (c.0.timed (is_among [] h.packet) h.time) in
    ap (λ (x : ConnectionItems). and_item most (reported_as h.event) h.packet (item_of_event bare h) x) (plain most bare hs c.1)
    ∙ c.0.with_it (item_of_event bare h) _
    ∙ ap (λ (time : ℕ). record { items = record (item_of_event [] h) { time = time } ∷ map (item_of_event []) hs; over = None }) same

-- ---- a loop over events

pub logs_none : (most : ℕ) (bare : List ℕ) (pair : Pair) (events : List Event) → LogsBy most bare pair [] None events events
unfolding logged_by
logs_none most bare pair events = (sym (append-nil events), refl)

pub logs_more : (most : ℕ) (bare : List ℕ) (pair : Pair) (hs ks : List TimedEvent) (over : Option (Option Shortfall)) (old mid new : List Event)
    → LogsBy most bare pair hs None old mid → LogsBy most bare pair ks over mid new → LogsBy most bare pair (hs ++ ks) over old new
logs_more most bare pair hs ks over old mid new first second =
    let on = logged_append most bare hs ks (sym first.1) in (
      second.0 ∙ ap (λ (es : List Event). es ++ map (Logged pair) (logged_by most bare ks).items) first.0
          ∙ append_assoc old (map (Logged pair) (logged_by most bare hs).items) (map (Logged pair) (logged_by most bare ks).items)
          ∙ ap (λ (es : List Event). old ++ es) (sym (map-append (Logged pair) (logged_by most bare hs).items (logged_by most bare ks).items) ∙ ap (λ (s : ConnectionItems). map (Logged pair) s.items) (sym on)),
      second.1 ∙ ap (λ (s : ConnectionItems). s.over) (sym on),
    )

pub logs_stop : (most : ℕ) (bare : List ℕ) (pair : Pair) (hs ks : List TimedEvent) (shortfall : Option Shortfall) (old new : List Event)
    → LogsBy most bare pair hs (Some shortfall) old new → LogsBy most bare pair (hs ++ ks) (Some shortfall) old new
logs_stop most bare pair hs ks shortfall old new h =
    let same = stops most bare hs ks shortfall (sym h.1) in
    subst (λ (s : ConnectionItems). (new ≡ old ++ map (Logged pair) s.items) × (Some shortfall ≡ s.over)) (sym same) h

pub logs_none_of : (most : ℕ) (bare : List ℕ) (pair : Pair) (hs : List TimedEvent) (over : Option (Option Shortfall)) (old new : List Event) → false ≡ is_some over
    → LogsBy most bare pair hs over old new → LogsBy most bare pair hs None old new
logs_none_of most bare pair hs over old new none h = subst (λ (o : Option (Option Shortfall)). LogsBy most bare pair hs o old new) (none_of over none) h

pub logs_stopped : (most : ℕ) (bare : List ℕ) (pair : Pair) (hs rest all : List TimedEvent) (h : TimedEvent) (over : Option (Option Shortfall)) (old mid new : List Event)
    → all ≡ hs ++ h ∷ rest → true ≡ is_some over → LogsBy most bare pair hs None old mid → LogsBy most bare pair (h ∷ []) over mid new
    → LogsBy most bare pair all over old new
logs_stopped most bare pair hs rest all h over old mid new is there first second =
    let shortfall = some_of over there in
    let both = logs_more most bare pair hs (h ∷ []) over old mid new first second in
    let stopped = logs_stop most bare pair (hs ++ h ∷ []) rest shortfall.0 old new (subst (λ (o : Option (Option Shortfall)). LogsBy most bare pair (hs ++ h ∷ []) o old new) shortfall.1 both) in
    subst (λ (hs : List TimedEvent). LogsBy most bare pair hs over old new) (append_assoc hs (h ∷ []) rest ∙ sym is)
    (subst (λ (o : Option (Option Shortfall)). LogsBy most bare pair ((hs ++ h ∷ []) ++ rest) o old new) (sym shortfall.1) stopped)

-- Whether the connection is over does not depend on resets.
over_same_by : (most : ℕ) (t : ConnectionEvent) (packet : ℕ) (i j : LogItem) (x y : ConnectionItems) → x.over ≡ y.over → (and_item most t packet i x).over ≡ (and_item most t packet j y).over
over_same_by most up packet i j x y e = e
over_same_by most (message d octets) packet i j x y e = by (is_no_message most (length octets))
  where
    with_if : Bool → LogItem → ConnectionItems → ConnectionItems
    with_if b i x = if b then (record { items = []; over = Some (Some (Length packet)) }) else (record x { items = i ∷ x.items })

    by : (b : Bool) → (with_if b i x).over ≡ (with_if b j y).over
    by true = refl
    by false = e
over_same_by most down packet i j x y e = refl

pub over_same : (most : ℕ) (bare : List ℕ) (hs : List TimedEvent) → (logged_by most [] hs).over ≡ (logged_by most bare hs).over
unfolding logged_by
over_same most bare [] = refl
over_same most bare (h ∷ hs) = over_same_by most (reported_as h.event) h.packet (item_of_event [] h) (item_of_event bare h) (logged_by most [] hs) (logged_by most bare hs) (over_same most bare hs)

pub logs_nothing : (most : ℕ) (bare : List ℕ) (pair : Pair) (hs : List TimedEvent) (over : Option (Option Shortfall)) (old new : List Event) → hs ≡ []
    → LogsBy most bare pair hs over old new → (new ≡ old) × (over ≡ None)
unfolding logged_by
logs_nothing most bare pair hs over old new none h =
    let x = subst (λ (gs : List TimedEvent). LogsBy most bare pair gs over old new) none h in
    (x.0 ∙ append-nil old, x.1)
