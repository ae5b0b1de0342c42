-- The items of a tracked connection, with one segment more.
use Rattle.std.proofs.Common.{◌≡◌, ◌⊎◌, ◌<◌, ◌≤◌, ◌^◌, ◌+◌, ◌||◌, ◌&&◌, ◌++◌, ◌∷◌, ℕ, Bool, true, false, max, nat_lt, nat_le, if◌then◌else◌, List, [], length, drop, map, Option, None, Some, is_some, Vec, Global, inl, inr, refl, sym, ap, subst, ◌∙◌, append_assoc, arith}
use Rattle.std.specs.Prelude.{Result, Ok, Err, IfOk, OnOk, is_none}
use Rattle.std.proofs.lemmas.Bool.Decides.{nat_tests}
use Rattle.std.proofs.lemmas.Grind.{common_steps, flat_map-append}
use Rattle.std.proofs.lemmas.List.{append-nil, map-append}
use Rattle.capture_log.specs.declared.socket_pair.Pair.{Pair}
use Rattle.capture_tcp.specs.declared.connection.Connection.{Connection}
use Rattle.capture_tcp.specs.declared.ending.Ending.{Ending}
use Rattle.capture_tcp.specs.declared.events.TimedEvent.{TimedEvent}
use Rattle.capture_tcp.specs.EndOfStream.{ended, is_known}
use Rattle.capture_tcp.specs.Laws.{AreNumbered}
use Rattle.capture_tcp.specs.ReaderInvariant.{EndsAs, StateInvariant, TakesOn}
use Rattle.capture_tcp.specs.Limits.{EndsPast, ContinuesBy, IsFar, IsPast}
use Rattle.capture_tcp.specs.EventSteps.{entry_as}
use Rattle.capture_tcp.specs.Timestamps.{AreTimed, IsInTime, TakesInTime, time_at}
use Rattle.capture_tcp.specs.ConnectionEvents.{Entry, emits}
use Rattle.capture_tcp.specs.ReaderState.{first_kept}
use Rattle.capture_tcp.specs.KnownStreams.{placed_after}
use Rattle.capture_tcp.specs.TcpStreams.{End, active, passive, Placed, Seen, end_of, places}
use Rattle.capture_tcp.specs.TcpStreams as wire
use Rattle.capture_tcp.proofs.MonotonicTimes.{timed_later}
use Rattle.capture_tcp.proofs.Connecting.{emitted_at_once}
use Rattle.capture_tcp.proofs.LastingFacts.{ending_sure, numbered_front}
use Rattle.capture_events.specs.declared.event.Event.{Event}
use Rattle.capture_events.specs.declared.event.Event.TheVariants.{Logged}
use Rattle.capture_events.specs.declared.log_item.LogItem.{LogItem}
use Rattle.capture_events.specs.declared.incomplete.Shortfall.{Shortfall}
use Rattle.capture_events.specs.declared.incomplete.Shortfall.TheVariants.{Full}
use Rattle.capture_events.specs.declared.tracked_connection.Followed.{Followed}
use Rattle.capture_events.specs.declared.tracked_connection.Followed.TheVariants as followed
use Rattle.capture_events.specs.declared.waiting.Waiting.{Waiting}
use Rattle.capture_events.specs.declared.tracked_connection.TrackedConnection.{TrackedConnection}
use Rattle.capture_events.specs.ConnectionItems.{ConnectionItems, bare_if, bare_resets, down_if, ending_if, ending_with, ends, ends_by, follow, is_over, is_past, is_there, is_too_much, item_of_entry, shortfall_of, logged, new_events, end_event, emitted_items}
use Rattle.capture_events.specs.LoggedEvents.{logged_by, item_of_event, seen_waiting}
use Rattle.capture_events.specs.InnerLoggedEvents.{LogsBy}
use Rattle.capture_events.specs.TrackedConnection.{IsTracked}
use Rattle.capture_events.specs.InnerTrackedConnection.{EndsTracked, TakesAll, Grows, TrackedAs, TakesTracked, FollowsSegment, left_by, over_by}
use Rattle.capture_events.proofs.LoggedMore.{as_entries, logged_append, logs_nothing, over_same, plain}
use Rattle.capture_events.proofs.Lists.{there_by}

-- ---- the items of the segments so far

timed_now : (c : Connection) (hs : List TimedEvent) (base : End → ℕ) (seen : List Seen) → AreNumbered 0 seen → IsInTime c hs base seen
    → AreTimed (time_at (places base [] seen)) hs
timed_now c hs base seen numbered timed =
    subst (λ (z : List Seen). AreTimed (time_at (places base [] z)) hs) (append-nil seen)
    (timed_later c hs base seen [] (subst (AreNumbered 0) (sym (append-nil seen)) numbered) timed)

pub emitted_is : (most : ℕ) (c : Connection) (hs : List TimedEvent) (base : End → ℕ) (seen : List Seen) → AreNumbered 0 seen → StateInvariant c hs base seen → IsInTime c hs base seen
    → emitted_items most base seen ≡ ending_if (is_some c.ending) (shortfall_of (ended (places base [] seen)) None) (logged_by most (bare_resets seen) hs)
emitted_is most c hs base seen numbered consistent timed =
    let ps = places base [] seen in
    let now = emitted_at_once c hs base seen consistent numbered in
    ap (λ (es : List Entry). ending_if (is_known ps) (shortfall_of (ended ps) None) (logged most (item_of_entry ps seen) es)) (sym now.0)
    ∙ ap (ending_if (is_known ps) (shortfall_of (ended ps) None)) (as_entries most ps seen hs (timed_now c hs base seen numbered timed))
    ∙ ap (λ (b : Bool). ending_if b (shortfall_of (ended ps) None) (logged_by most (bare_resets seen) hs)) (sym now.1)

pub tracked_is : (most : ℕ) (base : End → ℕ) (seen : List Seen) (o : TrackedConnection) → AreNumbered 0 seen → (i : IsTracked most base seen o)
    → emitted_items most base seen ≡ record { items = map (item_of_event []) i.emitted; over = None }
tracked_is most base seen o numbered i =
    emitted_is most o.connection i.emitted base seen numbered i.consistent i.timed
    ∙ ap (λ (b : Bool). ending_if b (shortfall_of (ended (places base [] seen)) None) (logged_by most (bare_resets seen) i.emitted)) (ap is_some i.unended)
    ∙ plain most (bare_resets seen) i.emitted i.proceeds

-- ---- one after another

pub follow_over : (most : ℕ) (base : End → ℕ) (before rest more : List Seen) → is_over (follow most base before rest) ≡ true
    → follow most base before (rest ++ more) ≡ follow most base before rest
unfolding follow
follow_over most base before [] [] over = refl
follow_over most base before [] (s ∷ more) over = rw over refl
follow_over most base before (s ∷ rest) more over =
    by (is_over (emitted_items most base before)) (is_too_much base before s) over (follow_over most base (before ++ s ∷ []) rest more)
  where
    with_if : Bool → Bool → ConnectionItems → ConnectionItems
    with_if b c x = if b then emitted_items most base before else (if c then ending_with (Some (Full s.packet)) (emitted_items most base before) else x)

    by : (b c : Bool) → is_over (with_if b c (follow most base (before ++ s ∷ []) rest)) ≡ true
        → (is_over (follow most base (before ++ s ∷ []) rest) ≡ true
        → follow most base (before ++ s ∷ []) (rest ++ more) ≡ follow most base (before ++ s ∷ []) rest)
        → with_if b c (follow most base (before ++ s ∷ []) (rest ++ more)) ≡ with_if b c (follow most base (before ++ s ∷ []) rest)
    by true c over same = refl
    by false true over same = refl
    by false false over same = same over

abbrev pub next : ℕ → (End → ℕ) → List Seen → Seen → ConnectionItems
next most base before s =
    if is_too_much base before s then ending_with (Some (Full s.packet)) (emitted_items most base before) else emitted_items most base (before ++ s ∷ [])

over_ended : (shortfall : Option Shortfall) (x : ConnectionItems) → is_over (ending_with shortfall x) ≡ true
over_ended shortfall x = by x.over
  where
    by : (o : Option (Option Shortfall)) → is_over (ending_with shortfall (record { items = x.items; over = o })) ≡ true
    by None = refl
    by (Some l) = refl

pub follow_more : (most : ℕ) (base : End → ℕ) (before rest : List Seen) (s : Seen) → is_over (follow most base before rest) ≡ false
    → follow most base before (rest ++ s ∷ []) ≡ next most base (before ++ rest) s
unfolding follow
follow_more most base before [] s proceeds = rw (proceeds, append-nil before) refl
follow_more most base before (x ∷ rest) s proceeds =
    by (is_over (emitted_items most base before)) refl (is_too_much base before x) proceeds (follow_more most base (before ++ x ∷ []) rest s)
  where
    with_if : Bool → Bool → ConnectionItems → ConnectionItems
    with_if b c y = if b then emitted_items most base before else (if c then ending_with (Some (Full x.packet)) (emitted_items most base before) else y)

    by : (b : Bool) → is_over (emitted_items most base before) ≡ b → (c : Bool) → is_over (with_if b c (follow most base (before ++ x ∷ []) rest)) ≡ false
        → (is_over (follow most base (before ++ x ∷ []) rest) ≡ false
        → follow most base (before ++ x ∷ []) (rest ++ s ∷ []) ≡ next most base ((before ++ x ∷ []) ++ rest) s)
        → with_if b c (follow most base (before ++ x ∷ []) (rest ++ s ∷ [])) ≡ next most base (before ++ x ∷ rest) s
    by true is c proceeds same = let yes : is_over (emitted_items most base before) ≡ true = is in let no : is_over (emitted_items most base before) ≡ false = proceeds in absurd cc
    by false is true proceeds same =
        let yes = over_ended (Some (Full x.packet)) (emitted_items most base before) in let no : is_over (ending_with (Some (Full x.packet)) (emitted_items most base before)) ≡ false = proceeds in absurd cc
    by false is false proceeds same = same proceeds ∙ ap (λ (z : List Seen). next most base z s) (append_assoc before (x ∷ []) rest)

-- ---- too much waits

true_lt : (m n : ℕ) → nat_lt m n ≡ true → m < n
true_lt m n e = grind (arith, nat_tests)

true_le : (m n : ℕ) → nat_le m n ≡ true → m ≤ n
true_le m n e = grind (arith, nat_tests)

or_false : (a b : Bool) → a ≡ false → b ≡ false → (a || b) ≡ false
or_false a b x y = rw (x, y) refl

not_true : (a : Bool) → (a ≡ true → ⊥) → a ≡ false
not_true true never = absurd (never refl)
not_true false never = refl

both_true : (a b c : Bool) → (a && (b || c)) ≡ true → (a ≡ true) × ((b ≡ true) ⊎ (c ≡ true))
both_true true true c e = (refl, inl refl)
both_true true false true e = (refl, inr refl)
both_true true false false e = absurd cc
both_true false b c e = absurd cc

past_of : (ps : List Placed) (p : Placed) → is_past ps (p ∷ []) ≡ true → IsPast ps p
past_of ps p e =
    let b = both_true (nat_lt 0 (length p.cells)) (nat_lt (first_kept ps p.from + 2 ^ 26) (p.place + length p.cells)) (nat_le (2 ^ 64) (p.place + length p.cells)) e in
    (true_lt 0 (length p.cells) b.0, elim b.1 [ inl far ↦ inl (true_lt _ _ far) | inr far ↦ inr (true_le _ _ far) ])

not_past : (ps ns : List Placed) → ((p : Placed) → ns ≡ p ∷ [] → IsPast ps p → ⊥) → is_past ps ns ≡ false
not_past ps [] never = refl
not_past ps (p ∷ (q ∷ rest)) never = refl
not_past ps (p ∷ []) never = not_true (is_past ps (p ∷ [])) (λ e. never p refl (past_of ps p e))

pub not_too_much : (base : End → ℕ) (seen : List Seen) (s : Seen) → (IsFar (places base [] seen) → ⊥) → (EndsPast base (places base [] seen) s → ⊥)
    → is_too_much base seen s ≡ false
not_too_much base seen s near within =
    let ps = places base [] seen in
    or_false (nat_le (2 ^ 62) (max (end_of ps active) (end_of ps passive))) (is_past ps (placed_after base ps s))
    (not_true (nat_le (2 ^ 62) (max (end_of ps active) (end_of ps passive))) (λ e. near (true_le _ _ e)))
    (not_past ps (placed_after base ps s) (λ p is past. within (p, is, past)))

-- ---- one segment more

-- The events of one segment, from the events of its items and the last event.
pub grows : (pair : Pair) (before after : ConnectionItems) (more : List LogItem) (over : Option (Option Shortfall)) (up up' : Bool) (old mid new : List Event)
    → after.items ≡ before.items ++ more → after.over ≡ over → up ≡ is_there before.items → up' ≡ (up || nat_lt (length old) (length mid))
    → mid ≡ old ++ map (Logged pair) more → new ≡ mid ++ end_event pair up' over → Grows pair before after old new × (up' ≡ is_there after.items)
grows pair before after more over up up' old mid new items ends was is first second =
    let there : up' ≡ is_there after.items =
    is ∙ ap (λ (b : Bool). b || nat_lt (length old) (length mid)) was ∙ there_by before.items more old mid (Logged pair) first ∙ ap is_there (sym items) in (
      record {
        more = more;
        items = items;
        appended = second ∙ ap (λ (es : List Event). es ++ end_event pair up' over) first ∙ append_assoc old (map (Logged pair) more) (end_event pair up' over)
            ∙ ap (λ (es : List Event). old ++ (map (Logged pair) more ++ es)) (ap (λ (b : Bool). end_event pair b over) there ∙ ap (end_event pair (is_there after.items)) (sym ends));
      },
      there,
    )

more_emitted : (most : ℕ) (base : End → ℕ) (seen : List Seen) (s : Seen) (o : TrackedConnection) (c : Connection) (hs : List TimedEvent) → AreNumbered 0 (seen ++ s ∷ [])
    → (i : IsTracked most base seen o) → TakesOn o.connection s [] c hs → TakesInTime o.connection s [] c hs
    → StateInvariant c (i.emitted ++ hs) base (seen ++ s ∷ []) × IsInTime c (i.emitted ++ hs) base (seen ++ s ∷ [])
    × (emitted_items most base (seen ++ s ∷ []) ≡ ending_if (is_some c.ending) (shortfall_of (ended (places base [] (seen ++ s ∷ []))) None)
    (record { items = map (item_of_event []) i.emitted ++ (logged_by most (bare_resets (seen ++ s ∷ [])) hs).items; over = (logged_by most (bare_resets (seen ++ s ∷ [])) hs).over }))
more_emitted most base seen s o c hs numbered i takes times =
    let same = sym (append-nil i.emitted) in
    let was_consistent = subst (λ (gs : List TimedEvent). StateInvariant o.connection gs base seen) same i.consistent in
    let consistent = takes base seen i.emitted numbered was_consistent in
    let timed = times base seen i.emitted was_consistent (subst (λ (gs : List TimedEvent). IsInTime o.connection gs base seen) same i.timed) in
    let bare = bare_resets (seen ++ s ∷ []) in
    let now = plain most bare i.emitted i.proceeds in (
      consistent,
      timed,
      emitted_is most c (i.emitted ++ hs) base (seen ++ s ∷ []) numbered consistent timed
          ∙ ap (ending_if (is_some c.ending) (shortfall_of (ended (places base [] (seen ++ s ∷ []))) None))
          (logged_append most bare i.emitted hs (ap (λ (x : ConnectionItems). x.over) now)
          ∙ ap (λ (x : ConnectionItems). record { items = x.items ++ (logged_by most bare hs).items; over = (logged_by most bare hs).over }) now),
    )

-- The result of one segment.
abbrev Turn : ℕ → Pair → (End → ℕ) → List Seen → Seen → Option TrackedConnection → List Event → List Event → Type 0
Turn most pair base seen s left old new =
    TrackedAs most base (seen ++ s ∷ []) left × Grows pair (follow most base [] seen) (follow most base [] (seen ++ s ∷ [])) old new

pub proceeds_or_over : (over : Option (Option Shortfall)) (most : ℕ) (pair : Pair) (base : End → ℕ) (seen : List Seen) (s : Seen) (o : TrackedConnection) (c : Connection) (hs : List TimedEvent)
    → (bare : Vec ℕ Global) (up : Bool) (left : Option TrackedConnection) (old mid new : List Event) → AreNumbered 0 (seen ++ s ∷ []) → (i : IsTracked most base seen o)
    → c.ending ≡ None → TakesOn o.connection s [] c hs → TakesInTime o.connection s [] c hs → ContinuesBy o.connection [] s
    → bare.items ≡ bare_resets (seen ++ s ∷ []) → LogsBy most bare.items pair hs over old mid → up ≡ (o.is_up || nat_lt (length old) (length mid))
    → new ≡ mid ++ end_event pair up over → left ≡ left_by up bare over (followed.Proceeds c) → Turn most pair base seen s left old new
proceeds_or_over over most pair base seen s o c hs bare up left old mid new numbered i none takes times proceeds bare_is logs up_is emits left_is =
    let first = numbered_front 0 seen (s ∷ []) numbered in
    let was = tracked_is most base seen o first i in
    let at : follow most base [] seen ≡ emitted_items most base seen = i.runs in
    let not = proceeds i.unended base seen i.emitted (subst (λ (gs : List TimedEvent). StateInvariant o.connection gs base seen) (sym (append-nil i.emitted)) i.consistent) in
    let more = more_emitted most base seen s o c hs numbered i takes times in
    let here = subst (λ (b : List ℕ). LogsBy most b pair hs over old mid) bare_is logs in
    let bares = bare_resets (seen ++ s ∷ []) in
    let next_is : follow most base [] (seen ++ s ∷ []) ≡ emitted_items most base (seen ++ s ∷ []) =
    follow_more most base [] seen s (ap is_over (at ∙ was))
    ∙ ap (λ (b : Bool). if b then ending_with (Some (Full s.packet)) (emitted_items most base seen) else emitted_items most base (seen ++ s ∷ [])) (not_too_much base seen s not.0 not.1) in
    let now : emitted_items most base (seen ++ s ∷ []) ≡ record { items = map (item_of_event []) i.emitted ++ (logged_by most bares hs).items; over = (logged_by most bares hs).over } =
    more.2 ∙ ap (λ (b : Bool). ending_if b (shortfall_of (ended (places base [] (seen ++ s ∷ []))) None) (record { items = map (item_of_event []) i.emitted ++ (logged_by most bares hs).items; over = (logged_by most bares hs).over })) (ap is_some none) in
    let grown = grows pair (follow most base [] seen) (follow most base [] (seen ++ s ∷ [])) (logged_by most bares hs).items over o.is_up up old mid new
    (ap (λ (x : ConnectionItems). x.items) (next_is ∙ now) ∙ ap (λ (x : ConnectionItems). x.items ++ (logged_by most bares hs).items) (sym (at ∙ was)))
    (ap (λ (x : ConnectionItems). x.over) (next_is ∙ now) ∙ sym here.1) i.up up_is here.0 emits in (
      rw left_is (by over (ap (λ (x : ConnectionItems). x.over) (next_is ∙ now) ∙ sym here.1) here.1 grown.1 next_is),
      grown.0,
    )
  where
    by : (over : Option (Option Shortfall)) → (follow most base [] (seen ++ s ∷ [])).over ≡ over → over ≡ (logged_by most (bare_resets (seen ++ s ∷ [])) hs).over
        → up ≡ is_there (follow most base [] (seen ++ s ∷ [])).items → follow most base [] (seen ++ s ∷ []) ≡ emitted_items most base (seen ++ s ∷ [])
        → TrackedAs most base (seen ++ s ∷ []) (left_by up bare over (followed.Proceeds c))
    by (Some shortfall) ends is there runs = ap is_some ends
    by None ends is there runs = record {
      emitted = i.emitted ++ hs;
      unended = none;
      consistent = (more_emitted most base seen s o c hs numbered i takes times).0;
      timed = (more_emitted most base seen s o c hs numbered i takes times).1;
      bare = bare_is;
      proceeds = ap (λ (x : ConnectionItems). x.over) (logged_append most [] i.emitted hs i.proceeds) ∙ over_same most (bare_resets (seen ++ s ∷ [])) hs ∙ sym is;
      up = there;
      runs = runs;
    }

over_ending : (over : Option (Option Shortfall)) (shortfall : Option Shortfall) (items : List LogItem)
    → (ending_with shortfall (record { items = items; over = over })).over ≡ over_by 0 over (followed.Ends shortfall)
over_ending None shortfall items = refl
over_ending (Some l) shortfall items = refl

any_packet : (packet : ℕ) (over : Option (Option Shortfall)) (shortfall : Option Shortfall) → over_by 0 over (followed.Ends shortfall) ≡ over_by packet over (followed.Ends shortfall)
any_packet packet None shortfall = refl
any_packet packet (Some l) shortfall = refl

is_over_by : (packet : ℕ) (over : Option (Option Shortfall)) (shortfall : Option Shortfall) → is_some (over_by packet over (followed.Ends shortfall)) ≡ true
is_over_by packet None shortfall = refl
is_over_by packet (Some l) shortfall = refl

none_left : (up : Bool) (bare : Vec ℕ Global) (over : Option (Option Shortfall)) (shortfall : Option Shortfall) → left_by up bare over (followed.Ends shortfall) ≡ None
none_left up bare None shortfall = refl
none_left up bare (Some l) shortfall = refl

pub is_ended : (over : Option (Option Shortfall)) (shortfall : Option Shortfall) (most : ℕ) (pair : Pair) (base : End → ℕ) (seen : List Seen) (s : Seen) (o : TrackedConnection) (c : Connection) (e : Ending)
    → (hs : List TimedEvent) (bare : Vec ℕ Global) (up : Bool) (left : Option TrackedConnection) (old mid new : List Event) → AreNumbered 0 (seen ++ s ∷ [])
    → (i : IsTracked most base seen o) → c.ending ≡ Some e → shortfall ≡ shortfall_of e None → TakesOn o.connection s [] c hs → TakesInTime o.connection s [] c hs
    → ContinuesBy o.connection [] s → bare.items ≡ bare_resets (seen ++ s ∷ []) → LogsBy most bare.items pair hs over old mid
    → up ≡ (o.is_up || nat_lt (length old) (length mid)) → new ≡ mid ++ end_event pair up (over_by s.packet over (followed.Ends shortfall))
    → left ≡ left_by up bare over (followed.Ends shortfall) → Turn most pair base seen s left old new
is_ended over shortfall most pair base seen s o c e hs bare up left old mid new numbered i some shortfall_is takes times proceeds bare_is logs up_is emits left_is =
    let first = numbered_front 0 seen (s ∷ []) numbered in
    let ps = places base [] (seen ++ s ∷ []) in
    let was = tracked_is most base seen o first i in
    let at : follow most base [] seen ≡ emitted_items most base seen = i.runs in
    let not = proceeds i.unended base seen i.emitted (subst (λ (gs : List TimedEvent). StateInvariant o.connection gs base seen) (sym (append-nil i.emitted)) i.consistent) in
    let more = more_emitted most base seen s o c hs numbered i takes times in
    let here = subst (λ (b : List ℕ). LogsBy most b pair hs over old mid) bare_is logs in
    let bares = bare_resets (seen ++ s ∷ []) in
    let rest : ConnectionItems = record { items = map (item_of_event []) i.emitted ++ (logged_by most bares hs).items; over = (logged_by most bares hs).over } in
    let sure = ending_sure c (i.emitted ++ hs) e base (seen ++ s ∷ []) [] some more.0 (subst (AreNumbered 0) (sym (append-nil (seen ++ s ∷ []))) numbered) in
    let ends : ended ps ≡ e = sym (sure.1 ∙ ap (λ (z : List Seen). ended (places base [] z)) (append-nil (seen ++ s ∷ []))) in
    let next_is : follow most base [] (seen ++ s ∷ []) ≡ emitted_items most base (seen ++ s ∷ []) =
    follow_more most base [] seen s (ap is_over (at ∙ was))
    ∙ ap (λ (b : Bool). if b then ending_with (Some (Full s.packet)) (emitted_items most base seen) else emitted_items most base (seen ++ s ∷ [])) (not_too_much base seen s not.0 not.1) in
    let now : emitted_items most base (seen ++ s ∷ []) ≡ ending_with shortfall rest =
    more.2 ∙ ap (λ (b : Bool). ending_if b (shortfall_of (ended ps) None) rest) (ap is_some some)
    ∙ ap (λ (l : Option Shortfall). ending_with l rest) (ap (λ (x : Ending). shortfall_of x None) ends ∙ sym shortfall_is) in
    let over_is : (follow most base [] (seen ++ s ∷ [])).over ≡ over_by s.packet over (followed.Ends shortfall) =
    ap (λ (x : ConnectionItems). x.over) (next_is ∙ now) ∙ over_ending (logged_by most bares hs).over shortfall rest.items ∙ ap (λ (v : Option (Option Shortfall)). over_by 0 v (followed.Ends shortfall)) (sym here.1)
    ∙ any_packet s.packet over shortfall in
    let grown = grows pair (follow most base [] seen) (follow most base [] (seen ++ s ∷ [])) (logged_by most bares hs).items (over_by s.packet over (followed.Ends shortfall)) o.is_up up old mid new
    (ap (λ (x : ConnectionItems). x.items) (next_is ∙ now) ∙ ap (λ (x : ConnectionItems). x.items ++ (logged_by most bares hs).items) (sym (at ∙ was)))
    over_is i.up up_is here.0 emits in (
      rw (left_is ∙ none_left up bare over shortfall) (ap is_some over_is ∙ is_over_by s.packet over shortfall),
      grown.0,
    )

pub is_full : (over : Option (Option Shortfall)) (most : ℕ) (pair : Pair) (base : End → ℕ) (seen : List Seen) (s : Seen) (o : TrackedConnection) (hs : List TimedEvent)
    → (bare : Vec ℕ Global) (up : Bool) (left : Option TrackedConnection) (old mid new : List Event) → AreNumbered 0 (seen ++ s ∷ []) → (i : IsTracked most base seen o)
    → hs ≡ [] → is_too_much base seen s ≡ true → LogsBy most bare.items pair hs over old mid → up ≡ (o.is_up || nat_lt (length old) (length mid))
    → new ≡ mid ++ end_event pair up (over_by s.packet over followed.Full) → left ≡ left_by up bare over followed.Full → Turn most pair base seen s left old new
is_full over most pair base seen s o hs bare up left old mid new numbered i none much logs up_is emits left_is =
    let first = numbered_front 0 seen (s ∷ []) numbered in
    let was = tracked_is most base seen o first i in
    let at : follow most base [] seen ≡ emitted_items most base seen = i.runs in
    let here = logs_nothing most bare.items pair hs over old mid none logs in
    let next_is : follow most base [] (seen ++ s ∷ []) ≡ ending_with (Some (Full s.packet)) (emitted_items most base seen) =
    follow_more most base [] seen s (ap is_over (at ∙ was))
    ∙ ap (λ (b : Bool). if b then ending_with (Some (Full s.packet)) (emitted_items most base seen) else emitted_items most base (seen ++ s ∷ [])) much in
    let over_is : (follow most base [] (seen ++ s ∷ [])).over ≡ over_by s.packet over followed.Full =
    ap (λ (x : ConnectionItems). x.over) (next_is ∙ ap (ending_with (Some (Full s.packet))) was) ∙ ap (λ (v : Option (Option Shortfall)). over_by s.packet v followed.Full) (sym here.1) in
    let grown = grows pair (follow most base [] seen) (follow most base [] (seen ++ s ∷ [])) [] (over_by s.packet over followed.Full) o.is_up up old mid new
    (ap (λ (x : ConnectionItems). x.items) next_is ∙ sym (append-nil (emitted_items most base seen).items) ∙ ap (λ (x : ConnectionItems). x.items ++ []) (sym at))
    over_is i.up up_is (here.0 ∙ sym (append-nil old)) emits in (
      rw (left_is ∙ ap (λ (v : Option (Option Shortfall)). left_by up bare v followed.Full) here.1) (ap is_some (over_is ∙ ap (λ (v : Option (Option Shortfall)). over_by s.packet v followed.Full) here.1)),
      grown.0,
    )

-- By the result of the segment for the TCP connection.
pub turns : (f : Followed) (over : Option (Option Shortfall)) (most : ℕ) (pair : Pair) (base : End → ℕ) (seen : List Seen) (s : Seen) (o : TrackedConnection) (hs : List TimedEvent)
    → (bare : Vec ℕ Global) (up : Bool) (left : Option TrackedConnection) (old mid new : List Event) → AreNumbered 0 (seen ++ s ∷ []) → IsTracked most base seen o
    → FollowsSegment o.connection s [] hs f → bare.items ≡ bare_resets (seen ++ s ∷ []) → LogsBy most bare.items pair hs over old mid
    → up ≡ (o.is_up || nat_lt (length old) (length mid)) → new ≡ mid ++ end_event pair up (over_by s.packet over f) → left ≡ left_by up bare over f
    → Turn most pair base seen s left old new
turns (followed.Proceeds c) over most pair base seen s o hs bare up left old mid new numbered i follows bare_is logs up_is emits left_is =
    proceeds_or_over over most pair base seen s o c hs bare up left old mid new numbered i follows.0 follows.1 follows.2 follows.3 bare_is logs up_is (emits ∙ same over) left_is
  where
    same : (over : Option (Option Shortfall)) → mid ++ end_event pair up (over_by s.packet over (followed.Proceeds c)) ≡ mid ++ end_event pair up over
    same None = refl
    same (Some shortfall) = refl
turns (followed.Ends shortfall) over most pair base seen s o hs bare up left old mid new numbered i follows bare_is logs up_is emits left_is =
    is_ended over shortfall most pair base seen s o follows.0 follows.1 hs bare up left old mid new numbered i follows.2 follows.3 follows.4 follows.5 follows.6 bare_is logs up_is emits left_is
turns followed.Full over most pair base seen s o hs bare up left old mid new numbered i follows bare_is logs up_is emits left_is =
    is_full over most pair base seen s o hs bare up left old mid new numbered i follows.0
    (follows.1 base seen i.emitted (subst (λ (gs : List TimedEvent). StateInvariant o.connection gs base seen) (sym (append-nil i.emitted)) i.consistent)) logs up_is emits left_is

-- For the result of a call.
pub takes_ok : {E : Type 0} (result : Result (Option TrackedConnection) E) (f : Followed) (over : Option (Option Shortfall)) (most : ℕ) (pair : Pair) (s : Seen) (o : TrackedConnection) (none hs : List TimedEvent)
    → (was bare : Vec ℕ Global) (up : Bool) (old mid new : List Event) → none ≡ [] → was ≡ o.bare_resets → FollowsSegment o.connection s none hs f
    → bare.items ≡ was.items ++ bare_if (s.reset && is_none s.acknowledged) s.packet → LogsBy most bare.items pair hs over old mid
    → up ≡ (o.is_up || nat_lt (length old) (length mid)) → OnOk result (new ≡ mid ++ end_event pair up (over_by s.packet over f))
    → IfOk result (λ left. left ≡ left_by up bare over f) → IfOk result (λ left. TakesTracked most pair s o left old new)
unfolding TakesTracked
takes_ok (Err stop) f over most pair s o none hs was bare up old mid new is was_is follows bare_is logs up_is emits left_is = tt
takes_ok (Ok left) f over most pair s o none hs was bare up old mid new is was_is follows bare_is logs up_is emits left_is = λ base seen numbered i.
    turns f over most pair base seen s o hs bare up left old mid new numbered i (subst (λ (gs : List TimedEvent). FollowsSegment o.connection s gs hs f) is follows)
    (bare_is ∙ ap (λ (v : Vec ℕ Global). v.items ++ bare_if (s.reset && is_none s.acknowledged) s.packet) was_is
    ∙ ap (λ (ns : List ℕ). ns ++ bare_if (s.reset && is_none s.acknowledged) s.packet) i.bare
    ∙ ap (λ (ns : List ℕ). bare_resets seen ++ ns) (sym (append-nil (bare_if (s.reset && is_none s.acknowledged) s.packet)))
    ∙ sym (flat_map-append (λ (x : Seen). bare_if (x.reset && is_none x.acknowledged) x.packet) seen (s ∷ []))) logs up_is emits left_is

-- ---- no segment yet

pub tracked_first : (most : ℕ) (base : End → ℕ) (o : TrackedConnection) → o.connection.ending ≡ None → StateInvariant o.connection [] base [] → IsInTime o.connection [] base []
    → o.bare_resets.items ≡ [] → o.is_up ≡ false → IsTracked most base [] o
unfolding follow logged_by
tracked_first most base o none consistent timed bare up =
    let nothing : emitted_items most base [] ≡ record { items = []; over = None } =
    emitted_is most o.connection [] base [] tt consistent timed
    ∙ ap (λ (b : Bool). ending_if b (shortfall_of (ended (places base [] [])) None) (record { items = []; over = None })) (ap is_some none) in
    record {
      emitted = [];
      unended = none;
      consistent = consistent;
      timed = timed;
      bare = bare;
      proceeds = refl;
      up = up ∙ sym (ap (λ (x : ConnectionItems). is_there x.items) nothing);
      runs = refl;
    }

-- ---- several segments

pub grows_then : (pair : Pair) (x y z : ConnectionItems) (old mid new : List Event) → Grows pair x y old mid → y.over ≡ None → Grows pair y z mid new → Grows pair x z old new
grows_then pair x y z old mid new first proceeds second = record {
  more = first.more ++ second.more;
  items = second.items ∙ ap (λ (is : List LogItem). is ++ second.more) first.items ∙ append_assoc x.items first.more second.more;
  appended = second.appended
      ∙ ap (λ (es : List Event). es ++ (map (Logged pair) second.more ++ end_event pair (is_there z.items) z.over))
      (first.appended ∙ ap (λ (o : Option (Option Shortfall)). old ++ (map (Logged pair) first.more ++ end_event pair (is_there y.items) o)) proceeds
      ∙ ap (λ (es : List Event). old ++ es) (append-nil (map (Logged pair) first.more)))
      ∙ append_assoc old (map (Logged pair) first.more) (map (Logged pair) second.more ++ end_event pair (is_there z.items) z.over)
      ∙ ap (λ (es : List Event). old ++ es) (sym (append_assoc (map (Logged pair) first.more) (map (Logged pair) second.more) (end_event pair (is_there z.items) z.over))
      ∙ ap (λ (es : List Event). es ++ end_event pair (is_there z.items) z.over) (sym (map-append (Logged pair) first.more second.more)));
}

pub grows_none : (pair : Pair) (x : ConnectionItems) (old : List Event) → x.over ≡ None → Grows pair x x old old
grows_none pair x old proceeds = record {
  more = [];
  items = sym (append-nil x.items);
  appended = sym (append-nil old) ∙ ap (λ (o : Option (Option Shortfall)). old ++ end_event pair (is_there x.items) o) (sym proceeds);
}

pub runs_on : (most : ℕ) (base : End → ℕ) (seen : List Seen) (o : TrackedConnection) → AreNumbered 0 seen → IsTracked most base seen o → (follow most base [] seen).over ≡ None
runs_on most base seen o numbered i = ap (λ (x : ConnectionItems). x.over) (i.runs ∙ tracked_is most base seen o numbered i)

abbrev pub SoFar : ℕ → Pair → List Waiting → TrackedConnection → List Waiting → Option TrackedConnection → List Event → List Event → Type 0
SoFar most pair all first yielded left old now =
    (base : End → ℕ) (seen : List Seen) → AreNumbered 0 (seen ++ map seen_waiting all) → IsTracked most base seen first
    → TrackedAs most base (seen ++ map seen_waiting yielded) left
    × Grows pair (follow most base [] seen) (follow most base [] (seen ++ map seen_waiting yielded)) old now

pub so_far_none : (most : ℕ) (pair : Pair) (all : List Waiting) (first : TrackedConnection) (old : List Event) → SoFar most pair all first [] (Some first) old old
so_far_none most pair all first old = λ base seen numbered i.
    subst (λ (z : List Seen). TrackedAs most base z (Some first) × Grows pair (follow most base [] seen) (follow most base [] z) old old) (sym (append-nil seen))
    (i, grows_none pair (follow most base [] seen) old (runs_on most base seen first (numbered_front 0 seen (map seen_waiting all) numbered) i))

numbered_next : (seen : List Seen) (all yielded rest : List Waiting) (x : Waiting) → AreNumbered 0 (seen ++ map seen_waiting all) → all ≡ yielded ++ x ∷ rest
    → AreNumbered 0 ((seen ++ map seen_waiting yielded) ++ seen_waiting x ∷ [])
numbered_next seen all yielded rest x numbered is =
    let front = seen ++ map seen_waiting yielded in
    let whole : seen ++ map seen_waiting all ≡ (front ++ seen_waiting x ∷ []) ++ map seen_waiting rest =
    ap (λ (ws : List Waiting). seen ++ map seen_waiting ws) is
    ∙ ap (λ (ss : List Seen). seen ++ ss) (map-append seen_waiting yielded (x ∷ rest))
    ∙ sym (append_assoc seen (map seen_waiting yielded) (seen_waiting x ∷ map seen_waiting rest))
    ∙ sym (append_assoc front (seen_waiting x ∷ []) (map seen_waiting rest)) in
    numbered_front 0 (front ++ seen_waiting x ∷ []) (map seen_waiting rest) (subst (AreNumbered 0) whole numbered)

next_seen : (seen : List Seen) (yielded : List Waiting) (x : Waiting) → (seen ++ map seen_waiting yielded) ++ seen_waiting x ∷ [] ≡ seen ++ map seen_waiting (yielded ++ x ∷ [])
next_seen seen yielded x =
    append_assoc seen (map seen_waiting yielded) (seen_waiting x ∷ []) ∙ ap (λ (ss : List Seen). seen ++ ss) (sym (map-append seen_waiting yielded (x ∷ [])))

pub so_far_tracked : (most : ℕ) (pair : Pair) (all : List Waiting) (first o : TrackedConnection) (yielded rest : List Waiting) (x : Waiting) (kept left : Option TrackedConnection) (old mid new : List Event)
    → all ≡ yielded ++ x ∷ rest → kept ≡ Some o → SoFar most pair all first yielded kept old mid → TakesTracked most pair (seen_waiting x) o left mid new
    → SoFar most pair all first (yielded ++ x ∷ []) left old new
unfolding TakesTracked
so_far_tracked most pair all first o yielded rest x kept left old mid new is kept_is so takes = λ base seen numbered i.
    let here = so base seen numbered i in
    let front = seen ++ map seen_waiting yielded in
    let tracked_first = subst (TrackedAs most base front) kept_is here.0 in
    let on = numbered_next seen all yielded rest x numbered is in
    let onward = takes base front on tracked_first in
    subst (λ (z : List Seen). TrackedAs most base z left × Grows pair (follow most base [] seen) (follow most base [] z) old new) (next_seen seen yielded x)
    (onward.0, grows_then pair _ _ _ old mid new here.1 (runs_on most base front o (numbered_front 0 front (seen_waiting x ∷ []) on) tracked_first) onward.1)

pub so_far_over : (most : ℕ) (pair : Pair) (all : List Waiting) (first : TrackedConnection) (yielded : List Waiting) (x : Waiting) (kept : Option TrackedConnection) (old now : List Event)
    → kept ≡ None → SoFar most pair all first yielded kept old now → SoFar most pair all first (yielded ++ x ∷ []) None old now
so_far_over most pair all first yielded x kept old now none so = λ base seen numbered i.
    let here = so base seen numbered i in
    let front = seen ++ map seen_waiting yielded in
    let over = subst (TrackedAs most base front) none here.0 in
    let same = follow_over most base [] front (seen_waiting x ∷ []) over in
    subst (λ (z : List Seen). TrackedAs most base z None × Grows pair (follow most base [] seen) (follow most base [] z) old now) (next_seen seen yielded x)
    (ap is_over same ∙ over, subst (λ (y : ConnectionItems). Grows pair (follow most base [] seen) y old now) (sym same) here.1)

-- ---- no segment follows

pub new_events_of : (pair : Pair) (x y : ConnectionItems) (old new : List Event) → x.over ≡ None → Grows pair x y old new → new ≡ old ++ new_events pair x y
new_events_of pair x y old new proceeds g =
    g.appended
    ∙ ap (λ (is : List LogItem). old ++ (map (Logged pair) is ++ end_event pair (is_there y.items) y.over)) (sym (ap (drop (length x.items)) g.items ∙ drop_front x.items g.more))
    ∙ ap (λ (b : Bool). old ++ (if b then [] else map (Logged pair) (drop (length x.items) y.items) ++ end_event pair (is_there y.items) y.over)) (sym (ap is_some proceeds))
  where
    drop_front : {A : Type 0} (xs ys : List A) → drop (length xs) (xs ++ ys) ≡ ys
    drop_front xs ys = grind (arith, common_steps)

still_there : (items : List LogItem) (replaced none : Bool) → is_there (items ++ down_if (replaced && (none && is_there items))) ≡ is_there items
still_there (x ∷ xs) replaced none = refl
still_there [] true true = refl
still_there [] true false = refl
still_there [] false none = refl

pub ends_tracked : (most : ℕ) (pair : Pair) (replaced : Bool) (missing : Option Shortfall) (o : TrackedConnection) (none later : List TimedEvent) (e : Ending) (shortfall : Option Shortfall) (old mid new : List Event)
    → none ≡ [] → EndsAs o.connection none later e → shortfall ≡ shortfall_of e missing → mid ≡ old ++ map (Logged pair) (down_if (replaced && (is_none shortfall && o.is_up)))
    → new ≡ mid ++ end_event pair o.is_up (Some shortfall) → EndsTracked most pair replaced missing o old new
unfolding EndsTracked
ends_tracked most pair replaced missing o none later e shortfall old mid new is gives shortfall_is downs emits = λ base seen numbered i.
    let x = follow most base [] seen in
    let proceeds = runs_on most base seen o numbered i in
    let whole = subst (λ (hs : List TimedEvent). EndsAs o.connection hs later e) is gives base seen i.emitted numbered
    (subst (λ (hs : List TimedEvent). StateInvariant o.connection hs base seen) (sym (append-nil i.emitted)) i.consistent) in
    let same : shortfall ≡ shortfall_of (ended (places base [] seen)) missing = shortfall_is ∙ ap (λ (y : Ending). shortfall_of y missing) whole.1 in
    let more = down_if (replaced && (is_none shortfall && is_there x.items)) in
    let first : mid ≡ old ++ map (Logged pair) more = downs ∙ ap (λ (b : Bool). old ++ map (Logged pair) (down_if (replaced && (is_none shortfall && b)))) i.up in
    let there : o.is_up ≡ is_there (x.items ++ more) = i.up ∙ sym (still_there x.items replaced (is_none shortfall)) in
    subst (λ (l : Option Shortfall). new ≡ old ++ new_events pair x (ends x l replaced)) same
    (new_events_of pair x (ends x shortfall replaced) old new proceeds (record {
      more = more;
      items = ap (λ (o : Option (Option Shortfall)). (ends_by o x shortfall replaced).items) proceeds;
      appended = emits ∙ ap (λ (es : List Event). es ++ end_event pair o.is_up (Some shortfall)) first
          ∙ append_assoc old (map (Logged pair) more) (end_event pair o.is_up (Some shortfall))
          ∙ ap (λ (b : Bool). old ++ (map (Logged pair) more ++ end_event pair b (Some shortfall))) there
          ∙ ap (λ (y : ConnectionItems). old ++ (map (Logged pair) more ++ end_event pair (is_there y.items) y.over)) (sym (ap (λ (o : Option (Option Shortfall)). ends_by o x shortfall replaced) proceeds));
    }))

pub ends_ok : {E : Type 0} (result : Result (Unit {0}) E) (pair : Pair) (replaced : Bool) (missing : Option Shortfall) (o : TrackedConnection) (none later : List TimedEvent) (e : Ending)
    → (shortfall : Option Shortfall) (old mid new : List Event) → none ≡ [] → EndsAs o.connection none later e → shortfall ≡ shortfall_of e missing
    → mid ≡ old ++ map (Logged pair) (down_if (replaced && (is_none shortfall && o.is_up))) → OnOk result (new ≡ mid ++ end_event pair o.is_up (Some shortfall))
    → OnOk result ((most : ℕ) → EndsTracked most pair replaced missing o old new)
ends_ok (Ok done) pair replaced missing o none later e shortfall old mid new is gives shortfall_is downs emits =
    λ most. ends_tracked most pair replaced missing o none later e shortfall old mid new is gives shortfall_is downs emits
ends_ok (Err stop) pair replaced missing o none later e shortfall old mid new is gives shortfall_is downs emits = tt

pub all_taken : (most : ℕ) (pair : Pair) (all yielded : List Waiting) (first : TrackedConnection) (left : Option TrackedConnection) (old new : List Event) → yielded ≡ all
    → SoFar most pair all first yielded left old new → TakesAll most pair (map seen_waiting all) first left old new
unfolding TakesAll
all_taken most pair all yielded first left old new is so = subst (λ (ws : List Waiting). SoFar most pair all first ws left old new) is so

pub nothing_emitted : (most : ℕ) (base : End → ℕ) (o : TrackedConnection) → IsTracked most base [] o → emitted_items most base [] ≡ record { items = []; over = None }
unfolding wire.turns places wire.show
nothing_emitted most base o i =
    tracked_is most base [] o tt i ∙ ap (λ (hs : List TimedEvent). record { items = map (item_of_event []) hs; over = None }) (none_emitted i.emitted (emitted_at_once o.connection i.emitted base [] i.consistent tt).0)
  where
    none_emitted : (hs : List TimedEvent) → map entry_as hs ≡ [] → hs ≡ []
    none_emitted [] e = refl
    none_emitted (h ∷ hs) e = absurd cc
