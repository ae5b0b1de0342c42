-- A log starts where the connection is established, and ends where it is closed.
use Rattle.std.proofs.Common.{◌≡◌, ◌⊎◌, ◌++◌, ◌∷◌, ◌||◌, inl, inr, ℕ, Bool, true, false, cond, nat_le, nat_lt, List, [], filter, map, Option, Some, None, refl, sym, ap, subst, ◌∙◌}
use Rattle.std.proofs.lemmas.List.{append-nil, append_assoc}
use Rattle.std.specs.Option.{option_map}
use Rattle.capture_tcp.specs.declared.ending.Ending.TheVariants as ending
use Rattle.capture_tcp.specs.declared.packet.Side.{Side}
use Rattle.capture_tcp.specs.declared.streams.Due.{Due}
use Rattle.capture_tcp.specs.declared.events.EmitterState.{EmitterState}
use Rattle.capture_tcp.specs.declared.events.EmitterState.TheVariants as emitter_state
use Rattle.capture_tcp.specs.TcpStreams.{End, Placed, Both, both_streams, difference, earlier, loss, places, shows_of, emitted_turns, turns, loss_shown}
use Rattle.capture_tcp.specs.Message.{message_size}
use Rattle.capture_tcp.specs.ConnectionEvents.{ConnectionEvent, up, message, down, Entry, entry, and_later, answered_at, after_up, ends_down, first_message, has_up, is_down, is_left_out, is_separate, is_up, reset_entries, separated_by, shown_entries, emits, up_to_down}
use Rattle.capture_tcp.specs.KnownStreams.{end_at}
use Rattle.capture_tcp.specs.Laws.{DownComesLast, OnlyFirstIsUp, UpComesFirst}
use Rattle.capture_tcp.specs.Losses.{side_of}
use Rattle.capture_tcp.specs.EventSteps.{Processed, and_processed, comes_up, entry_as, closes_down, process_input, processes_input, is_at, says, separated_side}
use Rattle.capture_tcp.specs.DeliverySteps.{Log, and_log, answer_entries, delivers, entries_at, is_over, opens, resets, emit_turns}
use Rattle.capture_tcp.specs.ReaderState.{AreRising, log_of, emitted_dues}
use Rattle.capture_tcp.specs.EndOfStream.{broken, ended, ended_at, ended_by, shown_by}
use Rattle.capture_tcp.specs.ReaderInvariant.{ClosedWhereDown, DownIsAll, DownIsClosed}
use Rattle.capture_tcp.proofs.Evidence.{reported_as_it_is}
use Rattle.capture_tcp.proofs.Connecting.{all_rise, emitted_settled}
use Rattle.capture_tcp.proofs.LaterEvents.{submit_first, emitted_then}
use Rattle.capture_tcp.proofs.Slicing.{processes_append}
use Rattle.capture_tcp.proofs.EmittedEvents.{emits_all}

-- ---- nothing follows `down`

not_up : up ≡ down → ⊥
not_up e = absurd cc

not_message : (d : End) (octets : List ℕ) (t : ConnectionEvent) → t ≡ message d octets → t ≡ down → ⊥
not_message d octets t e f = let g : message d octets ≡ down = sym e ∙ f in absurd cc

abbrev DownLast : List Entry → Type 0
DownLast [] = Unit {0}
DownLast (e ∷ es) = (e.emitted ≡ down → es ≡ []) × DownLast es

down_last : (es : List Entry) (separated : Option End) → DownLast (up_to_down es separated)
down_last [] separated = tt
down_last (e ∷ es) separated = by_emitted e.emitted refl (λ s. down_last es s)
  where
    by_side : (d : End) (octets : List ℕ) (b : Bool) → e.emitted ≡ message d octets → ((s : Option End) → DownLast (up_to_down es s))
        → DownLast (cond b (up_to_down es separated) (e ∷ up_to_down es (separated_by separated d (is_separate octets))))
    by_side d octets true is later = later separated
    by_side d octets false is later = (λ f. absurd (not_message d octets e.emitted is f), later (separated_by separated d (is_separate octets)))

    by_emitted : (t : ConnectionEvent) → e.emitted ≡ t → ((s : Option End) → DownLast (up_to_down es s)) → DownLast (and_later e (up_to_down es) separated t)
    by_emitted up is later = later separated
    by_emitted (message d octets) is later = by_side d octets (is_left_out separated d) is later
    by_emitted down is later = (λ f. refl, tt)

after_last : (k : Option ℕ) (es : List Entry) → DownLast (after_up k es)
after_last None es = tt
after_last (Some k) es = (λ f. absurd (not_up f), down_last (filter (λ e. nat_le k e.packet) es) None)

all_last : (ps : List Placed) → DownLast (emits ps)
all_last ps =
    let es = shown_entries (shows_of message_size ps) in
    let ts = emitted_turns ps in
    after_last (earlier (answered_at ts) (first_message es)) (es ++ reset_entries false ts)

last_in : (front : List Entry) (e : Entry) (rest : List Entry) → DownLast (front ++ e ∷ rest) → e.emitted ≡ down → rest ≡ []
last_in [] e rest h d = h.0 d
last_in (x ∷ front) e rest h d = last_in front e rest h.1 d

pub last_is_down : DownComesLast
last_is_down ps front e rest is d = last_in front e rest (subst DownLast is (all_last ps)) d

-- ---- `up` is first, and nowhere else

no_up : (es : List Entry) (separated : Option End) → has_up (up_to_down es separated) ≡ false
no_up [] separated = refl
no_up (e ∷ es) separated = by_emitted e.emitted refl (λ s. no_up es s)
  where
    by_side : (d : End) (octets : List ℕ) (b : Bool) → e.emitted ≡ message d octets → ((s : Option End) → has_up (up_to_down es s) ≡ false)
        → has_up (cond b (up_to_down es separated) (e ∷ up_to_down es (separated_by separated d (is_separate octets)))) ≡ false
    by_side d octets true is later = later separated
    by_side d octets false is later =
        let more = up_to_down es (separated_by separated d (is_separate octets)) in
        ap (λ (t : ConnectionEvent). is_up t || has_up more) is ∙ later (separated_by separated d (is_separate octets))

    by_emitted : (t : ConnectionEvent) → e.emitted ≡ t → ((s : Option End) → has_up (up_to_down es s) ≡ false) → has_up (and_later e (up_to_down es) separated t) ≡ false
    by_emitted up is later = later separated
    by_emitted (message d octets) is later = by_side d octets (is_left_out separated d) is later
    by_emitted down is later = ap (λ (t : ConnectionEvent). is_up t || has_up []) is

abbrev UpFirst : List Entry → Type 0
UpFirst es = (es ≡ []) ⊎ ((k : ℕ) × (rest : List Entry) × (es ≡ entry k up ∷ rest) × (has_up rest ≡ false))

after_first : (k : Option ℕ) (es : List Entry) → UpFirst (after_up k es)
after_first None es = inl refl
after_first (Some k) es =
    let rest = filter (λ e. nat_le k e.packet) es in
    inr (k, up_to_down rest None, refl, no_up rest None)

pub first_is_up : UpComesFirst
first_is_up ps =
    let es = shown_entries (shows_of message_size ps) in
    let ts = emitted_turns ps in
    after_first (earlier (answered_at ts) (first_message es)) (es ++ reset_entries false ts)

or_true : (b : Bool) → (b || true) ≡ true
or_true true = refl
or_true false = refl

up_in : (front : List Entry) (e : Entry) (rest : List Entry) → e.emitted ≡ up → has_up (front ++ e ∷ rest) ≡ true
up_in [] e rest f = ap (λ (t : ConnectionEvent). is_up t || has_up rest) f
up_in (x ∷ front) e rest f = ap (λ (b : Bool). is_up x.emitted || b) (up_in front e rest f) ∙ or_true (is_up x.emitted)

none_in : (front : List Entry) (e : Entry) (rest : List Entry) → [] ≡ front ++ e ∷ rest → ⊥
none_in [] e rest is = absurd cc
none_in (x ∷ front) e rest is = absurd cc

abbrev FirstAlone : List Entry → Entry → Type 0
FirstAlone front e = (front ≡ [] → e.emitted ≡ up) × (e.emitted ≡ up → front ≡ [])

first_alone : (front : List Entry) (e : Entry) (rest : List Entry) (k : ℕ) (more : List Entry) → ◌≡◌ {A = List Entry} (entry k up ∷ more) (front ++ e ∷ rest) → has_up more ≡ false
    → FirstAlone front e
first_alone [] e rest k more is none = (λ f. first, λ f. refl)
  where
    first : e.emitted ≡ up
    first = let same : entry k up ≡ e = cc in sym (ap (λ (z : Entry). z.emitted) same)
first_alone (x ∷ front) e rest k more is none = (λ f. absurd cc, λ f. absurd (twice f))
  where
    twice : e.emitted ≡ up → ⊥
    twice f =
        let same : more ≡ front ++ e ∷ rest = cc in
        let there : has_up more ≡ true = ap has_up same ∙ up_in front e rest f in
        absurd cc

pub only_first_is_up : OnlyFirstIsUp
only_first_is_up ps front e rest is =
    elim (first_is_up ps) [
      | inl none ↦ absurd (none_in front e rest (sym none ∙ is))
      | inr some ↦ first_alone front e rest some.0 some.1 (sym some.2 ∙ is) some.3
    ]

-- ---- it has ended once it was closed

or_assoc : (a b c : Bool) → ((a || b) || c) ≡ (a || (b || c))
or_assoc true b c = refl
or_assoc false b c = refl

or_none : (b : Bool) → b ≡ (b || false)
or_none true = refl
or_none false = refl

down_append : (xs ys : List Entry) → ends_down (xs ++ ys) ≡ (ends_down xs || ends_down ys)
down_append [] ys = refl
down_append (x ∷ xs) ys = ap (λ (b : Bool). is_down x.emitted || b) (down_append xs ys) ∙ sym (or_assoc (is_down x.emitted) (ends_down xs) (ends_down ys))

both_none : (xs ys : List Entry) → xs ≡ [] → ys ≡ [] → xs ++ ys ≡ []
both_none xs ys e f = ap (λ (zs : List Entry). zs ++ ys) e ∙ f

abbrev is_waiting : EmitterState → Bool
is_waiting (emitter_state.Waiting early) = true
is_waiting (emitter_state.Running s) = false
is_waiting emitter_state.Over = false

-- It has ended if it had, or `down` was emitted. It waits if it did before and nothing was emitted.
abbrev Comes : EmitterState → Processed → Type 0
Comes s h = (is_over h.state ≡ (is_over s || ends_down h.emitted)) × (is_waiting h.state ≡ true → (h.emitted ≡ []) × (is_waiting s ≡ true))

comes_so : (s : EmitterState) (n : ℕ) → Comes s (comes_up s n)
comes_so (emitter_state.Waiting early) n = by_test (is_at early n)
  where
    by_test : (b : Bool) → Comes (emitter_state.Waiting early) (cond {A = Processed} b (record { state = emitter_state.Over; emitted = entry n up ∷ entry n down ∷ [] }) (record { state = emitter_state.Running None; emitted = entry n up ∷ [] }))
    by_test true = (refl, λ e. absurd cc)
    by_test false = (refl, λ e. absurd cc)
comes_so (emitter_state.Running s) n = (refl, λ e. absurd cc)
comes_so emitter_state.Over n = (refl, λ e. absurd cc)

says_so : (s : EmitterState) (n : ℕ) (d : Side) (octets : List ℕ) → Comes s (says s n d octets)
says_so (emitter_state.Waiting early) n d octets = (refl, λ e. (refl, refl))
says_so (emitter_state.Running s) n d octets = by_test (is_left_out (option_map end_at s) (end_at d))
  where
    by_test : (b : Bool) → Comes (emitter_state.Running s) (cond {A = Processed} b (record { state = emitter_state.Running s; emitted = [] })
        (record { state = emitter_state.Running (separated_side s d (is_separate octets)); emitted = entry n (message (end_at d) octets) ∷ [] }))
    by_test true = (refl, λ e. absurd cc)
    by_test false = (refl, λ e. absurd cc)
says_so emitter_state.Over n d octets = (refl, λ e. absurd cc)

continues_so : (s : EmitterState) (n : ℕ) → Comes s (closes_down s n)
continues_so (emitter_state.Waiting early) n = (refl, λ e. (refl, refl))
continues_so (emitter_state.Running s) n = (refl, λ e. absurd cc)
continues_so emitter_state.Over n = (refl, λ e. absurd cc)

both_so : (s : EmitterState) (h : Processed) (f : EmitterState → Processed) → Comes s h → Comes h.state (f h.state) → Comes s (and_processed h f)
both_so s h f a b = (
  b.0 ∙ ap (λ (x : Bool). x || ends_down (f h.state).emitted) a.0 ∙ or_assoc (is_over s) (ends_down h.emitted) (ends_down (f h.state).emitted)
      ∙ ap (λ (x : Bool). is_over s || x) (sym (down_append h.emitted (f h.state).emitted)),
  λ e.
      let second = b.1 e in
      let first = a.1 second.1 in
      (both_none h.emitted (f h.state).emitted first.0 second.0, first.1),
)

process_so : (s : EmitterState) (n : ℕ) (t : ConnectionEvent) → Comes s (process_input s (entry n t))
process_so s n up = comes_so s n
process_so s n (message d octets) =
    both_so s (comes_up s n) (λ (u : EmitterState). says u n (side_of d) octets) (comes_so s n) (says_so (comes_up s n).state n (side_of d) octets)
process_so s n down = continues_so s n

processes_so : (s : EmitterState) (es : List Entry) → Comes s (processes_input s es)
unfolding processes_input
processes_so s [] = (or_none (is_over s), λ e. (refl, e))
processes_so s (e ∷ es) = both_so s (process_input s e) (λ (u : EmitterState). processes_input u es) (process_so s e.packet e.emitted) (processes_so (process_input s e).state es)

-- After `down` it has ended, or it was not established.
abbrev Stops : EmitterState → Type 0
Stops s = (is_over s ≡ true) ⊎ (is_waiting s ≡ true)

down_stops : (s : EmitterState) (n : ℕ) → Stops (processes_input s (entry n down ∷ [])).state
unfolding processes_input
down_stops (emitter_state.Waiting early) n = inr refl
down_stops (emitter_state.Running s) n = inl refl
down_stops emitter_state.Over n = inl refl

last_stops : (s : EmitterState) (xs : List Entry) (n : ℕ) → Stops (processes_input s (xs ++ entry n down ∷ [])).state
last_stops s xs n = subst (λ (h : Processed). Stops h.state) (sym (processes_append s xs (entry n down ∷ []))) (down_stops (processes_input s xs).state n)

reset_stops : (s : EmitterState) (o : Bool) (b : Both) (t : Due) → resets o t ≡ true → Stops (processes_input s (entries_at o t b)).state
reset_stops s o b t e =
    let before = answer_entries t ++ (delivers t b).entries in
    let here : entries_at o t b ≡ before ++ entry t.at down ∷ [] = rw e (sym (append_assoc (answer_entries t) (delivers t b).entries (entry t.at down ∷ []))) in
    subst (λ (es : List Entry). Stops (processes_input s es).state) (sym here) (last_stops s before t.at)

abbrev Closes : EmitterState → Log → Type 0
Closes s l = ((is_waiting s ≡ true) × (l.emitted ≡ [])) ⊎ (l.closed ≡ (is_over s || ends_down l.emitted))

abbrev closed_log : List Entry → Log
closed_log es = record { emitted = es; closed = true }

closes_at : (s : EmitterState) (h : Processed) → Comes s h → Stops h.state → Closes s (closed_log h.emitted)
closes_at s h comes (inl over) = inr (sym over ∙ comes.0)
closes_at s h comes (inr waits) = let r = comes.1 waits in inl (r.1, r.0)

closes_later : (s : EmitterState) (h : Processed) (l : Log) → Comes s h → Closes h.state l → Closes s (and_log h.emitted l)
closes_later s h l comes (inl none) = let r = comes.1 none.0 in inl (r.1, both_none h.emitted l.emitted r.0 none.1)
closes_later s h l comes (inr is) =
    inr (is ∙ ap (λ (x : Bool). x || ends_down l.emitted) comes.0 ∙ or_assoc (is_over s) (ends_down h.emitted) (ends_down l.emitted)
    ∙ ap (λ (x : Bool). is_over s || x) (sym (down_append h.emitted l.emitted)))

closes : (s : EmitterState) (o : Bool) (b : Both) (ts : List Due) → Closes s (emit_turns s o b ts)
unfolding emit_turns
closes s o b [] = inr (or_none (is_over s))
closes s o b (t ∷ ts) =
    subst (Closes s) (sym (submit_first s o b t ts))
    (by_reset (resets o t) refl (closes (processes_input s (entries_at o t b)).state (o || opens t) (delivers t b).both ts))
  where
    h : Processed
    h = processes_input s (entries_at o t b)

    l : Log
    l = emit_turns h.state (o || opens t) (delivers t b).both ts

    by_reset : (r : Bool) → resets o t ≡ r → Closes h.state l → Closes s (emitted_then r h.emitted l)
    by_reset true e later = closes_at s h (processes_so s (entries_at o t b)) (reset_stops s o b t e)
    by_reset false e later = closes_later s h l (processes_so s (entries_at o t b)) later

pub closed_where_down : ClosedWhereDown
closed_where_down ps rises =
    let emitted : (log_of ps).emitted ≡ emits ps = emits_all ps rises in
    elim (closes (emitter_state.Waiting None) false (both_streams ps) (emitted_dues ps (turns [] ps))) [
      | inl none ↦ inl (sym emitted ∙ none.1)
      | inr is ↦ inr (is ∙ ap ends_down emitted)
    ]

pub down_is_closed : DownIsClosed
down_is_closed ps rises e =
    elim (closed_where_down ps rises) [
      | inl none ↦ absurd (let f : ends_down (emits ps) ≡ false = ap ends_down none in cc)
      | inr is ↦ ap (λ (b : Bool). shown_by (loss_shown [] ps) (ended_by b ps)) (is ∙ e)
    ]

ended_closes : (closed : Bool) (ps : List Placed) → ended_by closed ps ≡ ending.Closed → closed ≡ true
ended_closes true ps e = refl
ended_closes false ps e = by_breaks (loss [] ps) (difference [] ps) e
  where
    by_breaks : (l d : Option ℕ) → broken l d ≡ ending.Closed → false ≡ true
    by_breaks None None e = absurd cc
    by_breaks (Some j) None e = absurd cc
    by_breaks None (Some k) e = absurd cc
    by_breaks (Some j) (Some k) e = by_first (nat_lt j k) e
      where
        by_first : (b : Bool) → cond b (ending.Lost j) (ending.Differs k) ≡ ending.Closed → false ≡ true
        by_first true e = absurd cc
        by_first false e = absurd cc

-- A connection that has ended emits nothing, or that it was closed.
pub closed_emits : (ps : List Placed) → AreRising 0 ps → ended ps ≡ ending.Closed → (emits ps ≡ []) ⊎ (ends_down (emits ps) ≡ true)
closed_emits ps rises e =
    elim (closed_where_down ps rises) [
      | inl none ↦ inl none
      | inr is ↦ inr (sym is ∙ ended_closes (log_of ps).closed ps (reported_as_it_is (loss_shown [] ps) (ended_at ps) ending.Closed e (λ k no. cc)))
    ]

-- ---- once `down` was emitted

down_is : (t : ConnectionEvent) → is_down t ≡ true → t ≡ down
down_is up e = absurd cc
down_is (message d octets) e = absurd cc
down_is down e = refl

none_left : (xs ys : List Entry) → xs ++ ys ≡ [] → ys ≡ []
none_left [] ys e = e
none_left (x ∷ xs) ys e = absurd cc

none_after : (xs ys : List Entry) → DownLast (xs ++ ys) → ends_down xs ≡ true → ys ≡ []
none_after [] ys h e = absurd cc
none_after (x ∷ xs) ys h e = by_down (is_down x.emitted) refl e (none_after xs ys h.1)
  where
    by_down : (b : Bool) → is_down x.emitted ≡ b → (b || ends_down xs) ≡ true → (ends_down xs ≡ true → ys ≡ []) → ys ≡ []
    by_down true is f later = none_left xs ys (h.0 (down_is x.emitted is))
    by_down false is f later = later f

pub down_is_all : DownIsAll
down_is_all c emitted base seen later consistent numbered e =
    let ps = places base [] (seen ++ later) in
    let sure = emitted_settled c emitted base seen later consistent numbered in
    let none : sure.0 ≡ [] = none_after (map entry_as emitted) sure.0 (subst DownLast sure.1 (all_last ps)) e in
    let whole : emits ps ≡ map entry_as emitted = sure.1 ∙ ap (λ (es : List Entry). map entry_as emitted ++ es) none ∙ append-nil (map entry_as emitted) in
    (whole, down_is_closed ps (all_rise base (seen ++ later) numbered) (ap ends_down whole ∙ e))
