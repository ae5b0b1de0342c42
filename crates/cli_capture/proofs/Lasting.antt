-- What was told of a connection that is over stays, whichever segments follow.
use Rattle.std.proofs.Common.{◌≡◌, ◌<◌, ◌||◌, ◌&&◌, ◌++◌, ◌∷◌, ℕ, Bool, true, false, nat_eq, List, [], map, Option, None, is_some, is_none, refl, sym, ap, subst, ◌∙◌, arith, inl, inr}
use Rattle.std.proofs.lemmas.Bool.{eqb-true, ne_eqb}
use Rattle.std.proofs.lemmas.Grind.{flat_map-append}
use Rattle.std.specs.List.{list_any}
use Rattle.capture_tcp.specs.declared.ending.Ending.{Ending}
use Rattle.capture_tcp.specs.declared.ending.Ending.TheVariants as ending
use Rattle.capture_tcp.specs.declared.events.Event.{Event}
use Rattle.capture_tcp.specs.declared.events.Event.TheVariants as happens
use Rattle.capture_tcp.specs.declared.events.TimedEvent.{TimedEvent}
use Rattle.capture_tcp.specs.TcpStreams.{End, Placed, Seen, places}
use Rattle.capture_tcp.specs.ReaderState.{AreRising}
use Rattle.capture_tcp.specs.EndOfStream.{ended}
use Rattle.capture_tcp.specs.Laws.{AreNumbered, EachEntry}
use Rattle.capture_tcp.specs.EventSteps.{entry_as, reported_as}
use Rattle.capture_tcp.specs.ConnectionEvents.{Entry, ends_down, is_down, emits}
use Rattle.capture_tcp.proofs.LastingFacts.{emitted_at_packets}
use Rattle.capture_tcp.proofs.UpToDown.{closed_emits}
use Rattle.capture_log.specs.BothLogs.{reception_of}
use Rattle.capture_log.specs.declared.both_logs.LogResult.{LogResult}
use Rattle.capture_log.specs.declared.both_logs.LogResult.TheVariants as reception
use Rattle.cli_capture.specs.declared.progress.Progress.TheVariants as progress
use Rattle.capture_errors.specs.declared.incomplete.Shortfall.{Shortfall}
use Rattle.cli_capture.specs.Progress.{lack_behind}
use Rattle.cli_capture.specs.ConnectionLog.{and_course, and_logged, bare_if, bare_of, bare_resets, hears_entry, is_among, logged}
use Rattle.cli_capture.specs.TrackedConnection.{came_up_by, course_by_events, logged_by, time_by, timed_by}
use Rattle.cli_capture.proofs.Logging.{entries_of}

-- ---- entries at some packets

pub each_front : (P : ℕ → Type 0) (xs ys : List Entry) → EachEntry P (xs ++ ys) → EachEntry P xs
each_front P [] ys h = tt
each_front P (x ∷ xs) ys h = (h.0, each_front P xs ys h.1)

pub weaken : (P Q : ℕ → Type 0) (es : List Entry) → ((n : ℕ) → P n → Q n) → EachEntry P es → EachEntry Q es
weaken P Q [] f h = tt
weaken P Q (e ∷ es) f h = (f e.packet h.0, weaken P Q es f h.1)

each_logged : (P : ℕ → Type 0) (processes_input : Entry → LogResult) (es : List Entry) → EachEntry P es → EachEntry P (logged processes_input es)
each_logged P processes_input [] h = tt
each_logged P processes_input (e ∷ es) h = by_heard (processes_input e) (each_logged P processes_input es h.1)
  where
    by_heard : (answer : LogResult) → EachEntry P (logged processes_input es) → EachEntry P (and_logged answer e (logged processes_input es))
    by_heard reception.Proceeds rest = (h.0, rest)
    by_heard reception.Down rest = (h.0, tt)
    by_heard reception.Length rest = tt

-- ---- packets behind them

pub numbered_lower : (m n : ℕ) (ss : List Seen) → m < n → AreNumbered n ss → AreNumbered m ss
numbered_lower m n [] lt h = tt
numbered_lower m n (s ∷ ss) lt h = (omega (arith, lt, h.0), h.1)

pub numbered_behind : (last : ℕ) (xs ys : List Seen) → AreNumbered last (xs ++ ys) → AreNumbered last ys
numbered_behind last [] ys h = h
numbered_behind last (x ∷ xs) ys h = numbered_lower last x.packet ys h.0 (numbered_behind x.packet xs ys h.1)

pub numbered_at : (last n : ℕ) (seen later : List Seen) → AreNumbered last (seen ++ later) → list_any (λ s. nat_eq s.packet n) seen ≡ true → AreNumbered n later
numbered_at last n [] later h e = absurd cc
numbered_at last n (s ∷ ss) later h e = by_test (nat_eq s.packet n) refl e (numbered_at s.packet n ss later h.1)
  where
    by_test : (b : Bool) → nat_eq s.packet n ≡ b → (b || list_any (λ (x : Seen). nat_eq x.packet n) ss) ≡ true
        → (list_any (λ (x : Seen). nat_eq x.packet n) ss ≡ true → AreNumbered n later) → AreNumbered n later
    by_test true is e rest = subst (λ (k : ℕ). AreNumbered k later) (eqb-true s.packet n is) (numbered_behind s.packet ss later h.1)
    by_test false is e rest = rest e

none_among : (n : ℕ) (later : List Seen) → AreNumbered n later → is_among (bare_resets later) n ≡ false
none_among n [] h = refl
none_among n (s ∷ ss) h = by_bare (s.reset && is_none s.acknowledged) (none_among n ss (numbered_lower n s.packet ss h.0 h.1))
  where
    by_bare : (b : Bool) → is_among (bare_resets ss) n ≡ false → is_among (bare_if b s.packet ++ bare_resets ss) n ≡ false
    by_bare true rest = let lt = h.0 in rw (ne_eqb s.packet n (λ e. omega (arith, e, lt))) rest
    by_bare false rest = rest

-- ---- times that stay

among_more : (xs ys : List ℕ) (n : ℕ) → is_among ys n ≡ false → is_among (xs ++ ys) n ≡ is_among xs n
among_more [] ys n none = none
among_more (x ∷ xs) ys n none = ap (λ (b : Bool). nat_eq x n || b) (among_more xs ys n none)

times_more : (bare more : List ℕ) (hs : List TimedEvent) → EachEntry (λ n. is_among more n ≡ false) (map entry_as hs)
    → map (timed_by (bare ++ more)) hs ≡ map (timed_by bare) hs
times_more bare more [] h = refl
times_more bare more (x ∷ hs) h =
    ap (λ (b : Bool). (let one : TimedEvent = record x { time = time_by x.event b x.time } in one) ∷ map (timed_by (bare ++ more)) hs) (among_more bare more x.packet h.0)
    ∙ ap (λ (ys : List TimedEvent). timed_by bare x ∷ ys) (times_more bare more hs h.1)

-- a packet that resets the connection behind what was told changes no time of it
pub times_last : (most : ℕ) (base : End → ℕ) (seen later : List Seen) (emitted : List TimedEvent) (rest : List Entry) → AreNumbered 0 (seen ++ later)
    → emits (places base [] seen) ≡ map entry_as emitted ++ rest
    → map (timed_by (bare_resets (seen ++ later))) (logged_by most emitted) ≡ map (timed_by (bare_resets seen)) (logged_by most emitted)
times_last most base seen later emitted rest numbered is =
    let P : ℕ → Type 0 = λ n. list_any (λ s. nat_eq s.packet n) seen ≡ true in
    let Q : ℕ → Type 0 = λ n. is_among (bare_resets later) n ≡ false in
    let front = each_front P (map entry_as emitted) rest (subst (EachEntry P) is (emitted_at_packets base seen)) in
    let none = weaken P Q (map entry_as emitted) (λ n e. none_among n later (numbered_at 0 n seen later numbered e)) front in
    ap (λ (ns : List ℕ). map (timed_by ns) (logged_by most emitted)) (flat_map-append bare_of seen later)
    ∙ times_more (bare_resets seen) (bare_resets later) (logged_by most emitted)
    (subst (EachEntry Q) (sym (entries_of most emitted)) (each_logged Q (hears_entry most) (map entry_as emitted) none))

-- ---- what it lacks stays

pub lack_lasts : (e : Ending) (lack missing : Option Shortfall) → lack ≡ lack_behind e None → (e ≡ ending.Complete → ⊥) → lack ≡ lack_behind e missing
lack_lasts ending.Closed lack missing is sure = is
lack_lasts ending.Complete lack missing is sure = absurd (sure refl)
lack_lasts (ending.Lost packet) lack missing is sure = is
lack_lasts (ending.Differs packet) lack missing is sure = is

never : (b : Bool) → (b && false) ≡ false
never true = refl
never false = refl

-- one that is over goes down no more, where anything is told of it
pub never_closes : (e : Ending) (up replaced : Bool) (lack : Option Shortfall) → lack ≡ lack_behind e None → (e ≡ ending.Complete → ⊥) → (e ≡ ending.Closed → up ≡ false)
    → (up || is_some lack) ≡ true → (replaced && is_none lack) ≡ false
never_closes ending.Closed up replaced lack is sure down emitted =
    let no : (up || is_some lack) ≡ false = rw (down refl, is) refl in
    absurd cc
never_closes ending.Complete up replaced lack is sure down emitted = absurd (sure refl)
never_closes (ending.Lost packet) up replaced lack is sure down emitted = rw is (never replaced)
never_closes (ending.Differs packet) up replaced lack is sure down emitted = rw is (never replaced)

-- ---- one that is over, and went down in no entry, tells nothing

not_down : (most : ℕ) (e : Event) → reception_of most e ≡ reception.Proceeds → is_down (reported_as e) ≡ false
not_down most happens.Up proceeds = refl
not_down most (happens.Message from octets) proceeds = refl
not_down most happens.Down proceeds = absurd cc

none_down : (most : ℕ) (hs : List TimedEvent) → course_by_events most hs ≡ progress.Proceeds → ends_down (map entry_as hs) ≡ false
none_down most [] proceeds = refl
none_down most (h ∷ hs) proceeds = by_heard (reception_of most h.event) refl proceeds (none_down most hs)
  where
    by_heard : (answer : LogResult) → reception_of most h.event ≡ answer → and_course answer h.packet (course_by_events most hs) ≡ progress.Proceeds
        → (course_by_events most hs ≡ progress.Proceeds → ends_down (map entry_as hs) ≡ false) → (is_down (reported_as h.event) || ends_down (map entry_as hs)) ≡ false
    by_heard reception.Proceeds is proceeds rest = rw (not_down most h.event is) (rest proceeds)
    by_heard reception.Down is proceeds rest = absurd cc
    by_heard reception.Length is proceeds rest = absurd cc

nothing_up : (hs : List TimedEvent) → map entry_as hs ≡ [] → came_up_by hs ≡ false
nothing_up [] e = refl
nothing_up (h ∷ hs) e = absurd cc

pub closed_never_up : (most : ℕ) (ps : List Placed) (hs : List TimedEvent) → AreRising 0 ps → map entry_as hs ≡ emits ps → course_by_events most hs ≡ progress.Proceeds
    → ended ps ≡ ending.Closed → came_up_by hs ≡ false
closed_never_up most ps hs rises is proceeds closed =
    elim (closed_emits ps rises closed) [
      | inl none ↦ nothing_up hs (is ∙ none)
      | inr down ↦ absurd (let no : ends_down (map entry_as hs) ≡ false = none_down most hs proceeds in let yes : ends_down (map entry_as hs) ≡ true = ap ends_down is ∙ down in cc)
    ]
