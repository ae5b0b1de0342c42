-- A connection that is followed is refused where the log of an end is told.
use Rattle.std.proofs.Common.{◌≡◌, ◌++◌, ◌∷◌, ℕ, List, [], map, Option, Some, None, inl, inr, refl, sym, ap, subst, ◌∙◌}
use Rattle.std.specs.Prelude.{Result, Ok, Err, IfErr, OnErr}
use Rattle.std.proofs.lemmas.List.{append-nil, map-append}
use Rattle.capture_tcp.specs.declared.connection.Connection.{Connection}
use Rattle.capture_tcp.specs.declared.events.Event.{Event}
use Rattle.capture_tcp.specs.declared.events.Event.TheVariants as happens
use Rattle.capture_tcp.specs.declared.events.TimedEvent.{TimedEvent}
use Rattle.capture_tcp.specs.TcpStreams.{End, Seen, places}
use Rattle.capture_tcp.specs.Laws.{AreNumbered}
use Rattle.capture_tcp.specs.ReaderInvariant.{StateInvariant, TakesOn}
use Rattle.capture_tcp.specs.EventSteps.{entry_as, reported_as}
use Rattle.capture_tcp.specs.Timestamps.{AreTimed, TakesInTime, time_at}
use Rattle.capture_tcp.proofs.LastingFacts.{numbered_front}
use Rattle.capture_log.specs.BothLogs.{reception_of}
use Rattle.capture_log.specs.WrittenLog.{Refuses, Stops}
use Rattle.capture_log.specs.declared.written_log.Begun.{Begun}
use Rattle.capture_log.specs.declared.written_log.WrittenLog.{WrittenLog}
use Rattle.capture_log.specs.declared.socket_pair.Pair.{Pair}
use Rattle.capture_log.specs.declared.stop.Stop.{Stop}
use Rattle.capture_log.specs.declared.byte_buffer.Text.{Text}
use Rattle.cli_capture.specs.declared.progress.Progress.{Progress}
use Rattle.cli_capture.specs.declared.progress.Progress.TheVariants as progress
use Rattle.cli_capture.specs.declared.progress.Followed.{Followed as Taken}
use Rattle.cli_capture.specs.declared.progress.Followed.TheVariants as taken
use Rattle.cli_capture.specs.declared.tracked_connection.Logs.{Logs}
use Rattle.cli_capture.specs.declared.tracked_connection.Open.{Open}
use Rattle.cli_capture.specs.declared.report.OutputMode.TheVariants.{Log, Verdicts}
use Rattle.cli_capture.specs.declared.report.Report.{Report}
use Rattle.capture_errors.specs.declared.incomplete.Shortfall.{Shortfall}
use Rattle.capture_errors.specs.declared.incomplete.Shortfall.TheVariants as lacks
use Rattle.cli_capture.specs.TrackedConnection.{IsTooMuch, course_by_events, hears_event, logged_by, timed_by}
use Rattle.cli_capture.specs.InnerTrackedConnection.{TakesSegment, times}
use Rattle.cli_capture.specs.ConnectionLog.{and_logged, bare_resets, clock_by, clock_of, entries_logged}
use Rattle.cli_capture.specs.LogOutput.{EntriesOn, IsOpenIn, IsOver, OnPage, Page, page_of}
use Rattle.cli_capture.specs.InnerLogOutput.{HappensOn, LogsAll}
use Rattle.cli_capture.specs.LogRejection.{RefusesFor, RefusesMore, RefusesSegment, RefusesTold}
use Rattle.cli_capture.specs.InnerLogRejection.{FollowsRefused, HearsRefused, HearsThemRefused, InLog, LacksRefused, RefusesAmong, lack_left}
use Rattle.cli_capture.specs.Report.{first_of}
use Rattle.cli_capture.specs.StopError.{IsRefusalOf}
use Rattle.cli_capture.specs.InnerStopError.{IsRefused}
use Rattle.cli_capture.proofs.Connections.{bares, in_time_next, timed_now, with_bare}
use Rattle.cli_capture.proofs.Logging.{all_logged, course_timed, entries_of, can_continue}
use Rattle.cli_capture.proofs.Unrefused.{verdicts_in_log}
use Rattle.cli_capture.proofs.Paging.{Behind, LogsSoFar, subsequent, course_after, entries_on, over_ended, over_heard, page_more, same_log, timed_rest, recorded_with}

-- ---- what comes up

comes_up : (begun : Option Begun) (pair : Pair) (packet : ℕ) (e : Event) (st : Stop) → IsRefused st → Stops begun pair packet e st
    → (e ≡ happens.Up) × Refuses begun pair packet st
comes_up begun pair packet happens.Up st refused stops = (refl, stops)
comes_up begun pair packet (happens.Message from octets) st refused stops = let none : ⊥ = subst IsRefused stops refused in absurd none
comes_up begun pair packet happens.Down st refused stops = let none : ⊥ = subst IsRefused stops refused in absurd none

pub hears_refused : {T : Type 0} (result : Result T Stop) (pair : Pair) (h : TimedEvent) (j next : WrittenLog) (text : Text) (old new : Report)
    → old.manner ≡ Log j → new ≡ record old { manner = Log next; page = text } → IfErr result (Stops j.begun pair h.packet h.event)
    → OnErr result (text.octets ≡ old.page.octets) → IfErr result (λ st. HearsRefused pair h st old new)
unfolding InLog
hears_refused (Ok answer) pair h j next text old new of is stops kept = tt
hears_refused (Err st) pair h j next text old new of is stops kept = λ refused k log.
    let up = comes_up j.begun pair h.packet h.event st refused stops in
    (up.0, subst (λ (x : WrittenLog). Refuses x.begun pair h.packet st) (same_log old j k of log) up.1, ap (λ (r : Report). r.page.octets) is ∙ kept)

pub never_hears : {T : Type 0} (result : Result T Stop) (pair : Pair) (h : TimedEvent) (old new : Report) → old.manner ≡ Verdicts
    → IfErr result (λ st. HearsRefused pair h st old new)
never_hears (Ok answer) pair h old new is = tt
never_hears (Err st) pair h old new is = verdicts_in_log st old _ is

-- behind what happened before it
pub hears_them_refused : (pair : Pair) (first now : Logs) (yielded rest all : List TimedEvent) (x z : TimedEvent) (st : Stop) (old mid new : Report)
    → all ≡ yielded ++ x ∷ rest → LogsSoFar pair first old yielded now mid → z ≡ timed_by now.bare_resets.items x → HearsRefused pair z st mid new
    → HearsThemRefused pair first all st old new
unfolding InLog
hears_them_refused pair first now yielded rest all x z st old mid new whole so is processes_input refused j log =
    let all_so = so j log in
    let next = all_so.logs.next in
    let one = processes_input refused next all_so.logs.manner_is in
    record {
      front = yielded;
      h = x;
      rest = rest;
      are = whole;
      proceeds = sym all_so.logs.course_is;
      is_up = sym (ap (λ (y : TimedEvent). y.event) is) ∙ one.0;
      mid = page_of next mid;
      on = subst (λ (hs : List TimedEvent). HappensOn j.settings j.side pair hs (page_of j old) (page_of next mid))
          (all_logged (hears_event j.settings.max) (λ h. h.packet) (times first yielded) (sym all_so.logs.course_is)) all_so.logs.on;
      refused = subst (λ (y : TimedEvent). Refuses next.begun pair y.packet st) is one.1;
      text_is = one.2;
    }

-- ---- by the entries of the definition

timed_first : (time : ℕ → ℕ) (xs ys : List TimedEvent) → AreTimed time (xs ++ ys) → AreTimed time xs
timed_first time [] ys timed = tt
timed_first time (x ∷ xs) ys timed = (timed.0, timed_first time xs ys timed.1)

logged_up : (most : ℕ) (front rest : List TimedEvent) (h : TimedEvent) (e : Event) → h.event ≡ e → e ≡ happens.Up → course_by_events most front ≡ progress.Proceeds
    → logged_by most (front ++ h ∷ rest) ≡ front ++ h ∷ logged_by most rest
logged_up most front rest h e is up proceeds =
    (can_continue (hears_event most) (λ h. h.packet) front (h ∷ rest) proceeds).0
    ∙ ap (λ (x : Event). front ++ and_logged (reception_of most x) h (logged_by most rest)) (is ∙ up)

refuses_up : (j : WrittenLog) (pair : Pair) (base : End → ℕ) (before : List Seen) (s : Seen) (o : Open) (next : Connection) (now : List TimedEvent) (first : Logs) (st : Stop)
    → (old new : Report) → AreNumbered 0 (before ++ s ∷ []) → IsOpenIn j.settings.max base before o → TakesOn o.connection s [] next now
    → TakesInTime o.connection s [] next now → with_bare o.logs first s → RefusesAmong pair first now st j old new → RefusesTold j pair base before s st old new
refuses_up j pair base before s o next now first st old new numbered f takes times_on notes r =
    let most = j.settings.max in
    let seen = before ++ s ∷ [] in
    let time = time_at (places base [] seen) in
    let bare = first.bare_resets.items in
    let resets : bare ≡ bare_resets seen = bares before s o.logs.bare_resets.items bare notes.0 f.bare in
    let timed : AreTimed time now =
    timed_rest time f.emitted now (timed_now next (f.emitted ++ now) base seen numbered (in_time_next o.connection next s base before f.emitted now times_on f.consistent f.timed)) in
    let proceeds : course_by_events most r.front ≡ progress.Proceeds = course_timed most bare r.front ∙ r.proceeds in
    record {
      more = map entry_as now;
      tells_are = (recorded_with most base before s o next now numbered f takes).1;
      reason = inl (record {
        front = map entry_as r.front;
        e = entry_as r.h;
        rest = map entry_as (logged_by most r.rest);
        are = sym (entries_of most now) ∙ ap (λ (hs : List TimedEvent). map entry_as (logged_by most hs)) r.are
            ∙ ap (map entry_as) (logged_up most r.front r.rest r.h r.h.event refl r.is_up proceeds) ∙ map-append entry_as r.front (r.h ∷ logged_by most r.rest);
        is_up = ap reported_as r.is_up;
        mid = r.mid;
        on = subst (λ (ns : List ℕ). EntriesOn j.settings j.side pair (clock_by time ns) (map entry_as r.front) (page_of j old) r.mid) resets
            (entries_on j.settings j.side pair time bare r.front (page_of j old) r.mid
            (timed_first time r.front (r.h ∷ r.rest) (subst (AreTimed time) r.are timed)) r.on);
        refused = r.refused;
        text_is = r.text_is;
      });
    }

pub not_empty : {A : Type 0} (front rest : List A) (x : A) → [] ≡ front ++ x ∷ rest → ⊥
not_empty [] rest x e = cc
not_empty (y ∷ front) rest x e = cc

among_told : (t : Taken) (pair : Pair) (s : Seen) (o : Open) (first : Logs) (now : List TimedEvent) (st : Stop) (j : WrittenLog) (old new : Report)
    → TakesSegment o.connection s [] now t → with_bare o.logs first s → RefusesAmong pair first now st j old new → (base : End → ℕ) (before : List Seen)
    → AreNumbered 0 (before ++ s ∷ []) → IsOpenIn j.settings.max base before o → RefusesSegment j pair base before s st old new
among_told (taken.Proceeds next) pair s o first now st j old new takes notes r base before numbered f =
    inl (refuses_up j pair base before s o next now first st old new numbered f takes.1 takes.2 notes r)
among_told (taken.BothLogs lack) pair s o first now st j old new takes notes r base before numbered f = elim takes [
  | inl t ↦ inl (refuses_up j pair base before s o t.0 now first st old new numbered f t.4 t.5 notes r)
  | inr full ↦ absurd (not_empty r.front r.rest r.h (sym full.1 ∙ r.are))
]

pub follows_refused : (pair : Pair) (s : Seen) (o : Open) (t : Taken) (first : Logs) (empty now : List TimedEvent) (st : Stop) (old new : Report) → empty ≡ []
    → TakesSegment o.connection s empty now t → with_bare o.logs first s → HearsThemRefused pair first now st old new → FollowsRefused pair s o st old new
unfolding InLog
follows_refused pair s o t first empty now st old new none takes notes processes_input refused j log base before numbered f =
    among_told t pair s o first now st j old new (subst (λ (hs : List TimedEvent). TakesSegment o.connection s hs now t) none takes) notes
    (processes_input refused j log) base before numbered f

-- ---- what is missing

refuses_lack : (c : Progress) (l : Shortfall) (j : WrittenLog) (pair : Pair) (base : End → ℕ) (before : List Seen) (s : Seen) (o : Open) (next : Connection) (now : List TimedEvent)
    → (first logs : Logs) (st : Stop) (old mid new : Report) → AreNumbered 0 (before ++ s ∷ []) → (f : IsOpenIn j.settings.max base before o)
    → TakesOn o.connection s [] next now → TakesInTime o.connection s [] next now → with_bare o.logs first s → LogsAll pair first now c j old logs mid
    → ((b : Behind j pair base before s next f.emitted now c logs old mid) → IsOver (Some l) j.settings.max base (before ++ s ∷ []))
    → ((A : Page → Page → Type 0) (p q : Page) → OnPage c A p q → (m : Page) × A p m × (q.text ≡ m.text))
    → IsRefusalOf (first_of mid.shortfall l) st → new.page.octets ≡ mid.page.octets → RefusesTold j pair base before s st old new
refuses_lack c l j pair base before s o next now first logs st old mid new numbered f takes times_on notes all over on_page words page =
    let most = j.settings.max in
    let b = subsequent j pair base before s o next now c first logs old mid numbered f takes times_on notes all in
    let there = on_page (EntriesOn j.settings j.side pair (clock_of base (before ++ s ∷ [])) (entries_logged most b.more)) (page_of j old) (page_of b.last mid) b.on in
    record {
      more = b.more;
      tells_are = b.tells_are;
      reason = inr (record {
        lack = l;
        lacks = over b;
        words = subst (λ (x : Option Shortfall). IsRefusalOf (first_of x l) st) (ap (λ (r : Report). r.shortfall) b.same) words;
        mid = there.0;
        on = there.1;
        text_is = page ∙ there.2;
      });
    }

goes_page : (A : Page → Page → Type 0) (p q : Page) → OnPage progress.Proceeds A p q → (m : Page) × A p m × (q.text ≡ m.text)
goes_page A p q on = (q, on, refl)

over_page : (lack : Shortfall) (A : Page → Page → Type 0) (p q : Page) → OnPage (progress.Over (Some lack)) A p q → (m : Page) × A p m × (q.text ≡ m.text)
over_page lack A p q on = on

left_over : (lack : Option Shortfall) (j : WrittenLog) (pair : Pair) (base : End → ℕ) (before : List Seen) (s : Seen) (o : Open) (next : Connection) (now : List TimedEvent)
    → (first logs : Logs) (st : Stop) (old mid new : Report) → AreNumbered 0 (before ++ s ∷ []) → IsOpenIn j.settings.max base before o
    → TakesOn o.connection s [] next now → TakesInTime o.connection s [] next now → with_bare o.logs first s → LogsAll pair first now (progress.Over lack) j old logs mid
    → RefusesFor lack st mid new → RefusesTold j pair base before s st old new
left_over None j pair base before s o next now first logs st old mid new numbered f takes times_on notes all r = let none : ⊥ = (let is = r.lack_is in cc) in absurd none
left_over (Some l) j pair base before s o next now first logs st old mid new numbered f takes times_on notes all r =
    let same : r.lack ≡ l = (let is = r.lack_is in cc) in
    refuses_lack (progress.Over (Some l)) l j pair base before s o next now first logs st old mid new numbered f takes times_on notes all
    (λ b. over_heard j.settings.max base (before ++ s ∷ []) next (f.emitted ++ now) (Some l) numbered b.consistent b.course_is) (over_page l)
    (subst (λ (x : Shortfall). IsRefusalOf (first_of mid.shortfall x) st) same r.words) r.page_is

-- with it too much would wait
left_full : (lack : Option Shortfall) (j : WrittenLog) (pair : Pair) (base : End → ℕ) (before : List Seen) (s : Seen) (o : Open) (now : List TimedEvent)
    → (first logs : Logs) (st : Stop) (old mid new : Report) → AreNumbered 0 (before ++ s ∷ []) → IsOpenIn j.settings.max base before o → lack ≡ Some (lacks.Full s.packet)
    → now ≡ [] → ((base : End → ℕ) (before : List Seen) (away : List TimedEvent) → StateInvariant o.connection (away ++ []) base before → IsTooMuch base before s)
    → LogsAll pair first now progress.Proceeds j old logs mid → RefusesFor lack st mid new → RefusesMore j.settings base before s st old new
left_full lack j pair base before s o now first logs st old mid new numbered f lack_is none much all r =
    let earlier = numbered_front 0 before (s ∷ []) numbered in
    let same : r.lack ≡ lacks.Full s.packet = (let is = r.lack_is in cc) in
    let nothing : page_of all.logs.next mid ≡ page_of j old =
    subst (λ (hs : List TimedEvent). HappensOn j.settings j.side pair (logged_by j.settings.max (times first hs)) (page_of j old) (page_of all.logs.next mid)) none all.logs.on in
    record {
      more = page_more j.settings base before o earlier f;
      past = much base before f.emitted (subst (λ (hs : List TimedEvent). StateInvariant o.connection hs base before) (sym (append-nil f.emitted)) f.consistent);
      refused = record {
        lack = lacks.Full s.packet;
        lack_is = refl;
        words = subst (λ (x : Option Shortfall). IsRefusalOf (first_of x (lacks.Full s.packet)) st) (ap (λ (r : Report). r.shortfall) all.logs.same)
            (subst (λ (x : Shortfall). IsRefusalOf (first_of mid.shortfall x) st) same r.words);
        page_is = r.page_is ∙ ap (λ (p : Page). p.text) nothing;
      };
    }

left : (c : Progress) (t : Taken) (pair : Pair) (s : Seen) (o : Open) (first logs : Logs) (now : List TimedEvent) (st : Stop) (j : WrittenLog) (old mid new : Report)
    → TakesSegment o.connection s [] now t → with_bare o.logs first s → LogsAll pair first now c j old logs mid → RefusesFor (lack_left c t) st mid new
    → (base : End → ℕ) (before : List Seen) → AreNumbered 0 (before ++ s ∷ []) → IsOpenIn j.settings.max base before o → RefusesSegment j pair base before s st old new
left progress.Proceeds (taken.Proceeds next) pair s o first logs now st j old mid new takes notes all r base before numbered f =
    let none : ⊥ = (let is = r.lack_is in cc) in absurd none
left progress.Proceeds (taken.BothLogs lack) pair s o first logs now st j old mid new takes notes all r base before numbered f = elim takes [
  | inl t ↦ inl (refuses_lack progress.Proceeds r.lack j pair base before s o t.0 now first logs st old mid new numbered f t.4 t.5 notes all
      (λ b. subst (λ (l : Option Shortfall). IsOver l j.settings.max base (before ++ s ∷ [])) (sym t.3 ∙ r.lack_is)
      (over_ended j.settings.max base (before ++ s ∷ []) t.0 (f.emitted ++ now) t.1 numbered b.consistent t.2 b.course_is)) goes_page r.words r.page_is)
  | inr full ↦ inr (left_full lack j pair base before s o now first logs st old mid new numbered f full.0 full.1 full.2 all r)
]
left (progress.Over lack) (taken.Proceeds next) pair s o first logs now st j old mid new takes notes all r base before numbered f =
    inl (left_over lack j pair base before s o next now first logs st old mid new numbered f takes.1 takes.2 notes all r)
left (progress.Over lack) (taken.BothLogs other) pair s o first logs now st j old mid new takes notes all r base before numbered f = elim takes [
  | inl t ↦ inl (left_over lack j pair base before s o t.0 now first logs st old mid new numbered f t.4 t.5 notes all r)
  | inr full ↦
      let course_is = course_after j.settings.max first.bare_resets.items f.emitted now (progress.Over lack) f.proceeds all.logs.course_is in
      let emitted : f.emitted ++ now ≡ f.emitted = ap (λ (hs : List TimedEvent). f.emitted ++ hs) full.1 ∙ append-nil f.emitted in
      let no : progress.Proceeds ≡ progress.Over lack = sym f.proceeds ∙ ap (course_by_events j.settings.max) (sym emitted) ∙ course_is in
      absurd cc
]

pub follows_left : (pair : Pair) (s : Seen) (o : Open) (t : Taken) (c : Progress) (first logs : Logs) (empty now : List TimedEvent) (st : Stop) (old mid new : Report)
    → empty ≡ [] → TakesSegment o.connection s empty now t → with_bare o.logs first s → ((j : WrittenLog) → old.manner ≡ Log j → LogsAll pair first now c j old logs mid)
    → LacksRefused (lack_left c t) st mid new → FollowsRefused pair s o st old new
unfolding InLog
follows_left pair s o t c first logs empty now st old mid new none takes notes processes_input lacking refused j log base before numbered f =
    let all = processes_input j log in
    left c t pair s o first logs now st j old mid new (subst (λ (hs : List TimedEvent). TakesSegment o.connection s hs now t) none takes) notes all
    (lacking refused all.logs.next all.logs.manner_is) base before numbered f

-- ---- what is noted

pub noted_refused : (shortfall : Option Shortfall) (lack first : Shortfall) (st : Stop) (old new : Report) → shortfall ≡ Some lack
    → first ≡ first_of old.shortfall lack → IsRefusalOf first st → new.page.octets ≡ old.page.octets → LacksRefused shortfall st old new
unfolding InLog
noted_refused shortfall lack first st old new is first_is words page refused j log = record {
  lack = lack;
  lack_is = is;
  words = subst (λ (x : Shortfall). IsRefusalOf x st) first_is words;
  page_is = page;
}
