-- A connection that is followed, segment by segment and to its end.
use Rattle.std.proofs.Common.{◌≡◌, ◌<◌, ◌+◌, ◌||◌, ◌&&◌, ◌++◌, ◌∷◌, ℕ, Bool, true, false, not, List, [], length, take, drop, get_or, map, Option, Some, None, is_some, is_none, Box, Global, inl, inr, refl, sym, ap, subst, ◌∙◌, append_assoc}
use Rattle.std.specs.Prelude.{Result, Ok, Err, IfOk, OnOk}
use Rattle.std.proofs.lemmas.List.{append-nil, drop_more, map-append, map-id, take-append-drop}
use Rattle.std.proofs.lemmas.Grind.{flat_map-append}
use Rattle.hsms_machine.specs.Settings.{Parameters}
use Rattle.capture_tcp.specs.declared.connection.Connection.{Connection}
use Rattle.capture_tcp.specs.declared.ending.Ending.{Ending}
use Rattle.capture_tcp.specs.declared.ending.Ending.TheVariants.{Closed as closed_ending}
use Rattle.capture_tcp.specs.declared.connection.ConnectionFault.{ConnectionFault}
use Rattle.capture_tcp.specs.declared.connection.ConnectionFault.TheVariants as stop
use Rattle.capture_tcp.specs.declared.events.TimedEvent.{TimedEvent}
use Rattle.capture_tcp.specs.TcpStreams.{End, Seen, places}
use Rattle.capture_tcp.specs.EndOfStream.{ended}
use Rattle.capture_tcp.specs.KnownStreams.{bases}
use Rattle.capture_tcp.specs.Laws.{AreNumbered}
use Rattle.capture_tcp.specs.ReaderInvariant.{EndsAs, StateInvariant, TakesOn}
use Rattle.capture_tcp.specs.Limits.{ContinuesBy, StopsBy}
use Rattle.capture_tcp.specs.EventSteps.{entry_as}
use Rattle.capture_tcp.specs.Timestamps.{AreTimed, EndsInTime, IsInTime, TakesInTime, time_at}
use Rattle.capture_tcp.specs.ConnectionEvents.{Entry, emits}
use Rattle.capture_tcp.proofs.MonotonicTimes.{timed_later}
use Rattle.capture_tcp.proofs.Connecting.{all_rise, emitted_at_once, emitted_settled}
use Rattle.capture_tcp.proofs.LastingFacts.{ending_sure, numbered_front}
use Rattle.capture_log.specs.declared.both_logs.BothLogs.{BothLogs}
use Rattle.capture_log.specs.declared.socket_pair.Pair.{Pair}
use Rattle.cli_capture.specs.declared.progress.Progress.{Progress}
use Rattle.cli_capture.specs.declared.progress.Progress.TheVariants as progress
use Rattle.cli_capture.specs.declared.progress.Followed.{Followed as Taken}
use Rattle.cli_capture.specs.declared.progress.Followed.TheVariants as taken
use Rattle.cli_capture.specs.declared.tracked_connection.Logs.{Logs}
use Rattle.cli_capture.specs.declared.tracked_connection.Open.{Open}
use Rattle.cli_capture.specs.declared.tracked_connection.Waiting.{Waiting}
use Rattle.cli_capture.specs.declared.report.OutputMode.TheVariants.{Verdicts}
use Rattle.cli_capture.specs.declared.report.Report.{Report}
use Rattle.capture_errors.specs.declared.incomplete.Shortfall.{Shortfall}
use Rattle.capture_errors.specs.declared.incomplete.Shortfall.TheVariants as lacks
use Rattle.cli_capture.specs.Progress.{lack_behind}
use Rattle.cli_capture.specs.ConnectionLog.{Shown, TellsIf, TellsOf, ToldForGood, ToldOf, bare_of, bare_resets, came_up, clock_of, course_by, entries_logged, is_replaced_by, is_there}
use Rattle.cli_capture.specs.TrackedConnection.{AllFit, MayTellMore, GivesUp, IsTooMuch, WhenTold, came_up_by, course_by_events, hears_event, logged_by, timed_by}
use Rattle.cli_capture.specs.InnerTrackedConnection.{BeginsWith, DownBy, EndsHave, EndsOpen, Follows, FollowsAll, FollowsOn, FollowsThem, ContinuesWith, HearsThem, IsFollowed, Replaces, TakesSegment, seen_waiting, unboxed_ends}
use Rattle.cli_capture.proofs.Lasting.{closed_never_up, lack_lasts, never_closes, times_last}
use Rattle.cli_capture.proofs.Logging.{all_logged, course_of_entries, times_stay}
use Rattle.cli_capture.proofs.Concluding.{ClosedBy, HeardAfter, all_heard, closed_by_next, ended_told, have_closed, heard_after, nothing_there, over_told, tells_if, there_same}

-- ---- segments are numbered

numbered_all : (xs : List Seen) → AreNumbered 0 xs → AreNumbered 0 (xs ++ [])
numbered_all xs h = subst (AreNumbered 0) (sym (append-nil xs)) h

-- ---- one segment more

abbrev pub with_bare : Logs → Logs → Seen → Type 0
with_bare old first s =
    (first.bare_resets.items ≡ old.bare_resets.items ++ bare_of s) × (first.ends ≡ old.ends) × (first.is_up ≡ old.is_up)

pub stands_next : (c next : Connection) (s : Seen) (base : End → ℕ) (before : List Seen) (emitted now : List TimedEvent) → TakesOn c s [] next now
    → AreNumbered 0 (before ++ s ∷ []) → StateInvariant c emitted base before → StateInvariant next (emitted ++ now) base (before ++ s ∷ [])
stands_next c next s base before emitted now takes numbered consistent =
    takes base before emitted numbered (subst (λ (hs : List TimedEvent). StateInvariant c hs base before) (sym (append-nil emitted)) consistent)

pub in_time_next : (c next : Connection) (s : Seen) (base : End → ℕ) (before : List Seen) (emitted now : List TimedEvent) → TakesInTime c s [] next now
    → StateInvariant c emitted base before → IsInTime c emitted base before → IsInTime next (emitted ++ now) base (before ++ s ∷ [])
in_time_next c next s base before emitted now takes consistent timed =
    takes base before emitted (subst (λ (hs : List TimedEvent). StateInvariant c hs base before) (sym (append-nil emitted)) consistent)
    (subst (λ (hs : List TimedEvent). IsInTime c hs base before) (sym (append-nil emitted)) timed)

pub timed_now : (c : Connection) (emitted : List TimedEvent) (base : End → ℕ) (seen : List Seen) → AreNumbered 0 seen → IsInTime c emitted base seen
    → AreTimed (time_at (places base [] seen)) emitted
timed_now c emitted base seen numbered timed =
    subst (λ (z : List Seen). AreTimed (time_at (places base [] z)) emitted) (append-nil seen) (timed_later c emitted base seen [] (numbered_all seen numbered) timed)

pub bares : (before : List Seen) (s : Seen) (old new : List ℕ) → new ≡ old ++ bare_of s → old ≡ bare_resets before → new ≡ bare_resets (before ++ s ∷ [])
bares before s old new is was =
    is ∙ ap (λ (ns : List ℕ). ns ++ bare_of s) was ∙ ap (λ (ns : List ℕ). bare_resets before ++ ns) (sym (append-nil (bare_of s)))
    ∙ sym (flat_map-append bare_of before (s ∷ []))

-- with a segment that is taken, and with which it goes on, too much doesn't wait
pub not_much : (c : Connection) (s : Seen) (emitted : List TimedEvent) (base : End → ℕ) (before : List Seen) → ContinuesBy c [] s → c.ending ≡ None → StateInvariant c emitted base before
    → IsTooMuch base before s → ⊥
not_much c s emitted base before proceeds none consistent much =
    let not = proceeds none base before emitted (subst (λ (hs : List TimedEvent). StateInvariant c hs base before) (sym (append-nil emitted)) consistent) in
    elim much [ inl far ↦ not.0 far | inr past ↦ not.1 past ]

pub fits_next : (base : End → ℕ) (before ss : List Seen) (s : Seen) → AllFit base before ss → (IsTooMuch base (before ++ ss) s → ⊥) → AllFit base before (ss ++ s ∷ [])
fits_next base before [] s fit not = (λ much. not (subst (λ (z : List Seen). IsTooMuch base z s) (sym (append-nil before)) much), tt)
fits_next base before (x ∷ xs) s fit not =
    (fit.0, fits_next base (before ++ x ∷ []) xs s fit.1 (λ much. not (subst (λ (z : List Seen). IsTooMuch base z s) (append_assoc before (x ∷ []) xs) much)))

heard_next : (a p : Parameters) (base : End → ℕ) (before : List Seen) (s : Seen) (o : Open) (first logs : Logs) (now : List TimedEvent) (c : Progress)
    → (f : IsFollowed a p base before o) → with_bare o.logs first s → HearsThem a p first now c logs
    → HeardAfter a p (bare_resets (before ++ s ∷ [])) (f.emitted ++ now) c logs
heard_next a p base before s o first logs now c f notes processes_input =
    subst (λ (ns : List ℕ). HeardAfter a p ns (f.emitted ++ now) c logs) (bares before s o.logs.bare_resets.items first.bare_resets.items notes.0 f.bare)
    (heard_after a p f.emitted now first logs c f.proceeds (notes.2 ∙ f.up) (subst (EndsHave a p f.emitted) (sym notes.1) f.ends) processes_input)

pub follow_over : (a p : Parameters) (pair : Pair) (base : End → ℕ) (before : List Seen) (s : Seen) (o : Open) (next : Connection) (first logs : Logs) (now : List TimedEvent)
    → (lack : Option Shortfall) (old new : Report) → AreNumbered 0 (before ++ s ∷ []) → IsFollowed a p base before o → TakesOn o.connection s [] next now
    → TakesInTime o.connection s [] next now → with_bare o.logs first s → HearsThem a p first now (progress.Over lack) logs
    → WhenTold (logs.is_up || is_some lack) pair lack (unboxed_ends logs.ends) old new → ToldForGood a p pair base (before ++ s ∷ []) old new
follow_over a p pair base before s o next first logs now lack old new numbered f takes times notes processes_input when later replaced missing whole =
    let seen = before ++ s ∷ [] in
    let all = f.emitted ++ now in
    let consistent = stands_next o.connection next s base before f.emitted now takes numbered f.consistent in
    let here = emitted_settled next all base seen [] consistent (numbered_all seen numbered) in
    let sure = emitted_settled next all base seen later consistent whole in
    over_told a p pair base (seen ++ later) replaced missing all sure.0 lack (bare_resets seen) logs old new
    (timed_later next all base seen later whole (in_time_next o.connection next s base before f.emitted now times f.consistent f.timed)) sure.1
    (times_last a.max base seen later all here.0 whole (subst (λ (z : List Seen). emits (places base [] z) ≡ map entry_as all ++ here.0) (append-nil seen) here.1))
    (heard_next a p base before s o first logs now (progress.Over lack) f notes processes_input) when

pub follow_ended : (a p : Parameters) (pair : Pair) (base : End → ℕ) (before : List Seen) (s : Seen) (o : Open) (next : Connection) (ending : Ending) (first logs : Logs)
    → (now : List TimedEvent) (lack : Option Shortfall) (old new : Report) → AreNumbered 0 (before ++ s ∷ []) → IsFollowed a p base before o → TakesOn o.connection s [] next now
    → TakesInTime o.connection s [] next now → next.ending ≡ Some ending → lack ≡ lack_behind ending None → with_bare o.logs first s
    → HearsThem a p first now progress.Proceeds logs → WhenTold (logs.is_up || is_some lack) pair lack (unboxed_ends logs.ends) old new
    → ToldForGood a p pair base (before ++ s ∷ []) old new
follow_ended a p pair base before s o next ending first logs now lack old new numbered f takes times is lack_is notes processes_input when later replaced missing whole =
    let seen = before ++ s ∷ [] in
    let all = f.emitted ++ now in
    let ps = places base [] (seen ++ later) in
    let consistent = stands_next o.connection next s base before f.emitted now takes numbered f.consistent in
    let sure = ending_sure next all ending base seen later is consistent whole in
    let h = heard_next a p base before s o first logs now progress.Proceeds f notes processes_input in
    let up : logs.is_up ≡ came_up_by all = h.up ∙ ap came_up_by (all_logged (hears_event a.max) (λ h. h.packet) all h.course_is) in
    let down : ending ≡ closed_ending → logs.is_up ≡ false =
    λ e. up ∙ closed_never_up a.max ps all (all_rise base (seen ++ later) whole) sure.0 h.course_is (sym sure.1 ∙ e) in
    ended_told a p pair base (seen ++ later) replaced missing all ending lack (replaced && is_none lack) logs.is_up (unboxed_ends logs.ends) old new
    (timed_later next all base seen later whole (in_time_next o.connection next s base before f.emitted now times f.consistent f.timed)) sure.0 sure.1 h.course_is up
    (lack_lasts ending lack missing lack_is sure.2) refl
    (λ emitted. subst (λ (b : Bool). ClosedBy (is_there all) b a p all (unboxed_ends logs.ends)) (sym (never_closes ending logs.is_up replaced lack lack_is sure.2 down emitted))
    (have_closed a p all logs.ends (all_heard a p (bare_resets seen) all logs h))) when

pub follow_goes : (a p : Parameters) (base : End → ℕ) (before : List Seen) (s : Seen) (o : Open) (next : Connection) (first logs : Logs) (now : List TimedEvent)
    → AreNumbered 0 (before ++ s ∷ []) → IsFollowed a p base before o → next.ending ≡ None → TakesOn o.connection s [] next now
    → TakesInTime o.connection s [] next now → ContinuesBy o.connection [] s → with_bare o.logs first s → HearsThem a p first now progress.Proceeds logs
    → IsFollowed a p base (before ++ s ∷ []) (record { connection = next; logs = logs })
follow_goes a p base before s o next first logs now numbered f open_still takes times proceeds notes processes_input =
    let seen = before ++ s ∷ [] in
    let all = f.emitted ++ now in
    let h = heard_next a p base before s o first logs now progress.Proceeds f notes processes_input in
    record {
      emitted = all;
      unended = open_still;
      consistent = stands_next o.connection next s base before f.emitted now takes numbered f.consistent;
      timed = in_time_next o.connection next s base before f.emitted now times f.consistent f.timed;
      proceeds = h.course_is;
      up = h.up ∙ ap came_up_by (all_logged (hears_event a.max) (λ h. h.packet) all h.course_is);
      bare = h.bare_is;
      ends = all_heard a p (bare_resets seen) all logs h;
      fit = fits_next base [] before s f.fit (not_much o.connection s f.emitted base before proceeds f.unended f.consistent);
    }

-- behind these segments all is told that is known of it, and more may follow
pub told_now : (a p : Parameters) (base : End → ℕ) (seen : List Seen) (o : Open) → AreNumbered 0 seen → (f : IsFollowed a p base seen o)
    → map entry_as f.emitted ≡ emits (places base [] seen)
told_now a p base seen o numbered f = (emitted_at_once o.connection f.emitted base seen f.consistent numbered).0

pub tells_more : (a p : Parameters) (base : End → ℕ) (seen : List Seen) (o : Open) → AreNumbered 0 seen → IsFollowed a p base seen o → MayTellMore a base seen
unfolding MayTellMore
tells_more a p base seen o numbered f = (
  ap (course_by a.max) (sym (told_now a p base seen o numbered f)) ∙ sym (course_of_entries a.max f.emitted) ∙ f.proceeds,
  sym (emitted_at_once o.connection f.emitted base seen f.consistent numbered).1 ∙ ap is_some f.unended,
  f.fit,
)

-- a segment is taken with which it is given up: nothing is told with it
never_replaced : (c : Progress) (lack : Option Shortfall) → is_replaced_by false c lack ≡ false
never_replaced progress.Proceeds lack = refl
never_replaced (progress.Over other) lack = refl

pub follow_full : (a p : Parameters) (pair : Pair) (base : End → ℕ) (before : List Seen) (s : Seen) (o : Open) (first logs : Logs) (now : List TimedEvent)
    → (lack : Option Shortfall) (old new : Report) → AreNumbered 0 (before ++ s ∷ []) → IsFollowed a p base before o → lack ≡ Some (lacks.Full s.packet) → now ≡ []
    → ((base : End → ℕ) (before : List Seen) (away : List TimedEvent) → StateInvariant o.connection (away ++ []) base before → IsTooMuch base before s) → with_bare o.logs first s → HearsThem a p first now progress.Proceeds logs → WhenTold (logs.is_up || is_some lack) pair lack (unboxed_ends logs.ends) old new
    → GivesUp a p pair base before s old new
follow_full a p pair base before s o first logs now lack old new numbered f lack_is none much notes processes_input when =
    let earlier = numbered_front 0 before (s ∷ []) numbered in
    let emitted = f.emitted in
    let es = map entry_as emitted in
    let full = Some (lacks.Full s.packet) in
    let all : emitted ++ now ≡ emitted = ap (λ (hs : List TimedEvent). emitted ++ hs) none ∙ append-nil emitted in
    let h = subst (λ (hs : List TimedEvent). HeardAfter a p (bare_resets (before ++ s ∷ [])) hs progress.Proceeds logs) all (heard_next a p base before s o first logs now progress.Proceeds f notes processes_input) in
    let whole = all_logged (hears_event a.max) (λ h. h.packet) emitted f.proceeds in
    let have = have_closed a p emitted logs.ends (all_heard a p (bare_resets (before ++ s ∷ [])) emitted logs h) in
    let has : ClosedBy (is_there es) false a p (map (timed_by (bare_resets before)) (logged_by a.max emitted)) (unboxed_ends logs.ends) =
    subst (λ (hs : List TimedEvent). ClosedBy (is_there es) false a p hs (unboxed_ends logs.ends)) (sym (ap (map (timed_by (bare_resets before))) whole ∙ times_stay a.max (bare_resets before) emitted f.proceeds))
    (subst (λ (b : Bool). ClosedBy b false a p emitted (unboxed_ends logs.ends)) (sym (there_same emitted)) have) in
    let says = tells_if a p pair (time_at (places base [] before)) (bare_resets before) emitted es false full logs.is_up (unboxed_ends logs.ends) old new
    (timed_now o.connection emitted base before earlier f.timed) refl h.up (λ _. has)
    (subst (λ (l : Option Shortfall). WhenTold (logs.is_up || is_some l) pair l (unboxed_ends logs.ends) old new) lack_is when) in (
      tells_more a p base before o earlier f,
      much base before emitted (subst (λ (hs : List TimedEvent). StateInvariant o.connection hs base before) (sym (append-nil emitted)) f.consistent),
      subst (λ (xs : List Entry). TellsOf a p pair (clock_of base before) xs false full old new) (told_now a p base before o earlier f) (subst (λ (b : Bool). TellsIf (came_up (entries_logged a.max es) || is_some full) (Shown a p pair (clock_of base before) es b full) old new)
          (sym (never_replaced (course_by a.max es) full)) says),
    )

pub too_much : (fault : ConnectionFault) (c : Connection) (emitted : List TimedEvent) (s : Seen) → (fault ≡ stop.Memory → ⊥) → StopsBy c emitted s fault
    → (base : End → ℕ) (before : List Seen) (away : List TimedEvent) → StateInvariant c (away ++ emitted) base before → IsTooMuch base before s
too_much stop.Far c emitted s other stops base before away consistent = inl (stops.1 base before away consistent)
too_much stop.Full c emitted s other stops base before away consistent = inr (stops.1 base before away consistent)
too_much stop.Memory c emitted s other stops base before away consistent = absurd (other refl)

pub follows : (c : Progress) (t : Taken) (a p : Parameters) (pair : Pair) (s : Seen) (o : Open) (first logs : Logs) (now : List TimedEvent) (left : Option Open) (old new : Report)
    → TakesSegment o.connection s [] now t → with_bare o.logs first s → HearsThem a p first now c logs → ContinuesWith pair logs c t left old new
    → (base : End → ℕ) (before : List Seen) → AreNumbered 0 (before ++ s ∷ []) → IsFollowed a p base before o → FollowsOn a p pair base before s left old new
follows progress.Proceeds (taken.Proceeds next) a p pair s o first logs now left old new takes notes processes_input proceeds base before numbered f =
    subst (λ (l : Option Open). FollowsOn a p pair base before s l old new) (sym proceeds.0)
    (proceeds.1, follow_goes a p base before s o next first logs now numbered f takes.0 takes.1 takes.2 takes.3 notes processes_input)
follows progress.Proceeds (taken.BothLogs lack) a p pair s o first logs now left old new takes notes processes_input proceeds base before numbered f =
    subst (λ (l : Option Open). FollowsOn a p pair base before s l old new) (sym proceeds.0)
    (elim takes [
      | inl t ↦ inl (follow_ended a p pair base before s o t.0 t.1 first logs now lack old new numbered f t.4 t.5 t.2 t.3 notes processes_input proceeds.1)
      | inr full ↦ inr (follow_full a p pair base before s o first logs now lack old new numbered f full.0 full.1 full.2 notes processes_input proceeds.1)
    ])
follows (progress.Over lack) (taken.Proceeds next) a p pair s o first logs now left old new takes notes processes_input proceeds base before numbered f =
    subst (λ (l : Option Open). FollowsOn a p pair base before s l old new) (sym proceeds.0)
    (inl (follow_over a p pair base before s o next first logs now lack old new numbered f takes.1 takes.2 notes processes_input proceeds.1))
follows (progress.Over lack) (taken.BothLogs other) a p pair s o first logs now left old new takes notes processes_input proceeds base before numbered f =
    subst (λ (l : Option Open). FollowsOn a p pair base before s l old new) (sym proceeds.0)
    (elim takes [
      | inl t ↦ inl (follow_over a p pair base before s o t.0 first logs now lack old new numbered f t.4 t.5 notes processes_input proceeds.1)
      | inr full ↦
          let h = heard_next a p base before s o first logs now (progress.Over lack) f notes processes_input in
          let all : f.emitted ++ now ≡ f.emitted = ap (λ (hs : List TimedEvent). f.emitted ++ hs) full.1 ∙ append-nil f.emitted in
          let no : progress.Proceeds ≡ progress.Over lack = sym f.proceeds ∙ ap (course_by_events a.max) (sym all) ∙ h.course_is in
          absurd cc
    ])

pub follows_ok : {E : Type 0} (result : Result (Option Open) E) (pair : Pair) (s : Seen) (o : Open) (t : Taken) (c : Progress) (first logs : Logs) (empty now : List TimedEvent)
    → (old mid new : Report) → empty ≡ [] → TakesSegment o.connection s empty now t → with_bare o.logs first s
    → (old.manner ≡ Verdicts → HearsThem old.active old.passive first now c logs) → (old.manner ≡ Verdicts → mid ≡ old)
    → IfOk result (λ left. mid.manner ≡ Verdicts → ContinuesWith pair logs c t left mid new) → IfOk result (λ left. Follows pair s o left old new)
follows_ok (Ok left) pair s o t c first logs empty now old mid new none takes notes processes_input same proceeds = λ verdicts.
    let is = same verdicts in
    follows c t old.active old.passive pair s o first logs now left old new (subst (λ (hs : List TimedEvent). TakesSegment o.connection s hs now t) none takes) notes
    (processes_input verdicts) (subst (λ (r : Report). ContinuesWith pair logs c t left r new) is (proceeds (ap (λ (r : Report). r.manner) is ∙ verdicts)))
follows_ok (Err stop) pair s o t c first logs empty now old mid new none takes notes processes_input same proceeds = tt

-- ---- no segment follows

heard_last : (a p : Parameters) (base : End → ℕ) (seen : List Seen) (o : Open) (logs : Logs) (now : List TimedEvent) (c : Progress) → (f : IsFollowed a p base seen o)
    → HearsThem a p o.logs now c logs → HeardAfter a p (bare_resets seen) (f.emitted ++ now) c logs
heard_last a p base seen o logs now c f processes_input =
    subst (λ (ns : List ℕ). HeardAfter a p ns (f.emitted ++ now) c logs) f.bare (heard_after a p f.emitted now o.logs logs c f.proceeds f.up f.ends processes_input)

all_recorded : (a p : Parameters) (base : End → ℕ) (seen : List Seen) (o : Open) (now : List TimedEvent) (ending : Ending) → (f : IsFollowed a p base seen o) → AreNumbered 0 seen
    → EndsAs o.connection [] now ending → (map entry_as (f.emitted ++ now) ≡ emits (places base [] seen)) × (ending ≡ ended (places base [] seen))
all_recorded a p base seen o now ending f numbered ends =
    ends base seen f.emitted numbered (subst (λ (hs : List TimedEvent). StateInvariant o.connection hs base seen) (sym (append-nil f.emitted)) f.consistent)

all_timed : (a p : Parameters) (base : End → ℕ) (seen : List Seen) (o : Open) (now : List TimedEvent) → (f : IsFollowed a p base seen o) → AreNumbered 0 seen
    → EndsInTime o.connection [] now → AreTimed (time_at (places base [] seen)) (f.emitted ++ now)
all_timed a p base seen o now f numbered times =
    times base seen f.emitted numbered (subst (λ (hs : List TimedEvent). IsInTime o.connection hs base seen) (sym (append-nil f.emitted)) f.timed)

pub end_over : (a p : Parameters) (pair : Pair) (replaced : Bool) (missing : Option Shortfall) (o : Open) (logs : Logs) (now : List TimedEvent) (ending : Ending) (lack : Option Shortfall)
    → (old new : Report) → EndsAs o.connection [] now ending → EndsInTime o.connection [] now → HearsThem a p o.logs now (progress.Over lack) logs
    → WhenTold (logs.is_up || is_some lack) pair lack (unboxed_ends logs.ends) old new → (base : End → ℕ) (seen : List Seen) → AreNumbered 0 seen → IsFollowed a p base seen o
    → ToldOf a p pair base seen replaced missing old new
end_over a p pair replaced missing o logs now ending lack old new ends times processes_input when base seen numbered f =
    let all = f.emitted ++ now in
    over_told a p pair base seen replaced missing all [] lack (bare_resets seen) logs old new (all_timed a p base seen o now f numbered times)
    (sym (all_recorded a p base seen o now ending f numbered ends).0 ∙ sym (append-nil (map entry_as all))) refl (heard_last a p base seen o logs now (progress.Over lack) f processes_input) when

replaced_closed : (a p : Parameters) (all : List TimedEvent) (old new : Option (Box BothLogs Global)) → EndsHave a p all old → Replaces old new
    → ClosedBy (is_there all) true a p all (unboxed_ends new)
replaced_closed a p all None new have r = subst (λ (n : Option (Box BothLogs Global)). ClosedBy (is_there all) true a p all (unboxed_ends n)) (sym r) (ap is_there have)
replaced_closed a p all (Some old) None have r = absurd r
replaced_closed a p all (Some old) (Some new) have r =
    (nothing_there all have.0, old.value.time, closed_by_next a p all old.value new.value have.1 r.0 r.1)

nothing_lacks : (b : Bool) (lack : Option Shortfall) → (b && is_none lack) ≡ true → is_some lack ≡ false
nothing_lacks b None e = refl
nothing_lacks true (Some x) e = absurd cc
nothing_lacks false (Some x) e = absurd cc

pub end_goes : (a p : Parameters) (pair : Pair) (replaced : Bool) (missing : Option Shortfall) (o : Open) (logs last : Logs) (now : List TimedEvent) (ending : Ending)
    → (lack : Option Shortfall) (old new : Report) → EndsAs o.connection [] now ending → EndsInTime o.connection [] now → HearsThem a p o.logs now progress.Proceeds logs
    → lack ≡ lack_behind ending missing → DownBy ((replaced && is_none lack) && logs.is_up) logs last
    → WhenTold (last.is_up || is_some lack) pair lack (unboxed_ends last.ends) old new → (base : End → ℕ) (seen : List Seen) → AreNumbered 0 seen → IsFollowed a p base seen o
    → ToldOf a p pair base seen replaced missing old new
end_goes a p pair replaced missing o logs last now ending lack old new ends times processes_input lack_is downs when base seen numbered f =
    by_flags (replaced && is_none lack) logs.is_up refl refl downs
  where
    all : List TimedEvent
    all = f.emitted ++ now

    h : HeardAfter a p (bare_resets seen) (f.emitted ++ now) progress.Proceeds logs
    h = heard_last a p base seen o logs now progress.Proceeds f processes_input

    up : logs.is_up ≡ came_up_by (f.emitted ++ now)
    up = h.up ∙ ap came_up_by (all_logged (hears_event a.max) (λ h. h.packet) (f.emitted ++ now) h.course_is)

    submit : (closes : Bool) → last.is_up ≡ logs.is_up → (replaced && is_none lack) ≡ closes
        → ((last.is_up || is_some lack) ≡ true → ClosedBy (is_there (f.emitted ++ now)) closes a p (f.emitted ++ now) (unboxed_ends last.ends)) → ToldOf a p pair base seen replaced missing old new
    submit closes same closes_is has =
        let whole = all_recorded a p base seen o now ending f numbered ends in
        ended_told a p pair base seen replaced missing (f.emitted ++ now) ending lack closes last.is_up (unboxed_ends last.ends) old new (all_timed a p base seen o now f numbered times)
        whole.0 whole.1 h.course_is (same ∙ up) lack_is closes_is has when

    by_flags : (closes u : Bool) → (replaced && is_none lack) ≡ closes → logs.is_up ≡ u → DownBy (closes && u) logs last → ToldOf a p pair base seen replaced missing old new
    by_flags false u closes_is up_is same =
        submit false (ap (λ (l : Logs). l.is_up) same) closes_is
        (λ _. have_closed a p (f.emitted ++ now) last.ends (subst (λ (l : Logs). EndsHave a p (f.emitted ++ now) l.ends) (sym same) (all_heard a p (bare_resets seen) (f.emitted ++ now) logs h)))
    by_flags true false closes_is up_is same =
        submit true (ap (λ (l : Logs). l.is_up) same) closes_is
        (λ emitted.
        let down : last.is_up ≡ false = ap (λ (l : Logs). l.is_up) same ∙ up_is in
        let no : (last.is_up || is_some lack) ≡ false = rw (down, nothing_lacks replaced lack closes_is) refl in
        absurd cc)
    by_flags true true closes_is up_is downs =
        submit true downs.0 closes_is (λ _. replaced_closed a p (f.emitted ++ now) logs.ends last.ends (all_heard a p (bare_resets seen) (f.emitted ++ now) logs h) downs.1)

pub end_over_ok : {E : Type 0} (result : Result (Unit {0}) E) (pair : Pair) (replaced : Bool) (missing : Option Shortfall) (o : Open) (logs : Logs) (empty now : List TimedEvent)
    → (ending : Ending) (c : Progress) (lack : Option Shortfall) (old mid new : Report) → empty ≡ [] → EndsAs o.connection empty now ending → EndsInTime o.connection empty now
    → c ≡ progress.Over lack → (old.manner ≡ Verdicts → HearsThem old.active old.passive o.logs now c logs) → (old.manner ≡ Verdicts → mid ≡ old)
    → OnOk result (mid.manner ≡ Verdicts → WhenTold (logs.is_up || is_some lack) pair lack (unboxed_ends logs.ends) mid new)
    → OnOk result (EndsOpen pair replaced missing o old new)
end_over_ok (Ok done) pair replaced missing o logs empty now ending c lack old mid new none ends times over processes_input same when = λ verdicts.
    let is = same verdicts in
    end_over old.active old.passive pair replaced missing o logs now ending lack old new (subst (λ (hs : List TimedEvent). EndsAs o.connection hs now ending) none ends)
    (subst (λ (hs : List TimedEvent). EndsInTime o.connection hs now) none times) (subst (λ (x : Progress). HearsThem old.active old.passive o.logs now x logs) over (processes_input verdicts))
    (subst (λ (r : Report). WhenTold (logs.is_up || is_some lack) pair lack (unboxed_ends logs.ends) r new) is (when (ap (λ (r : Report). r.manner) is ∙ verdicts)))
end_over_ok (Err stop) pair replaced missing o logs empty now ending c lack old mid new none ends times over processes_input same when = tt

pub end_goes_ok : {E : Type 0} (result : Result (Unit {0}) E) (pair : Pair) (replaced : Bool) (missing : Option Shortfall) (o : Open) (logs last : Logs) (empty now : List TimedEvent)
    → (ending : Ending) (c : Progress) (lack : Option Shortfall) (downs : Bool) (old mid down new : Report) → empty ≡ [] → EndsAs o.connection empty now ending
    → EndsInTime o.connection empty now → c ≡ progress.Proceeds → (old.manner ≡ Verdicts → HearsThem old.active old.passive o.logs now c logs)
    → (old.manner ≡ Verdicts → mid ≡ old) → lack ≡ lack_behind ending missing → downs ≡ (replaced && is_none lack)
    → (mid.manner ≡ Verdicts → DownBy (downs && logs.is_up) logs last) → (mid.manner ≡ Verdicts → down ≡ mid)
    → OnOk result (down.manner ≡ Verdicts → WhenTold (last.is_up || is_some lack) pair lack (unboxed_ends last.ends) down new)
    → OnOk result (EndsOpen pair replaced missing o old new)
end_goes_ok (Ok done) pair replaced missing o logs last empty now ending c lack downs old mid down new none ends times proceeds processes_input same lack_is downs_is closes_down stays when = λ verdicts.
    let one = same verdicts in
    let at_mid : mid.manner ≡ Verdicts = ap (λ (r : Report). r.manner) one ∙ verdicts in
    let two = stays at_mid in
    let at_down : down.manner ≡ Verdicts = ap (λ (r : Report). r.manner) two ∙ at_mid in
    end_goes old.active old.passive pair replaced missing o logs last now ending lack old new (subst (λ (hs : List TimedEvent). EndsAs o.connection hs now ending) none ends)
    (subst (λ (hs : List TimedEvent). EndsInTime o.connection hs now) none times) (subst (λ (x : Progress). HearsThem old.active old.passive o.logs now x logs) proceeds (processes_input verdicts))
    lack_is (subst (λ (b : Bool). DownBy (b && logs.is_up) logs last) downs_is (closes_down at_mid))
    (subst (λ (r : Report). WhenTold (last.is_up || is_some lack) pair lack (unboxed_ends last.ends) r new) (two ∙ one) (when at_down))
end_goes_ok (Err stop) pair replaced missing o logs last empty now ending c lack downs old mid down new none ends times proceeds processes_input same lack_is downs_is closes_down stays when = tt

-- ---- several segments

pub none_yet : (a p : Parameters) (pair : Pair) (base : End → ℕ) (before : List Seen) (o : Open) (r : Report) → IsFollowed a p base before o
    → FollowsThem a p pair base before [] (Some o) r r
none_yet a p pair base before o r f = (refl, subst (λ (z : List Seen). IsFollowed a p base z o) (sym (append-nil before)) f)

pub one_more : (a p : Parameters) (pair : Pair) (base : End → ℕ) (before ss : List Seen) (s : Seen) (o : Open) (left : Option Open) (old mid new : Report)
    → FollowsThem a p pair base before ss (Some o) old mid → FollowsOn a p pair base (before ++ ss) s left mid new
    → FollowsThem a p pair base before (ss ++ s ∷ []) left old new
one_more a p pair base before ss s o None old mid new them on =
    (ss, s, [], refl, subst (λ (r : Report). FollowsOn a p pair base (before ++ ss) s None r new) them.0 on)
one_more a p pair base before ss s o (Some next) old mid new them on =
    (on.0 ∙ them.0, subst (λ (z : List Seen). IsFollowed a p base z next) (append_assoc before ss (s ∷ [])) on.1)

pub none_more : (a p : Parameters) (pair : Pair) (base : End → ℕ) (before ss : List Seen) (s : Seen) (old new : Report)
    → FollowsThem a p pair base before ss None old new → FollowsThem a p pair base before (ss ++ s ∷ []) None old new
none_more a p pair base before ss s old new them =
    (them.0, them.1, them.2 ++ s ∷ [], ap (λ (z : List Seen). z ++ s ∷ []) them.3 ∙ append_assoc them.0 (them.1 ∷ them.2) (s ∷ []), them.4)

pub begun_open : (a p : Parameters) (x y : ℕ) (c : Connection) (logs : Logs) → c.ending ≡ None → StateInvariant c [] (bases x y) [] → IsInTime c [] (bases x y) [] → logs.ends ≡ None
    → logs.is_up ≡ false → logs.bare_resets.items ≡ [] → IsFollowed a p (bases x y) [] (record { connection = c; logs = logs })
begun_open a p x y c logs open_still consistent timed none down bare = record {
  emitted = [];
  unended = open_still;
  consistent = consistent;
  timed = timed;
  proceeds = refl;
  up = down;
  bare = bare;
  ends = subst (EndsHave a p []) (sym none) refl;
  fit = tt;
}

-- ---- whether it goes down

none_is : (l : Option Shortfall) (b : Bool) → is_some l ≡ not b → b ≡ is_none l
none_is None true e = refl
none_is None false e = absurd cc
none_is (Some x) true e = absurd cc
none_is (Some x) false e = refl

pub replaced_then : (replaced : Bool) (l : Option Shortfall) (b downs : Bool) → replaced ≡ true → is_some l ≡ not b → downs ≡ b → downs ≡ (replaced && is_none l)
replaced_then replaced l b downs is none same = rw is (same ∙ none_is l b none)

pub replaced_else : (replaced : Bool) (l : Option Shortfall) (downs : Bool) → replaced ≡ false → downs ≡ false → downs ≡ (replaced && is_none l)
replaced_else replaced l downs is same = rw is same

-- ---- it begins

pub begins_some : {E : Type 0} (result : Result (Option Open) E) (pair : Pair) (x y : ℕ) (ss : List Seen) (s : Seen) (first o : Open) (kept : Option Open) (old mid new : Report)
    → ((a p : Parameters) → IsFollowed a p (bases x y) [] first) → FollowsAll pair ss first kept old mid → kept ≡ Some o
    → IfOk result (λ left. Follows pair s o left mid new) → IfOk result (λ left. BeginsWith pair x y (ss ++ s ∷ []) left old new)
begins_some (Ok left) pair x y ss s first o kept old mid new begins all is proceeds = λ verdicts numbered.
    let them : FollowsThem old.active old.passive pair (bases x y) [] ss (Some o) old mid =
    subst (λ (l : Option Open). FollowsThem old.active old.passive pair (bases x y) [] ss l old mid) is
    (all verdicts (bases x y) [] (numbered_front 0 ss (s ∷ []) numbered) (begins old.active old.passive)) in
    one_more old.active old.passive pair (bases x y) [] ss s o left old old new (refl, them.1)
    (subst (λ (r : Report). Follows pair s o left r new) them.0 proceeds verdicts (bases x y) ss numbered them.1)
begins_some (Err stop) pair x y ss s first o kept old mid new begins all is proceeds = tt

pub begins_none : (pair : Pair) (x y : ℕ) (ss : List Seen) (s : Seen) (first : Open) (kept : Option Open) (old new : Report)
    → ((a p : Parameters) → IsFollowed a p (bases x y) [] first) → FollowsAll pair ss first kept old new → kept ≡ None
    → BeginsWith pair x y (ss ++ s ∷ []) None old new
begins_none pair x y ss s first kept old new begins all is = λ verdicts numbered.
    none_more old.active old.passive pair (bases x y) [] ss s old new
    (subst (λ (l : Option Open). FollowsThem old.active old.passive pair (bases x y) [] ss l old new) is
    (all verdicts (bases x y) [] (numbered_front 0 ss (s ∷ []) numbered) (begins old.active old.passive)))

-- ---- packet by packet

pub taken_apart : {A : Type 0} (all yielded : List A) (x : A) → map (λ (y : A). y) yielded ≡ take (length yielded) all → length yielded < length all
    → x ≡ get_or all (length yielded) x → all ≡ yielded ++ x ∷ drop (length yielded + 1) all
taken_apart {A} all yielded x front less is =
    let n = length yielded in
    sym (take-append-drop n all) ∙ ap (λ (ys : List A). ys ++ drop n all) (sym front ∙ map-id yielded)
    ∙ ap (λ (ys : List A). yielded ++ ys) (drop_more all n x less ∙ ap (λ (y : A). y ∷ drop (n + 1) all) (sym is))

pub numbered_next : (before : List Seen) (all yielded rest : List Waiting) (x : Waiting) → AreNumbered 0 (before ++ map seen_waiting all) → all ≡ yielded ++ x ∷ rest
    → AreNumbered 0 ((before ++ map seen_waiting yielded) ++ seen_waiting x ∷ [])
numbered_next before all yielded rest x numbered is =
    let front = before ++ map seen_waiting yielded in
    let whole : before ++ map seen_waiting all ≡ (front ++ seen_waiting x ∷ []) ++ map seen_waiting rest =
    ap (λ (ws : List Waiting). before ++ map seen_waiting ws) is
    ∙ ap (λ (ss : List Seen). before ++ ss) (map-append seen_waiting yielded (x ∷ rest))
    ∙ sym (append_assoc before (map seen_waiting yielded) (seen_waiting x ∷ map seen_waiting rest))
    ∙ sym (append_assoc front (seen_waiting x ∷ []) (map seen_waiting rest)) in
    numbered_front 0 (front ++ seen_waiting x ∷ []) (map seen_waiting rest) (subst (AreNumbered 0) whole numbered)

-- so far
abbrev pub FollowsSoFar : Pair → List Waiting → Open → Report → List Waiting → Option Open → Report → Type 0
FollowsSoFar pair all first old yielded left new =
    old.manner ≡ Verdicts → (base : End → ℕ) (before : List Seen) → AreNumbered 0 (before ++ map seen_waiting all) → IsFollowed old.active old.passive base before first
    → FollowsThem old.active old.passive pair base before (map seen_waiting yielded) left old new

pub so_far_open : (pair : Pair) (all : List Waiting) (first o : Open) (old mid new : Report) (yielded rest : List Waiting) (x : Waiting) (kept left : Option Open)
    → all ≡ yielded ++ x ∷ rest → FollowsSoFar pair all first old yielded kept mid → kept ≡ Some o → Follows pair (seen_waiting x) o left mid new
    → FollowsSoFar pair all first old (yielded ++ x ∷ []) left new
so_far_open pair all first o old mid new yielded rest x kept left whole so_far is proceeds verdicts base before numbered f =
    let a = old.active in
    let p = old.passive in
    let ss = map seen_waiting yielded in
    let them : FollowsThem a p pair base before ss (Some o) old mid =
    subst (λ (l : Option Open). FollowsThem a p pair base before ss l old mid) is (so_far verdicts base before numbered f) in
    subst (λ (zs : List Seen). FollowsThem a p pair base before zs left old new) (sym (map-append seen_waiting yielded (x ∷ [])))
    (one_more a p pair base before ss (seen_waiting x) o left old old new (refl, them.1)
    (subst (λ (r : Report). Follows pair (seen_waiting x) o left r new) them.0 proceeds verdicts base (before ++ ss) (numbered_next before all yielded rest x numbered whole) them.1))

pub so_far_over : (pair : Pair) (all : List Waiting) (first : Open) (old new : Report) (yielded : List Waiting) (x : Waiting) (kept : Option Open)
    → FollowsSoFar pair all first old yielded kept new → kept ≡ None → FollowsSoFar pair all first old (yielded ++ x ∷ []) None new
so_far_over pair all first old new yielded x kept so_far is verdicts base before numbered f =
    let a = old.active in
    let p = old.passive in
    let ss = map seen_waiting yielded in
    subst (λ (zs : List Seen). FollowsThem a p pair base before zs None old new) (sym (map-append seen_waiting yielded (x ∷ [])))
    (none_more a p pair base before ss (seen_waiting x) old new (subst (λ (l : Option Open). FollowsThem a p pair base before ss l old new) is (so_far verdicts base before numbered f)))
