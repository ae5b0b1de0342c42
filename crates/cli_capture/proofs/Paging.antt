-- The log of one end gets what happens on a connection.
use Rattle.std.proofs.Common.{◌≡◌, ◌&&◌, ◌||◌, ◌++◌, ◌∷◌, max, ℕ, Bool, true, false, cond, List, [], map, length, take, Option, Some, None, is_none, is_some, Vec, Global, refl, sym, ap, subst, ◌∙◌, append_assoc, arith, inl, inr}
use Rattle.std.specs.Prelude.{Result, Ok, Err, IfOk, OnOk}
use Rattle.std.proofs.lemmas.List.{append-nil, map-append, map-id, take_all}
use Rattle.hsms_machine.specs.Settings.{Parameters}
use Rattle.capture_tcp.specs.declared.connection.Connection.{Connection}
use Rattle.capture_tcp.specs.declared.ending.Ending.{Ending}
use Rattle.capture_tcp.specs.declared.packet.Side.{Side}
use Rattle.capture_tcp.specs.declared.events.Event.{Event}
use Rattle.capture_tcp.specs.declared.events.Event.TheVariants as happens
use Rattle.capture_tcp.specs.declared.events.TimedEvent.{TimedEvent}
use Rattle.capture_tcp.specs.TcpStreams.{End, Seen, places}
use Rattle.capture_tcp.specs.EndOfStream.{ended}
use Rattle.capture_tcp.specs.Laws.{AreNumbered}
use Rattle.capture_tcp.specs.ReaderInvariant.{EndsAs, StateInvariant, TakesOn}
use Rattle.capture_tcp.specs.EventSteps.{entry_as, reported_as}
use Rattle.capture_tcp.specs.Timestamps.{AreTimed, IsInTime, TakesInTime, time_at}
use Rattle.capture_tcp.specs.ConnectionEvents.{Entry, emits}
use Rattle.capture_tcp.proofs.Connecting.{emitted_at_once, emitted_settled}
use Rattle.capture_tcp.proofs.LastingFacts.{ending_sure, numbered_front}
use Rattle.capture_log.specs.AuditedLog.{note_text}
use Rattle.capture_log.specs.BothLogs.{reception_of, is_no_message, note_of}
use Rattle.capture_log.specs.WrittenLog.{MayHappen, WritesEventAs, begun_by, front_by, went_down}
use Rattle.capture_log.specs.declared.audited_log.LogComment.TheVariants as remark
use Rattle.hsms_machine.specs.declared.entry.Event.TheVariants as logs_event
use Rattle.capture_log.specs.declared.both_logs.LogResult.{LogResult}
use Rattle.capture_log.specs.declared.both_logs.LogResult.TheVariants as reception
use Rattle.capture_log.specs.declared.written_log.Begun.{Begun}
use Rattle.capture_log.specs.declared.written_log.WrittenLog.{WrittenLog}
use Rattle.capture_log.specs.declared.socket_pair.Pair.{Pair}
use Rattle.capture_log.specs.declared.byte_buffer.Text.{Text}
use Rattle.cli_capture.specs.declared.progress.Progress.{Progress}
use Rattle.cli_capture.specs.declared.progress.Progress.TheVariants as progress
use Rattle.cli_capture.specs.declared.progress.Followed.{Followed as Taken}
use Rattle.cli_capture.specs.declared.progress.Followed.TheVariants as taken
use Rattle.cli_capture.specs.declared.tracked_connection.Logs.{Logs}
use Rattle.cli_capture.specs.declared.tracked_connection.Open.{Open}
use Rattle.cli_capture.specs.declared.report.OutputMode.TheVariants.{Log, Verdicts}
use Rattle.cli_capture.specs.declared.report.Report.{Report}
use Rattle.capture_errors.specs.declared.incomplete.Shortfall.{Shortfall}
use Rattle.capture_errors.specs.declared.incomplete.Shortfall.TheVariants as lacks
use Rattle.cli_capture.specs.Progress.{course_behind, lack_behind}
use Rattle.cli_capture.specs.ConnectionLog.{and_goes, and_logged, bare_resets, came_up, clock_by, clock_of, course_by, entries_logged, lack_by}
use Rattle.cli_capture.specs.TrackedConnection.{MayTellMore, came_up_by, course_by_events, hears_event, is_up_event, logged_by, timed_by}
use Rattle.cli_capture.specs.InnerTrackedConnection.{TakesSegment, times}
use Rattle.cli_capture.specs.LogOutput.{CountsIf, EntriesOn, IsOpenIn, IsOver, LeavesOpen, MayBeTold, OnPage, Page, begun_behind, down_if, front_behind, page_of, with_entry}
use Rattle.cli_capture.specs.InnerLogOutput.{DownsIf, EndsOnPage, FollowsOnPage, GoesDown, GoesOnPage, HappensOn, LogsAll, LogsOn, LogsThem, with_note}
use Rattle.cli_capture.proofs.Concluding.{over_front}
use Rattle.cli_capture.proofs.Connections.{bares, fits_next, in_time_next, not_much, stands_next, timed_now, with_bare}
use Rattle.cli_capture.proofs.Following.{NextOf}
use Rattle.cli_capture.proofs.Lasting.{lack_lasts}
use Rattle.cli_capture.proofs.Logging.{all_logged, came_up_more, came_up_same, came_up_timed, clock_same, course_of_entries, course_timed, entries_of, can_continue, logged_timed, or_assoc, record_same, stops_there, timed_logged}

-- ---- the journal

pub same_log : (old : Report) (j k : WrittenLog) → old.manner ≡ Log j → old.manner ≡ Log k → j ≡ k
same_log old j k of log = let same : Log j ≡ Log k = sym of ∙ log in cc

pub never_logged : {T E : Type 0} (result : Result T E) (old : Report) (P : T → WrittenLog → Type 0) → old.manner ≡ Verdicts
    → IfOk result (λ x. (k : WrittenLog) → old.manner ≡ Log k → P x k)
never_logged (Ok x) old P is = λ k log. absurd (let same : Verdicts ≡ Log k = sym is ∙ log in cc)
never_logged (Err fault) old P is = tt

abbrev page : Option Begun → ℕ → List ℕ → Page
page begun time text = record { begun = begun; time = time; text = text }

pub same_page : (b c : Option Begun) (m n : ℕ) (xs ys : List ℕ) → b ≡ c → m ≡ n → xs ≡ ys → page b m xs ≡ page c n ys
same_page b c m n xs ys begun time text =
    ap (λ (x : Option Begun). page x m xs) begun ∙ ap (λ (k : ℕ). page c k xs) time ∙ ap (λ (zs : List ℕ). page c n zs) text

-- ---- something happens

pub goes_goes : (c : Progress) → c ≡ and_goes c progress.Proceeds
goes_goes progress.Proceeds = refl
goes_goes (progress.Over lack) = refl

on_page : (answer : LogResult) (pair : Pair) (h : TimedEvent) (j next : WrittenLog) (old new : Report)
    → WritesEventAs j.begun j.settings j.time j.side h answer old.page.octets new.page.octets → answer ≡ reception_of j.settings.max h.event
    → MayHappen j.begun pair h.event → next.begun ≡ begun_by j.begun pair h.event → next.time ≡ max j.time h.time
    → OnPage (course_behind answer h.packet) (HappensOn j.settings j.side pair (logged_by j.settings.max (h ∷ []))) (page_of j old) (page_of next new)
on_page reception.Proceeds pair h j next old new emitted answer may begun time =
    subst (λ (a : LogResult). HappensOn j.settings j.side pair (and_logged a h []) (page_of j old) (page_of next new)) answer (
      may,
      emitted.0,
      emitted.1,
      same_page next.begun (begun_by j.begun pair h.event) next.time (max j.time h.time) new.page.octets
          ((old.page.octets ++ front_by j.begun j.settings h.event) ++ note_text emitted.0) begun time emitted.2,
    )
on_page reception.Down pair h j next old new emitted answer may begun time =
    subst (λ (a : LogResult). HappensOn j.settings j.side pair (and_logged a h []) (page_of j old) (page_of next new)) answer (
      may,
      emitted.1.0,
      emitted.1.1,
      same_page next.begun (begun_by j.begun pair h.event) next.time (max j.time h.time) new.page.octets
          ((old.page.octets ++ front_by j.begun j.settings h.event) ++ note_text emitted.1.0) begun time emitted.1.2,
    )
on_page reception.Length pair h j next old new emitted answer may begun time = (
  page_of j old,
  subst (λ (a : LogResult). HappensOn j.settings j.side pair (and_logged a h []) (page_of j old) (page_of j old)) answer refl,
  emitted.1,
)

pub logs_one : {E : Type 0} (result : Result LogResult E) (pair : Pair) (h : TimedEvent) (j next : WrittenLog) (text : Text) (old new : Report)
    → old.manner ≡ Log j → new ≡ record old { manner = Log next; page = text }
    → IfOk result (λ answer. WritesEventAs j.begun j.settings j.time j.side h answer old.page.octets text.octets)
    → IfOk result (λ answer. answer ≡ reception_of j.settings.max h.event) → OnOk result (MayHappen j.begun pair h.event)
    → OnOk result (next.begun ≡ begun_by j.begun pair h.event) → next.time ≡ max j.time h.time
    → (next.settings ≡ j.settings) × (next.side ≡ j.side)
    → IfOk result (λ answer. (k : WrittenLog) → old.manner ≡ Log k → LogsThem pair (h ∷ []) (course_behind answer h.packet) k old new)
logs_one (Ok answer) pair h j next text old new of is emitted answered may begun time same = λ k log.
    let text_is : new.page ≡ text = ap (λ (r : Report). r.page) is in
    subst (λ (x : WrittenLog). LogsThem pair (h ∷ []) (course_behind answer h.packet) x old new) (same_log old j k of log)
    (record {
      next = next;
      manner_is = ap (λ (r : Report). r.manner) is;
      settings_are = same.0;
      side_is = same.1;
      course_is = ap (λ (a : LogResult). course_behind a h.packet) answered ∙ goes_goes (course_behind (reception_of j.settings.max h.event) h.packet);
      on = on_page answer pair h j next old new
          (subst (λ (t : Text). WritesEventAs j.begun j.settings j.time j.side h answer old.page.octets t.octets) (sym text_is) emitted) answered may begun time;
      same = subst (λ (r : Report). r ≡ record old { manner = r.manner; page = r.page }) (sym is) refl;
    })
logs_one (Err fault) pair h j next text old new of is emitted answered may begun time same = tt

-- ---- one thing behind others

pub on_page_then : (c : Progress) (A B : Page → Page → Type 0) (p q r : Page) → ((m : Page) → A q m → B p m) → OnPage c A q r → OnPage c B p r
on_page_then progress.Proceeds A B p q r f a = f r a
on_page_then (progress.Over None) A B p q r f a = f r a
on_page_then (progress.Over (Some lack)) A B p q r f a = (a.0, f a.0 a.1, a.2)

happens_append : (settings : Parameters) (side : Side) (pair : Pair) (xs ys : List TimedEvent) (old mid new : Page) → HappensOn settings side pair xs old mid
    → HappensOn settings side pair ys mid new → HappensOn settings side pair (xs ++ ys) old new
happens_append settings side pair [] ys old mid new first second = subst (λ (p : Page). HappensOn settings side pair ys p new) first second
happens_append settings side pair (x ∷ xs) ys old mid new first second =
    (first.0, first.1, first.2, happens_append settings side pair xs ys (with_note settings pair old x first.1) mid new first.3 second)

logs_then : (pair : Pair) (xs : List TimedEvent) (x : TimedEvent) (c : Progress) (j : WrittenLog) (old mid new : Report) → (one : LogsThem pair xs progress.Proceeds j old mid)
    → LogsThem pair (x ∷ []) c one.next mid new → LogsThem pair (xs ++ x ∷ []) c j old new
logs_then pair xs x c j old mid new one two =
    let most = j.settings.max in
    let on = can_continue (hears_event most) (λ h. h.packet) xs (x ∷ []) (sym one.course_is) in
    let all : logged_by most xs ≡ xs = all_logged (hears_event most) (λ h. h.packet) xs (sym one.course_is) in
    let first : HappensOn j.settings j.side pair xs (page_of j old) (page_of one.next mid) =
    subst (λ (hs : List TimedEvent). HappensOn j.settings j.side pair hs (page_of j old) (page_of one.next mid)) all one.on in
    record {
      next = two.next;
      manner_is = two.manner_is;
      settings_are = two.settings_are ∙ one.settings_are;
      side_is = two.side_is ∙ one.side_is;
      course_is = two.course_is ∙ ap (λ (s : Parameters). course_by_events s.max (x ∷ [])) one.settings_are ∙ sym on.1;
      on = on_page_then c (HappensOn one.next.settings one.next.side pair (logged_by one.next.settings.max (x ∷ [])))
          (HappensOn j.settings j.side pair (logged_by most (xs ++ x ∷ []))) (page_of j old) (page_of one.next mid) (page_of two.next new)
          (λ m second. subst (λ (hs : List TimedEvent). HappensOn j.settings j.side pair hs (page_of j old) m) (sym on.0)
          (happens_append j.settings j.side pair xs (logged_by most (x ∷ [])) (page_of j old) (page_of one.next mid) m first
          (subst (λ (d : Side). HappensOn j.settings d pair (logged_by most (x ∷ [])) (page_of one.next mid) m) one.side_is
          (subst (λ (s : Parameters). HappensOn s one.next.side pair (logged_by s.max (x ∷ [])) (page_of one.next mid) m) one.settings_are second)))) two.on;
      same = two.same ∙ ap (λ (r : Report). record r { manner = new.manner; page = new.page }) one.same;
    }

-- ---- what is told is heard, thing by thing

-- so far
abbrev pub LogsSoFar : Pair → Logs → Report → List TimedEvent → Logs → Report → Type 0
LogsSoFar pair first old yielded last new = (j : WrittenLog) → old.manner ≡ Log j → LogsAll pair first yielded progress.Proceeds j old last new

or_false : (b : Bool) → b ≡ (b || false)
or_false true = refl
or_false false = refl

pub logs_nothing : (pair : Pair) (first : Logs) (old : Report) → LogsSoFar pair first old [] first old
logs_nothing pair first old = λ j log. record {
  logs = record { next = j; manner_is = log; settings_are = refl; side_is = refl; course_is = refl; on = refl; same = refl };
  up = or_false first.is_up;
  bare = refl;
}

-- a message that no end takes brings nothing up
up_logged : (most : ℕ) (h : TimedEvent) → came_up_by (logged_by most (h ∷ [])) ≡ is_up_event h.event
up_logged most h = by_event h.event
  where
    by_test : (b : Bool) (octets : Vec ℕ Global) (from : Side) → came_up_by (and_logged (cond b reception.Length reception.Proceeds) (record h { event = happens.Message from octets }) []) ≡ false
    by_test true octets from = refl
    by_test false octets from = refl

    by_event : (e : Event) → came_up_by (and_logged (reception_of most e) (record h { event = e }) []) ≡ is_up_event e
    by_event happens.Up = refl
    by_event (happens.Message from octets) = by_test (is_no_message most (length octets.items)) octets from
    by_event happens.Down = refl

-- one thing more
all_then : (pair : Pair) (first now next : Logs) (yielded : List TimedEvent) (x : TimedEvent) (c : Progress) (j : WrittenLog) (old mid new : Report)
    → LogsAll pair first yielded progress.Proceeds j old now mid → NextOf now x next
    → ((k : WrittenLog) → mid.manner ≡ Log k → LogsThem pair (timed_by now.bare_resets.items x ∷ []) c k mid new)
    → LogsAll pair first (yielded ++ x ∷ []) c j old next new
all_then pair first now next yielded x c j old mid new so on processes_input =
    let most = j.settings.max in
    let y = timed_by first.bare_resets.items x in
    let xs = times first yielded in
    let split : times first (yielded ++ x ∷ []) ≡ xs ++ y ∷ [] = map-append (timed_by first.bare_resets.items) yielded (x ∷ []) in
    let heard_it : LogsThem pair (y ∷ []) c so.logs.next mid new =
    subst (λ (v : Vec ℕ Global). LogsThem pair (timed_by v.items x ∷ []) c so.logs.next mid new) so.bare (processes_input so.logs.next so.logs.manner_is) in
    let proceeds = sym so.logs.course_is in
    let both : logged_by most (xs ++ y ∷ []) ≡ logged_by most xs ++ logged_by most (y ∷ []) =
    (can_continue (hears_event most) (λ h. h.packet) xs (y ∷ []) proceeds).0
    ∙ ap (λ (zs : List TimedEvent). zs ++ logged_by most (y ∷ [])) (sym (all_logged (hears_event most) (λ h. h.packet) xs proceeds)) in
    record {
      logs = subst (λ (zs : List TimedEvent). LogsThem pair zs c j old new) (sym split) (logs_then pair xs y c j old mid new so.logs heard_it);
      up = on.1 ∙ ap (λ (b : Bool). b || is_up_event x.event) so.up ∙ or_assoc first.is_up (came_up_by (logged_by most xs)) (is_up_event x.event)
          ∙ ap (λ (b : Bool). first.is_up || (came_up_by (logged_by most xs) || b)) (sym (up_logged most y))
          ∙ ap (λ (b : Bool). first.is_up || b) (sym (came_up_more (logged_by most xs) (logged_by most (y ∷ []))) ∙ ap came_up_by (sym both)
          ∙ ap (λ (zs : List TimedEvent). came_up_by (logged_by most zs)) (sym split));
      bare = on.0 ∙ so.bare;
    }

-- the same by other names
logs_same : (pair : Pair) (mid also new : Report) (y z : TimedEvent) (c d : Progress) → also ≡ mid → z ≡ y → c ≡ d
    → ((k : WrittenLog) → also.manner ≡ Log k → LogsThem pair (z ∷ []) d k also new) → (k : WrittenLog) → mid.manner ≡ Log k → LogsThem pair (y ∷ []) c k mid new
logs_same pair mid also new y z c d same is course_same processes_input k log =
    subst (λ (r : Report). LogsThem pair (y ∷ []) c k r new) same
    (subst (λ (h : TimedEvent). LogsThem pair (h ∷ []) c k also new) is
    (subst (λ (x : Progress). LogsThem pair (z ∷ []) x k also new) (sym course_same) (processes_input k (ap (λ (r : Report). r.manner) same ∙ log))))

pub turn_logs : (pair : Pair) (first now next : Logs) (yielded : List TimedEvent) (x z : TimedEvent) (answer : LogResult) (old mid new : Report)
    → LogsSoFar pair first old yielded now mid → NextOf now x next → z ≡ timed_by now.bare_resets.items x → progress.Proceeds ≡ course_behind answer x.packet
    → ((k : WrittenLog) → mid.manner ≡ Log k → LogsThem pair (z ∷ []) (course_behind answer z.packet) k mid new)
    → LogsSoFar pair first old (yielded ++ x ∷ []) next new
turn_logs pair first now next yielded x z answer old mid new so on is proceeds processes_input = λ j log.
    all_then pair first now next yielded x progress.Proceeds j old mid new (so j log) on
    (logs_same pair mid mid new (timed_by now.bare_resets.items x) z progress.Proceeds (course_behind answer z.packet) refl is
    (proceeds ∙ ap (λ (h : TimedEvent). course_behind answer h.packet) (sym is)) processes_input)

-- nothing behind what stops is heard
pub stop_logs : (pair : Pair) (first now next : Logs) (yielded rest all : List TimedEvent) (x z : TimedEvent) (answer : LogResult) (lack : Option Shortfall) (old mid new : Report)
    → all ≡ yielded ++ x ∷ rest → LogsSoFar pair first old yielded now mid → NextOf now x next → z ≡ timed_by now.bare_resets.items x
    → progress.Over lack ≡ course_behind answer x.packet
    → ((k : WrittenLog) → mid.manner ≡ Log k → LogsThem pair (z ∷ []) (course_behind answer z.packet) k mid new)
    → (j : WrittenLog) → old.manner ≡ Log j → LogsAll pair first all (progress.Over lack) j old next new
stop_logs pair first now next yielded rest all x z answer lack old mid new whole so on is stops processes_input j log =
    let most = j.settings.max in
    let one = all_then pair first now next yielded x (progress.Over lack) j old mid new (so j log) on
    (logs_same pair mid mid new (timed_by now.bare_resets.items x) z (progress.Over lack) (course_behind answer z.packet) refl is
    (stops ∙ ap (λ (h : TimedEvent). course_behind answer h.packet) (sym is)) processes_input) in
    let xs = times first (yielded ++ x ∷ []) in
    let split : times first all ≡ xs ++ times first rest =
    ap (times first) (whole ∙ sym (append_assoc yielded (x ∷ []) rest)) ∙ map-append (timed_by first.bare_resets.items) (yielded ++ x ∷ []) rest in
    let subsequent = stops_there (hears_event most) (λ h. h.packet) xs (times first rest) lack (sym one.logs.course_is) in
    let logged_is : logged_by most (times first all) ≡ logged_by most xs = ap (logged_by most) split ∙ subsequent.0 in
    record {
      logs = record {
        next = one.logs.next;
        manner_is = one.logs.manner_is;
        settings_are = one.logs.settings_are;
        side_is = one.logs.side_is;
        course_is = sym (ap (course_by_events most) split ∙ subsequent.1);
        on = subst (λ (hs : List TimedEvent). OnPage (progress.Over lack) (HappensOn j.settings j.side pair hs) (page_of j old) (page_of one.logs.next new)) (sym logged_is) one.logs.on;
        same = one.logs.same;
      };
      up = one.up ∙ ap (λ (hs : List TimedEvent). first.is_up || came_up_by hs) (sym logged_is);
      bare = one.bare;
    }

pub end_logs : (pair : Pair) (first now : Logs) (yielded all : List TimedEvent) (old new : Report) → yielded ≡ all → LogsSoFar pair first old yielded now new
    → (j : WrittenLog) → old.manner ≡ Log j → LogsAll pair first all progress.Proceeds j old now new
end_logs pair first now yielded all old new whole so j log = subst (λ (hs : List TimedEvent). LogsAll pair first hs progress.Proceeds j old now new) whole (so j log)

-- ---- by the entries of the definition

may_be : (begun : Option Begun) (pair : Pair) (e : Event) → MayHappen begun pair e → MayBeTold begun pair (reported_as e)
may_be begun pair happens.Up may = may
may_be begun pair (happens.Message from octets) may = tt
may_be begun pair happens.Down may = tt

begun_same : (begun : Option Begun) (pair : Pair) (e : Event) → begun_by begun pair e ≡ begun_behind begun pair (reported_as e)
begun_same begun pair happens.Up = refl
begun_same begun pair (happens.Message from octets) = refl
begun_same begun pair happens.Down = refl

front_same : (begun : Option Begun) (settings : Parameters) (e : Event) → front_by begun settings e ≡ front_behind begun settings (reported_as e)
front_same begun settings happens.Up = refl
front_same begun settings (happens.Message from octets) = refl
front_same begun settings happens.Down = refl

pub entries_on : (settings : Parameters) (side : Side) (pair : Pair) (time : ℕ → ℕ) (bare : List ℕ) (hs : List TimedEvent) (old new : Page) → AreTimed time hs
    → HappensOn settings side pair (map (timed_by bare) hs) old new → EntriesOn settings side pair (clock_by time bare) (map entry_as hs) old new
entries_on settings side pair time bare [] old new timed on = on
entries_on settings side pair time bare (h ∷ hs) old new timed on =
    let same : with_note settings pair old (timed_by bare h) on.1 ≡ with_entry settings pair (clock_by time bare) old (entry_as h) on.1 =
    same_page (begun_by old.begun pair h.event) (begun_behind old.begun pair (reported_as h.event)) (max old.time (timed_by bare h).time) (clock_by time bare old.time (entry_as h))
    ((old.text ++ front_by old.begun settings h.event) ++ note_text on.1) ((old.text ++ front_behind old.begun settings (reported_as h.event)) ++ note_text on.1)
    (begun_same old.begun pair h.event) (clock_same time bare old.time h timed.0)
    (ap (λ (f : List ℕ). (old.text ++ f) ++ note_text on.1) (front_same old.begun settings h.event)) in (
      may_be old.begun pair h.event on.0,
      on.1,
      record_same time bare side old.time h on.1 timed.0 on.2,
      entries_on settings side pair time bare hs (with_entry settings pair (clock_by time bare) old (entry_as h) on.1) new timed.1
          (subst (λ (p : Page). HappensOn settings side pair (map (timed_by bare) hs) p new) same on.3),
    )

page_entries : (settings : Parameters) (side : Side) (pair : Pair) (most : ℕ) (time : ℕ → ℕ) (bare : List ℕ) (hs : List TimedEvent) (old new : Page) → AreTimed time hs
    → HappensOn settings side pair (logged_by most (map (timed_by bare) hs)) old new
    → EntriesOn settings side pair (clock_by time bare) (entries_logged most (map entry_as hs)) old new
page_entries settings side pair most time bare hs old new timed on =
    subst (λ (es : List Entry). EntriesOn settings side pair (clock_by time bare) es old new) (entries_of most hs)
    (entries_on settings side pair time bare (logged_by most hs) old new (timed_logged time most hs timed)
    (subst (λ (gs : List TimedEvent). HappensOn settings side pair gs old new) (sym (logged_timed most bare hs)) on))

-- ---- one segment more

pub course_after : (most : ℕ) (bare : List ℕ) (emitted now : List TimedEvent) (c : Progress) → course_by_events most emitted ≡ progress.Proceeds
    → c ≡ course_by_events most (map (timed_by bare) now) → course_by_events most (emitted ++ now) ≡ c
course_after most bare emitted now c proceeds is =
    (can_continue (hears_event most) (λ h. h.packet) emitted now proceeds).1 ∙ course_timed most bare now ∙ sym is

up_after : (most : ℕ) (bare : List ℕ) (emitted now : List TimedEvent) (first last : Bool) → course_by_events most emitted ≡ progress.Proceeds → first ≡ came_up_by emitted
    → last ≡ (first || came_up_by (logged_by most (map (timed_by bare) now))) → last ≡ came_up_by (logged_by most (emitted ++ now))
up_after most bare emitted now first last proceeds up is =
    let ups : came_up_by (logged_by most (map (timed_by bare) now)) ≡ came_up_by (logged_by most now) =
    ap came_up_by (sym (logged_timed most bare now)) ∙ came_up_timed bare (logged_by most now) in
    is ∙ ap (λ (b : Bool). b || came_up_by (logged_by most (map (timed_by bare) now))) up ∙ ap (λ (b : Bool). came_up_by emitted || b) ups
    ∙ sym (came_up_more emitted (logged_by most now)) ∙ ap came_up_by (sym (can_continue (hears_event most) (λ h. h.packet) emitted now proceeds).0)

pub timed_rest : (time : ℕ → ℕ) (xs ys : List TimedEvent) → AreTimed time (xs ++ ys) → AreTimed time ys
timed_rest time [] ys timed = timed
timed_rest time (x ∷ xs) ys timed = timed_rest time xs ys timed.1

-- it is over by what was heard of it
pub over_heard : (most : ℕ) (base : End → ℕ) (seen : List Seen) (c : Connection) (all : List TimedEvent) (lack : Option Shortfall) → AreNumbered 0 seen
    → StateInvariant c all base seen → course_by_events most all ≡ progress.Over lack → IsOver lack most base seen
over_heard most base seen c all lack numbered consistent over = λ later missing whole.
    let sure = emitted_settled c all base seen later consistent whole in
    let f = over_front most all (emits (places base [] (seen ++ later))) sure.0 lack sure.1 over in (
      f.0 ∙ ap (entries_logged most) (emitted_at_once c all base seen consistent numbered).0,
      ap (λ (x : Progress). lack_by x (ended (places base [] (seen ++ later))) missing) f.1,
    )

-- it has ended
pub over_ended : (most : ℕ) (base : End → ℕ) (seen : List Seen) (c : Connection) (all : List TimedEvent) (e : Ending) → AreNumbered 0 seen → StateInvariant c all base seen
    → c.ending ≡ Some e → course_by_events most all ≡ progress.Proceeds → IsOver (lack_behind e None) most base seen
over_ended most base seen c all e numbered consistent is proceeds = λ later missing whole.
    let ps = places base [] (seen ++ later) in
    let sure = ending_sure c all e base seen later is consistent whole in
    let course_is : course_by most (emits ps) ≡ progress.Proceeds = ap (course_by most) (sym sure.0) ∙ sym (course_of_entries most all) ∙ proceeds in (
      ap (entries_logged most) (sym sure.0 ∙ (emitted_at_once c all base seen consistent numbered).0),
      ap (λ (x : Progress). lack_by x (ended ps) missing) course_is ∙ ap (λ (x : Ending). lack_behind x missing) (sym sure.1) ∙ sym (lack_lasts e (lack_behind e None) missing refl sure.2),
    )

-- what is told with it
pub record Behind (j : WrittenLog) (pair : Pair) (base : End → ℕ) (before : List Seen) (s : Seen) (next : Connection) (emitted now : List TimedEvent) (c : Progress) (logs : Logs)
    (old mid : Report) : Type 0 where
  pub consistent : StateInvariant next (emitted ++ now) base (before ++ s ∷ [])
  pub timed : IsInTime next (emitted ++ now) base (before ++ s ∷ [])
  pub course_is : course_by_events j.settings.max (emitted ++ now) ≡ c
  pub up : logs.is_up ≡ came_up_by (logged_by j.settings.max (emitted ++ now))
  pub bare : logs.bare_resets.items ≡ bare_resets (before ++ s ∷ [])
  pub more : List Entry
  pub tells_are : emits (places base [] (before ++ s ∷ [])) ≡ emits (places base [] before) ++ more
  pub last : WrittenLog
  pub manner_is : mid.manner ≡ Log last
  pub settings_are : last.settings ≡ j.settings
  pub side_is : last.side ≡ j.side
  pub on : OnPage c (EntriesOn j.settings j.side pair (clock_of base (before ++ s ∷ [])) (entries_logged j.settings.max more)) (page_of j old) (page_of last mid)
  pub same : mid ≡ record old { manner = mid.manner; page = mid.page }

-- what is told with a segment, of what it brings
pub recorded_with : (most : ℕ) (base : End → ℕ) (before : List Seen) (s : Seen) (o : Open) (next : Connection) (now : List TimedEvent) → AreNumbered 0 (before ++ s ∷ [])
    → (f : IsOpenIn most base before o) → TakesOn o.connection s [] next now
    → StateInvariant next (f.emitted ++ now) base (before ++ s ∷ [])
    × (emits (places base [] (before ++ s ∷ [])) ≡ emits (places base [] before) ++ map entry_as now)
recorded_with most base before s o next now numbered f takes =
    let seen = before ++ s ∷ [] in
    let consistent = stands_next o.connection next s base before f.emitted now takes numbered f.consistent in (
      consistent,
      sym (emitted_at_once next (f.emitted ++ now) base seen consistent numbered).0 ∙ map-append entry_as f.emitted now
          ∙ ap (λ (es : List Entry). es ++ map entry_as now) (emitted_at_once o.connection f.emitted base before f.consistent (numbered_front 0 before (s ∷ []) numbered)).0,
    )

pub subsequent : (j : WrittenLog) (pair : Pair) (base : End → ℕ) (before : List Seen) (s : Seen) (o : Open) (next : Connection) (now : List TimedEvent) (c : Progress) (first logs : Logs)
    → (old mid : Report) → AreNumbered 0 (before ++ s ∷ []) → (f : IsOpenIn j.settings.max base before o) → TakesOn o.connection s [] next now
    → TakesInTime o.connection s [] next now → with_bare o.logs first s → LogsAll pair first now c j old logs mid
    → Behind j pair base before s next f.emitted now c logs old mid
subsequent j pair base before s o next now c first logs old mid numbered f takes times_on notes all =
    let most = j.settings.max in
    let seen = before ++ s ∷ [] in
    let time = time_at (places base [] seen) in
    let bare = first.bare_resets.items in
    let emitted = recorded_with most base before s o next now numbered f takes in
    let timed = in_time_next o.connection next s base before f.emitted now times_on f.consistent f.timed in
    let resets : bare ≡ bare_resets seen = bares before s o.logs.bare_resets.items bare notes.0 f.bare in
    record {
      consistent = emitted.0;
      timed = timed;
      course_is = course_after most bare f.emitted now c f.proceeds all.logs.course_is;
      up = up_after most bare f.emitted now first.is_up logs.is_up f.proceeds (notes.2 ∙ f.up) all.up;
      bare = ap (λ (v : Vec ℕ Global). v.items) all.bare ∙ resets;
      more = map entry_as now;
      tells_are = emitted.1;
      last = all.logs.next;
      manner_is = all.logs.manner_is;
      settings_are = all.logs.settings_are;
      side_is = all.logs.side_is;
      on = on_page_then c (HappensOn j.settings j.side pair (logged_by most (times first now)))
          (EntriesOn j.settings j.side pair (clock_of base seen) (entries_logged most (map entry_as now))) (page_of j old) (page_of j old) (page_of all.logs.next mid)
          (λ m on. subst (λ (ns : List ℕ). EntriesOn j.settings j.side pair (clock_by time ns) (entries_logged most (map entry_as now)) (page_of j old) m) resets
          (page_entries j.settings j.side pair most time bare now (page_of j old) m
          (timed_rest time f.emitted now (timed_now next (f.emitted ++ now) base seen numbered timed)) on)) all.logs.on;
      same = all.logs.same;
    }

logs_on : (j : WrittenLog) (pair : Pair) (base : End → ℕ) (before : List Seen) (s : Seen) (next : Connection) (emitted now : List TimedEvent) (c : Progress) (logs : Logs)
    → (old mid new : Report) (left : Option Open) → (b : Behind j pair base before s next emitted now c logs old mid)
    → EntriesOn j.settings j.side pair (clock_of base (before ++ s ∷ [])) (entries_logged j.settings.max b.more) (page_of j old) (page_of b.last mid)
    → LeavesOpen j.settings.max base (before ++ s ∷ []) left mid new → LogsOn j pair base before s left old new
logs_on j pair base before s next emitted now c logs old mid new left b on leaves = record {
  more = b.more;
  tells_are = b.tells_are;
  mid = mid;
  next = b.last;
  manner_is = b.manner_is;
  settings_are = b.settings_are;
  side_is = b.side_is;
  on = on;
  same = b.same;
  leaves = leaves;
}

-- whether it counts as told
counts : (most : ℕ) (base : End → ℕ) (seen : List Seen) (c : Connection) (all : List TimedEvent) (up : Bool) (old new : Report) → AreNumbered 0 seen → StateInvariant c all base seen
    → up ≡ came_up_by (logged_by most all) → CountsIf up old new → CountsIf (came_up (entries_logged most (emits (places base [] seen)))) old new
counts most base seen c all up old new numbered consistent is counted =
    subst (λ (b : Bool). CountsIf b old new)
    (is ∙ came_up_same (logged_by most all) ∙ ap came_up (entries_of most all)
    ∙ ap (λ (es : List Entry). came_up (entries_logged most es)) (emitted_at_once c all base seen consistent numbered).0) counted

over_page : (lack : Option Shortfall) (j : WrittenLog) (pair : Pair) (base : End → ℕ) (before : List Seen) (s : Seen) (o : Open) (next : Connection) (now : List TimedEvent)
    → (first logs : Logs) (old mid new : Report) → AreNumbered 0 (before ++ s ∷ []) → IsOpenIn j.settings.max base before o → TakesOn o.connection s [] next now
    → TakesInTime o.connection s [] next now → with_bare o.logs first s → LogsAll pair first now (progress.Over lack) j old logs mid
    → lack ≡ None → CountsIf logs.is_up mid new → LogsOn j pair base before s None old new
over_page (Some lack) j pair base before s o next now first logs old mid new numbered f takes times_on notes all none counted = absurd cc
over_page None j pair base before s o next now first logs old mid new numbered f takes times_on notes all none counted =
    let b = subsequent j pair base before s o next now (progress.Over None) first logs old mid numbered f takes times_on notes all in
    let seen = before ++ s ∷ [] in
    logs_on j pair base before s next f.emitted now (progress.Over None) logs old mid new None b b.on (
      over_heard j.settings.max base seen next (f.emitted ++ now) None numbered b.consistent b.course_is,
      counts j.settings.max base seen next (f.emitted ++ now) logs.is_up mid new numbered b.consistent b.up counted,
    )

follows_page : (c : Progress) (t : Taken) (pair : Pair) (s : Seen) (o : Open) (first logs : Logs) (now : List TimedEvent) (left : Option Open) (j : WrittenLog) (old mid new : Report)
    → TakesSegment o.connection s [] now t → with_bare o.logs first s → LogsAll pair first now c j old logs mid → GoesOnPage logs c t left mid new
    → (base : End → ℕ) (before : List Seen) → AreNumbered 0 (before ++ s ∷ []) → IsOpenIn j.settings.max base before o → LogsOn j pair base before s left old new
follows_page progress.Proceeds (taken.Proceeds next) pair s o first logs now left j old mid new takes notes all proceeds base before numbered f =
    let b = subsequent j pair base before s o next now progress.Proceeds first logs old mid numbered f takes.1 takes.2 notes all in
    let most = j.settings.max in
    let still : IsOpenIn most base (before ++ s ∷ []) (record { connection = next; logs = logs }) = record {
      emitted = f.emitted ++ now;
      unended = takes.0;
      consistent = b.consistent;
      timed = b.timed;
      proceeds = b.course_is;
      up = b.up ∙ ap came_up_by (all_logged (hears_event most) (λ h. h.packet) (f.emitted ++ now) b.course_is);
      bare = b.bare;
      fit = fits_next base [] before s f.fit (not_much o.connection s f.emitted base before takes.3 f.unended f.consistent);
    } in
    subst (λ (l : Option Open). LogsOn j pair base before s l old new) (sym proceeds.0)
    (logs_on j pair base before s next f.emitted now progress.Proceeds logs old mid new (Some (record { connection = next; logs = logs })) b b.on (proceeds.1, still))
follows_page progress.Proceeds (taken.BothLogs lack) pair s o first logs now left j old mid new takes notes all proceeds base before numbered f =
    subst (λ (l : Option Open). LogsOn j pair base before s l old new) (sym proceeds.0)
    (elim takes [
      | inl t ↦
          let b = subsequent j pair base before s o t.0 now progress.Proceeds first logs old mid numbered f t.4 t.5 notes all in
          let seen = before ++ s ∷ [] in
          logs_on j pair base before s t.0 f.emitted now progress.Proceeds logs old mid new None b b.on (
            subst (λ (l : Option Shortfall). IsOver l j.settings.max base seen) (sym t.3 ∙ proceeds.1)
                (over_ended j.settings.max base seen t.0 (f.emitted ++ now) t.1 numbered b.consistent t.2 b.course_is),
            counts j.settings.max base seen t.0 (f.emitted ++ now) logs.is_up mid new numbered b.consistent b.up proceeds.2,
          )
      | inr full ↦ absurd (let no : Some (lacks.Full s.packet) ≡ None = sym full.0 ∙ proceeds.1 in cc)
    ])
follows_page (progress.Over lack) (taken.Proceeds next) pair s o first logs now left j old mid new takes notes all proceeds base before numbered f =
    subst (λ (l : Option Open). LogsOn j pair base before s l old new) (sym proceeds.0)
    (over_page lack j pair base before s o next now first logs old mid new numbered f takes.1 takes.2 notes all proceeds.1 proceeds.2)
follows_page (progress.Over lack) (taken.BothLogs other) pair s o first logs now left j old mid new takes notes all proceeds base before numbered f =
    subst (λ (l : Option Open). LogsOn j pair base before s l old new) (sym proceeds.0)
    (elim takes [
      | inl t ↦ over_page lack j pair base before s o t.0 now first logs old mid new numbered f t.4 t.5 notes all proceeds.1 proceeds.2
      | inr full ↦
          let course_is = course_after j.settings.max first.bare_resets.items f.emitted now (progress.Over lack) f.proceeds all.logs.course_is in
          let emitted : f.emitted ++ now ≡ f.emitted = ap (λ (hs : List TimedEvent). f.emitted ++ hs) full.1 ∙ append-nil f.emitted in
          let no : progress.Proceeds ≡ progress.Over lack = sym f.proceeds ∙ ap (course_by_events j.settings.max) (sym emitted) ∙ course_is in
          absurd cc
    ])

pub follows_page_ok : {E : Type 0} (result : Result (Option Open) E) (pair : Pair) (s : Seen) (o : Open) (t : Taken) (c : Progress) (first logs : Logs) (empty now : List TimedEvent)
    → (old mid new : Report) → empty ≡ [] → TakesSegment o.connection s empty now t → with_bare o.logs first s
    → ((j : WrittenLog) → old.manner ≡ Log j → LogsAll pair first now c j old logs mid)
    → IfOk result (λ left. (j : WrittenLog) → mid.manner ≡ Log j → GoesOnPage logs c t left mid new) → IfOk result (λ left. FollowsOnPage pair s o left old new)
follows_page_ok (Ok left) pair s o t c first logs empty now old mid new none takes notes processes_input proceeds = λ j log base before numbered f.
    let all = processes_input j log in
    follows_page c t pair s o first logs now left j old mid new (subst (λ (hs : List TimedEvent). TakesSegment o.connection s hs now t) none takes) notes all
    (proceeds all.logs.next all.logs.manner_is) base before numbered f
follows_page_ok (Err stop) pair s o t c first logs empty now old mid new none takes notes processes_input proceeds = tt

-- ---- all of them

pub all_yielded : {A : Type 0} (all yielded : List A) → map (λ (y : A). y) yielded ≡ take (length yielded) all → length yielded ≡ length all → yielded ≡ all
all_yielded {A} all yielded front same = sym (map-id yielded) ∙ front ∙ take_all (length yielded) all (omega (arith, same))

-- behind these segments more may follow
pub page_more : (a : Parameters) (base : End → ℕ) (seen : List Seen) (o : Open) → AreNumbered 0 seen → IsOpenIn a.max base seen o → MayTellMore a base seen
unfolding MayTellMore
page_more a base seen o numbered f =
    let now = emitted_at_once o.connection f.emitted base seen f.consistent numbered in
    (ap (course_by a.max) (sym now.0) ∙ sym (course_of_entries a.max f.emitted) ∙ f.proceeds, sym now.1 ∙ ap is_some f.unended, f.fit)

-- ---- no segment follows

nothing_more : (xs ys : List Entry) → xs ++ ys ≡ xs → ys ≡ []
nothing_more [] ys e = e
nothing_more (x ∷ xs) ys e = nothing_more xs ys cc

no_things : (hs : List TimedEvent) → map entry_as hs ≡ [] → hs ≡ []
no_things [] e = refl
no_things (h ∷ hs) e = absurd cc

-- all was told before
pub none_left : (c : Connection) (emitted now : List TimedEvent) (e : Ending) (base : End → ℕ) (seen : List Seen) → EndsAs c [] now e → AreNumbered 0 seen → StateInvariant c emitted base seen
    → (now ≡ []) × (e ≡ ended (places base [] seen))
none_left c emitted now e base seen ends numbered consistent =
    let end = ends base seen emitted numbered (subst (λ (hs : List TimedEvent). StateInvariant c hs base seen) (sym (append-nil emitted)) consistent) in
    let before = (emitted_at_once c emitted base seen consistent numbered).0 in
    let none : map entry_as emitted ++ map entry_as now ≡ map entry_as emitted = sym (map-append entry_as emitted now) ∙ end.0 ∙ sym before in
    (no_things now (nothing_more (map entry_as emitted) (map entry_as now) none), end.1)

pub record Downs (b : Bool) (j : WrittenLog) (old new : Report) : Type 0 where
  pub next : WrittenLog
  pub manner_is : new.manner ≡ Log next
  pub settings_are : next.settings ≡ j.settings
  pub side_is : next.side ≡ j.side
  pub on : page_of next new ≡ down_if b (page_of j old)
  pub same : new ≡ record old { manner = new.manner; page = new.page }

pub downs_of : (b : Bool) (j : WrittenLog) (old new : Report) → old.manner ≡ Log j → DownsIf b j old new → Downs b j old new
downs_of false j old new log is = record {
  next = j;
  manner_is = ap (λ (r : Report). r.manner) is ∙ log;
  settings_are = refl;
  side_is = refl;
  on = ap (page_of j) is;
  same = subst (λ (r : Report). r ≡ record old { manner = r.manner; page = r.page }) (sym is) refl;
}
downs_of true j old new log proceeds = record {
  next = proceeds.next;
  manner_is = proceeds.manner_is;
  settings_are = proceeds.settings_are;
  side_is = proceeds.side_is;
  on = proceeds.on;
  same = proceeds.same;
}

pub ends_page : {E : Type 0} (result : Result (Unit {0}) E) (pair : Pair) (replaced : Bool) (missing : Option Shortfall) (o : Open) (logs last : Logs) (empty now : List TimedEvent)
    → (ending : Ending) (c : Progress) (lack : Option Shortfall) (downs : Bool) (old mid down new : Report) → empty ≡ [] → EndsAs o.connection empty now ending
    → ((j : WrittenLog) → old.manner ≡ Log j → LogsAll pair o.logs now c j old logs mid) → lack ≡ lack_behind ending missing → downs ≡ (replaced && is_none lack)
    → ((j : WrittenLog) → mid.manner ≡ Log j → DownsIf (downs && logs.is_up) j mid down × (last.is_up ≡ logs.is_up))
    → OnOk result ((j : WrittenLog) → down.manner ≡ Log j → (lack ≡ None) × CountsIf last.is_up down new) → OnOk result (EndsOnPage replaced missing o old new)
ends_page (Ok done) pair replaced missing o logs last empty now ending c lack downs old mid down new none ends processes_input lack_is downs_is proceeds counted = λ j log base seen numbered f.
    let ps = places base [] seen in
    let left = none_left o.connection f.emitted now ending base seen (subst (λ (hs : List TimedEvent). EndsAs o.connection hs now ending) none ends) numbered f.consistent in
    let all : LogsAll pair o.logs [] c j old logs mid = subst (λ (hs : List TimedEvent). LogsAll pair o.logs hs c j old logs mid) left.0 (processes_input j log) in
    let next = all.logs.next in
    let heard_it : page_of next mid ≡ page_of j old =
    subst (λ (x : Progress). OnPage x (HappensOn j.settings j.side pair []) (page_of j old) (page_of next mid)) all.logs.course_is all.logs.on in
    let down_it = proceeds next all.logs.manner_is in
    let d = downs_of (downs && logs.is_up) next mid down all.logs.manner_is down_it.0 in
    let counts = counted d.next d.manner_is in
    let up : logs.is_up ≡ came_up (emits ps) =
    all.up ∙ sym (or_false o.logs.is_up) ∙ f.up ∙ came_up_same f.emitted ∙ ap came_up (emitted_at_once o.connection f.emitted base seen f.consistent numbered).0 in
    let downs_here : (downs && logs.is_up) ≡ (replaced && came_up (emits ps)) =
    ap (λ (b : Bool). b && logs.is_up) (downs_is ∙ ap (λ (l : Option Shortfall). replaced && is_none l) counts.0 ∙ and_true replaced) ∙ ap (λ (b : Bool). replaced && b) up in
    record {
      lacks = ap (λ (x : Ending). lack_behind x missing) (sym left.1) ∙ sym lack_is ∙ counts.0;
      mid = down;
      next = d.next;
      manner_is = d.manner_is;
      settings_are = d.settings_are ∙ all.logs.settings_are;
      side_is = d.side_is ∙ all.logs.side_is;
      on = d.on ∙ ap (down_if (downs && logs.is_up)) heard_it ∙ ap (λ (b : Bool). down_if b (page_of j old)) downs_here;
      same = d.same ∙ ap (λ (r : Report). record r { manner = down.manner; page = down.page }) all.logs.same;
      counts = subst (λ (b : Bool). CountsIf b down new) (down_it.1 ∙ up) counts.1;
    }
  where
    and_true : (b : Bool) → (b && true) ≡ b
    and_true true = refl
    and_true false = refl
ends_page (Err stop) pair replaced missing o logs last empty now ending c lack downs old mid down new none ends processes_input lack_is downs_is proceeds counted = tt

-- it is never over by what is told then
pub never_over_page : {E : Type 0} (result : Result (Unit {0}) E) (pair : Pair) (replaced : Bool) (missing : Option Shortfall) (o : Open) (logs : Logs) (empty now : List TimedEvent)
    → (ending : Ending) (c : Progress) (lack : Option Shortfall) (old mid new : Report) → empty ≡ [] → EndsAs o.connection empty now ending → c ≡ progress.Over lack
    → ((j : WrittenLog) → old.manner ≡ Log j → LogsAll pair o.logs now c j old logs mid) → OnOk result (EndsOnPage replaced missing o old new)
never_over_page (Ok done) pair replaced missing o logs empty now ending c lack old mid new none ends over processes_input = λ j log base seen numbered f.
    let left = none_left o.connection f.emitted now ending base seen (subst (λ (hs : List TimedEvent). EndsAs o.connection hs now ending) none ends) numbered f.consistent in
    let all : LogsAll pair o.logs [] c j old logs mid = subst (λ (hs : List TimedEvent). LogsAll pair o.logs hs c j old logs mid) left.0 (processes_input j log) in
    let no : progress.Over lack ≡ progress.Proceeds = sym over ∙ all.logs.course_is in
    absurd cc
never_over_page (Err stop) pair replaced missing o logs empty now ending c lack old mid new none ends over processes_input = tt

-- ---- it goes down

pub never_down : {T E : Type 0} (result : Result T E) (old : Report) (P : WrittenLog → Type 0) → old.manner ≡ Verdicts
    → OnOk result ((k : WrittenLog) → old.manner ≡ Log k → P k)
never_down (Ok x) old P is = λ k log. absurd (let same : Verdicts ≡ Log k = sym is ∙ log in cc)
never_down (Err fault) old P is = tt

pub down_one : {E : Type 0} (result : Result (Unit {0}) E) (j next : WrittenLog) (text : Text) (old new : Report) → old.manner ≡ Log j
    → new ≡ record old { manner = Log next; page = text }
    → OnOk result (text.octets ≡ old.page.octets ++ note_text (note_of remark.Replaced j.time logs_event.Down)) → next.begun ≡ went_down j.begun
    → next.time ≡ j.time → (next.settings ≡ j.settings) × (next.side ≡ j.side) → OnOk result ((k : WrittenLog) → old.manner ≡ Log k → GoesDown k old new)
down_one (Ok done) j next text old new of is emitted begun time same = λ k log.
    let octets : new.page.octets ≡ text.octets = ap (λ (r : Report). r.page.octets) is in
    subst (λ (x : WrittenLog). GoesDown x old new) (same_log old j k of log)
    (record {
      next = next;
      manner_is = ap (λ (r : Report). r.manner) is;
      settings_are = same.0;
      side_is = same.1;
      on = same_page next.begun (went_down j.begun) next.time j.time new.page.octets
          (old.page.octets ++ note_text (note_of remark.Replaced j.time logs_event.Down)) begun time (octets ∙ emitted);
      same = subst (λ (r : Report). r ≡ record old { manner = r.manner; page = r.page }) (sym is) refl;
    })
down_one (Err fault) j next text old new of is emitted begun time same = tt
