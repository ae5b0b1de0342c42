-- Both logs of a connection have what happens on it.
use Rattle.std.proofs.Common.{◌≡◌, ◌<◌, ◌+◌, ◌||◌, ◌++◌, ◌∷◌, max, ℕ, Bool, true, false, List, [], length, drop, get_or, Option, Some, None, Box, Vec, Global, refl, sym, ap, subst, ◌∙◌, append_assoc, arith}
use Rattle.std.specs.Prelude.{Result, Ok, Err, IfOk, OnOk}
use Rattle.std.proofs.lemmas.List.{append-nil, drop_more, drop_all}
use Rattle.hsms_machine.specs.Settings.{Parameters}
use Rattle.capture_tcp.specs.declared.packet.Side.{Side}
use Rattle.capture_tcp.specs.declared.packet.Side.TheVariants as side
use Rattle.capture_tcp.specs.declared.events.Event.{Event}
use Rattle.capture_tcp.specs.declared.events.Event.TheVariants as happens
use Rattle.capture_tcp.specs.declared.events.TimedEvent.{TimedEvent}
use Rattle.capture_log.specs.AuditedLog.{HasLogged, Note, CurrentState}
use Rattle.capture_log.specs.BothLogs.{HasNoted, LogsEventAs, Records, reception_of}
use Rattle.capture_log.specs.declared.both_logs.BothLogs.{BothLogs}
use Rattle.capture_log.specs.declared.both_logs.LogResult.{LogResult}
use Rattle.capture_log.specs.declared.both_logs.LogResult.TheVariants as reception
use Rattle.cli_capture.specs.declared.progress.Progress.{Progress}
use Rattle.cli_capture.specs.declared.progress.Progress.TheVariants as progress
use Rattle.cli_capture.specs.declared.tracked_connection.Logs.{Logs}
use Rattle.cli_capture.specs.declared.report.Report.{Report}
use Rattle.capture_errors.specs.declared.incomplete.Shortfall.{Shortfall}
use Rattle.cli_capture.specs.Progress.{course_behind}
use Rattle.cli_capture.specs.ConnectionLog.{and_course, and_goes, and_logged}
use Rattle.cli_capture.specs.TrackedConnection.{came_up_by, course_by_events, is_up_event, logged_by, timed_by}
use Rattle.cli_capture.specs.InnerTrackedConnection.{AreNotes, Begins, EndsHad, EndsHave, HaveHeard, HearsAll, HearsBy, HearsOn, IsNothing, times}
use Rattle.cli_capture.proofs.Logging.{or_assoc}

-- ---- one entry more

pub notes_more : (side : Side) (before : ℕ) (hs : List TimedEvent) (notes : List Note) (last : ℕ) (h : TimedEvent) (note : Note)
    → AreNotes side before hs notes last → Records last side h note
    → AreNotes side before (hs ++ h ∷ []) (notes ++ note ∷ []) (max last h.time)
notes_more side before [] notes last h note are records = (
  note,
  [],
  ap (λ (ns : List Note). ns ++ note ∷ []) are.0,
  subst (λ (n : ℕ). Records n side h note) are.1 records,
  (refl, ap (λ (n : ℕ). max n h.time) are.1),
)
notes_more side before (x ∷ hs) notes last h note are records = (
  are.0,
  are.1 ++ note ∷ [],
  ap (λ (ns : List Note). ns ++ note ∷ []) are.2,
  are.3,
  notes_more side (max before x.time) hs are.1 last h note are.4 records,
)

pub have_more : (a p : Parameters) (hs : List TimedEvent) (h : TimedEvent) (old new : BothLogs) → HasNoted old.time side.Active h old.active new.active
    → HasNoted old.time side.Passive h old.passive new.passive → new.time ≡ max old.time h.time → new.max ≡ old.max → HaveHeard a p hs old.time old
    → HaveHeard a p (hs ++ h ∷ []) new.time new
have_more a p hs h old new first second at same have = record {
  most = same ∙ have.most;
  notes_a = have.notes_a ++ first.0 ∷ [];
  notes_p = have.notes_p ++ second.0 ∷ [];
  logged_a = first.2 a have.notes_a have.logged_a;
  logged_p = second.2 p have.notes_p have.logged_p;
  are_a = subst (AreNotes side.Active 0 (hs ++ h ∷ []) (have.notes_a ++ first.0 ∷ [])) (sym at) (notes_more side.Active 0 hs have.notes_a old.time h first.0 have.are_a first.1);
  are_p = subst (AreNotes side.Passive 0 (hs ++ h ∷ []) (have.notes_p ++ second.0 ∷ [])) (sym at) (notes_more side.Passive 0 hs have.notes_p old.time h second.0 have.are_p second.1);
}

something : (hs : List TimedEvent) (h : TimedEvent) → IsNothing (hs ++ h ∷ []) ≡ false
something [] h = refl
something (x ∷ hs) h = refl

pub hears_by : (answer : LogResult) (a p : Parameters) (hs : List TimedEvent) (h : TimedEvent) (old : BothLogs) (box : Box BothLogs Global)
    → LogsEventAs old.max old.time side.Active h answer old.active box.value.active → LogsEventAs old.max old.time side.Passive h answer old.passive box.value.passive
    → box.value.time ≡ max old.time h.time → box.value.max ≡ old.max → HaveHeard a p hs old.time old → HearsBy answer a p hs h (Some box)
hears_by reception.Proceeds a p hs h old box first second at same have = (something hs h, have_more a p hs h old box.value first second at same have)
hears_by reception.Down a p hs h old box first second at same have = (box.value.time, have_more a p hs h old box.value first.1 second.1 at same have)
hears_by reception.Length a p hs h old box first second at same have = (
  old.time,
  record {
    most = same ∙ have.most;
    notes_a = have.notes_a;
    notes_p = have.notes_p;
    logged_a = subst (λ (s : CurrentState). HasLogged a have.notes_a s) (sym first.1) have.logged_a;
    logged_p = subst (λ (s : CurrentState). HasLogged p have.notes_p s) (sym second.1) have.logged_p;
    are_a = have.are_a;
    are_p = have.are_p;
  },
)

-- ---- the logs of both ends begin

pub begun : (a p : Parameters) (ends : BothLogs) → HasLogged a [] ends.active → HasLogged p [] ends.passive → ends.max ≡ a.max → ends.time ≡ 0
    → HaveHeard a p [] ends.time ends
begun a p ends first second same at = record {
  most = same;
  notes_a = [];
  notes_p = [];
  logged_a = first;
  logged_p = second;
  are_a = (refl, at);
  are_p = (refl, at);
}

pub have_begun : (a p : Parameters) (hs : List TimedEvent) (old mid : Option (Box BothLogs Global)) (box : Box BothLogs Global) → Begins a p old mid → mid ≡ Some box
    → EndsHave a p hs old → HaveHeard a p hs box.value.time box.value
have_begun a p hs None mid box begins is have =
    let same : begins.0 ≡ box = cc in
    subst (λ (gs : List TimedEvent). HaveHeard a p gs box.value.time box.value) (sym have)
    (subst (λ (b : Box BothLogs Global). HaveHeard a p [] b.value.time b.value) same begins.2)
have_begun a p hs (Some old) mid box begins is have =
    let same : old ≡ box = cc in
    subst (λ (b : Box BothLogs Global). HaveHeard a p hs b.value.time b.value) same have.1

pub never_none : {B : Type 0} (a p : Parameters) (old mid : Option (Box BothLogs Global)) → Begins a p old mid → mid ≡ None → B
never_none a p None mid begins is = let no : ⊥ = cc in absurd no
never_none a p (Some old) mid begins is = let no : ⊥ = cc in absurd no

-- something happens, where the logs have begun before it
pub hears_on : (answer : LogResult) (a p : Parameters) (h : TimedEvent) (old mid : Option (Box BothLogs Global)) (box new : Box BothLogs Global) → Begins a p old mid → mid ≡ Some box
    → LogsEventAs box.value.max box.value.time side.Active h answer box.value.active new.value.active
    → LogsEventAs box.value.max box.value.time side.Passive h answer box.value.passive new.value.passive → new.value.time ≡ max box.value.time h.time
    → new.value.max ≡ box.value.max → answer ≡ reception_of box.value.max h.event → HearsOn a p h answer old (Some new)
hears_on answer a p h old mid box new begins is first second at same answers hs have =
    let had = have_begun a p hs old mid box begins is have in
    (answers ∙ ap (λ (m : ℕ). reception_of m h.event) had.most, hears_by answer a p hs h box.value new first second at same had)

pub heard_ok : {E : Type 0} (result : Result LogResult E) (V : Type 0) (a p : Parameters) (h : TimedEvent) (old mid : Option (Box BothLogs Global)) (box new : Box BothLogs Global) (at : BothLogs)
    → (V → Begins a p old mid) → mid ≡ Some box → at ≡ box.value
    → IfOk result (λ answer. LogsEventAs at.max at.time side.Active h answer at.active new.value.active)
    → IfOk result (λ answer. LogsEventAs at.max at.time side.Passive h answer at.passive new.value.passive)
    → IfOk result (λ answer. answer ≡ reception_of at.max h.event) → OnOk result (new.value.time ≡ max at.time h.time) → OnOk result (new.value.max ≡ at.max)
    → IfOk result (λ answer. V → HearsOn a p h answer old (Some new))
heard_ok (Ok answer) V a p h old mid box new at begins is at_is first second answers time same = λ verdicts.
    hears_on answer a p h old mid box new (begins verdicts) is
    (subst (λ (e : BothLogs). LogsEventAs e.max e.time side.Active h answer e.active new.value.active) at_is first)
    (subst (λ (e : BothLogs). LogsEventAs e.max e.time side.Passive h answer e.passive new.value.passive) at_is second)
    (subst (λ (e : BothLogs). new.value.time ≡ max e.time h.time) at_is time) (subst (λ (e : BothLogs). new.value.max ≡ e.max) at_is same)
    (subst (λ (e : BothLogs). answer ≡ reception_of e.max h.event) at_is answers)
heard_ok (Err stop) V a p h old mid box new at begins is at_is first second answers time same = tt

pub none_ok : {E : Type 0} (result : Result LogResult E) (V : Type 0) (a p : Parameters) (h : TimedEvent) (old mid new : Option (Box BothLogs Global)) → (V → Begins a p old mid) → mid ≡ None
    → IfOk result (λ answer. V → HearsOn a p h answer old new)
none_ok (Ok answer) V a p h old mid new begins is = λ verdicts. never_none a p old mid (begins verdicts) is
none_ok (Err stop) V a p h old mid new begins is = tt

-- nothing of this is said where the log of an end is told
pub never_ok : {T E : Type 0} (result : Result T E) (V : Type 0) (P : T → Type 0) → (V → ⊥) → IfOk result (λ x. V → P x)
never_ok (Ok x) V P never = λ verdicts. absurd (never verdicts)
never_ok (Err stop) V P never = tt

-- ---- what is told is heard, thing by thing

-- as far as so many were heard
pub record Hearing (a p : Parameters) (hs : List TimedEvent) (first : Logs) (all : List TimedEvent) (n : ℕ) (now : Logs) : Type 0 where
  pub bare : now.bare_resets ≡ first.bare_resets
  pub course_is : course_by_events a.max (times first all) ≡ course_by_events a.max (times first (drop n all))
  pub up : (first.is_up || came_up_by (logged_by a.max (times first all))) ≡ (now.is_up || came_up_by (logged_by a.max (times first (drop n all))))
  pub front : List TimedEvent
  pub logged_are : logged_by a.max (times first all) ≡ front ++ logged_by a.max (times first (drop n all))
  pub ends : EndsHave a p (hs ++ front) now.ends

pub hearing_begins : (a p : Parameters) (hs : List TimedEvent) (first : Logs) (all : List TimedEvent) → EndsHave a p hs first.ends → Hearing a p hs first all 0 first
hearing_begins a p hs first all have = record {
  bare = refl;
  course_is = refl;
  up = refl;
  front = [];
  logged_are = refl;
  ends = subst (λ (gs : List TimedEvent). EndsHave a p gs first.ends) (sym (append-nil hs)) have;
}

or_false : (b : Bool) → (b || false) ≡ b
or_false true = refl
or_false false = refl

-- what is left, one by one
next_left : (first : Logs) (all : List TimedEvent) (n : ℕ) (x : TimedEvent) → n < length all → x ≡ get_or all n x
    → times first (drop n all) ≡ timed_by first.bare_resets.items x ∷ times first (drop (n + 1) all)
next_left first all n x less is =
    ap (times first) (drop_more all n x less) ∙ ap (λ (y : TimedEvent). timed_by first.bare_resets.items y ∷ times first (drop (n + 1) all)) (sym is)

pub hearing_goes : (a p : Parameters) (hs : List TimedEvent) (first now next : Logs) (all : List TimedEvent) (n : ℕ) (x : TimedEvent) → n < length all → x ≡ get_or all n x
    → Hearing a p hs first all n now → next.bare_resets ≡ now.bare_resets → next.is_up ≡ (now.is_up || is_up_event x.event) → reception.Proceeds ≡ reception_of a.max x.event
    → ((gs : List TimedEvent) → EndsHave a p gs now.ends → EndsHave a p (gs ++ timed_by first.bare_resets.items x ∷ []) next.ends)
    → Hearing a p hs first all (n + 1) next
hearing_goes a p hs first now next all n x less is h bare up proceeds ends =
    let y = timed_by first.bare_resets.items x in
    let rest = times first (drop (n + 1) all) in
    let left = next_left first all n x less is in
    let logs : logged_by a.max (times first (drop n all)) ≡ y ∷ logged_by a.max rest =
    ap (logged_by a.max) left ∙ ap (λ (answer : LogResult). and_logged answer y (logged_by a.max rest)) (sym proceeds) in
    record {
      bare = bare ∙ h.bare;
      course_is = h.course_is ∙ ap (course_by_events a.max) left
          ∙ ap (λ (answer : LogResult). and_course answer x.packet (course_by_events a.max rest)) (sym proceeds);
      up = h.up ∙ ap (λ (gs : List TimedEvent). now.is_up || came_up_by gs) logs
          ∙ sym (or_assoc now.is_up (is_up_event x.event) (came_up_by (logged_by a.max rest)))
          ∙ ap (λ (b : Bool). b || came_up_by (logged_by a.max rest)) (sym up);
      front = h.front ++ y ∷ [];
      logged_are = h.logged_are ∙ ap (λ (gs : List TimedEvent). h.front ++ gs) logs ∙ sym (append_assoc h.front (y ∷ []) (logged_by a.max rest));
      ends = subst (λ (gs : List TimedEvent). EndsHave a p gs next.ends) (append_assoc hs h.front (y ∷ [])) (ends (hs ++ h.front) h.ends);
    }

pub hearing_ends : (a p : Parameters) (hs : List TimedEvent) (first now : Logs) (all : List TimedEvent) (n : ℕ) → n ≡ length all → Hearing a p hs first all n now
    → HearsAll a p hs first all progress.Proceeds now
hearing_ends a p hs first now all n is h =
    let none : times first (drop n all) ≡ [] = ap (times first) (drop_all n all (omega (arith, is))) in
    let logs : logged_by a.max (times first all) ≡ h.front = h.logged_are ∙ ap (λ (gs : List TimedEvent). h.front ++ logged_by a.max gs) none ∙ append-nil h.front in
    record {
      course_is = sym (h.course_is ∙ ap (course_by_events a.max) none);
      up = sym (h.up ∙ ap (λ (gs : List TimedEvent). now.is_up || came_up_by (logged_by a.max gs)) none ∙ or_false now.is_up);
      bare = h.bare;
      ends = subst (λ (gs : List TimedEvent). EndsHave a p (hs ++ gs) now.ends) (sym logs) h.ends;
    }

-- a message that no end takes brings nothing up
never_up : (most : ℕ) (e : Event) (b : Bool) → reception.Length ≡ reception_of most e → (b || is_up_event e) ≡ b
never_up most happens.Up b is = absurd cc
never_up most (happens.Message from octets) b is = or_false b
never_up most happens.Down b is = absurd cc

-- nothing behind it is heard
pub hearing_stops : (answer : LogResult) (lack : Option Shortfall) (a p : Parameters) (hs : List TimedEvent) (first now next : Logs) (all : List TimedEvent) (n : ℕ) (x : TimedEvent)
    → n < length all → x ≡ get_or all n x → Hearing a p hs first all n now → next.bare_resets ≡ now.bare_resets → next.is_up ≡ (now.is_up || is_up_event x.event)
    → answer ≡ reception_of a.max x.event → progress.Over lack ≡ and_course answer x.packet progress.Proceeds
    → ((gs : List TimedEvent) → EndsHave a p gs now.ends → HearsBy answer a p gs (timed_by first.bare_resets.items x) next.ends)
    → HearsAll a p hs first all (progress.Over lack) next
hearing_stops reception.Proceeds lack a p hs first now next all n x less is h bare up answers stops ends = let no : ⊥ = cc in absurd no
hearing_stops reception.Down lack a p hs first now next all n x less is h bare up answers stops ends =
    let y = timed_by first.bare_resets.items x in
    let rest = times first (drop (n + 1) all) in
    let left = next_left first all n x less is in
    let logs : logged_by a.max (times first (drop n all)) ≡ y ∷ [] =
    ap (logged_by a.max) left ∙ ap (λ (answer : LogResult). and_logged answer y (logged_by a.max rest)) (sym answers) in
    let whole : logged_by a.max (times first all) ≡ h.front ++ y ∷ [] = h.logged_are ∙ ap (λ (gs : List TimedEvent). h.front ++ gs) logs in
    record {
      course_is = stops ∙ sym (h.course_is ∙ ap (course_by_events a.max) left
          ∙ ap (λ (answer : LogResult). and_course answer x.packet (course_by_events a.max rest)) (sym answers));
      up = up ∙ sym (h.up ∙ ap (λ (gs : List TimedEvent). now.is_up || came_up_by gs) logs ∙ ap (λ (b : Bool). now.is_up || b) (or_false (is_up_event x.event)));
      bare = bare ∙ h.bare;
      ends = subst (λ (gs : List TimedEvent). EndsHad a p gs next.ends)
          (append_assoc hs h.front (y ∷ []) ∙ ap (λ (gs : List TimedEvent). hs ++ gs) (sym whole)) (ends (hs ++ h.front) h.ends);
    }
hearing_stops reception.Length lack a p hs first now next all n x less is h bare up answers stops ends =
    let y = timed_by first.bare_resets.items x in
    let rest = times first (drop (n + 1) all) in
    let left = next_left first all n x less is in
    let logs : logged_by a.max (times first (drop n all)) ≡ [] =
    ap (logged_by a.max) left ∙ ap (λ (answer : LogResult). and_logged answer y (logged_by a.max rest)) (sym answers) in
    let whole : logged_by a.max (times first all) ≡ h.front = h.logged_are ∙ ap (λ (gs : List TimedEvent). h.front ++ gs) logs ∙ append-nil h.front in
    record {
      course_is = stops ∙ sym (h.course_is ∙ ap (course_by_events a.max) left
          ∙ ap (λ (answer : LogResult). and_course answer x.packet (course_by_events a.max rest)) (sym answers));
      up = up ∙ never_up a.max x.event now.is_up answers ∙ sym (h.up ∙ ap (λ (gs : List TimedEvent). now.is_up || came_up_by gs) logs ∙ or_false now.is_up);
      bare = bare ∙ h.bare;
      ends = subst (λ (gs : List TimedEvent). EndsHad a p gs next.ends) (ap (λ (gs : List TimedEvent). hs ++ gs) (sym whole)) (ends (hs ++ h.front) h.ends);
    }

-- ---- a turn of the loop

abbrev pub NextOf : Logs → TimedEvent → Logs → Type 0
NextOf now x next = (next.bare_resets ≡ now.bare_resets) × (next.is_up ≡ (now.is_up || is_up_event x.event))

-- the lists of numbers are one
same_times : (a p : Parameters) (first now : Logs) (x : TimedEvent) (answer : LogResult) (ends : Option (Box BothLogs Global)) → now.bare_resets ≡ first.bare_resets
    → HearsOn a p (timed_by now.bare_resets.items x) answer now.ends ends → HearsOn a p (timed_by first.bare_resets.items x) answer now.ends ends
same_times a p first now x answer ends same processes_input =
    subst (λ (v : Vec ℕ Global). HearsOn a p (timed_by v.items x) answer now.ends ends) same processes_input

pub turn_goes : (answer : LogResult) (a p : Parameters) (hs : List TimedEvent) (first now next : Logs) (all : List TimedEvent) (n : ℕ) (x : TimedEvent) → n < length all → x ≡ get_or all n x
    → Hearing a p hs first all n now → NextOf now x next → HearsOn a p (timed_by now.bare_resets.items x) answer now.ends next.ends
    → progress.Proceeds ≡ course_behind answer x.packet → Hearing a p hs first all (n + 1) next
turn_goes reception.Proceeds a p hs first now next all n x less is h on processes_input proceeds =
    let heard_it = same_times a p first now x reception.Proceeds next.ends h.bare processes_input in
    hearing_goes a p hs first now next all n x less is h on.0 on.1 (heard_it (hs ++ h.front) h.ends).0 (λ gs have. (heard_it gs have).1)
turn_goes reception.Down a p hs first now next all n x less is h on processes_input proceeds = let no : ⊥ = cc in absurd no
turn_goes reception.Length a p hs first now next all n x less is h on processes_input proceeds = let no : ⊥ = cc in absurd no

pub turn_stops : (answer : LogResult) (lack : Option Shortfall) (a p : Parameters) (hs : List TimedEvent) (first now next : Logs) (all : List TimedEvent) (n : ℕ) (x : TimedEvent) → n < length all
    → x ≡ get_or all n x → Hearing a p hs first all n now → NextOf now x next → HearsOn a p (timed_by now.bare_resets.items x) answer now.ends next.ends
    → progress.Over lack ≡ course_behind answer x.packet → HearsAll a p hs first all (progress.Over lack) next
turn_stops answer lack a p hs first now next all n x less is h on processes_input stops =
    let heard_it = same_times a p first now x answer next.ends h.bare processes_input in
    hearing_stops answer lack a p hs first now next all n x less is h on.0 on.1 (heard_it (hs ++ h.front) h.ends).0 (by_goes (course_behind answer x.packet) stops)
    (λ gs have. (heard_it gs have).1)
  where
    by_goes : (c : Progress) → progress.Over lack ≡ c → progress.Over lack ≡ and_goes c progress.Proceeds
    by_goes progress.Proceeds e = e
    by_goes (progress.Over other) e = e

-- the same by other names
pub hears_same : (r s : Report) (h g : TimedEvent) (answer : LogResult) (old mid new : Option (Box BothLogs Global)) → s ≡ r → g ≡ h → mid ≡ old
    → HearsOn s.active s.passive g answer mid new → HearsOn r.active r.passive h answer old new
hears_same r s h g answer old mid new same is ends processes_input =
    subst (λ (r : Report). HearsOn r.active r.passive h answer old new) same
    (subst (λ (h : TimedEvent). HearsOn s.active s.passive h answer old new) is (subst (λ (e : Option (Box BothLogs Global)). HearsOn s.active s.passive g answer e new) ends processes_input))

pub next_of : (now mid : Logs) (ends : Option (Box BothLogs Global)) (x : TimedEvent) → mid ≡ record now { is_up = now.is_up || is_up_event x.event }
    → NextOf now x (record { ends = ends; is_up = mid.is_up; bare_resets = mid.bare_resets })
next_of now mid ends x is = (ap (λ (l : Logs). l.bare_resets) is, ap (λ (l : Logs). l.is_up) is)
