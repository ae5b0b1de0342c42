-- What is told of a connection, and what both ends log of it.
use Rattle.std.proofs.Common.{◌≡◌, ◌||◌, ◌++◌, ◌∷◌, max, ℕ, Bool, true, false, List, [], map, Option, refl, sym, ap, subst, ◌∙◌}
use Rattle.std.proofs.lemmas.List.{append-nil}
use Rattle.hsms_machine.specs.declared.entry.Event.{Event as LogEvent}
use Rattle.capture_tcp.specs.declared.packet.Side.{Side}
use Rattle.capture_tcp.specs.declared.events.Event.{Event}
use Rattle.capture_tcp.specs.declared.events.Event.TheVariants as happens
use Rattle.capture_tcp.specs.declared.events.TimedEvent.{TimedEvent}
use Rattle.capture_tcp.specs.EventSteps.{entry_as, reported_as}
use Rattle.capture_tcp.specs.Timestamps.{AreTimed}
use Rattle.capture_tcp.proofs.Connecting.{side_back}
use Rattle.capture_log.specs.AuditedLog.{Note}
use Rattle.capture_log.specs.BothLogs.{LogsAs, Records, event_of, reception_of}
use Rattle.capture_log.specs.declared.both_logs.LogResult.{LogResult}
use Rattle.capture_log.specs.declared.both_logs.LogResult.TheVariants as reception
use Rattle.cli_capture.specs.declared.progress.Progress.{Progress}
use Rattle.cli_capture.specs.declared.progress.Progress.TheVariants as progress
use Rattle.capture_errors.specs.declared.incomplete.Shortfall.{Shortfall}
use Rattle.cli_capture.specs.ConnectionLog.{AreEntries, EntryIs, EventIs, and_course, and_logged, came_up, clock_by, course_by, course_of, entries_logged, processed_as, hears_entry, is_among, is_up, logged, moment_of}
use Rattle.cli_capture.specs.TrackedConnection.{came_up_by, course_by_events, hears_event, is_up_event, logged_by, time_by, timed_by}
use Rattle.cli_capture.specs.InnerTrackedConnection.{AreNotes}

-- ---- what goes on, and what stops

pub can_continue : {A : Type 0} (processes_input : A → LogResult) (packet : A → ℕ) (xs ys : List A) → course_of processes_input packet xs ≡ progress.Proceeds
    → (logged processes_input (xs ++ ys) ≡ xs ++ logged processes_input ys) × (course_of processes_input packet (xs ++ ys) ≡ course_of processes_input packet ys)
can_continue processes_input packet [] ys e = (refl, refl)
can_continue {A} processes_input packet (x ∷ xs) ys e = by_heard (processes_input x) e (can_continue processes_input packet xs ys)
  where
    by_heard : (h : LogResult) → and_course h (packet x) (course_of processes_input packet xs) ≡ progress.Proceeds
        → (course_of processes_input packet xs ≡ progress.Proceeds
        → (logged processes_input (xs ++ ys) ≡ xs ++ logged processes_input ys) × (course_of processes_input packet (xs ++ ys) ≡ course_of processes_input packet ys))
        → (and_logged h x (logged processes_input (xs ++ ys)) ≡ x ∷ (xs ++ logged processes_input ys))
        × (and_course h (packet x) (course_of processes_input packet (xs ++ ys)) ≡ course_of processes_input packet ys)
    by_heard reception.Proceeds e rest = let r = rest e in (ap (λ (zs : List A). x ∷ zs) r.0, r.1)
    by_heard reception.Down e rest = absurd cc
    by_heard reception.Length e rest = absurd cc

pub all_logged : {A : Type 0} (processes_input : A → LogResult) (packet : A → ℕ) (xs : List A) → course_of processes_input packet xs ≡ progress.Proceeds
    → logged processes_input xs ≡ xs
all_logged {A} processes_input packet xs e =
    ap (logged processes_input) (sym (append-nil xs)) ∙ (can_continue processes_input packet xs [] e).0 ∙ append-nil xs

pub stops_there : {A : Type 0} (processes_input : A → LogResult) (packet : A → ℕ) (xs ys : List A) (lack : Option Shortfall)
    → course_of processes_input packet xs ≡ progress.Over lack
    → (logged processes_input (xs ++ ys) ≡ logged processes_input xs) × (course_of processes_input packet (xs ++ ys) ≡ progress.Over lack)
stops_there processes_input packet [] ys lack e = absurd cc
stops_there {A} processes_input packet (x ∷ xs) ys lack e = by_heard (processes_input x) e (stops_there processes_input packet xs ys lack)
  where
    by_heard : (h : LogResult) → and_course h (packet x) (course_of processes_input packet xs) ≡ progress.Over lack
        → (course_of processes_input packet xs ≡ progress.Over lack
        → (logged processes_input (xs ++ ys) ≡ logged processes_input xs) × (course_of processes_input packet (xs ++ ys) ≡ progress.Over lack))
        → (and_logged h x (logged processes_input (xs ++ ys)) ≡ and_logged h x (logged processes_input xs))
        × (and_course h (packet x) (course_of processes_input packet (xs ++ ys)) ≡ progress.Over lack)
    by_heard reception.Proceeds e rest = let r = rest e in (ap (λ (zs : List A). x ∷ zs) r.0, r.1)
    by_heard reception.Down e rest = (refl, e)
    by_heard reception.Length e rest = (refl, e)

-- ---- the same of what is told as something else

pub logged_map : {A B : Type 0} (f : A → B) (p : A → LogResult) (q : B → LogResult) → ((x : A) → p x ≡ q (f x)) → (xs : List A)
    → map f (logged p xs) ≡ logged q (map f xs)
logged_map f p q same [] = refl
logged_map {A} {B} f p q same (x ∷ xs) =
    by_heard (p x) (logged_map f p q same xs) ∙ ap (λ (h : LogResult). and_logged h (f x) (logged q (map f xs))) (same x)
  where
    by_heard : (h : LogResult) → map f (logged p xs) ≡ logged q (map f xs) → map f (and_logged h x (logged p xs)) ≡ and_logged h (f x) (logged q (map f xs))
    by_heard reception.Proceeds rest = ap (λ (zs : List B). f x ∷ zs) rest
    by_heard reception.Down rest = refl
    by_heard reception.Length rest = refl

pub course_map : {A B : Type 0} (f : A → B) (p : A → LogResult) (q : B → LogResult) (n : A → ℕ) (m : B → ℕ) → ((x : A) → p x ≡ q (f x)) → ((x : A) → n x ≡ m (f x))
    → (xs : List A) → course_of p n xs ≡ course_of q m (map f xs)
course_map f p q n m same packet [] = refl
course_map f p q n m same packet (x ∷ xs) =
    ap (λ (c : Progress). and_course (p x) (n x) c) (course_map f p q n m same packet xs)
    ∙ ap (λ (h : LogResult). and_course h (n x) (course_of q m (map f xs))) (same x)
    ∙ ap (λ (k : ℕ). and_course (q (f x)) k (course_of q m (map f xs))) (packet x)

hears_told : (most : ℕ) (e : Event) → reception_of most e ≡ processed_as most (reported_as e)
hears_told most happens.Up = refl
hears_told most (happens.Message from octets) = refl
hears_told most happens.Down = refl

pub entries_of : (most : ℕ) (hs : List TimedEvent) → map entry_as (logged_by most hs) ≡ entries_logged most (map entry_as hs)
entries_of most hs = logged_map entry_as (hears_event most) (hears_entry most) (λ h. hears_told most h.event) hs

pub course_of_entries : (most : ℕ) (hs : List TimedEvent) → course_by_events most hs ≡ course_by most (map entry_as hs)
course_of_entries most hs = course_map entry_as (hears_event most) (hears_entry most) (λ h. h.packet) (λ e. e.packet) (λ h. hears_told most h.event) (λ h. refl) hs

-- ---- at their times

pub logged_timed : (most : ℕ) (bare : List ℕ) (hs : List TimedEvent)
    → map (timed_by bare) (logged_by most hs) ≡ logged_by most (map (timed_by bare) hs)
logged_timed most bare hs = logged_map (timed_by bare) (hears_event most) (hears_event most) (λ h. refl) hs

pub course_timed : (most : ℕ) (bare : List ℕ) (hs : List TimedEvent)
    → course_by_events most hs ≡ course_by_events most (map (timed_by bare) hs)
course_timed most bare hs = course_map (timed_by bare) (hears_event most) (hears_event most) (λ h. h.packet) (λ h. h.packet) (λ h. refl) (λ h. refl) hs

time_stays : (most : ℕ) (e : Event) (bare : Bool) (time : ℕ) → reception_of most e ≡ reception.Proceeds → time_by e bare time ≡ time
time_stays most happens.Up bare time proceeds = refl
time_stays most (happens.Message from octets) bare time proceeds = refl
time_stays most happens.Down bare time proceeds = absurd cc

-- what goes on hasn't ended: its times stay
pub times_stay : (most : ℕ) (bare : List ℕ) (hs : List TimedEvent) → course_by_events most hs ≡ progress.Proceeds → map (timed_by bare) hs ≡ hs
times_stay most bare [] proceeds = refl
times_stay most bare (h ∷ hs) proceeds = by_heard (reception_of most h.event) refl proceeds (times_stay most bare hs)
  where
    by_heard : (answer : LogResult) → reception_of most h.event ≡ answer → and_course answer h.packet (course_by_events most hs) ≡ progress.Proceeds
        → (course_by_events most hs ≡ progress.Proceeds → map (timed_by bare) hs ≡ hs) → timed_by bare h ∷ map (timed_by bare) hs ≡ h ∷ hs
    by_heard reception.Proceeds is proceeds rest =
        ap (λ (t : ℕ). (let one : TimedEvent = record h { time = t } in one) ∷ map (timed_by bare) hs) (time_stays most h.event (is_among bare h.packet) h.time is)
        ∙ ap (λ (hs : List TimedEvent). h ∷ hs) (rest proceeds)
    by_heard reception.Down is proceeds rest = absurd cc
    by_heard reception.Length is proceeds rest = absurd cc

-- ---- whether it came up

up_same : (e : Event) → is_up_event e ≡ is_up (reported_as e)
up_same happens.Up = refl
up_same (happens.Message from octets) = refl
up_same happens.Down = refl

pub came_up_same : (hs : List TimedEvent) → came_up_by hs ≡ came_up (map entry_as hs)
came_up_same [] = refl
came_up_same (h ∷ hs) = ap (λ (b : Bool). b || came_up_by hs) (up_same h.event) ∙ ap (λ (b : Bool). is_up (reported_as h.event) || b) (came_up_same hs)

pub came_up_timed : (bare : List ℕ) (hs : List TimedEvent) → came_up_by (map (timed_by bare) hs) ≡ came_up_by hs
came_up_timed bare [] = refl
came_up_timed bare (h ∷ hs) = ap (λ (b : Bool). is_up_event h.event || b) (came_up_timed bare hs)

pub or_assoc : (a b c : Bool) → ((a || b) || c) ≡ (a || (b || c))
or_assoc true b c = refl
or_assoc false b c = refl

pub came_up_more : (xs ys : List TimedEvent) → came_up_by (xs ++ ys) ≡ (came_up_by xs || came_up_by ys)
came_up_more [] ys = refl
came_up_more (h ∷ hs) ys = ap (λ (b : Bool). is_up_event h.event || b) (came_up_more hs ys) ∙ sym (or_assoc (is_up_event h.event) (came_up_by hs) (came_up_by ys))

-- ---- the entries of an end are those of what is told

moment_same : (e : Event) (bare : Bool) (time : ℕ) → time_by e bare time ≡ moment_of (reported_as e) bare time
moment_same happens.Up bare time = refl
moment_same (happens.Message from octets) bare time = refl
moment_same happens.Down bare time = refl

event_same : (side : Side) (e : Event) (logs : LogEvent) → LogsAs side e logs → EventIs side (reported_as e) logs
event_same side happens.Up logs is = is
event_same side (happens.Message from octets) logs is = (is.0, is.1, is.2 ∙ ap (λ (s : Side). event_of side s is.0) (side_back from))
event_same side happens.Down logs is = is

pub record_same : (time : ℕ → ℕ) (bare : List ℕ) (side : Side) (before : ℕ) (h : TimedEvent) (note : Note) → h.time ≡ time h.packet
    → Records before side (timed_by bare h) note → EntryIs (clock_by time bare before (entry_as h)) side (entry_as h) note
record_same time bare side before h note is r = record {
  logs = r.entry;
  remark_is = r.remark;
  there = r.there;
  time_is = r.time ∙ ap (λ (t : ℕ). max before t) (ap (λ (t : ℕ). time_by h.event (is_among bare h.packet) t) is ∙ moment_same h.event (is_among bare h.packet) (time h.packet));
  event_is = event_same side h.event r.entry.event r.event;
}

pub clock_same : (time : ℕ → ℕ) (bare : List ℕ) (before : ℕ) (h : TimedEvent) → h.time ≡ time h.packet
    → max before (timed_by bare h).time ≡ clock_by time bare before (entry_as h)
clock_same time bare before h is =
    ap (λ (t : ℕ). max before t) (ap (λ (t : ℕ). time_by h.event (is_among bare h.packet) t) is ∙ moment_same h.event (is_among bare h.packet) (time h.packet))

pub entries_are : (time : ℕ → ℕ) (bare : List ℕ) (side : Side) (before : ℕ) (hs : List TimedEvent) (notes : List Note) (last : ℕ) → AreTimed time hs
    → AreNotes side before (map (timed_by bare) hs) notes last → AreEntries (clock_by time bare) side before (map entry_as hs) notes last
entries_are time bare side before [] notes last timed are = are
entries_are time bare side before (h ∷ hs) notes last timed are = (
  are.0,
  are.1,
  are.2,
  record_same time bare side before h are.0 timed.0 are.3,
  entries_are time bare side (clock_by time bare before (entry_as h)) hs are.1 last timed.1
      (subst (λ (n : ℕ). AreNotes side n (map (timed_by bare) hs) are.1 last) (clock_same time bare before h timed.0) are.4),
)

pub timed_logged : (time : ℕ → ℕ) (most : ℕ) (hs : List TimedEvent) → AreTimed time hs → AreTimed time (logged_by most hs)
timed_logged time most [] timed = tt
timed_logged time most (h ∷ hs) timed = by_heard (reception_of most h.event) (timed_logged time most hs timed.1)
  where
    by_heard : (answer : LogResult) → AreTimed time (logged_by most hs) → AreTimed time (and_logged answer h (logged_by most hs))
    by_heard reception.Proceeds rest = (timed.0, rest)
    by_heard reception.Down rest = (timed.0, tt)
    by_heard reception.Length rest = tt
