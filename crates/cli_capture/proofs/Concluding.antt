-- What is told of a connection is what the definition tells of its segments.
use Rattle.std.proofs.Common.{◌≡◌, ◌||◌, ◌&&◌, ◌++◌, ◌∷◌, ℕ, Bool, true, false, List, [], map, Option, Some, None, is_some, is_none, Box, Vec, Global, refl, sym, ap, subst, ◌∙◌}
use Rattle.std.proofs.lemmas.List.{append-nil, map-append}
use Rattle.hsms_machine.specs.Settings.{Parameters}
use Rattle.hsms_machine.specs.declared.entry.Event.TheVariants as logs_event
use Rattle.capture_tcp.specs.declared.ending.Ending.{Ending}
use Rattle.capture_tcp.specs.declared.packet.Side.{Side}
use Rattle.capture_tcp.specs.declared.packet.Side.TheVariants as side
use Rattle.capture_tcp.specs.declared.events.TimedEvent.{TimedEvent}
use Rattle.capture_tcp.specs.TcpStreams.{End, Seen, places}
use Rattle.capture_tcp.specs.EndOfStream.{ended}
use Rattle.capture_tcp.specs.EventSteps.{entry_as}
use Rattle.capture_tcp.specs.Timestamps.{AreTimed, time_at}
use Rattle.capture_tcp.specs.ConnectionEvents.{Entry, emits}
use Rattle.capture_log.specs.AuditedLog.{HasLogged, Note, CurrentState}
use Rattle.capture_log.specs.BothLogs.{Adds, note_of}
use Rattle.capture_log.specs.declared.audited_log.LogComment.TheVariants as remark
use Rattle.capture_log.specs.declared.audited_log.LogVerdict.{LogVerdict as Checked}
use Rattle.capture_log.specs.declared.both_logs.BothLogs.{BothLogs}
use Rattle.capture_log.specs.declared.socket_pair.Pair.{Pair}
use Rattle.cli_capture.specs.declared.progress.Progress.{Progress}
use Rattle.cli_capture.specs.declared.progress.Progress.TheVariants as progress
use Rattle.cli_capture.specs.declared.tracked_connection.Logs.{Logs}
use Rattle.cli_capture.specs.declared.report.Report.{Report}
use Rattle.capture_errors.specs.declared.incomplete.Shortfall.{Shortfall}
use Rattle.cli_capture.specs.Progress.{lack_behind}
use Rattle.cli_capture.specs.Report.{HasEmitted, IsVerdictOn, LogOutputState}
use Rattle.cli_capture.specs.ConnectionLog.{AreEntries, JudgedIf, Shown, TellsIf, ToldOf, bare_resets, came_up, clock_by, clock_of, course_by, entries_logged, hears_entry, is_replaced_by, is_there, lack_by, replaced_at}
use Rattle.cli_capture.specs.TrackedConnection.{TellsOnce, WhenTold, came_up_by, course_by_events, hears_event, logged_by, timed_by}
use Rattle.cli_capture.specs.InnerTrackedConnection.{AreNotes, EndsBy, EndsHad, EndsHave, HaveHeard, HearsThem, IsNothing, times, unboxed_ends}
use Rattle.cli_capture.proofs.Logging.{all_logged, came_up_more, came_up_same, came_up_timed, course_of_entries, course_timed, entries_are, entries_of, can_continue, logged_timed, stops_there, timed_logged, times_stay}

-- ---- both logs, where they have ended

pub record Closed (replaced : Bool) (a p : Parameters) (hs : List TimedEvent) (last : ℕ) (ends : BothLogs) : Type 0 where
  pub notes_a : List Note
  pub notes_p : List Note
  pub logged_a : HasLogged a (notes_a ++ replaced_at replaced last) ends.active
  pub logged_p : HasLogged p (notes_p ++ replaced_at replaced last) ends.passive
  pub are_a : AreNotes side.Active 0 hs notes_a last
  pub are_p : AreNotes side.Passive 0 hs notes_p last

pub closed : (a p : Parameters) (hs : List TimedEvent) (last : ℕ) (ends : BothLogs) → HaveHeard a p hs last ends → Closed false a p hs last ends
closed a p hs last ends have = record {
  notes_a = have.notes_a;
  notes_p = have.notes_p;
  logged_a = subst (λ (ns : List Note). HasLogged a ns ends.active) (sym (append-nil have.notes_a)) have.logged_a;
  logged_p = subst (λ (ns : List Note). HasLogged p ns ends.passive) (sym (append-nil have.notes_p)) have.logged_p;
  are_a = have.are_a;
  are_p = have.are_p;
}

pub closed_by_next : (a p : Parameters) (hs : List TimedEvent) (old new : BothLogs) → HaveHeard a p hs old.time old
    → Adds (note_of remark.Replaced old.time logs_event.Down) old.active new.active
    → Adds (note_of remark.Replaced old.time logs_event.Down) old.passive new.passive → Closed true a p hs old.time new
closed_by_next a p hs old new have first second = record {
  notes_a = have.notes_a;
  notes_p = have.notes_p;
  logged_a = first a have.notes_a have.logged_a;
  logged_p = second p have.notes_p have.logged_p;
  are_a = have.are_a;
  are_p = have.are_p;
}

-- there are logs where something is told
abbrev pub ClosedBy : Bool → Bool → Parameters → Parameters → List TimedEvent → Option BothLogs → Type 0
ClosedBy there replaced a p hs None = there ≡ false
ClosedBy there replaced a p hs (Some ends) = (there ≡ true) × (last : ℕ) × Closed replaced a p hs last ends

-- ---- what is told, by what both ends have heard

check_result : (settings : Parameters) (time : ℕ → ℕ) (bare : List ℕ) (s : Side) (most : ℕ) (emitted : List TimedEvent) (es : List Entry) (replaced : Bool) (last : ℕ)
    → (notes : List Note) (account : CurrentState) (says : Checked) → AreTimed time emitted → entries_logged most es ≡ entries_logged most (map entry_as emitted)
    → AreNotes s 0 (map (timed_by bare) (logged_by most emitted)) notes last → HasLogged settings (notes ++ replaced_at replaced last) account
    → IsVerdictOn account says → JudgedIf true settings (clock_by time bare) s (entries_logged most es) replaced (Some says)
check_result settings time bare s most emitted es replaced last notes account says timed same are has verdict = (
  says,
  notes,
  last,
  refl,
  subst (λ (es : List Entry). AreEntries (clock_by time bare) s 0 es notes last) (entries_of most emitted ∙ sym same)
      (entries_are time bare s 0 (logged_by most emitted) notes last (timed_logged time most emitted timed) are),
  verdict settings (notes ++ replaced_at replaced last) has,
)

shown : (a p : Parameters) (pair : Pair) (time : ℕ → ℕ) (bare : List ℕ) (emitted : List TimedEvent) (es : List Entry) (replaced : Bool) (lack : Option Shortfall)
    → (ends : Option BothLogs) (old new : Report) → AreTimed time emitted → entries_logged a.max es ≡ entries_logged a.max (map entry_as emitted)
    → ClosedBy (is_there es) replaced a p (map (timed_by bare) (logged_by a.max emitted)) ends → TellsOnce pair lack ends old new
    → (one : LogOutputState) × Shown a p pair (clock_by time bare) es replaced lack one × HasEmitted (one ∷ []) old new
shown a p pair time bare emitted es replaced lack None old new timed same none once = (
  record { pair = pair; shortfall = lack; active = None; passive = None },
  record {
    ends_are = refl;
    lack_is = refl;
    active_is = subst (λ (b : Bool). JudgedIf b a (clock_by time bare) side.Active (entries_logged a.max es) replaced None) (sym none) refl;
    passive_is = subst (λ (b : Bool). JudgedIf b p (clock_by time bare) side.Passive (entries_logged a.max es) replaced None) (sym none) refl;
  },
  once,
)
shown a p pair time bare emitted es replaced lack (Some ends) old new timed same has once = (
  record { pair = pair; shortfall = lack; active = Some once.0; passive = Some once.1 },
  record {
    ends_are = refl;
    lack_is = refl;
    active_is = subst (λ (b : Bool). JudgedIf b a (clock_by time bare) side.Active (entries_logged a.max es) replaced (Some once.0)) (sym has.0)
        (check_result a time bare side.Active a.max emitted es replaced has.1 has.2.notes_a ends.active once.0 timed same has.2.are_a has.2.logged_a once.2);
    passive_is = subst (λ (b : Bool). JudgedIf b p (clock_by time bare) side.Passive (entries_logged a.max es) replaced (Some once.1)) (sym has.0)
        (check_result p time bare side.Passive a.max emitted es replaced has.1 has.2.notes_p ends.passive once.1 timed same has.2.are_p has.2.logged_p once.3);
  },
  once.4,
)

pub tells_if : (a p : Parameters) (pair : Pair) (time : ℕ → ℕ) (bare : List ℕ) (emitted : List TimedEvent) (es : List Entry) (replaced : Bool) (lack : Option Shortfall)
    → (up : Bool) (ends : Option BothLogs) (old new : Report) → AreTimed time emitted → entries_logged a.max es ≡ entries_logged a.max (map entry_as emitted)
    → up ≡ came_up_by (logged_by a.max emitted)
    → ((up || is_some lack) ≡ true → ClosedBy (is_there es) replaced a p (map (timed_by bare) (logged_by a.max emitted)) ends)
    → WhenTold (up || is_some lack) pair lack ends old new
    → TellsIf (came_up (entries_logged a.max es) || is_some lack) (Shown a p pair (clock_by time bare) es replaced lack) old new
tells_if a p pair time bare emitted es replaced lack up ends old new timed same up_is has when =
    let is : up ≡ came_up (entries_logged a.max es) = up_is ∙ came_up_same (logged_by a.max emitted) ∙ ap came_up (entries_of a.max emitted ∙ sym same) in
    subst (λ (b : Bool). TellsIf (b || is_some lack) (Shown a p pair (clock_by time bare) es replaced lack) old new) is (by_emitted (up || is_some lack) has when)
  where
    by_emitted : (b : Bool) → (b ≡ true → ClosedBy (is_there es) replaced a p (map (timed_by bare) (logged_by a.max emitted)) ends) → WhenTold b pair lack ends old new
        → TellsIf b (Shown a p pair (clock_by time bare) es replaced lack) old new
    by_emitted false has when = when
    by_emitted true has when = shown a p pair time bare emitted es replaced lack ends old new timed same (has refl) when

abbrev ToldBy : Parameters → Parameters → Pair → (End → ℕ) → List Seen → Bool → Option Shortfall → Report → Report → Progress → Ending → Type 0
ToldBy a p pair base seen replaced missing old new progress ending =
    (let es = emits (places base [] seen) in
    TellsIf (came_up (entries_logged a.max es) || is_some (lack_by progress ending missing))
    (Shown a p pair (clock_of base seen) es (is_replaced_by replaced progress (lack_by progress ending missing)) (lack_by progress ending missing)) old new)

pub recorded_of : (a p : Parameters) (pair : Pair) (base : End → ℕ) (seen : List Seen) (replaced : Bool) (missing : Option Shortfall) (old new : Report) (progress : Progress)
    → (ending : Ending) → course_by a.max (emits (places base [] seen)) ≡ progress → ended (places base [] seen) ≡ ending
    → ToldBy a p pair base seen replaced missing old new progress ending → ToldOf a p pair base seen replaced missing old new
unfolding ToldOf
recorded_of a p pair base seen replaced missing old new progress ending c e emitted =
    subst (λ (x : Ending). ToldBy a p pair base seen replaced missing old new (course_by a.max (emits (places base [] seen))) x) (sym e)
    (subst (λ (x : Progress). ToldBy a p pair base seen replaced missing old new x ending) (sym c) emitted)

-- ---- behind what is told with one segment, or at the end

pub record HeardAfter (a p : Parameters) (bare : List ℕ) (all : List TimedEvent) (c : Progress) (logs : Logs) : Type 0 where
  pub course_is : course_by_events a.max all ≡ c
  pub up : logs.is_up ≡ came_up_by (logged_by a.max all)
  pub bare_is : logs.bare_resets.items ≡ bare
  pub ends : EndsBy c a p (map (timed_by bare) (logged_by a.max all)) logs.ends

pub heard_after : (a p : Parameters) (emitted now : List TimedEvent) (first logs : Logs) (c : Progress) → course_by_events a.max emitted ≡ progress.Proceeds → first.is_up ≡ came_up_by emitted
    → EndsHave a p emitted first.ends → HearsThem a p first now c logs → HeardAfter a p first.bare_resets.items (emitted ++ now) c logs
heard_after a p emitted now first logs c proceeds up have processes_input =
    let h = processes_input emitted have in
    let bare = first.bare_resets.items in
    let on = can_continue (hears_event a.max) (λ h. h.packet) emitted now proceeds in
    let here : map (timed_by bare) (logged_by a.max (emitted ++ now)) ≡ emitted ++ logged_by a.max (times first now) =
    ap (map (timed_by bare)) on.0 ∙ map-append (timed_by bare) emitted (logged_by a.max now)
    ∙ ap (λ (hs : List TimedEvent). hs ++ map (timed_by bare) (logged_by a.max now)) (times_stay a.max bare emitted proceeds)
    ∙ ap (λ (hs : List TimedEvent). emitted ++ hs) (logged_timed a.max bare now) in
    let ups : came_up_by (logged_by a.max (times first now)) ≡ came_up_by (logged_by a.max now) =
    ap came_up_by (sym (logged_timed a.max bare now)) ∙ came_up_timed bare (logged_by a.max now) in
    record {
      course_is = on.1 ∙ course_timed a.max bare now ∙ sym h.course_is;
      up = h.up ∙ ap (λ (b : Bool). b || came_up_by (logged_by a.max (times first now))) up ∙ ap (λ (b : Bool). came_up_by emitted || b) ups
          ∙ sym (came_up_more emitted (logged_by a.max now)) ∙ ap came_up_by (sym on.0);
      bare_is = ap (λ (v : Vec ℕ Global). v.items) h.bare;
      ends = subst (λ (hs : List TimedEvent). EndsBy c a p hs logs.ends) (sym here) h.ends;
    }

-- what goes on has all of it
pub all_heard : (a p : Parameters) (bare : List ℕ) (all : List TimedEvent) (logs : Logs) → HeardAfter a p bare all progress.Proceeds logs → EndsHave a p all logs.ends
all_heard a p bare all logs h =
    subst (λ (hs : List TimedEvent). EndsHave a p hs logs.ends)
    (ap (map (timed_by bare)) (all_logged (hears_event a.max) (λ h. h.packet) all h.course_is) ∙ times_stay a.max bare all h.course_is) h.ends

pub had_closed : (a p : Parameters) (hs : List TimedEvent) (ends : Option (Box BothLogs Global)) → EndsHad a p hs ends → ClosedBy true false a p hs (unboxed_ends ends)
had_closed a p hs None had = absurd had
had_closed a p hs (Some box) had = (refl, had.0, closed a p hs had.0 box.value had.1)

pub nothing_there : (hs : List TimedEvent) → IsNothing hs ≡ false → is_there hs ≡ true
nothing_there [] e = absurd cc
nothing_there (h ∷ hs) e = refl

pub have_closed : (a p : Parameters) (hs : List TimedEvent) (ends : Option (Box BothLogs Global)) → EndsHave a p hs ends → ClosedBy (is_there hs) false a p hs (unboxed_ends ends)
have_closed a p hs None have = ap is_there have
have_closed a p hs (Some box) have = (nothing_there hs have.0, box.value.time, closed a p hs box.value.time box.value have.1)

pub there_same : (hs : List TimedEvent) → is_there (map entry_as hs) ≡ is_there hs
there_same [] = refl
there_same (h ∷ hs) = refl

-- ---- what is told is a front of what the definition tells

pub over_front : (most : ℕ) (emitted : List TimedEvent) (es rest : List Entry) (lack : Option Shortfall) → es ≡ map entry_as emitted ++ rest
    → course_by_events most emitted ≡ progress.Over lack
    → (entries_logged most es ≡ entries_logged most (map entry_as emitted)) × (course_by most es ≡ progress.Over lack) × (is_there es ≡ true)
over_front most emitted es rest lack is over =
    let stops = stops_there (hears_entry most) (λ e. e.packet) (map entry_as emitted) rest lack (sym (course_of_entries most emitted) ∙ over) in
    (ap (entries_logged most) is ∙ stops.0, ap (course_by most) is ∙ stops.1, by_emitted emitted is over)
  where
    by_emitted : (hs : List TimedEvent) → es ≡ map entry_as hs ++ rest → course_by_events most hs ≡ progress.Over lack → is_there es ≡ true
    by_emitted [] is over = absurd cc
    by_emitted (h ∷ hs) is over = ap is_there is

-- it is over by what was heard of it, at times that stay
pub over_told : (a p : Parameters) (pair : Pair) (base : End → ℕ) (seen : List Seen) (replaced : Bool) (missing : Option Shortfall) (all : List TimedEvent) (rest : List Entry)
    → (lack : Option Shortfall) (bare : List ℕ) (logs : Logs) (old new : Report) → AreTimed (time_at (places base [] seen)) all
    → emits (places base [] seen) ≡ map entry_as all ++ rest
    → map (timed_by (bare_resets seen)) (logged_by a.max all) ≡ map (timed_by bare) (logged_by a.max all)
    → HeardAfter a p bare all (progress.Over lack) logs → WhenTold (logs.is_up || is_some lack) pair lack (unboxed_ends logs.ends) old new
    → ToldOf a p pair base seen replaced missing old new
over_told a p pair base seen replaced missing all rest lack bare logs old new timed is same h when =
    let es = emits (places base [] seen) in
    let f = over_front a.max all es rest lack is h.course_is in
    let has : ClosedBy (is_there es) false a p (map (timed_by (bare_resets seen)) (logged_by a.max all)) (unboxed_ends logs.ends) =
    subst (λ (b : Bool). ClosedBy b false a p (map (timed_by (bare_resets seen)) (logged_by a.max all)) (unboxed_ends logs.ends)) (sym f.2)
    (subst (λ (hs : List TimedEvent). ClosedBy true false a p hs (unboxed_ends logs.ends)) (sym same)
    (had_closed a p (map (timed_by bare) (logged_by a.max all)) logs.ends h.ends)) in
    recorded_of a p pair base seen replaced missing old new (progress.Over lack) (ended (places base [] seen)) f.1 refl
    (tells_if a p pair (time_at (places base [] seen)) (bare_resets seen) all es false lack logs.is_up (unboxed_ends logs.ends) old new timed f.0 h.up (λ _. has) when)

-- it goes on to how it ends
pub ended_told : (a p : Parameters) (pair : Pair) (base : End → ℕ) (seen : List Seen) (replaced : Bool) (missing : Option Shortfall) (all : List TimedEvent) (ending : Ending)
    → (lack : Option Shortfall) (closes up : Bool) (ends : Option BothLogs) (old new : Report) → AreTimed (time_at (places base [] seen)) all → map entry_as all ≡ emits (places base [] seen)
    → ending ≡ ended (places base [] seen) → course_by_events a.max all ≡ progress.Proceeds → up ≡ came_up_by all → lack ≡ lack_behind ending missing
    → (replaced && is_none lack) ≡ closes → ((up || is_some lack) ≡ true → ClosedBy (is_there all) closes a p all ends)
    → WhenTold (up || is_some lack) pair lack ends old new → ToldOf a p pair base seen replaced missing old new
ended_told a p pair base seen replaced missing all ending lack closes up ends old new timed is ended_is proceeds up_is lack_is closes_is has when =
    let es = emits (places base [] seen) in
    let bare = bare_resets seen in
    let whole : logged_by a.max all ≡ all = all_logged (hears_event a.max) (λ h. h.packet) all proceeds in
    let hs : map (timed_by bare) (logged_by a.max all) ≡ all = ap (map (timed_by bare)) whole ∙ times_stay a.max bare all proceeds in
    let there : is_there es ≡ is_there all = ap is_there (sym is) ∙ there_same all in
    let has_it : (up || is_some lack) ≡ true → ClosedBy (is_there es) closes a p (map (timed_by bare) (logged_by a.max all)) ends =
    λ emitted. subst (λ (gs : List TimedEvent). ClosedBy (is_there es) closes a p gs ends) (sym hs) (subst (λ (b : Bool). ClosedBy b closes a p all ends) (sym there) (has emitted)) in
    let says = tells_if a p pair (time_at (places base [] seen)) bare all es closes lack up ends old new timed (ap (entries_logged a.max) (sym is))
    (up_is ∙ ap came_up_by (sym whole)) has_it when in
    recorded_of a p pair base seen replaced missing old new progress.Proceeds ending (ap (course_by a.max) (sym is) ∙ sym (course_of_entries a.max all) ∙ proceeds) (sym ended_is)
    (subst (λ (l : Option Shortfall). TellsIf (came_up (entries_logged a.max es) || is_some l) (Shown a p pair (clock_of base seen) es (replaced && is_none l) l) old new) lack_is
    (subst (λ (b : Bool). TellsIf (came_up (entries_logged a.max es) || is_some lack) (Shown a p pair (clock_of base seen) es b lack) old new) (sym closes_is) says))
