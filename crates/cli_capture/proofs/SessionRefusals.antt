-- A session that was running before its capture is refused where the log of an end is told.
use Rattle.std.proofs.Common.{is_some, ◌≡◌, ◌≤◌, ◌<◌, ◌⊎◌, inl, inr, ◌||◌, ◌++◌, ◌∷◌, max, cond, ℕ, Bool, true, false, List, [], length, Option, Some, None, refl, sym, ap, subst, ◌∙◌, append_assoc, arith, le-leb, map}
use Rattle.std.proofs.lemmas.List.{map-append}
use Rattle.std.proofs.lemmas.List.Elements.{filter-append}
use Rattle.std.specs.Prelude.{Result, Ok, Err, IfErr, OnErr}
use Rattle.hsms_frame.specs.declared.header.Header.{Header}
use Rattle.hsms_machine.specs.Settings.{Parameters}
use Rattle.capture_tcp.specs.declared.packet.Side.{Side}
use Rattle.capture_tcp.specs.declared.packet.Side.TheVariants as side
use Rattle.capture_tcp.specs.declared.events.TimedEvent.{TimedEvent}
use Rattle.capture_log.specs.WrittenLog.{RefusesAssumed}
use Rattle.capture_log.specs.declared.written_log.WrittenLog.{WrittenLog}
use Rattle.capture_log.specs.declared.socket_pair.Pair.{Pair}
use Rattle.capture_log.specs.declared.stop.Stop.{Stop}
use Rattle.capture_log.specs.declared.byte_buffer.Text.{Text}
use Rattle.capture_midstream.specs.declared.sync_packet.Start.{Start}
use Rattle.capture_midstream.specs.declared.assumption.Assumption.{Assumption}
use Rattle.capture_midstream.specs.declared.assumption.Assumption.TheVariants.{Selected}
use Rattle.capture_midstream.specs.Assumption.{assumed_by}
use Rattle.cli_capture.specs.declared.progress.Progress.{Progress}
use Rattle.cli_capture.specs.declared.progress.Progress.TheVariants as progress
use Rattle.cli_capture.specs.declared.midstream_log.Joined.{Joined}
use Rattle.cli_capture.specs.declared.midstream_log.Part.{Part}
use Rattle.cli_capture.specs.declared.midstream_log.Part.TheVariants as part
use Rattle.cli_capture.specs.declared.report.OutputMode.TheVariants.{Log, Verdicts}
use Rattle.cli_capture.specs.declared.report.Report.{Report}
use Rattle.cli_capture.specs.declared.pending_requests.Said.{Said}
use Rattle.capture_errors.specs.declared.incomplete.Shortfall.{Shortfall}
use Rattle.cli_capture.specs.TrackedConnection.{came_up_by, course_by_events, hears_event, is_up_event, logged_by}
use Rattle.cli_capture.specs.MidstreamItems.{Item, emits}
use Rattle.cli_capture.specs.InnerMidstreamItems.{most_of}
use Rattle.cli_capture.specs.MidstreamLog.{IsTelling, IsWaiting, JoinedStands, latest_after, most_by, spoken_behind, terms_by}
use Rattle.cli_capture.specs.InnerMidstreamLog.{Decides, HearsEach, IsPartOf, IsQuiet, LogsMore, Settles, TellsThem, part_with}
use Rattle.cli_capture.specs.ConnectionLog.{is_there}
use Rattle.cli_capture.specs.LogRejection.{RefusesFor}
use Rattle.cli_capture.specs.InnerLogRejection.{HearsRefused, InLog, LacksRefused}
use Rattle.cli_capture.specs.LogRejectionMidstream.{LogRefused, StaysDown}
use Rattle.cli_capture.specs.InnerLogRejectionMidstream.{CantComeUp, ComesUpRefused, DecidesRefused, EachRefused, SettlesAndTellsRefused, FinishRefused, HearsNextRefused, PartRefused, ReplaceRefused, SettlesRefused, TellsRefused, UndecidedRefused}
use Rattle.cli_capture.specs.InnerReport.{Emits}
use Rattle.cli_capture.specs.PendingRequests.{KnowsBoth, Spoken, nothing_spoken, spoken_to}
use Rattle.cli_capture.specs.InnerStopError.{IsRefused}
use Rattle.cli_capture.specs.Assumptions.{Before, Terms, asked, asked_by, before_of, before_or, before_with, after_front, counts_by, decided_by, decided_with, is_decided, item_with, items_by, items_of, log_if, looked_at, other_side, said_by, session_items, since, supposed_items, sure_log, tells_some, was_selected, whole_log}
use Rattle.cli_capture.specs.OutputMode.{Way}
use Rattle.cli_capture.specs.InnerOutputMode.{IsReport}
use Rattle.cli_capture.proofs.Closing.{front_there, takes_logs}
use Rattle.cli_capture.proofs.Logging.{came_up_more, can_continue}
use Rattle.cli_capture.proofs.Paging.{same_log}
use Rattle.cli_capture.proofs.Sessions.{Noted, before_last, before_stays, begins_telling, decided_last, is_sure, log_next, log_now, longer, most_same, none_sure, none_yet, open_before, over_items, part_said, part_tells, report_stays, since_more, sure_then, waits_more}
use Rattle.cli_capture.proofs.Supposing.{items_more, or_none, parts_of_or, said_goes, some_more, undecided_goes}
use Rattle.cli_capture.proofs.Unrefused.{verdicts_in_log}

-- ---- it can't come up

pub cant_refused : {T : Type 0} (result : Result T Stop) (pair : Pair) (start : Start) (j next : WrittenLog) (text : Text) (old new : Report) → old.manner ≡ Log j
    → new ≡ record old { manner = Log next; page = text } → IfErr result (λ st. RefusesAssumed j.begun pair start.packet j.time start.time st)
    → OnErr result (text.octets ≡ old.page.octets) → IfErr result (λ st. CantComeUp pair start st old new)
unfolding InLog
cant_refused (Ok done) pair start j next text old new of is stops kept = tt
cant_refused (Err st) pair start j next text old new of is stops kept = λ refused k log. (
  subst (λ (x : WrittenLog). RefusesAssumed x.begun pair start.packet x.time start.time st) (same_log old j k of log) stops,
  ap (λ (r : Report). r.page.octets) is ∙ kept,
)

pub never_cant : {T : Type 0} (result : Result T Stop) (pair : Pair) (start : Start) (old new : Report) → old.manner ≡ Verdicts
    → IfErr result (λ st. CantComeUp pair start st old new)
never_cant (Ok done) pair start old new is = tt
never_cant (Err st) pair start old new is = verdicts_in_log st old _ is

pub up_refused : (pair : Pair) (joined : Joined) (st : Stop) (old new : Report) → joined.is_up ≡ false → CantComeUp pair joined.start st old new
    → ComesUpRefused pair joined st old new
unfolding InLog
up_refused pair joined st old new down cant = λ refused j log. (down, cant refused j log)

-- ---- with what happens

pub part_refused : (pair : Pair) (which : Part) (h : TimedEvent) (joined : Joined) (st : Stop) (old new : Report) → which ≡ part.Message → ComesUpRefused pair joined st old new
    → PartRefused pair which h joined st old new
unfolding InLog
part_refused pair which h joined st old new is cant = λ refused j log no_up.
    let it = cant refused j log in
    (is, it.0, it.1)

-- nothing else is refused that happens
pub part_never : (pair : Pair) (which : Part) (h : TimedEvent) (joined : Joined) (st : Stop) (old mid new : Report) → Emits old mid → HearsRefused pair h st mid new
    → PartRefused pair which h joined st old new
unfolding InLog Emits
part_never pair which h joined st old mid new emitted processes_input = λ refused j log no_up.
    let kept = emitted.1 j log in
    let up = (processes_input refused kept.0 kept.1).0 in
    absurd (let bad : true ≡ false = sym (ap is_up_event up) ∙ no_up in cc)

-- ---- what stands in its log

-- what more happens takes nothing from it
there_more : (t : Terms) (b : Before) (xs ys : List TimedEvent) → is_there (session_items t b xs) ≡ true → is_there (session_items t b (xs ++ ys)) ≡ true
there_more t b xs ys there = by_course (course_by_events t.most xs) refl
  where
    items_from : List TimedEvent → List Item
    items_from more = items_by t (spoken_behind t.most (asked b) xs) (latest_after 0 xs) more

    by_course : (c : Progress) → course_by_events t.most xs ≡ c → is_there (session_items t b (xs ++ ys)) ≡ true
    by_course progress.Proceeds proceeds =
        let more = logged_by t.most ys in
        let on : logged_by t.most (xs ++ ys) ≡ xs ++ more = (can_continue (hears_event t.most) (λ h. h.packet) xs ys proceeds).0 in
        let was : tells_some (items_by t (asked b) 0 xs) ≡ true =
        sym (front_there t b (items_by t (asked b) 0 xs)) ∙ ap is_there (sym (log_now t b xs proceeds)) ∙ there in
        let now : tells_some (items_by t (asked b) 0 (xs ++ more)) ≡ true =
        ap tells_some (items_more t (asked b) 0 xs more) ∙ some_more (items_by t (asked b) 0 xs) (items_from more)
        ∙ ap (λ (x : Bool). x || tells_some (items_from more)) was in
        front_there t b (items_of t b (xs ++ ys)) ∙ ap (λ (zs : List TimedEvent). tells_some (items_by t (asked b) 0 zs)) on ∙ now
    by_course (progress.Over lack) over =
        ap (λ (zs : List Item). is_there (after_front (supposed_items b t.begun) zs)) (over_items t b xs ys lack over).0 ∙ there

none_before : (t : Terms) (b : Before) (hs : List TimedEvent) → course_by_events t.most hs ≡ progress.Proceeds → tells_some (items_by t (asked b) 0 hs) ≡ false
    → session_items t b hs ≡ []
none_before t b hs proceeds none = log_now t b hs proceeds ∙ none_yet (supposed_items b t.begun) (items_by t (asked b) 0 hs) none

none_tells : (t : Terms) (b : Before) (hs : List TimedEvent) → course_by_events t.most hs ≡ progress.Proceeds → session_items t b hs ≡ []
    → tells_some (items_by t (asked b) 0 hs) ≡ false
none_tells t b hs proceeds none = sym (front_there t b (items_by t (asked b) 0 hs)) ∙ ap is_there (sym (log_now t b hs proceeds) ∙ none)

pub both_empty : (xs ys all : List Item) → all ≡ xs ++ ys → all ≡ [] → xs ≡ []
both_empty [] ys all is none = refl
both_empty (x ∷ xs) ys all is none = absurd (let no : [] ≡ x ∷ (xs ++ ys) = sym none ∙ is in cc)

-- ---- a message that is told

last_told : (t : Terms) (b : Before) (hs : List TimedEvent) (h : TimedEvent) (which : Part) → which ≡ part.Message → course_by_events t.most hs ≡ progress.Proceeds
    → which ≡ part_with (said_by t.most h.event) t (spoken_behind t.most (asked b) hs) (max (latest_after 0 hs) h.time)
    → is_there (session_items t b (hs ++ h ∷ [])) ≡ true
last_told t b hs h which is proceeds by =
    let spoken = spoken_behind t.most (asked b) hs in
    let latest = max (latest_after 0 hs) h.time in
    let m = said_by t.most h.event in
    let some = part_said m t spoken latest which by (λ ends. let bad : part.Message ≡ part.End = sym is ∙ ends in cc) in
    let said = said_goes t.most h some.0 some.1 in
    let item : item_with m t spoken latest h ≡ emits h = part_tells m t spoken latest h (sym is ∙ by) in
    let its = items_by t (asked b) 0 hs in
    let emitted : tells_some (its ++ emits h ∷ []) ≡ true =
    some_more its (emits h ∷ []) ∙ ap (λ (x : Bool). tells_some its || (x || false)) said.said ∙ or_true (tells_some its) in
    ap is_there (log_next t b hs h (emits h) proceeds said.proceeds item) ∙ front_there t b (its ++ emits h ∷ []) ∙ emitted
  where
    or_true : (x : Bool) → (x || true) ≡ true
    or_true true = refl
    or_true false = refl

pub tell_refused : (pair : Pair) (h : TimedEvent) (which : Part) (old mid : Joined) (st : Stop) (before after : Report) → mid ≡ record old { said = mid.said }
    → IsPartOf h before old which mid → PartRefused pair which h mid st before after → TellsRefused pair (h ∷ []) old st before after
unfolding InLog IsPartOf
tell_refused pair h which old mid st before after same by refused_as = λ refused j log how a p start b hs report output_state no_up.
    let t = terms_by how a start in
    let it = refused_as refused j log (parts_of_or (is_up_event h.event) (came_up_by []) no_up).0 in
    let is_part = (by how a p start (latest_after 0 hs) (spoken_behind t.most (asked b) hs) report output_state.0.start_is output_state.1).0 in
    let down : old.is_up ≡ false = sym (ap (λ (j : Joined). j.is_up) same) ∙ it.1 in
    let first : mid.start ≡ start = ap (λ (j : Joined). j.start) same ∙ output_state.0.start_is in
    record {
      none = none_before t b hs output_state.0.proceeds (sym output_state.0.up ∙ down);
      some = last_told t b hs h which it.0 output_state.0.proceeds is_part;
      down = subst (λ (s : Start). StaysDown pair s st j before after) first it.2;
    }

-- it is refused behind what left the report as it was
pub down_then : (pair : Pair) (start : Start) (st : Stop) (j next : WrittenLog) (before between after : Report) → between ≡ before → before.manner ≡ Log j → between.manner ≡ Log next
    → StaysDown pair start st next between after → StaysDown pair start st j before after
down_then pair start st j next before between after still log here down =
    let same : next ≡ j = same_log between next j here (ap (λ (r : Report). r.manner) still ∙ log) in (
      subst (λ (x : WrittenLog). RefusesAssumed x.begun pair start.packet x.time start.time st) same down.0,
      down.1 ∙ ap (λ (r : Report). r.page.octets) still,
    )

-- of several
pub tell_all_refused : (pair : Pair) (all yielded rest : List TimedEvent) (h : TimedEvent) (old mid : Joined) (st : Stop) (before between after : Report)
    → all ≡ yielded ++ h ∷ rest → Emits before between → IsQuiet old.is_up mid.is_up before between → TellsThem pair yielded old before progress.Proceeds mid between
    → TellsRefused pair (h ∷ []) mid st between after → TellsRefused pair all old st before after
unfolding InLog Emits IsQuiet TellsThem
tell_all_refused pair all yielded rest h old mid st before between after whole emitted quiet them one = λ refused j log how a p start b hs report output_state no_up.
    let t = terms_by how a start in
    let kept = emitted.1 j log in
    let no_ups = parts_of_or (came_up_by yielded) (came_up_by (h ∷ rest)) (sym (came_up_more yielded (h ∷ rest)) ∙ sym (ap came_up_by whole) ∙ no_up) in
    let so_far = them how a p start b hs report output_state no_ups.0 in
    let there = report_stays how a p pair progress.Proceeds so_far.0.0 old.ends mid.ends before between report so_far.0.2 in
    let no_h : came_up_by (h ∷ []) ≡ false = or_none (is_up_event h.event) ∙ (parts_of_or (is_up_event h.event) (came_up_by rest) no_ups.1).0 in
    let it = one refused kept.0 kept.1 how a p start b (hs ++ yielded) there so_far.1 no_h in
    let down : mid.is_up ≡ false = so_far.1.0.up ∙ none_tells t b (hs ++ yielded) so_far.1.0.proceeds it.none in
    let still = quiet down in
    let front : hs ++ all ≡ ((hs ++ yielded) ++ h ∷ []) ++ rest =
    ap (λ (xs : List TimedEvent). hs ++ xs) whole ∙ sym (append_assoc hs yielded (h ∷ rest)) ∙ sym (append_assoc (hs ++ yielded) (h ∷ []) rest) in
    record {
      none = both_empty (session_items t b hs) so_far.0.0 (session_items t b (hs ++ yielded)) so_far.0.1 it.none;
      some = ap (λ (xs : List TimedEvent). is_there (session_items t b xs)) front ∙ there_more t b ((hs ++ yielded) ++ h ∷ []) rest it.some;
      down = down_then pair start st j kept.0 before between after still.1 log kept.1 it.down;
    }

-- ---- what stood before is decided

pub decide_refused : (pair : Pair) (assumed : Assumption) (asker : Side) (old mid : Joined) (waiting : List TimedEvent) (st : Stop) (before after : Report)
    → waiting ≡ old.waiting.items → mid.start ≡ old.start → mid.assumed ≡ assumed → mid.asker ≡ asker → mid.is_up ≡ old.is_up → mid.ends ≡ old.ends
    → mid.left_out ≡ old.left_out → mid.waiting.items ≡ [] → (said : Said) × (mid.said ≡ Some said) × KnowsBoth (asked_by assumed asker) said
    → TellsRefused pair waiting mid st before after → DecidesRefused pair assumed asker old st before after
unfolding InLog
decide_refused pair assumed asker old mid waiting st before after all start_is supposed_is asker_is up ends left none said them = λ refused j log how a p start hs report of waits.
    let b : Before = record { assumed = assumed; asker = asker } in
    let t = terms_by how a start in
    let proceeds = undecided_goes t.most nothing_spoken hs waits.undecided in
    let output_state = begins_telling assumed asker how a p start hs old mid start_is supposed_is asker_is up ends left none said of waits in
    let are : waiting ≡ hs = all ∙ waits.waiting in
    let it = them refused j log how a p start b [] report output_state (ap came_up_by are ∙ proceeds.1) in
    record { none = refl; some = sym (ap (λ (xs : List TimedEvent). is_there (session_items t b xs)) are) ∙ it.some; down = it.down }

pub settle_refused : (pair : Pair) (old : Joined) (st : Stop) (before after : Report) → (old.waiting.items ≡ [] → ⊥) → DecidesRefused pair Selected side.Active old st before after
    → SettlesRefused pair old st before after
unfolding InLog
settle_refused pair old st before after some decided = λ refused j log.
    (some, λ how a p start hs report consistent. by_stand refused j log how a p start hs report consistent.0 consistent.1)
  where
    by_stand : IsRefused st → (j : WrittenLog) → before.manner ≡ Log j → (how : Way) (a p : Parameters) (start : Start) (hs : List TimedEvent) → IsReport how a p before
        → old.start ≡ start
        → ((length hs < looked_at) × IsWaiting (most_by how a) hs old)
        ⊎ ((old.is_decided ≡ true) × (is_decided (most_by how a) hs ≡ true) × IsTelling how a p start (before_of (most_by how a) hs) hs old)
        → LogRefused pair start (sure_log (terms_by how a start) hs) (whole_log (terms_by how a start) hs) st j before after
    by_stand refused j log how a p start hs report of (inl (few, waits)) =
        let t = terms_by how a start in
        let it = decided refused j log how a p start hs report of waits in
        let was : before_of t.most hs ≡ was_selected = open_before t.most hs waits.undecided (omega (arith, few)) in
        record {
          none = none_sure t hs waits.undecided few;
          some = ap (λ (b : Before). is_there (session_items t b hs)) was ∙ it.some;
          down = it.down;
        }
    by_stand refused j log how a p start hs report of (inr it) = absurd (some it.2.0.waiting)

-- ---- it waited, and is told with one more

-- what waits is told
with_more : (how : Way) (a p : Parameters) (start : Start) (b : Before) (hs : List TimedEvent) (h : TimedEvent) (pair : Pair) (st : Stop) (j : WrittenLog) (before after : Report)
    → length hs < looked_at → decided_by (most_by how a) nothing_spoken hs ≡ false → before_of (most_by how a) (hs ++ h ∷ []) ≡ b
    → decided_by (most_by how a) nothing_spoken (hs ++ h ∷ []) ≡ true → is_there (session_items (terms_by how a start) b (hs ++ h ∷ [])) ≡ true
    → StaysDown pair start st j before after
    → LogRefused pair start (sure_log (terms_by how a start) hs) (sure_log (terms_by how a start) (hs ++ h ∷ [])) st j before after
with_more how a p start b hs h pair st j before after few still is decided some down =
    let t = terms_by how a start in
    let log : sure_log t (hs ++ h ∷ []) ≡ session_items t b (hs ++ h ∷ []) =
    sure_then t (hs ++ h ∷ []) (is_sure t.most (hs ++ h ∷ []) decided) ∙ ap (λ (x : Before). session_items t x (hs ++ h ∷ [])) is in
    record { none = none_sure t hs still few; some = ap is_there log ∙ some; down = down }

-- or that one
with_one : (how : Way) (a p : Parameters) (start : Start) (b : Before) (hs : List TimedEvent) (h : TimedEvent) (pair : Pair) (old mid : Joined) (st : Stop) (j : WrittenLog)
    (before between after : Report) → length hs < looked_at → decided_by (most_by how a) nothing_spoken hs ≡ false → is_up_event h.event ≡ false
    → before_of (most_by how a) (hs ++ h ∷ []) ≡ b → decided_by (most_by how a) nothing_spoken (hs ++ h ∷ []) ≡ true → IsReport how a p before
    → LogsMore pair progress.Proceeds [] (session_items (terms_by how a start) b hs) old before mid between → IsTelling how a p start b hs mid → Emits before between
    → IsQuiet old.is_up mid.is_up before between → IsRefused st → before.manner ≡ Log j → TellsRefused pair (h ∷ []) mid st between after
    → LogRefused pair start (sure_log (terms_by how a start) hs) (sure_log (terms_by how a start) (hs ++ h ∷ [])) st j before after
unfolding InLog Emits IsQuiet
with_one how a p start b hs h pair old mid st j before between after few still no_up is decided report logs output_state emitted quiet refused log them =
    let t = terms_by how a start in
    let kept = emitted.1 j log in
    let there = report_stays how a p pair progress.Proceeds logs.0 old.ends mid.ends before between report logs.2 in
    let it = them refused kept.0 kept.1 how a p start b hs there output_state (or_none (is_up_event h.event) ∙ no_up) in
    let down : mid.is_up ≡ false = output_state.0.up ∙ none_tells t b hs output_state.0.proceeds it.none in
    with_more how a p start b hs h pair st j before after few still is decided it.some
    (down_then pair start st j kept.0 before between after (quiet down).1 log kept.1 it.down)

-- by what no end takes, or that it goes down
ends_before : (most : ℕ) (hs : List TimedEvent) (h : TimedEvent) → length hs < looked_at → decided_by most nothing_spoken hs ≡ false → said_by most h.event ≡ None
    → (before_of most (hs ++ h ∷ []) ≡ before_of most hs) × (decided_by most nothing_spoken (hs ++ h ∷ []) ≡ true)
ends_before most hs h few still none =
    let spoken = spoken_behind most nothing_spoken hs in
    let was : before_of most hs ≡ was_selected = open_before most hs still (omega (arith, few)) in (
      before_last most hs h few still ∙ ap (λ (x : Option (Side × Header)). before_with x spoken (λ later. was_selected)) none ∙ sym was,
      decided_last most hs h still ∙ ap (λ (x : Option (Side × Header)). decided_with x spoken (λ later. false)) none,
    )

pub end_settle_refused : (pair : Pair) (h : TimedEvent) (old : Joined) (st : Stop) (before after : Report) → SettlesRefused pair old st before after
    → SettlesAndTellsRefused pair h old st before after
unfolding InLog
end_settle_refused pair h old st before after settles = λ refused j log how a p start hs report of few waits none no_up.
    let t = terms_by how a start in
    let it = (settles refused j log).1 how a p start hs report (of, inl (few, waits)) in
    let last = ends_before t.most hs h few waits.undecided none in
    with_more how a p start (before_of t.most hs) hs h pair st j before after few waits.undecided last.0 last.1
    (there_more t (before_of t.most hs) hs (h ∷ []) it.some) it.down

pub end_tell_refused : (pair : Pair) (h : TimedEvent) (old mid : Joined) (st : Stop) (before between after : Report) → Settles pair old before progress.Proceeds mid between
    → Emits before between → IsQuiet old.is_up mid.is_up before between → TellsRefused pair (h ∷ []) mid st between after → SettlesAndTellsRefused pair h old st before after
unfolding InLog Settles
end_tell_refused pair h old mid st before between after settles emitted quiet them = λ refused j log how a p start hs report of few waits none no_up.
    let t = terms_by how a start in
    let b = before_of t.most hs in
    let at = settles how a p start hs report (of, inl (few, waits)) in
    let last = ends_before t.most hs h few waits.undecided none in
    let logs : LogsMore pair progress.Proceeds [] (session_items t b hs) old before mid between =
    subst (λ (xs : List Item). LogsMore pair progress.Proceeds xs (session_items t b hs) old before mid between) (none_sure t hs waits.undecided few) at.1 in
    with_one how a p start b hs h pair old mid st j before between after few waits.undecided no_up last.0 last.1 report logs at.2 emitted quiet refused log them

-- by so many that wait
pub wait_refused : (pair : Pair) (from : Side) (message : Header) (h : TimedEvent) (old mid full : Joined) (st : Stop) (before after : Report) → mid ≡ record old { said = mid.said }
    → Noted from message old mid → full ≡ record mid { waiting = full.waiting } → full.waiting.items ≡ mid.waiting.items ++ h ∷ []
    → (length full.waiting.items ≤ 4096 → ⊥) → DecidesRefused pair Selected side.Active full st before after → UndecidedRefused pair from message h old st before after
unfolding InLog
wait_refused pair from message h old mid full st before after noted notes pushed waiting many decided = λ refused j log how a p start hs report of few waits says none.
    let most = most_by how a in
    let t = terms_by how a start in
    let note = notes waits.said.0 (spoken_behind most nothing_spoken hs) waits.said.1 waits.said.2 in
    let more = waits_more most hs h from message note.0 old mid full waits says none noted note.1 note.2 pushed waiting in
    let all = hs ++ h ∷ [] in
    let count : length all ≡ length full.waiting.items = ap length (sym more.waiting) in
    let enough : looked_at ≤ length all = omega (arith, count, many) in
    let sure : is_decided most all ≡ true = ap (λ (b : Bool). b || decided_by most nothing_spoken all) (le-leb looked_at (length all) enough) in
    let was : before_of most all ≡ was_selected = open_before most all more.undecided (longer hs h few) in
    let it = decided refused j log how a p start all report (ap (λ (j : Joined). j.start) pushed ∙ ap (λ (j : Joined). j.start) noted ∙ of) more in
    record {
      none = none_sure t hs waits.undecided few;
      some = ap is_there (sure_then t all sure ∙ ap (λ (b : Before). session_items t b all) was) ∙ it.some;
      down = it.down;
    }

-- ---- one more that counts

abbrev pub ByStand : Pair → TimedEvent → Joined → Stop → Report → Report → Type 0
ByStand pair h old st before after =
    IsRefused st → (j : WrittenLog) → before.manner ≡ Log j → (how : Way) (a p : Parameters) (start : Start) (hs : List TimedEvent) → IsReport how a p before
    → is_up_event h.event ≡ false → old.start ≡ start → length hs < looked_at → IsWaiting (most_by how a) hs old
    → LogRefused pair start (sure_log (terms_by how a start) hs) (sure_log (terms_by how a start) (hs ++ h ∷ [])) st j before after

-- nothing is decided yet
while_waiting : (pair : Pair) (h : TimedEvent) (old : Joined) (st : Stop) (before after : Report) → old.is_decided ≡ false → ByStand pair h old st before after
    → HearsNextRefused pair h old st before after
unfolding InLog
while_waiting pair h old st before after undecided by = λ refused j log how a p start hs report consistent no_up.
    by_stand refused j log how a p start hs report no_up consistent.0 consistent.1
  where
    by_stand : IsRefused st → (j : WrittenLog) → before.manner ≡ Log j → (how : Way) (a p : Parameters) (start : Start) (hs : List TimedEvent) → IsReport how a p before
        → is_up_event h.event ≡ false → old.start ≡ start
        → ((length hs < looked_at) × IsWaiting (most_by how a) hs old)
        ⊎ ((old.is_decided ≡ true) × (is_decided (most_by how a) hs ≡ true) × IsTelling how a p start (before_of (most_by how a) hs) hs old)
        → LogRefused pair start (sure_log (terms_by how a start) hs) (sure_log (terms_by how a start) (hs ++ h ∷ [])) st j before after
    by_stand refused j log how a p start hs report no_up of (inr it) = absurd (let no : false ≡ true = sym undecided ∙ it.0 in cc)
    by_stand refused j log how a p start hs report no_up of (inl (few, waits)) = by refused j log how a p start hs report no_up of few waits

pub next_told_refused : (pair : Pair) (h : TimedEvent) (old : Joined) (st : Stop) (before after : Report) → old.is_decided ≡ true
    → TellsRefused pair (h ∷ []) old st before after → HearsNextRefused pair h old st before after
unfolding InLog
next_told_refused pair h old st before after decided them = λ refused j log how a p start hs report consistent no_up.
    by_stand refused j log how a p start hs report no_up consistent.1
  where
    by_stand : IsRefused st → (j : WrittenLog) → before.manner ≡ Log j → (how : Way) (a p : Parameters) (start : Start) (hs : List TimedEvent) → IsReport how a p before
        → is_up_event h.event ≡ false
        → ((length hs < looked_at) × IsWaiting (most_by how a) hs old)
        ⊎ ((old.is_decided ≡ true) × (is_decided (most_by how a) hs ≡ true) × IsTelling how a p start (before_of (most_by how a) hs) hs old)
        → LogRefused pair start (sure_log (terms_by how a start) hs) (sure_log (terms_by how a start) (hs ++ h ∷ [])) st j before after
    by_stand refused j log how a p start hs report no_up (inl (few, waits)) = absurd (let no : false ≡ true = sym waits.unsettled ∙ decided in cc)
    by_stand refused j log how a p start hs report no_up (inr it) =
        let t = terms_by how a start in
        let b = before_of t.most hs in
        let stays = before_stays t.most hs (h ∷ []) it.1 in
        let one = them refused j log how a p start b hs report it.2 (or_none (is_up_event h.event) ∙ no_up) in
        let now : sure_log t (hs ++ h ∷ []) ≡ session_items t b (hs ++ h ∷ []) =
        sure_then t (hs ++ h ∷ []) stays.0 ∙ ap (λ (x : Before). session_items t x (hs ++ h ∷ [])) stays.1 in
        record { none = sure_then t hs it.1 ∙ one.none; some = ap is_there now ∙ one.some; down = one.down }

pub next_settled_refused : (pair : Pair) (h : TimedEvent) (m : Option (Side × Header)) (old : Joined) (st : Stop) (before after : Report) → old.is_decided ≡ false
    → m ≡ said_by (most_of before) h.event → m ≡ None → SettlesAndTellsRefused pair h old st before after → HearsNextRefused pair h old st before after
unfolding InLog
next_settled_refused pair h m old st before after undecided said_is m_is ends =
    while_waiting pair h old st before after undecided (λ refused j log how a p start hs report no_up of few waits.
    ends refused j log how a p start hs report of few waits (ap (λ (n : ℕ). said_by n h.event) (sym (most_same how a p before report)) ∙ sym said_is ∙ m_is) no_up)

pub next_waits_refused : (pair : Pair) (h : TimedEvent) (from : Side) (message : Header) (found : Option Assumption) (m : Option (Side × Header)) (old : Joined) (st : Stop)
    (before after : Report) → old.is_decided ≡ false → m ≡ said_by (most_of before) h.event → m ≡ Some (from, message)
    → ((said : Said) (spoken : Spoken) → old.said ≡ Some said → KnowsBoth spoken said → found ≡ assumed_by message (spoken_to from spoken))
    → found ≡ None → UndecidedRefused pair from message h old st before after → HearsNextRefused pair h old st before after
unfolding InLog
next_waits_refused pair h from message found m old st before after undecided said_is m_is finds found_is waits =
    while_waiting pair h old st before after undecided (λ refused j log how a p start hs report no_up of few consistent.
    waits refused j log how a p start hs report of few consistent (ap (λ (n : ℕ). said_by n h.event) (sym (most_same how a p before report)) ∙ sym said_is ∙ m_is)
    (sym (finds consistent.said.0 (spoken_behind (most_by how a) nothing_spoken hs) consistent.said.1 consistent.said.2) ∙ found_is))

-- a message decides it
message_before : (most : ℕ) (hs : List TimedEvent) (h : TimedEvent) (from : Side) (message : Header) (assumed : Assumption) → length hs < looked_at
    → decided_by most nothing_spoken hs ≡ false → said_by most h.event ≡ Some (from, message)
    → assumed_by message (spoken_to from (spoken_behind most nothing_spoken hs)) ≡ Some assumed
    → (before_of most (hs ++ h ∷ []) ≡ record { assumed = assumed; asker = other_side from }) × (decided_by most nothing_spoken (hs ++ h ∷ []) ≡ true)
message_before most hs h from message assumed few still says by =
    let spoken = spoken_behind most nothing_spoken hs in (
      before_last most hs h few still ∙ ap (λ (x : Option (Side × Header)). before_with x spoken (λ later. was_selected)) says
          ∙ ap (λ (x : Option Assumption). before_or x from was_selected) by,
      decided_last most hs h still ∙ ap (λ (x : Option (Side × Header)). decided_with x spoken (λ later. false)) says
          ∙ ap (λ (x : Option Assumption). is_some x || false) by,
    )

pub next_decide_refused : (pair : Pair) (h : TimedEvent) (from : Side) (message : Header) (assumed : Assumption) (found : Option Assumption) (m : Option (Side × Header))
    (asker : Side) (old : Joined) (st : Stop) (before after : Report) → old.is_decided ≡ false → m ≡ said_by (most_of before) h.event → m ≡ Some (from, message)
    → ((said : Said) (spoken : Spoken) → old.said ≡ Some said → KnowsBoth spoken said → found ≡ assumed_by message (spoken_to from spoken))
    → found ≡ Some assumed → asker ≡ other_side from → DecidesRefused pair assumed asker old st before after → HearsNextRefused pair h old st before after
unfolding InLog
next_decide_refused pair h from message assumed found m asker old st before after undecided said_is m_is finds found_is asks decided =
    while_waiting pair h old st before after undecided (λ refused j log how a p start hs report no_up of few waits.
    let t = terms_by how a start in
    let spoken = spoken_behind t.most nothing_spoken hs in
    let b : Before = record { assumed = assumed; asker = other_side from } in
    let says : said_by t.most h.event ≡ Some (from, message) =
    ap (λ (n : ℕ). said_by n h.event) (sym (most_same how a p before report)) ∙ sym said_is ∙ m_is in
    let by : assumed_by message (spoken_to from spoken) ≡ Some assumed = sym (finds waits.said.0 spoken waits.said.1 waits.said.2) ∙ found_is in
    let last = message_before t.most hs h from message assumed few waits.undecided says by in
    let it = decided refused j log how a p start hs report of waits in
    let some : is_there (session_items t b hs) ≡ true =
    ap (λ (x : Side). is_there (session_items t (record { assumed = assumed; asker = x }) hs)) (sym asks) ∙ it.some in
    with_more how a p start b hs h pair st j before after few waits.undecided last.0 last.1 (there_more t b hs (h ∷ []) some) it.down)

pub next_tell_refused : (pair : Pair) (h : TimedEvent) (from : Side) (message : Header) (assumed : Assumption) (found : Option Assumption) (m : Option (Side × Header))
    (old mid : Joined) (st : Stop) (before between after : Report) → old.is_decided ≡ false → m ≡ said_by (most_of before) h.event → m ≡ Some (from, message)
    → ((said : Said) (spoken : Spoken) → old.said ≡ Some said → KnowsBoth spoken said → found ≡ assumed_by message (spoken_to from spoken))
    → found ≡ Some assumed → Decides pair assumed (other_side from) old before progress.Proceeds mid between → Emits before between
    → IsQuiet old.is_up mid.is_up before between → TellsRefused pair (h ∷ []) mid st between after → HearsNextRefused pair h old st before after
unfolding InLog Decides
next_tell_refused pair h from message assumed found m old mid st before between after undecided said_is m_is finds found_is decided emitted quiet them =
    while_waiting pair h old st before after undecided (λ refused j log how a p start hs report no_up of few waits.
    let t = terms_by how a start in
    let spoken = spoken_behind t.most nothing_spoken hs in
    let b : Before = record { assumed = assumed; asker = other_side from } in
    let says : said_by t.most h.event ≡ Some (from, message) =
    ap (λ (n : ℕ). said_by n h.event) (sym (most_same how a p before report)) ∙ sym said_is ∙ m_is in
    let by : assumed_by message (spoken_to from spoken) ≡ Some assumed = sym (finds waits.said.0 spoken waits.said.1 waits.said.2) ∙ found_is in
    let last = message_before t.most hs h from message assumed few waits.undecided says by in
    let it = decided how a p start hs report of waits in
    with_one how a p start b hs h pair old mid st j before between after few waits.undecided no_up last.0 last.1 report it.2 it.3 emitted quiet refused log them)

pub hear_refused : (pair : Pair) (h : TimedEvent) (old : Joined) (st : Stop) (before after : Report) → counts_by old.start.packet h.packet h.event ≡ true
    → is_up_event h.event ≡ false → HearsNextRefused pair h old st before after → EachRefused pair (h ∷ []) old st before after
unfolding InLog
hear_refused pair h old st before after counts no_up next = λ refused j log how a p start all report consistent.
    let t = terms_by how a start in
    let is : counts_by start.packet h.packet h.event ≡ true = ap (λ (s : Start). counts_by s.packet h.packet h.event) (sym consistent.0) ∙ counts in
    let more : since start (all ++ h ∷ []) ≡ since start all ++ h ∷ [] =
    since_more start all h ∙ ap (λ (b : Bool). since start all ++ cond b (h ∷ []) []) is in
    subst (λ (hs : List TimedEvent). LogRefused pair start (sure_log t (since start all)) (sure_log t hs) st j before after) (sym more)
    (next refused j log how a p start (since start all) report consistent no_up)

-- ---- one thing behind another

sure_there : (t : Terms) (hs ys : List TimedEvent) → is_there (sure_log t hs) ≡ true → is_there (sure_log t (hs ++ ys)) ≡ true
sure_there t hs ys there = by_sure (is_decided t.most hs) refl
  where
    by_sure : (x : Bool) → is_decided t.most hs ≡ x → is_there (sure_log t (hs ++ ys)) ≡ true
    by_sure true sure =
        let b = before_of t.most hs in
        let stays = before_stays t.most hs ys sure in
        let now : sure_log t (hs ++ ys) ≡ session_items t b (hs ++ ys) =
        sure_then t (hs ++ ys) stays.0 ∙ ap (λ (x : Before). session_items t x (hs ++ ys)) stays.1 in
        ap is_there now ∙ there_more t b hs ys (ap is_there (sym (sure_then t hs sure)) ∙ there)
    by_sure false isnt =
        absurd (let bad : false ≡ true = ap (λ (x : Bool). is_there (log_if x (whole_log t hs))) (sym isnt) ∙ there in cc)

-- nothing is logged yet: it hasn't come up
pub still_down : (how : Way) (a p : Parameters) (start : Start) (hs : List TimedEvent) (joined : Joined) → JoinedStands how a p start hs joined
    → sure_log (terms_by how a start) hs ≡ [] → joined.is_up ≡ false
still_down how a p start hs joined consistent none = by_stand consistent.1
  where
    by_stand : ((length hs < looked_at) × IsWaiting (most_by how a) hs joined)
        ⊎ ((joined.is_decided ≡ true) × (is_decided (most_by how a) hs ≡ true) × IsTelling how a p start (before_of (most_by how a) hs) hs joined)
        → joined.is_up ≡ false
    by_stand (inl (few, waits)) = waits.up
    by_stand (inr it) =
        let t = terms_by how a start in
        let b = before_of t.most hs in
        it.2.0.up ∙ none_tells t b hs it.2.0.proceeds (sym (sure_then t hs it.1) ∙ none)

pub each_refused : (pair : Pair) (xs : List TimedEvent) (h : TimedEvent) (ys : List TimedEvent) (old mid : Joined) (st : Stop) (before between after : Report)
    → Emits before between → IsQuiet old.is_up mid.is_up before between → HearsEach pair xs old before progress.Proceeds mid between
    → EachRefused pair (h ∷ []) mid st between after → EachRefused pair (xs ++ h ∷ ys) old st before after
unfolding InLog Emits IsQuiet HearsEach
each_refused pair xs h ys old mid st before between after emitted quiet processes_input one = λ refused j log how a p start all report consistent.
    let t = terms_by how a start in
    let kept = emitted.1 j log in
    let so_far = processes_input how a p start all report consistent in
    let there = report_stays how a p pair progress.Proceeds so_far.0.0 old.ends mid.ends before between report so_far.0.2 in
    let it = one refused kept.0 kept.1 how a p start (all ++ xs) there so_far.1 in
    let down = still_down how a p start (since start (all ++ xs)) mid so_far.1 it.none in
    let whole : since start (all ++ (xs ++ h ∷ ys)) ≡ since start ((all ++ xs) ++ h ∷ []) ++ since start ys =
    ap (since start) (sym (append_assoc all xs (h ∷ ys)) ∙ sym (append_assoc (all ++ xs) (h ∷ []) ys))
    ∙ filter-append (λ (x : TimedEvent). counts_by start.packet x.packet x.event) ((all ++ xs) ++ h ∷ []) ys in
    record {
      none = both_empty (sure_log t (since start all)) so_far.0.0 (sure_log t (since start (all ++ xs))) so_far.0.1 it.none;
      some = ap (λ (hs : List TimedEvent). is_there (sure_log t hs)) whole ∙ sure_there t (since start ((all ++ xs) ++ h ∷ [])) (since start ys) it.some;
      down = down_then pair start st j kept.0 before between after (quiet down).1 log kept.1 it.down;
    }

-- of several, each at its packet of the capture
pub each_refused_at : (at : TimedEvent → TimedEvent) (pair : Pair) (all yielded rest : List TimedEvent) (h timed : TimedEvent) (old mid : Joined) (st : Stop)
    (before between after : Report) → all ≡ yielded ++ h ∷ rest → timed ≡ at h → Emits before between → IsQuiet old.is_up mid.is_up before between
    → HearsEach pair (map at yielded) old before progress.Proceeds mid between → EachRefused pair (timed ∷ []) mid st between after
    → EachRefused pair (map at all) old st before after
each_refused_at at pair all yielded rest h timed old mid st before between after whole is emitted quiet processes_input one =
    subst (λ (hs : List TimedEvent). EachRefused pair hs old st before after) (sym (ap (map at) whole ∙ map-append at yielded (h ∷ rest)))
    (each_refused pair (map at yielded) (at h) (map at rest) old mid st before between after emitted quiet processes_input
    (subst (λ (x : TimedEvent). EachRefused pair (x ∷ []) mid st between after) is one))

-- ---- it is over

pub finish_settle_refused : (pair : Pair) (lack : Option Shortfall) (old : Joined) (st : Stop) (before after : Report) → SettlesRefused pair old st before after
    → FinishRefused pair old lack st before after
unfolding InLog
finish_settle_refused pair lack old st before after settles = record {
  ends = λ refused j log how a p start hs report consistent. inl ((settles refused j log).1 how a p start hs report consistent);
  over = λ refused j log how a p start hs by report over. absurd ((settles refused j log).0 over.waiting);
}

pub finish_lack_refused : (pair : Pair) (lack : Option Shortfall) (old next : Joined) (st : Stop) (before mid after : Report) → Settles pair old before progress.Proceeds next mid
    → (old.waiting.items ≡ [] → (progress.Proceeds ≡ progress.Proceeds) × (next ≡ old) × (mid ≡ before)) → Emits before mid → LacksRefused lack st mid after
    → FinishRefused pair old lack st before after
unfolding InLog Emits Settles
finish_lack_refused pair lack old next st before mid after settles nothing emitted lacks = record {
  ends = λ refused j log how a p start hs report consistent.
      let it = settles how a p start hs report consistent in
      let kept = emitted.1 j log in
      inr (record {
        more = it.1.0;
        has_is = it.1.1;
        progress = progress.Proceeds;
        mid = mid;
        logs = takes_logs pair progress.Proceeds it.1.0 old.ends next.ends before mid it.1.2 j log;
        refuses = lacks refused kept.0 kept.1;
      });
  over = λ refused j log how a p start hs by report over.
      let same = (nothing over.waiting).2 in
      subst (λ (r : Report). RefusesFor lack st r after) same (lacks refused j (ap (λ (r : Report). r.manner) same ∙ log));
}

-- what waits never ends it
pub finish_never_refused : (pair : Pair) (lack by : Option Shortfall) (old next : Joined) (st : Stop) (before mid after : Report)
    → Settles pair old before (progress.Over by) next mid
    → (old.waiting.items ≡ [] → (progress.Over by ≡ progress.Proceeds) × (next ≡ old) × (mid ≡ before)) → FinishRefused pair old lack st before after
unfolding InLog Settles
finish_never_refused pair lack by old next st before mid after settles nothing = record {
  ends = λ refused j log how a p start hs report consistent. absurd (let bad : progress.Over by ≡ progress.Proceeds = (settles how a p start hs report consistent).0 in cc);
  over = λ refused j log how a p start hs of report over. absurd (let bad : progress.Over by ≡ progress.Proceeds = (nothing over.waiting).0 in cc);
}

pub replace_settle_refused : (pair : Pair) (old : Joined) (st : Stop) (before after : Report) → SettlesRefused pair old st before after
    → ReplaceRefused pair old st before after
unfolding InLog
replace_settle_refused pair old st before after settles = λ refused j log. (settles refused j log).1

pub replace_lack_refused : (pair : Pair) (old : Joined) (st : Stop) (before mid after : Report) → Emits before mid → LacksRefused None st mid after
    → ReplaceRefused pair old st before after
unfolding InLog Emits
replace_lack_refused pair old st before mid after emitted lacks = λ refused j log how a p start hs report consistent.
    let kept = emitted.1 j log in
    absurd (let bad : None ≡ Some (lacks refused kept.0 kept.1).lack = (lacks refused kept.0 kept.1).lack_is in cc)

pub replace_never_refused : (pair : Pair) (by : Option Shortfall) (old next : Joined) (st : Stop) (before mid after : Report)
    → Settles pair old before (progress.Over by) next mid → ReplaceRefused pair old st before after
unfolding InLog Settles
replace_never_refused pair by old next st before mid after settles = λ refused j log how a p start hs report consistent.
    absurd (let bad : progress.Over by ≡ progress.Proceeds = (settles how a p start hs report consistent).0 in cc)
