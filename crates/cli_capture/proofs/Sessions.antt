-- A session that was running before the capture: what is known of it, and logged, behind each thing that happens.
use Rattle.std.proofs.Common.{◌≡◌, ◌≤◌, ◌<◌, ◌⊎◌, ◌||◌, ◌+◌, ◌-◌, ◌++◌, ◌∷◌, ◌^◌, ◌==◌, max, ℕ, suc, not, ◌&&◌, Bool, true, false, nat_le, cond, List, [], flat_map, length, map, take, drop, Option, Some, None, is_some, Box, Vec, Global, refl, sym, ap, subst, ◌∙◌, append_assoc, arith, inl, inr}
use Rattle.std.specs.Prelude.{Result, Ok, Err, IfOk, OnOk}
use Rattle.std.proofs.lemmas.Bool.{eqb-true, le-leb, leb-false, leb-true, lt-leb}
use Rattle.std.proofs.lemmas.List.{append-nil, length-append, map-append, nil_from_length, take-append-le}
use Rattle.std.proofs.lemmas.Grind.{flat_map-append}
use Rattle.std.proofs.lemmas.List.Elements.{filter-append}
use Rattle.hsms_frame.specs.Build.{control_header_of}
use Rattle.hsms_frame.specs.declared.header.Header.{Header}
use Rattle.hsms_machine.specs.Settings.{Parameters}
use Rattle.capture_tcp.specs.declared.packet.Side.{Side}
use Rattle.capture_tcp.specs.declared.packet.Side.TheVariants as side
use Rattle.capture_tcp.specs.declared.events.Event.{Event}
use Rattle.capture_tcp.specs.declared.events.Event.TheVariants as happens
use Rattle.capture_tcp.specs.declared.events.TimedEvent.{TimedEvent}
use Rattle.capture_log.specs.BothLogs.{reception_of, is_no_message}
use Rattle.capture_log.specs.declared.both_logs.LogResult.{LogResult}
use Rattle.capture_log.specs.declared.both_logs.LogResult.TheVariants as reception
use Rattle.capture_log.specs.declared.written_log.WrittenLog.{WrittenLog}
use Rattle.capture_log.specs.declared.socket_pair.Pair.{Pair}
use Rattle.capture_log.specs.declared.both_logs.BothLogs.{BothLogs}
use Rattle.capture_midstream.specs.MessageCheck.{header_of}
use Rattle.capture_midstream.specs.Requests.{is_asked, is_left_out, is_response}
use Rattle.capture_midstream.specs.declared.sync_packet.Start.{Start}
use Rattle.capture_midstream.specs.Assumption.{assumed_by}
use Rattle.capture_midstream.specs.declared.assumption.Assumption.{Assumption}
use Rattle.capture_midstream.specs.declared.assumption.Assumption.TheVariants.{Asked, Selected}
use Rattle.cli_capture.specs.declared.progress.Progress.{Progress}
use Rattle.cli_capture.specs.declared.progress.Progress.TheVariants as progress
use Rattle.cli_capture.specs.declared.midstream_log.Joined.{Joined}
use Rattle.cli_capture.specs.declared.midstream_log.Part.{Part}
use Rattle.cli_capture.specs.declared.midstream_log.Part.TheVariants as part
use Rattle.cli_capture.specs.declared.report.OutputMode.{OutputMode}
use Rattle.cli_capture.specs.declared.report.OutputMode.TheVariants.{Log, Verdicts}
use Rattle.cli_capture.specs.declared.report.Report.{Report}
use Rattle.cli_capture.specs.declared.pending_requests.Said.{Said}
use Rattle.capture_errors.specs.declared.incomplete.Shortfall.{Shortfall}
use Rattle.capture_errors.specs.declared.incomplete.Shortfall.TheVariants as lacks
use Rattle.cli_capture.specs.ConnectionLog.{and_course, and_logged}
use Rattle.cli_capture.specs.LogOutput.{OnPage, Page, page_of}
use Rattle.cli_capture.specs.OutputMode.{Way, to_log, to_verdicts}
use Rattle.cli_capture.specs.InnerOutputMode.{IsReport}
use Rattle.cli_capture.specs.TrackedConnection.{came_up_by, course_by_events, hears_event, is_up_event, logged_by}
use Rattle.cli_capture.specs.MidstreamItems.{comes_up, EndsHaveItems, Item, leaves_out, LogsItems, supposes, emits}
use Rattle.cli_capture.specs.InnerMidstreamItems.{EndsHadItems, EndsItemsBy, most_in, most_of, TakesItems}
use Rattle.cli_capture.specs.MidstreamLog.{IsTelling, IsReported, IsWaiting, JoinedStands, latest_after, left_if, most_by, packet_left, SaidAs, spoken_behind, terms_by}
use Rattle.cli_capture.specs.InnerMidstreamLog.{come_items, come_items_if, Decides, end_course, HearsEach, HearsItem, HearsNext, HearsOn, IsNew, IsOverAs, IsPartOf, left_items, left_packets, LogsMore, part_with, Settles, SettlesAndTells, StandsBy, TellingBy, TellsPart, TellsThem, ToldBy, Waits}
use Rattle.cli_capture.specs.PendingRequests.{KnowsBoth, nothing_spoken, Spoken, spoken_to, with_message}
use Rattle.cli_capture.specs.Assumptions.{asked, asked_by, Before, before_by, before_of, before_or, before_with, after_front, counts_by, decided_by, decided_with, if_told, is_decided, is_message_told, is_said, item_by, item_with, items_by, items_of, log_if, looked_at, other_side, said_by, session_items, since, spoken_with, supposed_items, supposed_messages, sure_log, tells_some, Terms, was_selected, whole_log}
use Rattle.cli_capture.proofs.Logging.{came_up_more, can_continue, stops_there}
use Rattle.cli_capture.proofs.Supposing.{all_left, before_few, before_one, course_one, decided_one, decided_stays, items_all, items_behind, items_more, items_none, items_one, latest_more, logged_one, none_ends, or_none, or_some, parts_of_or, said_goes, some_more, spoken_more, undecided_before, undecided_goes, undecided_more, undecided_none, undecided_yet}
use Rattle.cli_capture.proofs.Taking.{takes_nothing, takes_one_then, takes_then}

-- ---- the settings stay

pub report_stays : (how : Way) (a p : Parameters) (pair : Pair) (c : Progress) (xs : List Item) (ends left : Option (Box BothLogs Global)) (old new : Report)
    → IsReport how a p old → TakesItems pair c xs ends old left new → IsReport how a p new
unfolding TakesItems
report_stays to_verdicts a p pair c xs ends left old new is takes = subst (λ (r : Report). IsReport to_verdicts a p r) (sym (takes.0 is.manner_is).0) is
report_stays (to_log settings side) a p pair c xs ends left old new is takes =
    let logs = takes.1 is.manner_is.0 is.manner_is.1 in
    record {
      manner_is = (logs.next, logs.manner_is, logs.settings_are ∙ is.manner_is.2, logs.side_is ∙ is.manner_is.3);
      active = ap (λ (r : Report). r.active) logs.same ∙ is.active;
      passive = ap (λ (r : Report). r.passive) logs.same ∙ is.passive;
    }

-- what both logs have, by the settings
pub ends_more : (a p : Parameters) (pair : Pair) (c : Progress) (before xs : List Item) (ends left : Option (Box BothLogs Global)) (old new : Report)
    → IsReport to_verdicts a p old → TakesItems pair c xs ends old left new → EndsHaveItems a p before ends → EndsItemsBy c a p (before ++ xs) left
unfolding TakesItems
ends_more a p pair c before xs ends left old new is takes have =
    let more = (takes.0 is.manner_is).1 before
    (subst (λ (x : Parameters). EndsHaveItems x old.passive before ends) (sym is.active) (subst (λ (y : Parameters). EndsHaveItems a y before ends) (sym is.passive) have)) in
    subst (λ (y : Parameters). EndsItemsBy c a y (before ++ xs) left) is.passive (subst (λ (x : Parameters). EndsItemsBy c x old.passive (before ++ xs) left) is.active more)

-- what happens, by the settings
pub hears_with : (how : Way) (a p : Parameters) (pair : Pair) (h : TimedEvent) (c : Progress) (before : List Item) (ends left : Option (Box BothLogs Global)) (old new : Report)
    → IsReport how a p old → HearsItem pair h c ends old left new → (how ≡ to_verdicts → EndsHaveItems a p before ends)
    → (c ≡ course_by_events (most_by how a) (h ∷ [])) × TakesItems pair c (map emits (logged_by (most_by how a) (h ∷ []))) ends old left new
unfolding HearsItem TakesItems
hears_with to_verdicts a p pair h c before ends left old new is processes_input have =
    let it = processes_input.0 is.manner_is in
    let first = it.1 before
    (subst (λ (x : Parameters). EndsHaveItems x old.passive before ends) (sym is.active) (subst (λ (y : Parameters). EndsHaveItems a y before ends) (sym is.passive) (have refl))) in (
      first.0 ∙ ap (λ (x : Parameters). course_by_events x.max (h ∷ [])) is.active,
      (
        λ verdicts. (
          it.0,
          λ others held.
              subst (λ (x : Parameters). EndsItemsBy c old.active old.passive (others ++ map emits (logged_by x.max (h ∷ []))) left) is.active (it.1 others held).1,
        ),
        λ j log. absurd (let no : Verdicts ≡ Log j = sym is.manner_is ∙ log in cc),
      ),
    )
hears_with (to_log settings side) a p pair h c before ends left old new is processes_input have =
    let j = is.manner_is.0 in
    let it = processes_input.1 j is.manner_is.1 in (
      it.0 ∙ ap (λ (s : Parameters). course_by_events s.max (h ∷ [])) is.manner_is.2,
      (
        λ verdicts. absurd (let no : Verdicts ≡ Log j = sym verdicts ∙ is.manner_is.1 in cc),
        λ k log.
            let same : k ≡ j = (let both : Log k ≡ Log j = sym log ∙ is.manner_is.1 in cc) in
            subst (λ (s : Parameters). LogsItems pair c (map emits (logged_by s.max (h ∷ []))) k old new) (ap (λ (i : WrittenLog). i.settings) same ∙ is.manner_is.2)
            (processes_input.1 k log).1,
      ),
    )

-- ---- the log with one item more

after_with_more : (front xs ys : List Item) → tells_some xs ≡ true → after_front front (xs ++ ys) ≡ after_front front xs ++ ys
after_with_more front xs ys some =
    ap (λ (b : Bool). if_told b front (xs ++ ys)) (some_more xs ys ∙ ap (λ (b : Bool). b || tells_some ys) some) ∙ sym (append_assoc front xs ys)
    ∙ ap (λ (b : Bool). if_told b front xs ++ ys) (sym some)

subsequent_none : (front xs ys : List Item) → tells_some xs ≡ false → tells_some ys ≡ false → after_front front (xs ++ ys) ≡ after_front front xs
subsequent_none front xs ys none also =
    ap (λ (b : Bool). if_told b front (xs ++ ys)) (some_more xs ys ∙ ap (λ (b : Bool). b || tells_some ys) none ∙ also) ∙ ap (λ (b : Bool). if_told b front xs) (sym none)

pub after_first : (front xs ys : List Item) → tells_some xs ≡ false → tells_some ys ≡ true → after_front front (xs ++ ys) ≡ front ++ (xs ++ ys)
after_first front xs ys none some =
    ap (λ (b : Bool). if_told b front (xs ++ ys)) (some_more xs ys ∙ ap (λ (b : Bool). b || tells_some ys) none ∙ some)

pub none_yet : (front xs : List Item) → tells_some xs ≡ false → after_front front xs ≡ []
none_yet front xs none = ap (λ (b : Bool). if_told b front xs) none

-- ---- what becomes of it

-- it has a header where it is no end
pub part_said : (m : Option (Side × Header)) (t : Terms) (spoken : Spoken) (latest : ℕ) (which : Part) → which ≡ part_with m t spoken latest
    → (which ≡ part.End → ⊥) → (x : Side × Header) × (m ≡ Some x)
part_said None t spoken latest which is none = absurd (none is)
part_said (Some x) t spoken latest which is none = (x, refl)

pub part_tells : (m : Option (Side × Header)) (t : Terms) (spoken : Spoken) (latest : ℕ) (h : TimedEvent) → part.Message ≡ part_with m t spoken latest
    → item_with m t spoken latest h ≡ emits h
part_tells None t spoken latest h is = absurd cc
part_tells (Some m) t spoken latest h is = by_left (is_left_out m.1 (spoken_to m.0 spoken) t.begun t.t3 latest) is
  where
    by_left : (b : Bool) → part.Message ≡ cond b part.LeftOut part.Message → item_by b h ≡ emits h
    by_left true e = absurd cc
    by_left false e = refl

pub part_leaves : (m : Option (Side × Header)) (t : Terms) (spoken : Spoken) (latest : ℕ) (h : TimedEvent) → part.LeftOut ≡ part_with m t spoken latest
    → item_with m t spoken latest h ≡ leaves_out h.packet
part_leaves None t spoken latest h is = absurd cc
part_leaves (Some m) t spoken latest h is = by_left (is_left_out m.1 (spoken_to m.0 spoken) t.begun t.t3 latest) is
  where
    by_left : (b : Bool) → part.LeftOut ≡ cond b part.LeftOut part.Message → item_by b h ≡ leaves_out h.packet
    by_left true e = refl
    by_left false e = absurd cc

pub part_ends : (m : Option (Side × Header)) (t : Terms) (spoken : Spoken) (latest : ℕ) → part.End ≡ part_with m t spoken latest → m ≡ None
part_ends None t spoken latest is = refl
part_ends (Some m) t spoken latest is = absurd (by_left (is_left_out m.1 (spoken_to m.0 spoken) t.begun t.t3 latest) is)
  where
    by_left : (b : Bool) → part.End ≡ cond b part.LeftOut part.Message → ⊥
    by_left true e = cc
    by_left false e = cc

-- ---- a message is told

-- what is told when it comes up, by what is supposed and was left out
pub come_up_items : (how : Way) (a p : Parameters) (start : Start) (b : Before) (hs : List TimedEvent) (old : Joined) → IsReported how a p start b hs old
    → old.is_up ≡ false → come_items old ≡ supposed_items b start.time ++ items_by (terms_by how a start) (asked b) 0 hs
come_up_items how a p start b hs old emitted down =
    let its = items_by (terms_by how a start) (asked b) 0 hs in
    let left : old.left_out.items ≡ flat_map packet_left its = emitted.left ∙ ap (λ (x : Bool). left_if x its) down in
    ap (λ (s : Assumption). supposed_items (record { assumed = s; asker = old.asker }) old.start.time ++ map leaves_out old.left_out.items) emitted.assumed
    ∙ ap (λ (s : Side). supposed_items (record { assumed = b.assumed; asker = s }) old.start.time ++ map leaves_out old.left_out.items) emitted.asker
    ∙ ap (λ (s : Start). supposed_items b s.time ++ map leaves_out old.left_out.items) emitted.start_is
    ∙ ap (λ (ns : List ℕ). supposed_items b start.time ++ map leaves_out ns) left
    ∙ ap (λ (xs : List Item). supposed_items b start.time ++ xs)
    (all_left (terms_by how a start) (asked b) 0 hs emitted.proceeds emitted.never_up (sym emitted.up ∙ down))

-- what both ends have heard of, one by one
item_next : (t : Terms) (b : Before) (hs : List TimedEvent) (h : TimedEvent) (x : Item)
    → item_with (said_by t.most h.event) t (spoken_behind t.most (asked b) hs) (max (latest_after 0 hs) h.time) h ≡ x
    → items_by t (asked b) 0 (hs ++ h ∷ []) ≡ items_by t (asked b) 0 hs ++ x ∷ []
item_next t b hs h x is =
    items_more t (asked b) 0 hs (h ∷ []) ∙ ap (λ (ys : List Item). items_by t (asked b) 0 hs ++ ys)
    (items_one t (spoken_behind t.most (asked b) hs) (latest_after 0 hs) h ∙ ap (λ (y : Item). y ∷ []) is)

goes_next : (most : ℕ) (hs : List TimedEvent) (h : TimedEvent) → course_by_events most hs ≡ progress.Proceeds → reception_of most h.event ≡ reception.Proceeds
    → course_by_events most (hs ++ h ∷ []) ≡ progress.Proceeds
goes_next most hs h proceeds on = (can_continue (hears_event most) (λ h. h.packet) hs (h ∷ []) proceeds).1 ∙ course_one most h on

pub log_next : (t : Terms) (b : Before) (hs : List TimedEvent) (h : TimedEvent) (x : Item) → course_by_events t.most hs ≡ progress.Proceeds → reception_of t.most h.event ≡ reception.Proceeds
    → item_with (said_by t.most h.event) t (spoken_behind t.most (asked b) hs) (max (latest_after 0 hs) h.time) h ≡ x
    → session_items t b (hs ++ h ∷ []) ≡ after_front (supposed_items b t.begun) (items_by t (asked b) 0 hs ++ x ∷ [])
log_next t b hs h x proceeds on is =
    ap (after_front (supposed_items b t.begun)) (items_all t b (hs ++ h ∷ []) (goes_next t.most hs h proceeds on) ∙ item_next t b hs h x is)

pub log_now : (t : Terms) (b : Before) (hs : List TimedEvent) → course_by_events t.most hs ≡ progress.Proceeds
    → session_items t b hs ≡ after_front (supposed_items b t.begun) (items_by t (asked b) 0 hs)
log_now t b hs proceeds = ap (after_front (supposed_items b t.begun)) (items_all t b hs proceeds)

-- behind one more that goes on, with this item
emitted_more : (how : Way) (a p : Parameters) (start : Start) (b : Before) (hs : List TimedEvent) (h : TimedEvent) (x : Item) (old new : Joined)
    → IsReported how a p start b hs old → reception_of (most_by how a) h.event ≡ reception.Proceeds → is_up_event h.event ≡ false → new.start ≡ old.start
    → new.assumed ≡ old.assumed → new.asker ≡ old.asker → new.waiting ≡ old.waiting
    → item_with (said_by (most_by how a) h.event) (terms_by how a start) (spoken_behind (most_by how a) (asked b) hs) (max (latest_after 0 hs) h.time) h ≡ x
    → new.is_up ≡ (old.is_up || is_message_told x)
    → new.left_out.items ≡ left_if new.is_up (items_by (terms_by how a start) (asked b) 0 hs ++ x ∷ [])
    → (how ≡ to_verdicts → EndsHaveItems a p (session_items (terms_by how a start) b (hs ++ h ∷ [])) new.ends)
    → IsReported how a p start b (hs ++ h ∷ []) new
emitted_more how a p start b hs h x old new emitted on no_up start_is assumed asker waiting item up left ends =
    let t = terms_by how a start in
    let its = items_by t (asked b) 0 hs in
    let all : items_by t (asked b) 0 (hs ++ h ∷ []) ≡ its ++ x ∷ [] = item_next t b hs h x item in
    record {
      start_is = start_is ∙ emitted.start_is;
      assumed = assumed ∙ emitted.assumed;
      asker = asker ∙ emitted.asker;
      waiting = ap (λ (v : Vec TimedEvent Global). v.items) waiting ∙ emitted.waiting;
      proceeds = goes_next t.most hs h emitted.proceeds on;
      never_up = came_up_more hs (h ∷ []) ∙ ap (λ (c : Bool). c || came_up_by (h ∷ [])) emitted.never_up ∙ or_none (is_up_event h.event) ∙ no_up;
      up = up ∙ ap (λ (c : Bool). c || is_message_told x) emitted.up ∙ ap (λ (c : Bool). tells_some its || c) (sym (or_none (is_message_told x)))
          ∙ sym (some_more its (x ∷ [])) ∙ ap tells_some (sym all);
      left = left ∙ ap (left_if new.is_up) (sym all);
      ends = ends;
    }

-- how far the logs come with it
log_told : (t : Terms) (b : Before) (hs : List TimedEvent) (h : TimedEvent) (old : Joined) → course_by_events t.most hs ≡ progress.Proceeds → reception_of t.most h.event ≡ reception.Proceeds
    → item_with (said_by t.most h.event) t (spoken_behind t.most (asked b) hs) (max (latest_after 0 hs) h.time) h ≡ emits h → is_said h.event ≡ true
    → old.is_up ≡ tells_some (items_by t (asked b) 0 hs)
    → (old.is_up ≡ false → come_items old ≡ supposed_items b t.begun ++ items_by t (asked b) 0 hs)
    → session_items t b (hs ++ h ∷ []) ≡ session_items t b hs ++ (come_items_if old.is_up old ++ emits h ∷ [])
log_told t b hs h old proceeds on item said up come = by_up old.is_up refl
  where
    by_up : (u : Bool) → old.is_up ≡ u → session_items t b (hs ++ h ∷ []) ≡ session_items t b hs ++ (come_items_if u old ++ emits h ∷ [])
    by_up true is =
        log_next t b hs h (emits h) proceeds on item
        ∙ after_with_more (supposed_items b t.begun) (items_by t (asked b) 0 hs) (emits h ∷ []) (sym up ∙ is)
        ∙ ap (λ (xs : List Item). xs ++ emits h ∷ []) (sym (log_now t b hs proceeds))
    by_up false is =
        let its = items_by t (asked b) 0 hs in
        let none : tells_some its ≡ false = sym up ∙ is in
        log_next t b hs h (emits h) proceeds on item
        ∙ after_first (supposed_items b t.begun) its (emits h ∷ []) none (ap (λ (c : Bool). c || false) said)
        ∙ sym (append_assoc (supposed_items b t.begun) its (emits h ∷ []))
        ∙ ap (λ (xs : List Item). xs ++ emits h ∷ []) (sym (come is))
        ∙ ap (λ (xs : List Item). xs ++ (come_items old ++ emits h ∷ [])) (sym (log_now t b hs proceeds ∙ none_yet (supposed_items b t.begun) its none))

abbrev IsWith : Joined → Joined → Type 0
IsWith old mid = (mid.start ≡ old.start) × (mid.assumed ≡ old.assumed) × (mid.asker ≡ old.asker) × (mid.waiting ≡ old.waiting)

pub tells_message : (pair : Pair) (which : Part) (h : TimedEvent) (c : Progress) (old mid new : Joined) (before between after : Report) → part.Message ≡ which
    → TakesItems pair progress.Proceeds (come_items_if old.is_up old) old.ends before mid.ends between
    → mid ≡ record old { is_up = true; ends = mid.ends; left_out = mid.left_out }
    → (old.is_up ≡ true → mid ≡ old) → (old.is_up ≡ false → mid.left_out.items ≡ []) → HearsItem pair h c mid.ends between new.ends after
    → new ≡ record mid { ends = new.ends } → TellsPart pair which h old before c new after
unfolding TellsPart
tells_message pair which h c old mid new before between after is comes same kept none processes_input next = λ how a p start b hs report emitted no_up part_is.
    let t = terms_by how a start in
    let its = items_by t (asked b) 0 hs in
    let spoken = spoken_behind t.most (asked b) hs in
    let latest = max (latest_after 0 hs) h.time in
    let m = said_by t.most h.event in
    let of = part_said m t spoken latest which part_is (λ e. (let no : part.Message ≡ part.End = is ∙ e in cc)) in
    let s = said_goes t.most h of.0 of.1 in
    let item : item_with m t spoken latest h ≡ emits h = part_tells m t spoken latest h (is ∙ part_is) in
    let more = come_items_if old.is_up old in
    let log = log_told t b hs h old emitted.proceeds s.proceeds item s.said emitted.up (λ down. come_up_items how a p start b hs old emitted down) in
    let held : how ≡ to_verdicts → EndsHaveItems a p (session_items t b hs ++ more) mid.ends = λ e.
    ends_more a p pair progress.Proceeds (session_items t b hs) more old.ends mid.ends before between (subst (λ (w : Way). IsReport w a p before) e report) comes (emitted.ends e) in
    let heard_it = hears_with how a p pair h c (session_items t b hs ++ more) mid.ends new.ends between after
    (report_stays how a p pair progress.Proceeds more old.ends mid.ends before between report comes) processes_input held in
    let proceeds : c ≡ progress.Proceeds = heard_it.0 ∙ course_one t.most h s.proceeds in
    let takes : TakesItems pair progress.Proceeds (emits h ∷ []) mid.ends between new.ends after =
    subst (λ (hs : List TimedEvent). TakesItems pair progress.Proceeds (map emits hs) mid.ends between new.ends after) (logged_one t.most h s.proceeds)
    (subst (λ (x : Progress). TakesItems pair x (map emits (logged_by t.most (h ∷ []))) mid.ends between new.ends after) proceeds heard_it.1) in
    let all = takes_then pair progress.Proceeds more (emits h ∷ []) old.ends mid.ends new.ends before between after comes takes in
    let up : new.is_up ≡ true = ap (λ (j : Joined). j.is_up) next ∙ ap (λ (j : Joined). j.is_up) same in
    let said : is_message_told (emits h) ≡ true = s.said in
    let left : new.left_out.items ≡ [] = ap (λ (j : Joined). j.left_out.items) next ∙ by_up its old.is_up refl emitted.left kept none in
    subst (λ (x : Progress). LogsMore pair x (session_items t b hs) (session_items t b (hs ++ h ∷ [])) old before new after × ToldBy x how a p start b (hs ++ h ∷ []) new)
    (sym proceeds) (
      (more ++ emits h ∷ [], log, all),
      emitted_more how a p start b hs h (emits h) old new emitted s.proceeds no_up
          (ap (λ (j : Joined). j.start) next ∙ ap (λ (j : Joined). j.start) same)
          (ap (λ (j : Joined). j.assumed) next ∙ ap (λ (j : Joined). j.assumed) same)
          (ap (λ (j : Joined). j.asker) next ∙ ap (λ (j : Joined). j.asker) same)
          (ap (λ (j : Joined). j.waiting) next ∙ ap (λ (j : Joined). j.waiting) same)
          item (up ∙ sym (or_some old.is_up) ∙ ap (λ (x : Bool). old.is_up || x) (sym said))
          (left ∙ ap (λ (x : Bool). left_if x (its ++ emits h ∷ [])) (sym up))
          (λ e. subst (λ (xs : List Item). EndsHaveItems a p xs new.ends) (sym log)
          (ends_more a p pair progress.Proceeds (session_items t b hs) (more ++ emits h ∷ []) old.ends new.ends before after
          (subst (λ (w : Way). IsReport w a p before) e report) all (emitted.ends e))),
    )
  where
    by_up : (xs : List Item) (u : Bool) → old.is_up ≡ u → old.left_out.items ≡ left_if old.is_up xs → (old.is_up ≡ true → mid ≡ old) → (old.is_up ≡ false → mid.left_out.items ≡ [])
        → mid.left_out.items ≡ []
    by_up xs true up left kept none = ap (λ (j : Joined). j.left_out.items) (kept up) ∙ left ∙ ap (λ (x : Bool). left_if x xs) up
    by_up xs false up left kept none = none up

-- ---- a message is left out

log_left : (t : Terms) (b : Before) (hs : List TimedEvent) (h : TimedEvent) (up : Bool) → course_by_events t.most hs ≡ progress.Proceeds → reception_of t.most h.event ≡ reception.Proceeds
    → item_with (said_by t.most h.event) t (spoken_behind t.most (asked b) hs) (max (latest_after 0 hs) h.time) h ≡ leaves_out h.packet
    → up ≡ tells_some (items_by t (asked b) 0 hs)
    → session_items t b (hs ++ h ∷ []) ≡ session_items t b hs ++ left_items up h.packet
log_left t b hs h true proceeds on item up =
    log_next t b hs h (leaves_out h.packet) proceeds on item
    ∙ after_with_more (supposed_items b t.begun) (items_by t (asked b) 0 hs) (leaves_out h.packet ∷ []) (sym up)
    ∙ ap (λ (xs : List Item). xs ++ leaves_out h.packet ∷ []) (sym (log_now t b hs proceeds))
log_left t b hs h false proceeds on item up =
    log_next t b hs h (leaves_out h.packet) proceeds on item
    ∙ subsequent_none (supposed_items b t.begun) (items_by t (asked b) 0 hs) (leaves_out h.packet ∷ []) (sym up) refl
    ∙ sym (log_now t b hs proceeds) ∙ sym (append-nil (session_items t b hs))

left_next : (up : Bool) (xs : List Item) (packet : ℕ) → left_if up xs ++ left_packets up packet ≡ left_if up (xs ++ leaves_out packet ∷ [])
left_next true xs packet = refl
left_next false xs packet = sym (flat_map-append packet_left xs (leaves_out packet ∷ []))

pub tells_left : (pair : Pair) (which : Part) (h : TimedEvent) (c : Progress) (old new : Joined) (before after : Report) → part.LeftOut ≡ which → c ≡ progress.Proceeds
    → TakesItems pair progress.Proceeds (left_items old.is_up h.packet) old.ends before new.ends after
    → new.left_out.items ≡ old.left_out.items ++ left_packets old.is_up h.packet → new ≡ record old { ends = new.ends; left_out = new.left_out }
    → TellsPart pair which h old before c new after
unfolding TellsPart
tells_left pair which h c old new before after is proceeds takes left same = λ how a p start b hs report emitted no_up part_is.
    let t = terms_by how a start in
    let its = items_by t (asked b) 0 hs in
    let spoken = spoken_behind t.most (asked b) hs in
    let latest = max (latest_after 0 hs) h.time in
    let m = said_by t.most h.event in
    let of = part_said m t spoken latest which part_is (λ e. (let no : part.LeftOut ≡ part.End = is ∙ e in cc)) in
    let s = said_goes t.most h of.0 of.1 in
    let item : item_with m t spoken latest h ≡ leaves_out h.packet = part_leaves m t spoken latest h (is ∙ part_is) in
    let log = log_left t b hs h old.is_up emitted.proceeds s.proceeds item emitted.up in
    let up : new.is_up ≡ old.is_up = ap (λ (j : Joined). j.is_up) same in
    subst (λ (x : Progress). LogsMore pair x (session_items t b hs) (session_items t b (hs ++ h ∷ [])) old before new after × ToldBy x how a p start b (hs ++ h ∷ []) new)
    (sym proceeds) (
      (left_items old.is_up h.packet, log, takes),
      emitted_more how a p start b hs h (leaves_out h.packet) old new emitted s.proceeds no_up
          (ap (λ (j : Joined). j.start) same) (ap (λ (j : Joined). j.assumed) same) (ap (λ (j : Joined). j.asker) same) (ap (λ (j : Joined). j.waiting) same)
          item (up ∙ sym (or_none old.is_up))
          (left ∙ ap (λ (ns : List ℕ). ns ++ left_packets old.is_up h.packet) emitted.left ∙ left_next old.is_up its h.packet
          ∙ ap (λ (x : Bool). left_if x (its ++ leaves_out h.packet ∷ [])) (sym up))
          (λ e. subst (λ (xs : List Item). EndsHaveItems a p xs new.ends) (sym log)
          (ends_more a p pair progress.Proceeds (session_items t b hs) (left_items old.is_up h.packet) old.ends new.ends before after
          (subst (λ (w : Way). IsReport w a p before) e report) takes (emitted.ends e))),
    )

-- ---- it is over

over_course : (most : ℕ) (e : Event) (packet : ℕ) (x : LogResult) → reception_of most e ≡ x → (x ≡ reception.Proceeds → ⊥) → (lack : Option Shortfall) × (and_course x packet progress.Proceeds ≡ progress.Over lack)
over_course most e packet reception.Proceeds is none = absurd (none refl)
over_course most e packet reception.Down is none = (None, refl)
over_course most e packet reception.Length is none = (Some (lacks.Length packet), refl)

-- it had come to an end without it
course_end : (most : ℕ) (e : Event) (packet : ℕ) → said_by most e ≡ None → is_up_event e ≡ false → end_course e packet ≡ and_course (reception_of most e) packet progress.Proceeds
course_end most happens.Up packet is no_up = absurd cc
course_end most (happens.Message from octets) packet is no_up = by_test (is_no_message most (length octets.items)) is
  where
    by_test : (b : Bool) → cond {A = Option (Side × Header)} b None (Some (from, header_of (take 10 (drop 4 octets.items)))) ≡ None
        → progress.Over (Some (lacks.Length packet)) ≡ and_course (cond b reception.Length reception.Proceeds) packet progress.Proceeds
    by_test true e = refl
    by_test false e = absurd cc
course_end most happens.Down packet is no_up = refl

-- no message is told with it
none_emitted : (most : ℕ) (e : Event) (packet time : ℕ) → said_by most e ≡ None
    → tells_some (map emits (and_logged (reception_of most e) (record { packet = packet; time = time; event = e }) [])) ≡ false
none_emitted most happens.Up packet time is = refl
none_emitted most (happens.Message from octets) packet time is = by_test (is_no_message most (length octets.items)) is
  where
    by_test : (b : Bool) → cond {A = Option (Side × Header)} b None (Some (from, header_of (take 10 (drop 4 octets.items)))) ≡ None
        → tells_some (map emits (and_logged (cond b reception.Length reception.Proceeds) (record { packet = packet; time = time; event = happens.Message from octets }) [])) ≡ false
    by_test true e = refl
    by_test false e = absurd cc
none_emitted most happens.Down packet time is = refl

-- what is logged of it, if anything
end_items : (t : Terms) (spoken : Spoken) (latest : ℕ) (h : TimedEvent) (x : LogResult) → said_by t.most h.event ≡ None
    → items_by t spoken latest (and_logged x h []) ≡ map emits (and_logged x h [])
end_items t spoken latest h reception.Proceeds is = items_one t spoken latest h ∙ ap (λ (m : Option (Side × Header)). item_with m t spoken (max latest h.time) h ∷ []) is
end_items t spoken latest h reception.Down is = items_one t spoken latest h ∙ ap (λ (m : Option (Side × Header)). item_with m t spoken (max latest h.time) h ∷ []) is
end_items t spoken latest h reception.Length is = items_none t spoken latest

abbrev end_logged : ℕ → TimedEvent → List Item
end_logged most h = map emits (logged_by most (h ∷ []))

log_end : (t : Terms) (b : Before) (hs : List TimedEvent) (h : TimedEvent) (up : Bool) → course_by_events t.most hs ≡ progress.Proceeds → said_by t.most h.event ≡ None
    → up ≡ tells_some (items_by t (asked b) 0 hs)
    → (session_items t b (hs ++ h ∷ []) ≡ session_items t b hs ++ cond up (end_logged t.most h) [])
    × (tells_some (items_of t b (hs ++ h ∷ [])) ≡ up)
log_end t b hs h up proceeds is some =
    let its = items_by t (asked b) 0 hs in
    let all : items_of t b (hs ++ h ∷ []) ≡ its ++ end_logged t.most h =
    items_behind t b hs (h ∷ []) proceeds
    ∙ ap (λ (xs : List Item). its ++ xs) (end_items t (spoken_behind t.most (asked b) hs) (latest_after 0 hs) h (reception_of t.most h.event) is) in
    let none : tells_some (end_logged t.most h) ≡ false = none_emitted t.most h.event h.packet h.time is in
    (by_up up some all none, ap tells_some all ∙ some_more its (end_logged t.most h) ∙ ap (λ (x : Bool). tells_some its || x) none ∙ or_none (tells_some its) ∙ sym some)
  where
    by_up : (u : Bool) → u ≡ tells_some (items_by t (asked b) 0 hs) → items_of t b (hs ++ h ∷ []) ≡ items_by t (asked b) 0 hs ++ end_logged t.most h
        → tells_some (end_logged t.most h) ≡ false → session_items t b (hs ++ h ∷ []) ≡ session_items t b hs ++ cond u (end_logged t.most h) []
    by_up true e all none =
        ap (after_front (supposed_items b t.begun)) all
        ∙ after_with_more (supposed_items b t.begun) (items_by t (asked b) 0 hs) (end_logged t.most h) (sym e)
        ∙ ap (λ (xs : List Item). xs ++ end_logged t.most h) (sym (log_now t b hs proceeds))
    by_up false e all none =
        ap (after_front (supposed_items b t.begun)) all
        ∙ subsequent_none (supposed_items b t.begun) (items_by t (asked b) 0 hs) (end_logged t.most h) (sym e) none
        ∙ sym (log_now t b hs proceeds) ∙ sym (append-nil (session_items t b hs))

-- with the last item or without
over_with : (how : Way) (a p : Parameters) (start : Start) (b : Before) (hs : List TimedEvent) (h : TimedEvent) (pair : Pair) (c : Progress) (old new : Joined) (before after : Report)
    → IsReport how a p before → IsReported how a p start b hs old → said_by (most_by how a) h.event ≡ None → is_up_event h.event ≡ false
    → c ≡ course_by_events (most_by how a) (h ∷ []) → TakesItems pair c (cond old.is_up (end_logged (most_by how a) h) []) old.ends before new.ends after
    → new ≡ record old { ends = new.ends }
    → LogsMore pair c (session_items (terms_by how a start) b hs) (session_items (terms_by how a start) b (hs ++ h ∷ [])) old before new after
    × ToldBy c how a p start b (hs ++ h ∷ []) new
over_with how a p start b hs h pair c old new before after report emitted is no_up c_is takes same =
    let t = terms_by how a start in
    let log = log_end t b hs h old.is_up emitted.proceeds is emitted.up in
    let more = cond old.is_up (end_logged t.most h) [] in
    let over = over_course t.most h.event h.packet (reception_of t.most h.event) refl (none_ends t.most h.event is no_up) in
    let of : c ≡ progress.Over over.0 = c_is ∙ over.1 in
    let taken : TakesItems pair (progress.Over over.0) more old.ends before new.ends after =
    subst (λ (x : Progress). TakesItems pair x more old.ends before new.ends after) of takes in
    subst (λ (x : Progress). LogsMore pair x (session_items t b hs) (session_items t b (hs ++ h ∷ [])) old before new after × ToldBy x how a p start b (hs ++ h ∷ []) new)
    (sym of) (
      (more, log.0, taken),
      record {
        start_is = ap (λ (j : Joined). j.start) same ∙ emitted.start_is;
        waiting = ap (λ (j : Joined). j.waiting.items) same ∙ emitted.waiting;
        course_is = (can_continue (hears_event t.most) (λ h. h.packet) hs (h ∷ []) emitted.proceeds).1 ∙ sym c_is ∙ of;
        up = ap (λ (j : Joined). j.is_up) same ∙ sym log.1;
        ends = λ e. subst (λ (xs : List Item). EndsHadItems a p xs new.ends) (sym log.0)
            (ends_more a p pair (progress.Over over.0) (session_items t b hs) more old.ends new.ends before after
            (subst (λ (w : Way). IsReport w a p before) e report) taken (emitted.ends e));
      },
    )

-- nothing is logged of it
over_nothing : (pair : Pair) (c : Progress) (ends : Option (Box BothLogs Global)) (r : Report) → TakesItems pair c [] ends r ends r
unfolding TakesItems
over_nothing pair c ends r = (
  λ verdicts. (refl, λ before have. subst (λ (xs : List Item). EndsItemsBy c r.active r.passive xs ends) (sym (append-nil before)) (by_course before c ends have)),
  λ j log. record { next = j; manner_is = log; settings_are = refl; side_is = refl; on = by_page (page_of j r) c; same = refl },
)
  where
    by_course : (xs : List Item) (c : Progress) (ends : Option (Box BothLogs Global)) → EndsHaveItems r.active r.passive xs ends → EndsItemsBy c r.active r.passive xs ends
    by_course xs progress.Proceeds ends have = have
    by_course xs (progress.Over lack) None have = have
    by_course xs (progress.Over lack) (Some box) have = (box.value.time, have)

    by_page : (page : Page) (c : Progress) → OnPage c (λ (old new : Page). new ≡ old) page page
    by_page page progress.Proceeds = refl
    by_page page (progress.Over None) = refl
    by_page page (progress.Over (Some lack)) = (page, refl, refl)

pub tells_end : (pair : Pair) (which : Part) (h : TimedEvent) (c : Progress) (old new : Joined) (before after : Report) → part.End ≡ which
    → (old.is_up ≡ true → HearsItem pair h c old.ends before new.ends after)
    → (old.is_up ≡ false → (c ≡ end_course h.event h.packet) × (new ≡ old) × (after ≡ before))
    → new ≡ record old { ends = new.ends } → TellsPart pair which h old before c new after
unfolding TellsPart
tells_end pair which h c old new before after is processes_input never same = λ how a p start b hs report emitted no_up part_is.
    let t = terms_by how a start in
    let none = part_ends (said_by t.most h.event) t (spoken_behind t.most (asked b) hs) (max (latest_after 0 hs) h.time) (is ∙ part_is) in
    by_up how a p start b hs report emitted no_up none old.is_up refl
  where
    by_up : (how : Way) (a p : Parameters) (start : Start) (b : Before) (hs : List TimedEvent) → IsReport how a p before → IsReported how a p start b hs old
        → is_up_event h.event ≡ false → said_by (most_by how a) h.event ≡ None → (u : Bool) → old.is_up ≡ u
        → LogsMore pair c (session_items (terms_by how a start) b hs) (session_items (terms_by how a start) b (hs ++ h ∷ [])) old before new after
        × ToldBy c how a p start b (hs ++ h ∷ []) new
    by_up how a p start b hs report emitted no_up none true u =
        let it = hears_with how a p pair h c (session_items (terms_by how a start) b hs) old.ends new.ends before after report (processes_input u) emitted.ends in
        over_with how a p start b hs h pair c old new before after report emitted none no_up it.0
        (subst (λ (x : Bool). TakesItems pair c (cond x (end_logged (most_by how a) h) []) old.ends before new.ends after) (sym u) it.1) same
    by_up how a p start b hs report emitted no_up none false u =
        let it = never u in
        over_with how a p start b hs h pair c old new before after report emitted none no_up
        (it.0 ∙ course_end (most_by how a) h.event h.packet none no_up)
        (subst (λ (x : Bool). TakesItems pair c (cond x (end_logged (most_by how a) h) []) old.ends before new.ends after) (sym u)
        (subst (λ (j : Joined). TakesItems pair c [] old.ends before j.ends after) (sym it.1)
        (subst (λ (r : Report). TakesItems pair c [] old.ends before old.ends r) (sym it.2) (over_nothing pair c old.ends before)))) same

-- ---- what happens, one thing behind another

with_said : (how : Way) (a p : Parameters) (start : Start) (b : Before) (hs : List TimedEvent) (old mid : Joined) → IsReported how a p start b hs old
    → mid ≡ record old { said = mid.said } → IsReported how a p start b hs mid
with_said how a p start b hs old mid emitted is = subst (λ (j : Joined). IsReported how a p start b hs j) (sym is) (record {
  start_is = emitted.start_is;
  assumed = emitted.assumed;
  asker = emitted.asker;
  waiting = emitted.waiting;
  proceeds = emitted.proceeds;
  never_up = emitted.never_up;
  up = emitted.up;
  left = emitted.left;
  ends = emitted.ends;
})

pub emits_one : (pair : Pair) (h : TimedEvent) (c : Progress) (which : Part) (old mid new : Joined) (before after : Report) → mid ≡ record old { said = mid.said }
    → IsPartOf h before old which mid → TellsPart pair which h mid before c new after → new.said ≡ mid.said → TellsThem pair (h ∷ []) old before c new after
unfolding IsPartOf TellsPart TellsThem
emits_one pair h c which old mid new before after same part_is them said = λ how a p start b hs report output_state no_up.
    let t = terms_by how a start in
    let of = part_is how a p start (latest_after 0 hs) (spoken_behind t.most (asked b) hs) report output_state.0.start_is output_state.1 in
    let it = them how a p start b hs report (with_said how a p start b hs old mid output_state.0 same) (sym (or_none (is_up_event h.event)) ∙ no_up) of.0 in
    let ends : mid.ends ≡ old.ends = ap (λ (j : Joined). j.ends) same in
    let knows : SaidAs t (latest_after 0 (hs ++ h ∷ [])) (spoken_behind t.most (asked b) (hs ++ h ∷ [])) new.said =
    subst (λ (s : Option Said). SaidAs t (latest_after 0 (hs ++ h ∷ [])) (spoken_behind t.most (asked b) (hs ++ h ∷ [])) s) (sym said)
    (subst (λ (n : ℕ). SaidAs t n (spoken_behind t.most (asked b) (hs ++ h ∷ [])) mid.said) (sym (latest_more 0 hs (h ∷ [])))
    (subst (λ (s : Spoken). SaidAs t (max (latest_after 0 hs) h.time) s mid.said) (sym (spoken_more t.most (asked b) hs (h ∷ []))) of.1)) in (
      (it.0.0, it.0.1, subst (λ (e : Option (Box BothLogs Global)). TakesItems pair c it.0.0 e before new.ends after) ends it.0.2),
      by_course how a p start b (hs ++ h ∷ []) c it.1 knows,
    )
  where
    by_course : (how : Way) (a p : Parameters) (start : Start) (b : Before) (hs : List TimedEvent) (c : Progress) → ToldBy c how a p start b hs new
        → SaidAs (terms_by how a start) (latest_after 0 hs) (spoken_behind (most_by how a) (asked b) hs) new.said → TellingBy c how a p start b hs new
    by_course how a p start b hs progress.Proceeds emitted knows = (emitted, knows)
    by_course how a p start b hs (progress.Over lack) emitted knows = emitted

pub emits_none : (pair : Pair) (j : Joined) (r : Report) → TellsThem pair [] j r progress.Proceeds j r
unfolding TellsThem
emits_none pair j r = λ how a p start b hs report output_state no_up.
    let all : hs ≡ hs ++ [] = sym (append-nil hs) in (
      ([], ap (session_items (terms_by how a start) b) (sym all) ∙ sym (append-nil (session_items (terms_by how a start) b hs)), takes_nothing pair j.ends r),
      subst (λ (gs : List TimedEvent). IsTelling how a p start b gs j) all output_state,
    )

none_of_both : (xs ys : List TimedEvent) → came_up_by (xs ++ ys) ≡ false → (came_up_by xs ≡ false) × (came_up_by ys ≡ false)
none_of_both xs ys e = parts_of_or (came_up_by xs) (came_up_by ys) (sym (came_up_more xs ys) ∙ e)

pub logs_more : (pair : Pair) (c : Progress) (one two three : List Item) (old mid new : Joined) (before between after : Report)
    → LogsMore pair progress.Proceeds one two old before mid between → LogsMore pair c two three mid between new after → LogsMore pair c one three old before new after
logs_more pair c one two three old mid new before between after first second = (
  first.0 ++ second.0,
  second.1 ∙ ap (λ (xs : List Item). xs ++ second.0) first.1 ∙ append_assoc one first.0 second.0,
  takes_then pair c first.0 second.0 old.ends mid.ends new.ends before between after first.2 second.2,
)

pub them_then : (pair : Pair) (c : Progress) (xs ys : List TimedEvent) (old mid new : Joined) (before between after : Report) → TellsThem pair xs old before progress.Proceeds mid between
    → TellsThem pair ys mid between c new after → TellsThem pair (xs ++ ys) old before c new after
unfolding TellsThem
them_then pair c xs ys old mid new before between after first second = λ how a p start b hs report output_state no_up.
    let none = none_of_both xs ys no_up in
    let t = terms_by how a start in
    let one = first how a p start b hs report output_state none.0 in
    let two = second how a p start b (hs ++ xs) (report_stays how a p pair progress.Proceeds one.0.0 old.ends mid.ends before between report one.0.2) one.1 none.1 in
    subst (λ (gs : List TimedEvent). LogsMore pair c (session_items t b hs) (session_items t b gs) old before new after × TellingBy c how a p start b gs new)
    (append_assoc hs xs ys)
    (logs_more pair c (session_items t b hs) (session_items t b (hs ++ xs)) (session_items t b ((hs ++ xs) ++ ys)) old mid new before between after one.0 two.0, two.1)

-- nothing behind its end is told
pub over_items : (t : Terms) (b : Before) (hs ys : List TimedEvent) (lack : Option Shortfall) → course_by_events t.most hs ≡ progress.Over lack
    → (items_of t b (hs ++ ys) ≡ items_of t b hs) × (course_by_events t.most (hs ++ ys) ≡ progress.Over lack)
over_items t b hs ys lack over =
    let stops = stops_there (hears_event t.most) (λ h. h.packet) hs ys lack over in
    (ap (items_by t (asked b) 0) stops.0, stops.1)

pub them_over : (pair : Pair) (lack : Option Shortfall) (xs ys : List TimedEvent) (old new : Joined) (before after : Report) → TellsThem pair xs old before (progress.Over lack) new after
    → TellsThem pair (xs ++ ys) old before (progress.Over lack) new after
unfolding TellsThem
them_over pair lack xs ys old new before after them = λ how a p start b hs report output_state no_up.
    let t = terms_by how a start in
    let it = them how a p start b hs report output_state (none_of_both xs ys no_up).0 in
    let same = over_items t b (hs ++ xs) ys lack it.1.course_is in
    let log : session_items t b ((hs ++ xs) ++ ys) ≡ session_items t b (hs ++ xs) = ap (after_front (supposed_items b t.begun)) same.0 in
    subst (λ (gs : List TimedEvent). LogsMore pair (progress.Over lack) (session_items t b hs) (session_items t b gs) old before new after × IsOverAs how a p start b lack gs new)
    (append_assoc hs xs ys) (
      (it.0.0, log ∙ it.0.1, it.0.2),
      record {
        start_is = it.1.start_is;
        waiting = it.1.waiting;
        course_is = same.1;
        up = it.1.up ∙ sym (ap tells_some same.0);
        ends = λ e. subst (λ (zs : List Item). EndsHadItems a p zs new.ends) (sym log) (it.1.ends e);
      },
    )

-- ---- what stood before is decided

pub begins_telling : (assumed : Assumption) (asker : Side) (how : Way) (a p : Parameters) (start : Start) (hs : List TimedEvent) (old mid : Joined) → mid.start ≡ old.start
    → mid.assumed ≡ assumed → mid.asker ≡ asker → mid.is_up ≡ old.is_up → mid.ends ≡ old.ends → mid.left_out ≡ old.left_out → mid.waiting.items ≡ []
    → (said : Said) × (mid.said ≡ Some said) × KnowsBoth (asked_by assumed asker) said → old.start ≡ start → IsWaiting (most_by how a) hs old
    → IsTelling how a p start (record { assumed = assumed; asker = asker }) [] mid
begins_telling assumed asker how a p start hs old mid start_is supposed_is asker_is up ends left waiting said of waits =
    let b : Before = record { assumed = assumed; asker = asker } in
    let t = terms_by how a start in
    let none : mid.is_up ≡ false = up ∙ waits.up in
    let emitted : IsReported how a p start b [] mid = record {
      start_is = start_is ∙ of;
      assumed = supposed_is;
      asker = asker_is;
      waiting = waiting;
      proceeds = refl;
      never_up = refl;
      up = none ∙ ap tells_some (sym (items_none t (asked b) 0));
      left = ap (λ (v : Vec ℕ Global). v.items) left ∙ waits.left
          ∙ (ap (left_if false) (sym (items_none t (asked b) 0))) ∙ ap (λ (x : Bool). left_if x (items_by t (asked b) 0 [])) (sym none);
      ends = λ e. subst (λ (x : Option (Box BothLogs Global)). EndsHaveItems a p (session_items t b []) x) (sym (ends ∙ waits.ends))
          (ap (after_front (supposed_items b t.begun)) (items_none t (asked b) 0));
    } in
    (emitted, subst (λ (s : Option Said). SaidAs t 0 (asked b) s) (sym said.1) (omega arith, said.2))

pub decides : (pair : Pair) (assumed : Assumption) (asker : Side) (c : Progress) (old mid new : Joined) (before after : Report) → mid.start ≡ old.start → mid.is_decided ≡ true
    → mid.assumed ≡ assumed → mid.asker ≡ asker → mid.is_up ≡ old.is_up → mid.ends ≡ old.ends → mid.left_out ≡ old.left_out → mid.waiting.items ≡ []
    → (said : Said) × (mid.said ≡ Some said) × KnowsBoth (asked_by assumed asker) said → TellsThem pair old.waiting.items mid before c new after
    → new.is_decided ≡ mid.is_decided → Decides pair assumed asker old before c new after
unfolding TellsThem Decides
decides pair assumed asker c old mid new before after start_is decided supposed_is asker_is up ends left waiting said them kept = λ how a p start hs report of waits.
    let b : Before = record { assumed = assumed; asker = asker } in
    let t = terms_by how a start in
    let proceeds = undecided_goes t.most nothing_spoken hs waits.undecided in
    let output_state = begins_telling assumed asker how a p start hs old mid start_is supposed_is asker_is up ends left waiting said of waits in
    let it = them how a p start b [] report output_state (ap came_up_by waits.waiting ∙ proceeds.1) in
    let all : old.waiting.items ≡ hs = waits.waiting in
    let emitted = subst (λ (gs : List TimedEvent). TellingBy c how a p start b gs new) all it.1 in
    let c_is : c ≡ progress.Proceeds = never_over how a p start b hs c emitted proceeds.0 in
    let log : session_items t b [] ≡ [] = ap (after_front (supposed_items b t.begun)) (items_none t (asked b) 0) in (
      c_is,
      kept ∙ decided,
      (
        it.0.0,
        ap (session_items t b) (sym all) ∙ it.0.1 ∙ ap (λ (xs : List Item). xs ++ it.0.0) log,
        subst (λ (x : Progress). TakesItems pair x it.0.0 old.ends before new.ends after) c_is
            (subst (λ (x : Option (Box BothLogs Global)). TakesItems pair c it.0.0 x before new.ends after) ends it.0.2),
      ),
      subst (λ (x : Progress). TellingBy x how a p start b hs new) c_is emitted,
    )
  where
    never_over : (how : Way) (a p : Parameters) (start : Start) (b : Before) (hs : List TimedEvent) (c : Progress) → TellingBy c how a p start b hs new
        → course_by_events (most_by how a) hs ≡ progress.Proceeds → c ≡ progress.Proceeds
    never_over how a p start b hs progress.Proceeds output_state proceeds = refl
    never_over how a p start b hs (progress.Over lack) output_state proceeds = absurd (let no : progress.Over lack ≡ progress.Proceeds = sym output_state.course_is ∙ proceeds in cc)

-- ---- as long as it waits

pub none_sure : (t : Terms) (hs : List TimedEvent) → decided_by t.most nothing_spoken hs ≡ false → length hs < looked_at → sure_log t hs ≡ []
none_sure t hs still few = ap (λ (x : Bool). log_if x (whole_log t hs)) (undecided_yet t.most hs few still)

pub sure_then : (t : Terms) (hs : List TimedEvent) → is_decided t.most hs ≡ true → sure_log t hs ≡ whole_log t hs
sure_then t hs is = ap (λ (x : Bool). log_if x (whole_log t hs)) is

pub open_before : (most : ℕ) (hs : List TimedEvent) → decided_by most nothing_spoken hs ≡ false → length hs ≤ looked_at → before_of most hs ≡ was_selected
open_before most hs still few = before_few most hs few ∙ undecided_before most nothing_spoken hs still

-- it is told by what is supposed, where nothing has happened
pub waits_none : (how : Way) (a p : Parameters) (start : Start) (hs : List TimedEvent) (j : Joined) → j.start ≡ start → IsWaiting (most_by how a) hs j → hs ≡ []
    → IsTelling how a p start was_selected hs j
waits_none how a p start hs j of waits none =
    let t = terms_by how a start in
    subst (λ (gs : List TimedEvent). IsTelling how a p start was_selected gs j) (sym none) (
      record {
        start_is = of;
        assumed = waits.assumed;
        asker = waits.asker;
        waiting = waits.waiting ∙ none;
        proceeds = refl;
        never_up = refl;
        up = waits.up ∙ ap tells_some (sym (items_none t nothing_spoken 0));
        left = waits.left ∙ ap (left_if false) (sym (items_none t nothing_spoken 0))
            ∙ ap (λ (x : Bool). left_if x (items_by t nothing_spoken 0 [])) (sym waits.up);
        ends = λ e. subst (λ (x : Option (Box BothLogs Global)). EndsHaveItems a p (session_items t was_selected []) x) (sym waits.ends)
            (ap (after_front (supposed_items was_selected t.begun)) (items_none t nothing_spoken 0));
      },
      subst (λ (s : Option Said). SaidAs t 0 nothing_spoken s) (sym waits.said.1)
          (omega arith, subst (λ (gs : List TimedEvent). KnowsBoth (spoken_behind t.most nothing_spoken gs) waits.said.0) none waits.said.2),
    )

pub settles_none : (pair : Pair) (j : Joined) (r : Report) → j.waiting.items ≡ [] → Settles pair j r progress.Proceeds j r
unfolding Settles
settles_none pair j r none = λ how a p start hs report consistent. by_stand how a p start hs consistent.0 consistent.1
  where
    by_stand : (how : Way) (a p : Parameters) (start : Start) (hs : List TimedEvent) → j.start ≡ start
        → ((length hs < looked_at) × IsWaiting (most_by how a) hs j)
        ⊎ ((j.is_decided ≡ true) × (is_decided (most_by how a) hs ≡ true) × IsTelling how a p start (before_of (most_by how a) hs) hs j)
        → (progress.Proceeds ≡ progress.Proceeds) × LogsMore pair progress.Proceeds (sure_log (terms_by how a start) hs) (whole_log (terms_by how a start) hs) j r j r
        × IsTelling how a p start (before_of (most_by how a) hs) hs j
    by_stand how a p start hs of (inl (few, waits)) =
        let t = terms_by how a start in
        let empty : hs ≡ [] = sym waits.waiting ∙ none in
        let before : before_of t.most hs ≡ was_selected = open_before t.most hs waits.undecided (omega (arith, few)) in
        let output_state = waits_none how a p start hs j of waits empty in
        let log : whole_log t hs ≡ [] =
        ap (λ (b : Before). session_items t b hs) before ∙ ap (session_items t was_selected) empty
        ∙ ap (after_front (supposed_items was_selected t.begun)) (items_none t nothing_spoken 0) in (
          refl,
          ([], log ∙ sym (none_sure t hs waits.undecided few) ∙ sym (append-nil (sure_log t hs)), takes_nothing pair j.ends r),
          subst (λ (b : Before). IsTelling how a p start b hs j) (sym before) output_state,
        )
    by_stand how a p start hs of (inr it) =
        let t = terms_by how a start in (
          refl,
          ([], sym (sure_then t hs it.1) ∙ sym (append-nil (sure_log t hs)), takes_nothing pair j.ends r),
          it.2,
        )

pub settles_some : (pair : Pair) (c : Progress) (old new : Joined) (before after : Report) → (old.waiting.items ≡ [] → ⊥)
    → Decides pair Selected side.Active old before c new after → Settles pair old before c new after
unfolding Decides Settles
settles_some pair c old new before after some decided = λ how a p start hs report consistent. by_stand how a p start hs report consistent.0 consistent.1
  where
    by_stand : (how : Way) (a p : Parameters) (start : Start) (hs : List TimedEvent) → IsReport how a p before → old.start ≡ start
        → ((length hs < looked_at) × IsWaiting (most_by how a) hs old)
        ⊎ ((old.is_decided ≡ true) × (is_decided (most_by how a) hs ≡ true) × IsTelling how a p start (before_of (most_by how a) hs) hs old)
        → (c ≡ progress.Proceeds) × LogsMore pair progress.Proceeds (sure_log (terms_by how a start) hs) (whole_log (terms_by how a start) hs) old before new after
        × IsTelling how a p start (before_of (most_by how a) hs) hs new
    by_stand how a p start hs report of (inl (few, waits)) =
        let t = terms_by how a start in
        let it = decided how a p start hs report of waits in
        let is : was_selected ≡ before_of t.most hs = sym (open_before t.most hs waits.undecided (omega (arith, few))) in (
          it.0,
          subst (λ (xs : List Item). LogsMore pair progress.Proceeds xs (whole_log t hs) old before new after) (sym (none_sure t hs waits.undecided few))
              (subst (λ (b : Before). LogsMore pair progress.Proceeds [] (session_items t b hs) old before new after) is it.2),
          subst (λ (b : Before). IsTelling how a p start b hs new) is it.3,
        )
    by_stand how a p start hs report of (inr it) = absurd (some it.2.0.waiting)

-- ---- what decides it, or ends it

take_add : (xs ys : List TimedEvent) (n : ℕ) → take (length xs + n) (xs ++ ys) ≡ xs ++ take n ys
take_add [] ys n = let e : 0 + n ≡ n = omega arith in ap (λ (k : ℕ). take k ys) e
take_add (x ∷ xs) ys n =
    let e : suc (length xs) + n ≡ suc (length xs + n) = omega arith in
    ap (λ (k : ℕ). take k (x ∷ (xs ++ ys))) e ∙ ap (λ (l : List TimedEvent). x ∷ l) (take_add xs ys n)

take_both : (n : ℕ) (xs ys : List TimedEvent) → length xs ≤ n → take n (xs ++ ys) ≡ xs ++ take (n - length xs) ys
take_both n xs ys le =
    let e : n ≡ length xs + (n - length xs) = omega (arith, le) in
    ap (λ (k : ℕ). take k (xs ++ ys)) e ∙ take_add xs ys (n - length xs)

-- decided, it stays so
pub before_stays : (most : ℕ) (hs ys : List TimedEvent) → is_decided most hs ≡ true → (is_decided most (hs ++ ys) ≡ true) × (before_of most (hs ++ ys) ≡ before_of most hs)
before_stays most hs ys is = by_long (nat_le looked_at (length hs)) refl
  where
    by_long : (x : Bool) → nat_le looked_at (length hs) ≡ x → (is_decided most (hs ++ ys) ≡ true) × (before_of most (hs ++ ys) ≡ before_of most hs)
    by_long true long =
        let at : looked_at ≤ length hs = leb-true looked_at (length hs) long in
        let more : nat_le looked_at (length (hs ++ ys)) ≡ true = le-leb looked_at (length (hs ++ ys)) (omega (arith, at, length-append hs ys)) in (
          ap (λ (b : Bool). b || decided_by most nothing_spoken (hs ++ ys)) more,
          ap (before_by most nothing_spoken) (take-append-le looked_at hs ys at),
        )
    by_long false short =
        let few : length hs < looked_at = leb-false looked_at (length hs) short in
        let decided : decided_by most nothing_spoken hs ≡ true = sym (ap (λ (b : Bool). b || decided_by most nothing_spoken hs) short) ∙ is in
        let stays = decided_stays most nothing_spoken hs ys decided in
        let some = decided_stays most nothing_spoken hs (take (looked_at - length hs) ys) decided in (
          ap (λ (b : Bool). nat_le looked_at (length (hs ++ ys)) || b) stays.0 ∙ or_some (nat_le looked_at (length (hs ++ ys))),
          ap (before_by most nothing_spoken) (take_both looked_at hs ys (omega (arith, few))) ∙ some.1
              ∙ sym (before_few most hs (omega (arith, few))),
        )

-- with the last one
pub longer : (hs : List TimedEvent) (h : TimedEvent) → length hs < looked_at → length (hs ++ h ∷ []) ≤ looked_at
longer hs h few = omega (arith, few, length-append hs (h ∷ []))

pub before_last : (most : ℕ) (hs : List TimedEvent) (h : TimedEvent) → length hs < looked_at → decided_by most nothing_spoken hs ≡ false
    → before_of most (hs ++ h ∷ []) ≡ before_with (said_by most h.event) (spoken_behind most nothing_spoken hs) (λ later. was_selected)
before_last most hs h few still =
    before_few most (hs ++ h ∷ []) (longer hs h few) ∙ (undecided_more most nothing_spoken hs (h ∷ []) still).1 ∙ before_one most (spoken_behind most nothing_spoken hs) h

pub decided_last : (most : ℕ) (hs : List TimedEvent) (h : TimedEvent) → decided_by most nothing_spoken hs ≡ false
    → decided_by most nothing_spoken (hs ++ h ∷ []) ≡ decided_with (said_by most h.event) (spoken_behind most nothing_spoken hs) (λ later. false)
decided_last most hs h still = (undecided_more most nothing_spoken hs (h ∷ []) still).0 ∙ decided_one most (spoken_behind most nothing_spoken hs) h

pub is_sure : (most : ℕ) (hs : List TimedEvent) → decided_by most nothing_spoken hs ≡ true → is_decided most hs ≡ true
is_sure most hs is = ap (λ (b : Bool). nat_le looked_at (length hs) || b) is ∙ or_some (nat_le looked_at (length hs))

-- it is told, by what is known for sure
pub stands_told : (how : Way) (a p : Parameters) (start : Start) (b : Before) (hs : List TimedEvent) (c : Progress) (j : Joined) → before_of (most_by how a) hs ≡ b
    → is_decided (most_by how a) hs ≡ true → j.is_decided ≡ true → TellingBy c how a p start b hs j → StandsBy c how a p start hs j
stands_told how a p start b hs progress.Proceeds j before sure decided output_state =
    (output_state.0.start_is, inr (decided, sure, subst (λ (x : Before). IsTelling how a p start x hs j) (sym before) output_state))
stands_told how a p start b hs (progress.Over lack) j before sure decided output_state = subst (λ (x : Before). IsOverAs how a p start x lack hs j) (sym before) output_state

-- where it was decided before
pub next_passed : (pair : Pair) (h : TimedEvent) (c : Progress) (old new : Joined) (before after : Report) → old.is_decided ≡ true
    → TellsThem pair (h ∷ []) old before c new after → new.is_decided ≡ old.is_decided → HearsNext pair h old before c new after
unfolding TellsThem HearsNext
next_passed pair h c old new before after decided them kept = λ how a p start hs report consistent no_up. by_stand how a p start hs report no_up consistent.1
  where
    by_stand : (how : Way) (a p : Parameters) (start : Start) (hs : List TimedEvent) → IsReport how a p before → is_up_event h.event ≡ false
        → ((length hs < looked_at) × IsWaiting (most_by how a) hs old)
        ⊎ ((old.is_decided ≡ true) × (is_decided (most_by how a) hs ≡ true) × IsTelling how a p start (before_of (most_by how a) hs) hs old)
        → LogsMore pair c (sure_log (terms_by how a start) hs) (sure_log (terms_by how a start) (hs ++ h ∷ [])) old before new after
        × StandsBy c how a p start (hs ++ h ∷ []) new
    by_stand how a p start hs report no_up (inl (few, waits)) = absurd (let no : false ≡ true = sym waits.unsettled ∙ decided in cc)
    by_stand how a p start hs report no_up (inr it) =
        let t = terms_by how a start in
        let b = before_of t.most hs in
        let stays = before_stays t.most hs (h ∷ []) it.1 in
        let one = them how a p start b hs report it.2 (or_none (is_up_event h.event) ∙ no_up) in
        let log : sure_log t (hs ++ h ∷ []) ≡ session_items t b (hs ++ h ∷ []) =
        sure_then t (hs ++ h ∷ []) stays.0 ∙ ap (λ (x : Before). session_items t x (hs ++ h ∷ [])) stays.1 in (
          (one.0.0, log ∙ one.0.1 ∙ ap (λ (xs : List Item). xs ++ one.0.0) (sym (sure_then t hs it.1)), one.0.2),
          stands_told how a p start b (hs ++ h ∷ []) c new stays.1 stays.0 (kept ∙ decided) one.1,
        )

-- it waited: what is told with the last one
waited_then : (how : Way) (a p : Parameters) (start : Start) (b : Before) (hs : List TimedEvent) (h : TimedEvent) (pair : Pair) (c : Progress) (old mid new : Joined)
    (before between after : Report) → length hs < looked_at → decided_by (most_by how a) nothing_spoken hs ≡ false → is_up_event h.event ≡ false
    → before_of (most_by how a) (hs ++ h ∷ []) ≡ b → decided_by (most_by how a) nothing_spoken (hs ++ h ∷ []) ≡ true → IsReport how a p before
    → LogsMore pair progress.Proceeds [] (session_items (terms_by how a start) b hs) old before mid between → IsTelling how a p start b hs mid
    → TellsThem pair (h ∷ []) mid between c new after
    → LogsMore pair c (sure_log (terms_by how a start) hs) (sure_log (terms_by how a start) (hs ++ h ∷ [])) old before new after
    × TellingBy c how a p start b (hs ++ h ∷ []) new
unfolding TellsThem
waited_then how a p start b hs h pair c old mid new before between after few still no_up is decided report logs output_state them =
    let t = terms_by how a start in
    let one = them how a p start b hs (report_stays how a p pair progress.Proceeds logs.0 old.ends mid.ends before between report logs.2) output_state
    (or_none (is_up_event h.event) ∙ no_up) in
    let both = logs_more pair c [] (session_items t b hs) (session_items t b (hs ++ h ∷ [])) old mid new before between after logs one.0 in
    let log : sure_log t (hs ++ h ∷ []) ≡ session_items t b (hs ++ h ∷ []) =
    sure_then t (hs ++ h ∷ []) (is_sure t.most (hs ++ h ∷ []) decided) ∙ ap (λ (x : Before). session_items t x (hs ++ h ∷ [])) is in (
      (both.0, log ∙ both.1 ∙ ap (λ (xs : List Item). xs ++ both.0) (sym (none_sure t hs still few)), both.2),
      one.1,
    )

pub most_same : (how : Way) (a p : Parameters) (r : Report) → IsReport how a p r → most_of r ≡ most_by how a
most_same to_verdicts a p r is = ap (λ (m : OutputMode). most_in m r.active) is.manner_is ∙ ap (λ (x : Parameters). x.max) is.active
most_same (to_log settings side) a p r is = ap (λ (m : OutputMode). most_in m r.active) is.manner_is.1 ∙ ap (λ (x : Parameters). x.max) is.manner_is.2

-- a message decides it
pub next_decided : (pair : Pair) (h : TimedEvent) (from : Side) (message : Header) (assumed : Assumption) (found : Option Assumption) (m : Option (Side × Header)) (c : Progress)
    (old mid new : Joined) (before between after : Report) → old.is_decided ≡ false → m ≡ said_by (most_of before) h.event → m ≡ Some (from, message)
    → ((said : Said) (spoken : Spoken) → old.said ≡ Some said → KnowsBoth spoken said → found ≡ assumed_by message (spoken_to from spoken))
    → found ≡ Some assumed → Decides pair assumed (other_side from) old before progress.Proceeds mid between → TellsThem pair (h ∷ []) mid between c new after
    → new.is_decided ≡ mid.is_decided → HearsNext pair h old before c new after
unfolding Decides HearsNext
next_decided pair h from message assumed found m c old mid new before between after undecided said_is m_is finds found_is decided them kept =
    λ how a p start hs report consistent no_up. by_stand how a p start hs report no_up consistent.0 consistent.1
  where
    by_stand : (how : Way) (a p : Parameters) (start : Start) (hs : List TimedEvent) → IsReport how a p before → is_up_event h.event ≡ false → old.start ≡ start
        → ((length hs < looked_at) × IsWaiting (most_by how a) hs old)
        ⊎ ((old.is_decided ≡ true) × (is_decided (most_by how a) hs ≡ true) × IsTelling how a p start (before_of (most_by how a) hs) hs old)
        → LogsMore pair c (sure_log (terms_by how a start) hs) (sure_log (terms_by how a start) (hs ++ h ∷ [])) old before new after
        × StandsBy c how a p start (hs ++ h ∷ []) new
    by_stand how a p start hs report no_up of (inr it) = absurd (let no : false ≡ true = sym undecided ∙ it.0 in cc)
    by_stand how a p start hs report no_up of (inl (few, waits)) =
        let most = most_by how a in
        let spoken = spoken_behind most nothing_spoken hs in
        let b : Before = record { assumed = assumed; asker = other_side from } in
        let says : said_by most h.event ≡ Some (from, message) =
        ap (λ (n : ℕ). said_by n h.event) (sym (most_same how a p before report)) ∙ sym said_is ∙ m_is in
        let by : assumed_by message (spoken_to from spoken) ≡ Some assumed = sym (finds waits.said.0 spoken waits.said.1 waits.said.2) ∙ found_is in
        let last : before_of most (hs ++ h ∷ []) ≡ b =
        before_last most hs h few waits.undecided ∙ ap (λ (x : Option (Side × Header)). before_with x spoken (λ later. was_selected)) says
        ∙ ap (λ (x : Option Assumption). before_or x from was_selected) by in
        let sure : decided_by most nothing_spoken (hs ++ h ∷ []) ≡ true =
        decided_last most hs h waits.undecided ∙ ap (λ (x : Option (Side × Header)). decided_with x spoken (λ later. false)) says
        ∙ ap (λ (x : Option Assumption). is_some x || false) by in
        let it = decided how a p start hs report of waits in
        let all = waited_then how a p start b hs h pair c old mid new before between after few waits.undecided no_up last sure report it.2 it.3 them in
        (all.0, stands_told how a p start b (hs ++ h ∷ []) c new last (is_sure most (hs ++ h ∷ []) sure) (kept ∙ it.1) all.1)

-- what is no message that an end takes ends it
over_last : (most : ℕ) (h : TimedEvent) → said_by most h.event ≡ None → is_up_event h.event ≡ false → course_by_events most (h ∷ []) ≡ progress.Proceeds → ⊥
over_last most h is no_up proceeds =
    let over = over_course most h.event h.packet (reception_of most h.event) refl (none_ends most h.event is no_up) in
    let no : progress.Over over.0 ≡ progress.Proceeds = sym over.1 ∙ proceeds in cc

pub settles_then : (pair : Pair) (h : TimedEvent) (c : Progress) (old mid new : Joined) (before between after : Report) → Settles pair old before progress.Proceeds mid between
    → TellsThem pair (h ∷ []) mid between c new after → SettlesAndTells pair h old before c new after
unfolding Settles SettlesAndTells
settles_then pair h c old mid new before between after settles them = λ how a p start hs report of few waits none no_up.
    let most = most_by how a in
    let t = terms_by how a start in
    let spoken = spoken_behind most nothing_spoken hs in
    let b = before_of most hs in
    let at = settles how a p start hs report (of, inl (few, waits)) in
    let was : b ≡ was_selected = open_before most hs waits.undecided (omega (arith, few)) in
    let last : before_of most (hs ++ h ∷ []) ≡ b =
    before_last most hs h few waits.undecided ∙ ap (λ (x : Option (Side × Header)). before_with x spoken (λ later. was_selected)) none ∙ sym was in
    let sure : decided_by most nothing_spoken (hs ++ h ∷ []) ≡ true =
    decided_last most hs h waits.undecided ∙ ap (λ (x : Option (Side × Header)). decided_with x spoken (λ later. false)) none in
    let logs : LogsMore pair progress.Proceeds [] (session_items t b hs) old before mid between =
    subst (λ (xs : List Item). LogsMore pair progress.Proceeds xs (session_items t b hs) old before mid between) (none_sure t hs waits.undecided few) at.1 in
    let all = waited_then how a p start b hs h pair c old mid new before between after few waits.undecided no_up last sure report logs at.2 them in
    (all.0, by_course how a p start b hs none no_up last at.2.0.proceeds c all.1)
  where
    by_course : (how : Way) (a p : Parameters) (start : Start) (b : Before) (hs : List TimedEvent) → said_by (most_by how a) h.event ≡ None → is_up_event h.event ≡ false
        → before_of (most_by how a) (hs ++ h ∷ []) ≡ b → course_by_events (most_by how a) hs ≡ progress.Proceeds → (c : Progress)
        → TellingBy c how a p start b (hs ++ h ∷ []) new → StandsBy c how a p start (hs ++ h ∷ []) new
    by_course how a p start b hs none no_up last proceeds progress.Proceeds output_state =
        absurd (over_last (most_by how a) h none no_up (sym (can_continue (hears_event (most_by how a)) (λ h. h.packet) hs (h ∷ []) proceeds).1 ∙ output_state.0.proceeds))
    by_course how a p start b hs none no_up last proceeds (progress.Over lack) output_state =
        subst (λ (x : Before). IsOverAs how a p start x lack (hs ++ h ∷ []) new) (sym last) output_state

pub next_settled : (pair : Pair) (h : TimedEvent) (m : Option (Side × Header)) (c : Progress) (old new : Joined) (before after : Report) → old.is_decided ≡ false
    → m ≡ said_by (most_of before) h.event → m ≡ None → SettlesAndTells pair h old before c new after → HearsNext pair h old before c new after
unfolding SettlesAndTells HearsNext
next_settled pair h m c old new before after undecided said_is m_is settles = λ how a p start hs report consistent no_up.
    by_stand how a p start hs report no_up consistent.0 consistent.1
  where
    by_stand : (how : Way) (a p : Parameters) (start : Start) (hs : List TimedEvent) → IsReport how a p before → is_up_event h.event ≡ false → old.start ≡ start
        → ((length hs < looked_at) × IsWaiting (most_by how a) hs old)
        ⊎ ((old.is_decided ≡ true) × (is_decided (most_by how a) hs ≡ true) × IsTelling how a p start (before_of (most_by how a) hs) hs old)
        → LogsMore pair c (sure_log (terms_by how a start) hs) (sure_log (terms_by how a start) (hs ++ h ∷ [])) old before new after
        × StandsBy c how a p start (hs ++ h ∷ []) new
    by_stand how a p start hs report no_up of (inr it) = absurd (let no : false ≡ true = sym undecided ∙ it.0 in cc)
    by_stand how a p start hs report no_up of (inl (few, waits)) =
        settles how a p start hs report of few waits (ap (λ (n : ℕ). said_by n h.event) (sym (most_same how a p before report)) ∙ sym said_is ∙ m_is) no_up

pub next_waits : (pair : Pair) (h : TimedEvent) (from : Side) (message : Header) (found : Option Assumption) (m : Option (Side × Header)) (c : Progress) (old new : Joined)
    (before after : Report) → old.is_decided ≡ false → m ≡ said_by (most_of before) h.event → m ≡ Some (from, message)
    → ((said : Said) (spoken : Spoken) → old.said ≡ Some said → KnowsBoth spoken said → found ≡ assumed_by message (spoken_to from spoken))
    → found ≡ None → Waits pair from message h old before c new after → HearsNext pair h old before c new after
unfolding Waits HearsNext
next_waits pair h from message found m c old new before after undecided said_is m_is finds found_is waits = λ how a p start hs report consistent no_up.
    by_stand how a p start hs report consistent.0 consistent.1
  where
    by_stand : (how : Way) (a p : Parameters) (start : Start) (hs : List TimedEvent) → IsReport how a p before → old.start ≡ start
        → ((length hs < looked_at) × IsWaiting (most_by how a) hs old)
        ⊎ ((old.is_decided ≡ true) × (is_decided (most_by how a) hs ≡ true) × IsTelling how a p start (before_of (most_by how a) hs) hs old)
        → LogsMore pair c (sure_log (terms_by how a start) hs) (sure_log (terms_by how a start) (hs ++ h ∷ [])) old before new after
        × StandsBy c how a p start (hs ++ h ∷ []) new
    by_stand how a p start hs report of (inr it) = absurd (let no : false ≡ true = sym undecided ∙ it.0 in cc)
    by_stand how a p start hs report of (inl (few, consistent)) =
        waits how a p start hs report of few consistent (ap (λ (n : ℕ). said_by n h.event) (sym (most_same how a p before report)) ∙ sym said_is ∙ m_is)
        (sym (finds consistent.said.0 (spoken_behind (most_by how a) nothing_spoken hs) consistent.said.1 consistent.said.2) ∙ found_is)

-- ---- one more waits

pub waits_more : (most : ℕ) (hs : List TimedEvent) (h : TimedEvent) (from : Side) (message : Header) (next : Said) (old mid new : Joined) → IsWaiting most hs old
    → said_by most h.event ≡ Some (from, message) → assumed_by message (spoken_to from (spoken_behind most nothing_spoken hs)) ≡ None
    → mid ≡ record old { said = mid.said } → mid.said ≡ Some next → KnowsBoth (with_message from message (spoken_behind most nothing_spoken hs)) next
    → new ≡ record mid { waiting = new.waiting } → new.waiting.items ≡ mid.waiting.items ++ h ∷ [] → IsWaiting most (hs ++ h ∷ []) new
waits_more most hs h from message next old mid new waits says none noted said knows pushed waiting = record {
  unsettled = ap (λ (j : Joined). j.is_decided) pushed ∙ ap (λ (j : Joined). j.is_decided) noted ∙ waits.unsettled;
  assumed = ap (λ (j : Joined). j.assumed) pushed ∙ ap (λ (j : Joined). j.assumed) noted ∙ waits.assumed;
  asker = ap (λ (j : Joined). j.asker) pushed ∙ ap (λ (j : Joined). j.asker) noted ∙ waits.asker;
  up = ap (λ (j : Joined). j.is_up) pushed ∙ ap (λ (j : Joined). j.is_up) noted ∙ waits.up;
  ends = ap (λ (j : Joined). j.ends) pushed ∙ ap (λ (j : Joined). j.ends) noted ∙ waits.ends;
  left = ap (λ (j : Joined). j.left_out.items) pushed ∙ ap (λ (j : Joined). j.left_out.items) noted ∙ waits.left;
  waiting = waiting ∙ ap (λ (xs : List TimedEvent). xs ++ h ∷ []) (ap (λ (j : Joined). j.waiting.items) noted ∙ waits.waiting);
  undecided = decided_last most hs h waits.undecided
      ∙ ap (λ (x : Option (Side × Header)). decided_with x (spoken_behind most nothing_spoken hs) (λ later. false)) says
      ∙ ap (λ (x : Option Assumption). is_some x || false) none;
  said = (
    next,
    ap (λ (j : Joined). j.said) pushed ∙ said,
    subst (λ (s : Spoken). KnowsBoth s next) (sym (spoken_more most nothing_spoken hs (h ∷ [])
        ∙ ap (λ (x : Option (Side × Header)). spoken_with x (spoken_behind most nothing_spoken hs)) says)) knows,
  );
}

abbrev pub Noted : Side → Header → Joined → Joined → Type 0
Noted from message old mid =
    (said : Said) (spoken : Spoken) → old.said ≡ Some said → KnowsBoth spoken said
    → (next : Said) × (mid.said ≡ Some next) × KnowsBoth (with_message from message spoken) next

pub waits_on : (pair : Pair) (from : Side) (message : Header) (h : TimedEvent) (old mid new : Joined) (r : Report) → mid ≡ record old { said = mid.said }
    → Noted from message old mid → new ≡ record mid { waiting = new.waiting } → new.waiting.items ≡ mid.waiting.items ++ h ∷ []
    → length new.waiting.items ≤ 4096 → Waits pair from message h old r progress.Proceeds new r
unfolding Waits
waits_on pair from message h old mid new r noted notes pushed waiting few_left = λ how a p start hs report of few waits says none.
    let most = most_by how a in
    let t = terms_by how a start in
    let note = notes waits.said.0 (spoken_behind most nothing_spoken hs) waits.said.1 waits.said.2 in
    let more = waits_more most hs h from message note.0 old mid new waits says none noted note.1 note.2 pushed waiting in
    let count : length (hs ++ h ∷ []) ≡ length new.waiting.items = ap length (sym more.waiting) in
    let fewer : length (hs ++ h ∷ []) < looked_at = omega (arith, count, few_left) in
    let ends : new.ends ≡ old.ends = ap (λ (j : Joined). j.ends) pushed ∙ ap (λ (j : Joined). j.ends) noted in (
      (
        [],
        none_sure t (hs ++ h ∷ []) more.undecided fewer ∙ sym (ap (λ (xs : List Item). xs ++ []) (none_sure t hs waits.undecided few)),
        subst (λ (e : Option (Box BothLogs Global)). TakesItems pair progress.Proceeds [] old.ends r e r) (sym ends) (takes_nothing pair old.ends r),
      ),
      (ap (λ (j : Joined). j.start) pushed ∙ ap (λ (j : Joined). j.start) noted ∙ of, inl (fewer, more)),
    )

pub waits_full : (pair : Pair) (from : Side) (message : Header) (h : TimedEvent) (c : Progress) (old mid full new : Joined) (before after : Report)
    → mid ≡ record old { said = mid.said } → Noted from message old mid → full ≡ record mid { waiting = full.waiting }
    → full.waiting.items ≡ mid.waiting.items ++ h ∷ [] → (length full.waiting.items ≤ 4096 → ⊥) → Decides pair Selected side.Active full before c new after
    → Waits pair from message h old before c new after
unfolding Decides Waits
waits_full pair from message h c old mid full new before after noted notes pushed waiting many decided = λ how a p start hs report of few waits says none.
    let most = most_by how a in
    let t = terms_by how a start in
    let note = notes waits.said.0 (spoken_behind most nothing_spoken hs) waits.said.1 waits.said.2 in
    let more = waits_more most hs h from message note.0 old mid full waits says none noted note.1 note.2 pushed waiting in
    let all = hs ++ h ∷ [] in
    let count : length all ≡ length full.waiting.items = ap length (sym more.waiting) in
    let enough : looked_at ≤ length all = omega (arith, count, many) in
    let sure : is_decided most all ≡ true = ap (λ (b : Bool). b || decided_by most nothing_spoken all) (le-leb looked_at (length all) enough) in
    let was : before_of most all ≡ was_selected = open_before most all more.undecided (longer hs h few) in
    let it = decided how a p start all report (ap (λ (j : Joined). j.start) pushed ∙ ap (λ (j : Joined). j.start) noted ∙ of) more in
    let ends : full.ends ≡ old.ends = ap (λ (j : Joined). j.ends) pushed ∙ ap (λ (j : Joined). j.ends) noted in
    let log : sure_log t all ≡ session_items t was_selected all = sure_then t all sure ∙ ap (λ (b : Before). session_items t b all) was in
    subst (λ (x : Progress). LogsMore pair x (sure_log t hs) (sure_log t all) old before new after × StandsBy x how a p start all new) (sym it.0) (
      (
        it.2.0,
        log ∙ it.2.1 ∙ ap (λ (xs : List Item). xs ++ it.2.0) (sym (none_sure t hs waits.undecided few)),
        subst (λ (e : Option (Box BothLogs Global)). TakesItems pair progress.Proceeds it.2.0 e before new.ends after) ends it.2.2,
      ),
      stands_told how a p start was_selected all progress.Proceeds new was sure it.1 it.3,
    )

-- ---- anything happens

pub since_more : (start : Start) (all : List TimedEvent) (h : TimedEvent)
    → since start (all ++ h ∷ []) ≡ since start all ++ cond (counts_by start.packet h.packet h.event) (h ∷ []) []
since_more start all h = filter-append (λ (x : TimedEvent). counts_by start.packet x.packet x.event) all (h ∷ [])

-- what doesn't count changes nothing
pub processes_nothing : (pair : Pair) (h : TimedEvent) (j : Joined) (r : Report) → counts_by j.start.packet h.packet h.event ≡ false → HearsOn pair h j r progress.Proceeds j r
unfolding HearsOn
processes_nothing pair h j r none = λ how a p start all report consistent.
    let t = terms_by how a start in
    let not : counts_by start.packet h.packet h.event ≡ false = ap (λ (s : Start). counts_by s.packet h.packet h.event) (sym consistent.0) ∙ none in
    let same : since start (all ++ h ∷ []) ≡ since start all =
    since_more start all h ∙ ap (λ (b : Bool). since start all ++ cond b (h ∷ []) []) not ∙ append-nil (since start all) in (
      ([], ap (sure_log t) same ∙ sym (append-nil (sure_log t (since start all))), takes_nothing pair j.ends r),
      subst (λ (hs : List TimedEvent). JoinedStands how a p start hs j) (sym same) consistent,
    )

pub hears_next : (pair : Pair) (h : TimedEvent) (c : Progress) (old new : Joined) (before after : Report) → counts_by old.start.packet h.packet h.event ≡ true
    → is_up_event h.event ≡ false → HearsNext pair h old before c new after → HearsOn pair h old before c new after
unfolding HearsNext HearsOn
hears_next pair h c old new before after counts no_up next = λ how a p start all report consistent.
    let t = terms_by how a start in
    let is : counts_by start.packet h.packet h.event ≡ true = ap (λ (s : Start). counts_by s.packet h.packet h.event) (sym consistent.0) ∙ counts in
    let more : since start (all ++ h ∷ []) ≡ since start all ++ h ∷ [] =
    since_more start all h ∙ ap (λ (b : Bool). since start all ++ cond b (h ∷ []) []) is in
    subst (λ (hs : List TimedEvent). LogsMore pair c (sure_log t (since start all)) (sure_log t hs) old before new after × StandsBy c how a p start hs new) (sym more)
    (next how a p start (since start all) report consistent no_up)

-- ---- nothing has happened

pub new_joined : (start : Start) (waiting : Vec TimedEvent Global) (left : Vec ℕ Global) (said : Said) → waiting.items ≡ [] → left.items ≡ []
    → KnowsBoth nothing_spoken said → IsNew start (record {
      start = start;
      ends = None;
      is_up = false;
      is_decided = false;
      assumed = Selected;
      asker = side.Active;
      waiting = waiting;
      left_out = left;
      said = Some said;
    })
unfolding IsNew
new_joined start waiting left said none none_left knows = λ most. (
  refl,
  record {
    unsettled = refl;
    assumed = refl;
    asker = refl;
    up = refl;
    ends = refl;
    left = none_left;
    waiting = none;
    undecided = undecided_none most nothing_spoken;
    said = (said, refl, knows);
  },
)

-- ---- a message is left out

pub left_nothing : (pair : Pair) (up : Bool) (packet : ℕ) (ends : Option (Box BothLogs Global)) (r : Report) → up ≡ false
    → TakesItems pair progress.Proceeds (left_items up packet) ends r ends r
left_nothing pair up packet ends r down = subst (λ (x : Bool). TakesItems pair progress.Proceeds (left_items x packet) ends r ends r) (sym down) (takes_nothing pair ends r)

pub left_told : (pair : Pair) (up : Bool) (packet : ℕ) (ends left : Option (Box BothLogs Global)) (old new : Report) → up ≡ true
    → TakesItems pair progress.Proceeds (leaves_out packet ∷ []) ends old left new → TakesItems pair progress.Proceeds (left_items up packet) ends old left new
left_told pair up packet ends left old new is takes =
    subst (λ (x : Bool). TakesItems pair progress.Proceeds (left_items x packet) ends old left new) (sym is) takes

-- ---- what is answered

pub ok_map : {T E : Type 0} {P Q : T → Type 0} (result : Result T E) → ((x : T) → P x → Q x) → IfOk result P → IfOk result Q
ok_map (Ok x) f given = f x given
ok_map (Err fault) f given = tt

pub left_ok : {E : Type 0} (result : Result Progress E) (pair : Pair) (which : Part) (h : TimedEvent) (old new : Joined) (before after : Report) → part.LeftOut ≡ which
    → IfOk result (λ c. c ≡ progress.Proceeds) → OnOk result (TakesItems pair progress.Proceeds (left_items old.is_up h.packet) old.ends before new.ends after)
    → OnOk result (new.left_out.items ≡ old.left_out.items ++ left_packets old.is_up h.packet) → new ≡ record old { ends = new.ends; left_out = new.left_out }
    → IfOk result (λ c. TellsPart pair which h old before c new after)
left_ok (Ok c) pair which h old new before after is proceeds takes left same = tells_left pair which h c old new before after is proceeds takes left same
left_ok (Err fault) pair which h old new before after is proceeds takes left same = tt

pub end_ok : {E : Type 0} (result : Result Progress E) (pair : Pair) (which : Part) (h : TimedEvent) (old new : Joined) (before after : Report) → part.End ≡ which
    → (old.is_up ≡ true → IfOk result (λ c. HearsItem pair h c old.ends before new.ends after))
    → (old.is_up ≡ false → IfOk result (λ c. (c ≡ end_course h.event h.packet) × (new ≡ old) × (after ≡ before))) → new ≡ record old { ends = new.ends }
    → IfOk result (λ c. TellsPart pair which h old before c new after)
end_ok (Ok c) pair which h old new before after is processes_input never same = tells_end pair which h c old new before after is processes_input never same
end_ok (Err fault) pair which h old new before after is processes_input never same = tt

pub one_ok : {E : Type 0} (result : Result Progress E) (pair : Pair) (h : TimedEvent) (which : Part) (old mid new : Joined) (before after : Report)
    → mid ≡ record old { said = mid.said } → IsPartOf h before old which mid → IfOk result (λ c. TellsPart pair which h mid before c new after)
    → OnOk result ((new.is_decided ≡ mid.is_decided) × (new.said ≡ mid.said)) → IfOk result (λ c. TellsThem pair (h ∷ []) old before c new after)
one_ok (Ok c) pair h which old mid new before after same part_is them kept = emits_one pair h c which old mid new before after same part_is them kept.1
one_ok (Err fault) pair h which old mid new before after same part_is them kept = tt

pub decides_ok : {E : Type 0} (result : Result Progress E) (pair : Pair) (assumed : Assumption) (asker : Side) (old mid new : Joined) (waiting : List TimedEvent) (before after : Report)
    → waiting ≡ old.waiting.items → mid.start ≡ old.start → mid.is_decided ≡ true → mid.assumed ≡ assumed → mid.asker ≡ asker → mid.is_up ≡ old.is_up
    → mid.ends ≡ old.ends → mid.left_out ≡ old.left_out → mid.waiting.items ≡ []
    → (said : Said) × (mid.said ≡ Some said) × KnowsBoth (asked_by assumed asker) said → IfOk result (λ c. TellsThem pair waiting mid before c new after)
    → OnOk result (new.is_decided ≡ mid.is_decided) → IfOk result (λ c. Decides pair assumed asker old before c new after)
decides_ok (Ok c) pair assumed asker old mid new waiting before after all start_is decided supposed_is asker_is up ends left none said them kept =
    decides pair assumed asker c old mid new before after start_is decided supposed_is asker_is up ends left none said
    (subst (λ (hs : List TimedEvent). TellsThem pair hs mid before c new after) all them) kept
decides_ok (Err fault) pair assumed asker old mid new waiting before after all start_is decided supposed_is asker_is up ends left none said them kept = tt

pub told_ok : {E : Type 0} (result : Result Progress E) (pair : Pair) (h : TimedEvent) (old new : Joined) (before after : Report) → old.is_decided ≡ true
    → IfOk result (λ c. TellsThem pair (h ∷ []) old before c new after) → OnOk result (new.is_decided ≡ old.is_decided)
    → IfOk result (λ c. HearsNext pair h old before c new after)
told_ok (Ok c) pair h old new before after decided them kept = next_passed pair h c old new before after decided them kept
told_ok (Err fault) pair h old new before after decided them kept = tt

pub decided_ok : {E : Type 0} (result : Result Progress E) (pair : Pair) (h : TimedEvent) (from : Side) (message : Header) (assumed : Assumption) (found : Option Assumption)
    (m : Option (Side × Header)) (old mid new : Joined) (before between after : Report) → old.is_decided ≡ false → m ≡ said_by (most_of before) h.event
    → m ≡ Some (from, message)
    → ((said : Said) (spoken : Spoken) → old.said ≡ Some said → KnowsBoth spoken said → found ≡ assumed_by message (spoken_to from spoken))
    → found ≡ Some assumed → Decides pair assumed (other_side from) old before progress.Proceeds mid between
    → IfOk result (λ c. TellsThem pair (h ∷ []) mid between c new after) → OnOk result (new.is_decided ≡ mid.is_decided)
    → IfOk result (λ c. HearsNext pair h old before c new after)
decided_ok (Ok c) pair h from message assumed found m old mid new before between after undecided said_is m_is finds found_is decided them kept =
    next_decided pair h from message assumed found m c old mid new before between after undecided said_is m_is finds found_is decided them kept
decided_ok (Err fault) pair h from message assumed found m old mid new before between after undecided said_is m_is finds found_is decided them kept = tt

-- what goes on is never over
pub settles_never : (pair : Pair) (h : TimedEvent) (lack : Option Shortfall) (old new : Joined) (before after : Report)
    → Settles pair old before (progress.Over lack) new after → SettlesAndTells pair h old before (progress.Over lack) new after
unfolding Settles SettlesAndTells
settles_never pair h lack old new before after settles = λ how a p start hs report of few waits none no_up.
    absurd (let bad : progress.Over lack ≡ progress.Proceeds = (settles how a p start hs report (of, inl (few, waits))).0 in cc)

pub next_never : (pair : Pair) (h : TimedEvent) (assumed : Assumption) (asker : Side) (lack : Option Shortfall) (old new : Joined) (before after : Report)
    → old.is_decided ≡ false → Decides pair assumed asker old before (progress.Over lack) new after → HearsNext pair h old before (progress.Over lack) new after
unfolding Decides HearsNext
next_never pair h assumed asker lack old new before after undecided decided = λ how a p start hs report consistent no_up.
    by_stand how a p start hs report consistent.0 consistent.1
  where
    by_stand : (how : Way) (a p : Parameters) (start : Start) (hs : List TimedEvent) → IsReport how a p before → old.start ≡ start
        → ((length hs < looked_at) × IsWaiting (most_by how a) hs old)
        ⊎ ((old.is_decided ≡ true) × (is_decided (most_by how a) hs ≡ true) × IsTelling how a p start (before_of (most_by how a) hs) hs old)
        → LogsMore pair (progress.Over lack) (sure_log (terms_by how a start) hs) (sure_log (terms_by how a start) (hs ++ h ∷ [])) old before new after
        × StandsBy (progress.Over lack) how a p start (hs ++ h ∷ []) new
    by_stand how a p start hs report of (inr it) = absurd (let bad : false ≡ true = sym undecided ∙ it.0 in cc)
    by_stand how a p start hs report of (inl (few, waits)) =
        absurd (let bad : progress.Over lack ≡ progress.Proceeds = (decided how a p start hs report of waits).0 in cc)

-- ---- what becomes of it

-- nobody knows what both ends have asked for once a time is past T3
abbrev pub Timed : TimedEvent → Report → Joined → Option Said → Type 0
Timed h report old mid =
    (report.active.t3 < h.time - old.start.time → mid ≡ None) × ((report.active.t3 < h.time - old.start.time → ⊥) → mid ≡ old.said)

said_timed : (t : Terms) (latest time : ℕ) (spoken : Spoken) (old mid : Option Said) → SaidAs t latest spoken old → (t.t3 < time - t.begun → mid ≡ None)
    → ((t.t3 < time - t.begun → ⊥) → mid ≡ old) → SaidAs t (max latest time) spoken mid
said_timed t latest time spoken old mid knows past kept = by_past (nat_le (time - t.begun) t.t3) refl
  where
    by_old : (was : Option Said) → old ≡ was → time - t.begun ≤ t.t3 → SaidAs t latest spoken was → SaidAs t (max latest time) spoken was
    by_old None is within knows = omega (arith, within, knows)
    by_old (Some said) is within knows = (omega (arith, within, knows.0), knows.1)

    by_past : (b : Bool) → nat_le (time - t.begun) t.t3 ≡ b → SaidAs t (max latest time) spoken mid
    by_past true is =
        let within : time - t.begun ≤ t.t3 = leb-true (time - t.begun) t.t3 is in
        subst (λ (s : Option Said). SaidAs t (max latest time) spoken s) (sym (kept (λ late. omega (arith, late, within)))) (by_old old refl within knows)
    by_past false is =
        let late : t.t3 < time - t.begun = leb-false (time - t.begun) t.t3 is in
        subst (λ (s : Option Said). SaidAs t (max latest time) spoken s) (sym (past late)) (omega (arith, late))

terms_same : (how : Way) (a p : Parameters) (start : Start) (report : Report) (old : Joined) → IsReport how a p report → old.start ≡ start
    → (report.active.t3 ≡ a.t3) × (old.start.time ≡ start.time)
terms_same how a p start report old is of = (ap (λ (x : Parameters). x.t3) is.active, ap (λ (s : Start). s.time) of)

timed_by_terms : (how : Way) (a p : Parameters) (start : Start) (h : TimedEvent) (report : Report) (old : Joined) (mid : Option Said) → IsReport how a p report
    → old.start ≡ start → Timed h report old mid
    → (a.t3 < h.time - start.time → mid ≡ None) × ((a.t3 < h.time - start.time → ⊥) → mid ≡ old.said)
timed_by_terms how a p start h report old mid is of timed =
    let same = terms_same how a p start report old is of in
    subst (λ (n : ℕ). (a.t3 < h.time - n → mid ≡ None) × ((a.t3 < h.time - n → ⊥) → mid ≡ old.said)) same.1
    (subst (λ (n : ℕ). (n < h.time - old.start.time → mid ≡ None) × ((n < h.time - old.start.time → ⊥) → mid ≡ old.said)) same.0 timed)

and_none : (b : Bool) → (b && false) ≡ false
and_none true = refl
and_none false = refl

-- a message of which it isn't known what was asked for
never_left : (message : Header) (said : List Header) (begun t3 time : ℕ) → t3 < time - begun → is_left_out message said begun t3 time ≡ false
never_left message said begun t3 time late =
    ap (λ (b : Bool). is_response message && (not (is_asked message said) && b)) (lt-leb (time - begun) t3 late)
    ∙ ap (λ (b : Bool). is_response message && b) (and_none (not (is_asked message said))) ∙ and_none (is_response message)

same_within : (message : Header) (said : List Header) (begun t3 one other : ℕ) → one - begun ≤ t3 → other - begun ≤ t3
    → is_left_out message said begun t3 one ≡ is_left_out message said begun t3 other
same_within message said begun t3 one other first second =
    ap (λ (b : Bool). is_response message && (not (is_asked message said) && b)) (le-leb (one - begun) t3 first ∙ sym (le-leb (other - begun) t3 second))

pub part_end : (h : TimedEvent) (report : Report) (old new : Joined) (m : Option (Side × Header)) → m ≡ said_by (most_of report) h.event → m ≡ None
    → Timed h report old new.said → IsPartOf h report old part.End new
unfolding IsPartOf
part_end h report old new m says none timed = λ how a p start latest spoken is of knows.
    let t = terms_by how a start in
    let at : said_by t.most h.event ≡ None = ap (λ (n : ℕ). said_by n h.event) (sym (most_same how a p report is)) ∙ sym says ∙ none in
    let by = timed_by_terms how a p start h report old new.said is of timed in (
      ap (λ (x : Option (Side × Header)). part_with x t spoken (max latest h.time)) (sym at),
      subst (λ (x : Option (Side × Header)). SaidAs t (max latest h.time) (spoken_with x spoken) new.said) (sym at)
          (said_timed t latest h.time spoken old.said new.said knows by.0 by.1),
    )

pub part_late : (h : TimedEvent) (report : Report) (old new : Joined) (m : Option (Side × Header)) (x : Side × Header) → m ≡ said_by (most_of report) h.event
    → m ≡ Some x → Timed h report old new.said → new.said ≡ None → IsPartOf h report old part.Message new
unfolding IsPartOf
part_late h report old new m x says some timed none = λ how a p start latest spoken is of knows.
    let t = terms_by how a start in
    let at : said_by t.most h.event ≡ Some x = ap (λ (n : ℕ). said_by n h.event) (sym (most_same how a p report is)) ∙ sym says ∙ some in
    let by = timed_by_terms how a p start h report old new.said is of timed in
    let late : t.t3 < max latest h.time - t.begun =
    subst (λ (s : Option Said). SaidAs t (max latest h.time) spoken s) none (said_timed t latest h.time spoken old.said new.said knows by.0 by.1) in (
      sym (ap (λ (b : Bool). cond b part.LeftOut part.Message) (never_left x.1 (spoken_to x.0 spoken) t.begun t.t3 (max latest h.time) late))
          ∙ ap (λ (y : Option (Side × Header)). part_with y t spoken (max latest h.time)) (sym at),
      subst (λ (s : Option Said). SaidAs t (max latest h.time) (spoken_with (said_by t.most h.event) spoken) s) (sym none) late,
    )

pub part_known : (h : TimedEvent) (report : Report) (old new : Joined) (m : Option (Side × Header)) (from : Side) (message : Header) (said next : Said) (mid : Option Said)
    (left : Bool) (which : Part) → m ≡ said_by (most_of report) h.event → m ≡ Some (from, message) → Timed h report old mid → mid ≡ Some said
    → ((spoken : Spoken) → KnowsBoth spoken said → KnowsBoth (with_message from message spoken) next) → new.said ≡ Some next
    → ((spoken : Spoken) → KnowsBoth spoken next → left ≡ is_left_out message (spoken_to from spoken) old.start.time report.active.t3 h.time)
    → which ≡ cond left part.LeftOut part.Message → IsPartOf h report old which new
unfolding IsPartOf
part_known h report old new m from message said next mid left which says some timed mid_is notes new_is leaves which_is = λ how a p start latest spoken is of knows.
    let t = terms_by how a start in
    let at : said_by t.most h.event ≡ Some (from, message) = ap (λ (n : ℕ). said_by n h.event) (sym (most_same how a p report is)) ∙ sym says ∙ some in
    let by = timed_by_terms how a p start h report old mid is of timed in
    let same = terms_same how a p start report old is of in
    let had : SaidAs t (max latest h.time) spoken (Some said) =
    subst (λ (s : Option Said). SaidAs t (max latest h.time) spoken s) mid_is (said_timed t latest h.time spoken old.said mid knows by.0 by.1) in
    let now = notes spoken had.1 in
    let within : h.time - t.begun ≤ t.t3 = omega (arith, had.0) in
    let left_is : left ≡ is_left_out message (spoken_to from spoken) t.begun t.t3 (max latest h.time) =
    leaves (with_message from message spoken) now
    ∙ ap (λ (hs : List Header). is_left_out message hs old.start.time report.active.t3 h.time) (own_stays from message spoken)
    ∙ ap (λ (n : ℕ). is_left_out message (spoken_to from spoken) n report.active.t3 h.time) same.1
    ∙ ap (λ (n : ℕ). is_left_out message (spoken_to from spoken) t.begun n h.time) same.0
    ∙ same_within message (spoken_to from spoken) t.begun t.t3 h.time (max latest h.time) within had.0 in (
      which_is ∙ ap (λ (b : Bool). cond b part.LeftOut part.Message) left_is
          ∙ ap (λ (y : Option (Side × Header)). part_with y t spoken (max latest h.time)) (sym at),
      subst (λ (s : Option Said). SaidAs t (max latest h.time) (spoken_with (said_by t.most h.event) spoken) s) (sym new_is)
          (had.0, subst (λ (y : Option (Side × Header)). KnowsBoth (spoken_with y spoken) next) (sym at) now),
    )
  where
    own_stays : (from : Side) (message : Header) (spoken : Spoken) → spoken_to from (with_message from message spoken) ≡ spoken_to from spoken
    own_stays side.Active message spoken = refl
    own_stays side.Passive message spoken = refl

pub timed_past : (h : TimedEvent) (report : Report) (old : Joined) (mid : Option Said) (n m : ℕ) → n ≡ report.active.t3 → m ≡ h.time - old.start.time → n < m
    → mid ≡ None → Timed h report old mid
timed_past h report old mid n m n_is m_is late none = (
  λ past. none,
  λ never. absurd (never (subst (λ (k : ℕ). report.active.t3 < k) m_is (subst (λ (k : ℕ). k < m) n_is late))),
)

pub timed_kept : (h : TimedEvent) (report : Report) (old : Joined) (mid : Option Said) (n m : ℕ) → n ≡ report.active.t3 → m ≡ h.time - old.start.time → m ≤ n
    → mid ≡ old.said → Timed h report old mid
timed_kept h report old mid n m n_is m_is within same = (
  λ past. absurd (let at : h.time - old.start.time ≤ report.active.t3 = subst (λ (k : ℕ). k ≤ report.active.t3) m_is (subst (λ (k : ℕ). m ≤ k) n_is within) in
      omega (arith, past, at)),
  λ never. same,
)

-- ---- what is told when it comes up

pub select_told : {E : Type 0} (result : Result (Unit {0}) E) (pair : Pair) (asker : Side) (one two : Header) (n : ℕ) (ends mid left : Option (Box BothLogs Global))
    (old between new : Report) → n ≡ 2 ^ 32 - 1 → one ≡ control_header_of 1 0 n → two ≡ control_header_of 2 0 one.system
    → TakesItems pair progress.Proceeds (supposes side.Active one ∷ []) ends old mid between
    → OnOk result (TakesItems pair progress.Proceeds (supposes side.Passive two ∷ []) mid between left new)
    → OnOk result (TakesItems pair progress.Proceeds (supposed_messages Selected asker) ends old left new)
select_told result pair asker one two n ends mid left old between new n_is one_is two_is first second =
    let both = takes_one_then result pair (supposes side.Active one ∷ []) (supposes side.Passive two ∷ []) ends mid left old between new first second in
    let at : one ≡ control_header_of 1 0 (2 ^ 32 - 1) = one_is ∙ ap (control_header_of 1 0) n_is in
    let also : two ≡ control_header_of 2 0 (2 ^ 32 - 1) = two_is ∙ ap (λ (h : Header). control_header_of 2 0 h.system) at in
    subst (λ (h : Header). OnOk result (TakesItems pair progress.Proceeds (supposes side.Active (control_header_of 1 0 (2 ^ 32 - 1)) ∷ supposes side.Passive h ∷ []) ends old left new)) also
    (subst (λ (h : Header). OnOk result (TakesItems pair progress.Proceeds (supposes side.Active h ∷ supposes side.Passive two ∷ []) ends old left new)) at both)

pub asked_ok : {E : Type 0} (result : Result (Unit {0}) E) (assumed : Assumption) (asker : Side) (system : ℕ) (message : Header) (new : Joined) (first : Said)
    → assumed ≡ Asked system → message ≡ control_header_of 1 0 system → KnowsBoth nothing_spoken first
    → OnOk result ((said : Said) (spoken : Spoken) → (let was : Option Said = Some first in was) ≡ Some said → KnowsBoth spoken said
    → (next : Said) × (new.said ≡ Some next) × KnowsBoth (with_message asker message spoken) next)
    → OnOk result ((said : Said) × (new.said ≡ Some said) × KnowsBoth (asked_by assumed asker) said)
asked_ok (Ok done) assumed asker system message new first is message_is knows noted =
    subst (λ (s : Assumption). (said : Said) × (new.said ≡ Some said) × KnowsBoth (asked_by s asker) said) (sym is)
    (subst (λ (m : Header). (said : Said) × (new.said ≡ Some said) × KnowsBoth (with_message asker m nothing_spoken) said) message_is
    (noted first nothing_spoken refl knows))
asked_ok (Err fault) assumed asker system message new first is message_is knows noted = tt

pub come_told : (pair : Pair) (old : Joined) (one two left : Option (Box BothLogs Global)) (packets : List ℕ) (before first second after : Report) → old.is_up ≡ false
    → packets ≡ old.left_out.items → TakesItems pair progress.Proceeds (comes_up old.start.time ∷ []) old.ends before one first
    → TakesItems pair progress.Proceeds (supposed_messages old.assumed old.asker) one first two second
    → TakesItems pair progress.Proceeds (map leaves_out packets) two second left after
    → TakesItems pair progress.Proceeds (come_items_if old.is_up old) old.ends before left after
come_told pair old one two left packets before first second after down same up messages others =
    let front = takes_then pair progress.Proceeds (comes_up old.start.time ∷ []) (supposed_messages old.assumed old.asker) old.ends one two before first second up messages in
    let all = takes_then pair progress.Proceeds (comes_up old.start.time ∷ supposed_messages old.assumed old.asker) (map leaves_out old.left_out.items) old.ends two left before
    second after front (subst (λ (ns : List ℕ). TakesItems pair progress.Proceeds (map leaves_out ns) two second left after) same others) in
    subst (λ (x : Bool). TakesItems pair progress.Proceeds (come_items_if x old) old.ends before left after) (sym down) all

pub left_more : (pair : Pair) (packets : List ℕ) (packet : ℕ) (ends mid left : Option (Box BothLogs Global)) (old between new : Report)
    → TakesItems pair progress.Proceeds (map leaves_out packets) ends old mid between → TakesItems pair progress.Proceeds (leaves_out packet ∷ []) mid between left new
    → TakesItems pair progress.Proceeds (map leaves_out (packets ++ packet ∷ [])) ends old left new
left_more pair packets packet ends mid left old between new first second =
    subst (λ (xs : List Item). TakesItems pair progress.Proceeds xs ends old left new) (sym (map-append leaves_out packets (packet ∷ [])))
    (takes_then pair progress.Proceeds (map leaves_out packets) (leaves_out packet ∷ []) ends mid left old between new first second)

-- ---- a list is empty, or gets one more

pub none_by : (xs : List TimedEvent) (n : ℕ) (b : Bool) → n ≡ length xs → b ≡ (n == 0) → b ≡ true → xs ≡ []
none_by xs n b is test yes_it = nil_from_length xs (sym is ∙ eqb-true n 0 (sym test ∙ yes_it))

pub some_by : (xs : List TimedEvent) (n : ℕ) (b : Bool) → n ≡ length xs → b ≡ (n == 0) → b ≡ false → xs ≡ [] → ⊥
some_by xs n b is test none empty =
    let zero_is : n ≡ 0 = is ∙ ap length empty in
    let bad : false ≡ (0 == 0) = sym none ∙ test ∙ ap (λ (k : ℕ). k == 0) zero_is in cc

pub pushed_by : (old new : List TimedEvent) (h : TimedEvent) (pushed failed : Bool) → new ≡ cond pushed (old ++ h ∷ []) old → pushed ≡ not failed → failed ≡ false
    → new ≡ old ++ h ∷ []
pushed_by old new h pushed failed is pushed_is fine = is ∙ ap (λ (b : Bool). cond b (old ++ h ∷ []) old) (pushed_is ∙ ap not fine)

-- ---- what counts

-- isn't that it came up
pub counts_never_up : (begun packet : ℕ) (e : Event) → counts_by begun packet e ≡ true → is_up_event e ≡ false
counts_never_up begun packet happens.Up is = absurd (let bad : false ≡ true = is in cc)
counts_never_up begun packet (happens.Message from octets) is = refl
counts_never_up begun packet happens.Down is = refl

-- ---- several things that happen, one after another

pub each_none : (pair : Pair) (j : Joined) (r : Report) → HearsEach pair [] j r progress.Proceeds j r
unfolding HearsEach
each_none pair j r = λ how a p start all report consistent.
    let t = terms_by how a start in
    let same : all ++ [] ≡ all = append-nil all in (
      (
        [],
        ap (λ (hs : List TimedEvent). sure_log t (since start hs)) same ∙ sym (append-nil (sure_log t (since start all))),
        takes_nothing pair j.ends r,
      ),
      subst (λ (hs : List TimedEvent). JoinedStands how a p start (since start hs) j) (sym same) consistent,
    )

pub each_then : (pair : Pair) (c : Progress) (xs : List TimedEvent) (h : TimedEvent) (old mid new : Joined) (before between after : Report)
    → HearsEach pair xs old before progress.Proceeds mid between → HearsOn pair h mid between c new after → HearsEach pair (xs ++ h ∷ []) old before c new after
unfolding HearsEach HearsOn
each_then pair c xs h old mid new before between after first second = λ how a p start all report consistent.
    let t = terms_by how a start in
    let one = first how a p start all report consistent in
    let two = second how a p start (all ++ xs) (report_stays how a p pair progress.Proceeds one.0.0 old.ends mid.ends before between report one.0.2) one.1 in
    subst (λ (hs : List TimedEvent). LogsMore pair c (sure_log t (since start all)) (sure_log t (since start hs)) old before new after
    × StandsBy c how a p start (since start hs) new) (append_assoc all xs (h ∷ [])) (
      logs_more pair c (sure_log t (since start all)) (sure_log t (since start (all ++ xs))) (sure_log t (since start ((all ++ xs) ++ h ∷ []))) old mid new before between
          after one.0 two.0,
      two.1,
    )

-- what is over is decided
pub over_decided : (most : ℕ) (spoken : Spoken) (hs : List TimedEvent) (lack : Option Shortfall) → course_by_events most hs ≡ progress.Over lack → decided_by most spoken hs ≡ true
over_decided most spoken hs lack over = by_decided (decided_by most spoken hs) refl
  where
    by_decided : (b : Bool) → decided_by most spoken hs ≡ b → decided_by most spoken hs ≡ true
    by_decided true is = is
    by_decided false is = absurd (let bad : progress.Over lack ≡ progress.Proceeds = sym over ∙ (undecided_goes most spoken hs is).0 in cc)

pub each_over : (pair : Pair) (lack : Option Shortfall) (xs ys : List TimedEvent) (old new : Joined) (before after : Report)
    → HearsEach pair xs old before (progress.Over lack) new after → HearsEach pair (xs ++ ys) old before (progress.Over lack) new after
unfolding HearsEach
each_over pair lack xs ys old new before after first = λ how a p start all report consistent.
    let t = terms_by how a start in
    let it = first how a p start all report consistent in
    let hs = since start (all ++ xs) in
    let more = since start ys in
    let b = before_of t.most hs in
    let is : since start ((all ++ xs) ++ ys) ≡ hs ++ more = filter-append (λ (x : TimedEvent). counts_by start.packet x.packet x.event) (all ++ xs) ys in
    let sure = is_sure t.most hs (over_decided t.most nothing_spoken hs lack it.1.course_is) in
    let stays = before_stays t.most hs more sure in
    let same = over_items t b hs more lack it.1.course_is in
    let log : sure_log t (hs ++ more) ≡ sure_log t hs =
    sure_then t (hs ++ more) stays.0 ∙ ap (λ (x : Before). session_items t x (hs ++ more)) stays.1
    ∙ ap (after_front (supposed_items b t.begun)) same.0 ∙ sym (sure_then t hs sure) in
    let over : IsOverAs how a p start (before_of t.most (hs ++ more)) lack (hs ++ more) new =
    subst (λ (x : Before). IsOverAs how a p start x lack (hs ++ more) new) (sym stays.1) (record {
      start_is = it.1.start_is;
      waiting = it.1.waiting;
      course_is = same.1;
      up = it.1.up ∙ sym (ap tells_some same.0);
      ends = λ e. subst (λ (zs : List Item). EndsHadItems a p zs new.ends) (sym (ap (after_front (supposed_items b t.begun)) same.0)) (it.1.ends e);
    }) in
    subst (λ (gs : List TimedEvent). LogsMore pair (progress.Over lack) (sure_log t (since start all)) (sure_log t (since start gs)) old before new after
    × IsOverAs how a p start (before_of t.most (since start gs)) lack (since start gs) new) (append_assoc all xs ys)
    (subst (λ (gs : List TimedEvent). LogsMore pair (progress.Over lack) (sure_log t (since start all)) (sure_log t gs) old before new after
    × IsOverAs how a p start (before_of t.most gs) lack gs new) (sym is) ((it.0.0, log ∙ it.0.1, it.0.2), over))

pub ruleset item_steps = (takes_nothing, takes_one_then, left_nothing, left_told, new_joined)
