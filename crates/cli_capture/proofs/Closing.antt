-- What is told of a session that was running before the capture, once it is over.
use Rattle.std.proofs.Common.{◌≡◌, ◌||◌, ◌++◌, ◌∷◌, ℕ, Bool, true, false, List, [], Option, Some, None, is_some, Box, Global, refl, sym, ap, subst, ◌∙◌, append_assoc}
use Rattle.std.specs.Prelude.{Result, Ok, Err, OnOk}
use Rattle.std.proofs.lemmas.List.{append-nil}
use Rattle.hsms_machine.specs.Settings.{Parameters}
use Rattle.hsms_machine.specs.declared.entry.Event.TheVariants as logs_event
use Rattle.capture_tcp.specs.declared.packet.Side.{Side}
use Rattle.capture_tcp.specs.declared.packet.Side.TheVariants as side
use Rattle.capture_tcp.specs.declared.events.TimedEvent.{TimedEvent}
use Rattle.capture_log.specs.AuditedLog.{HasLogged, Note, note_text}
use Rattle.capture_log.specs.BothLogs.{note_of}
use Rattle.capture_log.specs.declared.audited_log.LogComment.TheVariants as remark
use Rattle.capture_log.specs.declared.both_logs.BothLogs.{BothLogs}
use Rattle.capture_log.specs.declared.written_log.WrittenLog.{WrittenLog}
use Rattle.capture_log.specs.declared.socket_pair.Pair.{Pair}
use Rattle.capture_midstream.specs.declared.sync_packet.Start.{Start}
use Rattle.cli_capture.specs.declared.progress.Progress.{Progress}
use Rattle.cli_capture.specs.declared.progress.Progress.TheVariants as progress
use Rattle.cli_capture.specs.declared.midstream_log.Joined.{Joined}
use Rattle.cli_capture.specs.declared.report.OutputMode.TheVariants.{Log, Verdicts}
use Rattle.cli_capture.specs.declared.report.Report.{Report}
use Rattle.capture_errors.specs.declared.incomplete.Shortfall.{Shortfall}
use Rattle.cli_capture.specs.OutputMode.{Way, to_log, to_verdicts}
use Rattle.cli_capture.specs.InnerOutputMode.{IsReport}
use Rattle.cli_capture.specs.TrackedConnection.{TellsOnce, WhenTold}
use Rattle.cli_capture.specs.InnerTrackedConnection.{Replaces}
use Rattle.cli_capture.specs.MidstreamItems.{AreItems, EndsHaveItems, HaveItems, Item, LogsItems, closes_down, time_behind, with_item}
use Rattle.cli_capture.specs.InnerMidstreamItems.{EndsHadItems, TakesItems}
use Rattle.cli_capture.specs.MidstreamLog.{IsTelling, most_by, terms_by}
use Rattle.cli_capture.specs.InnerMidstreamLog.{LogsMore, Settles, ends_if}
use Rattle.cli_capture.specs.ConnectionLog.{TellsIf, is_there}
use Rattle.cli_capture.specs.LogOutput.{CountsIf, page_of, with_down}
use Rattle.cli_capture.specs.InnerLogOutput.{GoesDown}
use Rattle.cli_capture.specs.Report.{HasEmitted, LogOutputState}
use Rattle.cli_capture.specs.MidstreamOutput.{EndsSession, JudgedItems, ShownItems, TellsItems, and_down}
use Rattle.cli_capture.specs.InnerMidstreamOutput.{FinishesAs, ReplacedAs}
use Rattle.cli_capture.specs.Assumptions.{Before, Terms, before_of, after_front, if_told, items_of, session_items, supposed_items, sure_log, tells_some, whole_log}
use Rattle.cli_capture.proofs.Paging.{same_page}
use Rattle.cli_capture.proofs.Supposing.{items_all}
use Rattle.cli_capture.proofs.Taking.{logs_then, takes_nothing}

-- ---- a log has something where a message is told

pub front_there : (t : Terms) (b : Before) (xs : List Item) → is_there (after_front (supposed_items b t.begun) xs) ≡ tells_some xs
front_there t b xs = by_emitted (tells_some xs)
  where
    by_emitted : (x : Bool) → is_there (if_told x (supposed_items b t.begun) xs) ≡ x
    by_emitted true = refl
    by_emitted false = refl

log_there : (t : Terms) (b : Before) (hs : List TimedEvent) → is_there (session_items t b hs) ≡ tells_some (items_of t b hs)
log_there t b hs = front_there t b (items_of t b hs)

telling_there : (how : Way) (a p : Parameters) (start : Start) (b : Before) (hs : List TimedEvent) (j : Joined) → IsTelling how a p start b hs j
    → is_there (session_items (terms_by how a start) b hs) ≡ j.is_up
telling_there how a p start b hs j output_state =
    let t = terms_by how a start in
    log_there t b hs ∙ ap tells_some (items_all t b hs output_state.0.proceeds) ∙ sym output_state.0.up

-- ---- both logs, where nothing more comes

record ClosedItems (a p : Parameters) (xs : List Item) (ends : BothLogs) : Type 0 where
  notes_a : List Note
  notes_p : List Note
  last : ℕ
  logged_a : HasLogged a notes_a ends.active
  logged_p : HasLogged p notes_p ends.passive
  are_a : AreItems side.Active 0 xs notes_a last
  are_p : AreItems side.Passive 0 xs notes_p last

closed : (a p : Parameters) (xs : List Item) (last : ℕ) (ends : BothLogs) → HaveItems a p xs last ends → ClosedItems a p xs ends
closed a p xs last ends have = record {
  notes_a = have.notes_a;
  notes_p = have.notes_p;
  last = last;
  logged_a = have.logged_a;
  logged_p = have.logged_p;
  are_a = have.are_a;
  are_p = have.are_p;
}

abbrev ClosedBy : Parameters → Parameters → List Item → Option (Box BothLogs Global) → Type 0
ClosedBy a p xs None = xs ≡ []
ClosedBy a p xs (Some box) = ClosedItems a p xs box.value

closed_have : (a p : Parameters) (xs : List Item) (ends : Option (Box BothLogs Global)) → EndsHaveItems a p xs ends → ClosedBy a p xs ends
closed_have a p xs None have = have
closed_have a p xs (Some box) have = closed a p xs box.value.time box.value have

closed_had : (a p : Parameters) (xs : List Item) (ends : Option (Box BothLogs Global)) → EndsHadItems a p xs ends → ClosedBy a p xs ends
closed_had a p xs None had = had
closed_had a p xs (Some box) had = closed a p xs had.0 box.value had.1

-- and it goes down
last_more : (s : Side) (before : ℕ) (xs : List Item) (notes : List Note) (last : ℕ) → AreItems s before xs notes last
    → AreItems s before (xs ++ closes_down ∷ []) (notes ++ note_of remark.Replaced last logs_event.Down ∷ []) last
last_more s before [] notes last are = (
  note_of remark.Replaced last logs_event.Down,
  [],
  ap (λ (ns : List Note). ns ++ note_of remark.Replaced last logs_event.Down ∷ []) are.0,
  ap (λ (n : ℕ). note_of remark.Replaced n logs_event.Down) are.1,
  (refl, are.1),
)
last_more s before (x ∷ xs) notes last are = (
  are.0,
  are.1 ++ note_of remark.Replaced last logs_event.Down ∷ [],
  ap (λ (ns : List Note). ns ++ note_of remark.Replaced last logs_event.Down ∷ []) are.2,
  are.3,
  last_more s (time_behind before x) xs are.1 last are.4,
)

closed_down : (a p : Parameters) (xs : List Item) (old new : Option (Box BothLogs Global)) → is_there xs ≡ true → EndsHaveItems a p xs old → Replaces old new
    → ClosedBy a p (xs ++ closes_down ∷ []) new
closed_down a p xs None new there have replaced = absurd (let bad : false ≡ true = ap is_there (sym have) ∙ there in cc)
closed_down a p xs (Some old) None there have replaced = absurd replaced
closed_down a p xs (Some old) (Some new) there have replaced = record {
  notes_a = have.notes_a ++ note_of remark.Replaced old.value.time logs_event.Down ∷ [];
  notes_p = have.notes_p ++ note_of remark.Replaced old.value.time logs_event.Down ∷ [];
  last = old.value.time;
  logged_a = replaced.0 a have.notes_a have.logged_a;
  logged_p = replaced.1 p have.notes_p have.logged_p;
  are_a = last_more side.Active 0 xs have.notes_a old.value.time have.are_a;
  are_p = last_more side.Passive 0 xs have.notes_p old.value.time have.are_p;
}

-- ---- the lines of both ends

shown_both : (a p : Parameters) (pair : Pair) (xs : List Item) (lack : Option Shortfall) (box : Box BothLogs Global) (old new : Report) → is_there xs ≡ true
    → ClosedItems a p xs box.value → TellsOnce pair lack (Some box.value) old new
    → (one : LogOutputState) × ShownItems a p pair xs lack one × HasEmitted (one ∷ []) old new
shown_both a p pair xs lack box old new there has once = (
  record { pair = pair; shortfall = lack; active = Some once.0; passive = Some once.1 },
  record {
    ends_are = refl;
    lack_is = refl;
    active_is = subst (λ (b : Bool). JudgedItems b a side.Active xs (Some once.0)) (sym there)
        (once.0, has.notes_a, has.last, refl, has.are_a, once.2 a has.notes_a has.logged_a);
    passive_is = subst (λ (b : Bool). JudgedItems b p side.Passive xs (Some once.1)) (sym there)
        (once.1, has.notes_p, has.last, refl, has.are_p, once.3 p has.notes_p has.logged_p);
  },
  once.4,
)

shown_none : (a p : Parameters) (pair : Pair) (xs : List Item) (lack : Option Shortfall) (old new : Report) → is_there xs ≡ false → TellsOnce pair lack None old new
    → (one : LogOutputState) × ShownItems a p pair xs lack one × HasEmitted (one ∷ []) old new
shown_none a p pair xs lack old new none once = (
  record { pair = pair; shortfall = lack; active = None; passive = None },
  record {
    ends_are = refl;
    lack_is = refl;
    active_is = subst (λ (b : Bool). JudgedItems b a side.Active xs None) (sym none) refl;
    passive_is = subst (λ (b : Bool). JudgedItems b p side.Passive xs None) (sym none) refl;
  },
  once,
)

told_items : (a p : Parameters) (pair : Pair) (xs : List Item) (lack : Option Shortfall) (up : Bool) (ends : Option (Box BothLogs Global)) (old new : Report)
    → is_there xs ≡ up → ClosedBy a p xs ends → WhenTold (up || is_some lack) pair lack (ends_if up ends) old new → TellsItems a p pair xs lack old new
told_items a p pair xs lack up ends old new there has when =
    subst (λ (b : Bool). TellsIf (b || is_some lack) (ShownItems a p pair xs lack) old new) (sym there) (by_up up ends lack there has when)
  where
    by_up : (u : Bool) (ends : Option (Box BothLogs Global)) (l : Option Shortfall) → is_there xs ≡ u → ClosedBy a p xs ends
        → WhenTold (u || is_some l) pair l (ends_if u ends) old new → TellsIf (u || is_some l) (ShownItems a p pair xs l) old new
    by_up true None l there has when = absurd (let bad : false ≡ true = ap is_there (sym has) ∙ there in cc)
    by_up true (Some box) l there has when = shown_both a p pair xs l box old new there has when
    by_up false ends None there has when = when
    by_up false ends (Some lack) there has when = shown_none a p pair xs (Some lack) old new there when

-- ---- it is over

ended_session : (how : Way) (a p : Parameters) (pair : Pair) (xs had more : List Item) (lack : Option Shortfall) (up : Bool) (ends : Option (Box BothLogs Global))
    (old mid new : Report) → IsReport how a p old → xs ≡ had ++ more → (old.manner ≡ Verdicts → mid ≡ old)
    → ((j : WrittenLog) → old.manner ≡ Log j → LogsItems pair progress.Proceeds more j old mid) → is_there xs ≡ up → (how ≡ to_verdicts → ClosedBy a p xs ends)
    → (mid.manner ≡ Verdicts → WhenTold (up || is_some lack) pair lack (ends_if up ends) mid new)
    → ((j : WrittenLog) → mid.manner ≡ Log j → (lack ≡ None) × CountsIf up mid new) → EndsSession how a p pair xs had lack old new
ended_session to_verdicts a p pair xs had more lack up ends old mid new report is same logs there has once logged =
    let at : mid ≡ old = same report.manner_is in
    told_items a p pair xs lack up ends old new there (has refl)
    (subst (λ (r : Report). WhenTold (up || is_some lack) pair lack (ends_if up ends) r new) at (once (ap (λ (r : Report). r.manner) at ∙ report.manner_is)))
ended_session (to_log settings side) a p pair xs had more lack up ends old mid new report is same logs there has once logged = λ j log.
    let it = logs j log in
    let end = logged it.next it.manner_is in
    record {
      lacks = end.0;
      more = more;
      log_is = is;
      mid = mid;
      logs = it;
      counts = subst (λ (b : Bool). CountsIf b mid new) (sym there) end.1;
    }

pub takes_same : (pair : Pair) (c : Progress) (xs : List Item) (ends left : Option (Box BothLogs Global)) (old new : Report) → TakesItems pair c xs ends old left new
    → old.manner ≡ Verdicts → new ≡ old
unfolding TakesItems
takes_same pair c xs ends left old new takes verdicts = (takes.0 verdicts).0

pub takes_logs : (pair : Pair) (c : Progress) (xs : List Item) (ends left : Option (Box BothLogs Global)) (old new : Report) → TakesItems pair c xs ends old left new
    → (j : WrittenLog) → old.manner ≡ Log j → LogsItems pair c xs j old new
unfolding TakesItems
takes_logs pair c xs ends left old new takes j log = takes.1 j log

-- what is answered
abbrev pub Once : Pair → Option Shortfall → Joined → Report → Report → Type 0
Once pair lack j mid new = mid.manner ≡ Verdicts → WhenTold (j.is_up || is_some lack) pair lack (ends_if j.is_up j.ends) mid new

abbrev pub CountsAs : Option Shortfall → Joined → Report → Report → Type 0
CountsAs lack j mid new = (k : WrittenLog) → mid.manner ≡ Log k → (lack ≡ None) × CountsIf j.is_up mid new

pub finishes_ok : {E : Type 0} (result : Result (Unit {0}) E) (pair : Pair) (lack : Option Shortfall) (old next : Joined) (before mid after : Report)
    → Settles pair old before progress.Proceeds next mid
    → (old.waiting.items ≡ [] → (progress.Proceeds ≡ progress.Proceeds) × (next ≡ old) × (mid ≡ before))
    → OnOk result (Once pair lack next mid after) → OnOk result (CountsAs lack next mid after) → OnOk result (FinishesAs pair old lack before after)
unfolding Settles
finishes_ok (Ok done) pair lack old next before mid after settles nothing once logged = record {
  ends = λ how a p start hs report consistent.
      let it = settles how a p start hs report consistent in
      let t = terms_by how a start in
      ended_session how a p pair (whole_log t hs) (sure_log t hs) it.1.0 lack next.is_up next.ends before mid after report it.1.1
      (takes_same pair progress.Proceeds it.1.0 old.ends next.ends before mid it.1.2) (takes_logs pair progress.Proceeds it.1.0 old.ends next.ends before mid it.1.2)
      (telling_there how a p start (before_of t.most hs) hs next it.2) (λ e. closed_have a p (whole_log t hs) next.ends (it.2.0.ends e)) once logged;
  over = λ how a p start hs by report over.
      let t = terms_by how a start in
      let same = nothing over.waiting in
      let takes = takes_nothing pair old.ends before in
      let b = before_of t.most hs in
      ended_session how a p pair (whole_log t hs) (whole_log t hs) [] lack old.is_up old.ends before before after report (sym (append-nil (whole_log t hs)))
      (takes_same pair progress.Proceeds [] old.ends old.ends before before takes) (takes_logs pair progress.Proceeds [] old.ends old.ends before before takes)
      (log_there t b hs ∙ sym over.up) (λ e. closed_had a p (whole_log t hs) old.ends (over.ends e))
      (subst (λ (r : Report). Once pair lack old r after) same.2 (subst (λ (j : Joined). Once pair lack j mid after) same.1 once))
      (subst (λ (r : Report). CountsAs lack old r after) same.2 (subst (λ (j : Joined). CountsAs lack j mid after) same.1 logged));
}
finishes_ok (Err fault) pair lack old next before mid after settles nothing once logged = tt

-- what waits never ends it
pub finishes_never : {E : Type 0} (result : Result (Unit {0}) E) (pair : Pair) (lack by : Option Shortfall) (old next : Joined) (before mid after : Report)
    → Settles pair old before (progress.Over by) next mid
    → (old.waiting.items ≡ [] → (progress.Over by ≡ progress.Proceeds) × (next ≡ old) × (mid ≡ before)) → OnOk result (FinishesAs pair old lack before after)
unfolding Settles
finishes_never (Ok done) pair lack by old next before mid after settles nothing = record {
  ends = λ how a p start hs report consistent. absurd (let bad : progress.Over by ≡ progress.Proceeds = (settles how a p start hs report consistent).0 in cc);
  over = λ how a p start hs of report over. absurd (let bad : progress.Over by ≡ progress.Proceeds = (nothing over.waiting).0 in cc);
}
finishes_never (Err fault) pair lack by old next before mid after settles nothing = tt

-- ---- another one replaces it

down_logs : (pair : Pair) (j : WrittenLog) (old new : Report) → GoesDown j old new → LogsItems pair progress.Proceeds (closes_down ∷ []) j old new
down_logs pair j old new down = record {
  next = down.next;
  manner_is = down.manner_is;
  settings_are = down.settings_are;
  side_is = down.side_is;
  on = (
    tt,
    note_of remark.Replaced j.time logs_event.Down,
    refl,
    down.on ∙ same_page (with_down (page_of j old)).begun (with_item j.settings pair (page_of j old) closes_down (note_of remark.Replaced j.time logs_event.Down)).begun
        j.time j.time (with_down (page_of j old)).text
        (with_item j.settings pair (page_of j old) closes_down (note_of remark.Replaced j.time logs_event.Down)).text refl refl
        (ap (λ (xs : List ℕ). xs ++ note_text (note_of remark.Replaced j.time logs_event.Down)) (sym (append-nil old.page.octets))),
  );
  same = down.same;
}

down_there : (xs : List Item) → is_there xs ≡ true → and_down xs ≡ xs ++ closes_down ∷ []
down_there [] e = absurd (let bad : false ≡ true = e in cc)
down_there (x ∷ xs) e = refl

down_none : (xs : List Item) → is_there xs ≡ false → and_down xs ≡ xs
down_none [] e = refl
down_none (x ∷ xs) e = absurd (let bad : true ≡ false = e in cc)

there_down : (xs : List Item) → is_there (and_down xs) ≡ is_there xs
there_down [] = refl
there_down (x ∷ xs) = refl

-- what becomes of its logs
pub record DownAs (old new : Joined) (before after : Report) : Type 0 where
  pub quiet : old.is_up ≡ false → (new ≡ old) × (after ≡ before)
  pub replaced : old.is_up ≡ true → before.manner ≡ Verdicts → (after ≡ before) × Replaces old.ends new.ends
  pub logged : old.is_up ≡ true → (j : WrittenLog) → before.manner ≡ Log j → GoesDown j before after
  pub same : new ≡ record old { ends = new.ends }

pub replaces_ok : {E : Type 0} (result : Result (Unit {0}) E) (pair : Pair) (old next last : Joined) (before mid down after : Report)
    → Settles pair old before progress.Proceeds next mid → DownAs next last mid down → OnOk result (Once pair None last down after)
    → OnOk result (CountsAs None last down after) → OnOk result (ReplacedAs pair old before after)
unfolding Settles ReplacedAs
replaces_ok (Ok done) pair old next last before mid down after settles proceeds once logged = λ how a p start hs report consistent.
    let t = terms_by how a start in
    let it = settles how a p start hs report consistent in
    by_up how a p start hs report it next.is_up refl
  where
    by_up : (how : Way) (a p : Parameters) (start : Start) (hs : List TimedEvent) → IsReport how a p before
        → (progress.Proceeds ≡ progress.Proceeds) × LogsMore pair progress.Proceeds (sure_log (terms_by how a start) hs) (whole_log (terms_by how a start) hs) old before next mid
        × IsTelling how a p start (before_of (most_by how a) hs) hs next
        → (u : Bool) → next.is_up ≡ u
        → EndsSession how a p pair (and_down (whole_log (terms_by how a start) hs)) (sure_log (terms_by how a start) hs) None before after
    by_up how a p start hs report it false up =
        let t = terms_by how a start in
        let xs = whole_log t hs in
        let there = telling_there how a p start (before_of t.most hs) hs next it.2 in
        let same = proceeds.quiet up in
        subst (λ (ys : List Item). EndsSession how a p pair ys (sure_log t hs) None before after) (sym (down_none xs (there ∙ up)))
        (ended_session how a p pair xs (sure_log t hs) it.1.0 None next.is_up next.ends before mid after report it.1.1
        (takes_same pair progress.Proceeds it.1.0 old.ends next.ends before mid it.1.2) (takes_logs pair progress.Proceeds it.1.0 old.ends next.ends before mid it.1.2) there
        (λ e. closed_have a p xs next.ends (it.2.0.ends e))
        (subst (λ (r : Report). Once pair None next r after) same.1 (subst (λ (j : Joined). Once pair None j down after) same.0 once))
        (subst (λ (r : Report). CountsAs None next r after) same.1 (subst (λ (j : Joined). CountsAs None j down after) same.0 logged)))
    by_up how a p start hs report it true up =
        let t = terms_by how a start in
        let xs = whole_log t hs in
        let had = sure_log t hs in
        let there = telling_there how a p start (before_of t.most hs) hs next it.2 in
        let last_up : last.is_up ≡ next.is_up = ap (λ (j : Joined). j.is_up) proceeds.same in
        let all : and_down xs ≡ xs ++ closes_down ∷ [] = down_there xs (there ∙ up) in
        ended_session how a p pair (and_down xs) had (it.1.0 ++ closes_down ∷ []) None last.is_up last.ends before down after report
        (all ∙ ap (λ (ys : List Item). ys ++ closes_down ∷ []) it.1.1 ∙ append_assoc had it.1.0 (closes_down ∷ []))
        (λ verdicts.
        let kept = takes_same pair progress.Proceeds it.1.0 old.ends next.ends before mid it.1.2 verdicts in
        (proceeds.replaced up (ap (λ (r : Report). r.manner) kept ∙ verdicts)).0 ∙ kept)
        (λ j log.
        let one = takes_logs pair progress.Proceeds it.1.0 old.ends next.ends before mid it.1.2 j log in
        logs_then pair it.1.0 (closes_down ∷ []) progress.Proceeds j before mid down one (down_logs pair one.next mid down (proceeds.logged up one.next one.manner_is)))
        (there_down xs ∙ there ∙ sym last_up)
        (λ e.
        let verdicts : before.manner ≡ Verdicts = is_verdicts how e report in
        let kept = takes_same pair progress.Proceeds it.1.0 old.ends next.ends before mid it.1.2 verdicts in
        subst (λ (ys : List Item). ClosedBy a p ys last.ends) (sym all)
        (closed_down a p xs next.ends last.ends (there ∙ up) (it.2.0.ends e) (proceeds.replaced up (ap (λ (r : Report). r.manner) kept ∙ verdicts)).1))
        once logged
      where
        is_verdicts : (w : Way) → w ≡ to_verdicts → IsReport w a p before → before.manner ≡ Verdicts
        is_verdicts w e r = (subst (λ (v : Way). IsReport v a p before) e r).manner_is
replaces_ok (Err fault) pair old next last before mid down after settles proceeds once logged = tt

-- never by what waits
pub replaces_never : {E : Type 0} (result : Result (Unit {0}) E) (pair : Pair) (by : Option Shortfall) (old next : Joined) (before mid after : Report)
    → Settles pair old before (progress.Over by) next mid → OnOk result (ReplacedAs pair old before after)
unfolding Settles ReplacedAs
replaces_never (Ok done) pair by old next before mid after settles = λ how a p start hs report consistent.
    absurd (let bad : progress.Over by ≡ progress.Proceeds = (settles how a p start hs report consistent).0 in cc)
replaces_never (Err fault) pair by old next before mid after settles = tt
