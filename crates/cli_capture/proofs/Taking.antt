-- Items that are logged, one behind another.
use Rattle.std.proofs.Common.{◌≡◌, ◌++◌, ◌∷◌, max, ℕ, List, [], map, Option, Some, None, Box, Global, refl, sym, ap, subst, ◌∙◌, append_assoc}
use Rattle.std.specs.Prelude.{Result, Ok, Err, IfOk, OnOk}
use Rattle.std.proofs.lemmas.List.{append-nil}
use Rattle.hsms_machine.specs.Settings.{Parameters}
use Rattle.capture_tcp.specs.declared.packet.Side.{Side}
use Rattle.capture_tcp.specs.declared.packet.Side.TheVariants as side
use Rattle.capture_tcp.specs.declared.events.TimedEvent.{TimedEvent}
use Rattle.capture_log.specs.AuditedLog.{HasLogged, Note, CurrentState, note_text, remark_text}
use Rattle.capture_log.specs.BothLogs.{Adds, LogsEventAs, reception_of, remark_alone}
use Rattle.capture_log.specs.declared.audited_log.LogComment.{LogComment}
use Rattle.capture_log.specs.declared.both_logs.BothLogs.{BothLogs}
use Rattle.capture_log.specs.declared.both_logs.LogResult.{LogResult}
use Rattle.capture_log.specs.declared.both_logs.LogResult.TheVariants as reception
use Rattle.capture_log.specs.declared.written_log.WrittenLog.{WrittenLog}
use Rattle.capture_log.specs.declared.socket_pair.Pair.{Pair}
use Rattle.capture_log.specs.declared.byte_buffer.Text.{Text}
use Rattle.cli_capture.specs.declared.progress.Progress.{Progress}
use Rattle.cli_capture.specs.declared.progress.Progress.TheVariants as progress
use Rattle.cli_capture.specs.declared.report.OutputMode.TheVariants.{Log, Verdicts}
use Rattle.cli_capture.specs.declared.report.Report.{Report}
use Rattle.cli_capture.specs.Progress.{course_behind}
use Rattle.cli_capture.specs.ConnectionLog.{and_logged}
use Rattle.cli_capture.specs.TrackedConnection.{course_by_events, logged_by}
use Rattle.cli_capture.specs.InnerTrackedConnection.{Begins, HaveHeard}
use Rattle.cli_capture.specs.MidstreamItems.{AreItems, EndsHaveItems, HaveItems, IsNote, Item, ItemsOn, LogsItems, MayBeLogged, begun_at, front_at, emits, time_behind, with_item}
use Rattle.cli_capture.specs.InnerMidstreamItems.{EndsHadItems, EndsItemsBy, HaveMore, TakesItems}
use Rattle.cli_capture.specs.InnerMidstreamLog.{HearsItem}
use Rattle.cli_capture.specs.LogOutput.{Page, page_of}
use Rattle.cli_capture.specs.InnerLogOutput.{HappensOn, LogsThem, with_note}
use Rattle.cli_capture.proofs.Following.{never_none}
use Rattle.cli_capture.proofs.Paging.{goes_goes, on_page_then, same_log, same_page}

-- ---- one more in the logs of both ends

notes_more : (side : Side) (before : ℕ) (xs : List Item) (notes : List Note) (last : ℕ) (x : Item) (note : Note) → AreItems side before xs notes last
    → IsNote last side x note → AreItems side before (xs ++ x ∷ []) (notes ++ note ∷ []) (time_behind last x)
notes_more side before [] notes last x note are is = (
  note,
  [],
  ap (λ (ns : List Note). ns ++ note ∷ []) are.0,
  subst (λ (n : ℕ). IsNote n side x note) are.1 is,
  (refl, ap (λ (n : ℕ). time_behind n x) are.1),
)
notes_more side before (y ∷ xs) notes last x note are is = (
  are.0,
  are.1 ++ note ∷ [],
  ap (λ (ns : List Note). ns ++ note ∷ []) are.2,
  are.3,
  notes_more side (time_behind before y) xs are.1 last x note are.4 is,
)

pub have_item : (a p : Parameters) (xs : List Item) (x : Item) (old new : BothLogs) (one two : Note) → IsNote old.time side.Active x one
    → IsNote old.time side.Passive x two → Adds one old.active new.active → Adds two old.passive new.passive → new.time ≡ time_behind old.time x
    → new.max ≡ old.max → HaveItems a p xs old.time old → HaveItems a p (xs ++ x ∷ []) new.time new
have_item a p xs x old new one two is_one is_two first second at same have = record {
  most = same ∙ have.most;
  notes_a = have.notes_a ++ one ∷ [];
  notes_p = have.notes_p ++ two ∷ [];
  logged_a = first a have.notes_a have.logged_a;
  logged_p = second p have.notes_p have.logged_p;
  are_a = subst (AreItems side.Active 0 (xs ++ x ∷ []) (have.notes_a ++ one ∷ [])) (sym at) (notes_more side.Active 0 xs have.notes_a old.time x one have.are_a is_one);
  are_p = subst (AreItems side.Passive 0 (xs ++ x ∷ []) (have.notes_p ++ two ∷ [])) (sym at) (notes_more side.Passive 0 xs have.notes_p old.time x two have.are_p is_two);
}

none_processed : (a p : Parameters) (last : ℕ) (ends : BothLogs) → HaveHeard a p [] last ends → HaveItems a p [] last ends
none_processed a p last ends h = record {
  most = h.most;
  notes_a = h.notes_a;
  notes_p = h.notes_p;
  logged_a = h.logged_a;
  logged_p = h.logged_p;
  are_a = h.are_a;
  are_p = h.are_p;
}

-- where they have begun
pub begun_items : (a p : Parameters) (xs : List Item) (old mid : Option (Box BothLogs Global)) (box : Box BothLogs Global) → Begins a p old mid → mid ≡ Some box
    → EndsHaveItems a p xs old → HaveItems a p xs box.value.time box.value
begun_items a p xs None mid box begins is have =
    let same : begins.0 ≡ box = cc in
    subst (λ (ys : List Item). HaveItems a p ys box.value.time box.value) (sym have)
    (subst (λ (b : Box BothLogs Global). HaveItems a p [] b.value.time b.value) same (none_processed a p begins.0.value.time begins.0.value begins.2))
begun_items a p xs (Some old) mid box begins is have =
    let same : old ≡ box = cc in
    subst (λ (b : Box BothLogs Global). HaveItems a p xs b.value.time b.value) same have

-- one that is added to both
pub more_ok : {T E : Type 0} (result : Result T E) (a p : Parameters) (x : Item) (old mid left : Option (Box BothLogs Global)) (box new : Box BothLogs Global) (at : BothLogs)
    (one two : Note) → Begins a p old mid → mid ≡ Some box → left ≡ Some new → at ≡ box.value → IsNote at.time side.Active x one
    → IsNote at.time side.Passive x two → OnOk result (Adds one at.active new.value.active) → OnOk result (Adds two at.passive new.value.passive)
    → OnOk result (new.value.time ≡ time_behind at.time x) → OnOk result (new.value.max ≡ at.max)
    → OnOk result (HaveMore a p progress.Proceeds (x ∷ []) old left)
more_ok (Ok done) a p x old mid left box new at one two begins is left_is at_is is_one is_two first second time same = λ before have.
    subst (λ (e : Option (Box BothLogs Global)). EndsHaveItems a p (before ++ x ∷ []) e) (sym left_is)
    (have_item a p before x at new.value one two is_one is_two first second time same
    (subst (λ (e : BothLogs). HaveItems a p before e.time e) (sym at_is) (begun_items a p before old mid box begins is have)))
more_ok (Err fault) a p x old mid left box new at one two begins is left_is at_is is_one is_two first second time same = tt

-- at the time of the entry before
pub kept_time : {T E : Type 0} (result : Result T E) (new old also : ℕ) (P : Type 0) → OnOk result ((new ≡ old) × P) → also ≡ old → OnOk result (new ≡ also)
kept_time (Ok done) new old also P same is = same.0 ∙ sym is
kept_time (Err fault) new old also P same is = tt

-- ---- in verdicts, and on the page

pub takes_in_verdicts : {T E : Type 0} (result : Result T E) (pair : Pair) (x : Item) (ends left : Option (Box BothLogs Global)) (old new : Report) → new ≡ old
    → old.manner ≡ Verdicts → (old.manner ≡ Verdicts → OnOk result (HaveMore old.active old.passive progress.Proceeds (x ∷ []) ends left))
    → OnOk result (TakesItems pair progress.Proceeds (x ∷ []) ends old left new)
unfolding TakesItems
takes_in_verdicts (Ok done) pair x ends left old new same of more =
    (λ verdicts. (same, more verdicts), λ j log. absurd (let no : Verdicts ≡ Log j = sym of ∙ log in cc))
takes_in_verdicts (Err fault) pair x ends left old new same of more = tt

-- the logs have begun
pub never_takes : {T E : Type 0} (result : Result T E) (pair : Pair) (x : Item) (ends mid left : Option (Box BothLogs Global)) (old new : Report)
    → (old.manner ≡ Verdicts → Begins old.active old.passive ends mid) → mid ≡ None → old.manner ≡ Verdicts
    → OnOk result (TakesItems pair progress.Proceeds (x ∷ []) ends old left new)
never_takes (Ok done) pair x ends mid left old new begins is of = never_none old.active old.passive ends mid (begins of) is
never_takes (Err fault) pair x ends mid left old new begins is of = tt

pub takes_in_log : {T E : Type 0} (result : Result T E) (pair : Pair) (x : Item) (note : Note) (ends left : Option (Box BothLogs Global)) (j next : WrittenLog) (text : Text)
    (old new : Report) → old.manner ≡ Log j → new ≡ record old { manner = Log next; page = text } → OnOk result (MayBeLogged j.begun j.time pair x)
    → IsNote j.time j.side x note → OnOk result (text.octets ≡ (old.page.octets ++ front_at j.begun j.settings x) ++ note_text note)
    → OnOk result (next.begun ≡ begun_at j.begun pair x) → OnOk result (next.time ≡ time_behind j.time x) → (next.settings ≡ j.settings) × (next.side ≡ j.side)
    → OnOk result (TakesItems pair progress.Proceeds (x ∷ []) ends old left new)
unfolding TakesItems
takes_in_log (Ok done) pair x note ends left j next text old new of is may is_note emitted begun time same = (
  λ verdicts. absurd (let no : Verdicts ≡ Log j = sym verdicts ∙ of in cc),
  λ k log.
      let page_is : new.page ≡ text = ap (λ (r : Report). r.page) is in
      let at : page_of next new ≡ with_item j.settings pair (page_of j old) x note =
      same_page next.begun (begun_at j.begun pair x) next.time (time_behind j.time x) new.page.octets
      ((old.page.octets ++ front_at j.begun j.settings x) ++ note_text note) begun time (ap (λ (t : Text). t.octets) page_is ∙ emitted) in
      subst (λ (i : WrittenLog). LogsItems pair progress.Proceeds (x ∷ []) i old new) (same_log old j k of log)
      (record {
        next = next;
        manner_is = ap (λ (r : Report). r.manner) is;
        settings_are = same.0;
        side_is = same.1;
        on = (may, note, is_note, at);
        same = subst (λ (r : Report). r ≡ record old { manner = r.manner; page = r.page }) (sym is) refl;
      }),
)
takes_in_log (Err fault) pair x note ends left j next text old new of is may is_note emitted begun time same = tt

-- what has no front of a log before it
pub subsequent_none : {T E : Type 0} (result : Result T E) (text old added : List ℕ) → OnOk result (text ≡ old ++ added) → OnOk result (text ≡ (old ++ []) ++ added)
subsequent_none (Ok done) text old added is = is ∙ ap (λ (xs : List ℕ). xs ++ added) (sym (append-nil old))
subsequent_none (Err fault) text old added is = tt

pub comment_alone : {T E : Type 0} (result : Result T E) (text old : List ℕ) (remark : LogComment) → OnOk result (text ≡ old ++ remark_text remark)
    → OnOk result (text ≡ (old ++ []) ++ note_text (remark_alone remark))
comment_alone (Ok done) text old remark is =
    is ∙ ap (λ (xs : List ℕ). xs ++ remark_text remark) (sym (append-nil old)) ∙ ap (λ (xs : List ℕ). (old ++ []) ++ xs) (sym (append-nil (remark_text remark)))
comment_alone (Err fault) text old remark is = tt

-- ---- none, and some behind others

pub takes_nothing : (pair : Pair) (ends : Option (Box BothLogs Global)) (r : Report) → TakesItems pair progress.Proceeds [] ends r ends r
unfolding TakesItems
takes_nothing pair ends r = (
  λ verdicts. (refl, λ before have. subst (λ (xs : List Item). EndsHaveItems r.active r.passive xs ends) (sym (append-nil before)) have),
  λ j log. record { next = j; manner_is = log; settings_are = refl; side_is = refl; on = refl; same = refl },
)

items_append : (settings : Parameters) (side : Side) (pair : Pair) (xs ys : List Item) (old mid new : Page) → ItemsOn settings side pair xs old mid
    → ItemsOn settings side pair ys mid new → ItemsOn settings side pair (xs ++ ys) old new
items_append settings side pair [] ys old mid new first second = subst (λ (p : Page). ItemsOn settings side pair ys p new) first second
items_append settings side pair (x ∷ xs) ys old mid new first second =
    (first.0, first.1, first.2, items_append settings side pair xs ys (with_item settings pair old x first.1) mid new first.3 second)

pub logs_then : (pair : Pair) (xs ys : List Item) (c : Progress) (j : WrittenLog) (old mid new : Report) → (one : LogsItems pair progress.Proceeds xs j old mid)
    → LogsItems pair c ys one.next mid new → LogsItems pair c (xs ++ ys) j old new
logs_then pair xs ys c j old mid new one two = record {
  next = two.next;
  manner_is = two.manner_is;
  settings_are = two.settings_are ∙ one.settings_are;
  side_is = two.side_is ∙ one.side_is;
  on = on_page_then c (ItemsOn one.next.settings one.next.side pair ys) (ItemsOn j.settings j.side pair (xs ++ ys)) (page_of j old) (page_of one.next mid)
      (page_of two.next new)
      (λ m second. items_append j.settings j.side pair xs ys (page_of j old) (page_of one.next mid) m one.on
      (subst (λ (d : Side). ItemsOn j.settings d pair ys (page_of one.next mid) m) one.side_is
      (subst (λ (s : Parameters). ItemsOn s one.next.side pair ys (page_of one.next mid) m) one.settings_are second))) two.on;
  same = two.same ∙ ap (λ (r : Report). record r { manner = new.manner; page = new.page }) one.same;
}

pub takes_then : (pair : Pair) (c : Progress) (xs ys : List Item) (ends mid left : Option (Box BothLogs Global)) (old between new : Report)
    → TakesItems pair progress.Proceeds xs ends old mid between → TakesItems pair c ys mid between left new → TakesItems pair c (xs ++ ys) ends old left new
unfolding TakesItems
takes_then pair c xs ys ends mid left old between new first second = (
  λ verdicts.
      let one = first.0 verdicts in
      let two = second.0 (ap (λ (r : Report). r.manner) one.0 ∙ verdicts) in (
        two.0 ∙ one.0,
        λ before have.
            subst (λ (zs : List Item). EndsItemsBy c old.active old.passive zs left) (append_assoc before xs ys)
            (subst (λ (r : Report). EndsItemsBy c r.active r.passive ((before ++ xs) ++ ys) left) one.0
            (two.1 (before ++ xs) (subst (λ (r : Report). EndsHaveItems r.active r.passive (before ++ xs) mid) (sym one.0) (one.1 before have)))),
      ),
  λ j log.
      let one = first.1 j log in
      logs_then pair xs ys c j old between new one (second.1 one.next one.manner_is),
)

pub takes_one_then : {T E : Type 0} (result : Result T E) (pair : Pair) (xs ys : List Item) (ends mid left : Option (Box BothLogs Global)) (old between new : Report)
    → TakesItems pair progress.Proceeds xs ends old mid between → OnOk result (TakesItems pair progress.Proceeds ys mid between left new)
    → OnOk result (TakesItems pair progress.Proceeds (xs ++ ys) ends old left new)
takes_one_then (Ok done) pair xs ys ends mid left old between new first second = takes_then pair progress.Proceeds xs ys ends mid left old between new first second
takes_one_then (Err fault) pair xs ys ends mid left old between new first second = tt

-- ---- what happens

happens_items : (settings : Parameters) (side : Side) (pair : Pair) (hs : List TimedEvent) (old new : Page) → HappensOn settings side pair hs old new
    → ItemsOn settings side pair (map emits hs) old new
happens_items settings side pair [] old new on = on
happens_items settings side pair (h ∷ hs) old new on =
    (on.0, on.1, on.2, happens_items settings side pair hs (with_note settings pair old h on.1) new on.3)

logs_items : (pair : Pair) (h : TimedEvent) (c : Progress) (j : WrittenLog) (old new : Report) → LogsThem pair (h ∷ []) c j old new
    → (c ≡ course_by_events j.settings.max (h ∷ [])) × LogsItems pair c (map emits (logged_by j.settings.max (h ∷ []))) j old new
logs_items pair h c j old new logs = (
  logs.course_is,
  record {
    next = logs.next;
    manner_is = logs.manner_is;
    settings_are = logs.settings_are;
    side_is = logs.side_is;
    on = on_page_then c (HappensOn j.settings j.side pair (logged_by j.settings.max (h ∷ [])))
        (ItemsOn j.settings j.side pair (map emits (logged_by j.settings.max (h ∷ [])))) (page_of j old) (page_of j old) (page_of logs.next new)
        (λ m. happens_items j.settings j.side pair (logged_by j.settings.max (h ∷ [])) (page_of j old) m) logs.on;
    same = logs.same;
  },
)

hears_by : (answer : LogResult) (a p : Parameters) (before : List Item) (h : TimedEvent) (old : BothLogs) (box : Box BothLogs Global)
    → LogsEventAs old.max old.time side.Active h answer old.active box.value.active → LogsEventAs old.max old.time side.Passive h answer old.passive box.value.passive
    → box.value.time ≡ max old.time h.time → box.value.max ≡ old.max → HaveItems a p before old.time old
    → EndsItemsBy (course_behind answer h.packet) a p (before ++ map emits (and_logged answer h [])) (Some box)
hears_by reception.Proceeds a p before h old box first second at same have =
    have_item a p before (emits h) old box.value first.0 second.0 first.1 second.1 first.2 second.2 at same have
hears_by reception.Down a p before h old box first second at same have =
    (box.value.time, have_item a p before (emits h) old box.value first.1.0 second.1.0 first.1.1 second.1.1 first.1.2 second.1.2 at same have)
hears_by reception.Length a p before h old box first second at same have =
    subst (λ (xs : List Item). EndsHadItems a p xs (Some box)) (sym (append-nil before)) (
      old.time,
      record {
        most = same ∙ have.most;
        notes_a = have.notes_a;
        notes_p = have.notes_p;
        logged_a = subst (λ (s : CurrentState). HasLogged a have.notes_a s) (sym first.1) have.logged_a;
        logged_p = subst (λ (s : CurrentState). HasLogged p have.notes_p s) (sym second.1) have.logged_p;
        are_a = have.are_a;
        are_p = have.are_p;
      },
    )

hears_on : (answer : LogResult) (a p : Parameters) (before : List Item) (h : TimedEvent) (ends mid : Option (Box BothLogs Global)) (box new : Box BothLogs Global) (at : BothLogs)
    → Begins a p ends mid → mid ≡ Some box → at ≡ box.value → LogsEventAs at.max at.time side.Active h answer at.active new.value.active
    → LogsEventAs at.max at.time side.Passive h answer at.passive new.value.passive → answer ≡ reception_of at.max h.event
    → new.value.time ≡ max at.time h.time → new.value.max ≡ at.max → EndsHaveItems a p before ends
    → (course_behind answer h.packet ≡ course_by_events a.max (h ∷ []))
    × EndsItemsBy (course_behind answer h.packet) a p (before ++ map emits (logged_by a.max (h ∷ []))) (Some new)
hears_on answer a p before h ends mid box new at begins is at_is first second answers time same have =
    let had : HaveItems a p before at.time at =
    subst (λ (e : BothLogs). HaveItems a p before e.time e) (sym at_is) (begun_items a p before ends mid box begins is have) in
    let heard_it : answer ≡ reception_of a.max h.event = answers ∙ ap (λ (m : ℕ). reception_of m h.event) had.most in (
      ap (λ (x : LogResult). course_behind x h.packet) heard_it ∙ goes_goes (course_behind (reception_of a.max h.event) h.packet),
      subst (λ (x : LogResult). EndsItemsBy (course_behind answer h.packet) a p (before ++ map emits (and_logged x h [])) (Some new)) heard_it
          (hears_by answer a p before h at new first second time same had),
    )

pub hears_verdicts : {E : Type 0} (result : Result LogResult E) (pair : Pair) (h : TimedEvent) (ends mid left : Option (Box BothLogs Global)) (box new : Box BothLogs Global) (at : BothLogs)
    (r : Report) → r.manner ≡ Verdicts → (r.manner ≡ Verdicts → Begins r.active r.passive ends mid) → mid ≡ Some box → left ≡ Some new → at ≡ box.value
    → IfOk result (λ answer. LogsEventAs at.max at.time side.Active h answer at.active new.value.active)
    → IfOk result (λ answer. LogsEventAs at.max at.time side.Passive h answer at.passive new.value.passive)
    → IfOk result (λ answer. answer ≡ reception_of at.max h.event) → OnOk result (new.value.time ≡ max at.time h.time) → OnOk result (new.value.max ≡ at.max)
    → (after : Report) → after ≡ r → IfOk result (λ answer. HearsItem pair h (course_behind answer h.packet) ends r left after)
unfolding HearsItem
hears_verdicts (Ok answer) pair h ends mid left box new at r of begins is left_is at_is first second answers time same after kept = (
  λ verdicts. (
    kept,
    λ before have.
        let it = hears_on answer r.active r.passive before h ends mid box new at (begins verdicts) is at_is first second answers time same have in (
          it.0,
          subst (λ (e : Option (Box BothLogs Global)). EndsItemsBy (course_behind answer h.packet) r.active r.passive (before ++ map emits (logged_by r.active.max (h ∷ []))) e)
              (sym left_is) it.1,
        ),
  ),
  λ j log. absurd (let no : Verdicts ≡ Log j = sym of ∙ log in cc),
)
hears_verdicts (Err fault) pair h ends mid left box new at r of begins is left_is at_is first second answers time same after kept = tt

pub hears_in_log : {E : Type 0} (result : Result LogResult E) (pair : Pair) (h : TimedEvent) (ends left : Option (Box BothLogs Global)) (j : WrittenLog) (old new : Report)
    → old.manner ≡ Log j → IfOk result (λ answer. (k : WrittenLog) → old.manner ≡ Log k → LogsThem pair (h ∷ []) (course_behind answer h.packet) k old new)
    → IfOk result (λ answer. HearsItem pair h (course_behind answer h.packet) ends old left new)
unfolding HearsItem
hears_in_log (Ok answer) pair h ends left j old new of logs = (
  λ verdicts. absurd (let no : Verdicts ≡ Log j = sym verdicts ∙ of in cc),
  λ k log. logs_items pair h (course_behind answer h.packet) k old new (logs k log),
)
hears_in_log (Err fault) pair h ends left j old new of logs = tt

pub hears_never : {E : Type 0} (result : Result LogResult E) (pair : Pair) (h : TimedEvent) (ends mid left : Option (Box BothLogs Global)) (old new : Report)
    → (old.manner ≡ Verdicts → Begins old.active old.passive ends mid) → mid ≡ None → old.manner ≡ Verdicts
    → IfOk result (λ answer. HearsItem pair h (course_behind answer h.packet) ends old left new)
hears_never (Ok answer) pair h ends mid left old new begins is of = never_none old.active old.passive ends mid (begins of) is
hears_never (Err fault) pair h ends mid left old new begins is of = tt

-- ---- parts of what is answered

pub ok_of : {T E : Type 0} {P : Type 0} (result : Result T E) → P → OnOk result P
ok_of (Ok done) holds = holds
ok_of (Err fault) holds = tt

pub ok_first : {T E : Type 0} (P Q : Type 0) (result : Result T E) → OnOk result (P × Q) → OnOk result P
ok_first P Q (Ok done) both = both.0
ok_first P Q (Err fault) both = tt

pub ok_second : {T E : Type 0} (P Q : Type 0) (result : Result T E) → OnOk result (P × Q) → OnOk result Q
ok_second P Q (Ok done) both = both.1
ok_second P Q (Err fault) both = tt
