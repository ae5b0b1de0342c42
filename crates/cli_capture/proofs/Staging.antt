-- The log of one end gets what is told of a connection by the number of its SYN.
use Rattle.std.proofs.Common.{◌≡◌, ◌++◌, ◌∷◌, ℕ, true, false, List, [], map, Option, Some, None, Vec, Global, refl, sym, ap, subst, ◌∙◌, append_assoc}
use Rattle.std.specs.Prelude.{Result, Ok, Err, IfOk}
use Rattle.std.proofs.lemmas.List.{append-nil, map-append}
use Rattle.hsms_machine.specs.Settings.{Parameters}
use Rattle.capture_tcp.specs.declared.connection.Connection.{Connection}
use Rattle.capture_tcp.specs.declared.packet.Segment.{Segment}
use Rattle.capture_tcp.specs.declared.packet.Side.{Side}
use Rattle.capture_tcp.specs.KnownStreams.{bases, seen_of}
use Rattle.capture_tcp.specs.TcpStreams.{End, Seen}
use Rattle.capture_tcp.specs.Laws.{AreNumbered}
use Rattle.capture_tcp.specs.ReaderInvariant.{StateInvariant}
use Rattle.capture_tcp.specs.Timestamps.{IsInTime}
use Rattle.capture_tcp.proofs.LastingFacts.{numbered_front}
use Rattle.capture_log.specs.declared.written_log.WrittenLog.{WrittenLog}
use Rattle.capture_log.specs.declared.socket_pair.Pair.{Pair}
use Rattle.cli_capture.specs.declared.tracked_connection.Logs.{Logs}
use Rattle.cli_capture.specs.declared.tracked_connection.Open.{Open}
use Rattle.cli_capture.specs.declared.tracked_connection.ConnectionState.{ConnectionState}
use Rattle.cli_capture.specs.declared.tracked_connection.ConnectionState.TheVariants as stage
use Rattle.cli_capture.specs.declared.tracked_connection.Waiting.{Waiting}
use Rattle.cli_capture.specs.declared.report.OutputMode.TheVariants.{Log}
use Rattle.cli_capture.specs.declared.report.Report.{Report}
use Rattle.cli_capture.specs.InnerTrackedConnection.{seen_waiting}
use Rattle.cli_capture.specs.LogOutput.{IsOpenIn, LeavesOpen, LogsTo, OverOnPage, Page, SegmentsOn, TellsWith, ThemOn, page_of}
use Rattle.cli_capture.specs.InnerLogOutput.{BeginsOnPage, FollowsAllOnPage, FollowsOnPage, LogsOn, StageOnPage, TakesOnPage, WaitsOnPage}
use Rattle.cli_capture.specs.ConnectionState.{answered_by}
use Rattle.cli_capture.specs.InnerConnectionState.{if_answered, stage_by}
use Rattle.cli_capture.proofs.Connections.{numbered_next}
use Rattle.cli_capture.proofs.Stages.{answered_kept, answered_now, is_answered, isnt_answered}

-- ---- segments behind others

segments_append : (settings : Parameters) (side : Side) (pair : Pair) (base : End → ℕ) (before xs ys : List Seen) (old mid new : Page)
    → SegmentsOn settings side pair base before xs old mid → SegmentsOn settings side pair base (before ++ xs) ys mid new
    → SegmentsOn settings side pair base before (xs ++ ys) old new
segments_append settings side pair base before [] ys old mid new first second =
    subst (λ (p : Page). SegmentsOn settings side pair base before ys p new) first
    (subst (λ (zs : List Seen). SegmentsOn settings side pair base zs ys mid new) (append-nil before) second)
segments_append settings side pair base before (x ∷ xs) ys old mid new first second = (
  first.0,
  first.1,
  first.2,
  first.3,
  segments_append settings side pair base (before ++ x ∷ []) xs ys first.1 mid new first.4
      (subst (λ (zs : List Seen). SegmentsOn settings side pair base zs ys mid new) (sym (append_assoc before (x ∷ []) xs)) second),
)

to_then : (Proceeds More Both : Page → Page → Type 0) (j : WrittenLog) (old mid new : Report) → ((p q r : Page) → Proceeds p q → More q r → Both p r) → (one : LogsTo Proceeds j old mid)
    → LogsTo More one.next mid new → LogsTo Both j old new
to_then Proceeds More Both j old mid new f one two = record {
  next = two.next;
  manner_is = two.manner_is;
  settings_are = two.settings_are ∙ one.settings_are;
  side_is = two.side_is ∙ one.side_is;
  on = f (page_of j old) (page_of one.next mid) (page_of two.next new) one.on two.on;
  same = two.same ∙ ap (λ (r : Report). record r { manner = new.manner; page = new.page }) one.same;
}

pub to_nothing : (j : WrittenLog) (old : Report) → old.manner ≡ Log j → LogsTo (λ (p q : Page). q ≡ p) j old old
to_nothing j old log = record { next = j; manner_is = log; settings_are = refl; side_is = refl; on = refl; same = refl }

-- one segment alone
one_on : (j : WrittenLog) (pair : Pair) (base : End → ℕ) (before : List Seen) (s : Seen) (left : Option Open) (old new : Report) → LogsOn j pair base before s left old new
    → (mid : Report) × LogsTo (SegmentsOn j.settings j.side pair base before (s ∷ [])) j old mid × LeavesOpen j.settings.max base (before ++ s ∷ []) left mid new
one_on j pair base before s left old new on = (
  on.mid,
  record {
    next = on.next;
    manner_is = on.manner_is;
    settings_are = on.settings_are;
    side_is = on.side_is;
    on = (on.more, page_of on.next on.mid, on.tells_are, on.on, refl);
    same = on.same;
  },
  on.leaves,
)

-- behind others
next_on : (j : WrittenLog) (pair : Pair) (base : End → ℕ) (before ss : List Seen) (s : Seen) (old mid new : Report)
    → (one : LogsTo (SegmentsOn j.settings j.side pair base before ss) j old mid)
    → LogsTo (SegmentsOn one.next.settings one.next.side pair base (before ++ ss) (s ∷ [])) one.next mid new
    → LogsTo (SegmentsOn j.settings j.side pair base before (ss ++ s ∷ [])) j old new
next_on j pair base before ss s old mid new one two =
    to_then (SegmentsOn j.settings j.side pair base before ss) (SegmentsOn one.next.settings one.next.side pair base (before ++ ss) (s ∷ []))
    (SegmentsOn j.settings j.side pair base before (ss ++ s ∷ [])) j old mid new
    (λ p q r first second. segments_append j.settings j.side pair base before ss (s ∷ []) p q r first
    (subst (λ (d : Side). SegmentsOn j.settings d pair base (before ++ ss) (s ∷ []) q r) one.side_is
    (subst (λ (x : Parameters). SegmentsOn x one.next.side pair base (before ++ ss) (s ∷ []) q r) one.settings_are second))) one two

them_none : (j : WrittenLog) (pair : Pair) (base : End → ℕ) (before : List Seen) (o : Open) (old : Report) → old.manner ≡ Log j → IsOpenIn j.settings.max base before o
    → ThemOn j pair base before [] (Some o) old old
them_none j pair base before o old log f =
    (to_nothing j old log, subst (λ (z : List Seen). IsOpenIn j.settings.max base z o) (sym (append-nil before)) f)

leaves_more : (j next : WrittenLog) (base : End → ℕ) (before ss : List Seen) (s : Seen) (left : Option Open) (mid new : Report) → next.settings ≡ j.settings
    → LeavesOpen next.settings.max base ((before ++ ss) ++ s ∷ []) left mid new → LeavesOpen j.settings.max base (before ++ (ss ++ s ∷ [])) left mid new
leaves_more j next base before ss s left mid new same leaves =
    subst (λ (z : List Seen). LeavesOpen j.settings.max base z left mid new) (append_assoc before ss (s ∷ []))
    (subst (λ (x : Parameters). LeavesOpen x.max base ((before ++ ss) ++ s ∷ []) left mid new) same leaves)

them_more : (left : Option Open) (j : WrittenLog) (pair : Pair) (base : End → ℕ) (before ss : List Seen) (s : Seen) (o : Open) (old mid new : Report)
    → (them : ThemOn j pair base before ss (Some o) old mid) → LogsOn them.0.next pair base (before ++ ss) s left mid new
    → ThemOn j pair base before (ss ++ s ∷ []) left old new
them_more None j pair base before ss s o old mid new them on =
    let next = them.0.next in
    let one = one_on next pair base (before ++ ss) s None mid new on in (
      ss,
      s,
      [],
      refl,
      one.0,
      next_on j pair base before ss s old mid one.0 them.0 one.1,
      leaves_more j next base before ss s None one.0 new them.0.settings_are one.2,
    )
them_more (Some further) j pair base before ss s o old mid new them on =
    let next = them.0.next in
    let one = one_on next pair base (before ++ ss) s (Some further) mid new on in
    let leaves = leaves_more j next base before ss s (Some further) one.0 new them.0.settings_are one.2 in (
      subst (λ (r : Report). LogsTo (SegmentsOn j.settings j.side pair base before (ss ++ s ∷ [])) j old r) (sym leaves.0)
          (next_on j pair base before ss s old mid one.0 them.0 one.1),
      leaves.1,
    )

them_over : (j : WrittenLog) (pair : Pair) (base : End → ℕ) (before ss : List Seen) (s : Seen) (old new : Report) → ThemOn j pair base before ss None old new
    → ThemOn j pair base before (ss ++ s ∷ []) None old new
them_over j pair base before ss s old new them =
    (them.0, them.1, them.2 ++ s ∷ [], ap (λ (z : List Seen). z ++ s ∷ []) them.3 ∙ append_assoc them.0 (them.1 ∷ them.2) (s ∷ []), them.4, them.5, them.6)

-- one more by what is said of it alone
goes_then : (left : Option Open) (j : WrittenLog) (pair : Pair) (base : End → ℕ) (before ss : List Seen) (s : Seen) (o : Open) (old mid new : Report)
    → AreNumbered 0 ((before ++ ss) ++ s ∷ []) → ThemOn j pair base before ss (Some o) old mid → FollowsOnPage pair s o left mid new
    → ThemOn j pair base before (ss ++ s ∷ []) left old new
goes_then left j pair base before ss s o old mid new numbered them proceeds =
    them_more left j pair base before ss s o old mid new them
    (proceeds them.0.next them.0.manner_is base (before ++ ss) numbered
    (subst (λ (x : Parameters). IsOpenIn x.max base (before ++ ss) o) (sym them.0.settings_are) them.1))

-- ---- packet by packet

-- so far
abbrev pub SoFarOnPage : Pair → List Waiting → Open → Report → List Waiting → Option Open → Report → Type 0
SoFarOnPage pair all first old yielded left new =
    (j : WrittenLog) → old.manner ≡ Log j → (base : End → ℕ) (before : List Seen) → AreNumbered 0 (before ++ map seen_waiting all)
    → IsOpenIn j.settings.max base before first → ThemOn j pair base before (map seen_waiting yielded) left old new

pub page_nothing : (pair : Pair) (all : List Waiting) (first : Open) (old : Report) → SoFarOnPage pair all first old [] (Some first) old
page_nothing pair all first old = λ j log base before numbered f. them_none j pair base before first old log f

pub page_open : (pair : Pair) (all : List Waiting) (first o : Open) (old mid new : Report) (yielded rest : List Waiting) (x : Waiting) (kept left : Option Open)
    → all ≡ yielded ++ x ∷ rest → SoFarOnPage pair all first old yielded kept mid → kept ≡ Some o → FollowsOnPage pair (seen_waiting x) o left mid new
    → SoFarOnPage pair all first old (yielded ++ x ∷ []) left new
page_open pair all first o old mid new yielded rest x kept left whole so_far is proceeds = λ j log base before numbered f.
    let ss = map seen_waiting yielded in
    let them : ThemOn j pair base before ss (Some o) old mid =
    subst (λ (l : Option Open). ThemOn j pair base before ss l old mid) is (so_far j log base before numbered f) in
    subst (λ (zs : List Seen). ThemOn j pair base before zs left old new) (sym (map-append seen_waiting yielded (x ∷ [])))
    (goes_then left j pair base before ss (seen_waiting x) o old mid new (numbered_next before all yielded rest x numbered whole) them proceeds)

pub page_over : (pair : Pair) (all : List Waiting) (first : Open) (old new : Report) (yielded : List Waiting) (x : Waiting) (kept : Option Open)
    → SoFarOnPage pair all first old yielded kept new → kept ≡ None → SoFarOnPage pair all first old (yielded ++ x ∷ []) None new
page_over pair all first old new yielded x kept so_far is = λ j log base before numbered f.
    let ss = map seen_waiting yielded in
    subst (λ (zs : List Seen). ThemOn j pair base before zs None old new) (sym (map-append seen_waiting yielded (x ∷ [])))
    (them_over j pair base before ss (seen_waiting x) old new
    (subst (λ (l : Option Open). ThemOn j pair base before ss l old new) is (so_far j log base before numbered f)))

-- ---- it begins

pub page_begun : (most x y : ℕ) (c : Connection) (logs : Logs) → c.ending ≡ None → StateInvariant c [] (bases x y) [] → IsInTime c [] (bases x y) [] → logs.is_up ≡ false
    → logs.bare_resets.items ≡ [] → IsOpenIn most (bases x y) [] (record { connection = c; logs = logs })
page_begun most x y c logs open_still consistent timed down bare = record {
  emitted = [];
  unended = open_still;
  consistent = consistent;
  timed = timed;
  proceeds = refl;
  up = down;
  bare = bare;
  fit = tt;
}

pub page_begins : {E : Type 0} (result : Result (Option Open) E) (pair : Pair) (x y : ℕ) (ss : List Seen) (s : Seen) (first o : Open) (kept : Option Open) (old mid new : Report)
    → ((most : ℕ) → IsOpenIn most (bases x y) [] first) → FollowsAllOnPage pair ss first kept old mid → kept ≡ Some o
    → IfOk result (λ left. FollowsOnPage pair s o left mid new) → IfOk result (λ left. BeginsOnPage pair x y (ss ++ s ∷ []) left old new)
page_begins (Ok left) pair x y ss s first o kept old mid new begins all is proceeds = λ j log numbered.
    let them : ThemOn j pair (bases x y) [] ss (Some o) old mid =
    subst (λ (l : Option Open). ThemOn j pair (bases x y) [] ss l old mid) is
    (all j log (bases x y) [] (numbered_front 0 ss (s ∷ []) numbered) (begins j.settings.max)) in
    goes_then left j pair (bases x y) [] ss s o old mid new numbered them proceeds
page_begins (Err stop) pair x y ss s first o kept old mid new begins all is proceeds = tt

pub page_begins_none : (pair : Pair) (x y : ℕ) (ss : List Seen) (s : Seen) (first : Open) (kept : Option Open) (old new : Report)
    → ((most : ℕ) → IsOpenIn most (bases x y) [] first) → FollowsAllOnPage pair ss first kept old new → kept ≡ None
    → BeginsOnPage pair x y (ss ++ s ∷ []) None old new
page_begins_none pair x y ss s first kept old new begins all is = λ j log numbered.
    them_over j pair (bases x y) [] ss s old new
    (subst (λ (l : Option Open). ThemOn j pair (bases x y) [] ss l old new) is
    (all j log (bases x y) [] (numbered_front 0 ss (s ∷ []) numbered) (begins j.settings.max)))

-- ---- one segment more

pub take_open_page : (pair : Pair) (begins : Option ℕ) (s : Seen) (o : Open) (left : Option Open) (old new : Report) → FollowsOnPage pair s o left old new
    → TakesOnPage pair begins s (stage.Open o) (stage_by left) old new
take_open_page pair begins s o None old new proceeds j log number is seen numbered st =
    let base = bases number st.0 in
    let one = one_on j pair base seen s None old new (proceeds j log base seen numbered st.2) in
    subst (λ (m : Option ℕ). OverOnPage m (answered_by number (seen ++ s ∷ [])) j pair number seen s old new) (sym st.1)
    ([], s, [], refl, one.0, one.1, one.2)
take_open_page pair begins s o (Some next) old new proceeds j log number is seen numbered st =
    let base = bases number st.0 in
    let one = one_on j pair base seen s (Some next) old new (proceeds j log base seen numbered st.2) in (
      subst (λ (m : Option ℕ). LogsTo (TellsWith m (answered_by number (seen ++ s ∷ [])) j.settings j.side pair number seen s) j old new) (sym st.1)
          (subst (λ (r : Report). LogsTo (SegmentsOn j.settings j.side pair base seen (s ∷ [])) j old r) (sym one.2.0) one.1),
      (st.0, answered_kept number seen s st.0 st.1, one.2.1),
    )

pub take_begun_page : (pair : Pair) (begins : Option ℕ) (s : Segment) (octets : List ℕ) (kept : ℕ) (waiting : Vec Waiting Global) (left : Option Open) (old new : Report)
    → Some kept ≡ if_answered begins s → BeginsOnPage pair kept s.number (map seen_waiting waiting.items ++ seen_of s octets ∷ []) left old new
    → TakesOnPage pair begins (seen_of s octets) (stage.Opening waiting) (stage_by left) old new
take_begun_page pair begins s octets kept waiting left old new answered proceeds j log number is seen numbered st =
    let found = is_answered number kept s (answered ∙ ap (λ (b : Option ℕ). if_answered b s) is) in
    let now : answered_by number (seen ++ seen_of s octets ∷ []) ≡ Some s.number = answered_now number seen s octets true st.1 found.0 in
    by_left left now
    (subst (λ (ss : List Seen). BeginsOnPage pair number s.number (ss ++ seen_of s octets ∷ []) left old new) st.0
    (subst (λ (k : ℕ). BeginsOnPage pair k s.number (map seen_waiting waiting.items ++ seen_of s octets ∷ []) left old new) found.1 proceeds) j log numbered)
  where
    by_left : (l : Option Open) → answered_by number (seen ++ seen_of s octets ∷ []) ≡ Some s.number
        → ThemOn j pair (bases number s.number) [] (seen ++ seen_of s octets ∷ []) l old new → StageOnPage j pair number seen (seen_of s octets) (stage_by l) old new
    by_left None now them =
        subst (λ (m : Option ℕ). OverOnPage m (answered_by number (seen ++ seen_of s octets ∷ [])) j pair number seen (seen_of s octets) old new) (sym st.1)
        (subst (λ (m : Option ℕ). OverOnPage None m j pair number seen (seen_of s octets) old new) (sym now) them)
    by_left (Some o) now them = (
      subst (λ (m : Option ℕ). LogsTo (TellsWith m (answered_by number (seen ++ seen_of s octets ∷ [])) j.settings j.side pair number seen (seen_of s octets)) j old new) (sym st.1)
          (subst (λ (m : Option ℕ). LogsTo (TellsWith None m j.settings j.side pair number seen (seen_of s octets)) j old new) (sym now) them.0),
      (s.number, now, them.1),
    )

pub take_waits_page : {E : Type 0} (result : Result ConnectionState E) (pair : Pair) (begins : Option ℕ) (s : Segment) (octets : List ℕ) (waiting : Vec Waiting Global) (old new : Report)
    → None ≡ if_answered begins s
    → IfOk result (λ st. (j : WrittenLog) → old.manner ≡ Log j → WaitsOnPage (map seen_waiting waiting.items ++ seen_of s octets ∷ []) st old new)
    → IfOk result (λ st. TakesOnPage pair begins (seen_of s octets) (stage.Opening waiting) st old new)
take_waits_page (Ok next) pair begins s octets waiting old new answered waits = λ j log number is seen numbered st.
    let not_it = isnt_answered number s (answered ∙ ap (λ (b : Option ℕ). if_answered b s) is) in
    by_stage j number seen next st.1 (answered_now number seen s octets false st.1 not_it)
    (subst (λ (ss : List Seen). WaitsOnPage (ss ++ seen_of s octets ∷ []) next old new) st.0 (waits j log))
  where
    by_stage : (j : WrittenLog) (number : ℕ) (seen : List Seen) (next : ConnectionState) → answered_by number seen ≡ None → answered_by number (seen ++ seen_of s octets ∷ []) ≡ None
        → WaitsOnPage (seen ++ seen_of s octets ∷ []) next old new → StageOnPage j pair number seen (seen_of s octets) next old new
    by_stage j number seen (stage.Opening w) was none waits = (waits.0, (waits.1, none, waits.2))
    by_stage j number seen (stage.Open o) was none waits = absurd waits
    by_stage j number seen (stage.Joining g) was none waits = absurd waits
    by_stage j number seen (stage.Within w) was none waits = absurd waits
    by_stage j number seen stage.Over was none waits =
        subst (λ (m : Option ℕ). OverOnPage m (answered_by number (seen ++ seen_of s octets ∷ [])) j pair number seen (seen_of s octets) old new) (sym was)
        (subst (λ (m : Option ℕ). OverOnPage None m j pair number seen (seen_of s octets) old new) (sym none) waits)
take_waits_page (Err stop) pair begins s octets waiting old new answered waits = tt
