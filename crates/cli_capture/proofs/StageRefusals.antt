-- A connection by the number of its SYN is refused where the log of an end is told.
use Rattle.std.proofs.Common.{◌≡◌, ◌<◌, ◌&&◌, ◌++◌, ◌∷◌, ℕ, Bool, true, false, not, cond, List, [], length, map, Option, Some, None, is_none, Vec, Global, refl, sym, ap, subst, ◌∙◌, append_assoc}
use Rattle.std.proofs.lemmas.List.{length-map, map-append}
use Rattle.hsms_machine.specs.Settings.{Parameters}
use Rattle.capture_tcp.specs.declared.ending.Ending.{Ending}
use Rattle.capture_tcp.specs.declared.packet.Segment.{Segment}
use Rattle.capture_tcp.specs.declared.events.TimedEvent.{TimedEvent}
use Rattle.capture_tcp.specs.KnownStreams.{bases, seen_of}
use Rattle.capture_tcp.specs.ReaderInvariant.{EndsAs}
use Rattle.capture_tcp.specs.TcpStreams.{Seen}
use Rattle.capture_tcp.proofs.LastingFacts.{numbered_front}
use Rattle.capture_log.specs.declared.written_log.WrittenLog.{WrittenLog}
use Rattle.capture_log.specs.declared.socket_pair.Pair.{Pair}
use Rattle.capture_log.specs.declared.stop.Stop.{Stop}
use Rattle.capture_midstream.specs.declared.buffered_packet.BufferedPacket.{BufferedPacket}
use Rattle.cli_capture.specs.declared.progress.Progress.{Progress}
use Rattle.cli_capture.specs.declared.progress.Progress.TheVariants as progress
use Rattle.cli_capture.specs.declared.tracked_connection.Logs.{Logs}
use Rattle.cli_capture.specs.declared.tracked_connection.Open.{Open}
use Rattle.cli_capture.specs.declared.tracked_connection.ConnectionState.{ConnectionState}
use Rattle.cli_capture.specs.declared.tracked_connection.ConnectionState.TheVariants as stage
use Rattle.cli_capture.specs.declared.tracked_connection.Waiting.{Waiting}
use Rattle.cli_capture.specs.declared.report.OutputMode.TheVariants.{Log}
use Rattle.cli_capture.specs.declared.report.Report.{Report}
use Rattle.capture_errors.specs.declared.incomplete.Shortfall.{Shortfall}
use Rattle.cli_capture.specs.declared.midstream_connection.Within.{Within}
use Rattle.cli_capture.specs.Progress.{lack_behind}
use Rattle.cli_capture.specs.InnerTrackedConnection.{seen_waiting}
use Rattle.cli_capture.specs.LogOutput.{IsOpenIn, OnPage, ThemOn, page_of}
use Rattle.cli_capture.specs.InnerLogOutput.{DownsIf, FollowsAllOnPage, HappensOn, LogsAll, StageIn}
use Rattle.cli_capture.specs.LogRejection.{RefusedWith, RefusesFor, lack_at_end}
use Rattle.cli_capture.specs.InnerLogRejection.{BeginsRefused, EndsOpenRefused, EndsRefused, FollowsAllRefused, FollowsRefused, HearsThemRefused, InLog, LacksRefused, TakesRefused, WaitsRefused}
use Rattle.cli_capture.specs.Report.{first_of}
use Rattle.cli_capture.specs.ConnectionState.{answered_by, lost_by}
use Rattle.cli_capture.specs.InnerConnectionState.{if_answered}
use Rattle.cli_capture.specs.StopError.{IsRefusalOf}
use Rattle.cli_capture.proofs.Connections.{numbered_next}
use Rattle.cli_capture.proofs.Paging.{downs_of, none_left}
use Rattle.cli_capture.proofs.Refusals.{not_empty}
use Rattle.cli_capture.proofs.Stages.{answered_now, is_answered, isnt_answered}
use Rattle.cli_capture.proofs.Staging.{SoFarOnPage}

-- ---- packet by packet

pub all_refused : (pair : Pair) (all : List Waiting) (first o : Open) (old mid new : Report) (yielded rest : List Waiting) (x : Waiting) (kept : Option Open) (octets : List ℕ)
    → (st : Stop) → all ≡ yielded ++ x ∷ rest → SoFarOnPage pair all first old yielded kept mid → kept ≡ Some o → octets ≡ x.octets.items
    → FollowsRefused pair (seen_of x.segment octets) o st mid new
    → FollowsAllRefused pair (map seen_waiting all) first st old new
unfolding InLog
all_refused pair all first o old mid new yielded rest x kept octets st whole so_far is octets_are proceeds refused j log base before numbered f =
    let ss = map seen_waiting yielded in
    let here : FollowsRefused pair (seen_waiting x) o st mid new = subst (λ (ns : List ℕ). FollowsRefused pair (seen_of x.segment ns) o st mid new) octets_are proceeds in
    let them : ThemOn j pair base before ss (Some o) old mid =
    subst (λ (l : Option Open). ThemOn j pair base before ss l old mid) is (so_far j log base before numbered f) in
    record {
      front = ss;
      s = seen_waiting x;
      rest = map seen_waiting rest;
      are = ap (map seen_waiting) whole ∙ map-append seen_waiting yielded (x ∷ rest);
      mid = mid;
      logs = them.0;
      refused = here refused them.0.next them.0.manner_is base (before ++ ss) (numbered_next before all yielded rest x numbered whole)
          (subst (λ (p : Parameters). IsOpenIn p.max base (before ++ ss) o) (sym them.0.settings_are) them.1);
    }

-- ---- it begins

pub begins_refused_before : (pair : Pair) (x y : ℕ) (ss : List Seen) (s : Seen) (first : Open) (st : Stop) (old new : Report)
    → ((most : ℕ) → IsOpenIn most (bases x y) [] first) → FollowsAllRefused pair ss first st old new → BeginsRefused pair x y (ss ++ s ∷ []) st old new
unfolding InLog
begins_refused_before pair x y ss s first st old new begins all refused j log numbered =
    let r = all refused j log (bases x y) [] (numbered_front 0 ss (s ∷ []) numbered) (begins j.settings.max) in
    record {
      front = r.front;
      s = r.s;
      rest = r.rest ++ s ∷ [];
      are = ap (λ (z : List Seen). z ++ s ∷ []) r.are ∙ append_assoc r.front (r.s ∷ r.rest) (s ∷ []);
      mid = r.mid;
      logs = r.logs;
      refused = r.refused;
    }

pub begins_refused_with : (pair : Pair) (x y : ℕ) (ss : List Seen) (s : Seen) (first o : Open) (kept : Option Open) (st : Stop) (old mid new : Report)
    → ((most : ℕ) → IsOpenIn most (bases x y) [] first) → FollowsAllOnPage pair ss first kept old mid → kept ≡ Some o → FollowsRefused pair s o st mid new
    → BeginsRefused pair x y (ss ++ s ∷ []) st old new
unfolding InLog
begins_refused_with pair x y ss s first o kept st old mid new begins all is proceeds refused j log numbered =
    let them : ThemOn j pair (bases x y) [] ss (Some o) old mid =
    subst (λ (l : Option Open). ThemOn j pair (bases x y) [] ss l old mid) is
    (all j log (bases x y) [] (numbered_front 0 ss (s ∷ []) numbered) (begins j.settings.max)) in
    record {
      front = ss;
      s = s;
      rest = [];
      are = refl;
      mid = mid;
      logs = them.0;
      refused = proceeds refused them.0.next them.0.manner_is (bases x y) ss numbered
          (subst (λ (p : Parameters). IsOpenIn p.max (bases x y) ss o) (sym them.0.settings_are) them.1);
    }

-- ---- one segment more

pub take_open_refused : (pair : Pair) (begins : Option ℕ) (s : Seen) (at : ConnectionState) (o : Open) (st : Stop) (old new : Report) → at ≡ stage.Open o
    → FollowsRefused pair s o st old new → TakesRefused pair begins s at st old new
unfolding InLog
take_open_refused pair begins s at o st old new at_is proceeds refused j log = (
  λ over. (let no : stage.Open o ≡ stage.Over = sym at_is ∙ over in cc),
  λ number is seen numbered stands_at.
      let consistent = subst (StageIn j.settings.max number seen) at_is stands_at in
      subst (λ (m : Option ℕ). RefusedWith m (answered_by number (seen ++ s ∷ [])) j pair number seen s st old new) (sym consistent.1)
      (proceeds refused j log (bases number consistent.0) seen numbered consistent.2),
)

pub take_begun_refused : (pair : Pair) (begins : Option ℕ) (s : Segment) (octets : List ℕ) (kept : ℕ) (at : ConnectionState) (waiting : Vec Waiting Global) (st : Stop) (old new : Report)
    → at ≡ stage.Opening waiting → Some kept ≡ if_answered begins s
    → BeginsRefused pair kept s.number (map seen_waiting waiting.items ++ seen_of s octets ∷ []) st old new → TakesRefused pair begins (seen_of s octets) at st old new
unfolding InLog
take_begun_refused pair begins s octets kept at waiting st old new at_is answered proceeds refused j log = (
  λ over. (let no : stage.Opening waiting ≡ stage.Over = sym at_is ∙ over in cc),
  λ number is seen numbered stands_at.
      let consistent = subst (StageIn j.settings.max number seen) at_is stands_at in
      let found = is_answered number kept s (answered ∙ ap (λ (b : Option ℕ). if_answered b s) is) in
      let now : answered_by number (seen ++ seen_of s octets ∷ []) ≡ Some s.number = answered_now number seen s octets true consistent.1 found.0 in
      let begun : BeginsRefused pair number s.number (seen ++ seen_of s octets ∷ []) st old new =
      subst (λ (ss : List Seen). BeginsRefused pair number s.number (ss ++ seen_of s octets ∷ []) st old new) consistent.0
      (subst (λ (k : ℕ). BeginsRefused pair k s.number (map seen_waiting waiting.items ++ seen_of s octets ∷ []) st old new) found.1 proceeds) in
      subst (λ (m : Option ℕ). RefusedWith m (answered_by number (seen ++ seen_of s octets ∷ [])) j pair number seen (seen_of s octets) st old new) (sym consistent.1)
      (subst (λ (m : Option ℕ). RefusedWith None m j pair number seen (seen_of s octets) st old new) (sym now) (begun refused j log numbered)),
)

pub take_waits_refused : (pair : Pair) (begins : Option ℕ) (s : Segment) (octets : List ℕ) (at : ConnectionState) (waiting : Vec Waiting Global) (st : Stop) (old new : Report)
    → at ≡ stage.Opening waiting → None ≡ if_answered begins s → WaitsRefused (map seen_waiting waiting.items ++ seen_of s octets ∷ []) st old new
    → TakesRefused pair begins (seen_of s octets) at st old new
unfolding InLog
take_waits_refused pair begins s octets at waiting st old new at_is answered waits refused j log = (
  λ over. (let no : stage.Opening waiting ≡ stage.Over = sym at_is ∙ over in cc),
  λ number is seen numbered stands_at.
      let consistent = subst (StageIn j.settings.max number seen) at_is stands_at in
      let not_it = isnt_answered number s (answered ∙ ap (λ (b : Option ℕ). if_answered b s) is) in
      let none : answered_by number (seen ++ seen_of s octets ∷ []) ≡ None = answered_now number seen s octets false consistent.1 not_it in
      let wait : WaitsRefused (seen ++ seen_of s octets ∷ []) st old new =
      subst (λ (ss : List Seen). WaitsRefused (ss ++ seen_of s octets ∷ []) st old new) consistent.0 waits in
      subst (λ (m : Option ℕ). RefusedWith m (answered_by number (seen ++ seen_of s octets ∷ [])) j pair number seen (seen_of s octets) st old new) (sym consistent.1)
      (subst (λ (m : Option ℕ). RefusedWith None m j pair number seen (seen_of s octets) st old new) (sym none) (wait refused j log)),
)

-- those of a session that was running before aren't looked at here
pub take_joining_refused : (pair : Pair) (begins : Option ℕ) (s : Seen) (at : ConnectionState) (g : List BufferedPacket) (st : Stop) (old new : Report) → at ≡ stage.Joining g
    → TakesRefused pair begins s at st old new
unfolding InLog
take_joining_refused pair begins s at g st old new at_is refused j log = (
  λ over. (let no : stage.Joining g ≡ stage.Over = sym at_is ∙ over in cc),
  λ number is seen numbered consistent. absurd (subst (StageIn j.settings.max number seen) at_is consistent),
)

pub take_within_refused : (pair : Pair) (begins : Option ℕ) (s : Seen) (at : ConnectionState) (w : Within) (st : Stop) (old new : Report) → at ≡ stage.Within w
    → TakesRefused pair begins s at st old new
unfolding InLog
take_within_refused pair begins s at w st old new at_is refused j log = (
  λ over. (let no : stage.Within w ≡ stage.Over = sym at_is ∙ over in cc),
  λ number is seen numbered consistent. absurd (subst (StageIn j.settings.max number seen) at_is consistent),
)

-- too many packets wait
pub waits_refused : (waiting more slice : List Waiting) (x : Waiting) (none octets : List ℕ) (n : ℕ) (pushed failed : Bool) (st : Stop) (old new : Report)
    → more ≡ cond pushed (waiting ++ x ∷ []) waiting → pushed ≡ not failed → failed ≡ false → x.octets.items ≡ none ++ octets → none ≡ []
    → n ≡ length more → 4096 < n → slice ≡ more → LacksRefused (lost_by (map seen_waiting slice)) st old new
    → WaitsRefused (map seen_waiting waiting ++ seen_of x.segment octets ∷ []) st old new
unfolding InLog
waits_refused waiting more slice x none octets n pushed failed st old new more_is pushed_is fine x_is none_is n_is many slice_is lacking refused j log =
    let all = map seen_waiting waiting ++ seen_of x.segment octets ∷ [] in
    let more_are : more ≡ waiting ++ x ∷ [] = more_is ∙ ap (λ (b : Bool). cond b (waiting ++ x ∷ []) waiting) (pushed_is ∙ ap not fine) in
    let seen_are : map seen_waiting more ≡ all =
    ap (map seen_waiting) more_are ∙ map-append seen_waiting waiting (x ∷ [])
    ∙ ap (λ (ns : List ℕ). map seen_waiting waiting ++ seen_of x.segment ns ∷ []) (x_is ∙ ap (λ (ns : List ℕ). ns ++ octets) none_is) in
    let length_is : n ≡ length all = n_is ∙ sym (length-map more seen_waiting) ∙ ap length seen_are in (
      subst (λ (k : ℕ). 4096 < k) length_is many,
      subst (λ (ss : List Seen). RefusesFor (lost_by ss) st old new) (ap (map seen_waiting) slice_is ∙ seen_are) (lacking refused j log),
    )

-- ---- no segment follows

no_down : (replaced : Bool) (lack : Option Shortfall) (l : Shortfall) → lack ≡ Some l → (replaced && is_none lack) ≡ false
no_down true lack l is = ap is_none is
no_down false lack l is = refl

pub ends_left : (pair : Pair) (replaced : Bool) (missing : Option Shortfall) (o : Open) (logs last : Logs) (empty now : List TimedEvent) (ending : Ending) (c : Progress)
    → (lack : Option Shortfall) (downs : Bool) (st : Stop) (old mid down new : Report) → empty ≡ [] → EndsAs o.connection empty now ending
    → ((j : WrittenLog) → old.manner ≡ Log j → LogsAll pair o.logs now c j old logs mid) → lack ≡ lack_behind ending missing → downs ≡ (replaced && is_none lack)
    → ((j : WrittenLog) → mid.manner ≡ Log j → DownsIf (downs && logs.is_up) j mid down × (last.is_up ≡ logs.is_up)) → LacksRefused lack st down new
    → EndsOpenRefused missing o st old new
unfolding InLog
ends_left pair replaced missing o logs last empty now ending c lack downs st old mid down new none ends processes_input lack_is downs_is proceeds lacking refused j log base seen numbered f =
    let left = none_left o.connection f.emitted now ending base seen (subst (λ (hs : List TimedEvent). EndsAs o.connection hs now ending) none ends) numbered f.consistent in
    let all : LogsAll pair o.logs [] c j old logs mid = subst (λ (hs : List TimedEvent). LogsAll pair o.logs hs c j old logs mid) left.0 (processes_input j log) in
    let next = all.logs.next in
    let heard_it : page_of next mid ≡ page_of j old =
    subst (λ (x : Progress). OnPage x (HappensOn j.settings j.side pair []) (page_of j old) (page_of next mid)) all.logs.course_is all.logs.on in
    let down_it = proceeds next all.logs.manner_is in
    let d = downs_of (downs && logs.is_up) next mid down all.logs.manner_is down_it.0 in
    let r = lacking refused d.next d.manner_is in
    let still : (downs && logs.is_up) ≡ false = ap (λ (b : Bool). b && logs.is_up) (downs_is ∙ no_down replaced lack r.lack r.lack_is) in
    let same : down ≡ mid = subst (λ (b : Bool). DownsIf b next mid down) still down_it.0 in
    record {
      lack = r.lack;
      lack_is = ap (λ (x : Ending). lack_behind x missing) (sym left.1) ∙ sym lack_is ∙ r.lack_is;
      words = subst (λ (x : Option Shortfall). IsRefusalOf (first_of x r.lack) st)
          (ap (λ (x : Report). x.shortfall) same ∙ ap (λ (x : Report). x.shortfall) all.logs.same) r.words;
      page_is = r.page_is ∙ ap (λ (x : Report). x.page.octets) same ∙ ap (λ p. p.text) heard_it;
    }

-- nothing is told then
pub ends_heard : (pair : Pair) (missing : Option Shortfall) (o : Open) (empty now : List TimedEvent) (ending : Ending) (st : Stop) (old new : Report) → empty ≡ []
    → EndsAs o.connection empty now ending → HearsThemRefused pair o.logs now st old new → EndsOpenRefused missing o st old new
unfolding InLog
ends_heard pair missing o empty now ending st old new none ends processes_input refused j log base seen numbered f =
    let left = none_left o.connection f.emitted now ending base seen (subst (λ (hs : List TimedEvent). EndsAs o.connection hs now ending) none ends) numbered f.consistent in
    let r = processes_input refused j log in
    absurd (not_empty r.front r.rest r.h (sym left.0 ∙ r.are))

pub never_over_refused : (pair : Pair) (missing : Option Shortfall) (o : Open) (logs : Logs) (empty now : List TimedEvent) (ending : Ending) (c : Progress)
    → (lack : Option Shortfall) (st : Stop) (old mid new : Report) → empty ≡ [] → EndsAs o.connection empty now ending → c ≡ progress.Over lack
    → ((j : WrittenLog) → old.manner ≡ Log j → LogsAll pair o.logs now c j old logs mid) → EndsOpenRefused missing o st old new
unfolding InLog
never_over_refused pair missing o logs empty now ending c lack st old mid new none ends over processes_input refused j log base seen numbered f =
    let left = none_left o.connection f.emitted now ending base seen (subst (λ (hs : List TimedEvent). EndsAs o.connection hs now ending) none ends) numbered f.consistent in
    let all : LogsAll pair o.logs [] c j old logs mid = subst (λ (hs : List TimedEvent). LogsAll pair o.logs hs c j old logs mid) left.0 (processes_input j log) in
    let no : progress.Over lack ≡ progress.Proceeds = sym over ∙ all.logs.course_is in
    absurd cc

pub end_opening_refused : (missing : Option Shortfall) (at : ConnectionState) (waiting : Vec Waiting Global) (slice : List Waiting) (st : Stop) (old new : Report)
    → at ≡ stage.Opening waiting → slice ≡ waiting.items → LacksRefused (lost_by (map seen_waiting slice)) st old new → EndsRefused missing at st old new
unfolding InLog
end_opening_refused missing at waiting slice st old new at_is slice_is lacking refused j log = (
  λ over. (let no : stage.Opening waiting ≡ stage.Over = sym at_is ∙ over in cc),
  λ number seen numbered stands_at.
      let consistent = subst (StageIn j.settings.max number seen) at_is stands_at in
      subst (λ (m : Option ℕ). RefusesFor (lack_at_end m number seen missing) st old new) (sym consistent.1)
      (subst (λ (ss : List Seen). RefusesFor (lost_by ss) st old new) (ap (map seen_waiting) slice_is ∙ consistent.0) (lacking refused j log)),
)

pub end_open_refused : (missing : Option Shortfall) (at : ConnectionState) (o : Open) (st : Stop) (old new : Report) → at ≡ stage.Open o → EndsOpenRefused missing o st old new
    → EndsRefused missing at st old new
unfolding InLog
end_open_refused missing at o st old new at_is ends refused j log = (
  λ over. (let no : stage.Open o ≡ stage.Over = sym at_is ∙ over in cc),
  λ number seen numbered stands_at.
      let consistent = subst (StageIn j.settings.max number seen) at_is stands_at in
      subst (λ (m : Option ℕ). RefusesFor (lack_at_end m number seen missing) st old new) (sym consistent.1)
      (ends refused j log (bases number consistent.0) seen numbered consistent.2),
)

pub end_joining_refused : (missing : Option Shortfall) (at : ConnectionState) (g : List BufferedPacket) (st : Stop) (old new : Report) → at ≡ stage.Joining g → EndsRefused missing at st old new
unfolding InLog
end_joining_refused missing at g st old new at_is refused j log = (
  λ over. (let no : stage.Joining g ≡ stage.Over = sym at_is ∙ over in cc),
  λ number seen numbered consistent. absurd (subst (StageIn j.settings.max number seen) at_is consistent),
)

pub end_within_refused : (missing : Option Shortfall) (at : ConnectionState) (w : Within) (st : Stop) (old new : Report) → at ≡ stage.Within w → EndsRefused missing at st old new
unfolding InLog
end_within_refused missing at w st old new at_is refused j log = (
  λ over. (let no : stage.Within w ≡ stage.Over = sym at_is ∙ over in cc),
  λ number seen numbered consistent. absurd (subst (StageIn j.settings.max number seen) at_is consistent),
)
