-- A session that was running before its capture is refused, packet by packet, where the log of an end is told.
use Rattle.std.proofs.Common.{◌≡◌, ◌&&◌, ◌++◌, ◌∷◌, ℕ, Bool, true, false, List, [], map, Option, Some, None, is_none, is_some, sym, ap, subst, ◌∙◌, append_assoc, inl, inr}
use Rattle.std.specs.Prelude.{◌↔◌, IfSome}
use Rattle.std.proofs.lemmas.List.{append-nil, map-append}
use Rattle.hsms_machine.specs.Settings.{Parameters}
use Rattle.capture_tcp.specs.declared.connection.Connection.{Connection}
use Rattle.capture_tcp.specs.declared.ending.Ending.{Ending}
use Rattle.capture_tcp.specs.declared.packet.Segment.{Segment}
use Rattle.capture_tcp.specs.declared.events.TimedEvent.{TimedEvent}
use Rattle.capture_tcp.specs.TcpStreams.{Seen, places}
use Rattle.capture_tcp.specs.EndOfStream.{ended, is_known}
use Rattle.capture_tcp.specs.Laws.{AreNumbered}
use Rattle.capture_tcp.specs.ReaderInvariant.{EndsAs, StateInvariant, TakesOn}
use Rattle.capture_tcp.specs.Timestamps.{TakesInTime}
use Rattle.capture_tcp.proofs.Connecting.{emitted_at_once}
use Rattle.capture_tcp.proofs.LastingFacts.{ending_sure, numbered_front}
use Rattle.capture_log.specs.WrittenLog.{RefusesAssumed}
use Rattle.capture_log.specs.declared.written_log.WrittenLog.{WrittenLog}
use Rattle.capture_log.specs.declared.socket_pair.Pair.{Pair}
use Rattle.capture_log.specs.declared.stop.Stop.{Stop}
use Rattle.capture_midstream.specs.declared.buffered_packet.BufferedPacket.{BufferedPacket}
use Rattle.capture_midstream.specs.declared.packet_buffer.Beginnings.{Beginnings}
use Rattle.capture_midstream.specs.declared.session_filter.Session.{Session}
use Rattle.capture_midstream.specs.declared.sync_packet.Start.{Start}
use Rattle.capture_midstream.specs.PacketBuffer.{AreBeginnings, AreSure, BuffersPackets, IsDue}
use Rattle.capture_midstream.specs.SyntheticHandshake.{IsStart}
use Rattle.cli_capture.specs.declared.progress.Progress.{Progress}
use Rattle.cli_capture.specs.declared.progress.Progress.TheVariants as progress
use Rattle.cli_capture.specs.declared.midstream_log.Joined.{Joined}
use Rattle.cli_capture.specs.declared.midstream_sync.Joining.TheVariants as joining
use Rattle.cli_capture.specs.declared.report.OutputMode.TheVariants.{Log, Verdicts}
use Rattle.cli_capture.specs.declared.report.Report.{Report}
use Rattle.capture_errors.specs.declared.incomplete.Shortfall.{Shortfall}
use Rattle.cli_capture.specs.declared.progress.Followed.{Followed}
use Rattle.cli_capture.specs.declared.progress.Followed.TheVariants as followed
use Rattle.cli_capture.specs.declared.midstream_connection.Within.{Within}
use Rattle.cli_capture.specs.Progress.{lack_behind}
use Rattle.cli_capture.specs.OutputMode.{Way, to_log, to_verdicts}
use Rattle.cli_capture.specs.InnerOutputMode.{IsReport}
use Rattle.cli_capture.specs.TrackedConnection.{course_by_events}
use Rattle.cli_capture.specs.MidstreamItems.{Item, ItemsOn, LogsItems}
use Rattle.cli_capture.specs.MidstreamLog.{JoinedStands, most_by, terms_by}
use Rattle.cli_capture.specs.InnerMidstreamLog.{HearsEach}
use Rattle.cli_capture.specs.MidstreamSync.{IsLast, brought}
use Rattle.cli_capture.specs.InnerMidstreamSync.{BeginsWith, TakesThrough}
use Rattle.cli_capture.specs.ConnectionLog.{bare_if, is_there, lack_by}
use Rattle.cli_capture.specs.LogRejection.{RefusesFor}
use Rattle.cli_capture.specs.InnerLogRejection.{InLog}
use Rattle.cli_capture.specs.LogRejectionMidstream.{IsRefusedWith, LogRefused, SessionRefused, ThroughRefused, ToldRefused}
use Rattle.cli_capture.specs.InnerLogRejectionMidstream.{BeginRefused, EachRefused, EndGatheredRefused, FinishRefused, FromRefused, GatherRefused, PacketRefused, PacketsRefused, ReplaceRefused, WithinEndRefused}
use Rattle.cli_capture.specs.LogOutput.{Page, page_of}
use Rattle.cli_capture.specs.Report.{session_of}
use Rattle.cli_capture.specs.InnerReport.{Emits}
use Rattle.cli_capture.specs.PendingRequests.{nothing_spoken}
use Rattle.cli_capture.specs.MidstreamOutput.{in_capture}
use Rattle.cli_capture.specs.InnerStopError.{IsRefused}
use Rattle.cli_capture.specs.MidstreamConnection.{Brought, LogsFurther, counting, cut, ending_in, lack_within, logged_so_far, resets_of, session_base, session_seen}
use Rattle.cli_capture.specs.InnerMidstreamConnection.{BeginsWithin, TakesCut, over_as}
use Rattle.cli_capture.specs.Assumptions.{since, sure_log, whole_log}
use Rattle.cli_capture.proofs.Closing.{takes_logs}
use Rattle.cli_capture.proofs.Paging.{same_log}
use Rattle.cli_capture.proofs.Running.{counting_then, seen_more, stands_goes}
use Rattle.cli_capture.proofs.SessionBegins.{further_report, nothing_sure}
use Rattle.cli_capture.proofs.SessionPackets.{BothLogs, Takes, further, happens_here, heard_left, processed_none, heard_on, never_over, none_left, resets_one, seen_one, taken, within_more}
use Rattle.cli_capture.proofs.SessionRefusals.{both_empty}
use Rattle.cli_capture.proofs.Sessions.{is_sure, over_decided, report_stays, sure_then}
use Rattle.cli_capture.proofs.Taking.{logs_then}

-- ---- by its packets

empty_behind : (xs ys all : List Item) → all ≡ xs ++ ys → all ≡ [] → ys ≡ []
empty_behind [] ys all is none = sym is ∙ none
empty_behind (x ∷ xs) ys all is none = absurd (let no : [] ≡ x ∷ (xs ++ ys) = sym none ∙ is in cc)

-- it is refused behind what was logged of it
log_after_away : (how : Way) (a p : Parameters) (pair : Pair) (start : Start) (had has now : List Item) (st : Stop) (j k : WrittenLog) (old mid new : Report) → IsReport how a p old
    → LogsFurther how pair had has old mid → old.manner ≡ Log j → mid.manner ≡ Log k → LogRefused pair start has now st k mid new → LogRefused pair start had now st j old new
log_after_away to_verdicts a p pair start had has now st j k old mid new report further log here up =
    absurd (let bad : Verdicts ≡ Log j = sym report.manner_is ∙ log in cc)
log_after_away (to_log settings side) a p pair start had has now st j k old mid new report further log here up =
    let one = further.2 j log in
    let same : k ≡ one.next = same_log mid k one.next here one.manner_is in
    let nothing : further.0 ≡ [] = empty_behind had further.0 has further.1 up.none in
    let page : page_of one.next mid ≡ page_of j old =
    subst (λ (xs : List Item). ItemsOn j.settings j.side pair xs (page_of j old) (page_of one.next mid)) nothing one.on in
    record {
      none = both_empty had further.0 has further.1 up.none;
      some = up.some;
      down = (
        subst (λ (q : Page). RefusesAssumed q.begun pair start.packet q.time start.time st) page
            (subst (λ (x : WrittenLog). RefusesAssumed x.begun pair start.packet x.time start.time st) same up.down.0),
        up.down.1 ∙ ap (λ (q : Page). q.text) page,
      );
    }

pub session_behind : (how : Way) (a p : Parameters) (pair : Pair) (start : Start) (had has whole : List Item) (lack : Option Shortfall) (st : Stop) (j k : WrittenLog) (old mid new : Report)
    → IsReport how a p old → LogsFurther how pair had has old mid → old.manner ≡ Log j → mid.manner ≡ Log k → SessionRefused pair start has whole lack st k mid new
    → SessionRefused pair start had whole lack st j old new
session_behind how a p pair start had has whole lack st j k old mid new report further log here (inl up) =
    inl (log_after_away how a p pair start had has whole st j k old mid new report further log here up)
session_behind to_verdicts a p pair start had has whole lack st j k old mid new report further log here (inr less) =
    absurd (let bad : Verdicts ≡ Log j = sym report.manner_is ∙ log in cc)
session_behind (to_log settings side) a p pair start had has whole lack st j k old mid new report further log here (inr less) =
    let one = further.2 j log in
    let same : k ≡ one.next = same_log mid k one.next here one.manner_is in
    inr (record {
      more = further.0 ++ less.more;
      has_is = less.has_is ∙ ap (λ (zs : List Item). zs ++ less.more) further.1 ∙ append_assoc had further.0 less.more;
      progress = less.progress;
      mid = less.mid;
      logs = logs_then pair further.0 less.more less.progress j old mid less.mid one
          (subst (λ (x : WrittenLog). LogsItems pair less.progress less.more x mid less.mid) same less.logs);
      refuses = less.refuses;
    })

-- by what is heard with a packet
each_at : (how : Way) (a p : Parameters) (pair : Pair) (start : Start) (gs : List Brought) (hs emitted : List TimedEvent) (g : Brought) (w : Within) (bare : List ℕ) (st : Stop) (j : WrittenLog)
    → (old mid : Report) → Takes how a p start gs hs g w old
    → bare ≡ w.bare_resets.items ++ bare_if (g.segment.reset && is_none g.segment.acknowledged) g.segment.packet
    → EachRefused pair (map (in_capture bare) emitted) w.joined st old mid → IsRefused st → old.manner ≡ Log j
    → LogRefused pair start (logged_so_far how a start gs hs) (logged_so_far how a start (gs ++ g ∷ []) (hs ++ emitted)) st j old mid
unfolding InLog
each_at how a p pair start gs hs emitted g w bare st j old mid it resets each refused log =
    let t = terms_by how a start in
    let all : bare ≡ resets_of (gs ++ g ∷ []) =
    resets ∙ ap (λ (ns : List ℕ). ns ++ bare_if (g.segment.reset && is_none g.segment.acknowledged) g.segment.packet) it.is.bare ∙ sym (resets_one gs g) in
    subst (λ (xs : List TimedEvent). LogRefused pair start (logged_so_far how a start gs hs) (sure_log t xs) st j old mid)
    (counting_then (most_by how a) start (resets_of gs) bare hs emitted (stands_goes how a p start (counting start (resets_of gs) hs) w.joined it.is.reception)
    ∙ ap (λ (ns : List ℕ). counting start ns (hs ++ emitted)) all) (each refused j log how a p start (map (in_capture (resets_of gs)) hs) it.report it.is.reception)

-- nothing is refused where nothing happens
each_never : (pair : Pair) (joined : Joined) (how : Way) (a p : Parameters) (start : Start) (bare : List ℕ) (gs : List Brought) (hs emitted : List TimedEvent) (st : Stop) (j : WrittenLog)
    → (old mid : Report) → emitted ≡ [] → IsReport how a p old → JoinedStands how a p start (counting start (resets_of gs) hs) joined
    → EachRefused pair (map (in_capture bare) emitted) joined st old mid → IsRefused st → old.manner ≡ Log j → ⊥
unfolding InLog
each_never pair joined how a p start bare gs hs emitted st j old mid none report consistent each refused log =
    let t = terms_by how a start in
    let front = map (in_capture (resets_of gs)) hs in
    let same : since start (front ++ map (in_capture bare) emitted) ≡ since start front =
    ap (λ (xs : List TimedEvent). since start (front ++ map (in_capture bare) xs)) none ∙ ap (since start) (append-nil front) in
    let it = each refused j log how a p start front report consistent in
    let bad : false ≡ true = ap is_there (sym (ap (sure_log t) same ∙ it.none)) ∙ it.some in cc

heard_refused : (how : Way) (a p : Parameters) (pair : Pair) (start : Start) (gs : List Brought) (hs emitted : List TimedEvent) (g : Brought) (w : Within) (bare : List ℕ) (next : Connection)
    → (st : Stop) (j : WrittenLog) (old mid : Report) → Takes how a p start gs hs g w old
    → bare ≡ w.bare_resets.items ++ bare_if (g.segment.reset && is_none g.segment.acknowledged) g.segment.packet
    → TakesOn w.connection (cut w.active w.passive g) [] next emitted → TakesInTime w.connection (cut w.active w.passive g) [] next emitted
    → EachRefused pair (map (in_capture bare) emitted) w.joined st old mid → IsRefused st → old.manner ≡ Log j
    → IsRefusedWith how a p pair start w.active w.passive gs hs g (logged_so_far how a start gs hs) st j old mid
heard_refused how a p pair start gs hs emitted g w bare next st j old mid it resets on time each refused log =
    let took = taken how a p start gs hs emitted g w next old it on time in
    inl (emitted, took.happened, inl (each_at how a p pair start gs hs emitted g w bare st j old mid it resets each refused log))

pub take_heard_refused : (pair : Pair) (g : Brought) (w : Within) (f : Followed) (bare ns : List ℕ) (emitted : List TimedEvent) (st : Stop) (old mid : Report)
    → bare ≡ w.bare_resets.items ++ bare_if (g.segment.reset && is_none g.segment.acknowledged) g.segment.packet → ns ≡ bare
    → TakesCut w.connection (cut w.active w.passive g) g.segment.packet [] emitted f → EachRefused pair (map (in_capture ns) emitted) w.joined st old mid
    → PacketRefused pair g w st old mid
unfolding InLog
take_heard_refused pair g w f bare ns emitted st old mid resets same takes each = λ refused j log how a p start gs hs report numbered is.
    by_takes f takes refused j log how a p start gs hs (record { report = report; numbered = numbered; is = is })
  where
    at_bare : EachRefused pair (map (in_capture bare) emitted) w.joined st old mid
    at_bare = subst (λ (xs : List ℕ). EachRefused pair (map (in_capture xs) emitted) w.joined st old mid) same each

    by_takes : (f : Followed) → TakesCut w.connection (cut w.active w.passive g) g.segment.packet [] emitted f → IsRefused st → (j : WrittenLog) → old.manner ≡ Log j
        → (how : Way) (a p : Parameters) (start : Start) (gs : List Brought) (hs : List TimedEvent) → Takes how a p start gs hs g w old
        → IsRefusedWith how a p pair start w.active w.passive gs hs g (logged_so_far how a start gs hs) st j old mid
    by_takes (followed.Proceeds next) takes refused j log how a p start gs hs it =
        heard_refused how a p pair start gs hs emitted g w bare next st j old mid it resets takes.1 takes.2 at_bare refused log
    by_takes (followed.BothLogs lack) takes refused j log how a p start gs hs it =
        elim takes [
          | inl known ↦ heard_refused how a p pair start gs hs emitted g w bare known.0 st j old mid it resets known.4 known.5 at_bare refused log
          | inr full ↦ absurd (each_never pair w.joined how a p start bare gs hs emitted st j old mid full.1 it.report it.is.reception at_bare refused log)
        ]

-- as it ends with a packet
ended_refused : (how : Way) (a p : Parameters) (pair : Pair) (start : Start) (gs : List Brought) (hs : List TimedEvent) (g : Brought) (w : Within) (bare : List ℕ) (joined : Joined)
    → (emitted : List TimedEvent) (lack : Option Shortfall) (st : Stop) (j : WrittenLog) (old mid new : Report) → Takes how a p start gs hs g w old
    → bare ≡ w.bare_resets.items ++ bare_if (g.segment.reset && is_none g.segment.acknowledged) g.segment.packet
    → TakesCut w.connection (cut w.active w.passive g) g.segment.packet [] emitted (followed.BothLogs lack)
    → HearsEach pair (map (in_capture bare) emitted) w.joined old progress.Proceeds joined mid → Emits old mid
    → FinishRefused pair joined lack st mid new → IsRefused st → old.manner ≡ Log j → IsRefusedWith how a p pair start w.active w.passive gs hs g (logged_so_far how a start gs hs) st j old new
unfolding InLog Emits
ended_refused how a p pair start gs hs g w bare joined emitted lack st j old mid new it resets takes processes_input tells_on finishes refused log =
    let t = terms_by how a start in
    let had = logged_so_far how a start gs hs in
    let kept = tells_on.1 j log in
    elim takes [
      | inl known ↦
          let took = taken how a p start gs hs emitted g w known.0 old it known.4 known.5 in
          let reception = heard_on how a p pair start gs hs emitted g w bare progress.Proceeds joined old mid it resets processes_input in
          let hers = gs ++ g ∷ [] in
          let xs = counting start (resets_of hers) (hs ++ emitted) in
          let report : IsReport how a p mid = report_stays how a p pair progress.Proceeds reception.0.0 w.joined.ends joined.ends old mid it.report reception.0.2 in
          let base = session_base w.active w.passive in
          let seen = session_seen w.active w.passive hers in
          let none : seen ++ [] ≡ seen = append-nil seen in
          let ends : known.1 ≡ ended (places base [] seen) =
          subst (λ (ss : List Seen). known.1 ≡ ended (places base [] ss)) none
          (ending_sure known.0 (hs ++ emitted) known.1 base seen [] known.2 took.consistent (subst (AreNumbered 0) (sym none) it.numbered)).1 in
          let proceeds = stands_goes how a p start xs joined reception.1 in
          let lack_is : lack ≡ lack_within t.most start w.active w.passive hers (hs ++ emitted) None =
          known.3 ∙ ap (λ (e : Ending). lack_behind (ending_in e) None) ends ∙ ap (λ (c : Progress). lack_by c (ending_in (ended (places base [] seen))) None) (sym proceeds) in
          let known_now : is_known (places base [] seen) ≡ true =
          sym (emitted_at_once known.0 (hs ++ emitted) base seen took.consistent it.numbered).1 ∙ ap (λ (o : Option Ending). is_some o) known.2 in
          inl (
            emitted,
            took.happened,
            inr (
              λ more. (let bad : true ≡ false = sym known_now ∙ more.1 in cc),
              subst (λ (l : Option Shortfall). SessionRefused pair start had (whole_log t xs) l st j old new) lack_is
                  (session_behind how a p pair start had (sure_log t xs) (whole_log t xs) lack st j kept.0 old mid new it.report (further how a p pair had (sure_log t xs) w.joined joined old mid it.report reception.0) log kept.1
                  (finishes.ends refused kept.0 kept.1 how a p start xs report reception.1)),
            ),
          )
      | inr full ↦
          let xs = counting start (resets_of gs) hs in
          let reception = processed_none how a p pair start gs hs w bare progress.Proceeds joined old mid it.report it.is
          (subst (λ (xs : List TimedEvent). HearsEach pair (map (in_capture bare) xs) w.joined old progress.Proceeds joined mid) full.1 processes_input) in
          let report : IsReport how a p mid = report_stays how a p pair progress.Proceeds reception.0.0 w.joined.ends joined.ends old mid it.report reception.0.2 in
          let seen = session_seen w.active w.passive gs in
          let base = session_base w.active w.passive in
          let before : AreNumbered 0 seen = numbered_front 0 seen (cut w.active w.passive g ∷ []) (subst (AreNumbered 0) (seen_one w.active w.passive gs g) it.numbered) in
          inr (record {
            happens = happens_here w.active w.passive gs hs w.connection before it.is.consistent it.is.timed;
            more = within_more how a p start gs hs w before it.is;
            full = full.2 base seen hs (subst (λ (zs : List TimedEvent). StateInvariant w.connection zs base seen) (sym (append-nil hs)) it.is.consistent);
            refuses = subst (λ (l : Option Shortfall). SessionRefused pair start had (whole_log t xs) l st j old new) full.0
                (session_behind how a p pair start had (sure_log t xs) (whole_log t xs) lack st j kept.0 old mid new it.report (further how a p pair had (sure_log t xs) w.joined joined old mid it.report reception.0) log kept.1
                (finishes.ends refused kept.0 kept.1 how a p start xs report reception.1));
          })
    ]

-- by what happened
over_refused : (how : Way) (a p : Parameters) (pair : Pair) (start : Start) (gs : List Brought) (hs : List TimedEvent) (g : Brought) (w : Within) (bare : List ℕ) (joined : Joined)
    → (emitted : List TimedEvent) (next : Connection) (by : Option Shortfall) (st : Stop) (j : WrittenLog) (old mid new : Report) → Takes how a p start gs hs g w old
    → bare ≡ w.bare_resets.items ++ bare_if (g.segment.reset && is_none g.segment.acknowledged) g.segment.packet
    → TakesOn w.connection (cut w.active w.passive g) [] next emitted → TakesInTime w.connection (cut w.active w.passive g) [] next emitted
    → HearsEach pair (map (in_capture bare) emitted) w.joined old (progress.Over by) joined mid → Emits old mid
    → FinishRefused pair joined by st mid new → IsRefused st → old.manner ≡ Log j → IsRefusedWith how a p pair start w.active w.passive gs hs g (logged_so_far how a start gs hs) st j old new
unfolding InLog Emits
over_refused how a p pair start gs hs g w bare joined emitted next by st j old mid new it resets on time processes_input tells_on finishes refused log =
    let t = terms_by how a start in
    let kept = tells_on.1 j log in
    let took = taken how a p start gs hs emitted g w next old it on time in
    let reception = heard_on how a p pair start gs hs emitted g w bare (progress.Over by) joined old mid it resets processes_input in
    let hers = gs ++ g ∷ [] in
    let xs = counting start (resets_of hers) (hs ++ emitted) in
    let sure = sure_then t xs (is_sure t.most xs (over_decided t.most nothing_spoken xs by reception.1.course_is)) in
    let report : IsReport how a p mid = report_stays how a p pair (progress.Over by) reception.0.0 w.joined.ends joined.ends old mid it.report reception.0.2 in
    let e = ending_in (ended (places (session_base w.active w.passive) [] (session_seen w.active w.passive hers))) in
    inl (
      emitted,
      took.happened,
      inr (
        λ more. (let bad : progress.Over by ≡ progress.Proceeds = sym reception.1.course_is ∙ more.0 in cc),
        inr (record {
          more = reception.0.0;
          has_is = sym sure ∙ reception.0.1;
          progress = progress.Over by;
          mid = mid;
          logs = takes_logs pair (progress.Over by) reception.0.0 w.joined.ends joined.ends old mid reception.0.2 j log;
          refuses = subst (λ (c : Progress). RefusesFor (lack_by c e None) st mid new) (sym reception.1.course_is)
              (finishes.over refused kept.0 kept.1 how a p start xs by report reception.1);
        }),
      ),
    )

pub take_finish_refused : (pair : Pair) (g : Brought) (w : Within) (lack : Option Shortfall) (f : Followed) (x : Progress) (bare : List ℕ) (joined : Joined) (emitted : List TimedEvent) (st : Stop)
    → (old mid new : Report) → bare ≡ w.bare_resets.items ++ bare_if (g.segment.reset && is_none g.segment.acknowledged) g.segment.packet
    → TakesCut w.connection (cut w.active w.passive g) g.segment.packet [] emitted f → HearsEach pair (map (in_capture bare) emitted) w.joined old x joined mid
    → followed.BothLogs lack ≡ over_as x f → Emits old mid → FinishRefused pair joined lack st mid new
    → PacketRefused pair g w st old new
unfolding InLog
take_finish_refused pair g w lack f progress.Proceeds bare joined emitted st old mid new resets takes processes_input is tells_on finishes =
    λ refused j log how a p start gs hs report numbered consistent.
    ended_refused how a p pair start gs hs g w bare joined emitted lack st j old mid new (record { report = report; numbered = numbered; is = consistent }) resets
    (subst (λ (x : Followed). TakesCut w.connection (cut w.active w.passive g) g.segment.packet [] emitted x) (sym is) takes) processes_input tells_on finishes refused log
take_finish_refused pair g w lack (followed.Proceeds next) (progress.Over by) bare joined emitted st old mid new resets takes processes_input is tells_on finishes =
    λ refused j log how a p start gs hs report numbered consistent.
    let same : by ≡ lack = cc in
    over_refused how a p pair start gs hs g w bare joined emitted next by st j old mid new (record { report = report; numbered = numbered; is = consistent }) resets takes.1 takes.2 processes_input
    tells_on (subst (λ (l : Option Shortfall). FinishRefused pair joined l st mid new) (sym same) finishes) refused log
take_finish_refused pair g w lack (followed.BothLogs other) (progress.Over by) bare joined emitted st old mid new resets takes processes_input is tells_on finishes =
    λ refused j log how a p start gs hs report numbered consistent.
    let same : by ≡ lack = cc in
    let it : Takes how a p start gs hs g w old = record { report = report; numbered = numbered; is = consistent } in
    elim takes [
      | inl known ↦
          over_refused how a p pair start gs hs g w bare joined emitted known.0 by st j old mid new it resets known.4 known.5 processes_input tells_on
          (subst (λ (l : Option Shortfall). FinishRefused pair joined l st mid new) (sym same) finishes) refused log
      | inr full ↦
          absurd (never_over how a p start (counting start (resets_of gs) hs) w.joined joined by consistent.reception
          (processed_none how a p pair start gs hs w bare (progress.Over by) joined old mid report consistent
          (subst (λ (xs : List TimedEvent). HearsEach pair (map (in_capture bare) xs) w.joined old (progress.Over by) joined mid) full.1 processes_input)).1)
    ]

-- ---- no packet follows

pub end_heard_refused : (pair : Pair) (missing : Option Shortfall) (emitted : List TimedEvent) (w : Within) (bare : List ℕ) (e : Ending) (st : Stop) (old mid : Report)
    → EndsAs w.connection [] emitted e → EachRefused pair (map (in_capture bare) emitted) w.joined st old mid → WithinEndRefused pair missing w st old mid
unfolding InLog
end_heard_refused pair missing emitted w bare e st old mid ends each = λ refused j log how a p start gs hs report numbered is.
    let none = (none_left how a p start gs hs emitted w e old (record { report = report; numbered = numbered; is = is }) ends).0 in
    absurd (each_never pair w.joined how a p start bare gs hs emitted st j old mid none report is.reception each refused log)

-- it isn't over by what is heard
pub end_over_refused : (pair : Pair) (missing by : Option Shortfall) (emitted : List TimedEvent) (w : Within) (bare : List ℕ) (e : Ending) (joined : Joined) (st : Stop) (old mid new : Report)
    → EndsAs w.connection [] emitted e → HearsEach pair (map (in_capture bare) emitted) w.joined old (progress.Over by) joined mid → WithinEndRefused pair missing w st old new
unfolding InLog
end_over_refused pair missing by emitted w bare e joined st old mid new ends processes_input = λ refused j log how a p start gs hs report numbered is.
    let it : BothLogs how a p start gs hs w old = record { report = report; numbered = numbered; is = is } in
    absurd (never_over how a p start (counting start (resets_of gs) hs) w.joined joined by is.reception
    (heard_left how a p pair start gs hs emitted w bare (progress.Over by) e joined old mid it ends processes_input).1)

-- what is refused once no packet follows
abbrev pub LeftRefused : Pair → Option Shortfall → Joined → Stop → Report → Report → Type 0
LeftRefused pair lack joined st old new =
    InLog st old (λ k. (how : Way) (a p : Parameters) (start : Start) (hs : List TimedEvent) → IsReport how a p old → JoinedStands how a p start hs joined
    → SessionRefused pair start (sure_log (terms_by how a start) hs) (whole_log (terms_by how a start) hs) lack st k old new)

pub end_left_refused : (pair : Pair) (missing lack : Option Shortfall) (emitted : List TimedEvent) (w : Within) (bare : List ℕ) (e : Ending) (joined : Joined) (st : Stop) (old mid new : Report)
    → EndsAs w.connection [] emitted e → HearsEach pair (map (in_capture bare) emitted) w.joined old progress.Proceeds joined mid → lack ≡ lack_behind (ending_in e) missing
    → Emits old mid → LeftRefused pair lack joined st mid new → WithinEndRefused pair missing w st old new
unfolding InLog Emits
end_left_refused pair missing lack emitted w bare e joined st old mid new ends processes_input lack_is tells_on left = λ refused j log how a p start gs hs report numbered is.
    let it : BothLogs how a p start gs hs w old = record { report = report; numbered = numbered; is = is } in
    let t = terms_by how a start in
    let xs = counting start (resets_of gs) hs in
    let had = logged_so_far how a start gs hs in
    let kept = tells_on.1 j log in
    let reception = heard_left how a p pair start gs hs emitted w bare progress.Proceeds e joined old mid it ends processes_input in
    let base = session_base w.active w.passive in
    let seen = session_seen w.active w.passive gs in
    let all : e ≡ ended (places base [] seen) = (none_left how a p start gs hs emitted w e old it ends).1 in
    let proceeds : course_by_events t.most xs ≡ progress.Proceeds = stands_goes how a p start xs w.joined is.reception in
    let after : IsReport how a p mid = report_stays how a p pair progress.Proceeds reception.0.0 w.joined.ends joined.ends old mid report reception.0.2 in
    let lacks : lack ≡ lack_within t.most start w.active w.passive gs hs missing =
    lack_is ∙ ap (λ (x : Ending). lack_behind (ending_in x) missing) all ∙ ap (λ (c : Progress). lack_by c (ending_in (ended (places base [] seen))) missing) (sym proceeds) in (
      happens_here w.active w.passive gs hs w.connection numbered is.consistent is.timed,
      subst (λ (l : Option Shortfall). SessionRefused pair start had (whole_log t xs) l st j old new) lacks
          (session_behind how a p pair start had (sure_log t xs) (whole_log t xs) lack st j kept.0 old mid new report (further how a p pair had (sure_log t xs) w.joined joined old mid report reception.0) log kept.1
          (left refused kept.0 kept.1 how a p start xs after reception.1)),
    )

-- as another one replaces it what waits is refused
pub replaced_left : (pair : Pair) (lack : Option Shortfall) (joined : Joined) (st : Stop) (old new : Report) → ReplaceRefused pair joined st old new
    → LeftRefused pair lack joined st old new
unfolding InLog
replaced_left pair lack joined st old new replaces = λ refused k log how a p start hs report consistent. inl (replaces refused k log how a p start hs report consistent)

-- ---- one of several

with_behind : (how : Way) (a p : Parameters) (pair : Pair) (start : Start) (active passive : ℕ) (gs : List Brought) (hs : List TimedEvent) (g : Brought) (had has : List Item) (st : Stop)
    → (j k : WrittenLog) (old mid new : Report) → IsReport how a p old → LogsFurther how pair had has old mid → old.manner ≡ Log j → mid.manner ≡ Log k
    → IsRefusedWith how a p pair start active passive gs hs g has st k mid new → IsRefusedWith how a p pair start active passive gs hs g had st j old new
with_behind how a p pair start active passive gs hs g had has st j k old mid new report further log here is =
    elim is [
      | inl by ↦ inl (by.0, by.1, released_after (gs ++ g ∷ []) (hs ++ by.0) by.2)
      | inr up ↦
          inr (record {
            happens = up.happens;
            more = up.more;
            full = up.full;
            refuses = session_behind how a p pair start had has _ _ st j k old mid new report further log here up.refuses;
          })
    ]
  where
    released_after : (all : List Brought) (happened : List TimedEvent) → ToldRefused how a p pair start active passive all happened has st k mid new
        → ToldRefused how a p pair start active passive all happened had st j old new
    released_after all happened (inl up) = inl (log_after_away how a p pair start had has (logged_so_far how a start all happened) st j k old mid new report further log here up)
    released_after all happened (inr over) = inr (over.0, session_behind how a p pair start had has _ _ st j k old mid new report further log here over.1)

pub packets_refused : (pair : Pair) (xs : List Brought) (g : Brought) (ys : List Brought) (w mid : Within) (st : Stop) (old between new : Report)
    → TakesThrough pair xs w (Some mid) old between → Emits old between → PacketRefused pair g mid st between new → PacketsRefused pair (xs ++ g ∷ ys) w st old new
unfolding TakesThrough InLog Emits
packets_refused pair xs g ys w mid st old between new first tells_on one = λ refused j log how a p start gs hs report numbered is.
    let kept = tells_on.1 j log in
    let had = logged_so_far how a start gs hs in
    let all : gs ++ (xs ++ g ∷ ys) ≡ ((gs ++ xs) ++ g ∷ []) ++ ys = sym (append_assoc gs xs (g ∷ ys)) ∙ sym (append_assoc (gs ++ xs) (g ∷ []) ys) in
    let whole = subst (λ (zs : List Brought). AreNumbered 0 (session_seen w.active w.passive zs)) all numbered in
    let n = numbered_front 0 (session_seen w.active w.passive ((gs ++ xs) ++ g ∷ [])) (map (cut w.active w.passive) ys)
    (subst (AreNumbered 0) (seen_more w.active w.passive ((gs ++ xs) ++ g ∷ []) ys) whole) in
    let front = numbered_front 0 (session_seen w.active w.passive (gs ++ xs)) (cut w.active w.passive g ∷ [])
    (subst (AreNumbered 0) (seen_one w.active w.passive (gs ++ xs) g) n) in
    let done = first how a p start gs hs report front is in
    let after = further_report how a p pair had (logged_so_far how a start (gs ++ xs) done.2) old between report done.5 in
    let numbered_mid = subst (λ (k : ℕ). AreNumbered 0 (session_seen k mid.passive ((gs ++ xs) ++ g ∷ []))) (sym done.0)
    (subst (λ (k : ℕ). AreNumbered 0 (session_seen w.active k ((gs ++ xs) ++ g ∷ []))) (sym done.1) n) in
    let two = one refused kept.0 kept.1 how a p start (gs ++ xs) done.2 after numbered_mid done.4 in
    let here : IsRefusedWith how a p pair start w.active w.passive (gs ++ xs) done.2 g (logged_so_far how a start (gs ++ xs) done.2) st kept.0 between new =
    subst (λ (k : ℕ). IsRefusedWith how a p pair start k w.passive (gs ++ xs) done.2 g (logged_so_far how a start (gs ++ xs) done.2) st kept.0 between new) done.0
    (subst (λ (k : ℕ). IsRefusedWith how a p pair start mid.active k (gs ++ xs) done.2 g (logged_so_far how a start (gs ++ xs) done.2) st kept.0 between new) done.1 two) in (
      gs ++ xs,
      g,
      ys,
      sym (append_assoc gs xs (g ∷ ys)),
      done.2,
      with_behind how a p pair start w.active w.passive (gs ++ xs) done.2 g had (logged_so_far how a start (gs ++ xs) done.2) st j kept.0 old between new report done.5 log
          kept.1 here,
    )

pub packets_refused_at : (pair : Pair) (all front : List BufferedPacket) (g : BufferedPacket) (rest : List BufferedPacket) (octets : List ℕ) (w mid : Within) (st : Stop) (old between new : Report)
    → all ≡ front ++ g ∷ rest → TakesThrough pair (map brought front) w (Some mid) old between → Emits old between → octets ≡ g.octets.items
    → PacketRefused pair (record { segment = g.segment; octets = octets }) mid st between new → PacketsRefused pair (map brought all) w st old new
packets_refused_at pair all front g rest octets w mid st old between new parts first tells_on same one =
    subst (λ (bs : List Brought). PacketsRefused pair bs w st old new) (sym (ap (map brought) parts ∙ map-append brought front (g ∷ rest)))
    (packets_refused pair (map brought front) (brought g) (map brought rest) w mid st old between new first tells_on
    (subst (λ (os : List ℕ). PacketRefused pair (record { segment = g.segment; octets = os }) mid st between new) same one))

-- from where both directions begin
pub from_refused : (pair : Pair) (gs : List BufferedPacket) (both : Beginnings) (start : Start) (w : Within) (st : Stop) (old new : Report)
    → IsStart both.active.number both.passive.number gs start → BeginsWithin both.active.number both.passive.number start w → PacketsRefused pair (map brought gs) w st old new
    → InLog st old (λ j. FromRefused pair gs both st j old new)
unfolding InLog
from_refused pair gs both start w st old new is begins through = λ refused j log. (
  start,
  is,
  λ how a p report numbered.
      let active = both.active.number in
      let passive = both.passive.number in
      let bs = map brought gs in
      let n = subst (λ (k : ℕ). AreNumbered 0 (session_seen k w.passive bs)) (sym begins.active_is)
      (subst (λ (k : ℕ). AreNumbered 0 (session_seen active k bs)) (sym begins.passive_is) numbered) in
      let t = terms_by how a start in
      let had : logged_so_far how a start [] begins.happened ≡ [] = ap (sure_log t) begins.none ∙ nothing_sure t in
      subst (λ (k : ℕ). ThroughRefused how a p pair start k passive [] bs st j old new) begins.active_is
      (subst (λ (k : ℕ). ThroughRefused how a p pair start w.active k [] bs st j old new) begins.passive_is
      (subst (λ (xs : List Item). ThroughRefused how a p pair start w.active w.passive xs bs st j old new) had
      (through refused j log how a p start [] begins.happened report n (begins.is how a p)))),
)

pub begin_refused : (pair : Pair) (s : Session) (gs : List BufferedPacket) (last : Bool) (found : Option Beginnings) (both : Beginnings) (st : Stop) (old new : Report)
    → found ≡ Some both → IfSome found (AreBeginnings s gs) → (last ≡ false → IfSome found AreSure) → InLog st old (λ j. FromRefused pair gs both st j old new)
    → InLog st old (λ j. BeginRefused pair s gs last st j old new)
unfolding InLog
begin_refused pair s gs last found both st old new is begin sure from = λ refused j log. (
  both,
  subst (λ (x : Option Beginnings). IfSome x (AreBeginnings s gs)) is begin,
  λ more. subst (λ (x : Option Beginnings). IfSome x AreSure) is (sure more),
  from refused j log,
)

pub gather_refused : (pair : Pair) (s : Session) (segment : Segment) (octets : List ℕ) (gs all : List BufferedPacket) (last : Bool) (st : Stop) (old new : Report)
    → BuffersPackets segment octets gs all → ((last ≡ true) ↔ IsLast segment all) → (last ≡ false → IsDue all) → InLog st old (λ j. BeginRefused pair s all last st j old new)
    → InLog st old (λ j. GatherRefused pair s segment octets gs st j old new)
unfolding InLog
gather_refused pair s segment octets gs all last st old new gathers is due begins = λ refused j log. (all, gathers, last, is, due, begins refused j log)

-- ---- no packet follows those that are kept

pub end_begin_refused : (pair : Pair) (missing : Option Shortfall) (gs : List BufferedPacket) (st : Stop) (old new : Report)
    → InLog st old (λ j. BeginRefused pair (session_of old.active) gs true st j old new) → InLog st old (λ j. EndGatheredRefused pair missing gs st j old new)
unfolding InLog
end_begin_refused pair missing gs st old new begins = λ refused j log. inl (begins refused j log)

pub end_within_it : (pair : Pair) (missing : Option Shortfall) (gs : List BufferedPacket) (w : Within) (st : Stop) (old mid new : Report)
    → BeginsWith pair (session_of old.active) gs true (joining.Within w) old mid → WithinEndRefused pair missing w st mid new
    → InLog st old (λ j. EndGatheredRefused pair missing gs st j old new)
unfolding InLog BeginsWith
end_within_it pair missing gs w st old mid new begins ends = λ refused j log. inr (w, mid, begins, ends)
