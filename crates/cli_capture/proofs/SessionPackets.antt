-- A session that was running before its capture, packet by packet.
use Rattle.std.proofs.Common.{◌≡◌, ◌-◌, ◌&&◌, ◌||◌, ◌++◌, ◌∷◌, ℕ, Bool, true, false, cond, List, [], length, map, Option, Some, None, is_some, is_none, Vec, Global, refl, sym, ap, subst, ◌∙◌, append_assoc, arith, inl, inr}
use Rattle.std.specs.Prelude.{Result, Ok, Err, OnOk}
use Rattle.std.proofs.lemmas.List.{append-nil, length-append, map-append}
use Rattle.std.proofs.lemmas.Grind.{flat_map-append}
use Rattle.hsms_machine.specs.Settings.{Parameters}
use Rattle.capture_tcp.specs.declared.connection.Connection.{Connection}
use Rattle.capture_tcp.specs.declared.ending.Ending.{Ending}
use Rattle.capture_tcp.specs.declared.ending.Ending.TheVariants as ending
use Rattle.capture_tcp.specs.declared.events.Event.{Event}
use Rattle.capture_tcp.specs.declared.events.Event.TheVariants as happens
use Rattle.capture_tcp.specs.declared.events.TimedEvent.{TimedEvent}
use Rattle.capture_tcp.specs.TcpStreams.{Placed, Seen, places}
use Rattle.capture_tcp.specs.ReaderState.{AreRising}
use Rattle.capture_tcp.specs.EndOfStream.{ended}
use Rattle.capture_tcp.specs.Laws.{AreNumbered}
use Rattle.capture_tcp.specs.ReaderInvariant.{EndsAs, StateInvariant, TakesOn}
use Rattle.capture_tcp.specs.EventSteps.{entry_as, reported_as}
use Rattle.capture_tcp.specs.Timestamps.{AreTimed, IsInTime, TakesInTime, time_at}
use Rattle.capture_tcp.specs.ConnectionEvents.{Entry, ends_down, is_down, emits}
use Rattle.capture_tcp.proofs.Connecting.{all_rise, emitted_at_once}
use Rattle.capture_tcp.proofs.LastingFacts.{ending_sure, numbered_front}
use Rattle.capture_tcp.proofs.UpToDown.{closed_emits}
use Rattle.capture_log.specs.BothLogs.{reception_of}
use Rattle.capture_log.specs.declared.both_logs.LogResult.{LogResult}
use Rattle.capture_log.specs.declared.both_logs.LogResult.TheVariants as reception
use Rattle.capture_log.specs.declared.socket_pair.Pair.{Pair}
use Rattle.capture_midstream.specs.declared.sync_packet.Start.{Start}
use Rattle.cli_capture.specs.declared.progress.Progress.{Progress}
use Rattle.cli_capture.specs.declared.progress.Progress.TheVariants as progress
use Rattle.cli_capture.specs.declared.midstream_log.Joined.{Joined}
use Rattle.cli_capture.specs.declared.report.Report.{Report}
use Rattle.capture_errors.specs.declared.incomplete.Shortfall.{Shortfall}
use Rattle.cli_capture.specs.declared.progress.Followed.{Followed}
use Rattle.cli_capture.specs.declared.progress.Followed.TheVariants as followed
use Rattle.cli_capture.specs.declared.midstream_connection.Within.{Within}
use Rattle.cli_capture.specs.Progress.{lack_behind}
use Rattle.cli_capture.specs.OutputMode.{Way, to_log, to_verdicts}
use Rattle.cli_capture.specs.InnerOutputMode.{IsReport}
use Rattle.cli_capture.specs.TrackedConnection.{AllFit, course_by_events}
use Rattle.cli_capture.specs.MidstreamItems.{Item, ItemsOn, LogsItems}
use Rattle.cli_capture.specs.MidstreamLog.{JoinedStands, most_by, terms_by}
use Rattle.cli_capture.specs.InnerMidstreamLog.{HearsEach, LogsMore, StandsBy}
use Rattle.cli_capture.specs.ConnectionLog.{and_course, bare_if, is_replaced_by, lack_by}
use Rattle.cli_capture.specs.LogOutput.{OnPage, Page, page_of}
use Rattle.cli_capture.specs.MidstreamOutput.{EndsSession, TellsItems, and_down, in_capture}
use Rattle.cli_capture.specs.InnerMidstreamOutput.{FinishesAs, ReplacedAs}
use Rattle.cli_capture.specs.PendingRequests.{nothing_spoken}
use Rattle.cli_capture.specs.MidstreamConnection.{Brought, Happens, IsWithin, LogsFurther, MayRunMore, TellsForGood, and_down_if, counting, course_within, cut, ending_in, resets_of, session_base, session_seen, opening_seen}
use Rattle.cli_capture.specs.InnerMidstreamConnection.{EndsWithin, GoesWithin, TakesCut, TakesWithin, over_as}
use Rattle.cli_capture.specs.Assumptions.{Terms, asked, before_of, after_front, counts_by, session_items, since, supposed_items, sure_log, whole_log}
use Rattle.cli_capture.proofs.Closing.{takes_logs, takes_same}
use Rattle.cli_capture.proofs.Lasting.{lack_lasts}
use Rattle.cli_capture.proofs.Connections.{fits_next, not_much}
use Rattle.cli_capture.proofs.Running.{counting_later, counting_more, counting_then, seen_more, stands_goes}
use Rattle.cli_capture.proofs.Sessions.{before_stays, is_sure, over_decided, over_items, report_stays, sure_then}
use Rattle.cli_capture.proofs.Supposing.{items_none}
use Rattle.cli_capture.proofs.Taking.{logs_then}

-- ---- one packet more

pub seen_one : (active passive : ℕ) (gs : List Brought) (g : Brought) → session_seen active passive (gs ++ g ∷ []) ≡ session_seen active passive gs ++ cut active passive g ∷ []
seen_one active passive gs g = seen_more active passive gs (g ∷ [])

pub resets_one : (gs : List Brought) (g : Brought) → resets_of (gs ++ g ∷ []) ≡ resets_of gs ++ bare_if (g.segment.reset && is_none g.segment.acknowledged) g.segment.packet
resets_one gs g =
    flat_map-append (λ (g : Brought). bare_if (g.segment.reset && is_none g.segment.acknowledged) g.segment.packet) gs (g ∷ [])
    ∙ ap (λ (ns : List ℕ). resets_of gs ++ ns) (append-nil (bare_if (g.segment.reset && is_none g.segment.acknowledged) g.segment.packet))

-- what has happened is what the wire shows
pub happens_here : (active passive : ℕ) (gs : List Brought) (hs : List TimedEvent) (c : Connection) → AreNumbered 0 (session_seen active passive gs)
    → StateInvariant c hs (session_base active passive) (session_seen active passive gs) → IsInTime c hs (session_base active passive) (session_seen active passive gs)
    → Happens active passive gs hs
happens_here active passive gs hs c numbered consistent timed =
    let base = session_base active passive in
    let seen = session_seen active passive gs in
    let ps = places base [] seen in
    let same : ps ++ [] ≡ ps = append-nil ps in
    record {
      tells_are = (emitted_at_once c hs base seen consistent numbered).0;
      timed = subst (λ (qs : List Placed). AreTimed (time_at qs) hs) same (timed [] (subst (AreRising 0) (sym same) (all_rise base seen numbered))).1;
    }

-- ---- what is logged, and what is told then

on_goes : (lack : Option Shortfall) (G : Page → Page → Type 0) (old new : Page) → lack ≡ None → OnPage (progress.Over lack) G old new → OnPage progress.Proceeds G old new
on_goes None G old new none on = on
on_goes (Some lack) G old new none on = absurd cc

pub further : (how : Way) (a p : Parameters) (pair : Pair) (had has : List Item) (old new : Joined) (before after : Report) → IsReport how a p before
    → LogsMore pair progress.Proceeds had has old before new after → LogsFurther how pair had has before after
further to_verdicts a p pair had has old new before after report logs = takes_same pair progress.Proceeds logs.0 old.ends new.ends before after logs.2 report.manner_is
further (to_log settings side) a p pair had has old new before after report logs =
    (logs.0, logs.1, λ j log. takes_logs pair progress.Proceeds logs.0 old.ends new.ends before after logs.2 j log)

pub ends_then : (how : Way) (a p : Parameters) (pair : Pair) (xs had has : List Item) (lack : Option Shortfall) (old mid new : Report) → LogsFurther how pair had has old mid
    → EndsSession how a p pair xs has lack mid new → EndsSession how a p pair xs had lack old new
ends_then to_verdicts a p pair xs had has lack old mid new more ends = subst (λ (r : Report). TellsItems a p pair xs lack r new) more ends
ends_then (to_log settings side) a p pair xs had has lack old mid new more ends = λ j log.
    let one = more.2 j log in
    let end = ends one.next one.manner_is in
    record {
      lacks = end.lacks;
      more = more.0 ++ end.more;
      log_is = end.log_is ∙ ap (λ (ys : List Item). ys ++ end.more) more.1 ∙ append_assoc had more.0 end.more;
      mid = end.mid;
      logs = logs_then pair more.0 end.more progress.Proceeds j old mid end.mid one end.logs;
      counts = end.counts;
    }

-- it is over by what was heard
over_then : (how : Way) (a p : Parameters) (pair : Pair) (xs had has : List Item) (by : Option Shortfall) (old next : Joined) (before mid after : Report) → IsReport how a p before
    → LogsMore pair (progress.Over by) had has old before next mid → EndsSession how a p pair xs has by mid after → EndsSession how a p pair xs had by before after
over_then to_verdicts a p pair xs had has by old next before mid after report logs ends =
    subst (λ (r : Report). TellsItems a p pair xs by r after) (takes_same pair (progress.Over by) logs.0 old.ends next.ends before mid logs.2 report.manner_is) ends
over_then (to_log settings side) a p pair xs had has by old next before mid after report logs ends = λ j log.
    let one = takes_logs pair (progress.Over by) logs.0 old.ends next.ends before mid logs.2 j log in
    let end = ends one.next one.manner_is in
    let proceeds : LogsItems pair progress.Proceeds logs.0 j before mid = record {
      next = one.next;
      manner_is = one.manner_is;
      settings_are = one.settings_are;
      side_is = one.side_is;
      on = on_goes by (ItemsOn j.settings j.side pair logs.0) (page_of j before) (page_of one.next mid) end.lacks one.on;
      same = one.same;
    } in
    record {
      lacks = end.lacks;
      more = logs.0 ++ end.more;
      log_is = end.log_is ∙ ap (λ (ys : List Item). ys ++ end.more) logs.1 ∙ append_assoc had logs.0 end.more;
      mid = end.mid;
      logs = logs_then pair logs.0 end.more progress.Proceeds j before mid end.mid proceeds end.logs;
      counts = end.counts;
    }

-- ---- what a packet brings

pub record Takes (how : Way) (a p : Parameters) (start : Start) (gs : List Brought) (hs : List TimedEvent) (g : Brought) (w : Within) (old : Report) : Type 0 where
  pub report : IsReport how a p old
  pub numbered : AreNumbered 0 (session_seen w.active w.passive (gs ++ g ∷ []))
  pub is : IsWithin how a p start gs hs w

-- the connection takes it
pub record Taken (gs : List Brought) (hs emitted : List TimedEvent) (g : Brought) (w : Within) (next : Connection) : Type 0 where
  pub consistent : StateInvariant next (hs ++ emitted) (session_base w.active w.passive) (session_seen w.active w.passive (gs ++ g ∷ []))
  pub timed : IsInTime next (hs ++ emitted) (session_base w.active w.passive) (session_seen w.active w.passive (gs ++ g ∷ []))
  pub happened : Happens w.active w.passive (gs ++ g ∷ []) (hs ++ emitted)

pub taken : (how : Way) (a p : Parameters) (start : Start) (gs : List Brought) (hs emitted : List TimedEvent) (g : Brought) (w : Within) (next : Connection) (old : Report)
    → Takes how a p start gs hs g w old → TakesOn w.connection (cut w.active w.passive g) [] next emitted → TakesInTime w.connection (cut w.active w.passive g) [] next emitted
    → Taken gs hs emitted g w next
taken how a p start gs hs emitted g w next old it on time =
    let base = session_base w.active w.passive in
    let seen = session_seen w.active w.passive gs in
    let one = seen_one w.active w.passive gs g in
    let numbered = subst (AreNumbered 0) one it.numbered in
    let before = subst (λ (xs : List TimedEvent). StateInvariant w.connection xs base seen) (sym (append-nil hs)) it.is.consistent in
    let early = subst (λ (xs : List TimedEvent). IsInTime w.connection xs base seen) (sym (append-nil hs)) it.is.timed in
    let consistent = subst (λ (ss : List Seen). StateInvariant next (hs ++ emitted) base ss) (sym one) (on base seen hs numbered before) in
    let timed = subst (λ (ss : List Seen). IsInTime next (hs ++ emitted) base ss) (sym one) (time base seen hs before early) in
    record { consistent = consistent; timed = timed; happened = happens_here w.active w.passive (gs ++ g ∷ []) (hs ++ emitted) next it.numbered consistent timed }

-- what happens is heard
abbrev pub HeardOn : Way → Parameters → Parameters → Pair → Start → List Brought → List TimedEvent → List TimedEvent → Brought → Progress → Joined → Joined → Report → Report → Type 0
HeardOn how a p pair start gs hs emitted g c old new before after =
    LogsMore pair c (sure_log (terms_by how a start) (counting start (resets_of gs) hs)) (sure_log (terms_by how a start) (counting start (resets_of (gs ++ g ∷ [])) (hs ++ emitted)))
    old before new after
    × StandsBy c how a p start (counting start (resets_of (gs ++ g ∷ [])) (hs ++ emitted)) new

pub heard_on : (how : Way) (a p : Parameters) (pair : Pair) (start : Start) (gs : List Brought) (hs emitted : List TimedEvent) (g : Brought) (w : Within) (bare : List ℕ) (c : Progress)
    → (joined : Joined) (old new : Report) → Takes how a p start gs hs g w old
    → bare ≡ w.bare_resets.items ++ bare_if (g.segment.reset && is_none g.segment.acknowledged) g.segment.packet
    → HearsEach pair (map (in_capture bare) emitted) w.joined old c joined new → HeardOn how a p pair start gs hs emitted g c w.joined joined old new
unfolding HearsEach
heard_on how a p pair start gs hs emitted g w bare c joined old new it resets processes_input =
    let t = terms_by how a start in
    let had = sure_log t (counting start (resets_of gs) hs) in
    let all : bare ≡ resets_of (gs ++ g ∷ []) =
    resets ∙ ap (λ (ns : List ℕ). ns ++ bare_if (g.segment.reset && is_none g.segment.acknowledged) g.segment.packet) it.is.bare ∙ sym (resets_one gs g) in
    subst (λ (xs : List TimedEvent). LogsMore pair c had (sure_log t xs) w.joined old joined new × StandsBy c how a p start xs joined)
    (counting_then (most_by how a) start (resets_of gs) bare hs emitted (stands_goes how a p start (counting start (resets_of gs) hs) w.joined it.is.reception)
    ∙ ap (λ (ns : List ℕ). counting start ns (hs ++ emitted)) all) (processes_input how a p start (map (in_capture (resets_of gs)) hs) it.report it.is.reception)

-- nothing happens
pub processed_none : (how : Way) (a p : Parameters) (pair : Pair) (start : Start) (gs : List Brought) (hs : List TimedEvent) (w : Within) (bare : List ℕ) (c : Progress)
    → (joined : Joined) (old new : Report) → IsReport how a p old → IsWithin how a p start gs hs w → HearsEach pair (map (in_capture bare) []) w.joined old c joined new
    → LogsMore pair c (sure_log (terms_by how a start) (counting start (resets_of gs) hs)) (sure_log (terms_by how a start) (counting start (resets_of gs) hs)) w.joined old joined new
    × StandsBy c how a p start (counting start (resets_of gs) hs) joined
unfolding HearsEach
processed_none how a p pair start gs hs w bare c joined old new report is processes_input =
    let t = terms_by how a start in
    let had = sure_log t (counting start (resets_of gs) hs) in
    subst (λ (xs : List TimedEvent). LogsMore pair c had (sure_log t xs) w.joined old joined new × StandsBy c how a p start xs joined)
    (ap (since start) (append-nil (map (in_capture (resets_of gs)) hs))) (processes_input how a p start (map (in_capture (resets_of gs)) hs) report is.reception)

pub never_over : (how : Way) (a p : Parameters) (start : Start) (xs : List TimedEvent) (old new : Joined) (by : Option Shortfall) → JoinedStands how a p start xs old
    → StandsBy (progress.Over by) how a p start xs new → ⊥
never_over how a p start xs old new by consistent over =
    let bad : progress.Over by ≡ progress.Proceeds = sym over.course_is ∙ stands_goes how a p start xs old consistent in cc

-- ---- more may follow

pub within_more : (how : Way) (a p : Parameters) (start : Start) (gs : List Brought) (hs : List TimedEvent) (w : Within) → AreNumbered 0 (session_seen w.active w.passive gs)
    → IsWithin how a p start gs hs w → MayRunMore (most_by how a) start w.active w.passive gs hs
within_more how a p start gs hs w numbered is = (
  (
    stands_goes how a p start (counting start (resets_of gs) hs) w.joined is.reception,
    sym (emitted_at_once w.connection hs (session_base w.active w.passive) (session_seen w.active w.passive gs) is.consistent numbered).1
        ∙ ap (λ (o : Option Ending). is_some o) is.unended,
  ),
  is.fit,
)

pub goes_within : (how : Way) (a p : Parameters) (pair : Pair) (start : Start) (gs : List Brought) (hs : List TimedEvent) (g : Brought) (w : Within) (c : Connection)
    → (bare : Vec ℕ Global) (joined : Joined) (emitted : List TimedEvent) (old new : Report) → Takes how a p start gs hs g w old
    → bare.items ≡ w.bare_resets.items ++ bare_if (g.segment.reset && is_none g.segment.acknowledged) g.segment.packet
    → TakesCut w.connection (cut w.active w.passive g) g.segment.packet [] emitted (followed.Proceeds c)
    → HearsEach pair (map (in_capture bare.items) emitted) w.joined old progress.Proceeds joined new
    → GoesWithin how a p pair start gs hs g w (Some (record { connection = c; active = w.active; passive = w.passive; bare_resets = bare; joined = joined })) old new
goes_within how a p pair start gs hs g w c bare joined emitted old new it resets takes processes_input =
    let t = terms_by how a start in
    let took = taken how a p start gs hs emitted g w c old it takes.1 takes.2 in
    let on = heard_on how a p pair start gs hs emitted g w bare.items progress.Proceeds joined old new it resets processes_input in (
      refl,
      refl,
      emitted,
      took.happened,
      record {
        unended = takes.0;
        consistent = took.consistent;
        timed = took.timed;
        bare = resets ∙ ap (λ (ns : List ℕ). ns ++ bare_if (g.segment.reset && is_none g.segment.acknowledged) g.segment.packet) it.is.bare ∙ sym (resets_one gs g);
        reception = on.1;
        fit =
            subst (AllFit (session_base w.active w.passive) (opening_seen w.active w.passive)) (sym (map-append (cut w.active w.passive) gs (g ∷ [])))
            (fits_next (session_base w.active w.passive) (opening_seen w.active w.passive) (map (cut w.active w.passive) gs) (cut w.active w.passive g) it.is.fit
            (not_much w.connection (cut w.active w.passive g) hs (session_base w.active w.passive) (session_seen w.active w.passive gs) takes.3 it.is.unended it.is.consistent));
      },
      further how a p pair (sure_log t (counting start (resets_of gs) hs)) (sure_log t (counting start (resets_of (gs ++ g ∷ [])) (hs ++ emitted))) w.joined joined old new it.report on.0,
    )

-- ---- it is over by what happened

whole_over : (t : Terms) (xs ys : List TimedEvent) (lack : Option Shortfall) → course_by_events t.most xs ≡ progress.Over lack
    → (whole_log t (xs ++ ys) ≡ whole_log t xs) × (course_by_events t.most (xs ++ ys) ≡ progress.Over lack)
whole_over t xs ys lack over =
    let stays = before_stays t.most xs ys (is_sure t.most xs (over_decided t.most nothing_spoken xs lack over)) in
    let b = before_of t.most xs in
    let same = over_items t b xs ys lack over in
    (ap (λ x. session_items t x (xs ++ ys)) stays.1 ∙ ap (after_front (supposed_items b t.begun)) same.0, same.1)

-- what is told by how it goes on, and by its log
abbrev WritesEventAs : Way → Parameters → Parameters → Pair → List Item → Bool → Option Shortfall → Report → Report → Ending → Progress → List Item → Type 0
WritesEventAs how a p pair had replaced missing old new e c log =
    EndsSession how a p pair (and_down_if (is_replaced_by replaced c (lack_by c e missing)) log) had (lack_by c e missing) old new

over_for_good : (how : Way) (a p : Parameters) (pair : Pair) (start : Start) (gs : List Brought) (hs emitted : List TimedEvent) (g : Brought) (w : Within) (next : Connection)
    → (by : Option Shortfall) (had : List Item) (old new : Report) → AreNumbered 0 (session_seen w.active w.passive (gs ++ g ∷ [])) → Taken gs hs emitted g w next
    → course_within (most_by how a) start (gs ++ g ∷ []) (hs ++ emitted) ≡ progress.Over by
    → EndsSession how a p pair (whole_log (terms_by how a start) (counting start (resets_of (gs ++ g ∷ [])) (hs ++ emitted))) had by old new
    → TellsForGood how a p pair start w.active w.passive (gs ++ g ∷ []) (hs ++ emitted) had old new
over_for_good how a p pair start gs hs emitted g w next by had old new numbered took over ends = λ later more replaced missing after happened.
    let t = terms_by how a start in
    let all = hs ++ emitted in
    let hers = gs ++ g ∷ [] in
    let resets = resets_of (hers ++ later) in
    let xs = counting start (resets_of hers) all in
    let ys = counting start resets more in
    let is : counting start resets (all ++ more) ≡ xs ++ ys =
    counting_more start resets all more
    ∙ ap (λ (zs : List TimedEvent). zs ++ ys) (counting_later w.active w.passive start hers later all next after numbered took.consistent) in
    let whole = whole_over t xs ys by over in
    let e = ending_in (ended (places (session_base w.active w.passive) [] (session_seen w.active w.passive (hers ++ later)))) in
    subst (λ (zs : List TimedEvent). WritesEventAs how a p pair had replaced missing old new e (course_by_events t.most zs) (whole_log t zs)) (sym is)
    (subst (λ (c : Progress). WritesEventAs how a p pair had replaced missing old new e c (whole_log t (xs ++ ys))) (sym whole.1)
    (subst (λ (zs : List Item). EndsSession how a p pair zs had by old new) (sym whole.0) ends))

over_with : (how : Way) (a p : Parameters) (pair : Pair) (start : Start) (gs : List Brought) (hs : List TimedEvent) (g : Brought) (w : Within) (bare : List ℕ) (joined : Joined)
    → (emitted : List TimedEvent) (next : Connection) (by : Option Shortfall) (old mid new : Report) → Takes how a p start gs hs g w old
    → bare ≡ w.bare_resets.items ++ bare_if (g.segment.reset && is_none g.segment.acknowledged) g.segment.packet
    → TakesOn w.connection (cut w.active w.passive g) [] next emitted → TakesInTime w.connection (cut w.active w.passive g) [] next emitted
    → HearsEach pair (map (in_capture bare) emitted) w.joined old (progress.Over by) joined mid → FinishesAs pair joined by mid new
    → GoesWithin how a p pair start gs hs g w None old new
over_with how a p pair start gs hs g w bare joined emitted next by old mid new it resets on time processes_input finishes =
    let t = terms_by how a start in
    let took = taken how a p start gs hs emitted g w next old it on time in
    let reception = heard_on how a p pair start gs hs emitted g w bare (progress.Over by) joined old mid it resets processes_input in
    let xs = counting start (resets_of (gs ++ g ∷ [])) (hs ++ emitted) in
    let had = sure_log t (counting start (resets_of gs) hs) in
    let sure = sure_then t xs (is_sure t.most xs (over_decided t.most nothing_spoken xs by reception.1.course_is)) in
    let report : IsReport how a p mid = report_stays how a p pair (progress.Over by) reception.0.0 w.joined.ends joined.ends old mid it.report reception.0.2 in
    let ends : EndsSession how a p pair (whole_log t xs) (sure_log t xs) by mid new =
    subst (λ (zs : List Item). EndsSession how a p pair (whole_log t xs) zs by mid new) (sym sure) (finishes.over how a p start xs by report reception.1) in
    inl (
      emitted,
      took.happened,
      over_for_good how a p pair start gs hs emitted g w next by had old new it.numbered took reception.1.course_is
          (over_then how a p pair (whole_log t xs) had (sure_log t xs) by w.joined joined old mid new it.report reception.0 ends),
    )

pub over_within : (how : Way) (a p : Parameters) (pair : Pair) (start : Start) (gs : List Brought) (hs : List TimedEvent) (g : Brought) (w : Within) (bare : List ℕ) (joined : Joined)
    → (emitted : List TimedEvent) (f : Followed) (by : Option Shortfall) (old mid new : Report) → Takes how a p start gs hs g w old
    → bare ≡ w.bare_resets.items ++ bare_if (g.segment.reset && is_none g.segment.acknowledged) g.segment.packet
    → TakesCut w.connection (cut w.active w.passive g) g.segment.packet [] emitted f
    → HearsEach pair (map (in_capture bare) emitted) w.joined old (progress.Over by) joined mid → FinishesAs pair joined by mid new
    → GoesWithin how a p pair start gs hs g w None old new
over_within how a p pair start gs hs g w bare joined emitted (followed.Proceeds next) by old mid new it resets takes processes_input finishes =
    over_with how a p pair start gs hs g w bare joined emitted next by old mid new it resets takes.1 takes.2 processes_input finishes
over_within how a p pair start gs hs g w bare joined emitted (followed.BothLogs lack) by old mid new it resets takes processes_input finishes =
    elim takes [
      | inl known ↦ over_with how a p pair start gs hs g w bare joined emitted known.0 by old mid new it resets known.4 known.5 processes_input finishes
      | inr full ↦
          absurd (never_over how a p start (counting start (resets_of gs) hs) w.joined joined by it.is.reception
          (processed_none how a p pair start gs hs w bare (progress.Over by) joined old mid it.report it.is
          (subst (λ (xs : List TimedEvent). HearsEach pair (map (in_capture bare) xs) w.joined old (progress.Over by) joined mid) full.1 processes_input)).1)
    ]

-- ---- it is known how it ends

nothing_after : (xs ys : List Entry) → xs ++ ys ≡ xs → ys ≡ []
nothing_after xs [] e = refl
nothing_after xs (y ∷ ys) e = absurd (omega (arith, length-append xs (y ∷ ys), ap length e))

nothing_happened : (hs : List TimedEvent) → map entry_as hs ≡ [] → hs ≡ []
nothing_happened [] e = refl
nothing_happened (h ∷ hs) e = absurd cc

-- nothing more happens
nothing_more : (hs more : List TimedEvent) (es : List Entry) → map entry_as hs ≡ es → map entry_as (hs ++ more) ≡ es → more ≡ []
nothing_more hs more es is all = nothing_happened more (nothing_after (map entry_as hs) (map entry_as more) (sym (map-append entry_as hs more) ∙ all ∙ sym is))

-- it went down in nothing that goes on
none_down : (most : ℕ) (start : Start) (bare : List ℕ) (hs : List TimedEvent) → course_by_events most (counting start bare hs) ≡ progress.Proceeds → ends_down (map entry_as hs) ≡ false
none_down most start bare [] proceeds = refl
none_down most start bare (h ∷ hs) proceeds = by_event h.event refl (none_down most start bare hs) proceeds
  where
    by_heard : (answer : LogResult) (packet : ℕ) → and_course answer packet (course_by_events most (counting start bare hs)) ≡ progress.Proceeds → course_by_events most (counting start bare hs) ≡ progress.Proceeds
    by_heard reception.Proceeds packet proceeds = proceeds
    by_heard reception.Down packet proceeds = absurd cc
    by_heard reception.Length packet proceeds = absurd cc

    by_counts : (b : Bool) → course_by_events most (cond b (in_capture bare h ∷ counting start bare hs) (counting start bare hs)) ≡ progress.Proceeds
        → course_by_events most (counting start bare hs) ≡ progress.Proceeds
    by_counts true proceeds = by_heard (reception_of most h.event) (h.packet - 3) proceeds
    by_counts false proceeds = proceeds

    by_event : (e : Event) → h.event ≡ e → (course_by_events most (counting start bare hs) ≡ progress.Proceeds → ends_down (map entry_as hs) ≡ false)
        → course_by_events most (cond (counts_by start.packet (h.packet - 3) h.event) (in_capture bare h ∷ counting start bare hs) (counting start bare hs)) ≡ progress.Proceeds
        → (is_down (reported_as h.event) || ends_down (map entry_as hs)) ≡ false
    by_event happens.Up is rest proceeds = rw is (rest (by_counts (counts_by start.packet (h.packet - 3) h.event) proceeds))
    by_event (happens.Message from octets) is rest proceeds = rw is (rest (by_counts (counts_by start.packet (h.packet - 3) h.event) proceeds))
    by_event happens.Down is rest proceeds =
        let on : and_course (reception_of most h.event) (h.packet - 3) (course_by_events most (counting start bare hs)) ≡ progress.Proceeds =
        ap (λ (b : Bool). course_by_events most (cond b (in_capture bare h ∷ counting start bare hs) (counting start bare hs)))
        (sym (ap (counts_by start.packet (h.packet - 3)) is)) ∙ proceeds in
        let bad : progress.Over None ≡ progress.Proceeds =
        ap (λ (x : LogResult). and_course x (h.packet - 3) (course_by_events most (counting start bare hs))) (sym (ap (reception_of most) is)) ∙ on in
        absurd cc

never : (b : Bool) → (b && false) ≡ false
never true = refl
never false = refl

-- one that is over goes down no more
down_stays : (e : Ending) (replaced : Bool) (lack : Option Shortfall) (log : List Item) → lack ≡ lack_behind (ending_in e) None → (e ≡ ending.Complete → ⊥)
    → (e ≡ ending.Closed → log ≡ []) → and_down_if (replaced && is_none lack) log ≡ log
down_stays ending.Closed replaced lack log is sure none =
    ap (and_down_if (replaced && is_none lack)) (none refl) ∙ by_replaced (replaced && is_none lack) ∙ sym (none refl)
  where
    by_replaced : (b : Bool) → and_down_if b [] ≡ []
    by_replaced true = refl
    by_replaced false = refl
down_stays ending.Complete replaced lack log is sure none = absurd (sure refl)
down_stays (ending.Lost packet) replaced lack log is sure none = rw is (ap (λ (b : Bool). and_down_if b log) (never replaced))
down_stays (ending.Differs packet) replaced lack log is sure none = rw is (ap (λ (b : Bool). and_down_if b log) (never replaced))

sure_in : (e : Ending) → (e ≡ ending.Complete → ⊥) → ending_in e ≡ ending.Complete → ⊥
sure_in ending.Closed sure is = absurd cc
sure_in ending.Complete sure is = sure refl
sure_in (ending.Lost packet) sure is = absurd cc
sure_in (ending.Differs packet) sure is = absurd cc

none_logged : (t : Terms) → whole_log t [] ≡ []
none_logged t = ap (after_front (supposed_items (before_of t.most []) t.begun)) (items_none t (asked (before_of t.most [])) 0)

closed_logs : (active passive : ℕ) (t : Terms) (start : Start) (gs : List Brought) (bare : List ℕ) (all : List TimedEvent) (e : Ending)
    → AreNumbered 0 (session_seen active passive gs) → map entry_as all ≡ emits (places (session_base active passive) [] (session_seen active passive gs))
    → e ≡ ended (places (session_base active passive) [] (session_seen active passive gs)) → course_by_events t.most (counting start bare all) ≡ progress.Proceeds
    → e ≡ ending.Closed → whole_log t (counting start bare all) ≡ []
closed_logs active passive t start gs bare all e numbered is ended_is proceeds closed =
    let base = session_base active passive in
    let seen = session_seen active passive gs in
    elim (closed_emits (places base [] seen) (all_rise base seen numbered) (sym ended_is ∙ closed)) [
      | inl none ↦ ap (λ (xs : List TimedEvent). whole_log t (counting start bare xs)) (nothing_happened all (is ∙ none)) ∙ none_logged t
      | inr down ↦ absurd (let no_down : ends_down (map entry_as all) ≡ false = none_down t.most start bare all proceeds in
          let went : ends_down (map entry_as all) ≡ true = ap ends_down is ∙ down in cc)
    ]

ended_for_good : (how : Way) (a p : Parameters) (pair : Pair) (start : Start) (gs : List Brought) (hs emitted : List TimedEvent) (g : Brought) (w : Within) (next : Connection) (e : Ending)
    → (lack : Option Shortfall) (had : List Item) (old new : Report) → AreNumbered 0 (session_seen w.active w.passive (gs ++ g ∷ [])) → Taken gs hs emitted g w next
    → next.ending ≡ Some e → lack ≡ lack_behind (ending_in e) None → course_within (most_by how a) start (gs ++ g ∷ []) (hs ++ emitted) ≡ progress.Proceeds
    → EndsSession how a p pair (whole_log (terms_by how a start) (counting start (resets_of (gs ++ g ∷ [])) (hs ++ emitted))) had lack old new
    → TellsForGood how a p pair start w.active w.passive (gs ++ g ∷ []) (hs ++ emitted) had old new
ended_for_good how a p pair start gs hs emitted g w next e lack had old new numbered took is lack_is proceeds ends = λ later more replaced missing after happened.
    let t = terms_by how a start in
    let base = session_base w.active w.passive in
    let all = hs ++ emitted in
    let hers = gs ++ g ∷ [] in
    let resets = resets_of (hers ++ later) in
    let xs = counting start (resets_of hers) all in
    let seen = session_seen w.active w.passive (hers ++ later) in
    let ps = places base [] seen in
    let split = seen_more w.active w.passive hers later in
    let sure = subst (λ (ss : List Seen). (map entry_as all ≡ emits (places base [] ss)) × (e ≡ ended (places base [] ss)) × (e ≡ ending.Complete → ⊥)) (sym split)
    (ending_sure next all e base (session_seen w.active w.passive hers) (map (cut w.active w.passive) later) is took.consistent (subst (AreNumbered 0) split after)) in
    let none : more ≡ [] = nothing_more all more (emits ps) sure.0 happened.tells_are in
    let same : counting start resets (all ++ more) ≡ xs =
    ap (λ (zs : List TimedEvent). counting start resets (all ++ zs)) none ∙ ap (counting start resets) (append-nil all)
    ∙ counting_later w.active w.passive start hers later all next after numbered took.consistent in
    let later_lack : lack_behind (ending_in (ended ps)) missing ≡ lack =
    sym (lack_lasts (ending_in e) lack missing lack_is (sure_in e sure.2) ∙ ap (λ (x : Ending). lack_behind (ending_in x) missing) sure.1) in
    let stays : and_down_if (replaced && is_none lack) (whole_log t xs) ≡ whole_log t xs =
    down_stays e replaced lack (whole_log t xs) lack_is sure.2
    (closed_logs w.active w.passive t start (hers ++ later) (resets_of hers) all e after sure.0 sure.1 proceeds) in
    subst (λ (zs : List TimedEvent). WritesEventAs how a p pair had replaced missing old new (ending_in (ended ps)) (course_by_events t.most zs) (whole_log t zs)) (sym same)
    (subst (λ (c : Progress). WritesEventAs how a p pair had replaced missing old new (ending_in (ended ps)) c (whole_log t xs)) (sym proceeds)
    (subst (λ (l : Option Shortfall). EndsSession how a p pair (and_down_if (replaced && is_none l) (whole_log t xs)) had l old new) (sym later_lack)
    (subst (λ (zs : List Item). EndsSession how a p pair zs had lack old new) (sym stays) ends)))

-- ---- it ends with a packet

pub ended_within : (how : Way) (a p : Parameters) (pair : Pair) (start : Start) (gs : List Brought) (hs : List TimedEvent) (g : Brought) (w : Within) (bare : List ℕ) (joined : Joined)
    → (emitted : List TimedEvent) (lack : Option Shortfall) (old mid new : Report) → Takes how a p start gs hs g w old
    → bare ≡ w.bare_resets.items ++ bare_if (g.segment.reset && is_none g.segment.acknowledged) g.segment.packet
    → TakesCut w.connection (cut w.active w.passive g) g.segment.packet [] emitted (followed.BothLogs lack)
    → HearsEach pair (map (in_capture bare) emitted) w.joined old progress.Proceeds joined mid → FinishesAs pair joined lack mid new
    → GoesWithin how a p pair start gs hs g w None old new
ended_within how a p pair start gs hs g w bare joined emitted lack old mid new it resets takes processes_input finishes =
    let t = terms_by how a start in
    let had = sure_log t (counting start (resets_of gs) hs) in
    elim takes [
      | inl known ↦
          let took = taken how a p start gs hs emitted g w known.0 old it known.4 known.5 in
          let reception = heard_on how a p pair start gs hs emitted g w bare progress.Proceeds joined old mid it resets processes_input in
          let xs = counting start (resets_of (gs ++ g ∷ [])) (hs ++ emitted) in
          let report : IsReport how a p mid = report_stays how a p pair progress.Proceeds reception.0.0 w.joined.ends joined.ends old mid it.report reception.0.2 in
          inl (
            emitted,
            took.happened,
            ended_for_good how a p pair start gs hs emitted g w known.0 known.1 lack had old new it.numbered took known.2 known.3 (stands_goes how a p start xs joined reception.1)
                (ends_then how a p pair (whole_log t xs) had (sure_log t xs) lack old mid new (further how a p pair had (sure_log t xs) w.joined joined old mid it.report reception.0)
                (finishes.ends how a p start xs report reception.1)),
          )
      | inr full ↦
          let xs = counting start (resets_of gs) hs in
          let reception = processed_none how a p pair start gs hs w bare progress.Proceeds joined old mid it.report it.is
          (subst (λ (xs : List TimedEvent). HearsEach pair (map (in_capture bare) xs) w.joined old progress.Proceeds joined mid) full.1 processes_input) in
          let report : IsReport how a p mid = report_stays how a p pair progress.Proceeds reception.0.0 w.joined.ends joined.ends old mid it.report reception.0.2 in
          let seen = session_seen w.active w.passive gs in
          let base = session_base w.active w.passive in
          let before : AreNumbered 0 seen = numbered_front 0 seen (cut w.active w.passive g ∷ []) (subst (AreNumbered 0) (seen_one w.active w.passive gs g) it.numbered) in
          inr (record {
            happens = happens_here w.active w.passive gs hs w.connection before it.is.consistent it.is.timed;
            more = within_more how a p start gs hs w before it.is;
            full = full.2 base seen hs (subst (λ (zs : List TimedEvent). StateInvariant w.connection zs base seen) (sym (append-nil hs)) it.is.consistent);
            ends = subst (λ (l : Option Shortfall). EndsSession how a p pair (whole_log t xs) had l old new) full.0
                (ends_then how a p pair (whole_log t xs) had had lack old mid new (further how a p pair had had w.joined joined old mid it.report reception.0)
                (finishes.ends how a p start xs report reception.1));
          })
    ]

-- ---- no packet follows

pub record BothLogs (how : Way) (a p : Parameters) (start : Start) (gs : List Brought) (hs : List TimedEvent) (w : Within) (old : Report) : Type 0 where
  pub report : IsReport how a p old
  pub numbered : AreNumbered 0 (session_seen w.active w.passive gs)
  pub is : IsWithin how a p start gs hs w

-- all was told
pub none_left : (how : Way) (a p : Parameters) (start : Start) (gs : List Brought) (hs emitted : List TimedEvent) (w : Within) (e : Ending) (old : Report) → BothLogs how a p start gs hs w old
    → EndsAs w.connection [] emitted e
    → (emitted ≡ []) × (e ≡ ended (places (session_base w.active w.passive) [] (session_seen w.active w.passive gs)))
none_left how a p start gs hs emitted w e old it ends =
    let base = session_base w.active w.passive in
    let seen = session_seen w.active w.passive gs in
    let end = ends base seen hs it.numbered (subst (λ (zs : List TimedEvent). StateInvariant w.connection zs base seen) (sym (append-nil hs)) it.is.consistent) in
    (nothing_more hs emitted (emits (places base [] seen)) (emitted_at_once w.connection hs base seen it.is.consistent it.numbered).0 end.0, end.1)

pub heard_left : (how : Way) (a p : Parameters) (pair : Pair) (start : Start) (gs : List Brought) (hs emitted : List TimedEvent) (w : Within) (bare : List ℕ) (c : Progress) (e : Ending)
    → (joined : Joined) (old new : Report) → BothLogs how a p start gs hs w old → EndsAs w.connection [] emitted e → HearsEach pair (map (in_capture bare) emitted) w.joined old c joined new
    → LogsMore pair c (sure_log (terms_by how a start) (counting start (resets_of gs) hs)) (sure_log (terms_by how a start) (counting start (resets_of gs) hs)) w.joined old joined new
    × StandsBy c how a p start (counting start (resets_of gs) hs) joined
heard_left how a p pair start gs hs emitted w bare c e joined old new it ends processes_input =
    processed_none how a p pair start gs hs w bare c joined old new it.report it.is
    (subst (λ (xs : List TimedEvent). HearsEach pair (map (in_capture bare) xs) w.joined old c joined new) (none_left how a p start gs hs emitted w e old it ends).0 processes_input)

-- so it isn't over by what is heard
pub left_over : (pair : Pair) (replaced : Bool) (missing : Option Shortfall) (emitted : List TimedEvent) (w : Within) (bare : List ℕ) (by : Option Shortfall) (e : Ending) (joined : Joined)
    → (old mid new : Report) → EndsAs w.connection [] emitted e → HearsEach pair (map (in_capture bare) emitted) w.joined old (progress.Over by) joined mid
    → EndsWithin pair replaced missing w old new
unfolding EndsWithin
left_over pair replaced missing emitted w bare by e joined old mid new ends processes_input = λ how a p start gs hs report numbered is.
    let it : BothLogs how a p start gs hs w old = record { report = report; numbered = numbered; is = is } in
    absurd (never_over how a p start (counting start (resets_of gs) hs) w.joined joined by is.reception
    (heard_left how a p pair start gs hs emitted w bare (progress.Over by) e joined old mid it ends processes_input).1)

-- what is told then, by what it lacks
abbrev EndsTo : Pair → Joined → Bool → Option Shortfall → Report → Report → Type 0
EndsTo pair joined true lack old new = (lack ≡ None) × ReplacedAs pair joined old new
EndsTo pair joined false lack old new = FinishesAs pair joined lack old new

left_tells : (pair : Pair) (joined : Joined) (b : Bool) (lack : Option Shortfall) (how : Way) (a p : Parameters) (start : Start) (xs : List TimedEvent) (old new : Report)
    → EndsTo pair joined b lack old new → IsReport how a p old → JoinedStands how a p start xs joined
    → EndsSession how a p pair (and_down_if b (whole_log (terms_by how a start) xs)) (sure_log (terms_by how a start) xs) lack old new
unfolding ReplacedAs
left_tells pair joined true lack how a p start xs old new ends report consistent =
    subst (λ (l : Option Shortfall). EndsSession how a p pair (and_down (whole_log (terms_by how a start) xs)) (sure_log (terms_by how a start) xs) l old new) (sym ends.0)
    (ends.1 how a p start xs report consistent)
left_tells pair joined false lack how a p start xs old new ends report consistent = ends.ends how a p start xs report consistent

left_ends : (pair : Pair) (replaced b : Bool) (missing lack : Option Shortfall) (emitted : List TimedEvent) (w : Within) (bare : List ℕ) (e : Ending) (joined : Joined) (old mid new : Report)
    → EndsAs w.connection [] emitted e → HearsEach pair (map (in_capture bare) emitted) w.joined old progress.Proceeds joined mid → lack ≡ lack_behind (ending_in e) missing
    → (replaced && is_none lack) ≡ b → EndsTo pair joined b lack mid new → EndsWithin pair replaced missing w old new
unfolding EndsWithin
left_ends pair replaced b missing lack emitted w bare e joined old mid new ends processes_input lack_is b_is to = λ how a p start gs hs report numbered is.
    let it : BothLogs how a p start gs hs w old = record { report = report; numbered = numbered; is = is } in
    let t = terms_by how a start in
    let xs = counting start (resets_of gs) hs in
    let had = sure_log t xs in
    let reception = heard_left how a p pair start gs hs emitted w bare progress.Proceeds e joined old mid it ends processes_input in
    let all : e ≡ ended (places (session_base w.active w.passive) [] (session_seen w.active w.passive gs)) = (none_left how a p start gs hs emitted w e old it ends).1 in
    let proceeds : course_by_events t.most xs ≡ progress.Proceeds = stands_goes how a p start xs w.joined is.reception in
    let after : IsReport how a p mid = report_stays how a p pair progress.Proceeds reception.0.0 w.joined.ends joined.ends old mid report reception.0.2 in
    let says : EndsSession how a p pair (and_down_if b (whole_log t xs)) had lack old new =
    ends_then how a p pair (and_down_if b (whole_log t xs)) had had lack old mid new (further how a p pair had had w.joined joined old mid report reception.0)
    (left_tells pair joined b lack how a p start xs mid new to after reception.1) in
    let here : EndsSession how a p pair (and_down_if (replaced && is_none lack) (whole_log t xs)) had lack old new =
    subst (λ (x : Bool). EndsSession how a p pair (and_down_if x (whole_log t xs)) had lack old new) (sym b_is) says in (
      happens_here w.active w.passive gs hs w.connection numbered is.consistent is.timed,
      subst (λ (c : Progress). WritesEventAs how a p pair had replaced missing old new (ending_in (ended (places (session_base w.active w.passive) [] (session_seen w.active w.passive gs)))) c (whole_log t xs)) (sym proceeds)
          (subst (λ (l : Option Shortfall). EndsSession how a p pair (and_down_if (replaced && is_none l) (whole_log t xs)) had l old new)
          (lack_is ∙ ap (λ (x : Ending). lack_behind (ending_in x) missing) all) here),
    )

pub left_replaced : {E : Type 0} (result : Result (Unit {0}) E) (pair : Pair) (missing lack : Option Shortfall) (emitted : List TimedEvent) (w : Within) (bare : List ℕ) (e : Ending)
    → (joined : Joined) (old mid new : Report) → EndsAs w.connection [] emitted e → HearsEach pair (map (in_capture bare) emitted) w.joined old progress.Proceeds joined mid
    → lack ≡ lack_behind (ending_in e) missing → is_none lack ≡ true → OnOk result (ReplacedAs pair joined mid new) → OnOk result (EndsWithin pair true missing w old new)
left_replaced (Ok done) pair missing lack emitted w bare e joined old mid new ends processes_input lack_is none replaced =
    left_ends pair true true missing lack emitted w bare e joined old mid new ends processes_input lack_is none (nothing lack none, replaced)
  where
    nothing : (l : Option Shortfall) → is_none l ≡ true → l ≡ None
    nothing None is = refl
    nothing (Some x) is = absurd cc
left_replaced (Err fault) pair missing lack emitted w bare e joined old mid new ends processes_input lack_is none replaced = tt

pub left_finished : {E : Type 0} (result : Result (Unit {0}) E) (pair : Pair) (replaced : Bool) (missing lack : Option Shortfall) (emitted : List TimedEvent) (w : Within) (bare : List ℕ)
    → (e : Ending) (joined : Joined) (old mid new : Report) → EndsAs w.connection [] emitted e → HearsEach pair (map (in_capture bare) emitted) w.joined old progress.Proceeds joined mid
    → lack ≡ lack_behind (ending_in e) missing → (replaced && is_none lack) ≡ false → OnOk result (FinishesAs pair joined lack mid new)
    → OnOk result (EndsWithin pair replaced missing w old new)
left_finished (Ok done) pair replaced missing lack emitted w bare e joined old mid new ends processes_input lack_is none finishes =
    left_ends pair replaced false missing lack emitted w bare e joined old mid new ends processes_input lack_is none finishes
left_finished (Err fault) pair replaced missing lack emitted w bare e joined old mid new ends processes_input lack_is none finishes = tt

-- ---- one packet, as it is answered

pub takes_goes : (pair : Pair) (g : Brought) (w : Within) (c : Connection) (f : Followed) (x : Progress) (bare : Vec ℕ Global) (joined : Joined) (emitted : List TimedEvent) (old new : Report)
    → bare.items ≡ w.bare_resets.items ++ bare_if (g.segment.reset && is_none g.segment.acknowledged) g.segment.packet
    → TakesCut w.connection (cut w.active w.passive g) g.segment.packet [] emitted f → HearsEach pair (map (in_capture bare.items) emitted) w.joined old x joined new
    → followed.Proceeds c ≡ over_as x f
    → TakesWithin pair g w (Some (record { connection = c; active = w.active; passive = w.passive; bare_resets = bare; joined = joined })) old new
unfolding TakesWithin
takes_goes pair g w c f progress.Proceeds bare joined emitted old new resets takes processes_input is = λ how a p start gs hs report numbered consistent.
    goes_within how a p pair start gs hs g w c bare joined emitted old new (record { report = report; numbered = numbered; is = consistent }) resets
    (subst (λ (x : Followed). TakesCut w.connection (cut w.active w.passive g) g.segment.packet [] emitted x) (sym is) takes) processes_input
takes_goes pair g w c f (progress.Over by) bare joined emitted old new resets takes processes_input is = absurd cc

pub takes_ends : (pair : Pair) (g : Brought) (w : Within) (lack : Option Shortfall) (f : Followed) (x : Progress) (bare : List ℕ) (joined : Joined) (emitted : List TimedEvent) (old mid new : Report)
    → bare ≡ w.bare_resets.items ++ bare_if (g.segment.reset && is_none g.segment.acknowledged) g.segment.packet
    → TakesCut w.connection (cut w.active w.passive g) g.segment.packet [] emitted f → HearsEach pair (map (in_capture bare) emitted) w.joined old x joined mid
    → followed.BothLogs lack ≡ over_as x f → FinishesAs pair joined lack mid new → TakesWithin pair g w None old new
unfolding TakesWithin
takes_ends pair g w lack f progress.Proceeds bare joined emitted old mid new resets takes processes_input is finishes = λ how a p start gs hs report numbered consistent.
    ended_within how a p pair start gs hs g w bare joined emitted lack old mid new (record { report = report; numbered = numbered; is = consistent }) resets
    (subst (λ (x : Followed). TakesCut w.connection (cut w.active w.passive g) g.segment.packet [] emitted x) (sym is) takes) processes_input finishes
takes_ends pair g w lack f (progress.Over by) bare joined emitted old mid new resets takes processes_input is finishes = λ how a p start gs hs report numbered consistent.
    let same : by ≡ lack = cc in
    over_within how a p pair start gs hs g w bare joined emitted f by old mid new (record { report = report; numbered = numbered; is = consistent }) resets takes processes_input
    (subst (λ (l : Option Shortfall). FinishesAs pair joined l mid new) (sym same) finishes)

pub not_replaced : (replaced none : Bool) → none ≡ false → (replaced && none) ≡ false
not_replaced replaced none is = ap (λ (b : Bool). replaced && b) is ∙ never replaced
