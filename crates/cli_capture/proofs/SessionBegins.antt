-- The packets of a session that was running before its capture, once both of its directions have begun.
use Rattle.std.proofs.Common.{◌≡◌, ◌++◌, ◌∷◌, ℕ, Bool, true, false, List, [], map, Option, Some, None, refl, sym, ap, subst, ◌∙◌, append_assoc, inl, inr}
use Rattle.std.specs.Prelude.{◌↔◌, IfSome, OnOk, Result, Ok, Err}
use Rattle.std.proofs.lemmas.List.{append-nil}
use Rattle.hsms_machine.specs.Settings.{Parameters}
use Rattle.capture_tcp.specs.declared.packet.Segment.{Segment}
use Rattle.capture_tcp.specs.declared.events.TimedEvent.{TimedEvent}
use Rattle.capture_tcp.specs.Laws.{AreNumbered}
use Rattle.capture_tcp.proofs.LastingFacts.{numbered_front}
use Rattle.capture_log.specs.declared.socket_pair.Pair.{Pair}
use Rattle.capture_midstream.specs.declared.buffered_packet.BufferedPacket.{BufferedPacket}
use Rattle.capture_midstream.specs.declared.packet_buffer.Beginnings.{Beginnings}
use Rattle.capture_midstream.specs.declared.sync_packet.Start.{Start}
use Rattle.capture_midstream.specs.declared.session_filter.Session.{Session}
use Rattle.capture_midstream.specs.PacketBuffer.{AreBeginnings, AreSure, AreUnsure, BuffersPackets, IsDue, IsFull}
use Rattle.capture_midstream.specs.SyntheticHandshake.{IsStart, has_both}
use Rattle.cli_capture.specs.declared.progress.Progress.TheVariants as progress
use Rattle.cli_capture.specs.declared.midstream_sync.Joining.{Joining}
use Rattle.cli_capture.specs.declared.midstream_sync.Joining.TheVariants as joining
use Rattle.cli_capture.specs.declared.report.Report.{Report}
use Rattle.capture_errors.specs.declared.incomplete.Shortfall.{Shortfall}
use Rattle.cli_capture.specs.declared.midstream_connection.Within.{Within}
use Rattle.cli_capture.specs.OutputMode.{Way, to_log, to_verdicts}
use Rattle.cli_capture.specs.InnerOutputMode.{IsReport}
use Rattle.cli_capture.specs.MidstreamItems.{Item}
use Rattle.cli_capture.specs.MidstreamLog.{terms_by}
use Rattle.cli_capture.specs.MidstreamSync.{GoesThrough, IsLast, brought}
use Rattle.cli_capture.specs.InnerMidstreamSync.{BeginsSo, BeginsWith, EndsGathered, GathersOn, TakesFrom, TakesThrough}
use Rattle.cli_capture.specs.Report.{session_of}
use Rattle.cli_capture.specs.MidstreamConnection.{Brought, IsOverWith, LogsFurther, cut, logged_so_far, session_seen}
use Rattle.cli_capture.specs.InnerMidstreamConnection.{BeginsWithin, EndsWithin, GoesWithin, TakesWithin}
use Rattle.cli_capture.specs.Assumptions.{Terms, decided_by, sure_log}
use Rattle.cli_capture.proofs.Taking.{logs_then, takes_nothing}
use Rattle.cli_capture.proofs.Closing.{takes_logs}
use Rattle.cli_capture.proofs.Running.{seen_more}
use Rattle.cli_capture.proofs.SessionPackets.{ends_then, happens_here, seen_one}

-- ---- what is logged, piece by piece

further_none : (how : Way) (pair : Pair) (xs : List Item) (r : Report) → LogsFurther how pair xs xs r r
further_none to_verdicts pair xs r = refl
further_none (to_log settings side) pair xs r =
    ([], sym (append-nil xs), λ j log. takes_logs pair progress.Proceeds [] None None r r (takes_nothing pair None r) j log)

further_then : (how : Way) (pair : Pair) (one two three : List Item) (old mid new : Report) → LogsFurther how pair one two old mid → LogsFurther how pair two three mid new
    → LogsFurther how pair one three old new
further_then to_verdicts pair one two three old mid new first second = second ∙ first
further_then (to_log settings side) pair one two three old mid new first second = (
  first.0 ++ second.0,
  second.1 ∙ ap (λ (ys : List Item). ys ++ second.0) first.1 ∙ append_assoc one first.0 second.0,
  λ j log.
      let x = first.2 j log in
      logs_then pair first.0 second.0 progress.Proceeds j old mid new x (second.2 x.next x.manner_is),
)

pub further_report : (how : Way) (a p : Parameters) (pair : Pair) (one two : List Item) (old new : Report) → IsReport how a p old → LogsFurther how pair one two old new → IsReport how a p new
further_report to_verdicts a p pair one two old new report further = subst (λ (r : Report). IsReport to_verdicts a p r) (sym further) report
further_report (to_log settings side) a p pair one two old new report further =
    let log = report.manner_is in
    let it = further.2 log.0 log.1 in
    record {
      manner_is = (it.next, it.manner_is, it.settings_are ∙ log.2, it.side_is ∙ log.3);
      active = ap (λ (r : Report). r.active) it.same ∙ report.active;
      passive = ap (λ (r : Report). r.passive) it.same ∙ report.passive;
    }

over_then : (how : Way) (a p : Parameters) (pair : Pair) (start : Start) (active passive : ℕ) (gs : List Brought) (hs : List TimedEvent) (g : Brought) (had has : List Item)
    → (old mid new : Report) → LogsFurther how pair had has old mid → IsOverWith how a p pair start active passive gs hs g has mid new
    → IsOverWith how a p pair start active passive gs hs g had old new
over_then how a p pair start active passive gs hs g had has old mid new further over =
    elim over [
      | inl good ↦
          inl (
            good.0,
            good.1,
            λ later more replaced missing numbered happens.
                ends_then how a p pair _ had has _ old mid new further (good.2 later more replaced missing numbered happens),
          )
      | inr up ↦
          inr (record { happens = up.happens; more = up.more; full = up.full; ends = ends_then how a p pair _ had has _ old mid new further up.ends })
    ]

-- ---- packet by packet

pub through_none : (pair : Pair) (w : Within) (r : Report) → TakesThrough pair [] w (Some w) r r
unfolding TakesThrough
through_none pair w r = λ how a p start gs hs report numbered is.
    let all : gs ++ [] ≡ gs = append-nil gs in
    let had = logged_so_far how a start gs hs in
    let before = subst (λ (xs : List Brought). AreNumbered 0 (session_seen w.active w.passive xs)) all numbered in
    subst (λ (xs : List Brought). GoesThrough how a p pair start w.active w.passive had xs (Some w) r r) (sym all)
    (refl, refl, hs, happens_here w.active w.passive gs hs w.connection before is.consistent is.timed, is, further_none how pair had r)

pub through_then : (pair : Pair) (xs : List Brought) (g : Brought) (w mid : Within) (left : Option Within) (old between new : Report) → TakesThrough pair xs w (Some mid) old between
    → TakesWithin pair g mid left between new → TakesThrough pair (xs ++ g ∷ []) w left old new
unfolding TakesThrough TakesWithin
through_then pair xs g w mid left old between new first second = λ how a p start gs hs report numbered is.
    let had = logged_so_far how a start gs hs in
    let all : gs ++ (xs ++ g ∷ []) ≡ (gs ++ xs) ++ g ∷ [] = sym (append_assoc gs xs (g ∷ [])) in
    let n = subst (λ (zs : List Brought). AreNumbered 0 (session_seen w.active w.passive zs)) all numbered in
    let front = numbered_front 0 (session_seen w.active w.passive (gs ++ xs)) (cut w.active w.passive g ∷ [])
    (subst (AreNumbered 0) (seen_one w.active w.passive (gs ++ xs) g) n) in
    let one = first how a p start gs hs report front is in
    let after = further_report how a p pair had (logged_so_far how a start (gs ++ xs) one.2) old between report one.5 in
    let numbered_mid = subst (λ (k : ℕ). AreNumbered 0 (session_seen k mid.passive ((gs ++ xs) ++ g ∷ []))) (sym one.0)
    (subst (λ (k : ℕ). AreNumbered 0 (session_seen w.active k ((gs ++ xs) ++ g ∷ []))) (sym one.1) n) in
    let two = second how a p start (gs ++ xs) one.2 after numbered_mid one.4 in
    subst (λ (zs : List Brought). GoesThrough how a p pair start w.active w.passive had zs left old new) (sym all)
    (subst (λ (k : ℕ). GoesThrough how a p pair start k w.passive had ((gs ++ xs) ++ g ∷ []) left old new) one.0
    (subst (λ (k : ℕ). GoesThrough how a p pair start mid.active k had ((gs ++ xs) ++ g ∷ []) left old new) one.1
    (by_left left how a p start (gs ++ xs) one.2 had one.5 two)))
  where
    by_left : (l : Option Within) (how : Way) (a p : Parameters) (start : Start) (gs : List Brought) (hs : List TimedEvent) (had : List Item)
        → LogsFurther how pair had (logged_so_far how a start gs hs) old between → GoesWithin how a p pair start gs hs g mid l between new
        → GoesThrough how a p pair start mid.active mid.passive had (gs ++ g ∷ []) l old new
    by_left None how a p start gs hs had further over =
        (gs, g, [], refl, hs, over_then how a p pair start mid.active mid.passive gs hs g had (logged_so_far how a start gs hs) old between new further over)
    by_left (Some next) how a p start gs hs had further proceeds = (
      proceeds.0,
      proceeds.1,
      hs ++ proceeds.2,
      proceeds.3,
      proceeds.4,
      further_then how pair had (logged_so_far how a start gs hs) (logged_so_far how a start (gs ++ g ∷ []) (hs ++ proceeds.2)) old between new further proceeds.5,
    )

pub through_over : (pair : Pair) (xs ys : List Brought) (w : Within) (old new : Report) → TakesThrough pair xs w None old new → TakesThrough pair (xs ++ ys) w None old new
unfolding TakesThrough
through_over pair xs ys w old new first = λ how a p start gs hs report numbered is.
    let all : gs ++ (xs ++ ys) ≡ (gs ++ xs) ++ ys = sym (append_assoc gs xs ys) in
    let n = subst (λ (zs : List Brought). AreNumbered 0 (session_seen w.active w.passive zs)) all numbered in
    let front = numbered_front 0 (session_seen w.active w.passive (gs ++ xs)) (map (cut w.active w.passive) ys)
    (subst (AreNumbered 0) (seen_more w.active w.passive (gs ++ xs) ys) n) in
    let one = first how a p start gs hs report front is in
    (one.0, one.1, one.2 ++ ys, all ∙ ap (λ (zs : List Brought). zs ++ ys) one.3 ∙ append_assoc one.0 (one.1 ∷ one.2) ys, one.4, one.5)

-- ---- from where both directions begin

pub nothing_sure : (t : Terms) → sure_log t [] ≡ []
unfolding decided_by
nothing_sure t = refl

pub takes_from : (pair : Pair) (gs : List BufferedPacket) (both : Beginnings) (start : Start) (w : Within) (left : Option Within) (old new : Report)
    → IsStart both.active.number both.passive.number gs start → BeginsWithin both.active.number both.passive.number start w → TakesThrough pair (map brought gs) w left old new
    → TakesFrom pair gs both left old new
unfolding TakesFrom TakesThrough
takes_from pair gs both start w left old new is begins through =
    inr (
      start,
      is,
      λ how a p report numbered.
          let active = both.active.number in
          let passive = both.passive.number in
          let bs = map brought gs in
          let n = subst (λ (k : ℕ). AreNumbered 0 (session_seen k w.passive bs)) (sym begins.active_is)
          (subst (λ (k : ℕ). AreNumbered 0 (session_seen active k bs)) (sym begins.passive_is) numbered) in
          let t = terms_by how a start in
          let had : logged_so_far how a start [] begins.happened ≡ [] = ap (sure_log t) begins.none ∙ nothing_sure t in
          subst (λ (k : ℕ). GoesThrough how a p pair start k passive [] bs left old new) begins.active_is
          (subst (λ (k : ℕ). GoesThrough how a p pair start w.active k [] bs left old new) begins.passive_is
          (subst (λ (xs : List Item). GoesThrough how a p pair start w.active w.passive xs bs left old new) had
          (through how a p start [] begins.happened report n (begins.is how a p)))),
    )

pub takes_none : (pair : Pair) (gs : List BufferedPacket) (both : Beginnings) (r : Report) → has_both both.active.number both.passive.number gs ≡ false → TakesFrom pair gs both None r r
unfolding TakesFrom
takes_none pair gs both r none = inl (none, refl, refl)

pub begins_so : (pair : Pair) (s : Session) (gs : List BufferedPacket) (last : Bool) (left : Option Within) (found : Option Beginnings) (both : Beginnings) (old new : Report)
    → found ≡ Some both → IfSome found (AreBeginnings s gs) → (last ≡ false → IfSome found AreSure) → TakesFrom pair gs both left old new → BeginsSo pair s gs last left old new
begins_so pair s gs last left found both old new is begin sure takes = (
  both,
  subst (λ (x : Option Beginnings). IfSome x (AreBeginnings s gs)) is begin,
  λ more. subst (λ (x : Option Beginnings). IfSome x AreSure) is (sure more),
  takes,
)

pub begins_none : (pair : Pair) (s : Session) (gs : List BufferedPacket) (last : Bool) (found : Option Beginnings) (r : Report) → found ≡ None
    → (found ≡ None → (last ≡ false) × AreUnsure s gs) → BeginsWith pair s gs last (joining.BuffersPackets gs) r r
unfolding BeginsWith
begins_none pair s gs last found r is none = (refl, refl, (none is).0, (none is).1)

pub begins_within_it : (pair : Pair) (s : Session) (gs : List BufferedPacket) (last : Bool) (w : Within) (old new : Report) → BeginsSo pair s gs last (Some w) old new
    → BeginsWith pair s gs last (joining.Within w) old new
unfolding BeginsWith
begins_within_it pair s gs last w old new so = so

pub begins_over : (pair : Pair) (s : Session) (gs : List BufferedPacket) (last : Bool) (old new : Report) → BeginsSo pair s gs last None old new
    → BeginsWith pair s gs last joining.Over old new
unfolding BeginsWith
begins_over pair s gs last old new so = so

-- ---- one packet more is kept

never_last : (last : Bool) (segment : Segment) (gs : List BufferedPacket) → ((last ≡ true) ↔ IsLast segment gs) → last ≡ false → IsLast segment gs → ⊥
never_last last segment gs is more l = let bad : true ≡ false = sym (is.1 l) ∙ more in cc

pub keeps_on : (pair : Pair) (s : Session) (segment : Segment) (octets : List ℕ) (gs all : List BufferedPacket) (last : Bool) (r : Report) → BuffersPackets segment octets gs all
    → ((last ≡ true) ↔ IsLast segment all) → last ≡ false → (IsDue all → ⊥) → GathersOn pair s segment octets gs (joining.BuffersPackets all) r r
unfolding GathersOn
keeps_on pair s segment octets gs all last r gathers is more due = (all, gathers, (refl, refl, never_last last segment all is more, inl due))

pub gathers_on : (pair : Pair) (s : Session) (segment : Segment) (octets : List ℕ) (gs all : List BufferedPacket) (last : Bool) (j : Joining) (old new : Report)
    → BuffersPackets segment octets gs all → ((last ≡ true) ↔ IsLast segment all) → (last ≡ false → IsDue all) → BeginsWith pair s all last j old new
    → GathersOn pair s segment octets gs j old new
unfolding BeginsWith GathersOn
gathers_on pair s segment octets gs all last (joining.BuffersPackets left) old new gathers is due begins =
    (all, gathers, (begins.0, begins.1, never_last last segment all is begins.2, inr begins.3))
gathers_on pair s segment octets gs all last (joining.Within w) old new gathers is due begins = (all, gathers, (last, is, due, begins))
gathers_on pair s segment octets gs all last joining.Over old new gathers is due begins = (all, gathers, (last, is, due, begins))

pub last_reset : (last : Bool) (segment : Segment) (gs : List BufferedPacket) → segment.reset ≡ true → last ≡ true → (last ≡ true) ↔ IsLast segment gs
last_reset last segment gs reset is = (λ yes_is. inl reset, λ l. is)

pub last_full : (last : Bool) (segment : Segment) (gs : List BufferedPacket) (full : Bool) → segment.reset ≡ false → last ≡ full → ((full ≡ true) ↔ IsFull gs)
    → (last ≡ true) ↔ IsLast segment gs
last_full last segment gs full none is fills = (
  λ yes_is. inr (fills.0 (sym is ∙ yes_is)),
  λ l.
      elim l [
        | inl reset ↦ absurd (let bad : true ≡ false = sym reset ∙ none in cc)
        | inr many ↦ is ∙ fills.1 many
      ],
)

-- ---- no packet follows

pub left_kept : (pair : Pair) (replaced : Bool) (missing : Option Shortfall) (gs left : List BufferedPacket) (old new : Report) → BeginsWith pair (session_of old.active) gs true (joining.BuffersPackets left) old new
    → EndsGathered pair replaced missing gs old new
unfolding BeginsWith
left_kept pair replaced missing gs left old new begins = absurd (let bad : true ≡ false = begins.2 in cc)

pub left_over : (pair : Pair) (replaced : Bool) (missing : Option Shortfall) (gs : List BufferedPacket) (old new : Report) → BeginsWith pair (session_of old.active) gs true joining.Over old new
    → EndsGathered pair replaced missing gs old new
unfolding BeginsWith
left_over pair replaced missing gs old new begins = (None, new, begins, refl)

pub left_within : {E : Type 0} (result : Result (Unit {0}) E) (pair : Pair) (replaced : Bool) (missing : Option Shortfall) (gs : List BufferedPacket) (w : Within) (old mid new : Report)
    → BeginsWith pair (session_of old.active) gs true (joining.Within w) old mid → OnOk result (EndsWithin pair replaced missing w mid new)
    → OnOk result (EndsGathered pair replaced missing gs old new)
unfolding BeginsWith
left_within (Ok done) pair replaced missing gs w old mid new begins ends = (Some w, mid, begins, ends)
left_within (Err fault) pair replaced missing gs w old mid new begins ends = tt
