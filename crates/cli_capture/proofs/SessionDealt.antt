-- A session that was running before its capture, by its packets: what the table has of it is what the definition says.
use Rattle.std.proofs.Common.{◌≡◌, ◌≤◌, ◌<◌, ◌+◌, ◌-◌, ◌^◌, ◌++◌, ◌∷◌, min, ℕ, Bool, List, [], map, Option, Some, None, inl, inr, refl, sym, ap, subst, ◌∙◌, arith}
use Rattle.std.proofs.lemmas.List.{map-append}
use Rattle.hsms_machine.specs.Settings.{Parameters}
use Rattle.capture_tcp.specs.declared.packet.Segment.{Segment as Taken}
use Rattle.capture_tcp.specs.declared.events.TimedEvent.{TimedEvent}
use Rattle.capture_tcp.specs.Laws.{AreNumbered}
use Rattle.capture_log.specs.declared.socket_pair.Pair.{Pair}
use Rattle.capture_midstream.specs.declared.buffered_packet.BufferedPacket.{BufferedPacket}
use Rattle.capture_midstream.specs.declared.packet_buffer.Beginnings.{Beginnings}
use Rattle.capture_midstream.specs.declared.sync_packet.Start.{Start}
use Rattle.capture_midstream.specs.PacketBuffer.{BuffersPackets}
use Rattle.capture_midstream.specs.SyntheticHandshake.{IsStart}
use Rattle.cli_capture.specs.declared.tracked_connection.ConnectionState.{ConnectionState}
use Rattle.cli_capture.specs.declared.tracked_connection.ConnectionState.TheVariants as stage
use Rattle.cli_capture.specs.declared.midstream_sync.Joining.{Joining}
use Rattle.cli_capture.specs.declared.midstream_sync.Joining.TheVariants as joining
use Rattle.cli_capture.specs.declared.report.OutputMode.{OutputMode}
use Rattle.cli_capture.specs.declared.report.Report.{Report}
use Rattle.capture_errors.specs.declared.incomplete.Shortfall.{Shortfall}
use Rattle.cli_capture.specs.declared.midstream_connection.Within.{Within}
use Rattle.cli_capture.specs.Connections.{EndsKept, EndsRunning, Proceeds, GoesKept, GoesRunning, Packets, Session, buffered, of_session, way_as}
use Rattle.cli_capture.specs.MidstreamLog.{most_by}
use Rattle.cli_capture.specs.MidstreamSync.{EndsFrom, GoesThrough, IsOverFrom, brought}
use Rattle.cli_capture.specs.InnerMidstreamSync.{EndsGathered, EndsLeft, GathersOn, KeepsStage, TakesFrom, TakesStageWithin, stage_with, stage_within}
use Rattle.cli_capture.specs.InnerTableInvariant.{RiseUpTo, StageStands}
use Rattle.cli_capture.specs.Report.{session_of}
use Rattle.cli_capture.specs.MidstreamConnection.{Brought, Happens, IsOverWith, IsWithin, MayRunMore, TellsWithin, cut, logged_so_far, session_seen}
use Rattle.cli_capture.specs.InnerMidstreamConnection.{EndsWithin, GoesWithin, TakesWithin}
use Rattle.cli_capture.specs.OutputMode.{Way, to_log, to_verdicts}
use Rattle.cli_capture.specs.InnerOutputMode.{IsReport, TellsTo}
use Rattle.cli_capture.proofs.SessionBegins.{further_report}
use Rattle.cli_capture.proofs.SessionPackets.{ends_then, within_more}

-- ---- numbers of packets

pub rise_to : (first last : ℕ) (gs : List Brought) (g : Brought) → RiseUpTo first last gs → last < g.segment.packet → RiseUpTo first g.segment.packet (gs ++ g ∷ [])
rise_to first last [] g up past = (omega (arith, up, past), omega arith)
rise_to first last (x ∷ gs) g up past = (up.0, rise_to x.segment.packet last gs g up.1 past)

pub rise_later : (first last later : ℕ) (gs : List Brought) → RiseUpTo first last gs → last ≤ later → RiseUpTo first later gs
rise_later first last later [] up past = omega (arith, up, past)
rise_later first last later (x ∷ gs) up past = (up.0, rise_later x.segment.packet last later gs up.1 past)

rise_upto : (first last : ℕ) (gs : List Brought) → RiseUpTo first last gs → first ≤ last
rise_upto first last [] up = up
rise_upto first last (x ∷ gs) up =
    let one = up.0 in
    let rest = rise_upto x.segment.packet last gs up.1 in
    omega (arith, one, rest)

cut_numbers : (active passive first last : ℕ) (gs : List Brought) → RiseUpTo first last gs → last + 3 < 2 ^ 64 → AreNumbered (first + 3) (map (cut active passive) gs)
cut_numbers active passive first last [] up few = tt
cut_numbers active passive first last (g ∷ gs) up few =
    let one = up.0 in
    let rest = rise_upto g.segment.packet last gs up.1 in
    let same : g.segment.packet + 3 ≡ min (g.segment.packet + 3) (2 ^ 64 - 1) = omega (arith, rest, few) in (
      omega (arith, one, rest, few),
      subst (λ (n : ℕ). AreNumbered n (map (cut active passive) gs)) same (cut_numbers active passive g.segment.packet last gs up.1 few),
    )

pub session_numbers : (active passive last : ℕ) (gs : List Brought) → RiseUpTo 0 last gs → last + 3 < 2 ^ 64 → AreNumbered 0 (session_seen active passive gs)
session_numbers active passive last gs up few = (omega arith, (omega arith, (omega arith, cut_numbers active passive 0 last gs up few)))

pub rise_gathered : (last : ℕ) (segment : Taken) (octets : List ℕ) (gs all : List BufferedPacket) → BuffersPackets segment octets gs all → RiseUpTo 0 last (map brought gs) → last < segment.packet
    → RiseUpTo 0 segment.packet (map brought all)
rise_gathered last segment octets gs all gathers up past =
    let g = gathers.0 in
    let same : g.segment.packet ≡ segment.packet = ap (λ (s : Taken). s.packet) gathers.1 in
    subst (λ (xs : List BufferedPacket). RiseUpTo 0 segment.packet (map brought xs)) (sym gathers.3)
    (subst (λ (bs : List Brought). RiseUpTo 0 segment.packet bs) (sym (map-append brought gs (g ∷ [])))
    (subst (λ (n : ℕ). RiseUpTo 0 n (map brought gs ++ brought g ∷ [])) same
    (rise_to 0 last (map brought gs) (brought g) up (subst (λ (n : ℕ). last < n) (sym same) past))))

-- ---- how it is told

pub way_is : (how : Way) (manner : OutputMode) → TellsTo how manner → way_as manner ≡ how
way_is to_verdicts manner emits = ap way_as emits
way_is (to_log settings side) manner emits = ap way_as emits.1 ∙ ap (λ (s : Parameters). to_log s emits.0.side) emits.2 ∙ ap (to_log settings) emits.3

abbrev report_of : (how : Way) (r : Report) → TellsTo how r.manner → IsReport how r.active r.passive r
report_of how r manner = record { manner_is = manner; active = refl; passive = refl }

-- ---- where both directions begin

pub from_some : (how : Way) (a p : Parameters) (pair : Pair) (gs : List BufferedPacket) (both : Beginnings) (w : Within) (old new : Report) → IsReport how a p old
    → AreNumbered 0 (session_seen both.active.number both.passive.number (map brought gs)) → TakesFrom pair gs both (Some w) old new
    → (start : Start) × IsStart both.active.number both.passive.number gs start
    × GoesThrough how a p pair start both.active.number both.passive.number [] (map brought gs) (Some w) old new
unfolding TakesFrom
from_some how a p pair gs both w old new report numbered takes =
    elim takes [
      | inl none ↦ absurd (let bad = none.1 in cc)
      | inr it ↦ (it.0, it.1, it.2 how a p report numbered)
    ]

from_none : (how : Way) (a p : Parameters) (pair : Pair) (gs : List BufferedPacket) (both : Beginnings) (old new : Report) → IsReport how a p old
    → AreNumbered 0 (session_seen both.active.number both.passive.number (map brought gs)) → TakesFrom pair gs both None old new
    → IsOverFrom how a p pair both.active.number both.passive.number gs old new
unfolding TakesFrom
from_none how a p pair gs both old new report numbered takes =
    elim takes [
      | inl none ↦ inl (none.0, none.2)
      | inr it ↦ inr (it.0, it.1, it.2 how a p report numbered)
    ]

-- more may be told of it
runs_more : (how : Way) (a p : Parameters) (s : Session) (w : Within) (last : ℕ) → RiseUpTo 0 last s.packets → last + 3 < 2 ^ 64 → w.active ≡ s.active → w.passive ≡ s.passive
    → IsWithin how a p s.start s.packets s.happened w → MayRunMore (most_by how a) s.start s.active s.passive s.packets s.happened
runs_more how a p s w last up few active passive is =
    let more = within_more how a p s.start s.packets s.happened w (session_numbers w.active w.passive last s.packets up few) is in
    subst (λ (n : ℕ). MayRunMore (most_by how a) s.start n s.passive s.packets s.happened) active
    (subst (λ (n : ℕ). MayRunMore (most_by how a) s.start w.active n s.packets s.happened) passive more)

-- ---- one packet more, as long as packets are kept

abbrev KeptTakes : Way → Pair → Option ℕ → Brought → List BufferedPacket → ConnectionState → Report → Report → Type 0
KeptTakes how pair syn g gs next old new =
    (packets : Option Packets)
    × ((all : List BufferedPacket) × BuffersPackets g.segment g.octets gs all × GoesKept how old.active old.passive pair g.segment all packets old new)
    × StageStands how old.active old.passive g.segment.packet syn packets next

kept_by : (how : Way) (pair : Pair) (syn : Option ℕ) (last : ℕ) (g : Brought) (gs : List BufferedPacket) (j : Joining) (old new : Report) → TellsTo how old.manner → last < g.segment.packet
    → g.segment.packet + 3 < 2 ^ 64 → RiseUpTo 0 last (map brought gs) → GathersOn pair (session_of old.active) g.segment g.octets gs j old new
    → KeptTakes how pair syn g gs (stage_with j) old new
unfolding GathersOn
kept_by how pair syn last g gs (joining.BuffersPackets left) old new manner past few up on =
    let all = on.0 in (
      Some (buffered all),
      (all, on.1, (refl, on.2.1, on.2.2, on.2.3)),
      (ap (λ (xs : List BufferedPacket). stage.Joining xs) on.2.0, rise_gathered last g.segment g.octets gs all on.1 up past),
    )
kept_by how pair syn last g gs (joining.Within w) old new manner past few up on =
    let all = on.0 in
    let so = on.2.3 in
    let both = so.0 in
    let rise = rise_gathered last g.segment g.octets gs all on.1 up past in
    let it = from_some how old.active old.passive pair all both w old new (report_of how old manner)
    (session_numbers both.active.number both.passive.number g.segment.packet (map brought all) rise few) so.3 in
    let s : Session = record { active = both.active.number; passive = both.passive.number; start = it.0; packets = map brought all; happened = it.2.2 } in
    let more = runs_more how old.active old.passive s w g.segment.packet rise few it.2.0 it.2.1 it.2.4 in (
      Some (of_session s),
      (
        all,
        on.1,
        (
          both,
          record { last = on.2.0; is_last = on.2.1; due = on.2.2; begin = so.1; sure = so.2 },
          record { active_is = refl; passive_is = refl; starts = it.1; packets_are = refl; happens = it.2.3; more = more; logs = it.2.5 },
        ),
      ),
      (w, refl, it.2.0, it.2.1, it.2.4, rise),
    )
kept_by how pair syn last g gs joining.Over old new manner past few up on =
    let all = on.0 in
    let so = on.2.3 in
    let both = so.0 in
    let rise = rise_gathered last g.segment g.octets gs all on.1 up past in
    let over = from_none how old.active old.passive pair all both old new (report_of how old manner)
    (session_numbers both.active.number both.passive.number g.segment.packet (map brought all) rise few) so.3 in (
      None,
      (all, on.1, (both, record { last = on.2.0; is_last = on.2.1; due = on.2.2; begin = so.1; sure = so.2 }, over)),
      refl,
    )

pub kept_takes : (how : Way) (pair : Pair) (syn : Option ℕ) (last : ℕ) (g : Brought) (gs : List BufferedPacket) (next : ConnectionState) (old new : Report) → TellsTo how old.manner
    → last < g.segment.packet → g.segment.packet + 3 < 2 ^ 64 → RiseUpTo 0 last (map brought gs) → KeepsStage pair g.segment g.octets gs next old new
    → (packets : Option Packets) × Proceeds old.active old.passive pair g (Some (buffered gs)) packets old new
    × StageStands how old.active old.passive g.segment.packet syn packets next
kept_takes how pair syn last g gs next old new manner past few up keeps =
    let on = kept_by how pair syn last g gs keeps.0 old new manner past few up keeps.2 in (
      on.0,
      subst (λ (w : Way). (all : List BufferedPacket) × BuffersPackets g.segment g.octets gs all × GoesKept w old.active old.passive pair g.segment all on.0 old new)
          (sym (way_is how old.manner manner)) on.1,
      subst (λ (st : ConnectionState). StageStands how old.active old.passive g.segment.packet syn on.0 st) (sym keeps.1) on.2,
    )

-- ---- one packet more, once both directions have begun

abbrev RunningTakes : Way → Pair → Option ℕ → Session → Brought → ConnectionState → Report → Report → Type 0
RunningTakes how pair syn s g next old new =
    (packets : Option Packets) × GoesRunning how old.active old.passive pair s g packets old new
    × StageStands how old.active old.passive g.segment.packet syn packets next

running_by : (how : Way) (pair : Pair) (syn : Option ℕ) (s : Session) (g : Brought) (w : Within) (left : Option Within) (old new : Report) → w.active ≡ s.active → w.passive ≡ s.passive
    → RiseUpTo 0 g.segment.packet (s.packets ++ g ∷ []) → g.segment.packet + 3 < 2 ^ 64 → GoesWithin how old.active old.passive pair s.start s.packets s.happened g w left old new
    → RunningTakes how pair syn s g (stage_within left) old new
running_by how pair syn s g w None old new active passive up few proceeds =
    let had = logged_so_far how old.active s.start s.packets s.happened in (
      None,
      subst (λ (n : ℕ). IsOverWith how old.active old.passive pair s.start n s.passive s.packets s.happened g had old new) active
          (subst (λ (n : ℕ). IsOverWith how old.active old.passive pair s.start w.active n s.packets s.happened g had old new) passive proceeds),
      refl,
    )
running_by how pair syn s g w (Some next) old new active passive up few proceeds =
    let then : Session = record s { packets = s.packets ++ g ∷ []; happened = s.happened ++ proceeds.2 } in (
      Some (of_session then),
      record {
        emitted = proceeds.2;
        is = refl;
        happens = subst (λ (n : ℕ). Happens n s.passive then.packets then.happened) active
            (subst (λ (n : ℕ). Happens w.active n then.packets then.happened) passive proceeds.3);
        more = runs_more how old.active old.passive then next g.segment.packet up few (proceeds.0 ∙ active) (proceeds.1 ∙ passive) proceeds.4;
        logs = proceeds.5;
      },
      (next, refl, proceeds.0 ∙ active, proceeds.1 ∙ passive, proceeds.4, up),
    )

within_takes : (how : Way) (a p : Parameters) (pair : Pair) (start : Start) (gs : List Brought) (hs : List TimedEvent) (g : Brought) (w : Within) (left : Option Within) (old new : Report)
    → IsReport how a p old → AreNumbered 0 (session_seen w.active w.passive (gs ++ g ∷ [])) → IsWithin how a p start gs hs w → TakesWithin pair g w left old new
    → GoesWithin how a p pair start gs hs g w left old new
unfolding TakesWithin
within_takes how a p pair start gs hs g w left old new report numbered is takes = takes how a p start gs hs report numbered is

pub running_takes : (how : Way) (pair : Pair) (syn : Option ℕ) (last : ℕ) (s : Session) (g : Brought) (w : Within) (next : ConnectionState) (old new : Report) → TellsTo how old.manner
    → last < g.segment.packet → g.segment.packet + 3 < 2 ^ 64 → w.active ≡ s.active → w.passive ≡ s.passive
    → IsWithin how old.active old.passive s.start s.packets s.happened w → RiseUpTo 0 last s.packets → TakesStageWithin pair g w next old new
    → (packets : Option Packets) × Proceeds old.active old.passive pair g (Some (of_session s)) packets old new
    × StageStands how old.active old.passive g.segment.packet syn packets next
running_takes how pair syn last s g w next old new manner past few active passive is up takes =
    let rise = rise_to 0 last s.packets g up past in
    let proceeds = within_takes how old.active old.passive pair s.start s.packets s.happened g w takes.0 old new (report_of how old manner)
    (session_numbers w.active w.passive g.segment.packet (s.packets ++ g ∷ []) rise few) is takes.2 in
    let on = running_by how pair syn s g w takes.0 old new active passive rise few proceeds in (
      on.0,
      subst (λ (x : Way). GoesRunning x old.active old.passive pair s g on.0 old new) (sym (way_is how old.manner manner)) on.1,
      subst (λ (st : ConnectionState). StageStands how old.active old.passive g.segment.packet syn on.0 st) (sym takes.1) on.2,
    )

-- ---- no packet follows

within_ends : (how : Way) (a p : Parameters) (pair : Pair) (replaced : Bool) (missing : Option Shortfall) (start : Start) (gs : List Brought) (hs : List TimedEvent) (w : Within) (old new : Report)
    → IsReport how a p old → AreNumbered 0 (session_seen w.active w.passive gs) → IsWithin how a p start gs hs w → EndsWithin pair replaced missing w old new
    → TellsWithin how a p pair start w.active w.passive gs hs (logged_so_far how a start gs hs) replaced missing old new
unfolding EndsWithin
within_ends how a p pair replaced missing start gs hs w old new report numbered is ends = (ends how a p start gs hs report numbered is).1

pub running_ends : (how : Way) (pair : Pair) (replaced : Bool) (missing : Option Shortfall) (last : ℕ) (s : Session) (w : Within) (old new : Report) → TellsTo how old.manner
    → last + 3 < 2 ^ 64 → w.active ≡ s.active → w.passive ≡ s.passive → IsWithin how old.active old.passive s.start s.packets s.happened w → RiseUpTo 0 last s.packets
    → EndsWithin pair replaced missing w old new → EndsRunning (way_as old.manner) old.active old.passive pair replaced missing s old new
running_ends how pair replaced missing last s w old new manner few active passive is up ends =
    let had = logged_so_far how old.active s.start s.packets s.happened in
    let emits = within_ends how old.active old.passive pair replaced missing s.start s.packets s.happened w old new (report_of how old manner)
    (session_numbers w.active w.passive last s.packets up few) is ends in
    subst (λ (x : Way). EndsRunning x old.active old.passive pair replaced missing s old new) (sym (way_is how old.manner manner))
    (subst (λ (n : ℕ). TellsWithin how old.active old.passive pair s.start n s.passive s.packets s.happened had replaced missing old new) active
    (subst (λ (n : ℕ). TellsWithin how old.active old.passive pair s.start w.active n s.packets s.happened had replaced missing old new) passive emits))

kept_left : (how : Way) (pair : Pair) (replaced : Bool) (missing : Option Shortfall) (gs : List BufferedPacket) (both : Beginnings) (left : Option Within) (old mid new : Report)
    → TellsTo how old.manner → AreNumbered 0 (session_seen both.active.number both.passive.number (map brought gs)) → TakesFrom pair gs both left old mid
    → EndsLeft pair replaced missing left mid new
    → EndsFrom how old.active old.passive pair replaced missing both.active.number both.passive.number gs old new
kept_left how pair replaced missing gs both None old mid new manner numbered takes ends =
    inl (subst (λ (r : Report). IsOverFrom how old.active old.passive pair both.active.number both.passive.number gs old r) (sym ends)
    (from_none how old.active old.passive pair gs both old mid (report_of how old manner) numbered takes))
kept_left how pair replaced missing gs both (Some w) old mid new manner numbered takes ends =
    let a = old.active in
    let p = old.passive in
    let active = both.active.number in
    let passive = both.passive.number in
    let bs = map brought gs in
    let it = from_some how a p pair gs both w old mid (report_of how old manner) numbered takes in
    let hs = it.2.2 in
    let has = logged_so_far how a it.0 bs hs in
    let after = further_report how a p pair [] has old mid (report_of how old manner) it.2.5 in
    let n = subst (λ (k : ℕ). AreNumbered 0 (session_seen k w.passive bs)) (sym it.2.0)
    (subst (λ (k : ℕ). AreNumbered 0 (session_seen active k bs)) (sym it.2.1) numbered) in
    let emits = within_ends how a p pair replaced missing it.0 bs hs w mid new after n it.2.4 ends in
    let here : TellsWithin how a p pair it.0 active passive bs hs has replaced missing mid new =
    subst (λ (k : ℕ). TellsWithin how a p pair it.0 k passive bs hs has replaced missing mid new) it.2.0
    (subst (λ (k : ℕ). TellsWithin how a p pair it.0 w.active k bs hs has replaced missing mid new) it.2.1 emits) in
    inr (it.0, it.1, hs, it.2.3, ends_then how a p pair _ [] has _ old mid new it.2.5 here)

pub kept_ends : (how : Way) (pair : Pair) (replaced : Bool) (missing : Option Shortfall) (last : ℕ) (gs : List BufferedPacket) (old new : Report) → TellsTo how old.manner
    → last + 3 < 2 ^ 64 → RiseUpTo 0 last (map brought gs) → EndsGathered pair replaced missing gs old new
    → EndsKept (way_as old.manner) old.active old.passive pair replaced missing gs old new
kept_ends how pair replaced missing last gs old new manner few up ends =
    let so = ends.2 in
    let both = so.0 in
    subst (λ (x : Way). EndsKept x old.active old.passive pair replaced missing gs old new) (sym (way_is how old.manner manner)) (
      both,
      so.1,
      kept_left how pair replaced missing gs both ends.0 old ends.1 new manner (session_numbers both.active.number both.passive.number last (map brought gs) up few) so.3 ends.3,
    )
