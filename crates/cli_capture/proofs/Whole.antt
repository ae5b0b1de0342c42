-- A capture file: what is told of it is what the definition says of its packets.
use Rattle.std.proofs.Common.{◌≡◌, ◌≤◌, ◌<◌, ◌+◌, ◌-◌, ◌^◌, ◌++◌, ◌∷◌, ℕ, Bool, true, false, List, [], take, drop, Option, Some, None, inl, inr, refl, sym, ap, subst, ◌∙◌, append_assoc, arith}
use Rattle.std.proofs.lemmas.List.{append-nil}
use Rattle.std.specs.Prelude.{IfOk, OnOk, Result, Ok, Err, is_some}
use Rattle.hsms_frame.specs.Io.{Grows, IfRecorded}
use Rattle.cli_options.specs.declared.capture_options.Capturing.{Capturing}
use Rattle.capture_errors.specs.declared.capture_error.CaptureError.{CaptureError}
use Rattle.capture_pcap.specs.declared.fault.FileFault.{FileFault}
use Rattle.capture_pcap.specs.declared.fault.FileFault.TheVariants as file
use Rattle.capture_pcap.specs.declared.next_block.Record.{Record}
use Rattle.capture_pcap.specs.declared.packet_reader.Step.{Step}
use Rattle.capture_pcap.specs.declared.packet_reader.Step.TheVariants as step
use Rattle.capture_pcap.specs.declared.segment.Reason.{Reason}
use Rattle.capture_pcap.specs.declared.segment.Segment.{Segment}
use Rattle.capture_pcap.specs.declared.segment.Shown.{Shown}
use Rattle.capture_pcap.specs.declared.segment.Shown.TheVariants as shown
use Rattle.capture_pcap.specs.BlockReader.{CountsOn, OpensAs, Reading, ReadsOn, StepsAs, packet_of}
use Rattle.capture_pcap.specs.BlockReader.{Emits as TellsPackets}
use Rattle.capture_pcap.specs.File.{Packet, Ending, ReadsFile, complete, cut, faulty}
use Rattle.capture_pcap.specs.Laws.{EachRestIsRead}
use Rattle.capture_pcap.specs.Segment.{segment_at}
use Rattle.capture_log.specs.declared.stop.Stop.{Stop}
use Rattle.cli_capture.specs.declared.report.OutputMode.{OutputMode}
use Rattle.cli_capture.specs.declared.report.Report.{Report}
use Rattle.capture_errors.specs.declared.incomplete.Shortfall.{Shortfall}
use Rattle.cli_capture.specs.declared.connection_table.Capture.{Capture}
use Rattle.cli_capture.specs.declared.connection_table.Table.{Table}
use Rattle.cli_capture.specs.InnerCommand.{IsMissingBy}
use Rattle.cli_capture.specs.Connections.{Captured, Connections, DealsPacket, EndsAll}
use Rattle.cli_capture.specs.FileDispatch.{BeginsAs, CapturesFile, DealsEach, DealsOne, DealsShown, IsBlank, LacksBy, PutsOut, Wanted, none_yet}
use Rattle.cli_capture.specs.OutputMode.{Way, to_log, to_verdicts}
use Rattle.cli_capture.specs.InnerOutputMode.{TellsTo}
use Rattle.cli_capture.specs.TableInvariant.{wanted_of, way_of}
use Rattle.cli_capture.specs.InnerTableInvariant.{AreSame, ConcludesAsDealt, EndsAsDealt, FinishesAsDealt, IsReportOf, IsTableOf, PutsAsDealt, ReadsAsDealt, ShowsAsDealt, TakesAsDealt, captured_of}
use Rattle.cli_capture.specs.SkippedPackets.{left_out_after, line_of, none_left_out}
use Rattle.cli_capture.specs.Report.{found_of, missing_after, nothing_found}
use Rattle.cli_capture.specs.InnerReport.{Finishes, TellsBehind}
use Rattle.cli_capture.specs.Segments.{body_in}
use Rattle.cli_capture.proofs.Dealing.{later, report_then}

-- ---- a packet

-- a segment
pub segment_shows : {E : Type 0} (result : Result (Option Shortfall) E) (packet : ℕ) (r : Record) (octets : List ℕ) (segment : Segment) (capture : Capture)
    (old new : Table) (before after : Report) → segment_at r.link octets ≡ shown.Segment segment → capture.packet ≡ packet → capture.time ≡ r.time
    → capture.octets.now ≡ body_in segment octets → IfOk result (λ missing. TakesAsDealt segment capture missing old new before after)
    → IfOk result (λ missing. ShowsAsDealt packet r octets missing old new before after)
segment_shows (Ok missing) packet r octets segment capture old new before after is packet_is time_is body_is takes = λ w last all report past few kept.
    let on = takes w.port w.peer w.way w.active w.passive last all report (subst (λ (n : ℕ). last < n) (sym packet_is) past)
    (subst (λ (n : ℕ). n + 3 < 2 ^ 64) (sym packet_is) few) kept in
    let same : captured_of capture ≡ record { packet = packet; time = r.time; octets = body_in segment octets } =
    (λ i. record { packet = packet_is i; time = time_is i; octets = body_is i }) in (
      on.0,
      subst (λ (s : Shown). DealsShown s w packet r.time octets missing all on.0 before after) (sym is)
          (subst (λ (one : Captured). DealsPacket w.port w.peer w.active w.passive segment one missing all on.0 before after) same on.1),
      subst (λ (n : ℕ). IsTableOf w n new on.0) packet_is on.2,
    )
segment_shows (Err stop) packet r octets segment capture old new before after is packet_is time_is body_is takes = tt

-- no TCP
pub other_shows : (packet : ℕ) (r : Record) (octets : List ℕ) (table : Table) (report : Report) → segment_at r.link octets ≡ shown.Other
    → ShowsAsDealt packet r octets None table table report report
other_shows packet r octets table report is = λ w last all of_it past few kept. (
  all,
  subst (λ (s : Shown). DealsShown s w packet r.time octets None all all report report) (sym is) (refl, refl, refl),
  later w.port w.peer w.way w.active w.passive last packet table table all kept (omega (arith, past)) few refl,
)

-- or it is left out
pub left_out_shows : (packet : ℕ) (r : Record) (octets : List ℕ) (reason : Reason) (table : Table) (before after : Report)
    → segment_at r.link octets ≡ shown.LeftOut reason → after ≡ record before { left_out = left_out_after before.left_out reason } → ShowsAsDealt packet r octets None table table before after
left_out_shows packet r octets reason table before after is same = λ w last all of_it past few kept. (
  all,
  subst (λ (s : Shown). DealsShown s w packet r.time octets None all all before after) (sym is) (refl, refl, same),
  later w.port w.peer w.way w.active w.passive last packet table table all kept (omega (arith, past)) few refl,
)

-- what is told with it is written
report_put : (w : Wanted) (emitted after : Report) → IsReportOf w emitted → after ≡ record emitted { page = after.page } → IsReportOf w after
report_put w emitted after is same = record {
  manner_is = subst (TellsTo w.way) (sym (ap (λ (r : Report). r.manner) same)) is.manner_is;
  active = ap (λ (r : Report). r.active) same ∙ is.active;
  passive = ap (λ (r : Report). r.passive) same ∙ is.passive;
}

pub puts : (packet : ℕ) (r : Record) (octets : List ℕ) (missing : Option Shortfall) (old new : Table) (before emitted after : Report) (out now : Option (List ℕ))
    → ShowsAsDealt packet r octets missing old new before emitted → TellsBehind before emitted → Grows out now emitted.page.octets → after ≡ record emitted { page = after.page }
    → after.page.octets ≡ [] → PutsAsDealt packet r octets missing old new before after out now
unfolding PutsAsDealt
puts packet r octets missing old new before emitted after out now shows emits grows same none = λ w last all report past few kept.
    let on = shows w last all report past few kept in (
      on.0,
      emitted,
      on.1,
      record { written = grows; same = same; none = none },
      on.2,
      report_put w emitted after (report_then w.way w.active w.passive (record before { left_out = emits.0 }) emitted
          (record { manner_is = report.manner_is; active = report.active; passive = report.passive }) emits.1) same,
    )

-- ---- packets, one after another

each_more : (w : Wanted) (ps : List Packet) (p : Packet) (old mid new : Connections) (before between emitted after : Report) (out put now : Option (List ℕ))
    → DealsEach w ps old mid before between out put → DealsOne w p None mid new between emitted → PutsOut emitted after put now
    → DealsEach w (ps ++ p ∷ []) old new before after out now
each_more w [] p old mid new before between emitted after out put now each one puts = (
  new,
  emitted,
  after,
  now,
  subst (λ (c : Connections). DealsOne w p None c new before emitted) each.0
      (subst (λ (r : Report). DealsOne w p None mid new r emitted) each.1 one),
  subst (λ (o : Option (List ℕ)). PutsOut emitted after o now) each.2 puts,
  (refl, refl, refl),
)
each_more w (q ∷ ps) p old mid new before between emitted after out put now each one puts = (
  each.0,
  each.1,
  each.2,
  each.3,
  each.4,
  each.5,
  each_more w ps p each.0 mid new each.2 between emitted after each.3 put now each.6 one puts,
)

pub tells_on : (Was : List Packet → Ending → Type 0) (emitted ps : List Packet) (was now : Reading) (left new : Option (List ℕ)) (t : TellsPackets Was emitted was left)
    → TellsPackets (ReadsOn was t.0) ps now new → TellsPackets Was (emitted ++ ps) now new
tells_on Was emitted ps was now left new t u = (
  u.0,
  u.1,
  λ others ending reads. subst (λ (l : List Packet). Was l ending) (sym (append_assoc emitted ps others)) (t.2 (ps ++ others) ending (u.2 others ending reads)),
)

-- ---- the loop

-- so far these packets were told, and went to connections
pub record SoFar (w : Wanted) (first : Reading) (input : List ℕ) (all : Connections) (before after : Report) (out now : Option (List ℕ)) (reading : Reading) (left : Option (List ℕ))
    (table : Table) : Type 0 where
  pub emitted : List Packet
  pub mid : Connections
  pub emits : TellsPackets (ReadsOn first input) emitted reading left
  pub each : DealsEach w emitted all mid before after out now
  pub kept : IsTableOf w reading.state.packets table mid
  pub report : IsReportOf w after

abbrev pub IsSoFar : Reading → Option (List ℕ) → Table → Report → Option (List ℕ) → Reading → Option (List ℕ) → Table → Report → Option (List ℕ) → Type 0
IsSoFar first from old before out reading left table after now =
    (w : Wanted) (all : Connections) → first.state.packets ≡ 0 → IsReportOf w before → IsTableOf w 0 old all
    → IfRecorded from (λ input. SoFar w first input all before after out now reading left table)

pub begins_so : (first : Reading) (from : Option (List ℕ)) (table : Table) (report : Report) (out : Option (List ℕ))
    → IsSoFar first from table report out first from table report out
begins_so first from table report out = λ w all zero is kept input emitted. record {
  emitted = [];
  mid = all;
  emits = (input, emitted, λ others ending reads. reads);
  each = (refl, refl, refl);
  kept = subst (λ (n : ℕ). IsTableOf w n table all) (sym zero) kept;
  report = is;
}

none_of : (missing : Option Shortfall) → is_some missing ≡ false → missing ≡ None
none_of None none = refl
none_of (Some shortfall) none = absurd cc

-- a packet was told
pub continues_so : (first : Reading) (from : Option (List ℕ)) (old : Table) (before : Report) (out : Option (List ℕ)) (was now : Reading) (left new : Option (List ℕ))
    (table next : Table) (between after : Report) (put written : Option (List ℕ)) (n : ℕ) (r : Record) (octets : List ℕ) (counter : ℕ) (st : Step)
    (missing : Option Shortfall) → IsSoFar first from old before out was left table between put → st ≡ step.Packet n r
    → IfRecorded left (λ input. StepsAs was input (Ok st) now new) → CountsOn st was.state.packets now.state.packets → was.state.packets ≤ first.state.packets + counter → counter < 2 ^ 64 - 4
    → octets ≡ take r.held (drop r.body now.last) → is_some missing ≡ false → PutsAsDealt n r octets missing table next between after put written
    → IsSoFar first from old before out now new next after written
unfolding PutsAsDealt
continues_so first from old before out was now left new table next between after put written n r octets counter st missing so st_is steps_as counts_as few under octets_is none puts_as =
    λ w all zero is kept input emitted.
    let steps = subst (λ (x : Step). IfRecorded left (λ input. StepsAs was input (Ok x) now new)) st_is steps_as in
    let counts = subst (λ (x : Step). CountsOn x was.state.packets now.state.packets) st_is counts_as in
    let puts = subst (λ (x : Option Shortfall). PutsAsDealt n r octets x table next between after put written) (none_of missing none) puts_as in
    let one = so w all zero is kept input emitted in
    let past : was.state.packets < n = omega (arith, counts.0, few, zero, under) in
    let bound : n + 3 < 2 ^ 64 = omega (arith, counts.0, few, zero, under) in
    let on = puts w was.state.packets one.mid one.report past bound one.kept in
    let p = packet_of n r now.last in
    let emits = tells_on (ReadsOn first input) one.emitted (p ∷ []) was now left new one.emits (steps one.emits.0 one.emits.1) in record {
      emitted = one.emitted ++ p ∷ [];
      mid = on.0;
      emits = emits;
      each = each_more w one.emitted p all one.mid on.0 before between on.1 after out put written one.each
          (subst (λ (os : List ℕ). DealsShown (segment_at r.link os) w n r.time os None one.mid on.0 between on.1) octets_is on.2) on.3;
      kept = subst (λ (m : ℕ). IsTableOf w m next on.0) (sym counts.1) on.4;
      report = on.5;
    }

-- something else was passed
pub passes_so : (first : Reading) (from : Option (List ℕ)) (old : Table) (before : Report) (out : Option (List ℕ)) (was now : Reading) (left new : Option (List ℕ))
    (table : Table) (after : Report) (put : Option (List ℕ)) (counter : ℕ) (st : Step) → IsSoFar first from old before out was left table after put
    → st ≡ step.Passed → IfRecorded left (λ input. StepsAs was input (Ok st) now new) → CountsOn st was.state.packets now.state.packets → was.state.packets ≤ first.state.packets + counter
    → counter < 2 ^ 64 - 4 → IsSoFar first from old before out now new table after put
passes_so first from old before out was now left new table after put counter st so st_is steps_as counts_as few under = λ w all zero is kept input emitted.
    let steps = subst (λ (x : Step). IfRecorded left (λ input. StepsAs was input (Ok x) now new)) st_is steps_as in
    let counts = subst (λ (x : Step). CountsOn x was.state.packets now.state.packets) st_is counts_as in
    let one = so w all zero is kept input emitted in
    let emits = tells_on (ReadsOn first input) one.emitted [] was now left new one.emits (steps one.emits.0 one.emits.1) in record {
      emitted = one.emitted;
      mid = one.mid;
      emits = subst (λ (l : List Packet). TellsPackets (ReadsOn first input) l now new) (append-nil one.emitted) emits;
      each = one.each;
      kept = later w.port w.peer w.way w.active w.passive was.state.packets now.state.packets table table one.mid one.kept (onward zero counts) (bound zero counts) refl;
      report = one.report;
    }
  where
    onward : first.state.packets ≡ 0 → CountsOn step.Passed was.state.packets now.state.packets → was.state.packets ≤ now.state.packets
    onward zero (inl same) = omega (arith, same)
    onward zero (inr more) = omega (arith, more, few, zero, under)

    bound : first.state.packets ≡ 0 → CountsOn step.Passed was.state.packets now.state.packets → now.state.packets + 3 < 2 ^ 64
    bound zero (inl same) = omega (arith, same, few, zero, under)
    bound zero (inr more) = omega (arith, more, few, zero, under)

-- how many packets were passed
pub counts_packet : (n : ℕ) (r : Record) (first was now counter : ℕ) → CountsOn (step.Packet n r) was now → was ≤ first + counter → now ≤ first + (counter + 1)
counts_packet n r first was now counter counts few = omega (arith, counts.0, counts.1, few)

pub counts_passed : (first was now counter : ℕ) → CountsOn step.Passed was now → was ≤ first + counter → now ≤ first + (counter + 1)
counts_passed first was now counter (inl same) few = omega (arith, same, few)
counts_passed first was now counter (inr more) few = omega (arith, more, few)

-- ---- how it ends

ends_with : (first : Reading) (from : Option (List ℕ)) (old : Table) (before : Report) (out : Option (List ℕ)) (was : Reading) (left : Option (List ℕ)) (table : Table)
    (after : Report) (now : Option (List ℕ)) (missing : Option Shortfall) (ending : Ending) → IsSoFar first from old before out was left table after now
    → LacksBy ending missing → IfRecorded left (λ input. ReadsOn was input [] ending) → ReadsAsDealt first missing from old table before after out now
unfolding ReadsAsDealt
ends_with first from old before out was left table after now missing ending so lacks reads = λ w all zero is kept input emitted.
    let one = so w all zero is kept input emitted in (
      one.emitted ++ [],
      ending,
      one.mid,
      was.state.packets,
      one.emits.2 [] ending (reads one.emits.0 one.emits.1),
      inl (lacks, subst (λ (l : List Packet). DealsEach w l all one.mid before after out now) (sym (append-nil one.emitted)) one.each),
      one.kept,
      one.report,
    )

pub ends_complete : (first : Reading) (from : Option (List ℕ)) (old : Table) (before : Report) (out : Option (List ℕ)) (was now : Reading) (left new : Option (List ℕ))
    (table : Table) (after : Report) (put : Option (List ℕ)) (st : Step) → IsSoFar first from old before out was left table after put → st ≡ step.End
    → IfRecorded left (λ input. StepsAs was input (Ok st) now new) → ReadsAsDealt first None from old table before after out put
ends_complete first from old before out was now left new table after put st so st_is steps_as =
    let steps = subst (λ (x : Step). IfRecorded left (λ input. StepsAs was input (Ok x) now new)) st_is steps_as in
    ends_with first from old before out was left table after put None complete so refl (λ input emitted. (steps input emitted).1)

pub ends_faulty : (first : Reading) (from : Option (List ℕ)) (old : Table) (before : Report) (out : Option (List ℕ)) (was now : Reading) (left new : Option (List ℕ))
    (table : Table) (after : Report) (put : Option (List ℕ)) (fault : FileFault) (shortfall : Shortfall)
    → IsSoFar first from old before out was left table after put → IfRecorded left (λ input. StepsAs was input (Err fault) now new)
    → IsMissingBy fault now.state.packets (Ok shortfall) → ReadsAsDealt first (Some shortfall) from old table before after out put
ends_faulty first from old before out was now left new table after put file.CutOff shortfall so steps missing =
    ends_with first from old before out was left table after put (Some shortfall) (cut now.state.packets) so (ap Some missing.2) (λ input emitted. (steps input emitted).1)
ends_faulty first from old before out was now left new table after put (file.Capture place f) shortfall so steps missing =
    ends_with first from old before out was left table after put (Some shortfall) (faulty now.state.packets place f) so (ap Some missing.2)
    (λ input emitted. (steps input emitted).1)
ends_faulty first from old before out was now left new table after put file.Read shortfall so steps missing = absurd (missing.0 refl)
ends_faulty first from old before out was now left new table after put file.Memory shortfall so steps missing = absurd (missing.1 refl)

-- at a packet that lacks something
pub stops_so : (first : Reading) (from : Option (List ℕ)) (old : Table) (before : Report) (out : Option (List ℕ)) (was now : Reading) (left new : Option (List ℕ))
    (table next : Table) (between after : Report) (put written : Option (List ℕ)) (n : ℕ) (r : Record) (octets : List ℕ) (counter : ℕ) (st : Step)
    (missing : Option Shortfall) → EachRestIsRead → IsSoFar first from old before out was left table between put → st ≡ step.Packet n r
    → IfRecorded left (λ input. StepsAs was input (Ok st) now new) → CountsOn st was.state.packets now.state.packets → was.state.packets ≤ first.state.packets + counter → counter < 2 ^ 64 - 4
    → octets ≡ take r.held (drop r.body now.last) → is_some missing ≡ true → PutsAsDealt n r octets missing table next between after put written
    → ReadsAsDealt first missing from old next before after out written
unfolding PutsAsDealt ReadsAsDealt
stops_so first from old before out was now left new table next between after put written n r octets counter st missing each so st_is steps_as counts_as few under octets_is some
    puts =
    λ w all zero is kept input emitted.
    let steps = subst (λ (x : Step). IfRecorded left (λ input. StepsAs was input (Ok x) now new)) st_is steps_as in
    let counts = subst (λ (x : Step). CountsOn x was.state.packets now.state.packets) st_is counts_as in
    let one = so w all zero is kept input emitted in
    let past : was.state.packets < n = omega (arith, counts.0, few, zero, under) in
    let bound : n + 3 < 2 ^ 64 = omega (arith, counts.0, few, zero, under) in
    let on = puts w was.state.packets one.mid one.report past bound one.kept in
    let p = packet_of n r now.last in
    let emits = tells_on (ReadsOn first input) one.emitted (p ∷ []) was now left new one.emits (steps one.emits.0 one.emits.1) in
    let rest = each now emits.0 in (
      (one.emitted ++ p ∷ []) ++ rest.0,
      rest.1,
      on.0,
      n,
      emits.2 rest.0 rest.1 rest.2,
      inr (
        one.emitted,
        p,
        rest.0,
        one.mid,
        between,
        on.1,
        put,
        append_assoc one.emitted (p ∷ []) rest.0,
        some,
        one.each,
        subst (λ (os : List ℕ). DealsShown (segment_at r.link os) w n r.time os missing one.mid on.0 between on.1) octets_is on.2,
        on.3,
      ),
      on.4,
      on.5,
    )

-- ---- what is left

pub concludes_dealt : (missing : Option Shortfall) (table : Table) (old noted mid new : Report) (result : Result Bool Stop)
    → noted ≡ record old { shortfall = missing_after old.shortfall missing } → EndsAsDealt missing table noted mid → Finishes (found_of mid) result
    → OnOk result (new.page.octets ≡ mid.page.octets ++ line_of mid.left_out) → IfOk result (λ well. ConcludesAsDealt missing table old new (Ok well))
concludes_dealt missing table old noted mid new (Ok well) is ends answers page = λ w last all report kept.
    let of_noted : IsReportOf w noted = record {
      manner_is = subst (TellsTo w.way) (sym (ap (λ (r : Report). r.manner) is)) report.manner_is;
      active = ap (λ (r : Report). r.active) is ∙ report.active;
      passive = ap (λ (r : Report). r.passive) is ∙ report.passive;
    } in (
      mid,
      subst (λ (r : Report). EndsAll w.active w.passive missing all.known r mid) is (ends w.port w.peer w.way w.active w.passive last all of_noted kept),
      page,
      answers,
    )
concludes_dealt missing table old noted mid new (Err stop) is ends answers page = tt

pub finishes_dealt : (missing : Option Shortfall) (table : Table) (old mid : Report) (out now : Option (List ℕ)) (well : Bool)
    → ConcludesAsDealt missing table old mid (Ok well) → Grows out now mid.page.octets → FinishesAsDealt missing table old out now (Ok well)
finishes_dealt missing table old mid out now well concludes grows = λ w last all report kept.
    let on = concludes w last all report kept in record {
      emitted = on.0;
      ends = on.1;
      written = subst (λ (os : List ℕ). Grows out now os) on.2 grows;
      answers = on.3;
    }

-- ---- the whole of it

pub first_table : (options : Capturing) (table : Table) → (table.port ≡ options.port) × (table.peer ≡ options.peer) × (table.is_joined ≡ options.joined) → (table.flows.entries ≡ []) × (table.begun ≡ 0)
    → IsTableOf (wanted_of options) 0 table (none_yet (wanted_of options))
first_table options table of_it none = record {
  port_is = of_it.0;
  peer_is = of_it.1;
  joined = sym of_it.2;
  bound = omega arith;
  begun = sym none.1;
  same = subst (λ fs. AreSame (way_of options) options.active options.passive 0 fs []) (sym none.0) tt;
}

pub is_blank : (options : Capturing) (report : Report) → BeginsAs (way_of options) report.manner → report.active ≡ options.active → report.passive ≡ options.passive
    → found_of report ≡ nothing_found → report.left_out ≡ none_left_out → report.page.octets ≡ [] → IsBlank (wanted_of options) report
is_blank options report begins active passive found left_out page =
    record { manner_is = begins; active = active; passive = passive; found = found; left_out = left_out; page = page }

begins_tells : (how : Way) (manner : OutputMode) → BeginsAs how manner → TellsTo how manner
begins_tells to_verdicts manner is = is
begins_tells (to_log settings side) manner is = (record { settings = settings; side = side; begun = None; time = 0 }, is, refl, refl)

pub of_blank : (w : Wanted) (report : Report) → IsBlank w report → IsReportOf w report
of_blank w report is = record { manner_is = begins_tells w.way report.manner is.manner_is; active = is.active; passive = is.passive }

-- the file was opened
pub captures_opened : (options : Capturing) (reading : Reading) (missing : Option Shortfall) (first last : Report) (table end : Table) (from left : Option (List ℕ))
    (out put now : Option (List ℕ)) (result : Result Bool CaptureError) → IsBlank (wanted_of options) first
    → (table.port ≡ options.port) × (table.peer ≡ options.peer) × (table.is_joined ≡ options.joined) → (table.flows.entries ≡ []) × (table.begun ≡ 0)
    → IfRecorded from (λ input. OpensAs input (Ok reading) left) → reading.state.packets ≡ 0 → ReadsAsDealt reading missing left table end first last out put
    → (TellsTo (way_of options) last.manner → FinishesAsDealt missing end last put now result)
    → IfRecorded from (λ input. CapturesFile (wanted_of options) input out now result)
unfolding ReadsAsDealt
captures_opened options reading missing first last table end from left out put now result is of_it none opens zero reads finishes = λ input at.
    let opened = opens input at in
    let on = reads (wanted_of options) (none_yet (wanted_of options)) zero (of_blank (wanted_of options) first is) (first_table options table of_it none) opened.0 opened.1 in
    record {
      packets = on.0;
      ending = on.1;
      missing = missing;
      all = on.2;
      first = first;
      last = last;
      put = put;
      reads = opened.2 on.0 on.1 on.4;
      blank = is;
      deals = on.5;
      concluded = finishes on.7.manner_is (wanted_of options) on.3 on.2 on.7 on.6;
    }

-- or it has no packet
pub captures_none : (options : Capturing) (fault : FileFault) (shortfall : Shortfall) (first : Report) (table : Table) (from left : Option (List ℕ)) (out now : Option (List ℕ))
    (result : Result Bool CaptureError) → IsBlank (wanted_of options) first
    → (table.port ≡ options.port) × (table.peer ≡ options.peer) × (table.is_joined ≡ options.joined) → (table.flows.entries ≡ []) × (table.begun ≡ 0)
    → IfRecorded from (λ input. OpensAs input (Err fault) left) → IsMissingBy fault 0 (Ok shortfall)
    → (TellsTo (way_of options) first.manner → FinishesAsDealt (Some shortfall) table first out now result)
    → IfRecorded from (λ input. CapturesFile (wanted_of options) input out now result)
captures_none options fault shortfall first table from left out now result is of_it none opens missing finishes = λ input at.
    let ended = by_fault input fault (opens input at) missing in
    record {
      packets = [];
      ending = ended.0;
      missing = Some shortfall;
      all = none_yet (wanted_of options);
      first = first;
      last = first;
      put = out;
      reads = ended.1;
      blank = is;
      deals = inl (ended.2, (refl, refl, refl));
      concluded = finishes (of_blank (wanted_of options) first is).manner_is (wanted_of options) 0 (none_yet (wanted_of options)) (of_blank (wanted_of options) first is) (first_table options table of_it none);
    }
  where
    by_fault : (input : List ℕ) (f : FileFault) → OpensAs input (Err f) left → IsMissingBy f 0 (Ok shortfall)
        → (ending : Ending) × ReadsFile input [] ending × LacksBy ending (Some shortfall)
    by_fault input file.CutOff opens missing = (cut 0, opens.0, ap Some missing.2)
    by_fault input (file.Capture place f) opens missing = (faulty 0 place f, opens.0, ap Some missing.2)
    by_fault input file.Read opens missing = absurd (missing.0 refl)
    by_fault input file.Memory opens missing = absurd (missing.1 refl)
