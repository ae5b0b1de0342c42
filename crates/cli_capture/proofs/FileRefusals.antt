-- A capture is refused as the definition says, where the log of an end is told.
use Rattle.std.proofs.Common.{◌≡◌, ◌≤◌, ◌<◌, ◌+◌, ◌-◌, ◌^◌, ◌++◌, ◌∷◌, ℕ, List, [], take, drop, Option, Some, inl, inr, refl, sym, ap, subst, ◌∙◌, append_assoc, arith}
use Rattle.std.specs.Prelude.{IfErr, Result, Ok, Err}
use Rattle.hsms_frame.specs.Io.{Grows, IfRecorded}
use Rattle.cli_options.specs.declared.capture_options.Capturing.{Capturing}
use Rattle.capture_errors.specs.declared.capture_error.CaptureError.{CaptureError}
use Rattle.capture_errors.specs.declared.capture_error.CaptureError.TheVariants as error
use Rattle.capture_pcap.specs.declared.fault.FileFault.{FileFault}
use Rattle.capture_pcap.specs.declared.next_block.Record.{Record}
use Rattle.capture_pcap.specs.declared.packet_reader.Step.{Step}
use Rattle.capture_pcap.specs.declared.packet_reader.Step.TheVariants as step
use Rattle.capture_pcap.specs.declared.segment.Segment.{Segment}
use Rattle.capture_pcap.specs.declared.segment.Shown.{Shown}
use Rattle.capture_pcap.specs.declared.segment.Shown.TheVariants as shown
use Rattle.capture_pcap.specs.BlockReader.{CountsOn, OpensAs, Reading, ReadsOn, StepsAs, packet_of}
use Rattle.capture_pcap.specs.Laws.{EachRestIsRead}
use Rattle.capture_pcap.specs.Segment.{segment_at}
use Rattle.capture_log.specs.declared.stop.Stop.{Stop}
use Rattle.cli_capture.specs.declared.report.OutputMode.TheVariants.{Verdicts}
use Rattle.cli_capture.specs.declared.report.Report.{Report}
use Rattle.capture_errors.specs.declared.incomplete.Shortfall.{Shortfall}
use Rattle.cli_capture.specs.declared.connection_table.Capture.{Capture}
use Rattle.cli_capture.specs.declared.connection_table.Table.{Table}
use Rattle.cli_capture.specs.InnerCommand.{IsMissingBy}
use Rattle.cli_capture.specs.Connections.{Captured}
use Rattle.cli_capture.specs.FileDispatch.{IsBlank, none_yet}
use Rattle.cli_capture.specs.OutputMode.{Way, to_log, to_verdicts}
use Rattle.cli_capture.specs.InnerOutputMode.{TellsTo}
use Rattle.cli_capture.specs.TableInvariant.{wanted_of, way_of}
use Rattle.cli_capture.specs.InnerTableInvariant.{ConcludesAsDealt, FinishesAsDealt, IsReportOf, ReadsAsDealt, captured_of}
use Rattle.cli_capture.specs.LogRejectionFile.{DealsPacketRefused, EndsAllRefused, RefusesBy, RefusesFile, ShownRefused}
use Rattle.cli_capture.specs.InnerLogRejectionFile.{ConcludesAsRefused, EndsAsRefused, FinishesAsRefused, PutsAsRefused, ReadsAsRefused, ShowsAsRefused, TakesAsRefused}
use Rattle.cli_capture.specs.Report.{missing_after}
use Rattle.cli_capture.specs.InnerReport.{FailsUnrefused}
use Rattle.cli_capture.specs.Segments.{body_in}
use Rattle.capture_errors.specs.Errors.{IsRefusal}
use Rattle.cli_capture.specs.StopError.{error_of}
use Rattle.cli_capture.specs.InnerStopError.{IsRefused}
use Rattle.cli_capture.proofs.Refusals.{not_empty}
use Rattle.cli_capture.proofs.Refusing.{finishes_refused, told_refused, write_refuses}
use Rattle.cli_capture.proofs.Whole.{IsSoFar, captures_none, captures_opened, first_table, of_blank, tells_on}

-- ---- a packet

segment_refused : (packet : ℕ) (r : Record) (octets : List ℕ) (segment : Segment) (capture : Capture) (table : Table) (st : Stop) (before after : Report)
    → segment_at r.link octets ≡ shown.Segment segment → capture.packet ≡ packet → capture.time ≡ r.time → capture.octets.now ≡ body_in segment octets
    → TakesAsRefused segment capture table st before after → ShowsAsRefused packet r octets table st before after
segment_refused packet r octets segment capture table st before after is packet_is time_is body_is takes refused w last all report past few kept =
    let on = takes refused w.port w.peer w.way w.active w.passive last all report (subst (λ (n : ℕ). last < n) (sym packet_is) past)
    (subst (λ (n : ℕ). n + 3 < 2 ^ 64) (sym packet_is) few) kept in
    let same : captured_of capture ≡ record { packet = packet; time = r.time; octets = body_in segment octets } =
    (λ i. record { packet = packet_is i; time = time_is i; octets = body_is i }) in
    subst (λ (s : Shown). ShownRefused s w packet r.time octets all st before after) (sym is)
    (subst (λ (one : Captured). DealsPacketRefused w.port w.peer w.active w.passive segment one all st before after) same on)

pub segments_refused : {T : Type 0} (result : Result T Stop) (packet : ℕ) (r : Record) (octets : List ℕ) (segment : Segment) (capture : Capture) (table : Table)
    → (before after : Report) → segment_at r.link octets ≡ shown.Segment segment → capture.packet ≡ packet → capture.time ≡ r.time
    → capture.octets.now ≡ body_in segment octets → IfErr result (λ st. TakesAsRefused segment capture table st before after)
    → IfErr result (λ st. ShowsAsRefused packet r octets table st before after)
segments_refused (Ok missing) packet r octets segment capture table before after is packet_is time_is body_is takes = tt
segments_refused (Err st) packet r octets segment capture table before after is packet_is time_is body_is takes =
    segment_refused packet r octets segment capture table st before after is packet_is time_is body_is takes

pub puts_refused : (packet : ℕ) (r : Record) (octets : List ℕ) (table : Table) (st : Stop) (before emitted : Report) (out now : Option (List ℕ)) (fault : CaptureError)
    → ShowsAsRefused packet r octets table st before emitted → fault ≡ error_of st → Grows out now emitted.page.octets → PutsAsRefused packet r octets table before out now fault
puts_refused packet r octets table st before emitted out now fault shows emits grows refusal w last all report past few kept =
    (st, emitted, shows (told_refused st fault emits refusal) w last all report past few kept, record { written = grows; says = emits })

pub never_puts : (packet : ℕ) (r : Record) (octets : List ℕ) (table : Table) (before : Report) (out now : Option (List ℕ)) (fault : CaptureError) → fault ≡ error.Write
    → PutsAsRefused packet r octets table before out now fault
never_puts packet r octets table before out now fault is refusal = absurd (write_refuses fault is refusal)

-- ---- packets, one after another

pub reads_refused : (first : Reading) (from : Option (List ℕ)) (old : Table) (before : Report) (out : Option (List ℕ)) (was now : Reading) (left new : Option (List ℕ))
    (table : Table) (between : Report) (put written : Option (List ℕ)) (n : ℕ) (r : Record) (octets : List ℕ) (counter : ℕ) (st : Step) (fault : CaptureError)
    → EachRestIsRead → IsSoFar first from old before out was left table between put → st ≡ step.Packet n r
    → IfRecorded left (λ input. StepsAs was input (Ok st) now new) → CountsOn st was.state.packets now.state.packets → was.state.packets ≤ first.state.packets + counter
    → counter < 2 ^ 64 - 4 → octets ≡ take r.held (drop r.body now.last) → PutsAsRefused n r octets table between put written fault
    → ReadsAsRefused first from old before out written fault
unfolding ReadsAsRefused
reads_refused first from old before out was now left new table between put written n r octets counter st fault each so st_is steps_as counts_as few under octets_is puts
    refusal w all zero is kept input emitted =
    let steps = subst (λ (x : Step). IfRecorded left (λ input. StepsAs was input (Ok x) now new)) st_is steps_as in
    let counts = subst (λ (x : Step). CountsOn x was.state.packets now.state.packets) st_is counts_as in
    let one = so w all zero is kept input emitted in
    let past : was.state.packets < n = omega (arith, counts.0, few, zero, under) in
    let n_few : n + 3 < 2 ^ 64 = omega (arith, counts.0, few, zero, under) in
    let on = puts refusal w was.state.packets one.mid one.report past n_few one.kept in
    let p = packet_of n r now.last in
    let emits = tells_on (ReadsOn first input) one.emitted (p ∷ []) was now left new one.emits (steps one.emits.0 one.emits.1) in
    let rest = each now emits.0 in (
      (one.emitted ++ p ∷ []) ++ rest.0,
      rest.1,
      emits.2 rest.0 rest.1 rest.2,
      record {
        front = one.emitted;
        p = p;
        rest = rest.0;
        are = append_assoc one.emitted (p ∷ []) rest.0;
        mid = one.mid;
        between = between;
        put = put;
        each = one.each;
        st = on.0;
        emitted = on.1;
        refused = subst (λ (os : List ℕ). ShownRefused (segment_at r.link os) w n r.time os one.mid on.0 between on.1) octets_is on.2;
        is_written = on.3;
      },
    )

pub never_reads : (first : Reading) (from : Option (List ℕ)) (old : Table) (before : Report) (out now : Option (List ℕ)) (fault : CaptureError) → (IsRefusal fault → ⊥)
    → ReadsAsRefused first from old before out now fault
unfolding ReadsAsRefused
never_reads first from old before out now fault never refusal = absurd (never refusal)

pub missing_refuses : (fault : FileFault) (count : ℕ) (emitted : CaptureError) → IsMissingBy fault count (Err emitted) → IsRefusal emitted → ⊥
missing_refuses fault count (error.Refused rejection) missing refusal = missing
missing_refuses fault count error.Read missing refusal = refusal
missing_refuses fault count error.Write missing refusal = refusal
missing_refuses fault count error.Endless missing refusal = refusal
missing_refuses fault count error.Memory missing refusal = refusal

-- ---- what is left

pub concludes_left : (missing : Option Shortfall) (table : Table) (old noted new : Report) (st : Stop) → noted ≡ record old { shortfall = missing_after old.shortfall missing }
    → EndsAsRefused missing table st noted new → ConcludesAsRefused missing table old new st
concludes_left missing table old noted new st is ends refused = inr (λ w last all report kept.
    let of_noted : IsReportOf w noted = record {
      manner_is = subst (TellsTo w.way) (sym (ap (λ (r : Report). r.manner) is)) report.manner_is;
      active = ap (λ (r : Report). r.active) is ∙ report.active;
      passive = ap (λ (r : Report). r.passive) is ∙ report.passive;
    } in
    subst (λ (r : Report). EndsAllRefused w.active w.passive missing all.known st r new) is
    (ends refused w.port w.peer w.way w.active w.passive last all of_noted kept))

pub concludes_found : {T : Type 0} (result : Result T Stop) (missing : Option Shortfall) (table : Table) (old new : Report)
    → IfErr result (λ st. IsRefused st → ConcludesAsDealt missing table old new (Err st)) → IfErr result (λ st. ConcludesAsRefused missing table old new st)
concludes_found (Ok well) missing table old new concludes = tt
concludes_found (Err st) missing table old new concludes = λ refused. inl (concludes refused)

pub finishes_so : (missing : Option Shortfall) (table : Table) (old mid : Report) (out now : Option (List ℕ)) (st : Stop) (fault : CaptureError)
    → ConcludesAsRefused missing table old mid st → fault ≡ error_of st → Grows out now mid.page.octets → FinishesAsRefused missing table old out now fault
finishes_so missing table old mid out now st fault concludes emits grows refusal = elim (concludes (told_refused st fault emits refusal)) [
  | inl dealt ↦ inl (finishes_refused missing table old mid out now st fault dealt emits grows refusal)
  | inr left ↦ inr (λ w last all report kept. (st, mid, left w last all report kept, record { written = grows; says = emits }))
]

pub never_finishes : (missing : Option Shortfall) (table : Table) (old : Report) (out now : Option (List ℕ)) (fault : CaptureError) → fault ≡ error.Write
    → FinishesAsRefused missing table old out now fault
never_finishes missing table old out now fault is refusal = absurd (write_refuses fault is refusal)

-- ---- the whole of it

pub refuses_opened : (options : Capturing) (reading : Reading) (missing : Option Shortfall) (first last : Report) (table end : Table) (from left : Option (List ℕ))
    (out put now : Option (List ℕ)) (fault : CaptureError) → IsBlank (wanted_of options) first
    → (table.port ≡ options.port) × (table.peer ≡ options.peer) × (table.is_joined ≡ options.joined) → (table.flows.entries ≡ []) × (table.begun ≡ 0)
    → IfRecorded from (λ input. OpensAs input (Ok reading) left) → reading.state.packets ≡ 0 → ReadsAsDealt reading missing left table end first last out put
    → (IsRefusal fault → last.manner ≡ Verdicts → FinishesAsDealt missing end last put now (Err fault)) → FinishesAsRefused missing end last put now fault
    → IsRefusal fault → IfRecorded from (λ input. RefusesFile (wanted_of options) input out now fault)
unfolding ReadsAsDealt
refuses_opened options reading missing first last table end from left out put now fault blank of_it none opens zero reads verdicts stops refusal input at =
    by_way (way_of options) refl
  where
    by_way : (how : Way) → way_of options ≡ how → RefusesBy how (wanted_of options) input out now fault
    by_way to_verdicts is =
        captures_opened options reading missing first last table end from left out put now (Err fault) blank of_it none opens zero reads
        (λ emits. verdicts refusal (subst (λ (h : Way). TellsTo h last.manner) is emits)) input at
    by_way (to_log settings side) is = elim (stops refusal) [
      | inl dealt ↦ inl (captures_opened options reading missing first last table end from left out put now (Err fault) blank of_it none opens zero reads
          (λ emits. dealt) input at)
      | inr left_over ↦
          let opened = opens input at in
          let on = reads (wanted_of options) (none_yet (wanted_of options)) zero (of_blank (wanted_of options) first blank) (first_table options table of_it none) opened.0 opened.1 in
          let r = left_over (wanted_of options) on.3 on.2 on.7 on.6 in
          inr (inr (record {
            packets = on.0;
            ending = on.1;
            missing = missing;
            all = on.2;
            first = first;
            last = last;
            put = put;
            reads = opened.2 on.0 on.1 on.4;
            blank = blank;
            deals = on.5;
            st = r.0;
            emitted = r.1;
            refused = r.2;
            is_written = r.3;
          }))
    ]

pub refuses_reading : (options : Capturing) (reading : Reading) (first : Report) (table : Table) (from left out now : Option (List ℕ)) (fault : CaptureError)
    → IsBlank (wanted_of options) first
    → (table.port ≡ options.port) × (table.peer ≡ options.peer) × (table.is_joined ≡ options.joined) → (table.flows.entries ≡ []) × (table.begun ≡ 0)
    → IfRecorded from (λ input. OpensAs input (Ok reading) left) → reading.state.packets ≡ 0 → FailsUnrefused first fault
    → ReadsAsRefused reading left table first out now fault
    → IsRefusal fault → IfRecorded from (λ input. RefusesFile (wanted_of options) input out now fault)
unfolding FailsUnrefused ReadsAsRefused
refuses_reading options reading first table from left out now fault blank of_it none opens zero fails reads refusal input at = by_way (way_of options) refl
  where
    by_way : (how : Way) → way_of options ≡ how → RefusesBy how (wanted_of options) input out now fault
    by_way to_verdicts is = absurd (fails (subst (λ (h : Way). TellsTo h first.manner) is (of_blank (wanted_of options) first blank).manner_is) refusal)
    by_way (to_log settings side) is =
        let opened = opens input at in
        let on = reads refusal (wanted_of options) (none_yet (wanted_of options)) zero (of_blank (wanted_of options) first blank) (first_table options table of_it none) opened.0 opened.1 in
        inr (inl (record {
          packets = on.0;
          ending = on.1;
          first = first;
          reads = opened.2 on.0 on.1 on.2;
          blank = blank;
          stops = on.3;
        }))

-- it has no packet
pub refuses_none : (options : Capturing) (fault : FileFault) (shortfall : Shortfall) (first : Report) (table : Table) (from left out now : Option (List ℕ)) (emitted : CaptureError)
    → IsBlank (wanted_of options) first
    → (table.port ≡ options.port) × (table.peer ≡ options.peer) × (table.is_joined ≡ options.joined) → (table.flows.entries ≡ []) × (table.begun ≡ 0)
    → IfRecorded from (λ input. OpensAs input (Err fault) left) → IsMissingBy fault 0 (Ok shortfall)
    → (IsRefusal emitted → first.manner ≡ Verdicts → FinishesAsDealt (Some shortfall) table first out now (Err emitted))
    → FinishesAsRefused (Some shortfall) table first out now emitted
    → IsRefusal emitted → IfRecorded from (λ input. RefusesFile (wanted_of options) input out now emitted)
refuses_none options fault shortfall first table from left out now emitted blank of_it none opens missing verdicts stops refusal input at = by_way (way_of options) refl
  where
    by_way : (how : Way) → way_of options ≡ how → RefusesBy how (wanted_of options) input out now emitted
    by_way to_verdicts is =
        captures_none options fault shortfall first table from left out now (Err emitted) blank of_it none opens missing
        (λ emits. verdicts refusal (subst (λ (h : Way). TellsTo h first.manner) is emits)) input at
    by_way (to_log settings side) is = elim (stops refusal) [
      | inl dealt ↦ inl (captures_none options fault shortfall first table from left out now (Err emitted) blank of_it none opens missing (λ emits. dealt) input at)
      | inr left_over ↦
          let w = wanted_of options in
          let r = left_over w 0 (none_yet w) (of_blank w first blank) (first_table options table of_it none) in
          absurd (not_empty r.2.0 r.2.3 (r.2.1, r.2.2) r.2.5)
    ]

-- of what is answered
pub file_refused : {T : Type 0} (result : Result T CaptureError) (V S : CaptureError → Type 0) {R : CaptureError → Type 0} → ((fault : CaptureError) → V fault → S fault → R fault)
    → IfErr result V → IfErr result S → IfErr result R
file_refused (Ok well) V S f verdicts stops = tt
file_refused (Err fault) V S f verdicts stops = f fault verdicts stops
