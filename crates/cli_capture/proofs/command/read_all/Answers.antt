use Rattle.std.proofs.Common.{ℕ, List, take, drop, Ok, ap, subst, sym, ◌∙◌, arith, refl, rules}
use Rattle.capture_pcap.specs.declared.packet_reader.Step.{Step}
use Rattle.hsms_frame.specs.Io.{IfRecorded}
use Rattle.capture_pcap.specs.BlockReader.{CountsOn, TakesOn}
use Rattle.capture_pcap.specs.File.{State}
use Rattle.cli_capture.specs.InnerCommand.{IsMissingBy}
use Rattle.std.proofs.lemmas.Result.{err_from_is_err_and}
use Rattle.cli_capture.proofs.FileRefusals.{missing_refuses, never_reads, reads_refused}
use Rattle.cli_capture.proofs.Passed.{many_passed, missing_ends, none_passed, one_passed, write_ends}
use Rattle.cli_capture.proofs.Refusing.{fails_device, missing_fails}
use Rattle.cli_capture.proofs.Tellings.{writes_nothing, writes_then}
use Rattle.cli_capture.proofs.Whole.{begins_so, counts_packet, counts_passed, ends_complete, ends_faulty, continues_so, passes_so, stops_so}
use Rattle.cli_capture.proofs.Written.{none_more, some_more}
use Rattle.cli_capture.proofs.command.read_all.Goals as goal
use Rattle.cli_capture.proofs.command.read_all.Goals.{in-Packet+in_ok-missing-in-Packet+else-is_some, in-Passed}

pub loop-init : goal.loop-init
loop-init g c = (refl, refl, writes_nothing _ _, none_more _, omega arith, none_passed _ _, begins_so _ _ _ _ _)

pub returns-in_err-missing-in-Packet-clause-some : goal.returns-in_err-missing-in-Packet-clause-some
returns-in_err-missing-in-Packet-clause-some g c = some_more _ _ _ c.loop.invariant.3 c.take.ensures.some

pub returns-then-is_some-clause-some : goal.returns-then-is_some-clause-some
returns-then-is_some-clause-some g c = some_more _ _ _ c.loop.invariant.3 c.take.ensures.some

pub returns-then-is_some-clause-lines : goal.returns-then-is_some-clause-lines
returns-then-is_some-clause-lines g c =
    writes_then _ _ _ _ _ _ c.loop.invariant.2 c.in_ok-missing-in-Packet.ensures.lines

pub loop-preserved : goal.loop-preserved
loop-preserved g c =
    let inv = c.loop.invariant in (
      search rules,
      elim c.match-step.branch [
        | in-Packet+in_ok-missing-in-Packet+else-is_some w ↦
            rw w.sink-is (w.in_ok-missing-in-Packet.ensures.writes ∙ inv.1)
        | in-Passed w ↦ rw w.sink-is inv.1
      ],
      elim c.match-step.branch [
        | in-Packet+in_ok-missing-in-Packet+else-is_some w ↦
            rw (w.report-is, w.sink-is) (writes_then _ _ _ _ _ _ inv.2 w.in_ok-missing-in-Packet.ensures.lines)
        | in-Passed w ↦ rw (w.report-is, w.sink-is) inv.2
      ],
      elim c.match-step.branch [
        | in-Packet+in_ok-missing-in-Packet+else-is_some w ↦ rw w.sink-is (some_more _ _ _ inv.3 w.take.ensures.some)
        | in-Passed w ↦ rw w.sink-is inv.3
      ],
      elim c.match-step.branch [
        | in-Packet+in_ok-missing-in-Packet+else-is_some w ↦
            counts_packet w.in-Packet.number w.in-Packet.record c.args.packets.now.state.packets c.loop.packets.state.packets
            c.next.new.self.state.packets c.loop.counter
            (subst (λ (st : Step). CountsOn st c.loop.packets.state.packets c.next.new.self.state.packets) w.in-Packet.is c.in-Ok.ensures.counts) inv.4
        | in-Passed w ↦
            counts_passed c.args.packets.now.state.packets c.loop.packets.state.packets c.next.new.self.state.packets c.loop.counter
            (subst (λ (st : Step). CountsOn st c.loop.packets.state.packets c.next.new.self.state.packets) w.in-Passed.is c.in-Ok.ensures.counts) inv.4
      ],
      elim c.match-step.branch [
        | in-Packet+in_ok-missing-in-Packet+else-is_some w ↦
            one_passed c.loop.counter _ _ c.loop.packets c.next.new.self _ _ inv.5
            (subst (λ (st : Step). IfRecorded (g.R.Source.state c.loop.source).left
            (λ input. TakesOn c.loop.packets input c.next.new.self (g.R.Source.state c.next.new.source).left st)) w.in-Packet.is c.in-Ok.ensures.takes)
        | in-Passed w ↦
            one_passed c.loop.counter _ _ c.loop.packets c.next.new.self _ _ inv.5
            (subst (λ (st : Step). IfRecorded (g.R.Source.state c.loop.source).left
            (λ input. TakesOn c.loop.packets input c.next.new.self (g.R.Source.state c.next.new.source).left st)) w.in-Passed.is c.in-Ok.ensures.takes)
      ],
      elim c.match-step.branch [
        | in-Packet+in_ok-missing-in-Packet+else-is_some w ↦
            rw (w.report-is, w.sink-is, w.table-is)
            (continues_so c.args.packets.now _ c.args.table.now c.args.report.now _ c.loop.packets c.next.new.self _ _ c.loop.table w.take.new.table
            c.loop.report w.take.new.report _ _ w.in-Packet.number w.in-Packet.record w.octets_of-octets.result.now c.loop.counter c.in-Ok.step
            w.in_ok-missing-in-Packet.missing inv.6 w.in-Packet.is c.in-Ok.ensures.step c.in-Ok.ensures.counts inv.4 c.loop-test.true
            (w.octets_of-octets.ensures ∙ ap (λ (l : List ℕ). take w.in-Packet.record.held (drop w.in-Packet.record.body l)) w.octets.ensures)
            (sym w.is_some.ensures ∙ w.if-is_some.false) w.in_ok-missing-in-Packet.ensures.deals)
        | in-Passed w ↦
            rw (w.report-is, w.sink-is, w.table-is)
            (passes_so c.args.packets.now _ c.args.table.now c.args.report.now _ c.loop.packets c.next.new.self _ _ c.loop.table c.loop.report _
            c.loop.counter c.in-Ok.step inv.6 w.in-Passed.is c.in-Ok.ensures.step c.in-Ok.ensures.counts inv.4 c.loop-test.true)
      ],
    )

pub returns-then-is_some-clause-deals : goal.returns-then-is_some-clause-deals
returns-then-is_some-clause-deals g c =
    stops_so c.args.packets.now _ c.args.table.now c.args.report.now _ c.loop.packets c.next.new.self _ _ c.loop.table c.take.new.table c.loop.report
    c.take.new.report _ _ c.in-Packet.number c.in-Packet.record c.octets_of-octets.result.now c.loop.counter c.in-Ok.step
    c.in_ok-missing-in-Packet.missing c.each_rest_is_read.ensures c.loop.invariant.6 c.in-Packet.is c.in-Ok.ensures.step c.in-Ok.ensures.counts
    c.loop.invariant.4 c.loop-test.true
    (c.octets_of-octets.ensures ∙ ap (λ (l : List ℕ). take c.in-Packet.record.held (drop c.in-Packet.record.body l)) c.octets.ensures)
    (sym c.is_some.ensures ∙ c.if-is_some.true) c.in_ok-missing-in-Packet.ensures.deals

pub returns-in-End-clause-deals : goal.returns-in-End-clause-deals
returns-in-End-clause-deals g c =
    ends_complete c.args.packets.now _ c.args.table.now c.args.report.now _ c.loop.packets c.next.new.self _ _ c.loop.table c.loop.report _ c.in-Ok.step
    c.loop.invariant.6 c.in-End.is c.in-Ok.ensures.step

pub returns-in-Err-clause-deals : goal.returns-in-Err-clause-deals
returns-in-Err-clause-deals g c =
    ends_faulty c.args.packets.now _ c.args.table.now c.args.report.now _ c.loop.packets c.next.new.self _ _ c.loop.table c.loop.report _ c.in-Err.fault
    c.in_ok-missing_by-in-Err.field-0 c.loop.invariant.6 c.in-Err.ensures.step
    (subst (λ (n : ℕ). IsMissingBy c.in-Err.fault n (Ok c.in_ok-missing_by-in-Err.field-0))
    (c.packets.ensures ∙ ap (λ (s : State). s.packets) c.reader.ensures) c.in_ok-missing_by-in-Err.ensures)

pub returns-in_err-missing_by-in-Err-clause-unrefused : goal.returns-in_err-missing_by-in-Err-clause-unrefused
returns-in_err-missing_by-in-Err-clause-unrefused g c =
    let p = err_from_is_err_and c.from_residual.result c.from_residual.ensures.1 in
    rw (p.1, p.2) (λ empty. missing_fails c.in-Err.fault c.packets.result c.args.report.now _ c.in_err-missing_by-in-Err.ensures)

pub returns-clause-unrefused : goal.returns-clause-unrefused
returns-clause-unrefused g c = λ empty. fails_device c.args.report.now _ (λ refusal. refusal)

pub returns-in_err-missing-in-Packet-clause-refuses : goal.returns-in_err-missing-in-Packet-clause-refuses
returns-in_err-missing-in-Packet-clause-refuses g c =
    let p = err_from_is_err_and c.from_residual-in_err-missing-in-Packet.result c.from_residual-in_err-missing-in-Packet.ensures.1 in
    rw (p.1, p.2)
    (reads_refused c.args.packets.now _ c.args.table.now c.args.report.now _ c.loop.packets c.next.new.self _ _ c.loop.table c.loop.report _ _
    c.in-Packet.number c.in-Packet.record c.octets_of-octets.result.now c.loop.counter c.in-Ok.step _ c.each_rest_is_read.ensures c.loop.invariant.6
    c.in-Packet.is c.in-Ok.ensures.step c.in-Ok.ensures.counts c.loop.invariant.4 c.loop-test.true
    (c.octets_of-octets.ensures ∙ ap (λ (l : List ℕ). take c.in-Packet.record.held (drop c.in-Packet.record.body l)) c.octets.ensures)
    c.in_err-missing-in-Packet.ensures.refuses)

pub returns-in_err-missing_by-in-Err-clause-refuses : goal.returns-in_err-missing_by-in-Err-clause-refuses
returns-in_err-missing_by-in-Err-clause-refuses g c =
    let p = err_from_is_err_and c.from_residual.result c.from_residual.ensures.1 in
    rw (p.1, p.2)
    (never_reads c.args.packets.now _ c.args.table.now c.args.report.now _ _ _
    (missing_refuses c.in-Err.fault c.packets.result _ c.in_err-missing_by-in-Err.ensures))

pub returns-clause-refuses : goal.returns-clause-refuses
returns-clause-refuses g c = never_reads c.args.packets.now _ c.args.table.now c.args.report.now _ _ _ (λ refusal. refusal)

pub returns-in_err-missing-in-Packet-clause-endless : goal.returns-in_err-missing-in-Packet-clause-endless
returns-in_err-missing-in-Packet-clause-endless g c =
    let p = err_from_is_err_and c.from_residual-in_err-missing-in-Packet.result c.from_residual-in_err-missing-in-Packet.ensures.1 in
    rw (p.1, p.2) (write_ends _ _ c.in_err-missing-in-Packet.ensures.error)

pub returns-in_err-missing_by-in-Err-clause-endless : goal.returns-in_err-missing_by-in-Err-clause-endless
returns-in_err-missing_by-in-Err-clause-endless g c =
    let p = err_from_is_err_and c.from_residual.result c.from_residual.ensures.1 in
    rw (p.1, p.2) (missing_ends c.in-Err.fault c.packets.result _ _ c.in_err-missing_by-in-Err.ensures)

pub returns-clause-endless : goal.returns-clause-endless
returns-clause-endless g c = λ endless. many_passed c.loop.counter _ _ c.loop.packets.ahead _ c.loop.invariant.5 (omega (arith, c.loop-test.false))
