use Rattle.std.proofs.Common.{ℕ, List, [], map, subst, sym, ◌∙◌}
use Rattle.capture_tcp.specs.declared.events.TimedEvent.{TimedEvent}
use Rattle.cli_capture.specs.InnerMidstreamLog.{HearsEach}
use Rattle.cli_capture.specs.MidstreamConnection.{cut_by}
use Rattle.cli_capture.specs.InnerMidstreamConnection.{TakesCut}
use Rattle.cli_capture.specs.MidstreamOutput.{in_capture}
use Rattle.std.proofs.lemmas.Result.{err_from_is_err_and}
use Rattle.cli_capture.proofs.PacketRefusals.{take_finish_refused, take_heard_refused}
use Rattle.cli_capture.proofs.SessionPackets.{takes_ends, takes_goes}
use Rattle.cli_capture.proofs.midstream_connection.Within.take.Goals as goal

pub returns-in-Proceeds-clause-takes : goal.returns-in-Proceeds-clause-takes
returns-in-Proceeds-clause-takes c =
    let w = c.args.self in
    let emitted = c.take_segment.new.emitted.items in
    let joined = c.hear_all.new.joined in
    takes_goes c.args.pair.now (record { segment = c.args.segment; octets = c.args.octets.now }) w c.in-Proceeds.connection c.in_ok-followed.followed c.in_ok-progress.progress
    c.note_reset.new.bare_resets joined emitted c.args.report.now c.hear_all.new.report c.in_ok-note_reset.ensures
    (subst (λ (n : ℕ). TakesCut w.connection (cut_by n c.args.segment c.args.octets.now) c.args.segment.packet [] emitted c.in_ok-followed.followed) c.begin_of-begin.ensures
    (subst (λ (hs : List TimedEvent). TakesCut w.connection (cut_by c.begin_of-begin.result c.args.segment c.args.octets.now) c.args.segment.packet hs emitted c.in_ok-followed.followed)
    c.new-emitted.ensures.items c.in_ok-followed.ensures.takes))
    (subst (λ (ns : List ℕ). HearsEach c.args.pair.now (map (in_capture ns) emitted) w.joined c.args.report.now c.in_ok-progress.progress joined c.hear_all.new.report) c.deref.ensures.value
    c.in_ok-progress.ensures.processes_input)
    (sym c.in-Proceeds.is ∙ c.over_by.ensures)

pub returns-in_ok-finish-in-BothLogs-clause-takes : goal.returns-in_ok-finish-in-BothLogs-clause-takes
returns-in_ok-finish-in-BothLogs-clause-takes c =
    let w = c.args.self in
    let emitted = c.take_segment.new.emitted.items in
    let joined = c.hear_all.new.joined in
    takes_ends c.args.pair.now (record { segment = c.args.segment; octets = c.args.octets.now }) w c.in-BothLogs.shortfall c.in_ok-followed.followed c.in_ok-progress.progress
    c.note_reset.new.bare_resets.items joined emitted c.args.report.now c.hear_all.new.report c.finish.new.report c.in_ok-note_reset.ensures
    (subst (λ (n : ℕ). TakesCut w.connection (cut_by n c.args.segment c.args.octets.now) c.args.segment.packet [] emitted c.in_ok-followed.followed) c.begin_of-begin.ensures
    (subst (λ (hs : List TimedEvent). TakesCut w.connection (cut_by c.begin_of-begin.result c.args.segment c.args.octets.now) c.args.segment.packet hs emitted c.in_ok-followed.followed)
    c.new-emitted.ensures.items c.in_ok-followed.ensures.takes))
    (subst (λ (ns : List ℕ). HearsEach c.args.pair.now (map (in_capture ns) emitted) w.joined c.args.report.now c.in_ok-progress.progress joined c.hear_all.new.report) c.deref.ensures.value
    c.in_ok-progress.ensures.processes_input)
    (sym c.in-BothLogs.is ∙ c.over_by.ensures) c.in_ok-finish-in-BothLogs.ensures.finishes

pub returns-in_err-progress-clause-refuses : goal.returns-in_err-progress-clause-refuses
returns-in_err-progress-clause-refuses c =
    let p = err_from_is_err_and c.from_residual-in_err-progress.result c.from_residual-in_err-progress.ensures.1 in
    let w = c.args.self in
    let emitted = c.take_segment.new.emitted.items in
    rw (p.1, p.2)
    (take_heard_refused c.args.pair.now (record { segment = c.args.segment; octets = c.args.octets.now }) w c.in_ok-followed.followed c.note_reset.new.bare_resets.items
    c.deref.result.now emitted _ c.args.report.now c.hear_all.new.report c.in_ok-note_reset.ensures c.deref.ensures.value
    (subst (λ (n : ℕ). TakesCut w.connection (cut_by n c.args.segment c.args.octets.now) c.args.segment.packet [] emitted c.in_ok-followed.followed) c.begin_of-begin.ensures
    (subst (λ (hs : List TimedEvent). TakesCut w.connection (cut_by c.begin_of-begin.result c.args.segment c.args.octets.now) c.args.segment.packet hs emitted c.in_ok-followed.followed)
    c.new-emitted.ensures.items c.in_ok-followed.ensures.takes))
    c.in_err-progress.ensures.refuses)

pub returns-in_err-finish-in-BothLogs-clause-refuses : goal.returns-in_err-finish-in-BothLogs-clause-refuses
returns-in_err-finish-in-BothLogs-clause-refuses c =
    let p = err_from_is_err_and c.from_residual-in_err-finish-in-BothLogs.result c.from_residual-in_err-finish-in-BothLogs.ensures.1 in
    let w = c.args.self in
    let emitted = c.take_segment.new.emitted.items in
    let joined = c.hear_all.new.joined in
    rw (p.1, p.2)
    (take_finish_refused c.args.pair.now (record { segment = c.args.segment; octets = c.args.octets.now }) w c.in-BothLogs.shortfall c.in_ok-followed.followed c.in_ok-progress.progress
    c.note_reset.new.bare_resets.items joined emitted _ c.args.report.now c.hear_all.new.report c.finish.new.report c.in_ok-note_reset.ensures
    (subst (λ (n : ℕ). TakesCut w.connection (cut_by n c.args.segment c.args.octets.now) c.args.segment.packet [] emitted c.in_ok-followed.followed) c.begin_of-begin.ensures
    (subst (λ (hs : List TimedEvent). TakesCut w.connection (cut_by c.begin_of-begin.result c.args.segment c.args.octets.now) c.args.segment.packet hs emitted c.in_ok-followed.followed)
    c.new-emitted.ensures.items c.in_ok-followed.ensures.takes))
    (subst (λ (ns : List ℕ). HearsEach c.args.pair.now (map (in_capture ns) emitted) w.joined c.args.report.now c.in_ok-progress.progress joined c.hear_all.new.report) c.deref.ensures.value
    c.in_ok-progress.ensures.processes_input)
    (sym c.in-BothLogs.is ∙ c.over_by.ensures) c.in_ok-progress.ensures.emitted c.in_err-finish-in-BothLogs.ensures.refuses)
