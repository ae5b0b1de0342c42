use Rattle.std.proofs.Common.{◌∙◌, sym}
use Rattle.cli_capture.proofs.SessionRefusals.{hear_refused}
use Rattle.cli_capture.proofs.Unrefused.{err_map}
use Rattle.cli_capture.proofs.Sessions.{counts_never_up, hears_next, processes_nothing, ok_map}
use Rattle.cli_capture.proofs.midstream_log.Joined.process_input.Goals as goal

pub returns-then-counts-clause-processes_input : goal.returns-then-counts-clause-processes_input
returns-then-counts-clause-processes_input c =
    let h = c.args.happening in
    let old = c.args.self.now in
    let is = sym c.counts.ensures ∙ c.if-counts.true in
    ok_map c.hear_next.result
    (λ progress. hears_next c.args.pair.now h progress old c.hear_next.new.self c.args.report.now c.hear_next.new.report is
    (counts_never_up old.start.packet h.packet h.event is)) c.hear_next.ensures.processes_input

pub returns-else-counts-clause-processes_input : goal.returns-else-counts-clause-processes_input
returns-else-counts-clause-processes_input c =
    processes_nothing c.args.pair.now c.args.happening c.args.self.now c.args.report.now (sym c.counts.ensures ∙ c.if-counts.false)

pub returns-then-counts-clause-refuses : goal.returns-then-counts-clause-refuses
returns-then-counts-clause-refuses c =
    let h = c.args.happening in
    let old = c.args.self.now in
    let is = sym c.counts.ensures ∙ c.if-counts.true in
    err_map c.hear_next.result
    (λ st. hear_refused c.args.pair.now h old st c.args.report.now c.hear_next.new.report is (counts_never_up old.start.packet h.packet h.event is))
    c.hear_next.ensures.refuses
