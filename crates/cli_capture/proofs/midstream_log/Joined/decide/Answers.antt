use Rattle.std.proofs.Common.{ap, ◌∙◌, Vec, Global}
use Rattle.std.proofs.lemmas.Result.{err_from_is_err_and}
use Rattle.capture_tcp.specs.declared.events.TimedEvent.{TimedEvent}
use Rattle.cli_capture.specs.declared.midstream_log.Joined.{Joined}
use Rattle.cli_capture.proofs.SessionRefusals.{decide_refused}
use Rattle.cli_capture.proofs.Sessions.{decides_ok}
use Rattle.cli_capture.proofs.Unrefused.{err_map, is_memory_in_log}
use Rattle.cli_capture.proofs.midstream_log.Joined.decide.Goals as goal

pub returns-clause-decides : goal.returns-clause-decides
returns-clause-decides c =
    let same = c.suppose.ensures.same in
    decides_ok c.submit_all.result c.args.pair.now c.args.assumed c.args.asker c.args.self.now _ c.submit_all.new.self _ c.args.report.now c.submit_all.new.report
    (ap (λ (v : Vec TimedEvent Global). v.items) c.replace-waiting.ensures.value ∙ ap (λ (j : Joined). j.waiting.items) same)
    (ap (λ (j : Joined). j.start) same) c.suppose.ensures.decided.0 c.suppose.ensures.decided.1 c.suppose.ensures.decided.2 (ap (λ (j : Joined). j.is_up) same)
    (ap (λ (j : Joined). j.ends) same) (ap (λ (j : Joined). j.left_out) same)
    (ap (λ (v : Vec TimedEvent Global). v.items) c.replace-waiting.ensures.after ∙ c.new.ensures.items) c.in_ok-suppose.ensures.said c.submit_all.ensures.emits
    c.submit_all.ensures.same

pub returns-clause-refuses : goal.returns-clause-refuses
returns-clause-refuses c =
    let same = c.suppose.ensures.same in
    err_map c.submit_all.result
    (λ st. decide_refused c.args.pair.now c.args.assumed c.args.asker c.args.self.now _ _ st c.args.report.now c.submit_all.new.report
    (ap (λ (v : Vec TimedEvent Global). v.items) c.replace-waiting.ensures.value ∙ ap (λ (j : Joined). j.waiting.items) same)
    (ap (λ (j : Joined). j.start) same) c.suppose.ensures.decided.1 c.suppose.ensures.decided.2 (ap (λ (j : Joined). j.is_up) same)
    (ap (λ (j : Joined). j.ends) same) (ap (λ (j : Joined). j.left_out) same)
    (ap (λ (v : Vec TimedEvent Global). v.items) c.replace-waiting.ensures.after ∙ c.new.ensures.items) c.in_ok-suppose.ensures.said) c.submit_all.ensures.refuses

pub returns-in_err-suppose-clause-refuses : goal.returns-in_err-suppose-clause-refuses
returns-in_err-suppose-clause-refuses c =
    let p = err_from_is_err_and c.from_residual.result c.from_residual.ensures.1 in
    rw (p.1, p.2) (is_memory_in_log _ c.args.report.now _ c.in_err-suppose.ensures.memory)
