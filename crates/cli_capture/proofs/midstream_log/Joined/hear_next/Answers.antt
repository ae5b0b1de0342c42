use Rattle.std.proofs.Common.{ℕ, ◌∙◌, ap, subst}
use Rattle.cli_capture.specs.declared.progress.Progress.{Progress}
use Rattle.cli_capture.specs.InnerMidstreamLog.{Decides}
use Rattle.cli_capture.specs.Assumptions.{other_side, said_by}
use Rattle.capture_tcp.specs.declared.packet.Side.{Side}
use Rattle.std.proofs.lemmas.Result.{err_from_is_err_and}
use Rattle.cli_capture.proofs.SessionRefusals.{next_decide_refused, next_settled_refused, next_tell_refused, next_told_refused, next_waits_refused}
use Rattle.cli_capture.proofs.Unrefused.{err_map}
use Rattle.cli_capture.proofs.Sessions.{decided_ok, next_never, next_settled, next_waits, ok_map, told_ok}
use Rattle.cli_capture.proofs.midstream_log.Joined.hear_next.Goals as goal

pub returns-then-self-clause-processes_input : goal.returns-then-self-clause-processes_input
returns-then-self-clause-processes_input c =
    told_ok c.submit.result c.args.pair.now c.args.happening c.args.self.now c.submit.new.self c.args.report.now c.submit.new.report c.if-self.true c.submit.ensures.emits
    c.submit.ensures.same

pub returns-in_default-clause-processes_input : goal.returns-in_default-clause-processes_input
returns-in_default-clause-processes_input c =
    let says = c.message_of.ensures ∙ ap (λ (n : ℕ). said_by n c.args.happening.event) c.max.ensures in
    ok_map c.settle_and_tell.result
    (λ progress. next_settled c.args.pair.now c.args.happening c.message_of.result progress c.args.self.now c.settle_and_tell.new.self c.args.report.now
    c.settle_and_tell.new.report c.if-self.false says c.in_default.is) c.settle_and_tell.ensures.emits

pub returns-in_default-decided_by-clause-processes_input : goal.returns-in_default-decided_by-clause-processes_input
returns-in_default-decided_by-clause-processes_input c =
    let says = c.message_of.ensures ∙ ap (λ (n : ℕ). said_by n c.args.happening.event) c.max.ensures in
    ok_map c.wait.result
    (λ progress. next_waits c.args.pair.now c.args.happening c.in-Some.from c.in-Some.message c.decided_by.result c.message_of.result progress c.args.self.now
    c.wait.new.self c.args.report.now c.wait.new.report c.if-self.false says c.in-Some.is c.decided_by.ensures c.in_default-decided_by.is) c.wait.ensures.waits

pub returns-in-Proceeds-clause-processes_input : goal.returns-in-Proceeds-clause-processes_input
returns-in-Proceeds-clause-processes_input c =
    let says = c.message_of.ensures ∙ ap (λ (n : ℕ). said_by n c.args.happening.event) c.max.ensures in
    let of = subst (λ (s : Side). Decides c.args.pair.now c.in-Some-decided_by.assumed s c.args.self.now c.args.report.now c.in_ok-decide.field-0 c.decide.new.self
    c.decide.new.report) c.other.ensures c.in_ok-decide.ensures.decides in
    let decided = subst (λ (x : Progress). Decides c.args.pair.now c.in-Some-decided_by.assumed (other_side c.in-Some.from) c.args.self.now c.args.report.now x
    c.decide.new.self c.decide.new.report) c.in-Proceeds.is of in
    decided_ok c.submit-in-Proceeds.result c.args.pair.now c.args.happening c.in-Some.from c.in-Some.message c.in-Some-decided_by.assumed c.decided_by.result
    c.message_of.result c.args.self.now c.decide.new.self c.submit-in-Proceeds.new.self c.args.report.now c.decide.new.report c.submit-in-Proceeds.new.report c.if-self.false
    says c.in-Some.is c.decided_by.ensures c.in-Some-decided_by.is decided c.submit-in-Proceeds.ensures.emits c.submit-in-Proceeds.ensures.same

pub returns-in-Over-clause-processes_input : goal.returns-in-Over-clause-processes_input
returns-in-Over-clause-processes_input c =
    next_never c.args.pair.now c.args.happening c.in-Some-decided_by.assumed c.other.result c.in-Over.shortfall c.args.self.now c.decide.new.self c.args.report.now
    c.decide.new.report c.if-self.false
    (subst (λ (x : Progress). Decides c.args.pair.now c.in-Some-decided_by.assumed c.other.result c.args.self.now c.args.report.now x c.decide.new.self
    c.decide.new.report) c.in-Over.is c.in_ok-decide.ensures.decides)

pub returns-then-self-clause-refuses : goal.returns-then-self-clause-refuses
returns-then-self-clause-refuses c =
    err_map c.submit.result
    (λ st. next_told_refused c.args.pair.now c.args.happening c.args.self.now st c.args.report.now c.submit.new.report c.if-self.true) c.submit.ensures.refuses

pub returns-in_default-clause-refuses : goal.returns-in_default-clause-refuses
returns-in_default-clause-refuses c =
    let says = c.message_of.ensures ∙ ap (λ (n : ℕ). said_by n c.args.happening.event) c.max.ensures in
    err_map c.settle_and_tell.result
    (λ st. next_settled_refused c.args.pair.now c.args.happening c.message_of.result c.args.self.now st c.args.report.now c.settle_and_tell.new.report c.if-self.false says
    c.in_default.is) c.settle_and_tell.ensures.refuses

pub returns-in_default-decided_by-clause-refuses : goal.returns-in_default-decided_by-clause-refuses
returns-in_default-decided_by-clause-refuses c =
    let says = c.message_of.ensures ∙ ap (λ (n : ℕ). said_by n c.args.happening.event) c.max.ensures in
    err_map c.wait.result
    (λ st. next_waits_refused c.args.pair.now c.args.happening c.in-Some.from c.in-Some.message c.decided_by.result c.message_of.result c.args.self.now st
    c.args.report.now c.wait.new.report c.if-self.false says c.in-Some.is c.decided_by.ensures c.in_default-decided_by.is) c.wait.ensures.refuses

pub returns-in_err-decide-clause-refuses : goal.returns-in_err-decide-clause-refuses
returns-in_err-decide-clause-refuses c =
    let p = err_from_is_err_and c.from_residual.result c.from_residual.ensures.1 in
    let says = c.message_of.ensures ∙ ap (λ (n : ℕ). said_by n c.args.happening.event) c.max.ensures in
    rw (p.1, p.2)
    (next_decide_refused c.args.pair.now c.args.happening c.in-Some.from c.in-Some.message c.in-Some-decided_by.assumed c.decided_by.result c.message_of.result
    _ c.args.self.now _ c.args.report.now c.decide.new.report c.if-self.false says c.in-Some.is c.decided_by.ensures c.in-Some-decided_by.is c.other.ensures
    c.in_err-decide.ensures.refuses)

pub returns-in-Proceeds-clause-refuses : goal.returns-in-Proceeds-clause-refuses
returns-in-Proceeds-clause-refuses c =
    let says = c.message_of.ensures ∙ ap (λ (n : ℕ). said_by n c.args.happening.event) c.max.ensures in
    let of = subst (λ (s : Side). Decides c.args.pair.now c.in-Some-decided_by.assumed s c.args.self.now c.args.report.now c.in_ok-decide.field-0 c.decide.new.self
    c.decide.new.report) c.other.ensures c.in_ok-decide.ensures.decides in
    let decided = subst (λ (x : Progress). Decides c.args.pair.now c.in-Some-decided_by.assumed (other_side c.in-Some.from) c.args.self.now c.args.report.now x
    c.decide.new.self c.decide.new.report) c.in-Proceeds.is of in
    err_map c.submit-in-Proceeds.result
    (λ st. next_tell_refused c.args.pair.now c.args.happening c.in-Some.from c.in-Some.message c.in-Some-decided_by.assumed c.decided_by.result c.message_of.result
    c.args.self.now c.decide.new.self st c.args.report.now c.decide.new.report c.submit-in-Proceeds.new.report c.if-self.false says c.in-Some.is c.decided_by.ensures
    c.in-Some-decided_by.is decided c.in_ok-decide.ensures.emitted c.in_ok-decide.ensures.quiet) c.submit-in-Proceeds.ensures.refuses
