use Rattle.std.proofs.Common.{sym, subst}
use Rattle.std.specs.Prelude.{IfOk}
use Rattle.std.proofs.lemmas.Result.{err_from_is_err_and}
use Rattle.capture_tcp.specs.KnownStreams.{seen_of}
use Rattle.cli_capture.specs.declared.tracked_connection.ConnectionState.{ConnectionState}
use Rattle.cli_capture.specs.InnerConnectionState.{TakesStage, stage_by}
use Rattle.cli_capture.specs.InnerLogOutput.{TakesOnPage}
use Rattle.cli_capture.proofs.StageRefusals.{take_begun_refused, take_joining_refused, take_open_refused, take_waits_refused, take_within_refused}
use Rattle.cli_capture.proofs.Unrefused.{err_map}
use Rattle.cli_capture.proofs.Stages.{take_begun, take_open, take_waits}
use Rattle.cli_capture.proofs.Staging.{take_begun_page, take_open_page, take_waits_page}
use Rattle.cli_capture.proofs.tracked_connection.ConnectionState.take.Goals as goal

pub returns-in_ok-left-in-Open-clause-takes : goal.returns-in_ok-left-in-Open-clause-takes
returns-in_ok-left-in-Open-clause-takes c =
    let s = seen_of c.args.packet.segment c.args.packet.octets.now in
    subst (λ (next : ConnectionState). TakesStage c.args.pair.now c.args.syn s c.args.self next c.args.report.now c.follow.new.report) (sym c.stage_of.ensures)
    (subst (λ (st : ConnectionState). TakesStage c.args.pair.now c.args.syn s st (stage_by c.in_ok-left-in-Open.left) c.args.report.now c.follow.new.report)
    (sym c.in-Open.is)
    (take_open c.args.pair.now c.args.syn s c.in-Open.«open» c.in_ok-left-in-Open.left c.args.report.now c.follow.new.report
    c.in_ok-left-in-Open.ensures.follows))

pub returns-in_ok-left-in-Some-clause-takes : goal.returns-in_ok-left-in-Some-clause-takes
returns-in_ok-left-in-Some-clause-takes c =
    let s = seen_of c.args.packet.segment c.args.packet.octets.now in
    subst (λ (next : ConnectionState). TakesStage c.args.pair.now c.args.syn s c.args.self next c.args.report.now c.begin_with.new.report)
    (sym c.stage_of-in-Some.ensures)
    (subst (λ (st : ConnectionState). TakesStage c.args.pair.now c.args.syn s st (stage_by c.in_ok-left-in-Some.left) c.args.report.now c.begin_with.new.report)
    (sym c.in-Opening.is)
    (take_begun c.args.pair.now c.args.syn c.args.packet.segment c.args.packet.octets.now c.in-Some.syn c.in-Opening.waiting c.in_ok-left-in-Some.left
    c.args.report.now c.begin_with.new.report c.in-Some.ensures c.in_ok-left-in-Some.ensures.begins))

pub returns-in-None-clause-takes : goal.returns-in-None-clause-takes
returns-in-None-clause-takes c =
    let s = seen_of c.args.packet.segment c.args.packet.octets.now in
    subst (λ (st : ConnectionState). IfOk c.wait.result (λ next. TakesStage c.args.pair.now c.args.syn s st next c.args.report.now c.wait.new.report))
    (sym c.in-Opening.is)
    (take_waits c.wait.result c.args.pair.now c.args.syn c.args.packet.segment c.args.packet.octets.now c.in-Opening.waiting c.args.report.now c.wait.new.report
    c.in-None.ensures c.wait.ensures.waits)

pub returns-in_ok-left-in-Open-clause-logged : goal.returns-in_ok-left-in-Open-clause-logged
returns-in_ok-left-in-Open-clause-logged c =
    let s = seen_of c.args.packet.segment c.args.packet.octets.now in
    subst (λ (next : ConnectionState). TakesOnPage c.args.pair.now c.args.syn s c.args.self next c.args.report.now c.follow.new.report) (sym c.stage_of.ensures)
    (subst (λ (st : ConnectionState). TakesOnPage c.args.pair.now c.args.syn s st (stage_by c.in_ok-left-in-Open.left) c.args.report.now c.follow.new.report)
    (sym c.in-Open.is)
    (take_open_page c.args.pair.now c.args.syn s c.in-Open.«open» c.in_ok-left-in-Open.left c.args.report.now c.follow.new.report
    c.in_ok-left-in-Open.ensures.logged))

pub returns-in_ok-left-in-Some-clause-logged : goal.returns-in_ok-left-in-Some-clause-logged
returns-in_ok-left-in-Some-clause-logged c =
    let s = seen_of c.args.packet.segment c.args.packet.octets.now in
    subst (λ (next : ConnectionState). TakesOnPage c.args.pair.now c.args.syn s c.args.self next c.args.report.now c.begin_with.new.report)
    (sym c.stage_of-in-Some.ensures)
    (subst (λ (st : ConnectionState). TakesOnPage c.args.pair.now c.args.syn s st (stage_by c.in_ok-left-in-Some.left) c.args.report.now c.begin_with.new.report)
    (sym c.in-Opening.is)
    (take_begun_page c.args.pair.now c.args.syn c.args.packet.segment c.args.packet.octets.now c.in-Some.syn c.in-Opening.waiting c.in_ok-left-in-Some.left
    c.args.report.now c.begin_with.new.report c.in-Some.ensures c.in_ok-left-in-Some.ensures.logged))

pub returns-in-None-clause-logged : goal.returns-in-None-clause-logged
returns-in-None-clause-logged c =
    let s = seen_of c.args.packet.segment c.args.packet.octets.now in
    subst (λ (st : ConnectionState). IfOk c.wait.result (λ next. TakesOnPage c.args.pair.now c.args.syn s st next c.args.report.now c.wait.new.report))
    (sym c.in-Opening.is)
    (take_waits_page c.wait.result c.args.pair.now c.args.syn c.args.packet.segment c.args.packet.octets.now c.in-Opening.waiting c.args.report.now c.wait.new.report
    c.in-None.ensures c.wait.ensures.logged)

pub returns-in_err-left-in-Open-clause-refuses : goal.returns-in_err-left-in-Open-clause-refuses
returns-in_err-left-in-Open-clause-refuses c =
    let p = err_from_is_err_and c.from_residual.result c.from_residual.ensures.1 in
    let s = seen_of c.args.packet.segment c.args.packet.octets.now in
    rw (p.1, p.2)
    (take_open_refused c.args.pair.now c.args.syn s c.args.self c.in-Open.«open» _ c.args.report.now c.follow.new.report c.in-Open.is
    c.in_err-left-in-Open.ensures.refuses)

pub returns-in_err-left-in-Some-clause-refuses : goal.returns-in_err-left-in-Some-clause-refuses
returns-in_err-left-in-Some-clause-refuses c =
    let p = err_from_is_err_and c.from_residual-in_err-left-in-Some.result c.from_residual-in_err-left-in-Some.ensures.1 in
    rw (p.1, p.2)
    (take_begun_refused c.args.pair.now c.args.syn c.args.packet.segment c.args.packet.octets.now c.in-Some.syn c.args.self c.in-Opening.waiting _ c.args.report.now
    c.begin_with.new.report c.in-Opening.is c.in-Some.ensures c.in_err-left-in-Some.ensures.refuses)

pub returns-in-None-clause-refuses : goal.returns-in-None-clause-refuses
returns-in-None-clause-refuses c =
    err_map c.wait.result
    (λ st. take_waits_refused c.args.pair.now c.args.syn c.args.packet.segment c.args.packet.octets.now c.args.self c.in-Opening.waiting st c.args.report.now c.wait.new.report
    c.in-Opening.is c.in-None.ensures) c.wait.ensures.refuses

pub returns-in-Joining-clause-refuses : goal.returns-in-Joining-clause-refuses
returns-in-Joining-clause-refuses c =
    err_map c.join.result
    (λ st _. take_joining_refused c.args.pair.now c.args.syn (seen_of c.args.packet.segment c.args.packet.octets.now) c.args.self c.in-Joining.gathering st c.args.report.now
    c.join.new.report c.in-Joining.is) c.join.ensures.unrefused

pub returns-in-Within-clause-refuses : goal.returns-in-Within-clause-refuses
returns-in-Within-clause-refuses c =
    err_map c.go_within.result
    (λ st _. take_within_refused c.args.pair.now c.args.syn (seen_of c.args.packet.segment c.args.packet.octets.now) c.args.self c.in-Within.within st c.args.report.now
    c.go_within.new.report c.in-Within.is) c.go_within.ensures.unrefused
