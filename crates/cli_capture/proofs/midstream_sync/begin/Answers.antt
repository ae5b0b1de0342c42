use Rattle.std.proofs.Common.{◌≡◌, false, None, Option, Some, subst}
use Rattle.std.specs.Prelude.{IfSome}
use Rattle.capture_midstream.specs.declared.session_filter.Session.{Session}
use Rattle.capture_midstream.specs.PacketBuffer.{AreBeginnings, AreUnsure}
use Rattle.cli_capture.specs.declared.midstream_connection.Within.{Within}
use Rattle.cli_capture.specs.InnerMidstreamSync.{TakesFrom}
use Rattle.cli_capture.specs.Report.{session_of}
use Rattle.std.proofs.lemmas.Result.{err_from_is_err_and}
use Rattle.cli_capture.proofs.PacketRefusals.{begin_refused}
use Rattle.cli_capture.proofs.SessionBegins.{begins_none, begins_over, begins_so, begins_within_it}
use Rattle.cli_capture.proofs.midstream_sync.begin.Goals as goal

pub returns-in_default-clause-begins : goal.returns-in_default-clause-begins
returns-in_default-clause-begins c =
    let gs = c.args.gathering in
    let found = c.in_ok-beginnings.field-0 in
    begins_none c.args.pair.now (session_of c.args.report.now.active) gs c.args.is_last found c.args.report.now c.in_default.is
    (subst (λ (s : Session). found ≡ None → (c.args.is_last ≡ false) × AreUnsure s gs) c.session.ensures.by c.in_ok-beginnings.ensures.none)

pub returns-in-Some-2-clause-begins : goal.returns-in-Some-2-clause-begins
returns-in-Some-2-clause-begins c =
    let gs = c.args.gathering in
    let found = c.in_ok-beginnings.field-0 in
    let both = c.in-Some.beginnings in
    let s = session_of c.args.report.now.active in
    begins_within_it c.args.pair.now s gs c.args.is_last c.in-Some-2.within c.args.report.now c.take_from.new.report
    (begins_so c.args.pair.now s gs c.args.is_last (Some c.in-Some-2.within) found both c.args.report.now c.take_from.new.report c.in-Some.is
    (subst (λ (s : Session). IfSome found (AreBeginnings s gs)) c.session.ensures.by c.in_ok-beginnings.ensures.begin) c.in_ok-beginnings.ensures.sure
    (subst (λ (l : Option Within). TakesFrom c.args.pair.now gs both l c.args.report.now c.take_from.new.report) c.in-Some-2.is c.in_ok-within.ensures.takes))

pub returns-clause-begins : goal.returns-clause-begins
returns-clause-begins c =
    let gs = c.args.gathering in
    let found = c.in_ok-beginnings.field-0 in
    let both = c.in-Some.beginnings in
    let s = session_of c.args.report.now.active in
    begins_over c.args.pair.now s gs c.args.is_last c.args.report.now c.take_from.new.report
    (begins_so c.args.pair.now s gs c.args.is_last None found both c.args.report.now c.take_from.new.report c.in-Some.is
    (subst (λ (s : Session). IfSome found (AreBeginnings s gs)) c.session.ensures.by c.in_ok-beginnings.ensures.begin) c.in_ok-beginnings.ensures.sure
    (subst (λ (l : Option Within). TakesFrom c.args.pair.now gs both l c.args.report.now c.take_from.new.report) c.in-None.is c.in_ok-within.ensures.takes))

pub returns-in_err-within-clause-refuses : goal.returns-in_err-within-clause-refuses
returns-in_err-within-clause-refuses c =
    let p = err_from_is_err_and c.from_residual-in_err-within.result c.from_residual-in_err-within.ensures.1 in
    let gs = c.args.gathering in
    let found = c.in_ok-beginnings.field-0 in
    rw (p.1, p.2)
    (begin_refused c.args.pair.now (session_of c.args.report.now.active) gs c.args.is_last found c.in-Some.beginnings _ c.args.report.now c.take_from.new.report c.in-Some.is
    (subst (λ (s : Session). IfSome found (AreBeginnings s gs)) c.session.ensures.by c.in_ok-beginnings.ensures.begin) c.in_ok-beginnings.ensures.sure c.in_err-within.ensures.refuses)
