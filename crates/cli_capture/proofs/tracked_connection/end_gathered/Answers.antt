use Rattle.std.proofs.Common.{true, subst}
use Rattle.cli_capture.specs.declared.midstream_sync.Joining.{Joining}
use Rattle.cli_capture.specs.InnerMidstreamSync.{BeginsWith}
use Rattle.cli_capture.specs.Report.{session_of}
use Rattle.std.proofs.lemmas.Result.{err_from_is_err_and}
use Rattle.cli_capture.proofs.PacketRefusals.{end_begin_refused, end_within_it}
use Rattle.cli_capture.proofs.Unrefused.{err_map}
use Rattle.cli_capture.proofs.SessionBegins.{left_kept, left_over, left_within}
use Rattle.cli_capture.proofs.tracked_connection.end_gathered.Goals as goal

pub returns-in-BuffersPackets-clause-ends : goal.returns-in-BuffersPackets-clause-ends
returns-in-BuffersPackets-clause-ends c =
    let pair = c.args.pair.now in
    let old = c.args.report.now in
    let mid = c.begin.new.report in
    left_kept pair c.args.is_replaced c.args.missing c.args.gathering c.in-BuffersPackets.field-0 old mid
    (subst (λ (j : Joining). BeginsWith pair (session_of old.active) c.args.gathering true j old mid) c.in-BuffersPackets.is c.in_ok-begin.ensures.begins)

pub returns-in-Within-clause-ends : goal.returns-in-Within-clause-ends
returns-in-Within-clause-ends c =
    let pair = c.args.pair.now in
    let old = c.args.report.now in
    let mid = c.begin.new.report in
    left_within c.end.result pair c.args.is_replaced c.args.missing c.args.gathering c.in-Within.within old mid c.end.new.report
    (subst (λ (j : Joining). BeginsWith pair (session_of old.active) c.args.gathering true j old mid) c.in-Within.is c.in_ok-begin.ensures.begins) c.end.ensures.ends

pub returns-clause-ends : goal.returns-clause-ends
returns-clause-ends c =
    let pair = c.args.pair.now in
    let old = c.args.report.now in
    let mid = c.begin.new.report in
    left_over pair c.args.is_replaced c.args.missing c.args.gathering old mid
    (subst (λ (j : Joining). BeginsWith pair (session_of old.active) c.args.gathering true j old mid) c.in-Over.is c.in_ok-begin.ensures.begins)

pub returns-in_err-begin-clause-refuses : goal.returns-in_err-begin-clause-refuses
returns-in_err-begin-clause-refuses c =
    let p = err_from_is_err_and c.from_residual.result c.from_residual.ensures.1 in
    rw (p.1, p.2) (end_begin_refused c.args.pair.now c.args.missing c.args.gathering _ c.args.report.now c.begin.new.report c.in_err-begin.ensures.refuses)

pub returns-in-Within-clause-refuses : goal.returns-in-Within-clause-refuses
returns-in-Within-clause-refuses c =
    let pair = c.args.pair.now in
    let old = c.args.report.now in
    let mid = c.begin.new.report in
    err_map c.end.result
    (λ st. end_within_it pair c.args.missing c.args.gathering c.in-Within.within st old mid c.end.new.report
    (subst (λ (j : Joining). BeginsWith pair (session_of old.active) c.args.gathering true j old mid) c.in-Within.is c.in_ok-begin.ensures.begins)) c.end.ensures.refuses
