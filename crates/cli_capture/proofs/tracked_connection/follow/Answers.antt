use Rattle.std.proofs.Common.{refl}
use Rattle.std.proofs.lemmas.Result.{err_from_is_err_and}
use Rattle.capture_tcp.specs.KnownStreams.{seen_of}
use Rattle.cli_capture.specs.declared.tracked_connection.Logs.{Logs}
use Rattle.cli_capture.proofs.Connections.{follows_ok}
use Rattle.cli_capture.proofs.Paging.{follows_page_ok}
use Rattle.cli_capture.proofs.Refusals.{follows_left, follows_refused}
use Rattle.cli_capture.proofs.Unrefused.{err_map}
use Rattle.cli_capture.proofs.tracked_connection.follow.Goals as goal

pub returns-clause-follows : goal.returns-clause-follows
returns-clause-follows c =
    let o = c.args.«open» in
    let first : Logs = record { ends = o.logs.ends; is_up = o.logs.is_up; bare_resets = c.note_reset.new.bare_resets } in
    follows_ok c.go_on.result c.args.pair.now (seen_of c.args.segment c.args.octets.now) o c.in_ok-followed.followed c.in_ok-progress.progress first c.hear_all.new.logs
    c.new-emitted.result.items c.take_segment.new.emitted.items c.args.report.now c.hear_all.new.report c.go_on.new.report c.new-emitted.ensures.items
    c.in_ok-followed.ensures.takes (c.in_ok-note_reset.ensures, refl, refl) c.in_ok-progress.ensures.reception c.in_ok-progress.ensures.same c.go_on.ensures.proceeds

pub returns-clause-logged : goal.returns-clause-logged
returns-clause-logged c =
    let o = c.args.«open» in
    let first : Logs = record { ends = o.logs.ends; is_up = o.logs.is_up; bare_resets = c.note_reset.new.bare_resets } in
    follows_page_ok c.go_on.result c.args.pair.now (seen_of c.args.segment c.args.octets.now) o c.in_ok-followed.followed c.in_ok-progress.progress first c.hear_all.new.logs
    c.new-emitted.result.items c.take_segment.new.emitted.items c.args.report.now c.hear_all.new.report c.go_on.new.report c.new-emitted.ensures.items
    c.in_ok-followed.ensures.takes (c.in_ok-note_reset.ensures, refl, refl) c.in_ok-progress.ensures.logged c.go_on.ensures.logged

pub returns-in_err-progress-clause-refuses : goal.returns-in_err-progress-clause-refuses
returns-in_err-progress-clause-refuses c =
    let p = err_from_is_err_and c.from_residual-in_err-progress.result c.from_residual-in_err-progress.ensures.1 in
    let o = c.args.«open» in
    let first : Logs = record { ends = o.logs.ends; is_up = o.logs.is_up; bare_resets = c.note_reset.new.bare_resets } in
    rw (p.1, p.2)
    (follows_refused c.args.pair.now (seen_of c.args.segment c.args.octets.now) o c.in_ok-followed.followed first c.new-emitted.result.items
    c.take_segment.new.emitted.items _ c.args.report.now c.hear_all.new.report c.new-emitted.ensures.items c.in_ok-followed.ensures.takes
    (c.in_ok-note_reset.ensures, refl, refl) c.in_err-progress.ensures.refuses)

pub returns-clause-refuses : goal.returns-clause-refuses
returns-clause-refuses c =
    let o = c.args.«open» in
    let first : Logs = record { ends = o.logs.ends; is_up = o.logs.is_up; bare_resets = c.note_reset.new.bare_resets } in
    err_map c.go_on.result
    (λ st. follows_left c.args.pair.now (seen_of c.args.segment c.args.octets.now) o c.in_ok-followed.followed c.in_ok-progress.progress first c.hear_all.new.logs
    c.new-emitted.result.items c.take_segment.new.emitted.items st c.args.report.now c.hear_all.new.report c.go_on.new.report c.new-emitted.ensures.items
    c.in_ok-followed.ensures.takes (c.in_ok-note_reset.ensures, refl, refl) c.in_ok-progress.ensures.logged) c.go_on.ensures.refuses
