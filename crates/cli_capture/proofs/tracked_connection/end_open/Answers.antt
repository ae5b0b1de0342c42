use Rattle.std.proofs.Common.{◌∙◌}
use Rattle.cli_capture.proofs.Connections.{end_goes_ok, end_over_ok, replaced_else, replaced_then}
use Rattle.cli_capture.proofs.Paging.{ends_page, never_over_page}
use Rattle.std.proofs.lemmas.Result.{err_from_is_err_and}
use Rattle.cli_capture.proofs.StageRefusals.{ends_heard, ends_left, never_over_refused}
use Rattle.cli_capture.proofs.Unrefused.{err_map}
use Rattle.cli_capture.proofs.tracked_connection.end_open.Goals as goal
use Rattle.cli_capture.proofs.tracked_connection.end_open.Goals.{then-is_replaced, else-is_replaced}

pub returns-in-Over-clause-ends : goal.returns-in-Over-clause-ends
returns-in-Over-clause-ends c =
    end_over_ok c.conclude.result c.args.pair.now c.args.is_replaced c.args.missing c.args.«open» c.hear_all.new.logs c.new-emitted.result.items
    c.end.new.emitted.items c.in-Ok.ending c.in_ok-shortfall.field-0 c.in-Over.shortfall c.args.report.now c.hear_all.new.report c.conclude.new.report
    c.new-emitted.ensures.items c.in-Ok.ensures.emitted c.in-Ok.ensures.times c.in-Over.is c.in_ok-shortfall.ensures.reception c.in_ok-shortfall.ensures.same
    c.conclude.ensures.once

pub returns-in_ok-go_down-in-Proceeds-clause-ends : goal.returns-in_ok-go_down-in-Proceeds-clause-ends
returns-in_ok-go_down-in-Proceeds-clause-ends c =
    end_goes_ok c.conclude-in-Proceeds.result c.args.pair.now c.args.is_replaced c.args.missing c.args.«open» c.hear_all.new.logs c.go_down.new.logs
    c.new-emitted.result.items c.end.new.emitted.items c.in-Ok.ending c.in_ok-shortfall.field-0 c.lack_behind-shortfall.result c.if-is_replaced.go_down c.args.report.now
    c.hear_all.new.report c.go_down.new.report c.conclude-in-Proceeds.new.report c.new-emitted.ensures.items c.in-Ok.ensures.emitted c.in-Ok.ensures.times
    c.in-Proceeds.is c.in_ok-shortfall.ensures.reception c.in_ok-shortfall.ensures.same
    c.lack_behind-shortfall.ensures
    (elim c.if-is_replaced.branch [
      | then-is_replaced w ↦
          replaced_then c.args.is_replaced c.lack_behind-shortfall.result w.is_none.result c.if-is_replaced.go_down w.if-is_replaced.true w.is_none.ensures w.go_down-is
      | else-is_replaced w ↦ replaced_else c.args.is_replaced c.lack_behind-shortfall.result c.if-is_replaced.go_down w.if-is_replaced.false
          (w.go_down-is ∙ w.if-is_replaced.false)
    ])
    c.in_ok-go_down-in-Proceeds.ensures.down c.in_ok-go_down-in-Proceeds.ensures.same c.conclude-in-Proceeds.ensures.once

pub returns-in-Over-clause-logged : goal.returns-in-Over-clause-logged
returns-in-Over-clause-logged c =
    never_over_page c.conclude.result c.args.pair.now c.args.is_replaced c.args.missing c.args.«open» c.hear_all.new.logs c.new-emitted.result.items
    c.end.new.emitted.items c.in-Ok.ending c.in_ok-shortfall.field-0 c.in-Over.shortfall c.args.report.now c.hear_all.new.report c.conclude.new.report
    c.new-emitted.ensures.items c.in-Ok.ensures.emitted c.in-Over.is c.in_ok-shortfall.ensures.logged

pub returns-in_ok-go_down-in-Proceeds-clause-logged : goal.returns-in_ok-go_down-in-Proceeds-clause-logged
returns-in_ok-go_down-in-Proceeds-clause-logged c =
    ends_page c.conclude-in-Proceeds.result c.args.pair.now c.args.is_replaced c.args.missing c.args.«open» c.hear_all.new.logs c.go_down.new.logs
    c.new-emitted.result.items c.end.new.emitted.items c.in-Ok.ending c.in_ok-shortfall.field-0 c.lack_behind-shortfall.result c.if-is_replaced.go_down c.args.report.now
    c.hear_all.new.report c.go_down.new.report c.conclude-in-Proceeds.new.report c.new-emitted.ensures.items c.in-Ok.ensures.emitted c.in_ok-shortfall.ensures.logged
    c.lack_behind-shortfall.ensures
    (elim c.if-is_replaced.branch [
      | then-is_replaced w ↦
          replaced_then c.args.is_replaced c.lack_behind-shortfall.result w.is_none.result c.if-is_replaced.go_down w.if-is_replaced.true w.is_none.ensures w.go_down-is
      | else-is_replaced w ↦ replaced_else c.args.is_replaced c.lack_behind-shortfall.result c.if-is_replaced.go_down w.if-is_replaced.false
          (w.go_down-is ∙ w.if-is_replaced.false)
    ])
    c.in_ok-go_down-in-Proceeds.ensures.logged c.conclude-in-Proceeds.ensures.logged

pub returns-in_err-shortfall-clause-refuses : goal.returns-in_err-shortfall-clause-refuses
returns-in_err-shortfall-clause-refuses c =
    let p = err_from_is_err_and c.from_residual.result c.from_residual.ensures.1 in
    rw (p.1, p.2)
    (ends_heard c.args.pair.now c.args.missing c.args.«open» c.new-emitted.result.items c.end.new.emitted.items c.in-Ok.ending _ c.args.report.now c.hear_all.new.report
    c.new-emitted.ensures.items c.in-Ok.ensures.emitted c.in_err-shortfall.ensures.refuses)

pub returns-in-Over-clause-refuses : goal.returns-in-Over-clause-refuses
returns-in-Over-clause-refuses c =
    err_map c.conclude.result
    (λ st _. never_over_refused c.args.pair.now c.args.missing c.args.«open» c.hear_all.new.logs c.new-emitted.result.items c.end.new.emitted.items c.in-Ok.ending
    c.in_ok-shortfall.field-0 c.in-Over.shortfall st c.args.report.now c.hear_all.new.report c.conclude.new.report c.new-emitted.ensures.items c.in-Ok.ensures.emitted
    c.in-Over.is c.in_ok-shortfall.ensures.logged) c.conclude.ensures.refuses

pub returns-in_ok-go_down-in-Proceeds-clause-refuses : goal.returns-in_ok-go_down-in-Proceeds-clause-refuses
returns-in_ok-go_down-in-Proceeds-clause-refuses c =
    err_map c.conclude-in-Proceeds.result
    (λ st. ends_left c.args.pair.now c.args.is_replaced c.args.missing c.args.«open» c.hear_all.new.logs c.go_down.new.logs
    c.new-emitted.result.items c.end.new.emitted.items c.in-Ok.ending c.in_ok-shortfall.field-0 c.lack_behind-shortfall.result c.if-is_replaced.go_down st c.args.report.now
    c.hear_all.new.report c.go_down.new.report c.conclude-in-Proceeds.new.report c.new-emitted.ensures.items c.in-Ok.ensures.emitted c.in_ok-shortfall.ensures.logged
    c.lack_behind-shortfall.ensures
    (elim c.if-is_replaced.branch [
      | then-is_replaced w ↦
          replaced_then c.args.is_replaced c.lack_behind-shortfall.result w.is_none.result c.if-is_replaced.go_down w.if-is_replaced.true w.is_none.ensures w.go_down-is
      | else-is_replaced w ↦ replaced_else c.args.is_replaced c.lack_behind-shortfall.result c.if-is_replaced.go_down w.if-is_replaced.false
          (w.go_down-is ∙ w.if-is_replaced.false)
    ])
    c.in_ok-go_down-in-Proceeds.ensures.logged) c.conclude-in-Proceeds.ensures.refuses
