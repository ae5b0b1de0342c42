use Rattle.std.proofs.Common.{Some}
use Rattle.std.proofs.lemmas.Result.{err_from_is_err_and}
use Rattle.cli_capture.specs.InnerTableInvariant.{FinishesAsDealt}
use Rattle.cli_capture.proofs.FileRefusals.{file_refused, missing_refuses, refuses_none, refuses_opened, refuses_reading}
use Rattle.cli_capture.proofs.Passed.{many_in, missing_ends, never_endless}
use Rattle.cli_capture.proofs.Refusing.{fails_file, missing_fails, ok_file}
use Rattle.cli_capture.proofs.Tellings.{captures, captures_told, writes_nothing}
use Rattle.cli_capture.proofs.Whole.{captures_none, captures_opened, is_blank}
use Rattle.cli_capture.proofs.Written.{some_more}
use Rattle.cli_capture.proofs.command.capture_to.Goals as goal

pub returns-in_ok-missing-in-Ok-clause-some : goal.returns-in_ok-missing-in-Ok-clause-some
returns-in_ok-missing-in-Ok-clause-some g c = some_more _ _ _ c.read_all.ensures.some c.finish.ensures.some

pub returns-in_ok-missing-in-Ok-clause-lines : goal.returns-in_ok-missing-in-Ok-clause-lines
returns-in_ok-missing-in-Ok-clause-lines g c =
    captures c.args.options.active c.args.options.passive _ c.in_ok-missing-in-Ok.missing c.new-report.result c.read_all.new.report
    _ _ _ c.finish.result c.new-report.ensures.manner c.new-report.ensures.active c.new-report.ensures.passive
    c.new-report.ensures.found c.new-report.ensures.page c.in_ok-missing-in-Ok.ensures.lines c.finish.ensures.lines

pub returns-in_ok-missing-in-Err-clause-lines : goal.returns-in_ok-missing-in-Err-clause-lines
returns-in_ok-missing-in-Err-clause-lines g c =
    captures c.args.options.active c.args.options.passive _ (Some c.in_ok-missing-in-Err.missing) c.new-report.result
    c.new-report.result _ _ _ c.finish-in-Err.result c.new-report.ensures.manner c.new-report.ensures.active
    c.new-report.ensures.passive c.new-report.ensures.found c.new-report.ensures.page (writes_nothing _ _)
    c.finish-in-Err.ensures.lines

pub returns-in_ok-missing-in-Ok-clause-emitted : goal.returns-in_ok-missing-in-Ok-clause-emitted
returns-in_ok-missing-in-Ok-clause-emitted g c =
    captures_told c.args.options.active c.args.options.passive _ c.in_ok-missing-in-Ok.missing c.new-report.result c.read_all.new.report
    _ _ _ c.finish.result c.new-report.ensures.manner c.new-report.ensures.active c.new-report.ensures.passive
    c.new-report.ensures.found c.new-report.ensures.page c.in_ok-missing-in-Ok.ensures.lines c.finish.ensures.emitted

pub returns-in_ok-missing-in-Err-clause-emitted : goal.returns-in_ok-missing-in-Err-clause-emitted
returns-in_ok-missing-in-Err-clause-emitted g c =
    captures_told c.args.options.active c.args.options.passive _ (Some c.in_ok-missing-in-Err.missing) c.new-report.result
    c.new-report.result _ _ _ c.finish-in-Err.result c.new-report.ensures.manner c.new-report.ensures.active
    c.new-report.ensures.passive c.new-report.ensures.found c.new-report.ensures.page (writes_nothing _ _)
    c.finish-in-Err.ensures.emitted

pub returns-in_err-missing-in-Ok-clause-emitted : goal.returns-in_err-missing-in-Ok-clause-emitted
returns-in_err-missing-in-Ok-clause-emitted g c =
    let p = err_from_is_err_and c.from_residual.result c.from_residual.ensures.1 in
    rw (p.1, p.2)
    (fails_file c.new-report.result _ _ _ c.new-report.ensures.manner (c.in_err-missing-in-Ok.ensures.unrefused c.new-report.ensures.page))

pub returns-in_err-missing-in-Err-clause-emitted : goal.returns-in_err-missing-in-Err-clause-emitted
returns-in_err-missing-in-Err-clause-emitted g c =
    let p = err_from_is_err_and c.from_residual-in_err-missing-in-Err.result c.from_residual-in_err-missing-in-Err.ensures.1 in
    rw (p.1, p.2)
    (fails_file c.new-report.result _ _ _ c.new-report.ensures.manner
    (missing_fails c.in-Err.fault 0 c.new-report.result _ c.in_err-missing-in-Err.ensures))

pub returns-in_ok-missing-in-Ok-clause-file : goal.returns-in_ok-missing-in-Ok-clause-file
returns-in_ok-missing-in-Ok-clause-file g c =
    ok_file c.finish.result c.args.options _ _ _
    (λ a. FinishesAsDealt c.in_ok-missing-in-Ok.missing c.read_all.new.table c.read_all.new.report (g.W.Sink.state c.read_all.new.sink).written
    (g.W.Sink.state c.finish.new.sink).written a)
    (λ a so. captures_opened c.args.options c.in-Ok.packets c.in_ok-missing-in-Ok.missing c.new-report.result c.read_all.new.report c.new-table.result
    c.read_all.new.table _ _ _ _ _ a
    (is_blank c.args.options c.new-report.result c.new-report.ensures.way c.new-report.ensures.active c.new-report.ensures.passive
    c.new-report.ensures.found c.new-report.ensures.left_out c.new-report.ensures.page) c.new-table.ensures.of c.new-table.ensures.none c.in-Ok.ensures.opened
    c.in-Ok.ensures.count c.in_ok-missing-in-Ok.ensures.deals (λ emits. so)) c.finish.ensures.deals

pub returns-in_ok-missing-in-Err-clause-file : goal.returns-in_ok-missing-in-Err-clause-file
returns-in_ok-missing-in-Err-clause-file g c =
    ok_file c.finish-in-Err.result c.args.options _ _ _
    (λ a. FinishesAsDealt (Some c.in_ok-missing-in-Err.missing) c.new-table.result c.new-report.result (g.W.Sink.state c.args.sink.now).written
    (g.W.Sink.state c.finish-in-Err.new.sink).written a)
    (λ a so. captures_none c.args.options c.in-Err.fault c.in_ok-missing-in-Err.missing c.new-report.result c.new-table.result _ _ _ _ a
    (is_blank c.args.options c.new-report.result c.new-report.ensures.way c.new-report.ensures.active c.new-report.ensures.passive
    c.new-report.ensures.found c.new-report.ensures.left_out c.new-report.ensures.page) c.new-table.ensures.of c.new-table.ensures.none c.in-Err.ensures.opened
    c.in_ok-missing-in-Err.ensures (λ emits. so)) c.finish-in-Err.ensures.deals

pub returns-in_ok-missing-in-Ok-clause-refused : goal.returns-in_ok-missing-in-Ok-clause-refused
returns-in_ok-missing-in-Ok-clause-refused g c =
    file_refused c.finish.result _ _
    (λ fault. refuses_opened c.args.options c.in-Ok.packets c.in_ok-missing-in-Ok.missing c.new-report.result c.read_all.new.report c.new-table.result
    c.read_all.new.table _ _ _ _ _ fault
    (is_blank c.args.options c.new-report.result c.new-report.ensures.way c.new-report.ensures.active c.new-report.ensures.passive
    c.new-report.ensures.found c.new-report.ensures.left_out c.new-report.ensures.page)
    c.new-table.ensures.of c.new-table.ensures.none c.in-Ok.ensures.opened c.in-Ok.ensures.count c.in_ok-missing-in-Ok.ensures.deals)
    c.finish.ensures.refuses c.finish.ensures.stops

pub returns-in_ok-missing-in-Err-clause-refused : goal.returns-in_ok-missing-in-Err-clause-refused
returns-in_ok-missing-in-Err-clause-refused g c =
    file_refused c.finish-in-Err.result _ _
    (λ fault. refuses_none c.args.options c.in-Err.fault c.in_ok-missing-in-Err.missing c.new-report.result c.new-table.result _ _ _ _ fault
    (is_blank c.args.options c.new-report.result c.new-report.ensures.way c.new-report.ensures.active c.new-report.ensures.passive
    c.new-report.ensures.found c.new-report.ensures.left_out c.new-report.ensures.page)
    c.new-table.ensures.of c.new-table.ensures.none c.in-Err.ensures.opened c.in_ok-missing-in-Err.ensures)
    c.finish-in-Err.ensures.refuses c.finish-in-Err.ensures.stops

pub returns-in_err-missing-in-Ok-clause-refused : goal.returns-in_err-missing-in-Ok-clause-refused
returns-in_err-missing-in-Ok-clause-refused g c =
    let p = err_from_is_err_and c.from_residual.result c.from_residual.ensures.1 in
    rw (p.1, p.2)
    (refuses_reading c.args.options c.in-Ok.packets c.new-report.result c.new-table.result _ _ _ _ _
    (is_blank c.args.options c.new-report.result c.new-report.ensures.way c.new-report.ensures.active c.new-report.ensures.passive
    c.new-report.ensures.found c.new-report.ensures.left_out c.new-report.ensures.page)
    c.new-table.ensures.of c.new-table.ensures.none c.in-Ok.ensures.opened c.in-Ok.ensures.count
    (c.in_err-missing-in-Ok.ensures.unrefused c.new-report.ensures.page) c.in_err-missing-in-Ok.ensures.refuses)

pub returns-in_err-missing-in-Err-clause-refused : goal.returns-in_err-missing-in-Err-clause-refused
returns-in_err-missing-in-Err-clause-refused g c =
    let p = err_from_is_err_and c.from_residual-in_err-missing-in-Err.result c.from_residual-in_err-missing-in-Err.ensures.1 in
    rw (p.1, p.2) (λ refusal. absurd (missing_refuses c.in-Err.fault 0 _ c.in_err-missing-in-Err.ensures refusal))

pub returns-in_ok-missing-in-Ok-clause-endless : goal.returns-in_ok-missing-in-Ok-clause-endless
returns-in_ok-missing-in-Ok-clause-endless g c = never_endless c.finish.result _ c.finish.ensures.error

pub returns-in_ok-missing-in-Err-clause-endless : goal.returns-in_ok-missing-in-Err-clause-endless
returns-in_ok-missing-in-Err-clause-endless g c = never_endless c.finish-in-Err.result _ c.finish-in-Err.ensures.error

pub returns-in_err-missing-in-Ok-clause-endless : goal.returns-in_err-missing-in-Ok-clause-endless
returns-in_err-missing-in-Ok-clause-endless g c =
    let p = err_from_is_err_and c.from_residual.result c.from_residual.ensures.1 in
    rw (p.1, p.2) (λ endless. many_in c.in-Ok.packets _ _ c.in-Ok.ensures.takes (c.in_err-missing-in-Ok.ensures.endless endless))

pub returns-in_err-missing-in-Err-clause-endless : goal.returns-in_err-missing-in-Err-clause-endless
returns-in_err-missing-in-Err-clause-endless g c =
    let p = err_from_is_err_and c.from_residual-in_err-missing-in-Err.result c.from_residual-in_err-missing-in-Err.ensures.1 in
    rw (p.1, p.2) (missing_ends c.in-Err.fault 0 _ _ c.in_err-missing-in-Err.ensures)
