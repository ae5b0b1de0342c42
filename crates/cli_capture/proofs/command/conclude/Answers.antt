use Rattle.std.proofs.lemmas.Result.{err_from_is_err_and}
use Rattle.cli_capture.proofs.Refusing.{concludes_refused, left_refuses, left_told}
use Rattle.cli_capture.proofs.FileRefusals.{concludes_found, concludes_left}
use Rattle.cli_capture.proofs.Tellings.{concludes, concludes_told}
use Rattle.cli_capture.proofs.Unrefused.{err_map}
use Rattle.cli_capture.proofs.Whole.{concludes_dealt}
use Rattle.cli_capture.proofs.command.conclude.Goals as goal

pub returns : goal.returns
returns c = record {
  lines = concludes c.args.missing c.args.report.now c.note_missing.new.self c.finish.new.report c.finish-2.new.self c.finish-2.result
      c.note_missing.ensures c.in_ok-finish.ensures.emitted c.finish-2.ensures.answer c.finish-2.ensures.page;
  emitted = concludes_told c.args.missing c.args.report.now c.note_missing.new.self c.finish.new.report c.finish-2.new.self c.finish-2.result
      c.note_missing.ensures c.in_ok-finish.ensures.emitted c.finish-2.ensures.answer c.finish-2.ensures.refused;
  deals = concludes_dealt c.args.missing c.args.table c.args.report.now c.note_missing.new.self c.finish.new.report c.finish-2.new.self c.finish-2.result
      c.note_missing.ensures c.in_ok-finish.ensures.deals c.finish-2.ensures.answer c.finish-2.ensures.page;
  refuses = err_map c.finish-2.result (λ st dealt refused verdicts. dealt refused)
      (concludes_refused c.args.missing c.args.table c.args.report.now c.note_missing.new.self c.finish.new.report c.finish-2.new.self c.finish-2.result
      c.note_missing.ensures c.in_ok-finish.ensures.deals c.finish-2.ensures.answer c.finish-2.ensures.refused);
  stops = concludes_found c.finish-2.result c.args.missing c.args.table c.args.report.now c.finish-2.new.self
      (concludes_refused c.args.missing c.args.table c.args.report.now c.note_missing.new.self c.finish.new.report c.finish-2.new.self c.finish-2.result
      c.note_missing.ensures c.in_ok-finish.ensures.deals c.finish-2.ensures.answer c.finish-2.ensures.refused);
}

pub returns-in_err-finish-clause-refuses : goal.returns-in_err-finish-clause-refuses
returns-in_err-finish-clause-refuses c =
    let p = err_from_is_err_and c.from_residual.result c.from_residual.ensures.1 in
    rw (p.1, p.2)
    (left_refuses c.args.missing c.args.table c.args.report.now c.note_missing.new.self c.finish.new.report _ c.note_missing.ensures
    c.in_err-finish.ensures.unrefused)

pub returns-in_err-finish-clause-emitted : goal.returns-in_err-finish-clause-emitted
returns-in_err-finish-clause-emitted c =
    let p = err_from_is_err_and c.from_residual.result c.from_residual.ensures.1 in
    rw (p.1, p.2)
    (left_told c.args.missing c.args.report.now c.note_missing.new.self c.finish.new.report _ c.note_missing.ensures c.in_err-finish.ensures.unrefused)

pub returns-in_err-finish-clause-stops : goal.returns-in_err-finish-clause-stops
returns-in_err-finish-clause-stops c =
    let p = err_from_is_err_and c.from_residual.result c.from_residual.ensures.1 in
    rw (p.1, p.2)
    (concludes_left c.args.missing c.args.table c.args.report.now c.note_missing.new.self c.finish.new.report _ c.note_missing.ensures
    c.in_err-finish.ensures.refuses)
