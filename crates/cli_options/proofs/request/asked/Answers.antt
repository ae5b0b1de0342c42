use Rattle.std.proofs.Common.{◌≡◌, ◌∙◌, Some, ap, sym}
use Rattle.clap.specs.Words.{found_of, rows_of, subcommand_rows_of}
use Rattle.cli_options.specs.Request.{operands_by}
use Rattle.cli_options.proofs.RequestedOptions.{entered_as, none_asked, same_operands}
use Rattle.cli_options.proofs.request.asked.Goals as goal

pub returns-in_ok-files_of-in-Some-asked_by-clause-asks : goal.returns-in_ok-files_of-in-Some-asked_by-clause-asks
returns-in_ok-files_of-in-Some-asked_by-clause-asks c =
    let rows = rows_of (found_of c.in-Some.options.now) in
    let entered : subcommand_rows_of c.args.matches.now ≡ Some (c.in-Some.name.now, rows) =
    entered_as _ _ _ _ c.in-Some.ensures.name c.in-Some.ensures.rows in
    (c.in-Some.name.now, rows, entered, c.in-Some-asked_by.ensures.asks)

pub returns-in_ok-files_of-in-Some-asked_by-clause-operands : goal.returns-in_ok-files_of-in-Some-asked_by-clause-operands
returns-in_ok-files_of-in-Some-asked_by-clause-operands c =
    let entered : subcommand_rows_of c.args.matches.now ≡ Some (c.in-Some.name.now, rows_of (found_of c.in-Some.options.now)) =
    entered_as _ _ _ _ c.in-Some.ensures.name c.in-Some.ensures.rows in
    same_operands c.in_ok-files_of-in-Some-asked_by.ensures c.flag_of.ensures ∙ sym (ap operands_by entered)

pub returns-in-None-asked_by-clause-refusal : goal.returns-in-None-asked_by-clause-refusal
returns-in-None-asked_by-clause-refusal c =
    let rows = rows_of (found_of c.in-Some.options.now) in
    let entered : subcommand_rows_of c.args.matches.now ≡ Some (c.in-Some.name.now, rows) =
    entered_as _ _ _ _ c.in-Some.ensures.name c.in-Some.ensures.rows in
    none_asked _ c.in-Some.name.now rows _ c.no_request.result entered (c.asked_by.ensures.none c.in-None-asked_by.is) c.no_request.ensures
