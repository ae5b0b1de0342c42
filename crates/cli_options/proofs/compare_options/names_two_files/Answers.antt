use Rattle.std.proofs.Common.{◌≡◌, ◌∙◌, [], Bor, Some, None, ap, length, map, nat_eq, sym}
use Rattle.std.specs.Prelude.{codes, unwrap_or}
use Rattle.clap.proofs.WalkLemmas.{raw_values-rows}
use Rattle.clap.specs.Words.{Text, all_of, found_of, rows_of}
use Rattle.cli_options.proofs.RequestedOptions.{counted, names_of_slice}
use Rattle.cli_options.proofs.compare_options.names_two_files.Goals as goal

pub returns-in-Some : goal.returns-in-Some
returns-in-Some c =
    let given : Some (map (λ (name : Bor Text). name.now) c.in-Some.names.now) ≡ all_of (codes "FILE") (rows_of (found_of c.args.options.now)) =
    sym (ap names_of_slice c.in-Some.is) ∙ c.get_raw.ensures ∙ raw_values-rows (found_of c.args.options.now) _ in
    counted c.in-Some.names.now _ given

pub returns-in-None : goal.returns-in-None
returns-in-None c =
    let given : None ≡ all_of (codes "FILE") (rows_of (found_of c.args.options.now)) =
    sym (ap names_of_slice c.in-None.is) ∙ c.get_raw.ensures ∙ raw_values-rows (found_of c.args.options.now) _ in
    ap (λ o. nat_eq (length (unwrap_or o [])) 2) given
