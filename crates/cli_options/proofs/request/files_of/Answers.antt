use Rattle.std.proofs.Common.{◌≡◌, ◌∙◌, [], Bor, Some, None, ap, map, sym}
use Rattle.std.specs.Prelude.{codes, unwrap_or}
use Rattle.clap.proofs.WalkLemmas.{raw_values-rows}
use Rattle.clap.specs.Words.{Text, all_of, found_of, rows_of}
use Rattle.cli_options.proofs.RequestedOptions.{names_copied, names_of_slice}
use Rattle.cli_options.proofs.request.files_of.Goals as goal

pub returns-in-Some : goal.returns-in-Some
returns-in-Some c =
    let given : Some (map (λ (name : Bor Text). name.now) c.in-Some.names.now) ≡ all_of (codes "FILE") (rows_of (found_of c.args.options.now)) =
    sym (ap names_of_slice c.in-Some.is) ∙ c.get_raw.ensures ∙ raw_values-rows (found_of c.args.options.now) _ in
    names_copied _ _ _ c.from_slice.result c.from_slice.ensures.items given

pub returns-in-None : goal.returns-in-None
returns-in-None c =
    let given : None ≡ all_of (codes "FILE") (rows_of (found_of c.args.options.now)) =
    sym (ap names_of_slice c.in-None.is) ∙ c.get_raw.ensures ∙ raw_values-rows (found_of c.args.options.now) _ in
    ap (map (λ (name : Bor Text). name.now)) c.new.ensures.items ∙ ap (λ o. unwrap_or o []) given
