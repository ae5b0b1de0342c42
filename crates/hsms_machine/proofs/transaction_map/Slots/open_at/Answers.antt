use Rattle.std.proofs.Common.{◌∙◌, ap, sym}
use Rattle.std.specs.Option.{option_flatten, option_map}
use Rattle.hsms_machine.proofs.KeptTransactions.{at-entry}
use Rattle.hsms_machine.proofs.transaction_map.Slots.open_at.Goals as goal

pub returns-in-Some : goal.returns-in-Some
returns-in-Some c =
    let es = c.args.map.now.entries in
    sym (at-entry es c.args.index ∙ ap (λ o. option_flatten (option_map (λ e. e.1) o)) (sym c.in-Some.ensures.entry))

pub returns-in-None : goal.returns-in-None
returns-in-None c =
    let es = c.args.map.now.entries in
    sym (at-entry es c.args.index ∙ ap (λ o. option_flatten (option_map (λ e. e.1) o)) (sym c.in-None.ensures.entry))
