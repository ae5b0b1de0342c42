use Rattle.std.proofs.Common.{rules, tests}
use Rattle.std.proofs.lemmas.Iterator.Adapters.{YieldsList-from_vec}
use Rattle.std.proofs.lemmas.Iterator.Consumers.{parts_from_yields_List, items_from_parts}
use Rattle.cli_serve.specs.Script.{is_reply}
use Rattle.cli_serve.proofs.script.parted.Goals as goal

pub returns : goal.returns
returns c =
    items_from_parts _ _ _ (parts_from_yields_List _ (is_reply c.args.answer) _ c.partition.ensures.ran
    (YieldsList-from_vec c.args.messages.items c.into_iter.ensures.rest cc) (λ x r q k. search (rules, tests)))
