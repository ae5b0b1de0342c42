use Rattle.std.proofs.Common.{◌∙◌, ◌∷◌, ap}
use Rattle.hsms_log.specs.Step.{entry_of_what}
use Rattle.explain_lines.proofs.Results.{on_ok_more}
use Rattle.explain_session.proofs.repair_entry.put_first.Goals as goal

pub returns : goal.returns
returns c =
    on_ok_more _ _ c.put-2.result
    (λ two text. two text ∙ ap (λ l. entry_of_what c.args.time c.args.what text ∷ l) (c.in_ok-put.ensures text)) c.put-2.ensures
