use Rattle.std.proofs.Common.{◌++◌, ◌∷◌, [], ℕ, List, refl, sym, subst, append_assoc}
use Rattle.std.proofs.lemmas.List.{append-nil}
use Rattle.hsms_log.proofs.AuditInvariants.{parts_on, rest_whole}
use Rattle.cli_explain.specs.InnerLinesProcessed.{HasProcessed}
use Rattle.cli_explain.specs.declared.report.Report.{Report}
use Rattle.cli_explain.specs.InnerFirstFailureOutput.{KeepsShown}
use Rattle.cli_explain.proofs.Firsts.{keeps_then}
use Rattle.explain_lines.proofs.Results.{on_ok, on_ok_more}
use Rattle.cli_explain.proofs.explainer.Explainer.take.Goals as goal

pub loop-part-init : goal.loop-part-init
loop-part-init c = (
  [],
  refl,
  λ text reception. let P : List ℕ → Type 0 = λ l. HasProcessed c.args.self.now l in subst P (sym (append-nil text)) reception,
  λ excerpt written is shows. shows,
)

pub loop-part-preserved : goal.loop-part-preserved
loop-part-preserved c =
    let inv = c.loop-part.invariant in
    let found = c.in-Some.ensures.found in
    let part = c.in-Some.part.now in
    let P : List ℕ → Type 0 = λ l. HasProcessed c.end_line.new.self l in (
      inv.0 ++ (part ++ 10 ∷ []),
      parts_on c.args.octets.now inv.0 c.loop-part.rest.now part c.in-Some.more.now inv.1 found.0,
      λ text reception. subst P (append_assoc text inv.0 (part ++ 10 ∷ [])) (c.in_ok-end_line.ensures.reception (text ++ inv.0) found.1 (inv.2 text reception)),
      keeps_then _ _ _ inv.3 c.in_ok-end_line.ensures.shown,
    )

pub returns-clause-reception : goal.returns-clause-reception
returns-clause-reception c =
    let inv = c.loop-part.invariant in
    let rest = c.loop-part.rest.now in
    on_ok_more _ _ c.hold.result
    (λ shown_line text reception.
    let P : List ℕ → Type 0 = λ l. HasProcessed c.hold.new.self l in
    subst P (rest_whole c.args.octets.now inv.0 rest text inv.1) (shown_line (text ++ inv.0) c.in_default.ensures.none (inv.2 text reception)))
    c.hold.ensures.reception

pub returns-clause-shown : goal.returns-clause-shown
returns-clause-shown c =
    let P : Report → Type 0 = λ r. KeepsShown c.args.self.now.report r in
    on_ok _ c.hold.result (subst P (sym c.hold.ensures.report) c.loop-part.invariant.3)
