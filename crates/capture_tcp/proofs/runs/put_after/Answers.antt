use Rattle.std.proofs.Common.{◌++◌, List, refl, subst}
use Rattle.std.proofs.lemmas.Result.{on_ok_weaker}
use Rattle.capture_tcp.specs.InnerRuns.{CellRun, StoresAt}
use Rattle.capture_tcp.proofs.StoredRuns.{stores_last}
use Rattle.capture_tcp.proofs.runs.put_after.Goals as goal

pub returns-then-branch-clause-ok : goal.returns-then-branch-clause-ok
returns-then-branch-clause-ok c =
    let e = c.in_ok-extend_last.ensures.done (let is = c.if-branch.true in cc) in
    stores_last c.args.index c.args.place c.args.cells.now c.args.runs.now.items c.extend_last.new.runs.items e.0 e.1 (record { at = e.1.at; cells = e.1.cells ++ c.args.cells.now }) e.2 e.3 refl e.4

pub returns-clause-ok : goal.returns-clause-ok
returns-clause-ok c =
    on_ok_weaker c.put_at-2.result
    (λ stores. subst (λ (z : List CellRun). StoresAt c.args.index c.args.place c.args.cells.now z c.put_at-2.new.runs.items) (c.in_ok-extend_last.ensures.left (let is = c.if-branch.false in cc)) stores)
    c.put_at-2.ensures.ok
