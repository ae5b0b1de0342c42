use Rattle.std.proofs.Common.{◌≡◌, ◌+◌, ◌-◌, List, [], drop, Option, refl, subst, arith}
use Rattle.capture_tcp.specs.declared.reassembly.Cell.{Cell as HeldCell}
use Rattle.capture_tcp.specs.InnerRuns.{cells_between, run_cell}
use Rattle.capture_tcp.proofs.WaitingCells.{dropped, dropped_all}
use Rattle.capture_tcp.proofs.waiting_runs.WaitingRuns.drop_front.Goals as goal

pub returns-then-count-self : goal.returns-then-count-self
returns-then-count-self c =
    subst (λ (s : List (Option HeldCell)). [] ≡ drop c.args.count s) c.self.view_is
    (dropped_all c.self.inside.first c.self.inside.end c.args.count c.self.inside.runs.items (omega (arith, c.if-count-self.true)))

pub returns : goal.returns
returns c =
    let next = c.self.inside.first + c.args.count in
    subst (λ (s : List (Option HeldCell)). cells_between (c.self.inside.end - next) next (run_cell c.pass.new.runs.items) ≡ drop c.args.count s) c.self.view_is
    (dropped c.self.inside.first c.self.inside.end c.args.count next c.self.inside.runs.items c.pass.new.runs.items c.self.invariant.2 refl c.pass.ensures)
