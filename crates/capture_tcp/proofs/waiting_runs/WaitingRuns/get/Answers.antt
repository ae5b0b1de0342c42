use Rattle.std.proofs.Common.{◌≡◌, ◌-◌, List, get_or, Option, None, subst, arith}
use Rattle.capture_tcp.specs.declared.reassembly.Cell.{Cell as HeldCell}
use Rattle.capture_tcp.specs.InnerRuns.{run_cell}
use Rattle.capture_tcp.proofs.WaitingCells.{got, got_none}
use Rattle.capture_tcp.proofs.waiting_runs.WaitingRuns.get.Goals as goal

pub returns-then-index-self : goal.returns-then-index-self
returns-then-index-self c =
    subst (λ (s : List (Option HeldCell)). None ≡ get_or s c.args.index None) c.self.view_is
    (got_none (c.self.inside.end - c.self.inside.first) c.self.inside.first c.args.index (run_cell c.self.inside.runs.items) (omega (arith, c.if-index-self.true)))

pub returns : goal.returns
returns c =
    subst (λ (s : List (Option HeldCell)). c.cell_at.result ≡ get_or s c.args.index None) c.self.view_is
    (got (c.self.inside.end - c.self.inside.first) c.self.inside.first c.args.index (run_cell c.self.inside.runs.items) c.cell_at.result (omega (arith, c.if-index-self.false))
    (c.cell_at.ensures c.self.inside.end c.self.invariant.2))
