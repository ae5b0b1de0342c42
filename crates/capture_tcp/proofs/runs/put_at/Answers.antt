use Rattle.std.proofs.Common.{◌+◌, ℕ, List, length, refl, ap, arith}
use Rattle.capture_tcp.specs.declared.reassembly.Cell.{Cell as HeldCell}
use Rattle.capture_tcp.specs.InnerRuns.{CellRun}
use Rattle.capture_tcp.proofs.StoredRuns.{removed, stores_none, stores_run}
use Rattle.capture_tcp.proofs.runs.put_at.Goals as goal

abbrev run_of : ℕ → List HeldCell → CellRun
run_of at cells = record { at = at; cells = cells }

pub returns-then-stop-place-clause-ok : goal.returns-then-stop-place-clause-ok
returns-then-stop-place-clause-ok c =
    stores_none c.args.index c.count_within-count.result c.args.place c.start_at-stop.result (c.args.place + length c.args.cells.now) c.args.cells.now c.args.runs.now.items c.args.runs.now.items
    c.count_within-count.ensures refl c.start_at-stop.ensures.value c.if-stop-place.true refl

pub returns-clause-ok : goal.returns-clause-ok
returns-clause-ok c =
    let run : CellRun = record { at = c.args.place; cells = c.in_ok-cells.cells.items } in
    stores_run c.args.index c.count_within-count.result c.args.place c.start_at-stop.result (c.args.place + length c.args.cells.now) c.args.cells.now c.split_at.result.0.now c.args.runs.now.items
    c.remove_from.new.runs.items run c.count_within-count.ensures (omega (arith, c.requires.index, c.args.runs.now.ok.0)) refl c.start_at-stop.ensures.value
    (omega (arith, c.if-stop-place.false)) c.split_at.ensures.front
    (λ high h. ap (run_of c.args.place) (c.in_ok-cells.ensures high h))
    (removed (c.args.index + 1) c.count_within-count.result c.args.index c.args.runs.now.items c.insert.new.self.items c.remove_from.new.runs.items run
    (omega (arith, c.requires.index, c.args.runs.now.ok.0)) refl c.in_ok-insert.ensures.items c.remove_from.ensures)
