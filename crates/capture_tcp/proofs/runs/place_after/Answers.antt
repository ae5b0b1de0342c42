use Rattle.std.proofs.Common.{◌<◌, arith}
use Rattle.capture_tcp.specs.InnerRuns.{CellRun}
use Rattle.capture_tcp.proofs.ApartRuns.{if_past}
use Rattle.capture_tcp.proofs.runs.place_after.Goals as goal

pub loop-low-init : goal.loop-low-init
loop-low-init c = (
  λ lt. absurd (omega (arith, lt)),
  if_past (λ (q : CellRun). c.args.place < q.at) c.args.runs.now.items c.len-high.result (omega (arith, c.len-high.ensures, c.args.runs.now.ok.0)),
  omega arith,
  omega (arith, c.len-high.ensures, c.args.runs.now.ok.0),
)
