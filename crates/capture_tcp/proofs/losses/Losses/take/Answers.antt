use Rattle.std.proofs.Common.{◌<◌, List, length, subst, arith}
use Rattle.capture_tcp.specs.declared.losses.Need.{Need}
use Rattle.capture_tcp.specs.Losses.{FindsLoss}
use Rattle.capture_tcp.proofs.WatchedBytes.{took_some}
use Rattle.capture_tcp.proofs.losses.Losses.take.Goals as goal

pub returns-clause-lost : goal.returns-clause-lost
returns-clause-lost c =
    let new = c.watch.new.needs.items in
    let many : 4096 < length new = omega (arith, c.len.ensures, c.if-len-le-WINDOW.false, c.watch.new.needs.ok.0) in
    λ k e. subst (λ (ns : List Need). FindsLoss ns c.args.from c.args.packet c.args.ends k new) c.self.view_is
    (took_some c.self.inside.needs.items c.args.from c.args.packet c.args.ends new k c.first.result c.first.ensures.first many c.in_ok-watch.ensures.ok e)
