use Rattle.std.proofs.Common.{subst, sym}
use Rattle.capture_tcp.specs.declared.ending.Ending.{Ending}
use Rattle.capture_tcp.specs.ReaderInvariant.{EndsAs}
use Rattle.capture_tcp.proofs.Connecting.{ends_before, ends_now}
use Rattle.capture_tcp.proofs.MonotonicTimes.{ends_in_time, ends_later}
use Rattle.capture_tcp.proofs.connection.Connection.end.Goals as goal

pub returns-in-Some-clause-emitted : goal.returns-in-Some-clause-emitted
returns-in-Some-clause-emitted c = ends_before c.args.self c.args.emitted.now.items c.in-Some.ending (let e = c.in-Some.is in cc)

pub returns-clause-emitted : goal.returns-clause-emitted
returns-clause-emitted c =
    subst (λ (e : Ending). EndsAs c.args.self c.args.emitted.now.items c.finish.new.emitted.items e) (sym c.shown.ensures)
    (ends_now c.args.self c.first-lost.result c.ends-ends.result c.args.emitted.now.items c.finish.new.emitted.items c.in_ok-ending.ending (let e = c.in_default.is in cc)
    c.first-lost.ensures.loss c.in_ok-ending.ensures.emitted c.ends-ends.ensures)

pub returns-in-Some-clause-times : goal.returns-in-Some-clause-times
returns-in-Some-clause-times c = ends_in_time c.args.self c.args.emitted.now.items

pub returns-clause-times : goal.returns-clause-times
returns-clause-times c = ends_later c.args.self c.args.emitted.now.items c.finish.new.emitted.items c.finish.new.due.items c.in_ok-ending.ensures.times
