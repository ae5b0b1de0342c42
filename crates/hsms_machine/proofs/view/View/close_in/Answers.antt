use Rattle.std.proofs.Common.{◌≡◌, sym, false}
use Rattle.hsms_machine.specs.InnerMessage.{may_conclude}
use Rattle.hsms_machine.specs.Transaction.{concludes}
use Rattle.hsms_machine.proofs.Mapped.{filter_none, any_concluded-none}
use Rattle.hsms_machine.proofs.view.View.close_in.Goals as goal

pub returns-else-may_conclude-clause-data : goal.returns-else-may_conclude-clause-data
returns-else-may_conclude-clause-data c =
    let e : may_conclude c.args.other ≡ false = cc in
    sym (filter_none (λ opened. concludes opened.header c.args.other) c.args.primaries.now (any_concluded-none c.args.other e c.args.primaries.now))

pub returns-else-may_conclude-clause-control : goal.returns-else-may_conclude-clause-control
returns-else-may_conclude-clause-control c =
    let e : may_conclude c.args.other ≡ false = cc in
    sym (filter_none (λ opened. concludes opened.header c.args.other) c.args.requests.now (any_concluded-none c.args.other e c.args.requests.now))
