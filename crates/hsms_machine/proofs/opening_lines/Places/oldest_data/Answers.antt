use Rattle.std.proofs.Common.{sym}
use Rattle.hsms_machine.proofs.Oldest.{oldest_found, oldest_none}
use Rattle.hsms_machine.proofs.opening_lines.Places.oldest_data.Goals as goal

pub returns-clause-place : goal.returns-clause-place
returns-clause-place c =
    oldest_found c.self.inside.view c.args.self.now c.self.view_is c.in_ok-opened.opened (sym c.in_ok-opened.ensures.first) c.in_ok-opened.ensures.in_order

pub returns-in_err-opened-clause-none : goal.returns-in_err-opened-clause-none
returns-in_err-opened-clause-none c =
    rw c.from_residual.ensures (oldest_none c.self.inside.view c.args.self.now c.self.view_is (sym c.in_err-opened.ensures.first))
