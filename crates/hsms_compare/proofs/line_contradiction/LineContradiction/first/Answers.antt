use Rattle.hsms_compare.specs.declared.pass.PassEnd.TheVariants as end
use Rattle.hsms_compare.proofs.LineContradictions.{different_lines, stopped_as}
use Rattle.hsms_compare.proofs.line_contradiction.LineContradiction.first.Goals as goal

pub returns-in-Differs-clause-found : goal.returns-in-Differs-clause-found
returns-in-Differs-clause-found g c h e host_more equipment_more host_has equipment_has =
    let i = c.in_ok-receiver.ensures.pass h e host_more equipment_more host_has equipment_has in
    different_lines host_more equipment_more h e i.0 i.1 c.in-Differs.receiver c.in-Differs.sent c.in-Differs.received
    (stopped_as h e i.0 i.1 c.in_ok-receiver.field-0 (end.Differs c.in-Differs.receiver c.in-Differs.sent c.in-Differs.received) c.in-Differs.is i.4)
