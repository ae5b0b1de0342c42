use Rattle.std.specs.Prelude.{Some, None}
use Rattle.hsms_compare.proofs.LineContradictions.{equipment_unsent, first_as, host_unsent, in_order}
use Rattle.hsms_compare.proofs.line_contradiction.LineContradiction.of_waiting.Goals as goal

pub returns-in_default-clause-found : goal.returns-in_default-clause-found
returns-in_default-clause-found g c h e h_left e_left host_more equipment_more host_has equipment_has paused =
    host_unsent host_more equipment_more h e h_left e_left c.args.host_line c.args.equipment_line paused
    (first_as e_left _ None c.in_default.is (c.in_ok-host_from.ensures.sent e_left equipment_more equipment_has))

pub returns-in_default-2-clause-found : goal.returns-in_default-2-clause-found
returns-in_default-2-clause-found g c h e h_left e_left host_more equipment_more host_has equipment_has paused =
    equipment_unsent host_more equipment_more h e h_left e_left c.args.host_line c.args.equipment_line paused
    (first_as h_left _ None c.in_default-2.is (c.in_ok-equipment_from.ensures.sent h_left host_more host_has))

pub returns-clause-found : goal.returns-clause-found
returns-clause-found g c h e h_left e_left host_more equipment_more host_has equipment_has paused =
    in_order host_more equipment_more h e h_left e_left c.args.host_line c.in-Some.host_from c.args.equipment_line c.in-Some-2.equipment_from paused
    (first_as e_left _ (Some c.in-Some.host_from) c.in-Some.is (c.in_ok-host_from.ensures.sent e_left equipment_more equipment_has))
    (first_as h_left _ (Some c.in-Some-2.equipment_from) c.in-Some-2.is (c.in_ok-equipment_from.ensures.sent h_left host_more host_has))
