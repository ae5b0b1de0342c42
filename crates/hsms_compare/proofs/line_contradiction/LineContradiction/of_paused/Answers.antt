use Rattle.std.proofs.Common.{subst, List}
use Rattle.hsms_compare.specs.Conversation.{Line}
use Rattle.hsms_compare.specs.InnerPasses.{HavePaused}
use Rattle.hsms_compare.specs.declared.pass.Pause.TheVariants.{Done, Waits}
use Rattle.hsms_compare.proofs.LineContradictions.{both_done, equipment_waits, host_waits, paused_as}
use Rattle.hsms_compare.proofs.line_contradiction.LineContradiction.of_paused.Goals as goal

pub returns-in-Done-equipment_pause-clause-found : goal.returns-in-Done-equipment_pause-clause-found
returns-in-Done-equipment_pause-clause-found g c h e h_left e_left host_more equipment_more host_has equipment_has paused =
    both_done host_more equipment_more h e h_left e_left
    (paused_as h e h_left e_left c.args.host_pause Done c.args.equipment_pause Done c.in-Done.is c.in-Done-equipment_pause.is paused)

pub returns-in-Waits-equipment_pause-clause-found : goal.returns-in-Waits-equipment_pause-clause-found
returns-in-Waits-equipment_pause-clause-found g c h e h_left e_left host_more equipment_more host_has equipment_has paused =
    let p : HavePaused h e h_left e_left Done (Waits c.in-Waits-equipment_pause.received) =
    paused_as h e h_left e_left c.args.host_pause Done c.args.equipment_pause (Waits c.in-Waits-equipment_pause.received) c.in-Done.is c.in-Waits-equipment_pause.is paused in
    let P : List Line → Type 0 = λ x. g.H.Entries.left c.args.host.now x host_more in
    equipment_waits host_more equipment_more h e h_left e_left c.is_open.result c.in-Waits-equipment_pause.received
    (c.is_open.ensures host_more (subst P p.host_so.1 host_has)) p c.unsent.result c.unsent.ensures.open c.unsent.ensures.closed

pub returns-in-Done-equipment_pause-2-clause-found : goal.returns-in-Done-equipment_pause-2-clause-found
returns-in-Done-equipment_pause-2-clause-found g c h e h_left e_left host_more equipment_more host_has equipment_has paused =
    let p : HavePaused h e h_left e_left (Waits c.in-Waits.host_line) Done =
    paused_as h e h_left e_left c.args.host_pause (Waits c.in-Waits.host_line) c.args.equipment_pause Done c.in-Waits.is c.in-Done-equipment_pause-2.is paused in
    let P : List Line → Type 0 = λ x. g.E.Entries.left c.args.equipment.now x equipment_more in
    host_waits host_more equipment_more h e h_left e_left c.is_open-in-Done-equipment_pause-2.result c.in-Waits.host_line
    (c.is_open-in-Done-equipment_pause-2.ensures equipment_more (subst P p.equipment_so.1 equipment_has)) p
    c.unsent-in-Done-equipment_pause-2.result c.unsent-in-Done-equipment_pause-2.ensures.open c.unsent-in-Done-equipment_pause-2.ensures.closed
