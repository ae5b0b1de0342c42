use Rattle.hsms_machine.specs.declared.settings.Role.TheVariants.{Host, Equipment}
use Rattle.hsms_compare.proofs.Agreements.{is_merge-swap}
use Rattle.hsms_compare.proofs.LinesRead.{offer_is, stopped_same, turn_of_equipment, turns_from}
use Rattle.hsms_compare.proofs.pass.PassEnd.turn.Goals as goal

pub returns-in-Takes-clause-turn : goal.returns-in-Takes-clause-turn
returns-in-Takes-clause-turn c h e s =
    turn_of_equipment h e c.args.host_next.now c.args.equipment_next.now c.args.merge.now c.in-Takes.turn c.offer.new.merge
    (offer_is e h Equipment c.args.equipment_next.now c.args.merge.now c.offer.new.merge _ _ c.in-Takes.is
    (c.in_ok-turn.ensures.offer e h (is_merge-swap Host c.args.merge.now h e s)))

pub returns-in-Stops-clause-turn : goal.returns-in-Stops-clause-turn
returns-in-Stops-clause-turn c =
    turns_from c.args.host_next.now c.args.equipment_next.now c.host_first-in-Stops.result c.args.merge.now c.offer.new.merge c.host_first-in-Stops.new.merge
    (λ h e s. stopped_same e h Equipment c.args.equipment_next.now c.args.merge.now c.in-Stops.field-0 c.offer.new.merge
    (offer_is e h Equipment c.args.equipment_next.now c.args.merge.now c.offer.new.merge _ _ c.in-Stops.is
    (c.in_ok-turn.ensures.offer e h (is_merge-swap Host c.args.merge.now h e s))))
    c.host_first-in-Stops.ensures.turn
