use Rattle.std.proofs.Common.{refl, ◌∙◌}
use Rattle.hsms_machine.specs.declared.settings.Role.TheVariants.{Host, Equipment}
use Rattle.hsms_compare.specs.declared.pass.Offered.TheVariants.{Stops}
use Rattle.hsms_compare.specs.InnerPasses.{IsOffered}
use Rattle.hsms_compare.proofs.Agreements.{is_merge-swap}
use Rattle.hsms_compare.proofs.LinesRead.{merge_is, offer_is, offers_from, stopped_same, turn_from, turn_of_equipment}
use Rattle.hsms_compare.proofs.pass.PassEnd.host_first.Goals as goal

pub returns-in-Takes-2-clause-turn : goal.returns-in-Takes-2-clause-turn
returns-in-Takes-2-clause-turn c h e s =
    let a : IsOffered h e Host c.args.host_next.now c.args.merge.now (Stops c.in-Stops.host_pause) c.offer.new.merge =
    offer_is h e Host c.args.host_next.now c.args.merge.now c.offer.new.merge _ _ c.in-Stops.is (c.in_ok-turn.ensures.offer h e s) in
    let same = stopped_same h e Host c.args.host_next.now c.args.merge.now c.in-Stops.host_pause c.offer.new.merge a in
    let swapped = is_merge-swap Host c.offer.new.merge h e (merge_is h e c.args.merge.now c.offer.new.merge same s) in
    let b = offer_is e h Equipment c.args.equipment_next.now c.offer.new.merge c.offer-in-Stops.new.merge _ _ c.in-Takes-2.is (c.in_ok-turn-in-Stops.ensures.offer e h swapped) in
    turn_from h e c.args.host_next.now c.args.equipment_next.now c.offer.new.merge c.args.merge.now c.in-Takes-2.turn c.offer-in-Stops.new.merge same
    (turn_of_equipment h e c.args.host_next.now c.args.equipment_next.now c.offer.new.merge c.in-Takes-2.turn c.offer-in-Stops.new.merge b)

pub returns-in-Stops-2-clause-turn : goal.returns-in-Stops-2-clause-turn
returns-in-Stops-2-clause-turn c h e s =
    let a : IsOffered h e Host c.args.host_next.now c.args.merge.now (Stops c.in-Stops.host_pause) c.offer.new.merge =
    offer_is h e Host c.args.host_next.now c.args.merge.now c.offer.new.merge _ _ c.in-Stops.is (c.in_ok-turn.ensures.offer h e s) in
    let same = stopped_same h e Host c.args.host_next.now c.args.merge.now c.in-Stops.host_pause c.offer.new.merge a in
    let swapped = is_merge-swap Host c.offer.new.merge h e (merge_is h e c.args.merge.now c.offer.new.merge same s) in
    let b : IsOffered e h Equipment c.args.equipment_next.now c.offer.new.merge (Stops c.in-Stops-2.equipment_pause) c.offer-in-Stops.new.merge =
    offer_is e h Equipment c.args.equipment_next.now c.offer.new.merge c.offer-in-Stops.new.merge _ _ c.in-Stops-2.is (c.in_ok-turn-in-Stops.ensures.offer e h swapped) in
    let same' = stopped_same e h Equipment c.args.equipment_next.now c.offer.new.merge c.in-Stops-2.equipment_pause c.offer-in-Stops.new.merge b in (
      offers_from h e Host c.args.host_next.now c.args.merge.now c.args.merge.now c.offer.new.merge c.args.merge.now (Stops c.in-Stops.host_pause) refl same a,
      offers_from e h Equipment c.args.equipment_next.now c.offer.new.merge c.args.merge.now c.offer-in-Stops.new.merge c.args.merge.now (Stops c.in-Stops-2.equipment_pause) same (same' ∙ same) b,
    )
