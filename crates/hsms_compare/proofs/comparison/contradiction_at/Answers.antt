use Rattle.std.proofs.Common.{take, refl}
use Rattle.hsms_compare.proofs.Histories.{agree-delivered}
use Rattle.hsms_compare.proofs.Contradictions.{stops_for, unsent, sent_later, does_send, does_not_send}
use Rattle.hsms_compare.proofs.OpenLogs.{can_agree_later, can_agree_later_too, can_agree_now}
use Rattle.hsms_compare.proofs.comparison.contradiction_at.Goals as goal

pub returns-in-Ended-stop : goal.returns-in-Ended-stop
returns-in-Ended-stop c =
    let host = c.args.host.now in
    let equipment = c.args.equipment.now in
    let i = c.args.comparison.host.entries in
    let j = c.args.comparison.equipment.entries in
    can_agree_now c.args.host_open c.args.equipment_open host equipment i j c.requires.furthest
    (stops_for host (take j equipment) i _ _ c.in-Ended.is c.requires.host)
    (stops_for equipment (take i host) j _ _ c.in-Ended-stop.is c.requires.equipment)

pub returns-in-Waits-stop : goal.returns-in-Waits-stop
returns-in-Waits-stop c =
    let host = c.args.host.now in
    let equipment = c.args.equipment.now in
    let i = c.args.comparison.host.entries in
    let j = c.args.comparison.equipment.entries in
    can_agree_later c.args.host_open c.args.equipment_open host equipment i j c.requires.furthest
    (stops_for host (take j equipment) i _ _ c.in-Ended.is c.requires.host) c.if-host_open.true
    (stops_for equipment (take i host) j _ _ c.in-Waits-stop.is c.requires.equipment)

pub returns-in-Ended-stop-2 : goal.returns-in-Ended-stop-2
returns-in-Ended-stop-2 c =
    let host = c.args.host.now in
    let equipment = c.args.equipment.now in
    let i = c.args.comparison.host.entries in
    let j = c.args.comparison.equipment.entries in
    can_agree_later_too c.args.host_open c.args.equipment_open host equipment i j c.requires.furthest
    (stops_for equipment (take i host) j _ _ c.in-Ended-stop-2.is c.requires.equipment) c.if-equipment_open.true
    (stops_for host (take j equipment) i _ _ c.in-Waits.is c.requires.host)

pub returns-then-not-sends_any : goal.returns-then-not-sends_any
returns-then-not-sends_any c =
    let host = c.args.host.now in
    let equipment = c.args.equipment.now in
    let i = c.args.comparison.host.entries in
    let j = c.args.comparison.equipment.entries in
    let equipment_waits = stops_for equipment (take i host) j _ _ c.in-Waits-stop-2.is c.requires.equipment in (
      i,
      j,
      c.requires.furthest,
      (
        refl,
        unsent host equipment i j (stops_for host (take j equipment) i _ _ c.in-Waits.is c.requires.host)
            (does_not_send equipment j c.sends_any.result c.if-not-sends_any.true c.sends_any.ensures),
        (λ t. equipment_waits.2.there),
      ),
    )

pub returns-then-not-sends_any-2 : goal.returns-then-not-sends_any-2
returns-then-not-sends_any-2 c =
    let host = c.args.host.now in
    let equipment = c.args.equipment.now in
    let i = c.args.comparison.host.entries in
    let j = c.args.comparison.equipment.entries in
    let host_waits = stops_for host (take j equipment) i _ _ c.in-Waits.is c.requires.host in (
      i,
      j,
      c.requires.furthest,
      (
        refl,
        unsent equipment host j i (stops_for equipment (take i host) j _ _ c.in-Waits-stop-2.is c.requires.equipment)
            (does_not_send host i c.sends_any-else-not-sends_any.result c.if-not-sends_any-2.true c.sends_any-else-not-sends_any.ensures),
        (λ t. host_waits.2.there),
      ),
    )

pub returns-else-not-sends_any-2 : goal.returns-else-not-sends_any-2
returns-else-not-sends_any-2 c =
    let host = c.args.host.now in
    let equipment = c.args.equipment.now in
    let i = c.args.comparison.host.entries in
    let j = c.args.comparison.equipment.entries in
    let up_to = c.requires.furthest in
    let both = agree-delivered (take i host) (take j equipment) up_to.agree in
    let host_waits = stops_for host (take j equipment) i _ _ c.in-Waits.is c.requires.host in
    let equipment_waits = stops_for equipment (take i host) j _ _ c.in-Waits-stop-2.is c.requires.equipment in (
      i,
      j,
      up_to,
      (
        refl,
        refl,
        sent_later host equipment i j up_to.within_host up_to.within_equipment both.1 host_waits equipment_waits (does_send equipment j c.sends_any.result c.if-not-sends_any.false c.sends_any.ensures),
        sent_later equipment host j i up_to.within_equipment up_to.within_host both.0 equipment_waits host_waits (does_send host i c.sends_any-else-not-sends_any.result c.if-not-sends_any-2.false c.sends_any-else-not-sends_any.ensures),
      ),
    )
