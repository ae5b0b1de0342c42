use Rattle.std.proofs.Common.{ap, ◌∙◌}
use Rattle.hsms_machine.specs.declared.settings.Role.TheVariants.{Host, Equipment}
use Rattle.hsms_compare.specs.declared.pass.Turn.TheVariants.{Merged, Differs, Stopped}
use Rattle.hsms_compare.proofs.LinesRead.{differs, paused, took_equipment, took_host, turn_is}
use Rattle.hsms_compare.proofs.pass.PassEnd.read.Goals as goal

pub loop-equipment_next-preserved-in-Merged-Host : goal.loop-equipment_next-preserved-in-Merged-Host
loop-equipment_next-preserved-in-Merged-Host g c =
    let l = c.loop-equipment_next in
    let e = c.in_ok-host_next-in-Merged-Host.ensures in (
      λ h equipment host_more equipment_more h_left e_left.
          (let i = l.invariant.0 h equipment host_more equipment_more h_left e_left in
          let r = i.4 in
          let t = turn_is r.own r.other l.host_next l.equipment_next l.merge c.turn.new.merge _ (Merged Host) (c.in-Merged-Host.is ∙ ap Merged c.in-Merged-Host.field-0-is) (c.in_ok-turn.ensures.turn r.own r.other r.merged) in
          let n = e.entry i.0 host_more i.2 in
          (n.0, i.1, n.2, i.3, took_host h equipment l.merge c.turn.new.merge l.host_next c.in_ok-host_next-in-Merged-Host.host_next l.equipment_next i.0 n.0 i.1 r t n.1)),
      λ text reads. e.text text (l.invariant.1 text reads),
      l.invariant.2,
    )

pub loop-equipment_next-preserved : goal.loop-equipment_next-preserved
loop-equipment_next-preserved g c =
    let l = c.loop-equipment_next in
    let e = c.in_ok-equipment_next-in-Merged-Equipment.ensures in (
      λ h equipment host_more equipment_more h_left e_left.
          (let i = l.invariant.0 h equipment host_more equipment_more h_left e_left in
          let r = i.4 in
          let t = turn_is r.own r.other l.host_next l.equipment_next l.merge c.turn.new.merge _ (Merged Equipment) (c.in-Merged-Equipment.is ∙ ap Merged c.in-Merged-Equipment.field-0-is) (c.in_ok-turn.ensures.turn r.own r.other r.merged) in
          let n = e.entry i.1 equipment_more i.3 in
          (i.0, n.0, i.2, n.2, took_equipment h equipment l.merge c.turn.new.merge l.host_next l.equipment_next c.in_ok-equipment_next-in-Merged-Equipment.equipment_next i.0 i.1 n.0 r t n.1)),
      l.invariant.1,
      λ text reads. e.text text (l.invariant.2 text reads),
    )

pub returns-in-Differs-clause-pass : goal.returns-in-Differs-clause-pass
returns-in-Differs-clause-pass g c h e host_more equipment_more h_left e_left =
    let l = c.loop-equipment_next in
    let i = l.invariant.0 h e host_more equipment_more h_left e_left in
    let r = i.4 in
    let t = turn_is r.own r.other l.host_next l.equipment_next l.merge c.turn.new.merge _ (Differs c.in-Differs.end c.in-Differs.sent c.in-Differs.received) c.in-Differs.is (c.in_ok-turn.ensures.turn r.own r.other r.merged) in
    (i.0, i.1, i.2, i.3, differs h e l.merge l.host_next l.equipment_next i.0 i.1 r c.in-Differs.end c.in-Differs.sent c.in-Differs.received c.turn.new.merge t)

pub returns-in-Stopped-clause-pass : goal.returns-in-Stopped-clause-pass
returns-in-Stopped-clause-pass g c h e host_more equipment_more h_left e_left =
    let l = c.loop-equipment_next in
    let i = l.invariant.0 h e host_more equipment_more h_left e_left in
    let r = i.4 in
    let t = turn_is r.own r.other l.host_next l.equipment_next l.merge c.turn.new.merge _ (Stopped c.in-Stopped.host_pause c.in-Stopped.equipment_pause) c.in-Stopped.is (c.in_ok-turn.ensures.turn r.own r.other r.merged) in
    (i.0, i.1, i.2, i.3, paused h e l.merge l.host_next l.equipment_next i.0 i.1 r c.in-Stopped.host_pause c.in-Stopped.equipment_pause c.turn.new.merge t)
