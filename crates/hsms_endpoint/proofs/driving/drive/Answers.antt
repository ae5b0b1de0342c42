use Rattle.std.proofs.Common.{◌≡◌, List, [], ◌∷◌, ◌++◌, map, take, ap, sym, subst, ◌∙◌, arith, false, true, Vec, Global}
use Rattle.hsms_machine.specs.declared.entry.Entry.{Entry}
use Rattle.hsms_endpoint.specs.EndState.{initial_state}
use Rattle.hsms_endpoint.specs.Turn.{InputEvent}
use Rattle.hsms_endpoint.specs.Drive.{input_event, IsDriven}
use Rattle.hsms_endpoint.specs.InnerDriving.{HasDriven}
use Rattle.hsms_endpoint.proofs.Drives.{undriven, one_accepted, one_refused, next_passed, inputs_all, driven}
use Rattle.hsms_endpoint.proofs.driving.drive.Goals.{in-Ok+in_ok-append-in-Ok, in-Err+else-eq}
use Rattle.hsms_endpoint.proofs.driving.drive.Goals as goal

pub loop-input-init : goal.loop-input-init
loop-input-init g c =
    undriven g.D.TurnDesk.answers_after c.args.settings c.args.desk c.args.first_system c.new-entries.result.items c.new-end.result c.new-entries.ensures.items c.new-end.ensures

pub loop-input-preserved : goal.loop-input-preserved
loop-input-preserved g c =
    subst (λ (inputs : List InputEvent). HasDriven g.D.TurnDesk.answers_after c.args.settings c.args.desk c.args.first_system inputs c.match-submit.entries.items c.submit.new.self)
    (next_passed c.args.inputs.now c.loop-input.input-index c.input-item.result c.loop-input-test.true c.input-item.is)
    (elim c.match-submit.branch [
      | in-Ok+in_ok-append-in-Ok w ↦
          one_accepted g.D.TurnDesk.answers_after c.args.settings c.args.desk c.args.first_system (map input_event (take c.loop-input.input-index c.args.inputs.now)) c.loop-input.entries.items c.match-submit.entries.items c.loop-input.end c.submit.new.self (input_event c.input-item.result) w.in-Ok.new.items
          c.loop-input.invariant w.in-Ok.ensures (ap (λ (v : Vec Entry Global). v.items) w.entries-is ∙ w.in_ok-append-in-Ok.ensures.items)
      | in-Err+else-eq w ↦
          subst (λ (entries : List Entry). HasDriven g.D.TurnDesk.answers_after c.args.settings c.args.desk c.args.first_system (map input_event (take c.loop-input.input-index c.args.inputs.now) ++ input_event c.input-item.result ∷ []) entries c.submit.new.self) (sym (ap (λ (v : Vec Entry Global). v.items) w.entries-is))
          (one_refused g.D.TurnDesk.answers_after c.args.settings c.args.desk c.args.first_system (map input_event (take c.loop-input.input-index c.args.inputs.now)) c.loop-input.entries.items c.loop-input.end c.submit.new.self (input_event c.input-item.result) w.in-Err.fault
          c.loop-input.invariant w.in-Err.ensures (λ m. let d : false ≡ true = (rw m at w.if-eq.ensures) in cc))
    ])

pub returns-clause-turns : goal.returns-clause-turns
returns-clause-turns g c =
    subst (λ (inputs : List InputEvent). IsDriven (g.D.TurnDesk.answers_after c.args.desk) (initial_state c.args.settings c.args.first_system) inputs c.loop-input.entries.items c.in_ok-pending.pending.items)
    (inputs_all c.args.inputs.now c.loop-input.input-index (omega (arith, c.loop-input-test.false)))
    (driven g.D.TurnDesk.answers_after c.args.settings c.args.desk c.args.first_system (map input_event (take c.loop-input.input-index c.args.inputs.now)) c.loop-input.entries.items c.in_ok-pending.pending.items c.loop-input.end c.loop-input.invariant
    (c.in_ok-pending.ensures.items ∙ c.pending.ensures))
