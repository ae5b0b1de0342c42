use Rattle.std.proofs.Common.{◌∙◌, ap}
use Rattle.hsms_machine.specs.declared.entry.Entry.{Entry}
use Rattle.hsms_machine.specs.declared.view.View.{View}
use Rattle.hsms_machine.specs.Repair.{repair_of}
use Rattle.hsms_machine.proofs.RepairEntries.{repair_at}
use Rattle.hsms_machine.proofs.tracker.Tracker.repair_action.Goals as goal

pub returns : goal.returns
returns c =
    c.repair_action.ensures ∙ repair_at c.self.inside.view c.parts-time.result.0 c.parts-time.result.1.now c.parts-time.result.2.now c.args.rule
    ∙ ap (λ (x : Entry). repair_of c.self.inside.view x c.args.rule) c.parts-time.ensures
    ∙ ap (λ (view : View). repair_of view c.args.entry.now c.args.rule) c.self.view_is
