use Rattle.std.proofs.Common.{subst}
use Rattle.hsms_machine.specs.declared.entry.Entry.{Entry}
use Rattle.hsms_machine.specs.ViewRules.{IsBrokenAt}
use Rattle.hsms_machine.proofs.Runs.{derived_for_each, derived_from}
use Rattle.hsms_machine.proofs.tracker.Tracker.check_ref.Goals as goal

pub returns-clause-answer : goal.returns-clause-answer
returns-clause-answer c =
    derived_for_each c.self.inside.view c.args.self.now c.self.view_is c.args.entry.now c.first_broken.result
    (subst (λ (x : Entry). IsBrokenAt c.self.inside.view x c.first_broken.result) c.parts-time.ensures c.first_broken.ensures)

pub returns-clause-named_rule : goal.returns-clause-named_rule
returns-clause-named_rule c =
    derived_from c.self.inside.view c.args.self.now c.self.view_is c.args.entry.now c.first_broken.result
    (subst (λ (x : Entry). IsBrokenAt c.self.inside.view x c.first_broken.result) c.parts-time.ensures c.first_broken.ensures)
