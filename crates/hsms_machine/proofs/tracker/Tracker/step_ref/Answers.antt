use Rattle.std.proofs.Common.{◌≡◌, ◌∙◌, ap, subst, true, None, is_none, rules}
use Rattle.hsms_machine.specs.declared.entry.Entry.{Entry}
use Rattle.hsms_machine.specs.View.{IsBrokenAfter}
use Rattle.hsms_machine.specs.ViewRules.{view_after, IsUntil, IsBrokenAt}
use Rattle.hsms_machine.specs.EventParts.{entry_of}
use Rattle.hsms_machine.proofs.Parts.{after_at, fresh_at}
use Rattle.hsms_machine.proofs.Runs.{derived_for_each, derived_from, after_for_each, kept_run, stepped_run, valid_none, on_err}
use Rattle.hsms_machine.proofs.Timely.{not_past, view_until-le, until_after, kept_until}
use Rattle.hsms_machine.proofs.tracker.Tracker.step_ref.Goals as goal

pub take_in-requires : goal.take_in-requires
take_in-requires c =
    let time = c.parts-time.result.0 in
    let act = c.parts-time.result.1.now in
    let text = c.parts-time.result.2.now in
    let none : is_none c.first_broken-broken.result ≡ true = search rules in
    let is_valid : IsBrokenAt c.self.inside.view (entry_of time act text) None =
    valid_none c.self.inside.view (entry_of time act text) c.first_broken-broken.result none c.first_broken-broken.ensures in
    record {
      fresh = fresh_at c.self.inside.view time act text is_valid;
      until = view_until-le c.self.inside.view.last_time time (not_past c.self.inside.view (entry_of time act text) is_valid) c.self.inside.view c.self.invariant.1;
    }

pub invariant_of-self : goal.invariant_of-self
invariant_of-self c =
    let time = c.parts-time.result.0 in
    let act = c.parts-time.result.1.now in
    let text = c.parts-time.result.2.now in
    let none : is_none c.first_broken-broken.result ≡ true = search rules in
    let is_valid : IsBrokenAt c.self.inside.view (entry_of time act text) None =
    valid_none c.self.inside.view (entry_of time act text) c.first_broken-broken.result none c.first_broken-broken.ensures in
    let until : IsUntil time c.self.inside.view =
    view_until-le c.self.inside.view.last_time time (not_past c.self.inside.view (entry_of time act text) is_valid) c.self.inside.view c.self.invariant.1 in
    let after = c.in_ok-take_in.ensures.ok ∙ after_at c.self.inside.view time act text in (
      stepped_run c.self.inside.view c.take_in.new.self (entry_of time act text) is_valid after c.self.invariant.0,
      until_after c.self.inside.view c.take_in.new.self (entry_of time act text) until after,
    )

pub invariant_of-self-in_err-take_in : goal.invariant_of-self-in_err-take_in
invariant_of-self-in_err-take_in c = (
  kept_run c.self.inside.view c.take_in.new.self c.in_err-take_in.ensures.err c.self.invariant.0,
  kept_until c.self.inside.view c.take_in.new.self c.in_err-take_in.ensures.err c.self.invariant.1,
)

pub returns-in_err-take_in-clause-err_valid : goal.returns-in_err-take_in-clause-err_valid
returns-in_err-take_in-clause-err_valid c =
    let entry = c.args.entry.now in
    let none : is_none c.first_broken-broken.result ≡ true = search rules in
    let named_rule : IsBrokenAt c.self.inside.view entry c.first_broken-broken.result =
    subst (λ (x : Entry). IsBrokenAt c.self.inside.view x c.first_broken-broken.result) c.parts-time.ensures c.first_broken-broken.ensures in
    on_err (IsBrokenAfter c.args.self.now entry None) c.from_residual.result
    (derived_for_each c.self.inside.view c.args.self.now c.self.view_is entry None
    (valid_none c.self.inside.view entry c.first_broken-broken.result none named_rule))

pub returns-in_ok-take_in-clause-answer : goal.returns-in_ok-take_in-clause-answer
returns-in_ok-take_in-clause-answer c =
    derived_for_each c.self.inside.view c.args.self.now c.self.view_is c.args.entry.now c.first_broken-broken.result
    (subst (λ (x : Entry). IsBrokenAt c.self.inside.view x c.first_broken-broken.result) c.parts-time.ensures c.first_broken-broken.ensures)

pub returns-in_ok-take_in-clause-named_rule : goal.returns-in_ok-take_in-clause-named_rule
returns-in_ok-take_in-clause-named_rule c =
    derived_from c.self.inside.view c.args.self.now c.self.view_is c.args.entry.now c.first_broken-broken.result
    (subst (λ (x : Entry). IsBrokenAt c.self.inside.view x c.first_broken-broken.result) c.parts-time.ensures c.first_broken-broken.ensures)

pub returns-else-is_none-clause-answer : goal.returns-else-is_none-clause-answer
returns-else-is_none-clause-answer c =
    derived_for_each c.self.inside.view c.args.self.now c.self.view_is c.args.entry.now c.first_broken-broken.result
    (subst (λ (x : Entry). IsBrokenAt c.self.inside.view x c.first_broken-broken.result) c.parts-time.ensures c.first_broken-broken.ensures)

pub returns-else-is_none-clause-named_rule : goal.returns-else-is_none-clause-named_rule
returns-else-is_none-clause-named_rule c =
    derived_from c.self.inside.view c.args.self.now c.self.view_is c.args.entry.now c.first_broken-broken.result
    (subst (λ (x : Entry). IsBrokenAt c.self.inside.view x c.first_broken-broken.result) c.parts-time.ensures c.first_broken-broken.ensures)

pub returns-in_ok-take_in-clause-is_valid : goal.returns-in_ok-take_in-clause-is_valid
returns-in_ok-take_in-clause-is_valid c = λ e.
    let entry = c.args.entry.now in
    let none : is_none c.first_broken-broken.result ≡ true = search rules in
    let named_rule : IsBrokenAt c.self.inside.view entry c.first_broken-broken.result =
    subst (λ (x : Entry). IsBrokenAt c.self.inside.view x c.first_broken-broken.result) c.parts-time.ensures c.first_broken-broken.ensures in
    after_for_each c.self.inside.view c.args.self.now c.take_in.new.self c.self.view_is entry
    (valid_none c.self.inside.view entry c.first_broken-broken.result none named_rule)
    (c.in_ok-take_in.ensures.ok ∙ after_at c.self.inside.view c.parts-time.result.0 c.parts-time.result.1.now c.parts-time.result.2.now
    ∙ ap (view_after c.self.inside.view) c.parts-time.ensures)

pub returns-in_ok-take_in-clause-next : goal.returns-in_ok-take_in-clause-next
returns-in_ok-take_in-clause-next c = λ e.
    c.in_ok-take_in.ensures.ok ∙ after_at c.self.inside.view c.parts-time.result.0 c.parts-time.result.1.now c.parts-time.result.2.now
    ∙ ap (view_after c.self.inside.view) c.parts-time.ensures
    ∙ ap (λ view. view_after view c.args.entry.now) c.self.view_is
