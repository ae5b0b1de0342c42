use Rattle.std.proofs.Common.{◌≡◌, ◌≤◌, ◌∙◌, ap, sym, subst, true, false, None, []}
use Rattle.hsms_machine.specs.declared.entry.Entry.{Entry}
use Rattle.hsms_machine.specs.declared.view.View.{View}
use Rattle.hsms_machine.specs.EventParts.{entry_of}
use Rattle.hsms_machine.specs.Run.{Broken}
use Rattle.hsms_machine.specs.ViewRules.{IsUntil, view_after}
use Rattle.hsms_machine.specs.OpeningLines.{at_place}
use Rattle.hsms_machine.proofs.Parts.{after_at}
use Rattle.hsms_machine.proofs.Timely.{view_until-le, until_after}
use Rattle.hsms_machine.proofs.Placed.{places-push, fresh_placed}
use Rattle.hsms_machine.proofs.opening_lines.Places.note.Goals as goal

pub take_in-requires-clause-until : goal.take_in-requires-clause-until
take_in-requires-clause-until c =
    view_until-le c.self.inside.view.last_time c.args.place (subst (λ (w : View). w.last_time ≤ c.args.place) (sym c.self.view_is) c.requires.rising) c.self.inside.view c.self.invariant

pub invariant_of-self : goal.invariant_of-self
invariant_of-self c =
    let until : IsUntil c.args.place c.self.inside.view =
    view_until-le c.self.inside.view.last_time c.args.place (subst (λ (w : View). w.last_time ≤ c.args.place) (sym c.self.view_is) c.requires.rising) c.self.inside.view c.self.invariant in
    until_after c.self.inside.view c.take_in.new.self (entry_of c.args.place c.parts.result.1.now []) until c.in_ok-take_in.ensures.ok

pub returns-in_ok-take_in-clause-next : goal.returns-in_ok-take_in-clause-next
returns-in_ok-take_in-clause-next c = λ log placed has settings run is_valid.
    places-push log placed c.args.self.now c.take_in.new.self c.args.place c.args.entry.now has
    (c.in_ok-take_in.ensures.ok ∙ after_at c.self.inside.view c.args.place c.parts.result.1.now c.parts.result.2.now
    ∙ ap (λ (x : Entry). view_after c.self.inside.view (at_place c.args.place x)) c.parts.ensures
    ∙ ap (λ (w : View). view_after w (at_place c.args.place c.args.entry.now)) c.self.view_is)

pub returns-else-is_fresh-clause-next : goal.returns-else-is_fresh-clause-next
returns-else-is_fresh-clause-next c = λ log placed has settings run is_valid.
    let named_rule = subst (λ (x : Entry). Broken settings log x None) (sym c.parts.ensures) is_valid in
    let fresh = fresh_placed settings log placed c.args.self.now c.parts.result.0 c.parts.result.1.now c.parts.result.2.now has named_rule in
    let d : false ≡ true = sym c.if-is_fresh.false ∙ c.is_fresh.ensures ∙ fresh in
    absurd cc
