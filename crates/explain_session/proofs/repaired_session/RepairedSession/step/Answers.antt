use Rattle.std.proofs.Common.{◌≡◌, ◌∙◌, ap, subst, refl}
use Rattle.hsms_machine.specs.declared.view.View.{View}
use Rattle.explain_session.specs.RepairedSession.{CurrentState, ProgressLeadsTo}
use Rattle.explain_session.proofs.RepairedSessions.{leads, current_state_of}
use Rattle.explain_session.proofs.repaired_session.RepairedSession.step.Goals as goal

pub returns-in_ok-note-2-clause-is_valid : goal.returns-in_ok-note-2-clause-is_valid
returns-in_ok-note-2-clause-is_valid c = λ none.
    let old = current_state_of c.self.inside.tracker c.self.inside.lines c.self.inside.times c.self.inside.line in
    let new = current_state_of c.step_ref.new.self c.note.new.self c.note-then-is_none.new.self c.self.inside.line in
    let is_valid = rw none at c.in_ok-broken.ensures.is_valid in
    let next = rw none at c.in_ok-broken.ensures.next in
    let broken = rw none at c.in_ok-broken.ensures.answer in
    let time : c.last_time.result ≡ c.args.entry.now.time = c.last_time.ensures ∙ ap (λ (v : View). v.last_time) (next refl) in
    let P : CurrentState → Type 0 = λ s. ProgressLeadsTo s c.args.entry.now new in
    subst P c.self.view_is
    (leads old new c.args.entry.now c.last_time.result time (is_valid refl) broken c.in_ok-note.ensures.next c.in_ok-note-2.ensures.next)
