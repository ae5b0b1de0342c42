-- The result of the call `tick`.
use Rattle.std.proofs.Common.{◌≡◌, ℕ, Bool, true, false, List, [], None, refl, sym, ◌∙◌, inr}
use Rattle.secs_text.specs.Content.{Content}
use Rattle.hsms_machine.specs.declared.entry.Entry.{Entry}
use Rattle.hsms_endpoint.specs.declared.state.State.{State}
use Rattle.hsms_endpoint.specs.Answer.{Answered}
use Rattle.hsms_endpoint.specs.Turn.{is_up, expiries, tick}
use Rattle.hsms_endpoint.specs.Fault.{Encounters}
use Rattle.hsms_endpoint.specs.InnerInvariant.{Completes}
use Rattle.hsms_endpoint.specs.EndState.{EndOf}
use Rattle.hsms_endpoint.specs.End.{Accepts}
use Rattle.hsms_endpoint.specs.Internals.{known_of}
use Rattle.hsms_endpoint.specs.InnerInternals.{known, at_later}
use Rattle.hsms_endpoint.proofs.Calls.{inside_of, accepted}

not_true : (b : Bool) → b ≡ false → b ≡ true → ⊥
not_true b f t = let d : true ≡ false = sym t ∙ f in cc

not_false : (b : Bool) → b ≡ true → b ≡ false → ⊥
not_false b t f = let d : true ≡ false = sym t ∙ f in cc

pub tick_encounters : (spent : Bool) (end : State) (now : ℕ) → spent ≡ false → is_up end.tracker.phase ≡ true → Encounters (known_of end spent) (tick now) None
unfolding Encounters
tick_encounters spent end now s u =
    inr (not_true spent s, inr (not_false (is_up end.tracker.phase) u, inr ((λ b. b), inr ((λ b. b), inr ((λ b. b), inr ((λ b. let d : false ≡ true = b.0 in cc), inr ((λ b. b), inr ((λ b. b), refl))))))))

pub ticked : {D : Type 0} (answers : D → ℕ → Content → Answered) (desk : D) (end end' : State) (spent : Bool) (at : EndOf D) (now : ℕ) (first entries : List Entry) → spent ≡ false → inside_of desk end spent ≡ at → first ≡ [] → is_up end.tracker.phase ≡ true → Completes (at_later end now) first (expiries (known (at_later end now))) end' entries → Accepts answers at (tick now) entries (inside_of desk end' false)
ticked answers desk end end' spent at now first entries fresh is empty up h =
    accepted answers desk end (at_later end now) end' spent at (tick now) (expiries (known (at_later end now))) first entries fresh is empty (tick_encounters spent end now fresh up) refl (λ es k h. h) h.does
