-- The results of the calls of an endpoint.
use Rattle.std.proofs.Common.{◌≡◌, ℕ, max, ◌<◌, ◌≤◌, Bool, true, false, List, [], ◌∷◌, Some, None, refl, sym, ap, subst, ◌∙◌, inl, inr, ◌⊎◌, Vec, Global, arith}
use Rattle.std.specs.Prelude.{Result, Err, IsErrAnd}
use Rattle.std.proofs.lemmas.Result.{err_from_is_err_and}
use Rattle.secs_text.specs.Content.{Content}
use Rattle.hsms_machine.specs.declared.entry.Entry.{Entry}
use Rattle.hsms_machine.specs.declared.entry.Event.TheVariants.{Down}
use Rattle.hsms_machine.specs.declared.view.View.{View}
use Rattle.hsms_machine.specs.View.{own_open_of}
use Rattle.hsms_endpoint.specs.declared.state.State.{State}
use Rattle.hsms_endpoint.specs.Answer.{Answered}
use Rattle.hsms_endpoint.specs.Frame.{linktest_req, separate_req}
use Rattle.hsms_endpoint.specs.Action.{Act, Acts, logs, asks}
use Rattle.hsms_endpoint.specs.Turn.{is_up, opening_of, InputEvent, Turn, start, linktest, separate, lost}
use Rattle.hsms_endpoint.specs.declared.fault.EndFault.{EndFault}
use Rattle.hsms_endpoint.specs.declared.fault.EndFault.TheVariants.{Spent, NotUp, NotSelected, NotPrimary, Nine, Full, TooLong, TooDeep, Memory}
use Rattle.hsms_endpoint.specs.Fault.{Encounters, IsNotUp, is_before}
use Rattle.hsms_endpoint.specs.InnerActionSteps.{Performs, HasLogged}
use Rattle.hsms_endpoint.specs.Invariant.{IsSound}
use Rattle.hsms_endpoint.specs.InnerInvariant.{Completes}
use Rattle.hsms_endpoint.specs.End.{Extends, Accepts, Refuses, Answers}
use Rattle.hsms_endpoint.specs.EndState.{EndState, EndOf}
use Rattle.hsms_endpoint.specs.Internals.{known_of}
use Rattle.hsms_endpoint.specs.InnerInternals.{known, IsRefusedAs}

pub acts_of : (end end' : State) (acts : List Act) (entries : List Entry) → Performs end [] acts end' entries → Acts (known end) acts entries (known end')
acts_of end end' acts entries h = subst (λ es. Acts (known end) acts es (known end')) (sym h.added) h.done

pub run_of : (end end' : State) (acts : List Act) (entries : List Entry) → Performs end [] acts end' entries → Extends end.tracker entries end'.tracker
run_of end end' acts entries h = subst (λ es. Extends end.tracker es end'.tracker) (sym h.added) h.run

pub not_spent : (spent : Bool) → spent ≡ false → spent ≡ true → ⊥
not_spent spent f t = let d : true ≡ false = sym t ∙ f in cc

pub up_is_up : (up : Bool) → up ≡ true → up ≡ false → ⊥
up_is_up up t f = let d : true ≡ false = sym t ∙ f in cc

-- ---- lost, separate and linktest

pub lost_encounters : (spent : Bool) (end : State) → spent ≡ false → is_up end.tracker.phase ≡ true → Encounters (known_of end spent) lost None
unfolding Encounters
lost_encounters spent end s u =
    inr (not_spent spent s, inr (up_is_up (is_up end.tracker.phase) u, inr ((λ b. b), inr ((λ b. b), inr ((λ b. b), inr ((λ b. let d : false ≡ true = b.0 in cc), inr ((λ b. b), inr ((λ b. b), refl))))))))

pub separate_encounters : (spent : Bool) (end : State) → spent ≡ false → is_up end.tracker.phase ≡ true → Encounters (known_of end spent) separate None
unfolding Encounters
separate_encounters spent end s u =
    inr (not_spent spent s, inr (up_is_up (is_up end.tracker.phase) u, inr ((λ b. b), inr ((λ b. b), inr ((λ b. b), inr ((λ b. let d : false ≡ true = b.0 in cc), inr ((λ b. b), inr ((λ b. b), refl))))))))

pub linktest_encounters : (spent : Bool) (end : State) → spent ≡ false → is_up end.tracker.phase ≡ true → own_open_of end.tracker < 64 → Encounters (known_of end spent) linktest None
unfolding Encounters
linktest_encounters spent end s u room =
    inr (not_spent spent s, inr (up_is_up (is_up end.tracker.phase) u, inr ((λ b. b), inr ((λ b. b), inr ((λ b. b), inr ((λ b. let le : 64 ≤ own_open_of end.tracker = b.1 in absurd (omega arith)), inr ((λ b. b), inr ((λ b. b), refl))))))))

-- ---- the result of a call, in terms of the endpoint's internals

abbrev pub inside_of : {D : Type 0} → D → State → Bool → EndOf D
inside_of desk end spent = record { desk = desk; known = known_of end spent }

pub accepted_at : {D : Type 0} (answers : D → ℕ → Content → Answered) (desk : D) (end end' : State) (spent : Bool) (at : EndOf D) (input : InputEvent) (entries : List Entry) → spent ≡ false → inside_of desk end spent ≡ at → Encounters (known_of end spent) input None → Turn (answers desk) (known end) input entries (known end') → Extends end.tracker entries end'.tracker → Accepts answers at input entries (inside_of desk end' false)
accepted_at {D} answers desk end end' spent at input entries fresh is encounters turn run =
    subst (λ (k : EndOf D). Accepts answers k input entries (inside_of desk end' false)) is
    (subst (λ (b : Bool). Accepts answers (inside_of desk end b) input entries (inside_of desk end' false)) (sym fresh)
    (record { encounters = subst (λ (b : Bool). Encounters (known_of end b) input None) fresh encounters; turn = turn; run = run; desk = refl }))

-- A call that needs a connection is rejected at once.
refused_by : {D : Type 0} (desk : D) (end : State) (spent : Bool) (at : EndOf D) (input : InputEvent) (fault : EndFault) → inside_of desk end spent ≡ at → (is_up end.tracker.phase ≡ false → IsNotUp (known_of end spent) input) → IsRefusedAs spent (is_up end.tracker.phase) fault → Refuses at input fault at
unfolding Encounters
refused_by {D} desk end spent at input Spent is down r = (subst (λ (k : EndOf D). Encounters k.known input (Some Spent)) is (inl (r, refl)), refl)
refused_by {D} desk end spent at input NotUp is down r = (subst (λ (k : EndOf D). Encounters k.known input (Some NotUp)) is (inr (not_spent spent r.0, inl (down r.1, refl))), refl)
refused_by desk end spent at input NotSelected is down r = absurd r
refused_by desk end spent at input NotPrimary is down r = absurd r
refused_by desk end spent at input Nine is down r = absurd r
refused_by desk end spent at input Full is down r = absurd r
refused_by desk end spent at input TooLong is down r = absurd r
refused_by desk end spent at input TooDeep is down r = absurd r
refused_by desk end spent at input Memory is down r = absurd r

pub refused_at_once : {D : Type 0} (answers : D → ℕ → Content → Answered) (desk : D) (end : State) (spent : Bool) (at : EndOf D) (input : InputEvent) (fault : EndFault) (result : Result (Vec Entry Global) EndFault) → inside_of desk end spent ≡ at → (is_up end.tracker.phase ≡ false → IsNotUp (known_of end spent) input) → IsRefusedAs spent (is_up end.tracker.phase) fault → IsErrAnd result (λ e. e ≡ fault) → Answers answers at input result at
refused_at_once {D} answers desk end spent at input fault result is down refused err =
    let input_event = err_from_is_err_and result err in
    subst (λ (r : Result (Vec Entry Global) EndFault). Answers answers at input r at) (sym (input_event.1 ∙ ap (λ (e : EndFault). Err e) input_event.2)) (refused_by desk end spent at input fault is down refused)

-- An allocation failed in a call that has no error, or may have `TooLong`.
pub out_of_memory : {D : Type 0} (answers : D → ℕ → Content → Answered) (desk : D) (end end' : State) (spent : Bool) (at : EndOf D) (input : InputEvent) (result : Result (Vec Entry Global) EndFault) → inside_of desk end spent ≡ at → Encounters (known_of end spent) input None ⊎ Encounters (known_of end spent) input (Some TooLong) → IsErrAnd result (λ e. e ≡ Memory) → Answers answers at input result (inside_of desk end' true)
out_of_memory {D} answers desk end end' spent at input result is encounters err =
    let input_event = err_from_is_err_and result err in
    subst (λ (r : Result (Vec Entry Global) EndFault). Answers answers at input r (inside_of desk end' true)) (sym (input_event.1 ∙ ap (λ (e : EndFault). Err e) input_event.2))
    (subst (λ (k : EndOf D). Encounters k.known input None ⊎ Encounters k.known input (Some TooLong)) is encounters, refl)

-- An input whose turn is these acts, starting from this endpoint.
pub accepted : {D : Type 0} (answers : D → ℕ → Content → Answered) (desk : D) (end from end' : State) (spent : Bool) (at : EndOf D) (input : InputEvent) (acts : List Act) (first entries : List Entry) → spent ≡ false → inside_of desk end spent ≡ at → first ≡ [] → Encounters (known_of end spent) input None → from.tracker ≡ end.tracker → ((es : List Entry) (k : EndState) → Acts (known from) acts es k → Turn (answers desk) (known end) input es k) → Performs from first acts end' entries → Accepts answers at input entries (inside_of desk end' false)
accepted {D} answers desk end from end' spent at input acts first entries fresh is empty encounters same turn h =
    let done : Performs from [] acts end' entries = subst (λ es. Performs from es acts end' entries) empty h in
    accepted_at answers desk end end' spent at input entries fresh is encounters (turn entries (known end') (acts_of from end' acts entries done))
    (subst (λ (v : View). Extends v entries end'.tracker) same (run_of from end' acts entries done))

pub completed_sound : (end end' : State) (before entries : List Entry) (acts : List Act) → Completes end before acts end' entries → IsSound end'
completed_sound end end' before entries acts h = h.sound

-- ---- start

pub start_encounters : (spent : Bool) (end : State) (now : ℕ) → spent ≡ false → is_before end.tracker.phase ≡ true → Encounters (known_of end spent) (start now) None
unfolding Encounters
start_encounters spent end now s u =
    inr (not_spent spent s, inr (up_is_up (is_before end.tracker.phase) u, inr ((λ b. b), inr ((λ b. b), inr ((λ b. b), inr ((λ b. let d : false ≡ true = b.0 in cc), inr ((λ b. b), inr ((λ b. b), refl))))))))

pub started : {D : Type 0} (answers : D → ℕ → Content → Answered) (desk : D) (end end' : State) (spent : Bool) (at : EndOf D) (now moment : ℕ) (first entries : List Entry) → moment ≡ max end.moment now → spent ≡ false → inside_of desk end spent ≡ at → first ≡ [] → is_before end.tracker.phase ≡ true → Completes (record end { moment = moment }) first (opening_of end.settings.link) end' entries → Accepts answers at (start now) entries (inside_of desk end' false)
started answers desk end end' spent at now moment first entries later fresh is empty before h =
    accepted answers desk end (record end { moment = max end.moment now }) end' spent at (start now) (opening_of end.settings.link) first entries fresh is empty (start_encounters spent end now fresh before) refl (λ es k h. h)
    (subst (λ (m : ℕ). Performs (record end { moment = m }) first (opening_of end.settings.link) end' entries) later h.does)

-- ---- lost, separate and linktest

pub lost_accepted : {D : Type 0} (answers : D → ℕ → Content → Answered) (desk : D) (end end' : State) (spent : Bool) (at : EndOf D) (first entries : List Entry) → spent ≡ false → inside_of desk end spent ≡ at → first ≡ [] → is_up end.tracker.phase ≡ true → HasLogged end first Down end' entries → Accepts answers at lost entries (inside_of desk end' false)
lost_accepted answers desk end end' spent at first entries fresh is empty up h =
    accepted answers desk end end end' spent at lost (logs Down ∷ []) first entries fresh is empty (lost_encounters spent end fresh up) refl (λ es k d. d) h.does

pub separate_accepted : {D : Type 0} (answers : D → ℕ → Content → Answered) (desk : D) (end end' : State) (spent : Bool) (at : EndOf D) (first entries : List Entry) → spent ≡ false → inside_of desk end spent ≡ at → first ≡ [] → is_up end.tracker.phase ≡ true → Completes end first (asks separate_req ∷ logs Down ∷ []) end' entries → Accepts answers at separate entries (inside_of desk end' false)
separate_accepted answers desk end end' spent at first entries fresh is empty up h =
    accepted answers desk end end end' spent at separate (asks separate_req ∷ logs Down ∷ []) first entries fresh is empty (separate_encounters spent end fresh up) refl (λ es k d. d) h.does

pub linktest_accepted : {D : Type 0} (answers : D → ℕ → Content → Answered) (desk : D) (end end' : State) (spent : Bool) (at : EndOf D) (first entries : List Entry) → spent ≡ false → inside_of desk end spent ≡ at → first ≡ [] → is_up end.tracker.phase ≡ true → own_open_of end.tracker < 64 → Completes end first (asks linktest_req ∷ []) end' entries → Accepts answers at linktest entries (inside_of desk end' false)
linktest_accepted answers desk end end' spent at first entries fresh is empty up room h =
    accepted answers desk end end end' spent at linktest (asks linktest_req ∷ []) first entries fresh is empty (linktest_encounters spent end fresh up room) refl (λ es k d. d) h.does
