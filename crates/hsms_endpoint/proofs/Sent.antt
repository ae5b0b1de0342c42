-- The result of the call `send`.
use Rattle.std.proofs.Common.{◌≡◌, ℕ, ◌≤◌, ◌%◌, ◌==◌, Bool, true, false, ◌&&◌, not, nat_le, List, [], ◌∷◌, Option, Some, None, IsTrue, refl, sym, ap, subst, ◌∙◌, inl, inr, ◌⊎◌, arith}
use Rattle.std.proofs.lemmas.Bool.Decides.{nat_tests}
use Rattle.secs_text.specs.Content.{Content}
use Rattle.hsms_machine.specs.View.{own_open_of}
use Rattle.hsms_machine.specs.ViewRules.{is_selected}
use Rattle.hsms_endpoint.specs.declared.state.State.{State}
use Rattle.hsms_endpoint.specs.declared.fault.EndFault.{EndFault}
use Rattle.hsms_endpoint.specs.declared.fault.EndFault.TheVariants.{Spent, NotUp, NotSelected, NotPrimary, Nine, Full, TooLong, TooDeep, Memory}
use Rattle.hsms_endpoint.specs.Frame.{is_within_depth, fitting_text}
use Rattle.hsms_endpoint.specs.Turn.{is_up, InputEvent, send}
use Rattle.hsms_endpoint.specs.Fault.{Hinders, IsFirstFault, Encounters}
use Rattle.hsms_endpoint.specs.EndState.{EndOf}
use Rattle.hsms_endpoint.specs.Internals.{known_of}
use Rattle.hsms_endpoint.specs.End.{Refuses}
use Rattle.hsms_endpoint.specs.InnerSending.{hindrance_by, hindrance_of}
use Rattle.hsms_endpoint.proofs.Calls.{inside_of}

-- The test is true if and only if the fact holds.
record Emits (test : Bool) (Fact : Type 0) : Type 0 where
  yes : test ≡ true → Fact
  no : test ≡ false → Fact → ⊥

true_false : (b : Bool) → b ≡ true → b ≡ false → ⊥
true_false b t f = let d : true ≡ false = sym t ∙ f in cc

emits_not : (b : Bool) → Emits (not b) (b ≡ false)
emits_not true = record { yes = λ e. absurd (let d : false ≡ true = e in cc); no = λ e h. let d : true ≡ false = h in cc }
emits_not false = record { yes = λ e. refl; no = λ e h. let d : true ≡ false = e in cc }

eq_yes : (a b : ℕ) → (a == b) ≡ true → a ≡ b
eq_yes a b e = grind (arith, nat_tests)

eq_no : (a b : ℕ) → (a == b) ≡ false → a ≡ b → ⊥
eq_no a b e h = grind (arith, nat_tests)

le_yes : (a b : ℕ) → nat_le a b ≡ true → a ≤ b
le_yes a b e = grind (arith, nat_tests)

le_no : (a b : ℕ) → nat_le a b ≡ false → a ≤ b → ⊥
le_no a b e h = grind (arith, nat_tests)

emits_eq : (a b : ℕ) → Emits (a == b) (a ≡ b)
emits_eq a b = record { yes = eq_yes a b; no = eq_no a b }

emits_full : (wait : Bool) (opened : ℕ) → Emits (wait && nat_le 64 opened) (IsTrue wait × (64 ≤ opened))
emits_full true opened = record { yes = λ e. (refl, le_yes 64 opened e); no = λ e h. le_no 64 opened e h.1 }
emits_full false opened = record { yes = λ e. absurd (let d : false ≡ true = e in cc); no = λ e h. let d : false ≡ true = h.0 in cc }

none_is_some : (fault : EndFault) → ◌≡◌ {A = Option EndFault} None (Some fault) → ⊥
none_is_some fault e = cc

some_is_none : (fault : EndFault) → ◌≡◌ {A = Option EndFault} (Some fault) None → ⊥
some_is_none fault e = cc

module _ (H : EndFault → Type 0) where
  first_hindrance : (b1 b2 b3 b4 b5 : Bool) → Emits b1 (H NotSelected) → Emits b2 (H NotPrimary) → Emits b3 (H Nine) → Emits b4 (H Full) → Emits b5 (H TooDeep) → (fault : EndFault) → hindrance_by b1 b2 b3 b4 b5 ≡ Some fault → IsFirstFault H (NotSelected ∷ NotPrimary ∷ Nine ∷ Full ∷ TooDeep ∷ TooLong ∷ []) (Some fault)
  first_hindrance true b2 b3 b4 b5 t1 t2 t3 t4 t5 fault e = inl (t1.yes refl, sym e)
  first_hindrance false true b3 b4 b5 t1 t2 t3 t4 t5 fault e = inr (t1.no refl, inl (t2.yes refl, sym e))
  first_hindrance false false true b4 b5 t1 t2 t3 t4 t5 fault e = inr (t1.no refl, inr (t2.no refl, inl (t3.yes refl, sym e)))
  first_hindrance false false false true b5 t1 t2 t3 t4 t5 fault e = inr (t1.no refl, inr (t2.no refl, inr (t3.no refl, inl (t4.yes refl, sym e))))
  first_hindrance false false false false true t1 t2 t3 t4 t5 fault e = inr (t1.no refl, inr (t2.no refl, inr (t3.no refl, inr (t4.no refl, inl (t5.yes refl, sym e)))))
  first_hindrance false false false false false t1 t2 t3 t4 t5 fault e = absurd (none_is_some fault e)

  no_hindrance : (b1 b2 b3 b4 b5 : Bool) → Emits b1 (H NotSelected) → Emits b2 (H NotPrimary) → Emits b3 (H Nine) → Emits b4 (H Full) → Emits b5 (H TooDeep) → hindrance_by b1 b2 b3 b4 b5 ≡ None → (answer : Option EndFault) → IsFirstFault H (TooLong ∷ []) answer → IsFirstFault H (NotSelected ∷ NotPrimary ∷ Nine ∷ Full ∷ TooDeep ∷ TooLong ∷ []) answer
  no_hindrance true b2 b3 b4 b5 t1 t2 t3 t4 t5 e answer h = absurd (some_is_none _ e)
  no_hindrance false true b3 b4 b5 t1 t2 t3 t4 t5 e answer h = absurd (some_is_none _ e)
  no_hindrance false false true b4 b5 t1 t2 t3 t4 t5 e answer h = absurd (some_is_none _ e)
  no_hindrance false false false true b5 t1 t2 t3 t4 t5 e answer h = absurd (some_is_none _ e)
  no_hindrance false false false false true t1 t2 t3 t4 t5 e answer h = absurd (some_is_none _ e)
  no_hindrance false false false false false t1 t2 t3 t4 t5 e answer h = inr (t1.no refl, inr (t2.no refl, inr (t3.no refl, inr (t4.no refl, inr (t5.no refl, h)))))

never_memory : (b1 b2 b3 b4 b5 : Bool) → hindrance_by b1 b2 b3 b4 b5 ≡ Some Memory → ⊥
never_memory true b2 b3 b4 b5 e = let d : ◌≡◌ {A = Option EndFault} (Some NotSelected) (Some Memory) = e in cc
never_memory false true b3 b4 b5 e = let d : ◌≡◌ {A = Option EndFault} (Some NotPrimary) (Some Memory) = e in cc
never_memory false false true b4 b5 e = let d : ◌≡◌ {A = Option EndFault} (Some Nine) (Some Memory) = e in cc
never_memory false false false true b5 e = let d : ◌≡◌ {A = Option EndFault} (Some Full) (Some Memory) = e in cc
never_memory false false false false true e = let d : ◌≡◌ {A = Option EndFault} (Some TooDeep) (Some Memory) = e in cc
never_memory false false false false false e = none_is_some Memory e

pub not_memory : (end : State) (message : Content) (fault : EndFault) → hindrance_of end message ≡ Some fault → fault ≡ Memory → ⊥
not_memory end message fault e is =
    never_memory (not (is_selected end.tracker.phase)) (message.function % 2 == 0) (message.stream == 9) (message.wait && nat_le 64 (own_open_of end.tracker)) (not (is_within_depth end.settings.depth message.item))
    (e ∙ ap (λ (f : EndFault). Some f) is)

module _ (spent : Bool) (end : State) (message : Content) (s : spent ≡ false) (u : is_up end.tracker.phase ≡ true) where
  pub hindered : (fault : EndFault) → hindrance_of end message ≡ Some fault → Encounters (known_of end spent) (send message) (Some fault)
  unfolding Encounters
  hindered fault e =
      inr (
        (λ t. true_false spent t s),
        inr (
          true_false (is_up end.tracker.phase) u,
          first_hindrance (Hinders (known_of end spent) (send message)) (not (is_selected end.tracker.phase)) (message.function % 2 == 0) (message.stream == 9) (message.wait && nat_le 64 (own_open_of end.tracker)) (not (is_within_depth end.settings.depth message.item))
              (emits_not (is_selected end.tracker.phase)) (emits_eq (message.function % 2) 0) (emits_eq message.stream 9) (emits_full message.wait (own_open_of end.tracker)) (emits_not (is_within_depth end.settings.depth message.item)) fault e,
        ),
      )

  unhindered_by : hindrance_of end message ≡ None → (answer : Option EndFault) → IsFirstFault (Hinders (known_of end spent) (send message)) (TooLong ∷ []) answer → Encounters (known_of end spent) (send message) answer
  unfolding Encounters
  unhindered_by e answer h =
      inr (
        (λ t. true_false spent t s),
        inr (
          true_false (is_up end.tracker.phase) u,
          no_hindrance (Hinders (known_of end spent) (send message)) (not (is_selected end.tracker.phase)) (message.function % 2 == 0) (message.stream == 9) (message.wait && nat_le 64 (own_open_of end.tracker)) (not (is_within_depth end.settings.depth message.item))
              (emits_not (is_selected end.tracker.phase)) (emits_eq (message.function % 2) 0) (emits_eq message.stream 9) (emits_full message.wait (own_open_of end.tracker)) (emits_not (is_within_depth end.settings.depth message.item)) e answer h,
        ),
      )

  pub send_too_long : hindrance_of end message ≡ None → fitting_text end.settings message.item ≡ None → Encounters (known_of end spent) (send message) (Some TooLong)
  send_too_long e long = unhindered_by e (Some TooLong) (inl (long, refl))

  pub send_encounters : (text : List ℕ) → hindrance_of end message ≡ None → fitting_text end.settings message.item ≡ Some text → Encounters (known_of end spent) (send message) None
  send_encounters text e fit = unhindered_by e None (inr ((λ long. let d : ◌≡◌ {A = Option (List ℕ)} (Some text) None = sym fit ∙ long in cc), refl))

  pub send_memory : hindrance_of end message ≡ None → Encounters (known_of end spent) (send message) None ⊎ Encounters (known_of end spent) (send message) (Some TooLong)
  send_memory e = by_text (fitting_text end.settings message.item) refl
    where
      by_text : (text : Option (List ℕ)) → fitting_text end.settings message.item ≡ text → Encounters (known_of end spent) (send message) None ⊎ Encounters (known_of end spent) (send message) (Some TooLong)
      by_text None is = inr (send_too_long e is)
      by_text (Some text) is = inl (send_encounters text e is)

-- Any error but a failed allocation changes nothing.
pub refuses : {D : Type 0} (at end' : EndOf D) (input : InputEvent) (fault : EndFault) → (fault ≡ Memory → ⊥) → Encounters at.known input (Some fault) → end' ≡ at → Refuses at input fault end'
refuses at end' input Spent n encounters same = (encounters, same)
refuses at end' input NotUp n encounters same = (encounters, same)
refuses at end' input NotSelected n encounters same = (encounters, same)
refuses at end' input NotPrimary n encounters same = (encounters, same)
refuses at end' input Nine n encounters same = (encounters, same)
refuses at end' input Full n encounters same = (encounters, same)
refuses at end' input TooLong n encounters same = (encounters, same)
refuses at end' input TooDeep n encounters same = (encounters, same)
refuses at end' input Memory n encounters same = absurd (n refl)

-- The error that prevents a message is returned.
pub send_refused : {D : Type 0} (desk : D) (end : State) (spent : Bool) (at : EndOf D) (message : Content) (fault : EndFault) → spent ≡ false → inside_of desk end spent ≡ at → is_up end.tracker.phase ≡ true → hindrance_of end message ≡ Some fault → Refuses at (send message) fault at
send_refused {D} desk end spent at message fault fresh is up e =
    refuses at at (send message) fault (not_memory end message fault e)
    (subst (λ (k : EndOf D). Encounters k.known (send message) (Some fault)) is (hindered spent end message fresh up fault e)) refl

-- A message whose text is too long does not change the endpoint.
pub too_long_refused : {D : Type 0} (desk : D) (end : State) (spent : Bool) (at : EndOf D) (message : Content) → spent ≡ false → inside_of desk end spent ≡ at → is_up end.tracker.phase ≡ true → hindrance_of end message ≡ None → fitting_text end.settings message.item ≡ None → Refuses at (send message) TooLong (inside_of desk end false)
too_long_refused {D} desk end spent at message fresh is up e long =
    (subst (λ (k : EndOf D). Encounters k.known (send message) (Some TooLong)) is (send_too_long spent end message fresh up e long), subst (λ (b : Bool). inside_of desk end b ≡ at) fresh is)
