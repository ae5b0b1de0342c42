-- The acts of an endpoint are deterministic.
use Rattle.std.proofs.Common.{◌≡◌, ℕ, refl, List, [], ◌∷◌, Option, sym, ap, subst, ◌∙◌, inl, inr}
use Rattle.hsms_machine.specs.declared.entry.Entry.{Entry}
use Rattle.hsms_machine.specs.declared.entry.Event.TheVariants.{Sent}
use Rattle.hsms_endpoint.specs.declared.fault.EndFault.{EndFault}
use Rattle.hsms_endpoint.specs.EndState.{EndState}
use Rattle.hsms_endpoint.specs.Action.{Act, logs, asks, Acts, entry_now, with_event, with_number}
use Rattle.hsms_endpoint.specs.Turn.{InputEvent}
use Rattle.hsms_endpoint.specs.Fault.{Hinders, faults, IsFirstFault, Encounters}
use Rattle.hsms_endpoint.specs.Laws.{NextNumberFollowsTheTakenOne}
use Rattle.hsms_endpoint.proofs.Numbers.{first_free_is_one}

first_fault_is_one : (Applies : EndFault → Type 0) (list : List EndFault) (one other : Option EndFault) → IsFirstFault Applies list one → IsFirstFault Applies list other → one ≡ other
first_fault_is_one Applies [] one other h k = h ∙ sym k
first_fault_is_one Applies (fault ∷ later) one other h k = elim h [
  | inl p ↦ elim k [ inl q ↦ p.1 ∙ sym q.1 | inr q ↦ absurd (q.0 p.0) ]
  | inr p ↦ elim k [ inl q ↦ absurd (p.0 q.0) | inr q ↦ first_fault_is_one Applies later one other p.1 q.1 ]
]

pub fault_is_unique : (end : EndState) (input : InputEvent) (one other : Option EndFault) → Encounters end input one → Encounters end input other → one ≡ other
unfolding Encounters
fault_is_unique end input one other h k = first_fault_is_one (Hinders end input) faults one other h k

pub acts_have_one_outcome : (end : EndState) (acts : List Act) (one other : List Entry) (end' end'' : EndState) → Acts end acts one end' → Acts end acts other end'' → (one ≡ other) × (end' ≡ end'')
acts_have_one_outcome end [] one other end' end'' h k = (h.0 ∙ sym k.0, h.1 ∙ sym k.1)
acts_have_one_outcome end (logs event ∷ acts) one other end' end'' h k =
    let rest = acts_have_one_outcome (with_event end event) acts h.0 k.0 end' end'' h.2 k.2 in
    (h.1 ∙ ap (λ es. entry_now end event ∷ es) rest.0 ∙ sym k.1, rest.1)
acts_have_one_outcome end (asks frame ∷ acts) one other end' end'' h k =
    let same : h.0 ≡ k.0 = first_free_is_one end.view end.next h.0 k.0 h.2 k.2 in
    let subsequent : Acts (with_number end (frame h.0) h.0) acts k.1 end'' = subst (λ (n : ℕ). Acts (with_number end (frame n) n) acts k.1 end'') (sym same) k.4 in
    let rest = acts_have_one_outcome (with_number end (frame h.0) h.0) acts h.1 k.1 end' end'' h.4 subsequent in (
      h.3 ∙ ap (λ es. entry_now end (Sent (frame h.0)) ∷ es) rest.0 ∙ ap (λ n. entry_now end (Sent (frame n)) ∷ k.1) same ∙ sym k.3,
      rest.1,
    )

pub next_number_follows_the_taken_one : NextNumberFollowsTheTakenOne
next_number_follows_the_taken_one = λ end frame acts entries end' h.
    (h.0, h.1, with_number end (frame h.0) h.0, h.2, h.3, refl, h.4)
