-- The first failure among annotations.
use Rattle.std.proofs.Common.{◌≡◌, ◌++◌, List, [], ◌∷◌, Some, None, refl}
use Rattle.std.specs.Prelude.{Option}
use Rattle.explain_lines.specs.declared.annotation.Note.{Note}
use Rattle.explain_lines.specs.declared.annotation.Note.TheVariants.{Closes, Fails, FailsInGroup}
use Rattle.explain_lines.specs.AnnotatedFailure.{either, first_why}

pub first_why-push : (notes : List Note) (note : Note) → first_why (notes ++ note ∷ []) ≡ either (first_why notes) (first_why (note ∷ []))
first_why-push [] note = refl
first_why-push (Closes closing ∷ notes) note = first_why-push notes note
first_why-push (Fails failing ∷ notes) note = refl
first_why-push (FailsInGroup failure_group ∷ notes) note = first_why-push notes note

pub first_why-cons : (note : Note) (notes : List Note) → first_why (note ∷ notes) ≡ either (first_why (note ∷ [])) (first_why notes)
first_why-cons (Closes closing) notes = refl
first_why-cons (Fails failing) notes = refl
first_why-cons (FailsInGroup failure_group) notes = refl

pub either_none : {A : Type 0} (one : Option A) → either one None ≡ one
either_none None = refl
either_none (Some x) = refl
