-- The first failure annotated at a line.
use Rattle.std.specs.Prelude.{List, [], ◌∷◌, Option, Some, None, Bool, true, false}
use Rattle.hsms_log.specs.declared.verdict.Why.{Why}
use Rattle.explain_lines.specs.declared.annotation.Note.{Note}
use Rattle.explain_lines.specs.declared.annotation.Note.TheVariants.{Closes, Fails, FailsInGroup}
use Rattle.explain_lines.specs.declared.annotation.Failing.{Failing}

-- Why a line fails first, by its annotations.
abbrev pub first_why : List Note → Option Why
first_why [] = None
first_why (Closes closing ∷ notes) = first_why notes
first_why (Fails failing ∷ notes) = Some failing.why
first_why (FailsInGroup failure_group ∷ notes) = first_why notes

-- The first of two options, if it is present; otherwise the second.
abbrev pub either : {A : Type 0} → Option A → Option A → Option A
either None other = other
either (Some one) other = Some one

-- True if an annotation is a failure written in full.
abbrev pub is_whole : Note → Bool
is_whole (Closes closing) = false
is_whole (Fails failing) = true
is_whole (FailsInGroup failure_group) = false

-- The first failure written in full among the annotations.
abbrev pub first_whole : List Note → Option Failing
first_whole [] = None
first_whole (Closes closing ∷ notes) = first_whole notes
first_whole (Fails failing ∷ notes) = Some failing
first_whole (FailsInGroup failure_group ∷ notes) = first_whole notes
