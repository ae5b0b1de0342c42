-- The content of a line.
use Rattle.std.specs.Prelude.{ℕ, Bool, true, false, List, Option, Some, None}
use Rattle.hsms_machine.specs.declared.entry.Entry.{Entry}
use Rattle.hsms_log.specs.LineFormat.{Carries}
use Rattle.explain_lines.specs.declared.explained_line.Carried.{Carried}
use Rattle.explain_lines.specs.declared.explained_line.Carried.TheVariants as carried
use Rattle.hsms_log.specs.declared.step.What.{What}
use Rattle.hsms_log.specs.declared.step.What.TheVariants.{Up}
use Rattle.hsms_log.specs.Step.{entry_by}

-- Holds if the line has this content.
abbrev pub IsCarried : ℕ → List ℕ → Carried → Type 0
IsCarried max line (carried.Entry step text) = Carries max line (Some (entry_by step text.now))
IsCarried max line carried.Nothing = Carries max line None
IsCarried max line (carried.Unreadable reasoned) = (entry : Option Entry) → Carries max line entry → ⊥

abbrev pub is_up : What → Bool
is_up Up = true
is_up what = false

-- True if the line has an `up`.
abbrev pub is_up_line : Carried → Bool
is_up_line (carried.Entry step text) = is_up step.what
is_up_line carried.Nothing = false
is_up_line (carried.Unreadable reasoned) = false
