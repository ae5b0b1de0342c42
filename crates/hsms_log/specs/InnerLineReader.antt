-- What only contracts of private functions use, besides the definitions of `LineReader`.
use Rattle.std.specs.Prelude.{◌≡◌, ◌+◌, ◌++◌, ℕ, List, [], ◌∷◌, Option, Some, None}
use Rattle.hsms_log.specs.declared.verdict.Why.{Why}
use Rattle.hsms_log.specs.declared.verdict.Verdict.{Verdict}
use Rattle.hsms_log.specs.declared.verdict.Verdict.TheVariants.{Pass, Fail}
use Rattle.hsms_log.specs.Verdict.{FailsOnward}
use Rattle.hsms_log.specs.LineReader.{Reading, StateInvariant}

-- Holds for the effect of the check of the line that ends with this part, by its result. If the line does not fail, the
-- reader is in the state after it, and the line is counted. Otherwise each text that continues with it fails there for
-- this reason, and the line is not counted.
abbrev pub EndsLine : (old new : Reading) → List ℕ → Option Why → Type 0
EndsLine old new part None =
    (new.line_checker.tally.lines ≡ old.line_checker.tally.lines + 1)
    × ((text : List ℕ) → StateInvariant old text → StateInvariant new (text ++ (part ++ 10 ∷ [])))
EndsLine old new part (Some why) =
    (new.line_checker.tally.lines ≡ old.line_checker.tally.lines)
    × ((text : List ℕ) → StateInvariant old text → FailsOnward (text ++ (part ++ 10 ∷ [])) (old.line_checker.tally.lines + 1) why)

abbrev pub IsFailure : Verdict → Type 0
IsFailure (Pass summary) = ⊥
IsFailure (Fail n why) = Unit {0}
