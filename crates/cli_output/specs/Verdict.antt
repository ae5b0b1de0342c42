-- The line of a verdict.
use Rattle.std.specs.Prelude.{ℕ, Bool, true, false, List, [], ◌∷◌, ◌++◌, codes, decimal}
use Rattle.hsms_machine.specs.declared.rule.Rule.{Rule}
use Rattle.hsms_machine.specs.Rule.{rule_name}
use Rattle.hsms_log.specs.declared.verdict.Summary.{Summary}
use Rattle.hsms_log.specs.declared.verdict.Why.TheVariants.{Unreadable, Broken}
use Rattle.hsms_log.specs.declared.verdict.Verdict.{Verdict}
use Rattle.hsms_log.specs.declared.verdict.Verdict.TheVariants.{Pass, Fail}
use Rattle.hsms_log.specs.Verdict.{counts_text}

-- A name and a number.
abbrev pub count_words_of : List ℕ → ℕ → List ℕ
count_words_of name count = name ++ decimal count

-- The text for a log that passes.
abbrev pub pass_words_of : Summary → List ℕ
pass_words_of s = codes "pass" ++ counts_text (codes " ") (codes "=") s

-- The text for an unreadable line.
abbrev pub unreadable_words_of : ℕ → List ℕ
unreadable_words_of line = codes "fail" ++ count_words_of (codes " line=") line ++ codes " unreadable"

-- The text for a line that breaks a rule.
abbrev pub broken_words_of : ℕ → Rule → List ℕ
broken_words_of line rule = codes "fail" ++ count_words_of (codes " line=") line ++ codes " rule=" ++ rule_name rule

-- The text for a verdict.
abbrev pub verdict_words_of : Verdict → List ℕ
verdict_words_of (Pass summary) = pass_words_of summary
verdict_words_of (Fail line Unreadable) = unreadable_words_of line
verdict_words_of (Fail line (Broken rule)) = broken_words_of line rule

-- The line of a verdict, with its end.
abbrev pub verdict_line_of : Verdict → List ℕ
verdict_line_of verdict = verdict_words_of verdict ++ 10 ∷ []

-- True if a verdict is a pass.
abbrev pub is_pass : Verdict → Bool
is_pass (Pass summary) = true
is_pass (Fail line why) = false
