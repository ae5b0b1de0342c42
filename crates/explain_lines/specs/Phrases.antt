-- Phrases below a line.
use Rattle.std.specs.Prelude.{ℕ, List, [], ◌++◌, Option, Some, None, codes, decimal, nat_lt, if◌then◌else◌}
use Rattle.hsms_log.specs.declared.verdict.Why.{Why}
use Rattle.hsms_log.specs.declared.verdict.Why.TheVariants.{Unreadable, Broken}
use Rattle.hsms_machine.specs.Rule.{rule_name}
use Rattle.explain_lines.specs.declared.phrases.Tie.{Tie}
use Rattle.explain_lines.specs.declared.phrases.Tie.TheVariants.{Answers, Rejects, Expires}
use Rattle.explain_lines.specs.declared.phrases.Closing.{Closing}
use Rattle.explain_lines.specs.declared.phrases.Concern.{Concern}
use Rattle.explain_lines.specs.declared.phrases.FailureGroup.{FailureGroup}
use Rattle.explain_lines.specs.declared.phrases.Rest.{Rest}

abbrev pub tie_word : Tie → List ℕ
tie_word Answers = codes "answers"
tie_word Rejects = codes "rejects"
tie_word Expires = codes "expires"

-- The start of the phrase for an entry that closes a transaction.
abbrev pub closing_word : Tie → List ℕ
closing_word Answers = codes "answers"
closing_word Rejects = codes "rejects"
closing_word Expires = codes "T3 timeout of"

-- The ms since a transaction was opened, if the clock was not set in between.
abbrev pub closing_end : Option ℕ → List ℕ
closing_end (Some after) = codes " after " ++ decimal after ++ codes " ms"
closing_end None = codes ", across a step of the clock"

-- The line that opened the transaction that an entry closes, and the ms since then.
abbrev pub closing_text : Closing → List ℕ
closing_text c = closing_word c.tie ++ codes " line " ++ decimal c.line ++ closing_end c.after

abbrev pub concern_text : Concern → List ℕ
concern_text c = codes "open transaction: line " ++ decimal c.line

abbrev pub why_name : Why → List ℕ
why_name Unreadable = codes "unreadable"
why_name (Broken rule) = rule_name rule

-- The line of the open transaction that a failure involves; without one, how many failures there are.
abbrev pub group_end : Option ℕ → ℕ → List ℕ
group_end (Some open_line) times = codes ", open transaction: line " ++ decimal open_line
group_end None times = if nat_lt 1 times then codes " (" ++ decimal times ++ codes " times)" else []

-- The line to which similar failures refer, and the open transaction or their number.
abbrev pub group_text : FailureGroup → List ℕ
group_text a = codes "FAIL " ++ why_name a.why ++ codes ": same as line " ++ decimal a.line ++ group_end a.concerns a.times

-- The number of further failures, and the line of the last.
abbrev pub rest_text : Rest → List ℕ
rest_text r =
    why_name r.why ++ codes ": " ++ decimal r.count ++ codes " more like line " ++ decimal r.line ++ codes ", the last at line " ++ decimal r.last
