-- A log in a report, as a JSON object (RFC 8259) in one line.
use Rattle.std.specs.Prelude.{◌++◌, ◌&&◌, ℕ, Bool, List, [], codes, decimal, if◌then◌else◌}
use Rattle.serde_json.specs.Data.{string}
use Rattle.serde_json.specs.Written.{compact_text}
use Rattle.hsms_log.specs.declared.verdict.Summary.{Summary}
use Rattle.hsms_log.specs.declared.verdict.Why.{Why}
use Rattle.hsms_log.specs.declared.verdict.Why.TheVariants.{Unreadable, Broken}
use Rattle.hsms_log.specs.declared.verdict.Verdict.{Verdict}
use Rattle.hsms_log.specs.declared.verdict.Verdict.TheVariants.{Pass, Fail}
use Rattle.hsms_log.specs.Verdict.{counts_text}
use Rattle.cli_options.specs.RuleTexts.{sentence_of}
use Rattle.cli_output.specs.Verdict.{is_pass}
use Rattle.explain_lines.specs.Phrases.{why_name}

-- The start of an object: the name of the file, as a JSON string.
abbrev pub name_member_of : List ℕ → List ℕ
name_member_of file = codes "{\"file\":" ++ compact_text (string file)

-- The object of a log that passes.
abbrev pub pass_object_of : List ℕ → Summary → List ℕ
pass_object_of file s =
    name_member_of file ++ codes ",\"verdict\":\"pass\"" ++ counts_text (codes ",\"") (codes "\":") s ++ codes "}\n"

-- The end of the rule's name, and the text of a broken rule up to its end.
abbrev pub reason_of : Why → List ℕ
reason_of Unreadable = []
reason_of (Broken rule) = codes "\",\"sentence\":\"" ++ sentence_of rule

-- The object of a log that fails at a line.
abbrev pub fail_object_of : List ℕ → ℕ → Why → List ℕ
fail_object_of file line why =
    name_member_of file ++ codes ",\"verdict\":\"fail\",\"line\":" ++ decimal line ++ codes ",\"rule\":\"" ++ why_name why
    ++ reason_of why ++ codes "\"}\n"

-- The object of a log with this verdict.
abbrev pub log_object_of : List ℕ → Verdict → List ℕ
log_object_of file (Pass summary) = pass_object_of file summary
log_object_of file (Fail line why) = fail_object_of file line why

-- What is written of a log. If only failing logs are written, nothing is written of a pass.
abbrev pub object_line : Bool → List ℕ → Verdict → List ℕ
object_line quiet file verdict = if quiet && is_pass verdict then [] else log_object_of file verdict

-- The object of a file that cannot be opened.
abbrev pub unopened_object_of : List ℕ → List ℕ
unopened_object_of file = name_member_of file ++ codes ",\"verdict\":\"unopened\"}\n"
