-- The verdict, the last part of the output.
use Rattle.std.specs.Prelude.{ℕ, List, ◌++◌, codes, decimal}
use Rattle.hsms_log.specs.declared.verdict.Summary.{Summary}
use Rattle.hsms_log.specs.declared.verdict.Why.{Why}
use Rattle.hsms_log.specs.declared.verdict.Verdict.{Verdict}
use Rattle.hsms_log.specs.declared.verdict.Verdict.TheVariants.{Pass, Fail}
use Rattle.hsms_log.specs.Verdict.{counts_text}
use Rattle.cli_options.specs.declared.explain_options.OutputFormat.{OutputFormat}
use Rattle.cli_options.specs.declared.explain_options.OutputFormat.TheVariants.{Text, Json, Html}
use Rattle.cli_output.specs.Verdict.{verdict_line_of}
use Rattle.explain_lines.specs.Phrases.{why_name}

-- ---- as a JSON object (RFC 8259) on one line

-- A member with a number, after its name and the characters before it.
abbrev pub member_of : List ℕ → ℕ → List ℕ
member_of name number = name ++ decimal number

-- The object of a pass, with the counts of the log.
abbrev pub pass_object_of : Summary → List ℕ
pass_object_of s =
    codes "{\"type\":\"verdict\",\"verdict\":\"pass\"" ++ counts_text (codes ",\"") (codes "\":") s ++ codes "}\n"

-- The object of a failure at a line, which breaks this rule or is unreadable.
abbrev pub fail_object_of : ℕ → Why → List ℕ
fail_object_of line why =
    codes "{\"type\":\"verdict\",\"verdict\":\"fail\"" ++ member_of (codes ",\"line\":") line
    ++ codes ",\"rule\":\"" ++ why_name why ++ codes "\"}\n"

abbrev pub verdict_object_of : Verdict → List ℕ
verdict_object_of (Pass summary) = pass_object_of summary
verdict_object_of (Fail line why) = fail_object_of line why

-- ---- as a paragraph of HTML, which ends the page

-- The markup before the verdict, for its color.
abbrev pub mark_of : Verdict → List ℕ
mark_of (Pass summary) = codes "<p id=\"verdict\" class=\"pass\">"
mark_of (Fail line why) = codes "<p id=\"verdict\" class=\"fail\">"

abbrev pub page_end_of : Verdict → List ℕ
page_end_of verdict = mark_of verdict ++ verdict_line_of verdict ++ codes "</p></section></body></html>\n"

-- ---- in each format

-- The verdict, with what follows it.
abbrev pub ending_of : OutputFormat → Verdict → List ℕ
ending_of Text verdict = verdict_line_of verdict
ending_of Json verdict = verdict_object_of verdict
ending_of Html verdict = page_end_of verdict
