-- The options of `hsms audit`, and the report that they request.
use Rattle.std.specs.Prelude.{◌≡◌, List, [], ◌∷◌, codes, Option, Some, None, unwrap_or}
use Rattle.clap.specs.Words.{Row, Rule, Text, first_of}
use Rattle.cli_options.specs.declared.audit_options.ReportForm.{ReportForm}
use Rattle.cli_options.specs.declared.audit_options.ReportForm.TheVariants.{Json, Junit}
use Rattle.cli_options.specs.OptionValues.{flag_option, operands, text_option}

abbrev pub audit_rules : List Rule
audit_rules = operands (codes "FILE") ∷ flag_option (codes "quiet") ∷ text_option (codes "format") ∷ []

-- The name of the format of a report, or of lines of text without a report.
abbrev pub report_word : Option ReportForm → Text
report_word None = codes "text"
report_word (Some Json) = codes "json"
report_word (Some Junit) = codes "junit"

-- Holds if the report is the one that the option `format` names. By default there is none.
abbrev pub HasReportForm : List Row → Option ReportForm → Type 0
HasReportForm rows form = unwrap_or (first_of (codes "format") rows) (codes "text") ≡ report_word form
