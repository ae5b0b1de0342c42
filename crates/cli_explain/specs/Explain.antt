-- The result of `hsms explain` for an input, and the minimum output.
use Rattle.std.specs.Prelude.{◌≡◌, ◌++◌, ℕ, List, [], Bool, Option, Some, Result, Ok, Err}
use Rattle.hsms_frame.specs.Io.{IfRecorded}
use Rattle.hsms_log.specs.Verdict.{HasAuditVerdict}
use Rattle.hsms_log.specs.declared.verdict.Verdict.{Verdict}
use Rattle.cli_options.specs.declared.explain_options.OutputFormat.{OutputFormat}
use Rattle.cli_options.specs.declared.fault.ToolFault.{ToolFault}
use Rattle.cli_options.specs.declared.fault.ToolFault.TheVariants.{Refused, Device, Memory}
use Rattle.cli_output.specs.Verdict.{is_pass}
use Rattle.cli_output.specs.IoErrors.{LeavesPart}
use Rattle.cli_explain.specs.VerdictOutput.{ending_of}

-- Holds if some bytes were appended to the earlier output.
abbrev pub GrowsBySome : Option (List ℕ) → Option (List ℕ) → Type 0
GrowsBySome old new = IfRecorded old (λ octets. (shown_line : List ℕ) × (new ≡ Some (octets ++ shown_line)))

-- Holds if some bytes were appended to the earlier output, and at last a verdict in this format.
abbrev pub EndsWithVerdict : OutputFormat → Option (List ℕ) → Option (List ℕ) → Verdict → Type 0
EndsWithVerdict form old new verdict =
    IfRecorded old (λ octets. (shown_line : List ℕ) × (new ≡ Some (octets ++ shown_line ++ ending_of form verdict)))

-- Holds if the text has this verdict, the verdict is the last part of the output, and `passes` says whether it is a
-- pass.
abbrev pub Concludes : OutputFormat → List ℕ → Bool → Option (List ℕ) → Option (List ℕ) → Type 0
Concludes form text passes old new =
    (verdict : Verdict) × HasAuditVerdict text verdict × (passes ≡ is_pass verdict) × EndsWithVerdict form old new verdict

-- The results for an input in an output format. Each has the rest of the input, whether its end was found, and the
-- output before and after. Either the log was read to its end and its verdict was written last, or part of the output
-- was written.
abbrev pub ExplainsTo : OutputFormat → List ℕ → Result Bool ToolFault → Option (List ℕ) → Type 0 → Option (List ℕ) → Option (List ℕ) → Type 0
ExplainsTo form input (Ok passes) left ended old new = Concludes form input passes old new × (left ≡ Some []) × ended
ExplainsTo form input (Err (Refused words)) left ended old new = ⊥
ExplainsTo form input (Err (Device word)) left ended old new = LeavesPart input left × GrowsBySome old new
ExplainsTo form input (Err Memory) left ended old new = LeavesPart input left × GrowsBySome old new
