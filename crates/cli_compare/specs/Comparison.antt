-- What `hsms compare` writes of two logs, and what it returns.
use Rattle.std.specs.Prelude.{◌≡◌, ◌++◌, ◌&&◌, ◌==◌, if◌then◌else◌, ℕ, Bool, true, false, List, [], ◌∷◌, Option, Some, None, Result, Ok, Err, codes, decimal, length}
use Rattle.hsms_frame.specs.CallCounts.{next_count}
use Rattle.hsms_frame.specs.Io.{Grows, GrowsByFront, Stays}
use Rattle.cli_output.specs.Verdict.{is_pass, verdict_line_of}
use Rattle.hsms_compare_logs.specs.declared.comparing.LogComparison.{LogComparison}
use Rattle.hsms_compare_logs.specs.declared.pair_verdict.FactKind.{FactKind}
use Rattle.hsms_compare_logs.specs.declared.pair_verdict.FactKind.TheVariants.{Skipped, Swapped, Again, Differs, Unsent, Unfound, Order}
use Rattle.hsms_compare_logs.specs.declared.pair_verdict.PairVerdict.{PairVerdict}
use Rattle.hsms_compare_logs.specs.declared.pair_verdict.PairVerdict.TheVariants.{Agree, Disagree, Undecided}
use Rattle.hsms_compare_logs.specs.declared.read_log.ReadLog.{ReadLog}
use Rattle.hsms_compare_logs.specs.Comparison.{AreCompared, AreNotCompared}
use Rattle.hsms_compare_logs.specs.PairVerdicts.{are_paired, failed_count, told, verdict_of}
use Rattle.cli_compare.specs.declared.compare_error.CompareError.{CompareError}
use Rattle.cli_compare.specs.declared.compare_error.CompareError.TheVariants as error
use Rattle.cli_compare.specs.FactLines.{fact_lines, line_words, order_line}
use Rattle.cli_compare.specs.FailureLines.{failure_lines}

-- ---- the pair

abbrev pub number_of : Option ℕ → ℕ
number_of None = 0
number_of (Some number) = number

-- A log's first connection: the line of its `up`, and the numbers of messages, between two texts.
unfoldable pub connection_words : List ℕ → List ℕ → ReadLog → List ℕ → List ℕ
connection_words before end log after =
    before ++ line_words end (number_of log.up) ++ codes " sent=" ++ decimal (length log.frames.sent.items)
    ++ codes " received=" ++ decimal (length log.frames.received.items) ++ after

abbrev pub connection_line : LogComparison → List ℕ
connection_line c =
    connection_words (codes "connection ") (codes "host") c.host (codes " ")
    ++ connection_words (codes "") (codes "equipment") c.equipment (10 ∷ [])

-- The lines of its facts to equipment and to the host, and that of an order.
abbrev pub told_lines : LogComparison → List ℕ
told_lines c =
    fact_lines (codes "host") (codes "equipment") c.facts.to_equipment.items
    ++ fact_lines (codes "equipment") (codes "host") c.facts.to_host.items ++ order_line c.contradiction

-- The lines of its failed requests: the host's, then those of equipment.
abbrev pub request_lines : LogComparison → List ℕ
request_lines c =
    failure_lines (codes "host") c.failures.of_host.items ++ failure_lines (codes "equipment") c.failures.of_equipment.items

-- The lines of a pair.
abbrev pub pair_lines : LogComparison → List ℕ
pair_lines c = if are_paired c then connection_line c ++ told_lines c ++ request_lines c else []

-- ---- the verdict

-- A count with its name, if it is not 0.
abbrev pub count_words : List ℕ → ℕ → List ℕ
count_words name n = if n == 0 then [] else codes " " ++ name ++ codes "=" ++ decimal n

abbrev pub verdict_word : PairVerdict → List ℕ
verdict_word Agree = codes "agree"
verdict_word Disagree = codes "disagree"
verdict_word Undecided = codes "undecided"

abbrev pub pair_count : Bool → ℕ
pair_count true = 1
pair_count false = 0

unfoldable pub counts_words : LogComparison → List ℕ
counts_words c =
    count_words (codes "skipped") (told c Skipped) ++ count_words (codes "swapped") (told c Swapped)
    ++ count_words (codes "again") (told c Again) ++ count_words (codes "differs") (told c Differs)
    ++ count_words (codes "unsent") (told c Unsent) ++ count_words (codes "unfound") (told c Unfound)
    ++ count_words (codes "order") (told c Order)

-- The verdict, and how many pairs are compared.
unfoldable pub verdict_words : PairVerdict → Bool → List ℕ
verdict_words verdict paired = verdict_word verdict ++ codes " connections=" ++ decimal (pair_count paired)

abbrev pub verdict_line : LogComparison → List ℕ
verdict_line c =
    verdict_words (verdict_of c) (are_paired c) ++ counts_words c ++ count_words (codes "failed") (failed_count c) ++ 10 ∷ []

-- ---- all

-- The pair, the verdict of the audit on each log, and the verdict on the pair.
abbrev pub comparison_text : LogComparison → List ℕ
comparison_text c =
    pair_lines c ++ codes "host: " ++ verdict_line_of c.host.verdict ++ codes "equipment: " ++ verdict_line_of c.equipment.verdict ++ verdict_line c

-- False if a log fails or the logs disagree. Otherwise true if they agree.
abbrev pub outcome_by : Bool → PairVerdict → Result Bool CompareError
outcome_by false verdict = Ok false
outcome_by true Agree = Ok true
outcome_by true Disagree = Ok false
outcome_by true Undecided = Err error.Undecided

abbrev pub outcome_of : LogComparison → Result Bool CompareError
outcome_of c = outcome_by (is_pass c.host.verdict && is_pass c.equipment.verdict) (verdict_of c)

-- The results for the texts of two logs, with what was written before and is now. Nothing is written if they are not
-- compared.
abbrev pub ComparesTo : (one other : List ℕ) → Result Bool CompareError → Option (List ℕ) → Option (List ℕ) → Type 0
ComparesTo one other (Ok passes) old new =
    (c : LogComparison) × AreCompared one other c × (Ok passes ≡ outcome_of c) × Grows old new (comparison_text c)
ComparesTo one other (Err error.Undecided) old new =
    (c : LogComparison) × AreCompared one other c × (Err error.Undecided ≡ outcome_of c) × Grows old new (comparison_text c)
ComparesTo one other (Err error.Write) old new =
    (c : LogComparison) × AreCompared one other c × GrowsByFront old new (comparison_text c)
ComparesTo one other (Err (error.Logs fault)) old new = AreNotCompared one other fault × Stays old new

-- How often a sink has failed, by the result.
abbrev pub writes_after : {T : Type 0} → Result T CompareError → ℕ → ℕ
writes_after (Err error.Write) n = next_count n
writes_after result n = n
