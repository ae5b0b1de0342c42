-- Repair of an entry, check by check. The entry is checked; after a failure, what the repair requires is checked. Each
-- check is of the next entry, after the entries that were appended to the log.
use Rattle.std.specs.Prelude.{◌≡◌, ◌⊎◌, ℕ, List, [], ◌∷◌, ◌++◌, Some, None, map, codes}
use Rattle.hsms_machine.specs.declared.entry.Entry.{Entry}
use Rattle.hsms_machine.specs.OpeningLines.{at_place}
use Rattle.hsms_machine.specs.Repair.{Change, Other, First, Without, Steps, RepairedBy, change_by, repair_of}
use Rattle.hsms_machine.specs.Run.{Broken as IsFirstBroken}
use Rattle.hsms_machine.specs.Settings.{Parameters}
use Rattle.hsms_machine.specs.View.{view_of}
use Rattle.hsms_log.specs.declared.verdict.Why.TheVariants as why
use Rattle.explain_session.specs.declared.repaired_session.Checked.{Checked}
use Rattle.explain_session.specs.declared.repaired_session.Checked.TheVariants.{Lawful, Broken}
use Rattle.explain_lines.specs.declared.annotation.Note.{Note}
use Rattle.explain_lines.specs.declared.annotation.Note.TheVariants.{Closes, Fails}
use Rattle.explain_lines.specs.declared.phrases.Closing.{Closing}
use Rattle.explain_lines.specs.declared.annotation.Failing.{Failing}
use Rattle.explain_session.specs.RepairedSession.{CurrentState, HasProgress, ForEachProgress}
use Rattle.hsms_machine.specs.declared.rule.Rule.{Rule}
use Rattle.hsms_machine.specs.declared.rule.Rule.TheVariants.{WBit}
use Rattle.cli_options.specs.RuleTexts.{sentence_of}

-- ---- one check

-- Holds if the entry is valid after the log, or if this is the first rule that it breaks, with the specified repair.
abbrev pub IsChecked : Parameters → List Entry → Entry → Checked → Type 0
IsChecked settings log entry (Lawful closed) = IsFirstBroken settings log entry None
IsChecked settings log entry (Broken failure) =
    IsFirstBroken settings log entry (Some failure.rule) × (failure.repair_action ≡ repair_of (view_of settings log) entry failure.rule)

-- The entries to check next, if the first of them is changed in this way.
abbrev pub changed : Change → Entry → List Entry → List Entry
changed (Other other) entry more = other ∷ more
changed (First first) entry more = first ∷ entry ∷ more
changed Without entry more = more

-- The entries to check next, after a check of the first of them.
abbrev pub next_after : Checked → Entry → List Entry → List Entry
next_after (Lawful closed) entry more = more
next_after (Broken failure) entry more = changed (change_by failure.repair_action entry) entry more

-- The entries that the check appends to the log, before later ones: a valid entry.
abbrev pub put_with : Checked → Entry → List Entry → List Entry
put_with (Lawful closed) entry later = entry ∷ later
put_with (Broken failure) entry later = later

-- The log after the check.
abbrev pub log_after : Checked → List Entry → Entry → List Entry
log_after (Lawful closed) log entry = log ++ entry ∷ []
log_after (Broken failure) log entry = log

-- The check results to record. A check is recorded if no other entry is pending: then it is of the entry of the line,
-- as repaired.
abbrev pub recorded_with : Checked → List Entry → List Checked → List Checked
recorded_with check_result [] later = check_result ∷ later
recorded_with check_result (entry ∷ more) later = later

-- ---- consecutive checks

-- Holds if the entries after the log have these check results, in order.
abbrev pub AreChecked : Parameters → List Entry → List Checked → List Entry → Type 0
AreChecked settings log [] entries = Unit {0}
AreChecked settings log (check_result ∷ more) [] = ⊥
AreChecked settings log (check_result ∷ more) (entry ∷ entries) =
    IsChecked settings log entry check_result × AreChecked settings (log_after check_result log entry) more (next_after check_result entry entries)

-- The entries that are then left.
abbrev pub left_of : List Checked → List Entry → List Entry
left_of [] entries = entries
left_of (check_result ∷ more) [] = []
left_of (check_result ∷ more) (entry ∷ entries) = left_of more (next_after check_result entry entries)

-- The entries that were appended to the log.
abbrev pub put_of : List Checked → List Entry → List Entry
put_of [] entries = []
put_of (check_result ∷ more) [] = []
put_of (check_result ∷ more) (entry ∷ entries) = put_with check_result entry (put_of more (next_after check_result entry entries))

-- The check results that are recorded.
abbrev pub recorded_of : List Checked → List Entry → List Checked
recorded_of [] entries = []
recorded_of (check_result ∷ more) [] = []
recorded_of (check_result ∷ more) (entry ∷ entries) = recorded_with check_result entries (recorded_of more (next_after check_result entry entries))

-- ---- law

-- If no entry is left, the appended entries replace the entry.
abbrev pub StepsRepair : Type 0
StepsRepair =
    (settings : Parameters) (log : List Entry) (entry : Entry) (check_result : List Checked) → AreChecked settings log check_result (entry ∷ [])
    → left_of check_result (entry ∷ []) ≡ [] → (steps : Steps) × RepairedBy settings log steps entry (put_of check_result (entry ∷ []))

-- ---- annotations

-- Holds if this is the text of a rule, or that of a stream 9 primary with the W bit.
abbrev pub SaysRule : Rule → List ℕ → Type 0
SaysRule rule words =
    (words ≡ sentence_of rule) ⊎ ((rule ≡ WBit) × (words ≡ codes "the W bit is set in a stream 9 message"))

-- Holds if these are the annotations of a check: the line of the closed transaction, or the failure with its repair.
abbrev pub NoteSays : Checked → List Note → Type 0
NoteSays (Lawful None) notes = notes ≡ []
NoteSays (Lawful (Some opening)) notes = (closing : Closing) × (notes ≡ Closes closing ∷ []) × (closing.line ≡ opening.line)
NoteSays (Broken failure) notes =
    (failing : Failing) × (notes ≡ Fails failing ∷ []) × (failing.why ≡ why.Broken failure.rule)
    × (failing.concerns ≡ failure.concerns) × (failing.repair_action ≡ Some failure.repair_action)
    × SaysRule failure.rule failing.sentence.now

abbrev pub NotesSay : List Checked → List Note → Type 0
NotesSay [] notes = notes ≡ []
NotesSay (check_result ∷ more) notes = (first rest : List Note) × NoteSays check_result first × NotesSay more rest × (notes ≡ first ++ rest)

-- Holds if the check results, and only these, are annotated.
abbrev pub Notes : List Note → List Checked → List Note → Type 0
Notes before shown_line after = (notes : List Note) × NotesSay shown_line notes × (after ≡ before ++ notes)

-- ---- a repaired session

-- Holds if the checks lead from one repaired session to another, at the same line.
abbrev pub LeadsBy : CurrentState → List Checked → List Entry → CurrentState → Type 0
LeadsBy old check_result entries new =
    ForEachProgress old (λ settings log placed. AreChecked settings log check_result entries
    × HasProgress settings (log ++ put_of check_result entries) (placed ++ map (at_place old.line) (put_of check_result entries)) new)

-- Holds if the entry is repaired until no entry is left.
abbrev pub RepairsEntry : CurrentState → Entry → List Note → CurrentState → List Note → Type 0
RepairsEntry old entry before new after =
    (check_result : List Checked) × LeadsBy old check_result (entry ∷ []) new × Notes before (recorded_of check_result (entry ∷ [])) after
    × ForEachProgress old (λ settings log placed. left_of check_result (entry ∷ []) ≡ [])
