-- A log line and its annotations, as text.
use Rattle.std.specs.Prelude.{◌≡◌, ◌++◌, ℕ, List, [], ◌∷◌, codes, decimal}
use Rattle.hsms_machine.specs.declared.entry.Mark.{Mark}
use Rattle.hsms_machine.specs.declared.entry.Mark.TheVariants.{Sent, Taken, Discarded}
use Rattle.cli_output.specs.Line.{LineOf}
use Rattle.explain_lines.specs.declared.annotation.Note.{Note}
use Rattle.explain_lines.specs.declared.annotation.Note.TheVariants.{Closes, Fails, FailsInGroup}
use Rattle.hsms_log.specs.declared.step.What.{What}
use Rattle.hsms_log.specs.declared.step.What.TheVariants as what
use Rattle.explain_lines.specs.declared.explained_line.Carried.{Carried}
use Rattle.explain_lines.specs.declared.explained_line.Carried.TheVariants as carried
use Rattle.explain_lines.specs.declared.explained_line.ExplainedLine.{ExplainedLine}
use Rattle.explain_forms.specs.OutputBuffer.{padded}
use Rattle.explain_forms.specs.Visible.{HasNoControl}
use Rattle.explain_lines.specs.Phrases.{group_text, closing_text, why_name}

-- ---- below a line

-- Words on a line of their own, below a log line.
abbrev pub below : List ℕ → List ℕ
below words = codes "       " ++ words ++ codes "\n"

-- The name of a rule and its text.
abbrev pub rule_words : List ℕ → List ℕ → List ℕ
rule_words name sentence = codes "       " ++ codes "FAIL " ++ name ++ codes ": " ++ sentence ++ codes "\n"

-- Holds if these are the words of an annotation. Those of a failure begin with its rule.
abbrev pub NoteWritten : Note → List ℕ → Type 0
NoteWritten (Closes closing) words = words ≡ below (closing_text closing)
NoteWritten (Fails failing) words = (further : List ℕ) × (words ≡ rule_words (why_name failing.why) failing.sentence.now ++ further)
NoteWritten (FailsInGroup failure_group) words = words ≡ below (group_text failure_group)

-- Holds if these are the words of the annotations, in order.
abbrev pub NotesWritten : List Note → List ℕ → Type 0
NotesWritten [] words = words ≡ []
NotesWritten (note ∷ notes) words = (first : List ℕ) × (rest : List ℕ) × NoteWritten note first × NotesWritten notes rest × (words ≡ first ++ rest)

-- Two dots, in place of skipped lines.
abbrev pub gap_text : List ℕ
gap_text = codes "       " ++ codes "..\n"

-- ---- a line

abbrev pub mark_text : Mark → List ℕ
mark_text Sent = codes "> "
mark_text Taken = codes "< "
mark_text Discarded = codes "! "

-- Holds if these words show the event. A frame is shown with its mark, in the line in which `hsms show` shows its
-- message.
abbrev pub WhatSaid : What → List ℕ → List ℕ → Type 0
WhatSaid (what.Frame mark header) text words =
    (line : List ℕ) × LineOf 100 (record { header = header; text = text }) line × (words ≡ mark_text mark ++ line)
WhatSaid _ text words = Unit {0}

-- Holds if these words show a line without an entry. They have no control characters.
abbrev pub PlainSaid : List ℕ → Type 0
PlainSaid words = (shown : List ℕ) × HasNoControl shown × (words ≡ shown ++ codes "\n")

-- Holds if these words show the content of a line: an entry after its time.
abbrev pub CarriedSaid : Carried → List ℕ → Type 0
CarriedSaid (carried.Entry step text) words =
    (time : List ℕ) × (happened : List ℕ) × WhatSaid step.what text.now happened × (words ≡ time ++ codes " " ++ happened)
CarriedSaid carried.Nothing words = PlainSaid words
CarriedSaid (carried.Unreadable reasoned) words = PlainSaid words

-- Holds if these words show a line, after its number.
abbrev pub LineSaid : ExplainedLine → List ℕ → Type 0
LineSaid shown_line words =
    (rest : List ℕ) × CarriedSaid shown_line.carried rest × (words ≡ padded 6 (decimal shown_line.number) ++ codes " " ++ rest)

-- Holds if these words show a line, and below it its annotations.
abbrev pub LineWritten : ExplainedLine → List Note → List ℕ → Type 0
LineWritten shown_line notes words =
    (line : List ℕ) × (rest : List ℕ) × LineSaid shown_line line × NotesWritten notes rest × (words ≡ line ++ rest)
