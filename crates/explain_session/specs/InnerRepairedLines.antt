-- What only contracts of private functions use, besides the definitions of `RepairedLines`.
use Rattle.std.specs.Prelude.{◌≡◌, ◌+◌, codes, ℕ, List, [], ◌∷◌, ◌++◌, Some, length}
use Rattle.hsms_machine.specs.declared.entry.Entry.{Entry}
use Rattle.hsms_log.specs.declared.reasons.Unreadable.{Unreadable as Reasoned}
use Rattle.hsms_log.specs.declared.verdict.Why.TheVariants.{Unreadable}
use Rattle.hsms_log.specs.LineFormat.{EncodesSettings}
use Rattle.explain_lines.specs.declared.expected.Expected.TheVariants.{Form}
use Rattle.explain_session.specs.declared.clock.Clock.{Clock}
use Rattle.explain_session.specs.declared.context.Known.{Known}
use Rattle.explain_lines.specs.declared.annotation.Failing.{Failing}
use Rattle.explain_lines.specs.declared.annotation.Note.{Note}
use Rattle.explain_lines.specs.declared.annotation.Note.TheVariants.{Fails}
use Rattle.explain_lines.specs.declared.explained_line.Carried.{Carried}
use Rattle.explain_lines.specs.declared.explained_line.Carried.TheVariants as carried
use Rattle.explain_lines.specs.Counted.{counted}
use Rattle.explain_session.specs.Clock.{by_clock, clock_after, steady}
use Rattle.explain_session.specs.RepairedSession.{CurrentState, HasProgress}
use Rattle.explain_session.specs.RepairSteps.{RepairsEntry}
use Rattle.hsms_log.specs.Step.{entry_by}
use Rattle.explain_session.specs.RepairedLines.{LinesPut}

-- Holds if an annotation records that a line is unreadable, and why.
abbrev pub NotesUnreadable : Reasoned → List Note → List Note → Type 0
NotesUnreadable reasoned before after =
    (failing : Failing) × (failing.why ≡ Unreadable) × (failing.sentence.now ≡ codes "not a valid log line")
    × (failing.expected ≡ Some (Form reasoned)) × (after ≡ before ++ Fails failing ∷ [])

-- Holds if the repaired session continues with the content of a line, by the clock, and these are its annotations.
abbrev pub RepairsLine : CurrentState → Clock → Carried → CurrentState → List Note → Type 0
RepairsLine old clock (carried.Entry step text) new notes =
    RepairsEntry old (by_clock old.tracker.last_time clock (entry_by step text.now)) [] new notes
RepairsLine old clock carried.Nothing new notes = (new ≡ old) × (notes ≡ [])
RepairsLine old clock (carried.Unreadable reasoned) new notes = (new ≡ old) × NotesUnreadable reasoned [] notes

-- The clock after a line with this content.
abbrev pub clock_after_line : ℕ → CurrentState → Clock → Carried → Clock
clock_after_line t3 old clock (carried.Entry step text) = clock_after t3 old.tracker.last_time clock step.time
clock_after_line t3 old clock carried.Nothing = clock
clock_after_line t3 old clock (carried.Unreadable reasoned) = clock

-- Holds if the first of the lines encodes the settings, and this is the repaired session of the log that the other
-- lines append.
abbrev pub ContinuesWith : Known → List (List ℕ) → Type 0
ContinuesWith known [] = ⊥
ContinuesWith known (first ∷ lines) =
    (log : List Entry) × (placed : List Entry) × EncodesSettings first known.settings
    × LinesPut known.settings 2 [] steady lines log placed known.clock
    × HasProgress known.settings log placed known.repaired_session × (known.repaired_session.line ≡ counted (length lines + 1))
