-- The repaired log, line by line: the log as it continues after each failure, with its times by the clock.
use Rattle.std.specs.Prelude.{◌≡◌, ◌+◌, ◌⊎◌, ℕ, List, [], ◌∷◌, ◌++◌, Option, Some, None, map}
use Rattle.hsms_machine.specs.declared.entry.Entry.{Entry}
use Rattle.hsms_machine.specs.OpeningLines.{at_place}
use Rattle.hsms_machine.specs.Repair.{Steps, RepairedBy, IsRepaired, entry_of_event}
use Rattle.hsms_machine.specs.Settings.{Parameters}
use Rattle.hsms_machine.specs.View.{view_of}
use Rattle.hsms_log.specs.LineFormat.{Carries}
use Rattle.explain_lines.specs.Counted.{counted}
use Rattle.explain_session.specs.Clock.{by_clock, clock_after}
use Rattle.explain_session.specs.declared.clock.Clock.{Clock}

-- The time of the last entry of a log, or 0.
abbrev pub last_time_of : Parameters → List Entry → ℕ
last_time_of settings log = (view_of settings log).last_time

-- Holds if the entry of a line, by the clock, is replaced by these in the repaired log, and the clock is `next` then.
abbrev pub EntryPuts : Parameters → List Entry → Clock → Entry → List Entry → Clock → Type 0
EntryPuts settings log clock entry put next =
    ((steps : Steps) × RepairedBy settings log steps (by_clock (last_time_of settings log) clock entry) put)
    × (next ≡ clock_after settings.t3 (last_time_of settings log) clock entry.time)

-- Holds if the line appends these entries to the log: those that replace its entry in the repaired log, and none if it
-- has no entry or is unreadable. The clock is `next` then.
abbrev pub LinePuts : Parameters → List Entry → Clock → List ℕ → List Entry → Clock → Type 0
LinePuts settings log clock line put next =
    (Carries settings.max line None × (put ≡ []) × (next ≡ clock))
    ⊎ (((what : Option Entry) → Carries settings.max line what → ⊥) × (put ≡ []) × (next ≡ clock))
    ⊎ ((entry : Entry) × Carries settings.max line (Some entry) × EntryPuts settings log clock entry put next)

-- Holds if the lines, the first of which has this number, append `after` to the log, each entry with the number of its
-- line, and the clock is `last` then.
abbrev pub LinesPut : Parameters → ℕ → List Entry → Clock → List (List ℕ) → List Entry → List Entry → Clock → Type 0
LinesPut settings number log clock [] after placed last = (after ≡ []) × (placed ≡ []) × (last ≡ clock)
LinesPut settings number log clock (line ∷ lines) after placed last =
    (put : List Entry) × (next : Clock) × (rest : List Entry) × (places : List Entry) × LinePuts settings log clock line put next
    × (after ≡ put ++ rest) × (placed ≡ map (at_place (counted number)) put ++ places)
    × LinesPut settings (number + 1) (log ++ put) next lines rest places last

-- ---- law

-- Holds if the line has these entries: one, or none if it is blank or unreadable.
abbrev pub LineCarries : ℕ → List ℕ → List Entry → Type 0
LineCarries max line entries =
    (Carries max line None × (entries ≡ []))
    ⊎ (((what : Option Entry) → Carries max line what → ⊥) × (entries ≡ []))
    ⊎ ((entry : Entry) × Carries max line (Some entry) × (entries ≡ entry ∷ []))

abbrev pub LinesCarry : ℕ → List (List ℕ) → List Entry → Type 0
LinesCarry max [] entries = entries ≡ []
LinesCarry max (line ∷ lines) entries =
    (one : List Entry) × (rest : List Entry) × LineCarries max line one × LinesCarry max lines rest × (entries ≡ one ++ rest)

-- Holds if these are the entries with an offset added to each time.
abbrev pub AreTimed : List Entry → List Entry → Type 0
AreTimed [] timed = timed ≡ []
AreTimed (entry ∷ entries) timed =
    (offset : ℕ) × (rest : List Entry) × AreTimed entries rest × (timed ≡ entry_of_event (counted (entry.time + offset)) entry.event ∷ rest)

-- The log with which the audit continues is the log that was read, repaired after its times were changed by the clock.
abbrev pub LinesAreRepaired : Type 0
LinesAreRepaired =
    (settings : Parameters) (number : ℕ) (clock last : Clock) (lines : List (List ℕ)) (after placed : List Entry)
    → LinesPut settings number [] clock lines after placed last
    → (entries : List Entry) × (timed : List Entry) × LinesCarry settings.max lines entries × AreTimed entries timed × IsRepaired settings [] timed after
