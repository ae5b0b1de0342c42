-- The clock of a log (project-specific profile): an offset is added to each time, so that later times are audited by
-- their differences after the clock was set back.
use Rattle.std.specs.Prelude.{◌+◌, ◌-◌, ℕ, nat_lt, if◌then◌else◌}
use Rattle.hsms_machine.specs.declared.entry.Entry.{Entry}
use Rattle.hsms_machine.specs.Repair.{entry_of_event}
use Rattle.explain_lines.specs.Counted.{counted}
use Rattle.explain_session.specs.declared.clock.Clock.{Clock}

-- The clock of a log in which it was not set back by more than T3.
abbrev pub steady : Clock
steady = record { offset = 0; before = 0 }

-- The clock at an entry with this time. It has the offset before the last step again once the time, with that offset, is
-- not before the last one in the repaired log.
abbrev pub clock_at : ℕ → Clock → ℕ → Clock
clock_at last clock time = if nat_lt (time + clock.before) last then clock else record { offset = clock.before; before = clock.before }

-- The entry as it is audited, after an entry at the time `last`.
abbrev pub by_clock : ℕ → Clock → Entry → Entry
by_clock last clock entry = entry_of_event (counted (entry.time + (clock_at last clock entry.time).offset)) entry.event

-- The clock after an entry with this time. A time that goes back by more than T3 is a step of the clock: with the new
-- offset it is the last time again.
abbrev pub stepped : ℕ → ℕ → Clock → ℕ → Clock
stepped t3 last clock time =
    if nat_lt (time + clock.offset + t3) last then record { offset = last - time; before = clock.offset } else clock

abbrev pub clock_after : ℕ → ℕ → Clock → ℕ → Clock
clock_after t3 last clock time = stepped t3 last (clock_at last clock time) time
