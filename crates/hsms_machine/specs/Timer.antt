-- The timers T3, T6 and T7: what is overdue, which expiries may be logged, and when the next timer expires (SEMI E37,
-- section 10, parameters; SEMI E5, section 8, for T3). Differences of times are compared, in milliseconds.
use Rattle.std.specs.Prelude.{ℕ, ◌+◌, ◌-◌, ◌^◌, ◌==◌, ◌&&◌, ◌⊎◌, min, List, [], ◌∷◌, Option, Some, None, nat_lt, nat_le, if◌then◌else◌}
use Rattle.std.specs.List.{filter_map}
use Rattle.hsms_machine.specs.declared.entry.Event.{Event}
use Rattle.hsms_machine.specs.declared.entry.Event.TheVariants.{T3, Cut}
use Rattle.hsms_machine.specs.declared.entry.Cause.{Cause}
use Rattle.hsms_machine.specs.declared.entry.Cause.TheVariants.{T6, T7}
use Rattle.hsms_machine.specs.declared.open_transactions.Transaction.{Transaction}
use Rattle.hsms_machine.specs.Settings.{Parameters}
use Rattle.hsms_machine.specs.Transaction.{SentData, SentControl}
use Rattle.hsms_machine.specs.Session.{Facts}

-- ---- what is overdue at a time

-- Holds unless the session has ended or the entry before is a `down`: then nothing is overdue.
abbrev pub IsTimed : Facts → Type 0
IsTimed facts = ¬ facts.IsOver × ¬ facts.FollowsDown

-- Holds if an open sent data transaction has waited for longer than T3.
abbrev pub IsT3Overdue : Facts → Parameters → ℕ → Type 0
IsT3Overdue facts settings time =
    IsTimed facts × facts.SomeOpen SentData (λ opened. nat_lt settings.t3 (time - opened.time))

-- Holds if an open sent Select.req or Linktest.req has waited for longer than T6.
abbrev pub IsT6Overdue : Facts → Parameters → ℕ → Type 0
IsT6Overdue facts settings time =
    IsTimed facts × facts.SomeOpen SentControl (λ opened. nat_lt settings.t6 (time - opened.time))

-- Holds if the connection is established and has not been selected for longer than T7.
abbrev pub IsT7Overdue : Facts → Parameters → ℕ → Type 0
IsT7Overdue facts settings time =
    IsTimed facts × ¬ facts.IsSelected × facts.IsUpSince (λ up. nat_lt settings.t7 (time - up))

-- ---- expiries that are logged before their time

abbrev pub IsCutNotDue : Facts → Parameters → ℕ → Cause → Type 0
IsCutNotDue facts settings time T6 =
    ¬ facts.SomeOpen SentControl (λ opened. nat_le settings.t6 (time - opened.time))
IsCutNotDue facts settings time T7 =
    facts.IsSelected ⊎ facts.IsUpSince (λ up. nat_lt (time - up) settings.t7)
IsCutNotDue facts settings time _ = ⊥

abbrev pub IsNotDue : Facts → Parameters → ℕ → Event → Type 0
IsNotDue facts settings time (T3 system) =
    ¬ facts.SomeOpen SentData (λ opened. (opened.header.system == system) && nat_le settings.t3 (time - opened.time))
IsNotDue facts settings time (Cut cause) = IsCutNotDue facts settings time cause
IsNotDue facts settings time _ = ⊥

-- ---- the next time at which a timer expires

-- The time at which the limit has passed since a time, if it fits in 64 bits.
abbrev pub due_at : ℕ → ℕ → Option ℕ
due_at limit time = if nat_lt (time + limit) (2 ^ 64) then Some (time + limit) else None

-- The times at which the transactions have waited for the limit.
abbrev pub due_times : ℕ → List Transaction → List ℕ
due_times limit opened = filter_map (λ transaction. due_at limit transaction.time) opened

-- The earlier of two times, if there are two.
abbrev pub least_of : Option ℕ → Option ℕ → Option ℕ
least_of None other = other
least_of (Some one) None = Some one
least_of (Some one) (Some other) = Some (min one other)

-- The earliest of the times, or none if there is none.
abbrev pub least_in : List ℕ → Option ℕ
least_in [] = None
least_in (moment ∷ moments) = least_of (Some moment) (least_in moments)
