-- The clock of a log.
use Rattle.std.proofs.Common.{◌≡◌, ◌<◌, ◌≤◌, ◌+◌, ◌-◌, ℕ, List, length, inl, inr, ap, ◌∙◌, subst, arith, if◌then◌else◌, None}
use Rattle.std.proofs.lemmas.Bool.{cases_lt, lt-ltb, le-ltb}
use Rattle.hsms_machine.specs.declared.entry.Entry.{Entry}
use Rattle.hsms_machine.specs.declared.entry.Event.{Event}
use Rattle.hsms_machine.specs.declared.view.View.{View}
use Rattle.hsms_machine.specs.Repair.{entry_of_event}
use Rattle.hsms_machine.specs.Rule.{Breaks, all_rules}
use Rattle.hsms_machine.specs.Run.{Broken}
use Rattle.hsms_machine.specs.Session.{facts_before}
use Rattle.hsms_machine.specs.Settings.{Parameters}
use Rattle.hsms_machine.specs.View.{view_of}
use Rattle.hsms_machine.proofs.SameFacts.{never_from}
use Rattle.hsms_machine.proofs.ViewsOfRuns.{past_to}
use Rattle.explain_lines.specs.Counted.{counted}
use Rattle.explain_session.specs.Clock.{by_clock, clock_after, clock_at, steady, stepped}
use Rattle.explain_session.specs.RepairedSession.{CurrentState, HasProgress}
use Rattle.explain_session.specs.declared.clock.Clock.{Clock}

-- The clock before the last step.
abbrev back_of : Clock → Clock
back_of clock = record { offset = clock.before; before = clock.before }

at_kept : (last : ℕ) (clock : Clock) (time : ℕ) → time + clock.before < last → clock_at last clock time ≡ clock
at_kept last clock time lt = ap (λ b. if b then clock else back_of clock) (lt-ltb (time + clock.before) last lt)

at_back : (last : ℕ) (clock : Clock) (time : ℕ) → last ≤ time + clock.before → clock_at last clock time ≡ back_of clock
at_back last clock time le = ap (λ b. if b then clock else back_of clock) (le-ltb (time + clock.before) last le)

-- The clock after a step.
abbrev set_to : ℕ → Clock → ℕ → Clock
set_to last clock time = record { offset = last - time; before = clock.offset }

step_kept : (t3 last : ℕ) (clock : Clock) (time : ℕ) → last ≤ time + clock.offset + t3 → stepped t3 last clock time ≡ clock
step_kept t3 last clock time le = ap (λ b. if b then set_to last clock time else clock) (le-ltb (time + clock.offset + t3) last le)

-- ---- the entry that is audited

-- The audited time is that of the entry by the clock.
pub by_clock_so : (last n time audited : ℕ) (event : Event) (clock now : Clock) → n ≡ last → now ≡ clock_at n clock time → audited ≡ counted (time + now.offset)
    → entry_of_event audited event ≡ by_clock last clock (entry_of_event time event)
by_clock_so last n time audited event clock now last_is now_is audited_is =
    ap (λ t. entry_of_event t event)
    (audited_is ∙ ap (λ (c : Clock). counted (time + c.offset)) (now_is ∙ ap (λ l. clock_at l clock time) last_is))

-- ---- a log without a step

pub steady_at : (last time : ℕ) → clock_at last steady time ≡ steady
steady_at last time = elim (cases_lt (time + 0) last) [
  | inl lt ↦ at_kept last steady time lt
  | inr le ↦ at_back last steady time le
]

-- Without a step an entry is audited as it is logged.
pub logged_so : (n time audited : ℕ) (event : Event) (clock now : Clock) → now ≡ clock_at n clock time → (now.offset ≡ 0 → audited ≡ time) → clock ≡ steady
    → entry_of_event audited event ≡ entry_of_event time event
logged_so n time audited event clock now now_is kept still =
    let none : now.offset ≡ 0 = ap (λ (c : Clock). c.offset) (now_is ∙ ap (λ c. clock_at n c time) still ∙ steady_at n time) in
    ap (λ t. entry_of_event t event) (kept none)

steady_after : (t3 last time : ℕ) → last ≤ time → clock_after t3 last steady time ≡ steady
steady_after t3 last time le =
    ap (λ (c : Clock). stepped t3 last c time) (steady_at last time) ∙ step_kept t3 last steady time (omega (arith, le))

not_before : (settings : Parameters) (log : List Entry) (entry : Entry) → Broken settings log entry None → (view_of settings log).last_time ≤ entry.time
unfolding Broken
not_before settings log entry is_valid =
    let never = never_from (Breaks (facts_before log (length log)) settings entry) all_rules is_valid in
    elim (cases_lt entry.time (view_of settings log).last_time) [
      | inl before ↦ absurd (never.0 (past_to log entry.time before))
      | inr le ↦ le
    ]

-- The clock after a valid entry is the clock before it.
pub steady_line : (settings : Parameters) (log placed : List Entry) (state : CurrentState) (entry : Entry) → HasProgress settings log placed state
    → Broken settings log entry None → clock_after settings.t3 state.tracker.last_time steady entry.time ≡ steady
steady_line settings log placed state entry has is_valid =
    let le = not_before settings log entry is_valid in
    let L : ℕ → Type 0 = λ n. n ≤ entry.time in
    steady_after settings.t3 state.tracker.last_time entry.time (subst L (ap (λ (v : View). v.last_time) has.run.seen) le)
