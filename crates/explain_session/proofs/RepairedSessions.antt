-- The repaired session of a log.
use Rattle.std.proofs.Common.{◌≡◌, ◌≤◌, ◌++◌, ℕ, List, [], ◌∷◌, Some, None, Ok, inl, inr, sym, ◌∙◌, ap, subst, arith}
use Rattle.std.specs.Prelude.{Option, Result, IfOk, IfSome}
use Rattle.hsms_machine.specs.declared.entry.Entry.{Entry}
use Rattle.hsms_machine.specs.declared.entry.Event.{Event}
use Rattle.hsms_machine.specs.declared.rule.Rule.{Rule}
use Rattle.hsms_machine.specs.declared.view.View.{View}
use Rattle.hsms_machine.specs.Settings.{Parameters}
use Rattle.hsms_machine.specs.Run.{Broken as IsFirstBroken}
use Rattle.hsms_machine.specs.View.{HasView, IsBrokenAfter, LeadsTo}
use Rattle.hsms_machine.specs.ViewRules.{IsBrokenAt}
use Rattle.hsms_machine.specs.OpeningLines.{PlacesLeadTo, ClosesOneOpenedAt, ClosesNothing}
use Rattle.hsms_machine.specs.Repair.{repair_of}
use Rattle.explain_session.specs.declared.repaired_session.Opening.{Opening}
use Rattle.explain_session.specs.declared.repaired_session.Failure.{Failure}
use Rattle.explain_session.specs.declared.repaired_session.Checked.{Checked}
use Rattle.explain_session.specs.declared.repaired_session.Checked.TheVariants.{Lawful, Broken}
use Rattle.explain_session.specs.RepairedSession.{CurrentState, HasProgress, ForEachProgress, ProgressLeadsTo, Closes, Concerns, ConcernsSome, ChecksAs}

-- A valid entry is not before the last one.
pub not_before : (view : View) (entry : Entry) → IsBrokenAt view entry None → view.last_time ≤ entry.time
not_before view entry (inl (applies, is)) = absurd cc
not_before view entry (inr (late, others)) = omega (arith, late)

-- The settings of a repaired session are those of its tracker.
settings_of : (settings : Parameters) (log placed : List Entry) (repaired_session : CurrentState) → HasProgress settings log placed repaired_session → settings ≡ repaired_session.tracker.settings
settings_of settings log placed repaired_session has = ap (λ (v : View). v.settings) has.run.seen

tracked : (settings : Parameters) (log placed : List Entry) (repaired_session : CurrentState) → HasProgress settings log placed repaired_session
    → HasView repaired_session.tracker.settings log repaired_session.tracker
tracked settings log placed repaired_session has =
    let P : Parameters → Type 0 = λ s. HasView s log repaired_session.tracker in
    subst P (settings_of settings log placed repaired_session has) has.run

-- The rule that the tracker returns for an entry.
pub broken_so : (repaired_session : CurrentState) (entry : Entry) (answer : Option Rule) → IsBrokenAfter repaired_session.tracker entry answer
    → ForEachProgress repaired_session (λ settings log placed. IsFirstBroken settings log entry answer)
broken_so repaired_session entry answer broken settings log placed has =
    let P : Parameters → Type 0 = λ s. IsFirstBroken s log entry answer in
    subst P (sym (settings_of settings log placed repaired_session has)) (broken log (tracked settings log placed repaired_session has))

-- A valid entry is accepted.
pub leads : (old new : CurrentState) (entry : Entry) (time : ℕ) → time ≡ entry.time → LeadsTo old.tracker entry new.tracker
    → IsBrokenAfter old.tracker entry None → PlacesLeadTo old.lines old.line entry new.lines
    → PlacesLeadTo old.times time entry new.times → ProgressLeadsTo old entry new
leads old new entry time is tracker is_valid lines times settings log placed has =
    let P : Parameters → Type 0 = λ s. HasView s (log ++ entry ∷ []) new.tracker in
    let Q : ℕ → Type 0 = λ t. PlacesLeadTo old.times t entry new.times in
    let broken = broken_so old entry None is_valid settings log placed has in
    let by_time = subst Q is times in
    record {
      run = subst P (sym (settings_of settings log placed old has)) (tracker log (tracked settings log placed old has));
      lines = lines log placed has.lines settings has.run.run broken;
      times = by_time log log has.times settings has.run.run broken;
    }

-- The transaction that an entry closes.
pub closes_one : (repaired_session : CurrentState) (event : Event) (opening : Opening) → ClosesOneOpenedAt repaired_session.lines event opening.line
    → ClosesOneOpenedAt repaired_session.times event opening.time → Closes repaired_session event (Some opening)
closes_one repaired_session event opening line time settings log placed has = (line log placed has.lines, time log log has.times)

pub closes_no_line : (repaired_session : CurrentState) (event : Event) → ClosesNothing repaired_session.lines event → Closes repaired_session event None
closes_no_line repaired_session event none settings log placed has = none log placed has.lines

pub closes_no_time : (repaired_session : CurrentState) (event : Event) → ClosesNothing repaired_session.times event → Closes repaired_session event None
closes_no_time repaired_session event none settings log placed has = none log log has.times

abbrev pub current_state_of : View → View → View → ℕ → CurrentState
current_state_of tracker lines times line = record { tracker = tracker; lines = lines; times = times; line = line }

-- ---- the results of a check

pub checks_valid : {E : Type 0} (old new : CurrentState) (entry : Entry) (answer : Option Rule) (closed : Option Opening) (r : Result Checked E)
    → r ≡ Ok (Lawful closed) → answer ≡ None → IsBrokenAfter old.tracker entry answer → (answer ≡ None → ProgressLeadsTo old entry new)
    → Closes old entry.event closed → IfOk r (ChecksAs old entry new)
checks_valid {E} old new entry answer closed r is none broken leads_on closes =
    let P : Result Checked E → Type 0 = λ r. IfOk r (ChecksAs old entry new) in
    let Q : Option Rule → Type 0 = λ a. IsBrokenAfter old.tracker entry a in
    subst P (sym is) (broken_so old entry None (subst Q none broken), leads_on none, closes)

concerns_some : (repaired_session : CurrentState) (event : Event) (rule : Rule) (line : Option ℕ) → IfSome line (Concerns repaired_session event rule)
    → ConcernsSome repaired_session event rule line
concerns_some repaired_session event rule (Some line) concerns = concerns
concerns_some repaired_session event rule None concerns = tt

pub checks_broken : {E : Type 0} (old new : CurrentState) (entry : Entry) (answer : Option Rule) (failure : Failure) (tracker : View) (r : Result Checked E)
    → r ≡ Ok (Broken failure) → answer ≡ Some failure.rule → IsBrokenAfter old.tracker entry answer
    → ((rule : Rule) → answer ≡ Some rule → new ≡ old) → IfSome failure.concerns (Concerns new entry.event failure.rule)
    → tracker ≡ new.tracker → failure.repair_action ≡ repair_of tracker entry failure.rule → IfOk r (ChecksAs old entry new)
checks_broken {E} old new entry answer failure tracker r is some broken same concerns tracker_is repair_action =
    let P : Result Checked E → Type 0 = λ r. IfOk r (ChecksAs old entry new) in
    let Q : Option Rule → Type 0 = λ a. IsBrokenAfter old.tracker entry a in
    let kept : new ≡ old = same failure.rule some in
    let C : CurrentState → Type 0 = λ s. IfSome failure.concerns (Concerns s entry.event failure.rule) in
    let tracker_kept : tracker ≡ old.tracker = tracker_is ∙ ap (λ (s : CurrentState). s.tracker) kept in
    subst P (sym is) (
      broken_so old entry (Some failure.rule) (subst Q some broken),
      kept,
      concerns_some old entry.event failure.rule failure.concerns (subst C kept concerns),
      repair_action ∙ ap (λ (v : View). repair_of v entry failure.rule) tracker_kept,
    )
