use Rattle.std.proofs.Common.{◌≡◌, List, sym, ap, subst}
use Rattle.std.specs.Prelude.{OnOk}
use Rattle.explain_lines.specs.declared.explained_line.Carried.{Carried}
use Rattle.explain_lines.specs.declared.annotation.Note.{Note}
use Rattle.explain_session.specs.Clock.{by_clock, steady}
use Rattle.explain_session.specs.InnerRepairedLines.{RepairsLine, clock_after_line}
use Rattle.explain_session.specs.InnerEntryFailure.{LineFailsBy}
use Rattle.explain_lines.specs.AnnotatedFailure.{first_why}
use Rattle.explain_statistics.specs.InnerEntryCounts.{with_carried}
use Rattle.explain_session.specs.RepairSteps.{RepairsEntry}
use Rattle.hsms_log.specs.Step.{entry_by}
use Rattle.explain_lines.proofs.Results.{on_ok, on_ok_more}
use Rattle.cli_explain.proofs.report.Report.judge.Goals as goal

pub returns-in-Entry-clause-check_result : goal.returns-in-Entry-clause-check_result
returns-in-Entry-clause-check_result c =
    let why = first_why c.check_logged_entry.new.notes.items in
    let old = c.args.known.now in
    let P : Carried → Type 0 = λ w. OnOk c.check_logged_entry.result (old.clock ≡ steady → LineFailsBy old.repaired_session w c.check_logged_entry.new.known.repaired_session why) in
    subst P (sym c.in-Entry.is) (on_ok_more _ _ c.check_logged_entry.result (λ fails. fails (ap first_why c.clear.ensures.items)) c.check_logged_entry.ensures.check_result)

pub returns-in-Entry-clause-clock : goal.returns-in-Entry-clause-clock
returns-in-Entry-clause-clock c =
    let old = c.args.known.now in
    let P : Carried → Type 0 = λ w. OnOk c.check_logged_entry.result
    (c.check_logged_entry.new.known.clock ≡ clock_after_line old.settings.t3 old.repaired_session old.clock w) in
    subst P (sym c.in-Entry.is) c.check_logged_entry.ensures.clock

pub returns-in-Entry-clause-repairs : goal.returns-in-Entry-clause-repairs
returns-in-Entry-clause-repairs c =
    let notes = c.check_logged_entry.new.notes.items in
    let old = c.args.known.now in
    let P : Carried → Type 0 = λ w. OnOk c.check_logged_entry.result (RepairsLine old.repaired_session old.clock w c.check_logged_entry.new.known.repaired_session notes) in
    let A : List Note → Type 0 =
    λ n. OnOk c.check_logged_entry.result
    (RepairsEntry old.repaired_session (by_clock old.repaired_session.tracker.last_time old.clock (entry_by c.in-Entry.step c.in-Entry.text.now)) n
    c.check_logged_entry.new.known.repaired_session notes) in
    subst P (sym c.in-Entry.is) (subst A c.clear.ensures.items c.check_logged_entry.ensures.repairs)

pub returns-in-Entry-clause-entries : goal.returns-in-Entry-clause-entries
returns-in-Entry-clause-entries c =
    let P : Carried → Type 0 = λ w. c.count_entry.new.self.entries ≡ with_carried c.args.self.now.tally.entries w in
    on_ok (P c.args.carried) c.check_logged_entry.result (subst P (sym c.in-Entry.is) (c.count_entry.ensures.entries c.in-Entry.step.time c.in-Entry.text.now))
