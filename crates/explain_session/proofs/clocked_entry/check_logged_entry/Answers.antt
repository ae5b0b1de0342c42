use Rattle.std.proofs.Common.{subst}
use Rattle.hsms_machine.specs.declared.entry.Entry.{Entry}
use Rattle.hsms_log.specs.Step.{event_of}
use Rattle.explain_lines.specs.AnnotatedFailure.{first_why}
use Rattle.explain_session.specs.EntryFailure.{FailsBy}
use Rattle.explain_session.specs.RepairSteps.{RepairsEntry}
use Rattle.explain_session.proofs.Clocks.{by_clock_so, logged_so}
use Rattle.explain_session.proofs.clocked_entry.check_logged_entry.Goals as goal

pub returns-clause-check_result : goal.returns-clause-check_result
returns-clause-check_result c = λ none still.
    let old = c.args.known.now in
    let new = c.check_next_entry.new in
    let logged = c.args.logged in
    let E : Entry → Type 0 = λ e. FailsBy old.repaired_session e new.known.repaired_session (first_why new.notes.items) in
    subst E
    (logged_so c.last_time-last.result logged.time c.audited.result (event_of logged.what c.args.text.now) old.clock c.at-clock.result c.at-clock.ensures
    c.audited.ensures.kept still)
    (c.in_ok-check_next_entry.ensures.check_result none)

pub returns-clause-repairs : goal.returns-clause-repairs
returns-clause-repairs c =
    let old = c.args.known.now in
    let new = c.check_next_entry.new in
    let logged = c.args.logged in
    let E : Entry → Type 0 = λ e. RepairsEntry old.repaired_session e c.args.notes.now.items new.known.repaired_session new.notes.items in
    subst E
    (by_clock_so old.repaired_session.tracker.last_time c.last_time-last.result logged.time c.audited.result (event_of logged.what c.args.text.now) old.clock
    c.at-clock.result c.last_time-last.ensures c.at-clock.ensures c.audited.ensures.value)
    c.in_ok-check_next_entry.ensures.repairs
