use Rattle.std.proofs.Common.{◌≡◌, length, vec_len, rules, refl, sym, ap, subst, ◌∙◌}
use Rattle.std.proofs.lemmas.Iterator.Adapters.{YieldsList-from_vec}
use Rattle.std.proofs.lemmas.Iterator.Consumers.{YieldsList-so_far, YieldsList-turn, YieldsList-end}
use Rattle.std.proofs.lemmas.List.{length_push}
use Rattle.std.proofs.lemmas.Result.{err_from_is_err_and}
use Rattle.cli_capture.specs.declared.tracked_connection.Logs.{Logs}
use Rattle.cli_capture.specs.declared.report.Report.{Report}
use Rattle.cli_capture.proofs.Following.{Hearing, hearing_begins, hearing_ends, hears_same, next_of, turn_goes, turn_stops}
use Rattle.cli_capture.proofs.Connections.{taken_apart}
use Rattle.cli_capture.proofs.Paging.{all_yielded, end_logs, logs_nothing, stop_logs, turn_logs}
use Rattle.cli_capture.proofs.Refusals.{hears_them_refused}
use Rattle.cli_capture.proofs.Tellings.{tells_nothing, tells_then}
use Rattle.cli_capture.proofs.tracked_connection.hear_all.Goals as goal

pub loop-happening-init : goal.loop-happening-init
loop-happening-init c = record {
  emitted = tells_nothing c.args.report.now;
  same = λ verdicts. refl;
  reception = λ verdicts hs have. hearing_begins c.args.report.now.active c.args.report.now.passive hs c.args.logs.now c.args.emitted.items have;
  logged = logs_nothing c.args.pair.now c.args.logs.now c.args.report.now;
}

pub loop-happening-preserved : goal.loop-happening-preserved
loop-happening-preserved c =
    let inv = c.loop-happening.invariant in
    let first = c.args.report.now in
    let len : vec_len c.args.emitted ≡ length c.args.emitted.items = search rules in
    let turn = YieldsList-turn (YieldsList-from_vec {s = c.into_iter-happening-iterator.result} c.args.emitted.items c.into_iter-happening-iterator.ensures.into_iter_gives.0 (c.into_iter-happening-iterator.ensures.into_iter_gives.1 ∙ len)) c.loop-happening.yielded c.loop-happening.happening-iterator c.loop-happening.yielded_by c.next.result c.next.new.self c.in-Some.happening
    c.in-Some.is c.next.ensures.steps in
    record {
      emitted = tells_then first c.loop-happening.report c.process_input.new.self inv.emitted c.in_ok-reception.ensures.emitted;
      same = λ verdicts. c.in_ok-reception.ensures.same (ap (λ (r : Report). r.manner) (inv.same verdicts) ∙ verdicts) ∙ inv.same verdicts;
      reception = λ verdicts hs have.
          subst (λ n. Hearing first.active first.passive hs c.args.logs.now c.args.emitted.items n
          (record { ends = c.process_input.new.ends; is_up = c.timed-happening.new.self.is_up; bare_resets = c.timed-happening.new.self.bare_resets }))
          (sym (length_push c.loop-happening.yielded c.in-Some.happening))
          (turn_goes c.in_ok-reception.reception first.active first.passive hs c.args.logs.now c.loop-happening.logs
          (record { ends = c.process_input.new.ends; is_up = c.timed-happening.new.self.is_up; bare_resets = c.timed-happening.new.self.bare_resets })
          c.args.emitted.items (length c.loop-happening.yielded) c.in-Some.happening turn.0 turn.1 (inv.reception verdicts hs have)
          (next_of c.loop-happening.logs c.timed-happening.new.self c.process_input.new.ends c.in-Some.happening c.timed-happening.ensures.same)
          (hears_same first c.loop-happening.report _ c.timed-happening.result c.in_ok-reception.reception c.loop-happening.logs.ends c.timed-happening.new.self.ends
          c.process_input.new.ends (inv.same verdicts) c.timed-happening.ensures.timed (ap (λ (l : Logs). l.ends) c.timed-happening.ensures.same)
          (c.in_ok-reception.ensures.reception (ap (λ (r : Report). r.manner) (inv.same verdicts) ∙ verdicts)))
          c.in-Proceeds.ensures);
      logged = turn_logs c.args.pair.now c.args.logs.now c.loop-happening.logs
          (record { ends = c.process_input.new.ends; is_up = c.timed-happening.new.self.is_up; bare_resets = c.timed-happening.new.self.bare_resets })
          c.loop-happening.yielded c.in-Some.happening c.timed-happening.result c.in_ok-reception.reception first c.loop-happening.report c.process_input.new.self inv.logged
          (next_of c.loop-happening.logs c.timed-happening.new.self c.process_input.new.ends c.in-Some.happening c.timed-happening.ensures.same)
          c.timed-happening.ensures.timed c.in-Proceeds.ensures c.in_ok-reception.ensures.logged;
    }

pub returns-in-Over-clause-reception : goal.returns-in-Over-clause-reception
returns-in-Over-clause-reception c = λ verdicts hs have.
    let inv = c.loop-happening.invariant in
    let first = c.args.report.now in
    let len : vec_len c.args.emitted ≡ length c.args.emitted.items = search rules in
    let turn = YieldsList-turn (YieldsList-from_vec {s = c.into_iter-happening-iterator.result} c.args.emitted.items c.into_iter-happening-iterator.ensures.into_iter_gives.0 (c.into_iter-happening-iterator.ensures.into_iter_gives.1 ∙ len)) c.loop-happening.yielded c.loop-happening.happening-iterator c.loop-happening.yielded_by c.next.result c.next.new.self c.in-Some.happening
    c.in-Some.is c.next.ensures.steps in
    turn_stops c.in_ok-reception.reception c.in-Over.shortfall first.active first.passive hs c.args.logs.now c.loop-happening.logs
    (record { ends = c.process_input.new.ends; is_up = c.timed-happening.new.self.is_up; bare_resets = c.timed-happening.new.self.bare_resets })
    c.args.emitted.items (length c.loop-happening.yielded) c.in-Some.happening turn.0 turn.1 (inv.reception verdicts hs have)
    (next_of c.loop-happening.logs c.timed-happening.new.self c.process_input.new.ends c.in-Some.happening c.timed-happening.ensures.same)
    (hears_same first c.loop-happening.report _ c.timed-happening.result c.in_ok-reception.reception c.loop-happening.logs.ends c.timed-happening.new.self.ends
    c.process_input.new.ends (inv.same verdicts) c.timed-happening.ensures.timed (ap (λ (l : Logs). l.ends) c.timed-happening.ensures.same)
    (c.in_ok-reception.ensures.reception (ap (λ (r : Report). r.manner) (inv.same verdicts) ∙ verdicts)))
    c.in-Over.ensures

pub returns-clause-reception : goal.returns-clause-reception
returns-clause-reception c = λ verdicts hs have.
    let first = c.args.report.now in
    let len : vec_len c.args.emitted ≡ length c.args.emitted.items = search rules in
    let end = YieldsList-end (YieldsList-from_vec {s = c.into_iter-happening-iterator.result} c.args.emitted.items c.into_iter-happening-iterator.ensures.into_iter_gives.0 (c.into_iter-happening-iterator.ensures.into_iter_gives.1 ∙ len)) c.loop-happening.yielded c.loop-happening.happening-iterator c.loop-happening.yielded_by c.next.result c.next.new.self c.in-None.is
    c.next.ensures.steps in
    hearing_ends first.active first.passive hs c.args.logs.now c.loop-happening.logs c.args.emitted.items (length c.loop-happening.yielded) end.1
    (c.loop-happening.invariant.reception verdicts hs have)

pub returns-in-Over-clause-logged : goal.returns-in-Over-clause-logged
returns-in-Over-clause-logged c =
    let yielded = c.loop-happening.yielded in
    let len : vec_len c.args.emitted ≡ length c.args.emitted.items = search rules in
    let all = YieldsList-from_vec {s = c.into_iter-happening-iterator.result} c.args.emitted.items c.into_iter-happening-iterator.ensures.into_iter_gives.0
    (c.into_iter-happening-iterator.ensures.into_iter_gives.1 ∙ len) in
    let turn = YieldsList-turn all yielded c.loop-happening.happening-iterator c.loop-happening.yielded_by c.next.result c.next.new.self c.in-Some.happening
    c.in-Some.is c.next.ensures.steps in
    let front = YieldsList-so_far all yielded c.loop-happening.happening-iterator c.loop-happening.yielded_by in
    stop_logs c.args.pair.now c.args.logs.now c.loop-happening.logs
    (record { ends = c.process_input.new.ends; is_up = c.timed-happening.new.self.is_up; bare_resets = c.timed-happening.new.self.bare_resets })
    yielded _ c.args.emitted.items c.in-Some.happening c.timed-happening.result c.in_ok-reception.reception c.in-Over.shortfall c.args.report.now c.loop-happening.report
    c.process_input.new.self (taken_apart c.args.emitted.items yielded c.in-Some.happening front turn.0 turn.1) c.loop-happening.invariant.logged
    (next_of c.loop-happening.logs c.timed-happening.new.self c.process_input.new.ends c.in-Some.happening c.timed-happening.ensures.same)
    c.timed-happening.ensures.timed c.in-Over.ensures c.in_ok-reception.ensures.logged

pub returns-clause-logged : goal.returns-clause-logged
returns-clause-logged c =
    let yielded = c.loop-happening.yielded in
    let len : vec_len c.args.emitted ≡ length c.args.emitted.items = search rules in
    let all = YieldsList-from_vec {s = c.into_iter-happening-iterator.result} c.args.emitted.items c.into_iter-happening-iterator.ensures.into_iter_gives.0
    (c.into_iter-happening-iterator.ensures.into_iter_gives.1 ∙ len) in
    let front = YieldsList-so_far all yielded c.loop-happening.happening-iterator c.loop-happening.yielded_by in
    let end = YieldsList-end all yielded c.loop-happening.happening-iterator c.loop-happening.yielded_by c.next.result c.next.new.self c.in-None.is c.next.ensures.steps in
    end_logs c.args.pair.now c.args.logs.now c.loop-happening.logs yielded c.args.emitted.items c.args.report.now c.loop-happening.report
    (all_yielded c.args.emitted.items yielded front end.1) c.loop-happening.invariant.logged

pub returns-in_err-reception-clause-refuses : goal.returns-in_err-reception-clause-refuses
returns-in_err-reception-clause-refuses c =
    let p = err_from_is_err_and c.from_residual.result c.from_residual.ensures.1 in
    let yielded = c.loop-happening.yielded in
    let len : vec_len c.args.emitted ≡ length c.args.emitted.items = search rules in
    let all = YieldsList-from_vec {s = c.into_iter-happening-iterator.result} c.args.emitted.items c.into_iter-happening-iterator.ensures.into_iter_gives.0
    (c.into_iter-happening-iterator.ensures.into_iter_gives.1 ∙ len) in
    let turn = YieldsList-turn all yielded c.loop-happening.happening-iterator c.loop-happening.yielded_by c.next.result c.next.new.self c.in-Some.happening
    c.in-Some.is c.next.ensures.steps in
    let front = YieldsList-so_far all yielded c.loop-happening.happening-iterator c.loop-happening.yielded_by in
    rw (p.1, p.2)
    (hears_them_refused c.args.pair.now c.args.logs.now c.loop-happening.logs yielded _ c.args.emitted.items c.in-Some.happening c.timed-happening.result _
    c.args.report.now c.loop-happening.report c.process_input.new.self (taken_apart c.args.emitted.items yielded c.in-Some.happening front turn.0 turn.1)
    c.loop-happening.invariant.logged c.timed-happening.ensures.timed c.in_err-reception.ensures.refuses)
