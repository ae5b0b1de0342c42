use Rattle.std.proofs.Common.{◌≡◌, ◌++◌, ◌∷◌, [], List, length, map, vec_len, rules, sym, ap, subst, ◌∙◌, append_assoc}
use Rattle.std.proofs.lemmas.List.{map-append}
use Rattle.std.proofs.lemmas.Iterator.Adapters.{YieldsList-from_vec}
use Rattle.std.proofs.lemmas.Iterator.Consumers.{YieldsList-so_far, YieldsList-turn, YieldsList-end}
use Rattle.capture_tcp.specs.declared.events.TimedEvent.{TimedEvent}
use Rattle.cli_capture.specs.declared.progress.Progress.{Progress}
use Rattle.cli_capture.specs.declared.progress.Progress.TheVariants as progress
use Rattle.cli_capture.specs.InnerMidstreamLog.{HearsEach, HearsOn}
use Rattle.cli_capture.specs.MidstreamOutput.{in_capture}
use Rattle.cli_capture.proofs.Connections.{taken_apart}
use Rattle.cli_capture.proofs.Paging.{all_yielded}
use Rattle.std.proofs.lemmas.Result.{err_from_is_err_and}
use Rattle.cli_capture.proofs.Quiet.{quiet_nothing, quiet_then}
use Rattle.cli_capture.proofs.SessionRefusals.{each_refused_at}
use Rattle.cli_capture.proofs.Sessions.{each_none, each_over, each_then}
use Rattle.cli_capture.proofs.Tellings.{tells_nothing, tells_then}
use Rattle.cli_capture.proofs.midstream_connection.hear_all.Goals as goal

pub loop-happening-init : goal.loop-happening-init
loop-happening-init c = record {
  emitted = tells_nothing c.args.report.now;
  quiet = quiet_nothing c.args.joined.now.is_up c.args.report.now;
  processes_input = each_none c.args.pair.now c.args.joined.now c.args.report.now;
}

pub loop-happening-preserved : goal.loop-happening-preserved
loop-happening-preserved c =
    let at = in_capture c.args.bare_resets.now in
    let pair = c.args.pair.now in
    let yielded = c.loop-happening.yielded in
    let h = c.in-Some.happening in
    let one : HearsOn pair (at h) c.loop-happening.joined c.loop-happening.report progress.Proceeds c.process_input.new.self c.process_input.new.report =
    subst (λ (x : TimedEvent). HearsOn pair x c.loop-happening.joined c.loop-happening.report progress.Proceeds c.process_input.new.self c.process_input.new.report) c.in_capture-happening.ensures
    (subst (λ (x : Progress). HearsOn pair c.in_capture-happening.result c.loop-happening.joined c.loop-happening.report x c.process_input.new.self c.process_input.new.report) c.in-Proceeds.is
    c.in_ok-process_input.ensures.processes_input) in
    record {
      emitted = tells_then c.args.report.now c.loop-happening.report c.process_input.new.report c.loop-happening.invariant.emitted c.in_ok-process_input.ensures.emitted;
      quiet = quiet_then c.args.joined.now.is_up c.loop-happening.joined.is_up c.process_input.new.self.is_up c.args.report.now c.loop-happening.report c.process_input.new.report
          c.loop-happening.invariant.quiet c.in_ok-process_input.ensures.quiet;
      processes_input = subst (λ (hs : List TimedEvent). HearsEach pair hs c.args.joined.now c.args.report.now progress.Proceeds c.process_input.new.self c.process_input.new.report)
          (sym (map-append at yielded (h ∷ [])))
          (each_then pair progress.Proceeds (map at yielded) (at h) c.args.joined.now c.loop-happening.joined c.process_input.new.self c.args.report.now c.loop-happening.report
          c.process_input.new.report c.loop-happening.invariant.processes_input one);
    }

pub returns-in-Over-clause-processes_input : goal.returns-in-Over-clause-processes_input
returns-in-Over-clause-processes_input c =
    let at = in_capture c.args.bare_resets.now in
    let pair = c.args.pair.now in
    let lack = c.in-Over.shortfall in
    let yielded = c.loop-happening.yielded in
    let h = c.in-Some.happening in
    let all = c.args.emitted.items in
    let len : vec_len c.args.emitted ≡ length all = search rules in
    let from = YieldsList-from_vec {s = c.into_iter-happening-iterator.result} all c.into_iter-happening-iterator.ensures.into_iter_gives.0
    (c.into_iter-happening-iterator.ensures.into_iter_gives.1 ∙ len) in
    let turn = YieldsList-turn from yielded c.loop-happening.happening-iterator c.loop-happening.yielded_by c.next.result c.next.new.self h c.in-Some.is c.next.ensures.steps in
    let front = YieldsList-so_far from yielded c.loop-happening.happening-iterator c.loop-happening.yielded_by in
    let apart = taken_apart all yielded h front turn.0 turn.1 in
    let one : HearsOn pair (at h) c.loop-happening.joined c.loop-happening.report (progress.Over lack) c.process_input.new.self c.process_input.new.report =
    subst (λ (x : TimedEvent). HearsOn pair x c.loop-happening.joined c.loop-happening.report (progress.Over lack) c.process_input.new.self c.process_input.new.report) c.in_capture-happening.ensures
    (subst (λ (x : Progress). HearsOn pair c.in_capture-happening.result c.loop-happening.joined c.loop-happening.report x c.process_input.new.self c.process_input.new.report) c.in-Over.is
    c.in_ok-process_input.ensures.processes_input) in
    subst (λ (hs : List TimedEvent). HearsEach pair hs c.args.joined.now c.args.report.now (progress.Over lack) c.process_input.new.self c.process_input.new.report)
    (append_assoc (map at yielded) (at h ∷ []) _ ∙ sym (map-append at yielded (h ∷ _)) ∙ ap (map at) (sym apart))
    (each_over pair lack (map at yielded ++ at h ∷ []) _ c.args.joined.now c.process_input.new.self c.args.report.now c.process_input.new.report
    (each_then pair (progress.Over lack) (map at yielded) (at h) c.args.joined.now c.loop-happening.joined c.process_input.new.self c.args.report.now c.loop-happening.report
    c.process_input.new.report c.loop-happening.invariant.processes_input one))

pub returns-clause-processes_input : goal.returns-clause-processes_input
returns-clause-processes_input c =
    let at = in_capture c.args.bare_resets.now in
    let yielded = c.loop-happening.yielded in
    let all = c.args.emitted.items in
    let len : vec_len c.args.emitted ≡ length all = search rules in
    let from = YieldsList-from_vec {s = c.into_iter-happening-iterator.result} all c.into_iter-happening-iterator.ensures.into_iter_gives.0
    (c.into_iter-happening-iterator.ensures.into_iter_gives.1 ∙ len) in
    let front = YieldsList-so_far from yielded c.loop-happening.happening-iterator c.loop-happening.yielded_by in
    let end = YieldsList-end from yielded c.loop-happening.happening-iterator c.loop-happening.yielded_by c.next.result c.next.new.self c.in-None.is c.next.ensures.steps in
    subst (λ (hs : List TimedEvent). HearsEach c.args.pair.now (map at hs) c.args.joined.now c.args.report.now progress.Proceeds c.loop-happening.joined c.loop-happening.report)
    (all_yielded all yielded front end.1) c.loop-happening.invariant.processes_input

pub returns-in_err-process_input-clause-refuses : goal.returns-in_err-process_input-clause-refuses
returns-in_err-process_input-clause-refuses c =
    let p = err_from_is_err_and c.from_residual.result c.from_residual.ensures.1 in
    let at = in_capture c.args.bare_resets.now in
    let pair = c.args.pair.now in
    let yielded = c.loop-happening.yielded in
    let h = c.in-Some.happening in
    let all = c.args.emitted.items in
    let len : vec_len c.args.emitted ≡ length all = search rules in
    let from = YieldsList-from_vec {s = c.into_iter-happening-iterator.result} all c.into_iter-happening-iterator.ensures.into_iter_gives.0
    (c.into_iter-happening-iterator.ensures.into_iter_gives.1 ∙ len) in
    let turn = YieldsList-turn from yielded c.loop-happening.happening-iterator c.loop-happening.yielded_by c.next.result c.next.new.self h c.in-Some.is c.next.ensures.steps in
    let front = YieldsList-so_far from yielded c.loop-happening.happening-iterator c.loop-happening.yielded_by in
    let apart = taken_apart all yielded h front turn.0 turn.1 in
    rw (p.1, p.2)
    (each_refused_at at pair all yielded _ h c.in_capture-happening.result c.args.joined.now c.loop-happening.joined _ c.args.report.now c.loop-happening.report c.process_input.new.report
    apart c.in_capture-happening.ensures c.loop-happening.invariant.emitted c.loop-happening.invariant.quiet c.loop-happening.invariant.processes_input c.in_err-process_input.ensures.refuses)
