use Rattle.std.proofs.Common.{◌≡◌, ◌++◌, ◌∷◌, [], length, vec_len, rules, refl, sym, subst, ◌∙◌, append_assoc}
use Rattle.std.proofs.lemmas.Iterator.Adapters.{YieldsList-from_vec}
use Rattle.std.proofs.lemmas.Iterator.Consumers.{YieldsList-so_far, YieldsList-turn}
use Rattle.std.proofs.lemmas.Result.{err_from_is_err_and}
use Rattle.cli_capture.specs.declared.progress.Progress.{Progress}
use Rattle.cli_capture.specs.declared.progress.Progress.TheVariants as progress
use Rattle.capture_tcp.specs.declared.events.TimedEvent.{TimedEvent}
use Rattle.std.proofs.Common.{List}
use Rattle.cli_capture.specs.InnerMidstreamLog.{TellsThem}
use Rattle.cli_capture.proofs.Connections.{taken_apart}
use Rattle.cli_capture.proofs.Quiet.{quiet_nothing, quiet_then}
use Rattle.cli_capture.proofs.SessionRefusals.{tell_all_refused}
use Rattle.cli_capture.proofs.Sessions.{them_over, them_then, emits_none}
use Rattle.cli_capture.proofs.Tellings.{tells_nothing, tells_then}
use Rattle.cli_capture.proofs.midstream_log.Joined.submit_all.Goals as goal

pub loop-happening-init : goal.loop-happening-init
loop-happening-init c = record {
  emitted = tells_nothing c.args.report.now;
  quiet = quiet_nothing c.args.self.now.is_up c.args.report.now;
  emits = emits_none c.args.pair.now c.args.self.now c.args.report.now;
  same = refl;
}

pub loop-happening-preserved : goal.loop-happening-preserved
loop-happening-preserved c =
    let inv = c.loop-happening.invariant in
    let one = c.in_ok-submit.ensures in
    record {
      emitted = tells_then c.args.report.now c.loop-happening.report c.submit.new.report inv.emitted one.emitted;
      quiet = quiet_then c.args.self.now.is_up c.loop-happening.self.is_up c.submit.new.self.is_up c.args.report.now c.loop-happening.report c.submit.new.report inv.quiet
          one.quiet;
      emits = them_then c.args.pair.now progress.Proceeds c.loop-happening.yielded (c.in-Some.happening ∷ []) c.args.self.now c.loop-happening.self c.submit.new.self
          c.args.report.now c.loop-happening.report c.submit.new.report inv.emits
          (subst (λ (x : Progress). TellsThem c.args.pair.now (c.in-Some.happening ∷ []) c.loop-happening.self c.loop-happening.report x c.submit.new.self
          c.submit.new.report) c.in-Proceeds.is one.emits);
      same = one.same ∙ inv.same;
    }

pub returns-in-Over-clause-emits : goal.returns-in-Over-clause-emits
returns-in-Over-clause-emits c =
    let yielded = c.loop-happening.yielded in
    let h = c.in-Some.happening in
    let all = c.args.waiting.items in
    let len : vec_len c.args.waiting ≡ length all = search rules in
    let from = YieldsList-from_vec {s = c.into_iter-happening-iterator.result} all c.into_iter-happening-iterator.ensures.into_iter_gives.0
    (c.into_iter-happening-iterator.ensures.into_iter_gives.1 ∙ len) in
    let turn = YieldsList-turn from yielded c.loop-happening.happening-iterator c.loop-happening.yielded_by c.next.result c.next.new.self h c.in-Some.is c.next.ensures.steps in
    let front = YieldsList-so_far from yielded c.loop-happening.happening-iterator c.loop-happening.yielded_by in
    let apart = taken_apart all yielded h front turn.0 turn.1 in
    let one = subst (λ (x : Progress). TellsThem c.args.pair.now (h ∷ []) c.loop-happening.self c.loop-happening.report x c.submit.new.self c.submit.new.report)
    c.in-Over.is c.in_ok-submit.ensures.emits in
    subst (λ (hs : List TimedEvent). TellsThem c.args.pair.now hs c.args.self.now c.args.report.now (progress.Over c.in-Over.shortfall) c.submit.new.self c.submit.new.report)
    (append_assoc yielded (h ∷ []) _ ∙ sym apart)
    (them_over c.args.pair.now c.in-Over.shortfall (yielded ++ h ∷ []) _ c.args.self.now c.submit.new.self c.args.report.now c.submit.new.report
    (them_then c.args.pair.now (progress.Over c.in-Over.shortfall) yielded (h ∷ []) c.args.self.now c.loop-happening.self c.submit.new.self c.args.report.now
    c.loop-happening.report c.submit.new.report c.loop-happening.invariant.emits one))

pub returns-in_err-submit-clause-refuses : goal.returns-in_err-submit-clause-refuses
returns-in_err-submit-clause-refuses c =
    let p = err_from_is_err_and c.from_residual.result c.from_residual.ensures.1 in
    let inv = c.loop-happening.invariant in
    let yielded = c.loop-happening.yielded in
    let h = c.in-Some.happening in
    let all = c.args.waiting.items in
    let len : vec_len c.args.waiting ≡ length all = search rules in
    let from = YieldsList-from_vec {s = c.into_iter-happening-iterator.result} all c.into_iter-happening-iterator.ensures.into_iter_gives.0
    (c.into_iter-happening-iterator.ensures.into_iter_gives.1 ∙ len) in
    let turn = YieldsList-turn from yielded c.loop-happening.happening-iterator c.loop-happening.yielded_by c.next.result c.next.new.self h c.in-Some.is c.next.ensures.steps in
    let front = YieldsList-so_far from yielded c.loop-happening.happening-iterator c.loop-happening.yielded_by in
    rw (p.1, p.2)
    (tell_all_refused c.args.pair.now all yielded _ h c.args.self.now c.loop-happening.self _ c.args.report.now c.loop-happening.report c.submit.new.report
    (taken_apart all yielded h front turn.0 turn.1) inv.emitted inv.quiet inv.emits c.in_err-submit.ensures.refuses)
