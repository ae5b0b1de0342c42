use Rattle.std.proofs.Common.{◌≡◌, ◌&&◌, Bool, false, List, is_none, map, ap, rules, subst, sym, ◌∙◌}
use Rattle.std.specs.Prelude.{OnOk}
use Rattle.capture_tcp.specs.declared.ending.Ending.{Ending}
use Rattle.capture_tcp.specs.declared.events.TimedEvent.{TimedEvent}
use Rattle.capture_tcp.specs.ReaderInvariant.{EndsAs}
use Rattle.cli_capture.specs.declared.progress.Progress.{Progress}
use Rattle.cli_capture.specs.Progress.{lack_behind}
use Rattle.cli_capture.specs.InnerMidstreamLog.{HearsEach}
use Rattle.cli_capture.specs.InnerMidstreamConnection.{EndsWithin}
use Rattle.cli_capture.specs.MidstreamOutput.{in_capture}
use Rattle.std.proofs.lemmas.Result.{err_from_is_err_and}
use Rattle.cli_capture.proofs.PacketRefusals.{end_heard_refused, end_left_refused, end_over_refused, replaced_left}
use Rattle.cli_capture.proofs.Unrefused.{err_map}
use Rattle.cli_capture.proofs.SessionPackets.{left_finished, left_over, left_replaced, not_replaced}
use Rattle.cli_capture.proofs.Taking.{ok_of}
use Rattle.cli_capture.proofs.midstream_connection.Within.end.Goals.{else-is_replaced-via-then-is_replaced+else-is_none, else-is_replaced-via-else-is_replaced}
use Rattle.cli_capture.proofs.midstream_connection.Within.end.Goals as goal

pub returns-in-Over-clause-ends : goal.returns-in-Over-clause-ends
returns-in-Over-clause-ends c =
    let w = c.args.self in
    let emitted = c.end.new.emitted.items in
    let joined = c.hear_all.new.joined in
    let ends = subst (λ (hs : List TimedEvent). EndsAs w.connection hs emitted c.in-Ok.ending) c.new-emitted.ensures.items c.in-Ok.ensures.emitted in
    let processes_input = subst (λ (x : Progress). HearsEach c.args.pair.now (map (in_capture c.deref.result.now) emitted) w.joined c.args.report.now x joined c.hear_all.new.report) c.in-Over.is
    c.in_ok-progress.ensures.processes_input in
    ok_of c.finish.result (left_over c.args.pair.now c.args.is_replaced c.args.missing emitted w c.deref.result.now c.in-Over.shortfall c.in-Ok.ending joined c.args.report.now
    c.hear_all.new.report c.finish.new.report ends processes_input)

pub returns-then-is_none-clause-ends : goal.returns-then-is_none-clause-ends
returns-then-is_none-clause-ends c =
    let w = c.args.self in
    let emitted = c.end.new.emitted.items in
    let joined = c.hear_all.new.joined in
    let lack = c.lack_behind-shortfall.result in
    let ends = subst (λ (hs : List TimedEvent). EndsAs w.connection hs emitted c.in-Ok.ending) c.new-emitted.ensures.items c.in-Ok.ensures.emitted in
    let processes_input = subst (λ (x : Progress). HearsEach c.args.pair.now (map (in_capture c.deref.result.now) emitted) w.joined c.args.report.now x joined c.hear_all.new.report) c.in-Proceeds.is
    c.in_ok-progress.ensures.processes_input in
    subst (λ (b : Bool). OnOk c.replace.result (EndsWithin c.args.pair.now b c.args.missing w c.args.report.now c.replace.new.report)) (sym c.if-is_replaced.true)
    (left_replaced c.replace.result c.args.pair.now c.args.missing lack emitted w c.deref.result.now c.in-Ok.ending joined c.args.report.now c.hear_all.new.report c.replace.new.report ends processes_input
    (c.lack_behind-shortfall.ensures ∙ ap (λ (e : Ending). lack_behind e c.args.missing) c.ending_in.ensures) (search rules) c.replace.ensures.replaced)

pub returns-clause-ends : goal.returns-clause-ends
returns-clause-ends c =
    let w = c.args.self in
    let emitted = c.end.new.emitted.items in
    let joined = c.hear_all.new.joined in
    let lack = c.lack_behind-shortfall.result in
    let ends = subst (λ (hs : List TimedEvent). EndsAs w.connection hs emitted c.in-Ok.ending) c.new-emitted.ensures.items c.in-Ok.ensures.emitted in
    let processes_input = subst (λ (x : Progress). HearsEach c.args.pair.now (map (in_capture c.deref.result.now) emitted) w.joined c.args.report.now x joined c.hear_all.new.report) c.in-Proceeds.is
    c.in_ok-progress.ensures.processes_input in
    let none : (c.args.is_replaced && is_none lack) ≡ false =
    elim c.else-is_replaced.branch [
      | else-is_replaced-via-then-is_replaced+else-is_none w ↦ not_replaced c.args.is_replaced (is_none lack) (search rules)
      | else-is_replaced-via-else-is_replaced w ↦ ap (λ (b : Bool). b && is_none lack) w.if-is_replaced.false
    ] in
    left_finished c.finish-2.result c.args.pair.now c.args.is_replaced c.args.missing lack emitted w c.deref.result.now c.in-Ok.ending joined c.args.report.now c.hear_all.new.report
    c.finish-2.new.report ends processes_input (c.lack_behind-shortfall.ensures ∙ ap (λ (e : Ending). lack_behind e c.args.missing) c.ending_in.ensures) none c.finish-2.ensures.finishes

pub returns-in_err-progress-clause-refuses : goal.returns-in_err-progress-clause-refuses
returns-in_err-progress-clause-refuses c =
    let p = err_from_is_err_and c.from_residual.result c.from_residual.ensures.1 in
    let w = c.args.self in
    let emitted = c.end.new.emitted.items in
    rw (p.1, p.2)
    (end_heard_refused c.args.pair.now c.args.missing emitted w c.deref.result.now c.in-Ok.ending _ c.args.report.now c.hear_all.new.report
    (subst (λ (hs : List TimedEvent). EndsAs w.connection hs emitted c.in-Ok.ending) c.new-emitted.ensures.items c.in-Ok.ensures.emitted) c.in_err-progress.ensures.refuses)

pub returns-in-Over-clause-refuses : goal.returns-in-Over-clause-refuses
returns-in-Over-clause-refuses c =
    let w = c.args.self in
    let emitted = c.end.new.emitted.items in
    let joined = c.hear_all.new.joined in
    let ends = subst (λ (hs : List TimedEvent). EndsAs w.connection hs emitted c.in-Ok.ending) c.new-emitted.ensures.items c.in-Ok.ensures.emitted in
    let processes_input = subst (λ (x : Progress). HearsEach c.args.pair.now (map (in_capture c.deref.result.now) emitted) w.joined c.args.report.now x joined c.hear_all.new.report) c.in-Over.is
    c.in_ok-progress.ensures.processes_input in
    err_map c.finish.result
    (λ st refused. end_over_refused c.args.pair.now c.args.missing c.in-Over.shortfall emitted w c.deref.result.now c.in-Ok.ending joined st c.args.report.now c.hear_all.new.report
    c.finish.new.report ends processes_input) c.finish.ensures.refuses

pub returns-then-is_none-clause-refuses : goal.returns-then-is_none-clause-refuses
returns-then-is_none-clause-refuses c =
    let w = c.args.self in
    let emitted = c.end.new.emitted.items in
    let joined = c.hear_all.new.joined in
    let lack = c.lack_behind-shortfall.result in
    let ends = subst (λ (hs : List TimedEvent). EndsAs w.connection hs emitted c.in-Ok.ending) c.new-emitted.ensures.items c.in-Ok.ensures.emitted in
    let processes_input = subst (λ (x : Progress). HearsEach c.args.pair.now (map (in_capture c.deref.result.now) emitted) w.joined c.args.report.now x joined c.hear_all.new.report) c.in-Proceeds.is
    c.in_ok-progress.ensures.processes_input in
    let lack_is = c.lack_behind-shortfall.ensures ∙ ap (λ (e : Ending). lack_behind e c.args.missing) c.ending_in.ensures in
    err_map c.replace.result
    (λ st refused. end_left_refused c.args.pair.now c.args.missing lack emitted w c.deref.result.now c.in-Ok.ending joined st c.args.report.now c.hear_all.new.report c.replace.new.report
    ends processes_input lack_is c.in_ok-progress.ensures.emitted
    (replaced_left c.args.pair.now lack joined st c.hear_all.new.report c.replace.new.report refused)) c.replace.ensures.refuses

pub returns-clause-refuses : goal.returns-clause-refuses
returns-clause-refuses c =
    let w = c.args.self in
    let emitted = c.end.new.emitted.items in
    let joined = c.hear_all.new.joined in
    let lack = c.lack_behind-shortfall.result in
    let ends = subst (λ (hs : List TimedEvent). EndsAs w.connection hs emitted c.in-Ok.ending) c.new-emitted.ensures.items c.in-Ok.ensures.emitted in
    let processes_input = subst (λ (x : Progress). HearsEach c.args.pair.now (map (in_capture c.deref.result.now) emitted) w.joined c.args.report.now x joined c.hear_all.new.report) c.in-Proceeds.is
    c.in_ok-progress.ensures.processes_input in
    let lack_is = c.lack_behind-shortfall.ensures ∙ ap (λ (e : Ending). lack_behind e c.args.missing) c.ending_in.ensures in
    err_map c.finish-2.result
    (λ st refused. end_left_refused c.args.pair.now c.args.missing lack emitted w c.deref.result.now c.in-Ok.ending joined st c.args.report.now c.hear_all.new.report c.finish-2.new.report
    ends processes_input lack_is c.in_ok-progress.ensures.emitted refused.ends) c.finish-2.ensures.refuses
