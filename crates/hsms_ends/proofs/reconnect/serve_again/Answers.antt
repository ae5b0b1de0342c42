use Rattle.std.proofs.Common.{◌≡◌, Ok, Err, ap, subst, sym, arith}
use Rattle.std.specs.Prelude.{Result}
use Rattle.hsms_frame.specs.Io.{SinkState}
use Rattle.hsms_machine.specs.Settings.{Parameters}
use Rattle.hsms_ends.specs.declared.reconnect.ServedAgain.{ServedAgain}
use Rattle.hsms_ends.specs.declared.fault.ServeFault.{ServeFault}
use Rattle.hsms_ends.specs.declared.fault.ServeFault.TheVariants as serve
use Rattle.hsms_endpoint.specs.EndState.{EndOf}
use Rattle.hsms_ends.specs.Reconnect.{ServesAgain}
use Rattle.hsms_ends.specs.InnerReconnectSteps.{NextServed}
use Rattle.hsms_ends.specs.InnerServeSteps.{IsReady}
use Rattle.hsms_ends.proofs.Readiness.{ready_new}
use Rattle.hsms_ends.proofs.Reconnections.{none_so_far, one_more, stopped_by, all_done, gone_over, opened_again, unopened_again}
use Rattle.hsms_ends.proofs.reconnect.serve_again.Goals as goal

pub serve_next-answer-requires : goal.serve_next-answer-requires
serve_next-answer-requires g c =
    let P : EndOf g.row.D.Denot → Type 0 = λ e. IsReady e in
    subst P (sym c.since-end.ensures) (ready_new c.args.desk c.several-several.result c.args.options.now.first.first_system c.loop-done.since c.write_settings.ensures.encoded_bytes.within)

pub loop-done-init : goal.loop-done-init
loop-done-init g c =
    let log : SinkState = g.W.Sink.state c.write_settings.new.sink in (
      omega arith,
      none_so_far g.D.TurnDesk.answers_after c.args.options.now.first.linktest c.args.desk c.several-several.result c.args.options.now.first.first_system c.args.options.now.first.turns c.args.options.now.first.script.now c.args.options.now.later_script.now log (g.L.Link.link_state c.args.link.now),
    )

pub loop-done-preserved : goal.loop-done-preserved
loop-done-preserved g c =
    let link_state = g.L.Link.link_state in
    let log : SinkState = g.W.Sink.state c.write_settings.new.sink in
    let mid : SinkState = g.W.Sink.state c.loop-done.log in
    let log' : SinkState = g.W.Sink.state c.serve_next-answer.new.log in
    let link = link_state c.args.link.now in
    let s : Parameters = c.several-several.result in
    let two : s.version ≡ 2 = ap (λ (p : Parameters). p.version) c.several-several.ensures in
    let N : EndOf g.row.D.Denot → Type 0 = λ e. NextServed g.D.TurnDesk.answers_after c.args.options.now.first.linktest e c.serve_next-answer.new.end c.steps_of-script.result.now c.args.options.now.first.turns (Ok c.in-Ok-answer.is_complete) mid log' (link_state c.again.new.self) (link_state c.serve_next-answer.new.link) in
    let far = gone_over g.D.TurnDesk.answers_after c.args.options.now.first.linktest c.args.desk s c.args.options.now.first.first_system c.args.options.now.first.turns c.args.options.now.first.script.now c.args.options.now.later_script.now c.loop-done.since c.loop-done.done c.loop-done.complete log mid link (link_state c.loop-done.link) (link_state c.again.new.self) c.again.ensures c.loop-done.invariant.1 in (
      omega (arith, c.loop-done-test.true),
      (one_more g.D.TurnDesk.answers_after c.args.options.now.first.linktest c.args.desk s c.args.options.now.first.first_system c.args.options.now.first.turns two c.write_settings.ensures.encoded_bytes.within c.args.options.now.first.script.now c.args.options.now.later_script.now c.loop-done.since c.loop-done.done c.loop-done.complete c.serve_next-answer.new.end c.last_time-moment.result c.in-Ok-answer.is_complete log mid log'
          link (link_state c.again.new.self) (link_state c.serve_next-answer.new.link) c.steps_of-script.result.now c.steps_of-script.ensures far c.last_time-moment.ensures (subst N c.since-end.ensures c.in-Ok-answer.ensures)),
    )

pub returns-in-Err : goal.returns-in-Err
returns-in-Err g c =
    let link_state = g.L.Link.link_state in
    let log : SinkState = g.W.Sink.state c.args.log.now in
    let log' : SinkState = g.W.Sink.state c.write_settings.new.sink in
    let s : Parameters = c.several-several.result in
    let P : Parameters → Type 0 = λ p. ServesAgain g.D.TurnDesk.answers_after c.args.options.now.first.linktest c.args.desk p c.args.options.now.first.first_system c.args.options.now.first.script.now c.args.options.now.later_script.now c.args.options.now.first.turns c.args.options.now.connections (Err serve.Log) log log' (link_state c.args.link.now) (link_state c.args.link.now) in
    subst P c.several-several.ensures
    (unopened_again g.D.TurnDesk.answers_after c.args.options.now.first.linktest c.args.desk s c.args.options.now.first.first_system c.args.options.now.first.turns c.args.options.now.first.script.now c.args.options.now.later_script.now c.args.options.now.connections log log' (link_state c.args.link.now)
    c.write_settings.ensures.encoded_bytes.within (c.in-Err.ensures.written, c.in-Err.ensures.failures))

pub returns-in-Err-answer : goal.returns-in-Err-answer
returns-in-Err-answer g c =
    let link_state = g.L.Link.link_state in
    let log : SinkState = g.W.Sink.state c.args.log.now in
    let opened : SinkState = g.W.Sink.state c.write_settings.new.sink in
    let mid : SinkState = g.W.Sink.state c.loop-done.log in
    let log' : SinkState = g.W.Sink.state c.serve_next-answer.new.log in
    let link = link_state c.args.link.now in
    let s : Parameters = c.several-several.result in
    let two : s.version ≡ 2 = ap (λ (p : Parameters). p.version) c.several-several.ensures in
    let P : Parameters → Type 0 = λ p. ServesAgain g.D.TurnDesk.answers_after c.args.options.now.first.linktest c.args.desk p c.args.options.now.first.first_system c.args.options.now.first.script.now c.args.options.now.later_script.now c.args.options.now.first.turns c.args.options.now.connections (Err c.in-Err-answer.fault) log log' link (link_state c.serve_next-answer.new.link) in
    let N : EndOf g.row.D.Denot → Type 0 = λ e. NextServed g.D.TurnDesk.answers_after c.args.options.now.first.linktest e c.serve_next-answer.new.end c.steps_of-script.result.now c.args.options.now.first.turns (Err c.in-Err-answer.fault) mid log' (link_state c.again.new.self) (link_state c.serve_next-answer.new.link) in
    let far = gone_over g.D.TurnDesk.answers_after c.args.options.now.first.linktest c.args.desk s c.args.options.now.first.first_system c.args.options.now.first.turns c.args.options.now.first.script.now c.args.options.now.later_script.now c.loop-done.since c.loop-done.done c.loop-done.complete opened mid link (link_state c.loop-done.link) (link_state c.again.new.self) c.again.ensures c.loop-done.invariant.1 in
    subst P c.several-several.ensures
    (opened_again g.D.TurnDesk.answers_after c.args.options.now.first.linktest c.args.desk s c.args.options.now.first.first_system c.args.options.now.first.turns c.args.options.now.first.script.now c.args.options.now.later_script.now c.args.options.now.connections (Err c.in-Err-answer.fault) log opened log' link (link_state c.serve_next-answer.new.link)
    (c.in-Ok.ensures.written, c.in-Ok.ensures.failures)
    (stopped_by g.D.TurnDesk.answers_after c.args.options.now.first.linktest c.args.desk s c.args.options.now.first.first_system c.args.options.now.first.turns two c.write_settings.ensures.encoded_bytes.within c.args.options.now.first.script.now c.args.options.now.later_script.now c.in-Err-answer.fault c.serve_next-answer.new.end c.args.options.now.connections c.loop-done.since c.loop-done.done c.loop-done.complete opened mid log'
    link (link_state c.again.new.self) (link_state c.serve_next-answer.new.link) c.steps_of-script.result.now c.loop-done-test.true c.steps_of-script.ensures far (subst N c.since-end.ensures c.in-Err-answer.ensures)))

pub returns-else-again : goal.returns-else-again
returns-else-again g c =
    let link_state = g.L.Link.link_state in
    let log : SinkState = g.W.Sink.state c.args.log.now in
    let opened : SinkState = g.W.Sink.state c.write_settings.new.sink in
    let mid : SinkState = g.W.Sink.state c.loop-done.log in
    let link = link_state c.args.link.now in
    let s : Parameters = c.several-several.result in
    let result : Result ServedAgain ServeFault = Ok (record { connections = c.loop-done.done; complete = c.loop-done.complete }) in
    let two : s.version ≡ 2 = ap (λ (p : Parameters). p.version) c.several-several.ensures in
    let far = gone_over g.D.TurnDesk.answers_after c.args.options.now.first.linktest c.args.desk s c.args.options.now.first.first_system c.args.options.now.first.turns c.args.options.now.first.script.now c.args.options.now.later_script.now c.loop-done.since c.loop-done.done c.loop-done.complete opened mid link (link_state c.loop-done.link) (link_state c.again.new.self) c.again.ensures c.loop-done.invariant.1 in
    let done = all_done g.D.TurnDesk.answers_after c.args.options.now.first.linktest c.args.desk s c.args.options.now.first.first_system c.args.options.now.first.turns two c.write_settings.ensures.encoded_bytes.within c.args.options.now.first.script.now c.args.options.now.later_script.now c.args.options.now.connections c.loop-done.since c.loop-done.done c.loop-done.complete opened mid link (link_state c.again.new.self) c.loop-done.invariant.0 far in
    let P : Parameters → Type 0 = λ p. ServesAgain g.D.TurnDesk.answers_after c.args.options.now.first.linktest c.args.desk p c.args.options.now.first.first_system c.args.options.now.first.script.now c.args.options.now.later_script.now c.args.options.now.first.turns c.args.options.now.connections result log mid link (link_state c.again.new.self) in
    subst P c.several-several.ensures
    (opened_again g.D.TurnDesk.answers_after c.args.options.now.first.linktest c.args.desk s c.args.options.now.first.first_system c.args.options.now.first.turns c.args.options.now.first.script.now c.args.options.now.later_script.now c.args.options.now.connections result log opened mid link (link_state c.again.new.self)
    (c.in-Ok.ensures.written, c.in-Ok.ensures.failures) done)

pub returns-after-loop-done : goal.returns-after-loop-done
returns-after-loop-done g c =
    let link_state = g.L.Link.link_state in
    let log : SinkState = g.W.Sink.state c.args.log.now in
    let opened : SinkState = g.W.Sink.state c.write_settings.new.sink in
    let mid : SinkState = g.W.Sink.state c.loop-done.log in
    let link = link_state c.args.link.now in
    let s : Parameters = c.several-several.result in
    let result : Result ServedAgain ServeFault = Ok (record { connections = c.loop-done.done; complete = c.loop-done.complete }) in
    let two : s.version ≡ 2 = ap (λ (p : Parameters). p.version) c.several-several.ensures in
    let done = all_done g.D.TurnDesk.answers_after c.args.options.now.first.linktest c.args.desk s c.args.options.now.first.first_system c.args.options.now.first.turns two c.write_settings.ensures.encoded_bytes.within c.args.options.now.first.script.now c.args.options.now.later_script.now c.args.options.now.connections c.loop-done.since c.loop-done.done c.loop-done.complete opened mid link (link_state c.loop-done.link) c.loop-done.invariant.0 c.loop-done.invariant.1 in
    let P : Parameters → Type 0 = λ p. ServesAgain g.D.TurnDesk.answers_after c.args.options.now.first.linktest c.args.desk p c.args.options.now.first.first_system c.args.options.now.first.script.now c.args.options.now.later_script.now c.args.options.now.first.turns c.args.options.now.connections result log mid link (link_state c.loop-done.link) in
    subst P c.several-several.ensures
    (opened_again g.D.TurnDesk.answers_after c.args.options.now.first.linktest c.args.desk s c.args.options.now.first.first_system c.args.options.now.first.turns c.args.options.now.first.script.now c.args.options.now.later_script.now c.args.options.now.connections result log opened mid link (link_state c.loop-done.link)
    (c.in-Ok.ensures.written, c.in-Ok.ensures.failures) done)
