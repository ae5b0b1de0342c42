use Rattle.std.proofs.Common.{sym, ◌∙◌}
use Rattle.hsms_frame.specs.Io.{SinkState}
use Rattle.hsms_endpoint.specs.Turn.{tick as ticks}
use Rattle.hsms_ends.specs.InnerServeSteps.{called}
use Rattle.hsms_ends.proofs.Readiness.{ready_handed}
use Rattle.hsms_ends.proofs.TurnSteps.{followed_gone, followed_cut, followed}
use Rattle.hsms_ends.proofs.turns.process_input.Goals as goal

pub hand-requires : goal.hand-requires
hand-requires g c =
    let link_state = g.L.Link.link_state in
    let log : SinkState = g.W.Sink.state c.args.log.now in
    ready_handed g.D.TurnDesk.answers_after c.args.end.now c.tick.new.end (ticks c.in-Ok.ensures.0) log (g.W.Sink.state c.tick.new.log) (link_state c.args.link.now) (link_state c.tick.new.link) _ c.args.count.now c.tick.new.count c.requires c.in-Ok.ensures.1

pub returns-then-has_gone : goal.returns-then-has_gone
returns-then-has_gone g c =
    let link_state = g.L.Link.link_state in
    let log : SinkState = g.W.Sink.state c.args.log.now in
    followed_gone g.D.TurnDesk.answers_after c.in-Ok.ensures.0 c.args.end.now (called c.args.call) c.tick.new.end log (g.W.Sink.state c.tick.new.log) (link_state c.args.link.now) (link_state c.tick.new.link) c.args.count.now c.tick.new.count
    c.in-Ok.ensures.1 (sym c.has_gone.ensures ∙ c.if-has_gone.true)

pub returns-else-has_gone : goal.returns-else-has_gone
returns-else-has_gone g c =
    let link_state = g.L.Link.link_state in
    let log : SinkState = g.W.Sink.state c.args.log.now in
    let mid : SinkState = g.W.Sink.state c.tick.new.log in
    let log' : SinkState = g.W.Sink.state c.hand.new.log in
    followed g.D.TurnDesk.answers_after c.hand.result c.in-Ok.ensures.0 c.args.end.now (called c.args.call) c.tick.new.end c.hand.new.end log mid log' (link_state c.args.link.now) (link_state c.tick.new.link) (link_state c.hand.new.link) c.args.count.now c.tick.new.count c.hand.new.count
    c.in-Ok.ensures.1 (sym c.has_gone.ensures ∙ c.if-has_gone.false) c.hand.ensures

pub returns-in-Err : goal.returns-in-Err
returns-in-Err g c =
    let link_state = g.L.Link.link_state in
    let log : SinkState = g.W.Sink.state c.args.log.now in
    followed_cut g.D.TurnDesk.answers_after c.in-Err.stop c.in-Err.ensures.0 c.args.end.now (called c.args.call) c.tick.new.end log (g.W.Sink.state c.tick.new.log) (link_state c.args.link.now) (link_state c.tick.new.link) c.args.count.now c.tick.new.count
    c.in-Err.ensures.1
