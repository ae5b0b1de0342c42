use Rattle.hsms_frame.specs.Io.{SinkState}
use Rattle.hsms_endpoint.specs.Turn.{tick as ticks}
use Rattle.hsms_ends.proofs.TurnSteps.{handed_asked}
use Rattle.hsms_ends.proofs.turns.tick.Goals as goal

pub returns : goal.returns
returns g c =
    let link_state = g.L.Link.link_state in
    let log : SinkState = g.W.Sink.state c.args.log.now in
    let log' : SinkState = g.W.Sink.state c.hand.new.log in
    let now = c.now-now.result in
    (now, handed_asked g.D.TurnDesk.answers_after c.hand.result c.args.end.now (ticks now) c.hand.new.end log log' (link_state c.args.link.now) (link_state c.now-now.new.link) (link_state c.hand.new.link) c.args.count.now c.hand.new.count now c.now-now.ensures c.hand.ensures)
