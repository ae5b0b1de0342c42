use Rattle.std.proofs.Common.{Ok, refl, subst}
use Rattle.hsms_frame.specs.Io.{SinkState}
use Rattle.hsms_ends.specs.declared.link.Got.{Got}
use Rattle.hsms_ends.specs.declared.link.Got.TheVariants.{Octets, Quiet, Closed}
use Rattle.hsms_ends.specs.Link.{Waits}
use Rattle.hsms_ends.proofs.TurnSteps.{continued_fault, continued_got}
use Rattle.hsms_ends.proofs.TurnResults.{yields_nothing}
use Rattle.hsms_ends.proofs.turns.wait_once.Goals as goal

pub returns-in-Quiet-clause-continued : goal.returns-in-Quiet-clause-continued
returns-in-Quiet-clause-continued g c script refused must =
    let link_state = g.L.Link.link_state in
    let log : SinkState = g.W.Sink.state c.args.log.now in
    let P : Got → Type 0 = λ got. Waits (link_state c.args.link.now) (link_state c.wait.new.self) c.wait.new.into (Ok got) in
    let waits = subst P c.in-Quiet.is c.in-Ok.ensures in
    continued_got g.D.TurnDesk.answers_after c.args.pause (Ok tt) c.wait.new.into Quiet c.args.end.now c.args.end.now script log log (link_state c.args.link.now) (link_state c.wait.new.self) (link_state c.wait.new.self) c.args.count.now c.args.count.now refused
    waits.1 waits.2 waits.3 (yields_nothing log (link_state c.wait.new.self) c.args.count.now, refl) must

pub returns-in-Octets-clause-continued : goal.returns-in-Octets-clause-continued
returns-in-Octets-clause-continued g c script refused must =
    let link_state = g.L.Link.link_state in
    let log : SinkState = g.W.Sink.state c.args.log.now in
    let log' : SinkState = g.W.Sink.state c.process_input.new.log in
    let P : Got → Type 0 = λ got. Waits (link_state c.args.link.now) (link_state c.wait.new.self) c.wait.new.into (Ok got) in
    let waits = subst P c.in-Octets.is c.in-Ok.ensures in
    continued_got g.D.TurnDesk.answers_after c.args.pause c.process_input.result c.wait.new.into (Octets c.in-Octets.length) c.args.end.now c.process_input.new.end script log log' (link_state c.args.link.now) (link_state c.wait.new.self) (link_state c.process_input.new.link) c.args.count.now c.process_input.new.count refused
    waits.1 waits.2 waits.3 c.process_input.ensures must

pub returns-in-Closed-clause-continued : goal.returns-in-Closed-clause-continued
returns-in-Closed-clause-continued g c script refused must =
    let link_state = g.L.Link.link_state in
    let log : SinkState = g.W.Sink.state c.args.log.now in
    let log' : SinkState = g.W.Sink.state c.process_input-in-Closed.new.log in
    let P : Got → Type 0 = λ got. Waits (link_state c.args.link.now) (link_state c.wait.new.self) c.wait.new.into (Ok got) in
    let waits = subst P c.in-Closed.is c.in-Ok.ensures in
    continued_got g.D.TurnDesk.answers_after c.args.pause c.process_input-in-Closed.result c.wait.new.into Closed c.args.end.now c.process_input-in-Closed.new.end script log log' (link_state c.args.link.now) (link_state c.wait.new.self) (link_state c.process_input-in-Closed.new.link) c.args.count.now c.process_input-in-Closed.new.count refused
    waits.1 waits.2 waits.3 c.process_input-in-Closed.ensures must

pub returns-in-Err-clause-continued : goal.returns-in-Err-clause-continued
returns-in-Err-clause-continued g c script refused must =
    let link_state = g.L.Link.link_state in
    let log : SinkState = g.W.Sink.state c.args.log.now in
    let waits = c.in-Err.ensures in
    continued_fault g.D.TurnDesk.answers_after c.args.pause c.args.end.now script log (link_state c.args.link.now) (link_state c.wait.new.self) c.args.count.now refused waits.0 waits.1 waits.2
