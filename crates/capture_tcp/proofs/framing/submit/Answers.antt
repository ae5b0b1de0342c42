use Rattle.std.proofs.Common.{OnOk, subst, sym}
use Rattle.std.proofs.lemmas.Result.{on_ok_weaker}
use Rattle.capture_tcp.specs.KnownStreams.{end_at}
use Rattle.capture_tcp.specs.EventSteps.{processes_input}
use Rattle.capture_tcp.specs.InnerEventSteps.{ProcessesInput, entries_as}
use Rattle.capture_tcp.specs.declared.reassembly.Piece.{Piece}
use Rattle.capture_tcp.proofs.Slicing.{down_processed, message_processed, none_processed}
use Rattle.capture_tcp.proofs.framing.submit.Goals as goal

pub returns-in-Message-clause-emitted : goal.returns-in-Message-clause-emitted
returns-in-Message-clause-emitted c =
    subst (λ (p : Piece). OnOk c.say.result (ProcessesInput (processes_input c.args.emitter_state.now (entries_as (end_at c.args.delivery.of) c.args.delivery.packet p)) c.args.emitted.now.items c.say.new.self c.say.new.emitted.items))
    (sym c.in-Message.is)
    (on_ok_weaker c.say.result (message_processed c.args.emitter_state.now c.say.new.self c.args.delivery.of c.args.delivery.packet c.in-Message.octets.items c.args.emitted.now.items c.say.new.emitted.items) c.say.ensures.emitted)

pub returns-in-Opens-clause-emitted : goal.returns-in-Opens-clause-emitted
returns-in-Opens-clause-emitted c =
    subst (λ (p : Piece). ProcessesInput (processes_input c.args.emitter_state.now (entries_as (end_at c.args.delivery.of) c.args.delivery.packet p)) c.args.emitted.now.items c.args.emitter_state.now c.args.emitted.now.items)
    (sym c.in-Opens.is)
    (none_processed c.args.emitter_state.now c.args.emitted.now.items)

pub returns-in-Closes-clause-emitted : goal.returns-in-Closes-clause-emitted
returns-in-Closes-clause-emitted c =
    subst (λ (p : Piece). OnOk c.go_down.result (ProcessesInput (processes_input c.args.emitter_state.now (entries_as (end_at c.args.delivery.of) c.args.delivery.packet p)) c.args.emitted.now.items c.go_down.new.self c.go_down.new.emitted.items))
    (sym c.in-Closes.is)
    (on_ok_weaker c.go_down.result (down_processed c.args.emitter_state.now c.go_down.new.self c.args.delivery.packet c.args.emitted.now.items c.go_down.new.emitted.items) c.go_down.ensures.emitted)
