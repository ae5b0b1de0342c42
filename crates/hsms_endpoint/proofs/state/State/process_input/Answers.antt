use Rattle.hsms_endpoint.specs.InnerInternals.{after_octets}
use Rattle.hsms_endpoint.proofs.Acts.{then_ok}
use Rattle.hsms_endpoint.proofs.ReceivedFrames.{processed_sound, processed_all}
use Rattle.hsms_endpoint.proofs.state.State.process_input.Goals as goal

pub receive_all-requires : goal.receive_all-requires
receive_all-requires g c = processed_sound c.args.self.now c.take_in.new.self c.args.octets.now c.in_ok-take_in.ensures c.requires

pub returns : goal.returns
returns g c =
    then_ok c.receive_all.result c.receive_all.ensures
    (λ all. processed_all (g.D.TurnDesk.answers_after c.args.desk.now) (after_octets c.args.self.now c.args.octets.now) c.take_in.new.self c.receive_all.new.self c.args.entries.now.items c.receive_all.new.entries.items c.in_ok-take_in.ensures all)
