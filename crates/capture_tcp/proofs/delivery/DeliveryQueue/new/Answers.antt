use Rattle.std.proofs.Common.{◌∙◌, [], refl}
use Rattle.capture_tcp.specs.KnownStreams.{bases, flow_of}
use Rattle.capture_tcp.specs.TcpStreams.{active, passive}
use Rattle.capture_tcp.proofs.EmitterSteps.{begins, known_is}
use Rattle.capture_tcp.proofs.delivery.DeliveryQueue.new.Goals as goal

pub returns : goal.returns
returns c =
    let base = bases c.args.active c.args.passive in
    known_is c.new.result (flow_of base [] active) c.new-2.result (flow_of base [] passive) 0 0 (c.new.ensures ∙ begins base active) (c.new-2.ensures ∙ begins base passive) refl
