use Rattle.std.proofs.Common.{◌∙◌}
use Rattle.capture_pcap.proofs.Options.{of_found}
use Rattle.capture_pcap.proofs.next_block.timed_front.Goals as goal

pub returns-clause-front : goal.returns-clause-front
returns-clause-front c = c.packet_front.ensures.front ∙ of_found c.args.order c.args.interfaces.now c.args.which c.args.size c.args.octets.now c.in-Some.interface c.if-size-lt32.false c.in-Some.ensures
