use Rattle.capture_tcp.specs.Message.{cells_of}
use Rattle.capture_tcp.proofs.Arriving.{brings_none}
use Rattle.capture_tcp.proofs.reader_state.bring.Goals as goal

pub returns-then-packet-clause-held : goal.returns-then-packet-clause-held
returns-then-packet-clause-held c =
    brings_none c.args.held.now c.args.acknowledged c.args.packet (cells_of c.args.flags.syn c.args.octets.now c.args.flags.fin) c.if-packet.true
