use Rattle.std.proofs.Common.{sym}
use Rattle.capture_midstream.proofs.Keeping.{silent_by}
use Rattle.capture_midstream.proofs.packet_buffer.Gathering.is_silent.Goals as goal

pub returns : goal.returns
returns c = silent_by c.args.self.now c.self.inside.packets.items c.self.inside.octets (sym c.self.view_is) c.self.invariant
