use Rattle.std.proofs.Common.{refl, sym}
use Rattle.capture_midstream.proofs.Keeping.{buffers_by}
use Rattle.capture_midstream.proofs.packet_buffer.Gathering.take.Goals as goal

pub returns-clause-ok : goal.returns-clause-ok
returns-clause-ok c =
    buffers_by c.args.segment c.args.octets.now c.args.self.now c.self.inside.packets.items c.push.new.self.items
    (record { segment = c.args.segment; octets = c.in_ok-octets.octets }) (sym c.self.view_is) refl c.in_ok-octets.ensures.items c.in_ok-push.ensures.items
