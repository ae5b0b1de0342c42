use Rattle.std.proofs.Common.{arith}
use Rattle.secs_text.proofs.Blocks.{puts_appended}
use Rattle.secs_text.proofs.printing.messages.put_stop.Goals as goal

pub returns : goal.returns
returns g c = puts_appended c.room-at.ensures.puts c.append_slice.ensures (omega (arith, c.append_slice.ensures.moved, c.room-at.ensures.free))
