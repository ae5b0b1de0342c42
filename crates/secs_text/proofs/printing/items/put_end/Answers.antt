use Rattle.std.proofs.Common.{arith}
use Rattle.secs_text.proofs.Blocks.{puts_appended}
use Rattle.secs_text.proofs.printing.items.put_end.Goals as goal

pub returns : goal.returns
returns g c = puts_appended c.room-at.ensures.puts c.append_byte.ensures (omega (arith, c.append_byte.ensures.moved, c.room-at.ensures.free))
