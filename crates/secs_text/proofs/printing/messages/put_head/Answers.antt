use Rattle.std.proofs.Common.{arith}
use Rattle.secs_text.proofs.Blocks.{appended_then, appended_nothing, puts_appended}
use Rattle.secs_text.proofs.printing.messages.put_head.Goals as goal

pub returns-then-head : goal.returns-then-head
returns-then-head g c =
    let appended_text = appended_then (appended_then (appended_then c.append_byte-at.ensures c.append_small-at.ensures.appended_text) c.append_byte-at-2.ensures) c.append_small-at-2.ensures.appended_text in
    puts_appended c.room-at.ensures.puts (rw c.if-head.true (appended_then appended_text c.append_slice.ensures)) (omega (arith, c.room-at.ensures.free, appended_text.moved, c.append_small-at.ensures.near, c.append_small-at-2.ensures.near, c.append_slice.ensures.moved))

pub returns-else-head : goal.returns-else-head
returns-else-head g c =
    let appended_text = appended_then (appended_then (appended_then c.append_byte-at.ensures c.append_small-at.ensures.appended_text) c.append_byte-at-2.ensures) c.append_small-at-2.ensures.appended_text in
    puts_appended c.room-at.ensures.puts (rw c.if-head.false (appended_then appended_text (appended_nothing _ _))) (omega (arith, c.room-at.ensures.free, c.append_small-at.ensures.near, c.append_small-at-2.ensures.near))
