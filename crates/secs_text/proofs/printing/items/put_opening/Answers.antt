use Rattle.std.proofs.Common.{◌≤◌, ◌∙◌, length, take, ap, arith}
use Rattle.secs_text.proofs.Blocks.{appended_same, appended_then, puts_appended}
use Rattle.secs_text.proofs.printing.items.put_opening.Goals as goal

pub append_word-at-requires-clause-long : goal.append_word-at-requires-clause-long
append_word-at-requires-clause-long g c =
    let long : 16 ≤ length c.as_slice.result.now = rw c.as_slice.ensures (omega (arith, c.opening_word-length.ensures.long)) in
    long

pub returns : goal.returns
returns g c =
    let word = appended_same _ (ap (take c.opening_word-length.result.1) c.as_slice.ensures ∙ c.opening_word-length.ensures.text) c.append_word-at.ensures.appended_text in
    puts_appended c.room-at.ensures.puts (rw c.size.ensures.value at (appended_then (appended_then word c.append_count-at.ensures.appended_text) c.append_byte.ensures))
    (omega (arith, c.room-at.ensures.free, c.append_word-at.ensures.near, c.append_count-at.ensures.near, c.append_byte.ensures.moved))
