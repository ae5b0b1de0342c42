use Rattle.secs_text.proofs.PrintingMessages.{in_block}
use Rattle.secs_text.proofs.printing.messages.print_text.Goals as goal

pub returns-clause-ok : goal.returns-clause-ok
returns-clause-ok g c =
    let text = c.in_ok-measure_text.ensures.ok in
    let old = c.block in
    let slice = c.as_mut_slice.ensures in
    (text.0, text.1, in_block old.inside.octets.items c.args.block.now old.inside.octets.len old.inside.used old.view_is old.invariant.0 slice.value slice.len (c.put_message-block-inside.ensures.puts text.0 text.1))
