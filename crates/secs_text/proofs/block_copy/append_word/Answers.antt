use Rattle.std.proofs.Common.{◌≡◌, ◌+◌, length, take, arith, length-take-le, take-take}
use Rattle.std.proofs.lemmas.Simd.{take_more_put_chunk, length-put_chunk}
use Rattle.secs_text.specs.InnerBlockOutput.{AppendsText}
use Rattle.secs_text.proofs.Blocks.{appended_less}
use Rattle.secs_text.proofs.block_copy.append_word.Goals as goal

pub returns-clause-appended_text : goal.returns-clause-appended_text
returns-clause-appended_text g c =
    let word = c.args.word.now in
    let front = take g.row.N word in
    let size : length front ≡ g.row.N = length-take-le g.row.N word c.requires.long in
    let kept : take c.args.count front ≡ take c.args.count word = take-take c.args.count g.row.N word c.requires.there in
    let whole : AppendsText c.args.block.now _ c.args.at front (c.args.at + g.row.N) = record {
      octets = take_more_put_chunk c.args.at c.args.block.now front (c.args.at + g.row.N) (omega (arith, size)) c.requires.room;
      moved = omega (arith, size);
      size = length-put_chunk c.args.at c.args.block.now front;
    } in
    rw kept at (appended_less c.args.count (omega (arith, c.requires.room)) (omega (arith, size, c.requires.there)) whole)
