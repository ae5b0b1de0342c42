use Rattle.std.proofs.Common.{length, ap, ◌∙◌, arith}
use Rattle.std.proofs.lemmas.List.{length-take}
use Rattle.secs_text.specs.InnerBlockOutput.{words_of}
use Rattle.secs_text.proofs.Widths.{width_chunk, width_some}
use Rattle.secs_text.proofs.PrintingValues.{words_start, words_chunk, words_end, words_of_chunk}
use Rattle.secs_text.proofs.printing.values.put_words.Goals as goal

pub loop-rest-init : goal.loop-rest-init
loop-rest-init g c = record {
  free = c.room-at.ensures.free;
  size = c.requires.place.size;
  puts = words_start (g.O.Output.Given c.args.out.now) c.args.block.now c.args.from (words_of g.W.WordFormat.printed g.row.N c.args.octets.now) (g.O.Output.Given c.room-at.new.out) c.room-at.result c.room-at.ensures.puts;
}

pub append_words-at-requires : goal.append_words-at-requires
append_words-at-requires g c = record {
  width = c.requires.width;
  room = omega (arith, c.loop-rest.invariant.free, c.loop-rest.invariant.size, ap length c.split_at.ensures.front, length-take 512 c.loop-rest.rest.now);
}

pub loop-rest-preserved : goal.loop-rest-preserved
loop-rest-preserved g c =
    let k = c.loop-rest in
    let word = g.W.WordFormat.printed in
    let size = g.row.N in
    let chunks = width_chunk size c.requires.width in
    record {
      free = c.room-at-in-loop-rest.ensures.free;
      size = c.append_words-at.ensures.size ∙ k.invariant.size;
      puts = words_chunk (g.O.Output.Given c.args.out.now) c.args.block.now c.args.from (words_of word size c.args.octets.now) (g.O.Output.Given k.out) (g.O.Output.Given c.room-at-in-loop-rest.new.out) k.block c.append_words-at.new.block k.at c.append_words-at.result c.room-at-in-loop-rest.result (words_of word size k.rest.now) (words_of word size c.split_at.result.0.now) (words_of word size c.split_at.result.1.now)
          (words_of_chunk word size chunks.0 k.rest.now c.split_at.result.0.now c.split_at.result.1.now (width_some size c.requires.width) chunks.1 (omega arith) c.split_at.ensures.front c.split_at.ensures.back) c.append_words-at.ensures.appended_text (omega (arith, c.append_words-at.ensures.within, k.invariant.size)) c.room-at-in-loop-rest.ensures.puts k.invariant.puts;
    }

pub returns : goal.returns
returns g c =
    let k = c.loop-rest in
    let word = g.W.WordFormat.printed in
    let size = g.row.N in
    words_end (g.O.Output.Given c.args.out.now) c.args.block.now c.args.from (words_of word size c.args.octets.now) (g.O.Output.Given k.out) k.block c.append_words.new.block k.at c.append_words.result (words_of word size k.rest.now) c.append_words.ensures.appended_text (omega (arith, c.append_words.ensures.within, k.invariant.size)) k.invariant.puts
