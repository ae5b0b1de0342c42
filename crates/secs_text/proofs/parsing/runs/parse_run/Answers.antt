use Rattle.std.proofs.Common.{arith}
use Rattle.secs_text.proofs.ShortWords.{run_collected_at}
use Rattle.secs_text.proofs.parsing.runs.parse_run.Goals as goal

pub loop-octets-preserved : goal.loop-octets-preserved
loop-octets-preserved g c =
    let k = c.loop-octets in
    let read = c.read_run-count in
    record {
      collected = λ count first start before.
          run_collected_at c.args.format count first start g.W.ShortWord.reads g.row.N read.result k.tokens.place read.new.octets k.tokens.text.now c.split_at-in-loop-octets.result.1.now k.out.items c.extend_from_slice.new.self.items
          c.requires.encoded_bytes c.requires.sized c.split_at-in-loop-octets.ensures.back (omega (arith, read.array_long, read.ensures.few)) read.ensures.words (read.ensures.ends (omega (arith, c.if-count-eq0.false)))
          c.in_ok-extend_from_slice.ensures.items (k.invariant.collected count first start before);
      no_longer = omega (arith, k.invariant.no_longer);
    }
