use Rattle.std.proofs.Common.{◌≡◌, ◌+◌, ◌*◌, ◌≤◌, ◌<◌, length, ap, arith}
use Rattle.std.proofs.lemmas.List.{length-drop}
use Rattle.secs_text.specs.InnerBlockOutput.{words_of}
use Rattle.secs_text.proofs.Widths.{width_some}
use Rattle.secs_text.proofs.PrintingValues.{appends_next, appends_all}
use Rattle.secs_text.proofs.printing.values.append_words.Goals as goal

pub loop-first-preserved : goal.loop-first-preserved
loop-first-preserved g c =
    let k = c.loop-first in
    let size = g.row.N in
    let p = c.in-Some.ensures.cases in
    let some : 1 ≤ size = width_some size c.requires.width in
    let left : length c.in-Some.after.now + size ≡ length k.rest.now = omega (arith, p.2, ap length p.1, length-drop size k.rest.now) in
    let room : c.append_chunk-end.result + 48 * length c.in-Some.after.now ≤ length c.append_chunk-end.new.block = omega (arith, c.append_chunk-end.ensures.near, c.append_chunk-end.ensures.appended_text.size, k.invariant.room) in
    record {
      room = room;
      appended_text = appends_next g.W.WordFormat.printed size some c.args.block.now c.args.at (words_of g.W.WordFormat.printed size c.args.octets.now) k.block c.append_chunk-end.new.block k.end c.append_chunk-end.result k.rest.now c.in-Some.first.now c.in-Some.after.now k.invariant.appended_text (omega (arith, left)) p.0 p.1 c.append_chunk-end.ensures.appended_text (omega (arith, room, c.append_chunk-end.ensures.appended_text.size));
    }

pub returns-clause-appended_text : goal.returns-clause-appended_text
returns-clause-appended_text g c =
    let short : length c.loop-first.rest.now < g.row.N = c.in_default.ensures.cases in
    let room = c.loop-first.invariant.room in
    appends_all g.W.WordFormat.printed g.row.N (width_some g.row.N c.requires.width) c.args.block.now c.args.at (words_of g.W.WordFormat.printed g.row.N c.args.octets.now) c.loop-first.block c.loop-first.end c.loop-first.rest.now (omega (arith, c.requires.room)) c.loop-first.invariant.appended_text short

pub returns-clause-size : goal.returns-clause-size
returns-clause-size g c = c.loop-first.invariant.appended_text.size
