use Rattle.std.proofs.Common.{◌≡◌, ◌++◌, length, take, ap, ◌∙◌, arith, take-append-drop}
use Rattle.std.proofs.lemmas.List.{length-take}
use Rattle.secs_text.proofs.PrintingText.{last_closes, last_ends, text_starts, text_room, text_chunk, text_all}
use Rattle.secs_text.proofs.printing.values.put_text.Goals as goal

pub loop-rest-init : goal.loop-rest-init
loop-rest-init g c = record {
  free = c.room-at.ensures.free;
  size = c.requires.size;
  text = text_starts (g.O.Output.Given c.args.out.now) c.args.block.now c.args.from c.args.octets.now (g.O.Output.Given c.room-at.new.out) c.room-at.result c.room-at.ensures.puts;
}

pub append_text-end-requires : goal.append_text-end-requires
append_text-end-requires g c =
    omega (arith, c.loop-rest.invariant.free, c.loop-rest.invariant.size, ap length c.split_at.ensures.front, length-take 512 c.loop-rest.rest.now)

pub loop-rest-preserved : goal.loop-rest-preserved
loop-rest-preserved g c =
    let k = c.loop-rest in
    let given = g.O.Output.Given c.args.out.now in
    let chunk = c.split_at.result.0.now in
    let after = c.split_at.result.1.now in
    let parts : chunk ++ after ≡ k.rest.now = ap (λ o. o ++ after) c.split_at.ensures.front ∙ ap (λ o. take 512 k.rest.now ++ o) c.split_at.ensures.back ∙ take-append-drop 512 k.rest.now in
    let appended_text = text_chunk given c.args.block.now c.args.from c.args.octets.now (g.O.Output.Given k.out) k.block c.append_text-end.new.block k.at c.append_text-end.result.0 k.in_quotes c.append_text-end.result.1 k.rest.now chunk after parts c.append_text-end.ensures.text (omega (arith, c.append_text-end.ensures.near, k.invariant.free, ap length c.split_at.ensures.front, length-take 512 k.rest.now)) k.invariant.text in
    record {
      free = c.room-at-in-loop-rest.ensures.free;
      size = c.append_text-end.ensures.size ∙ k.invariant.size;
      text = text_room given c.args.block.now c.args.from c.args.octets.now (g.O.Output.Given k.out) (g.O.Output.Given c.room-at-in-loop-rest.new.out) c.append_text-end.new.block c.append_text-end.result.0 c.room-at-in-loop-rest.result c.append_text-end.result.1 after c.room-at-in-loop-rest.ensures.puts appended_text;
    }

pub returns-then-quoted : goal.returns-then-quoted
returns-then-quoted g c =
    let k = c.loop-rest in
    let t = c.append_text-end-2.ensures.text in
    text_all (g.O.Output.Given c.args.out.now) c.args.block.now c.args.from c.args.octets.now (g.O.Output.Given k.out) k.block c.append_byte.new.block k.at c.append_byte.result k.in_quotes k.rest.now
    (last_closes t.0 k.in_quotes c.append_text-end-2.result.1 k.rest.now c.if-quoted.true t.1 c.append_byte.ensures t.2) (omega (arith, c.append_byte.ensures.moved, c.append_text-end-2.ensures.near, k.invariant.free, k.invariant.size)) k.invariant.text

pub returns-else-quoted : goal.returns-else-quoted
returns-else-quoted g c =
    let k = c.loop-rest in
    let t = c.append_text-end-2.ensures.text in
    text_all (g.O.Output.Given c.args.out.now) c.args.block.now c.args.from c.args.octets.now (g.O.Output.Given k.out) k.block c.append_text-end-2.new.block k.at c.append_text-end-2.result.0 k.in_quotes k.rest.now
    (last_ends t.0 k.in_quotes c.append_text-end-2.result.1 k.rest.now c.if-quoted.false t.1 t.2) (omega (arith, c.append_text-end-2.ensures.near, k.invariant.free, k.invariant.size)) k.invariant.text
