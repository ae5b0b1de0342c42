use Rattle.std.proofs.Common.{◌≡◌, ◌<◌, ◌≤◌, ◌+◌, ◌-◌, ◌*◌, ◌/◌, ◌++◌, length, take, drop, get_or, slice_set, sym, ap, ap₂, ◌∙◌, subst, arith}
use Rattle.std.proofs.lemmas.List.{drop-drop, get_or-drop, get_or-take, length-drop, length-set, length-take-le, take-append-drop, take_more_set}
use Rattle.secs_text.specs.InnerByteWord.{AreShortWords}
use Rattle.secs_text.proofs.ShortWords.{part_at, part_within, parts_within, words_more, times_next}
use Rattle.secs_text.proofs.parsing.runs.read_words.Goals as goal

pub loop-i-preserved : goal.loop-i-preserved
loop-i-preserved g c =
    let k = c.loop-i in
    let size = g.row.N in
    let text = c.args.text.now in
    let count = c.args.from + k.i in
    let rest = drop (size * count) text in
    let first = c.index-part-i.result in
    let after = drop (size * (count + 1)) text in
    let before : count < c.args.to = omega (arith, c.loop-i-test.true, c.requires.ordered, c.requires.there, c.as_chunks.ensures.front_len) in
    let less : count < length text / size = omega (arith, before, c.requires.there) in
    let within = part_within size count (length text) c.requires.some less in
    let words = c.as_chunks.result.0.now in
    let own : k.i < c.args.to - c.args.from = omega (arith, before) in
    let there : get_or (drop c.args.from words) k.i first ≡ get_or words count first = get_or-drop c.args.from words k.i first ∙ ap (λ n. get_or words n first) (omega arith) in
    let is : first ≡ take size rest = c.index-part-i.is ∙ get_or-take (c.args.to - c.args.from) (drop c.args.from words) k.i first own ∙ there
    ∙ ap (λ ws. get_or ws count first) c.as_chunks.ensures.front ∙ part_at size (length text / size) text first count less in
    let subsequent : drop size rest ≡ after = drop-drop size (size * count) text ∙ ap (λ n. drop n text) (sym (times_next size count)) in
    let parts : rest ≡ first ++ after = sym (take-append-drop size rest) ∙ ap₂ (λ a b. a ++ b) (sym is) subsequent in
    let long : length first ≡ size = ap length is ∙ length-take-le size rest (omega (arith, length-drop (size * count) text, within)) in
    let more = words_more g.W.ShortWord.reads size (take count k.octets) c.in-Some.octet text rest first after k.invariant.words c.in-Some.ensures long parts in
    let room : count < length k.octets = omega (arith, k.invariant.room, before, c.requires.few) in
    let one : count + 1 ≡ c.args.from + (k.i + 1) = omega arith in
    record {
      words = subst (λ n. AreShortWords g.W.ShortWord.reads size (take n (slice_set k.octets count c.in-Some.octet)) text (drop (size * n) text)) one
          (subst (λ os. AreShortWords g.W.ShortWord.reads size os text after) (sym (take_more_set k.octets count c.in-Some.octet room)) more);
      room = length-set k.octets count c.in-Some.octet ∙ k.invariant.room;
    }

pub returns-in_default-clause-within : goal.returns-in_default-clause-within
returns-in_default-clause-within g c =
    let read : c.args.from + c.loop-i.i ≤ length c.args.text.now / g.row.N = omega (arith, c.loop-i-test.true, c.requires.ordered, c.requires.there, c.as_chunks.ensures.front_len) in
    parts_within g.row.N (c.args.from + c.loop-i.i) (length c.args.text.now) c.requires.some read

pub returns-clause-within : goal.returns-clause-within
returns-clause-within g c = parts_within g.row.N c.args.to (length c.args.text.now) c.requires.some c.requires.there
