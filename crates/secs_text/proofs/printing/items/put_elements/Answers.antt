use Rattle.std.proofs.Common.{◌≡◌, ◌-◌, suc, true, false, refl, sym, ◌∙◌, arith}
use Rattle.std.proofs.Math.ListN.{length-set}
use Rattle.secs_item.specs.Format.{is_list}
use Rattle.secs_item.proofs.Lengths.{header_measured}
use Rattle.secs_text.proofs.PrintingItems.{ok_is, putting_starts, putting_ends, putting_closes, putting_values, putting_list, putting_empty, list_opening, values_by_body, element_measured}
use Rattle.secs_text.proofs.printing.items.put_elements.Goals as goal

pub loop-lists-init : goal.loop-lists-init
loop-lists-init g c = record {
  nested = omega arith;
  there = c.requires.there;
  row = refl;
  place = c.requires.place;
  putting = λ es n read. putting_starts _ c.args.block.now c.args.from _ c.args.depth c.args.octets.now c.args.count c.args.place es n c.requires.place refl read;
}

pub loop-lists-preserved-then-left-eq0 : goal.loop-lists-preserved-then-left-eq0
loop-lists-preserved-then-left-eq0 g c =
    let k = c.loop-lists in
    let i = c.from-innermost.result - 1 in
    let lists_is : k.lists ≡ suc i = omega arith in
    record {
      nested = omega arith;
      there = k.invariant.there;
      row = k.invariant.row;
      place = c.put_end-at.ensures.place;
      putting = λ es n read. putting_closes k.counts c.args.depth c.args.octets.now k.lists i k.end _ (k.invariant.putting es n read) lists_is c.if-left-eq0.true c.put_end-at.ensures;
    }

pub unreachable-requires : goal.unreachable-requires
unreachable-requires g c =
    let k = c.loop-lists in
    let i = c.from-innermost.result - 1 in
    let lists_is : k.lists ≡ suc i = omega arith in
    let x = ok_is _ c.requires.measured in
    header_measured k.end (c.args.depth - k.lists) c.args.octets.now c.in_default.field-0 (sym c.in_default.is ∙ c.read_header.ensures.read)
    (element_measured k.counts c.args.depth c.args.octets.now k.lists i k.end _ (k.invariant.putting x.0.0 x.0.1 x.1) lists_is (omega arith) c.if-left-eq0.false)

pub loop-lists-preserved-then-header-eq0 : goal.loop-lists-preserved-then-header-eq0
loop-lists-preserved-then-header-eq0 g c =
    let k = c.loop-lists in
    let i = c.from-innermost.result - 1 in
    let h = c.in-Ok.header in
    let lists_is : k.lists ≡ suc i = omega arith in
    let of_list : is_list h.format ≡ true = sym c.is_list.ensures ∙ c.if-is_list.true in
    let deep = c.in-Ok.ensures.list of_list in
    record {
      nested = k.invariant.nested;
      there = c.in-Ok.ensures.header;
      row = simp length-set k.invariant.row;
      place = c.put_end-at-then-header-eq0.ensures.place;
      putting = λ es n read. putting_empty k.counts c.args.depth c.args.octets.now k.lists i k.end _ (k.invariant.putting es n read) lists_is (omega arith) c.if-left-eq0.false h c.in-Ok.ensures.read of_list deep (omega arith) (list_opening h of_list c.put_opening-at.ensures) c.from.result c.from.ensures c.if-header-eq0.true c.put_end-at-then-header-eq0.ensures;
    }

pub loop-lists-preserved-else-header-eq0 : goal.loop-lists-preserved-else-header-eq0
loop-lists-preserved-else-header-eq0 g c =
    let k = c.loop-lists in
    let i = c.from-innermost.result - 1 in
    let h = c.in-Ok.header in
    let lists_is : k.lists ≡ suc i = omega arith in
    let of_list : is_list h.format ≡ true = sym c.is_list.ensures ∙ c.if-is_list.true in
    let deep = c.in-Ok.ensures.list of_list in
    record {
      nested = omega arith;
      there = c.in-Ok.ensures.header;
      row = simp length-set k.invariant.row;
      place = c.put_opening-at.ensures.place;
      putting = λ es n read. putting_list k.counts c.args.depth c.args.octets.now k.lists i k.end _ (k.invariant.putting es n read) lists_is (omega arith) c.if-left-eq0.false h c.in-Ok.ensures.read of_list deep (omega arith) (list_opening h of_list c.put_opening-at.ensures) c.from.result c.from.ensures;
    }

pub loop-lists-preserved : goal.loop-lists-preserved
loop-lists-preserved g c =
    let k = c.loop-lists in
    let i = c.from-innermost.result - 1 in
    let h = c.in-Ok.header in
    let lists_is : k.lists ≡ suc i = omega arith in
    let no_list : is_list h.format ≡ false = sym c.is_list.ensures ∙ c.if-is_list.false in
    let there = c.in-Ok.ensures.values no_list in
    record {
      nested = k.invariant.nested;
      there = there;
      row = simp length-set k.invariant.row;
      place = c.put_item_of_values-at.ensures.place;
      putting = λ es n read. putting_values k.counts c.args.depth c.args.octets.now k.lists i k.end _ (k.invariant.putting es n read) lists_is (omega arith) c.if-left-eq0.false h c.in-Ok.ensures.read no_list there (values_by_body h c.args.octets.now there c.put_item_of_values-at.ensures);
    }

pub returns-clause-puts : goal.returns-clause-puts
returns-clause-puts g c = λ es n read. putting_ends c.loop-lists.counts c.args.depth c.args.octets.now c.loop-lists.lists c.loop-lists.end _ (omega arith) (c.loop-lists.invariant.putting es n read)
