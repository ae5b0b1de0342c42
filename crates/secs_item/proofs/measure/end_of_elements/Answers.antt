use Rattle.std.proofs.Common.{◌≤◌, ◌+◌, ◌-◌, ap, ◌∙◌, refl, arith}
use Rattle.std.proofs.Math.ListN.{length-set, length-replicate}
use Rattle.std.proofs.lemmas.Result.{err_from_is_err_and}
use Rattle.secs_item.specs.InnerMeasure.{end_of_open}
use Rattle.secs_item.proofs.Opened.{list_opened, all_closed, list_closes, element_fails, element_whole, element_opens}
use Rattle.secs_item.proofs.measure.end_of_elements.Goals as goal

pub loop-left-init : goal.loop-left-init
loop-left-init g c = record {
  nested = omega arith;
  within = c.requires.within;
  row = length-replicate _ _;
  rest = ap (λ n. end_of_open _ c.args.depth c.args.octets.now (n - 1) c.args.count c.args.place) c.from-outermost.ensures
      ∙ list_opened _ c.args.depth c.args.octets.now c.args.count c.args.place;
}

pub returns-then-inside-outermost : goal.returns-then-inside-outermost
returns-then-inside-outermost g c =
    let k = c.loop-left in
    all_closed k.counts c.args.depth c.args.octets.now k.inside k.left k.end _ c.if-left-eq0.true k.invariant.rest (omega (arith, c.if-inside-outermost.true, c.from-outermost.ensures))

pub loop-left-preserved-then-left-eq0 : goal.loop-left-preserved-then-left-eq0
loop-left-preserved-then-left-eq0 g c =
    let k = c.loop-left in
    let around : k.inside + 1 + 1 ≤ c.args.depth = omega (arith, k.invariant.nested, c.if-inside-outermost.false, c.from-outermost.ensures) in
    record {
      nested = around;
      within = k.invariant.within;
      row = k.invariant.row;
      rest = list_closes k.counts c.args.depth c.args.octets.now k.inside k.left k.end _ c.if-left-eq0.true k.invariant.rest (k.inside + 1) refl (omega (arith, around));
    }

pub returns-in_err-part : goal.returns-in_err-part
returns-in_err-part g c =
    let k = c.loop-left in
    let p = err_from_is_err_and c.from_residual.result c.from_residual.ensures.1 in
    rw (p.1, p.2) (element_fails k.counts c.args.depth c.args.octets.now k.inside k.left k.end _ c.if-left-eq0.false k.invariant.rest c.in_err-part.field-0.0 c.in_err-part.ensures.read)

pub loop-left-preserved-then-part-gt0 : goal.loop-left-preserved-then-part-gt0
loop-left-preserved-then-part-gt0 g c =
    let k = c.loop-left in
    let deep = c.in_ok-part.ensures.within.deep_enough c.if-part-gt0.true in
    record {
      nested = omega (arith, k.invariant.nested);
      within = c.in_ok-part.ensures.within.within;
      row = simp length-set k.invariant.row;
      rest = element_opens k.counts c.args.depth c.args.octets.now k.inside k.left k.end _ c.if-left-eq0.false k.invariant.rest c.in_ok-part.part c.in_ok-part.ensures.read c.if-part-gt0.true deep (omega (arith, k.invariant.nested)) (omega (arith, k.invariant.nested, k.invariant.row, c.requires.few));
    }

pub loop-left-preserved : goal.loop-left-preserved
loop-left-preserved g c =
    let k = c.loop-left in
    record {
      nested = k.invariant.nested;
      within = c.in_ok-part.ensures.within.within;
      row = k.invariant.row;
      rest = element_whole k.counts c.args.depth c.args.octets.now k.inside k.left k.end _ c.if-left-eq0.false k.invariant.rest c.in_ok-part.part c.in_ok-part.ensures.read (omega (arith, c.if-part-gt0.false));
    }
