use Rattle.std.proofs.Common.{◌++◌, ap, subst, ◌∙◌}
use Rattle.std.specs.List.{flat_map, AllByRecursion}
use Rattle.std.proofs.lemmas.List.{take_all}
use Rattle.secs_item.proofs.Bodies.{next_pushed, next_in_range}
use Rattle.secs_item.proofs.encoding.push_values.Goals as goal

pub loop-value-preserved : goal.loop-value-preserved
loop-value-preserved g c =
    let codec = g.V.Value.codec in
    let values = c.args.values.now in
    record {
      octets = next_pushed codec.octets_of values c.loop-value.value-index c.value-item.result c.args.octets.now.items c.loop-value.octets.items c.push_octets.new.octets.items c.loop-value-test.true c.value-item.is c.loop-value.invariant.octets c.in_ok-push_octets.ensures.octets;
      in_range = next_in_range codec.fits values c.loop-value.value-index c.value-item.result c.loop-value-test.true c.value-item.is c.loop-value.invariant.in_range c.in_ok-push_octets.ensures.fits;
    }

pub returns-clause-octets : goal.returns-clause-octets
returns-clause-octets g c = c.loop-value.invariant.octets ∙ ap (λ values. c.args.octets.now.items ++ flat_map g.V.Value.codec.octets_of values) (take_all c.loop-value.value-index c.args.values.now c.loop-value-test.false)

pub returns-clause-in_range : goal.returns-clause-in_range
returns-clause-in_range g c = subst (λ values. AllByRecursion g.V.Value.codec.fits values) (take_all c.loop-value.value-index c.args.values.now c.loop-value-test.false) c.loop-value.invariant.in_range
