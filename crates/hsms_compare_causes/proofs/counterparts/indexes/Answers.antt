use Rattle.std.proofs.Common.{◌∙◌, ap, arith}
use Rattle.hsms_compare_causes.specs.InnerSearch.{is_wanted}
use Rattle.hsms_compare_causes.proofs.Listed.{indexes_end, indexes_step}
use Rattle.hsms_compare_causes.proofs.counterparts.indexes.Goals as goal

pub loop-i-preserved : goal.loop-i-preserved
loop-i-preserved c =
    indexes_step (is_wanted c.args.wanted) c.args.log.now c.loop-i.i c.loop-i.found.items _ _ c.is.result c.index-log-i.result (omega arith) c.in_ok-push_if.ensures
    (c.is.ensures ∙ ap (is_wanted c.args.wanted) c.index-log-i.is) c.loop-i.invariant

pub returns : goal.returns
returns c = indexes_end (is_wanted c.args.wanted) c.args.log.now c.loop-i.i c.loop-i.found.items _ (omega arith) c.loop-i.invariant
