use Rattle.std.proofs.Common.{arith}
use Rattle.hsms_compare.proofs.Numbered.{can_continue, waits_there, differs_there, step_as}
use Rattle.hsms_compare.proofs.comparison.advance.Goals as goal

pub returns-in-NoneInFlight-clause-stops : goal.returns-in-NoneInFlight-clause-stops
returns-in-NoneInFlight-clause-stops c other s =
    waits_there c.args.end c.args.log.now other c.loop-i.i (omega arith) c.index-log-i.result c.index-log-i.is c.loop-i.merge c.add.new.self
    (step_as _ _ _ _ _ _ _ _ c.in-NoneInFlight.is (c.in_ok-add.ensures.step _ _ (c.loop-i.invariant.merged other s)))

pub returns-in-OtherInFlight-clause-stops : goal.returns-in-OtherInFlight-clause-stops
returns-in-OtherInFlight-clause-stops c other s =
    differs_there c.args.end c.args.log.now other c.loop-i.i (omega arith) c.index-log-i.result c.index-log-i.is c.loop-i.merge c.add.new.self c.in-OtherInFlight.position
    (step_as _ _ _ _ _ _ _ _ c.in-OtherInFlight.is (c.in_ok-add.ensures.step _ _ (c.loop-i.invariant.merged other s)))

pub loop-i-preserved : goal.loop-i-preserved
loop-i-preserved c = record {
  since = omega arith;
  merged = λ other s.
      can_continue c.args.end c.args.log.now other c.loop-i.i (omega arith) c.index-log-i.result c.index-log-i.is c.loop-i.merge c.add.new.self
      (step_as _ _ _ _ _ _ _ _ c.in-Merged.is (c.in_ok-add.ensures.step _ _ (c.loop-i.invariant.merged other s)));
}
