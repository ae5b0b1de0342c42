use Rattle.std.proofs.Common.{refl}
use Rattle.hsms_compare.proofs.Numbered.{step_as}
use Rattle.hsms_compare.proofs.LinesRead.{offered_as}
use Rattle.hsms_compare.proofs.pass.PassEnd.offer.Goals as goal

pub returns-in-Merged-clause-offer : goal.returns-in-Merged-clause-offer
returns-in-Merged-clause-offer c own other s =
    offered_as own other c.args.end _ _ c.args.merge.now _ c.add.new.self c.in-Some.is
    (refl, step_as own other c.args.end _ c.args.merge.now _ _ c.add.new.self c.in-Merged.is (c.in_ok-add.ensures.step own other s))

pub returns-in-NoneInFlight-clause-offer : goal.returns-in-NoneInFlight-clause-offer
returns-in-NoneInFlight-clause-offer c own other s =
    offered_as own other c.args.end _ _ c.args.merge.now _ c.add.new.self c.in-Some.is
    (refl, step_as own other c.args.end _ c.args.merge.now _ _ c.add.new.self c.in-NoneInFlight.is (c.in_ok-add.ensures.step own other s))

pub returns-in-OtherInFlight-clause-offer : goal.returns-in-OtherInFlight-clause-offer
returns-in-OtherInFlight-clause-offer c own other s =
    offered_as own other c.args.end _ _ c.args.merge.now _ c.add.new.self c.in-Some.is
    (refl, refl, step_as own other c.args.end _ c.args.merge.now _ _ c.add.new.self c.in-OtherInFlight.is (c.in_ok-add.ensures.step own other s))
