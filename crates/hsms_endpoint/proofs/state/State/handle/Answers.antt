use Rattle.hsms_endpoint.proofs.AcceptedFrames.{can_take, can_discard}
use Rattle.hsms_endpoint.proofs.state.State.handle.Goals as goal

pub take-requires : goal.take-requires
take-requires g c = can_take c.args.self.now c.args.frame c.judge.result c.requires.sound c.requires.up c.in-None.is c.judge.ensures.broken c.judge.ensures.is_valid

pub discard-requires : goal.discard-requires
discard-requires g c = can_discard c.args.self.now c.args.frame c.judge.result c.in-Some.rule c.requires.sound c.requires.up c.in-Some.is c.judge.ensures.broken c.judge.ensures.is_valid
