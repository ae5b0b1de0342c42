use Rattle.hsms_endpoint.proofs.Acts.{then_ok}
use Rattle.hsms_endpoint.proofs.AcceptedFrames.{readable}
use Rattle.hsms_endpoint.proofs.state.State.take_primary.Goals as goal

pub ask-requires : goal.ask-requires
ask-requires g c = readable c.args.self.now c.args.frame c.requires.can c.requires.primary

pub returns : goal.returns
returns g c =
    then_ok c.take_answered.result c.take_answered.ensures
    (λ handled. handled (g.D.TurnDesk.answers_after c.args.desk.now) c.in_ok-answer.ensures)
