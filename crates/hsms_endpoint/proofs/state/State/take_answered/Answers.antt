use Rattle.std.proofs.Common.{◌≡◌, ◌∙◌, ap, subst, sym}
use Rattle.hsms_frame.specs.Frame.{Frame}
use Rattle.hsms_endpoint.specs.declared.state.State.{State}
use Rattle.hsms_endpoint.specs.Answer.{answered}
use Rattle.hsms_endpoint.specs.InnerInternals.{after_asking}
use Rattle.hsms_endpoint.specs.Reaction.{answers_primary}
use Rattle.hsms_endpoint.specs.InnerAwaitingReply.{IsAsked, Settles}
use Rattle.hsms_endpoint.proofs.Acts.{then_ok}
use Rattle.hsms_endpoint.proofs.AcceptedFrames.{handled_primary, asked_by_primary, can_take_later, counted}
use Rattle.hsms_endpoint.proofs.state.State.take_answered.Goals as goal

pub log-requires : goal.log-requires
log-requires c =
    (can_take_later c.args.self.now (record c.args.self.now { asked = c.count.new.self }) c.args.frame c.frame.inside.header
    (counted c.args.self.now c.frame.inside.header c.stream.result c.function.result c.count.new.self c.stream.ensures c.function.ensures c.in_ok-count.ensures) c.requires.can).is_valid

pub answer_primary-requires : goal.answer_primary-requires
answer_primary-requires c =
    let after : State = record c.args.self.now { asked = c.count.new.self } in
    let asked : after ≡ after_asking c.args.self.now c.frame.inside.header =
    counted c.args.self.now c.frame.inside.header c.stream.result c.function.result c.count.new.self c.stream.ensures c.function.ensures c.in_ok-count.ensures in
    subst (λ (f : Frame). IsAsked c.log.new.self f.header) (sym c.frame.view_is)
    (asked_by_primary after c.args.frame (can_take_later c.args.self.now after c.args.frame c.frame.inside.header asked c.requires.can) c.log.new.self c.in_ok-log.ensures.after c.requires.primary)

pub returns : goal.returns
returns c =
    let after : State = record c.args.self.now { asked = c.count.new.self } in
    let asked : after ≡ after_asking c.args.self.now c.args.frame.header =
    counted c.args.self.now c.frame.inside.header c.stream.result c.function.result c.count.new.self c.stream.ensures c.function.ensures c.in_ok-count.ensures
    ∙ ap (λ (f : Frame). after_asking c.args.self.now f.header) c.frame.view_is in
    then_ok c.answer_primary.result c.answer_primary.ensures
    (λ sent desk answers. handled_primary desk c.args.self.now after c.log.new.self c.answer_primary.new.self c.args.entries.now.items c.log.new.entries.items c.answer_primary.new.entries.items c.args.frame (answered c.args.answer.now)
    c.requires.can.broken c.requires.primary answers asked c.in_ok-log.ensures
    (subst (λ (f : Frame). Settles c.log.new.self c.log.new.entries.items (answers_primary c.log.new.self.settings f.header (answered c.args.answer.now)) c.answer_primary.new.self c.answer_primary.new.entries.items) c.frame.view_is sent))
