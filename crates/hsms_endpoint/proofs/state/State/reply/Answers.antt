use Rattle.std.proofs.Common.{◌≡◌, Option, option_map, ap, sym, subst, ◌∙◌}
use Rattle.secs_item.specs.Item.{Value, view}
use Rattle.hsms_frame.specs.Frame.{Frame}
use Rattle.hsms_endpoint.specs.declared.answer.Answer.{Answer}
use Rattle.hsms_endpoint.specs.Answer.{answered}
use Rattle.hsms_endpoint.specs.Frame.{reply_of}
use Rattle.hsms_endpoint.specs.InnerAwaitingReply.{IsReplyTo, reply_by}
use Rattle.hsms_endpoint.proofs.Acts.{then_ok}
use Rattle.hsms_endpoint.proofs.Messages.{option_through}
use Rattle.hsms_endpoint.proofs.Primaries.{not_replied, replied, reply_valid, aborts_by, abort_reply}
use Rattle.hsms_endpoint.proofs.state.State.reply.Goals.{in-Reply+in_ok-frame-in-Reply, in_default}
use Rattle.hsms_endpoint.proofs.state.State.reply.Goals as goal

pub returns-then-not-wait : goal.returns-then-not-wait
returns-then-not-wait c = not_replied c.args.self.now c.args.header _ c.args.entries.now.items c.requires (sym c.wait.ensures ∙ c.if-not-wait.true)

pub log-requires : goal.log-requires
log-requires c =
    let settings = c.args.self.now.settings in
    let shape : IsReplyTo settings c.args.header c.match-answer.frame =
    elim c.match-answer.branch [
      | in-Reply+in_ok-frame-in-Reply w ↦ subst (λ (f : Frame). IsReplyTo settings c.args.header f) (sym w.frame-is) w.in_ok-frame-in-Reply.ensures.shape
      | in_default w ↦ abort_reply settings c.args.header c.match-answer.frame c.requires.awaits.within (w.frame-is ∙ w.abort_frame-frame.ensures)
    ] in
    reply_valid c.args.self.now c.args.header c.requires (sym c.wait.ensures ∙ c.if-not-wait.false) c.match-answer.frame shape

pub returns : goal.returns
returns c =
    let settings = c.args.self.now.settings in
    let shape : IsReplyTo settings c.args.header c.match-answer.frame =
    elim c.match-answer.branch [
      | in-Reply+in_ok-frame-in-Reply w ↦ subst (λ (f : Frame). IsReplyTo settings c.args.header f) (sym w.frame-is) w.in_ok-frame-in-Reply.ensures.shape
      | in_default w ↦ abort_reply settings c.args.header c.match-answer.frame c.requires.awaits.within (w.frame-is ∙ w.abort_frame-frame.ensures)
    ] in
    let exact : c.match-answer.frame ≡ reply_by settings c.args.header (answered c.args.answer.now) =
    elim c.match-answer.branch [
      | in-Reply+in_ok-frame-in-Reply w ↦ w.frame-is ∙ w.in_ok-frame-in-Reply.ensures.exact
          ∙ ap (λ (o : Option Value). reply_of settings c.args.header o) (option_through (λ item. item.now) view w.as_ref.result ∙ ap (λ item. option_map view item) w.as_ref.ensures.value)
          ∙ ap (λ (a : Answer). reply_by settings c.args.header (answered a)) (sym w.in-Reply.is)
      | in_default w ↦ w.frame-is ∙ w.abort_frame-frame.ensures ∙ aborts_by settings c.args.header c.args.answer.now w.in_default.not-Reply
    ] in
    then_ok c.log.result c.log.ensures
    (λ sent. replied c.args.self.now c.log.new.self c.args.header (answered c.args.answer.now) c.match-answer.frame c.args.entries.now.items c.log.new.entries.items c.requires
    (sym c.wait.ensures ∙ c.if-not-wait.false) exact shape sent)
