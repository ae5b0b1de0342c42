use Rattle.std.proofs.Common.{◌≡◌, ℕ, List, option_map, ap, subst, ◌∙◌}
use Rattle.std.proofs.lemmas.Result.{IfOk-weaker}
use Rattle.secs_item.specs.Item.{view}
use Rattle.secs_item.specs.Encoding.{IsTextOf}
use Rattle.secs_text.specs.Content.{Content}
use Rattle.secs_text.specs.View.{content}
use Rattle.hsms_frame.specs.Frame.{Frame}
use Rattle.hsms_endpoint.specs.Answer.{answered}
use Rattle.hsms_endpoint.specs.PrimaryCounts.{name_in, times}
use Rattle.hsms_endpoint.specs.Frame.{message_of}
use Rattle.hsms_endpoint.specs.InnerAwaitingReply.{IsAnsweredBy}
use Rattle.hsms_endpoint.proofs.state.State.ask.Goals as goal

pub returns-in-Ok : goal.returns-in-Ok
returns-in-Ok g c =
    let desk = g.D.TurnDesk.answers_after c.args.desk.now in
    let item = option_map view c.in-Ok.item in
    let text : IsTextOf c.args.self.now.settings.depth c.frame.inside.text.items item =
    subst (λ (n : ℕ). IsTextOf n c.frame.inside.text.items item) c.depth.ensures.value
    (subst (λ (octets : List ℕ). IsTextOf c.depth.result octets item) c.as_slice.ensures.value c.in-Ok.ensures.ok) in
    let message : content c.new-message.result ≡ message_of c.frame.inside.header item =
    (let e1 = c.new-message.ensures in let e2 = c.stream-in-Ok.ensures in let e3 = c.function-in-Ok.ensures in let e4 = c.wait.ensures in cc) in
    let before : c.times-before.result ≡ times (name_in c.frame.inside.header) c.args.self.now.asked =
    (let e1 = c.times-before.ensures in let e2 = c.stream.ensures in let e3 = c.function.ensures in cc) in
    IfOk-weaker c.answer_after.result (λ answer. answered answer ≡ desk c.times-before.result (content c.new-message.result))
    (λ answer. IsAnsweredBy (desk (times (name_in c.args.frame.now.header) c.args.self.now.asked)) c.args.self.now.settings.depth c.args.frame.now (answered answer))
    (λ answer is. subst (λ (f : Frame). IsAnsweredBy (desk (times (name_in f.header) c.args.self.now.asked)) c.args.self.now.settings.depth f (answered answer)) c.frame.view_is
    (item, text, is ∙ ap (λ (m : Content). desk c.times-before.result m) message ∙ ap (λ n. desk n (message_of c.frame.inside.header item)) before))
    c.answer_after.ensures
