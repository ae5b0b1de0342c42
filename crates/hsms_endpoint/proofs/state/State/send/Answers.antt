use Rattle.std.proofs.Common.{◌≡◌, ◌<◌, sym, ap, subst, ◌∙◌}
use Rattle.secs_text.specs.View.{content}
use Rattle.hsms_frame.specs.Frame.{Frame}
use Rattle.hsms_machine.specs.declared.entry.Event.TheVariants.{Sent}
use Rattle.hsms_endpoint.specs.Frame.{message_frame}
use Rattle.hsms_endpoint.specs.InnerInternals.{after_number}
use Rattle.hsms_endpoint.specs.InnerActionSteps.{IsValidEvent}
use Rattle.hsms_endpoint.proofs.Acts.{then_ok}
use Rattle.hsms_endpoint.proofs.Messages.{message_valid, message_sound}
use Rattle.hsms_endpoint.proofs.state.State.send.Goals as goal

pub send_numbered-requires-clause-is_valid : goal.send_numbered-requires-clause-is_valid
send_numbered-requires-clause-is_valid c =
    let frame : ◌≡◌ {A = Frame} (record { header = c.data_header-header.result; text = c.args.text.items }) (message_frame c.args.self.now.settings (content c.args.message.now) c.args.text.items c.free_number-number.result) =
    (let e1 = c.data_header-header.ensures in let e2 = c.device.ensures.value in let e3 = c.stream.ensures.value in let e4 = c.function.ensures in let e5 = c.wait.ensures in cc) in
    let stream : (content c.args.message.now).stream < 128 = subst (λ n. n < 128) c.stream.ensures.value c.stream.ensures.in_range in
    subst (λ (f : Frame). IsValidEvent c.args.self.now (Sent f)) (sym frame)
    (message_valid c.args.self.now c.requires.sound (content c.args.message.now) c.args.text.items c.requires.unhindered c.requires.fits stream c.free_number-number.result c.free_number-number.ensures.free c.requires.encoded_bytes)

pub returns : goal.returns
returns c =
    let frame : ◌≡◌ {A = Frame} (record { header = c.data_header-header.result; text = c.args.text.items }) (message_frame c.args.self.now.settings (content c.args.message.now) c.args.text.items c.free_number-number.result) =
    (let e1 = c.data_header-header.ensures in let e2 = c.device.ensures.value in let e3 = c.stream.ensures.value in let e4 = c.function.ensures in let e5 = c.wait.ensures in cc) in
    let stream : (content c.args.message.now).stream < 128 = subst (λ n. n < 128) c.stream.ensures.value c.stream.ensures.in_range in
    then_ok c.send_numbered.result c.send_numbered.ensures
    (λ sent. record {
      does = sent.does (message_frame c.args.self.now.settings (content c.args.message.now) c.args.text.items) (sym frame);
      sound = message_sound c.args.self.now c.requires.sound (content c.args.message.now) c.args.text.items c.requires.unhindered c.requires.fits stream c.free_number-number.result c.free_number-number.ensures.free c.send_numbered.new.self
          (sent.after ∙ ap (λ (f : Frame). after_number c.args.self.now f c.free_number-number.result) frame);
    })
