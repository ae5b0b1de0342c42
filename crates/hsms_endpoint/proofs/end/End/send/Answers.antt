use Rattle.std.proofs.Common.{◌≡◌, true, false, [], ◌∷◌, Some, None, refl, sym, ap, subst, ◌∙◌}
use Rattle.std.specs.Prelude.{IfSome, option_map}
use Rattle.secs_item.specs.Encoding.{IsText}
use Rattle.secs_text.specs.View.{content}
use Rattle.hsms_endpoint.specs.Action.{asks}
use Rattle.hsms_endpoint.specs.Frame.{fitting_text, message_frame}
use Rattle.hsms_endpoint.specs.Turn.{send}
use Rattle.hsms_endpoint.proofs.Messages.{none_through}
use Rattle.hsms_endpoint.proofs.Calls.{accepted, refused_at_once, out_of_memory}
use Rattle.hsms_endpoint.proofs.Sent.{send_encounters, send_refused, send_memory, too_long_refused}
use Rattle.hsms_endpoint.proofs.end.End.send.Goals as goal

pub returns-in-Some : goal.returns-in-Some
returns-in-Some g c =
    send_refused c.self.inside.desk c.self.inside.state c.self.inside.spent c.args.self.now (content c.args.message.now) c.in-Some.fault
    c.in_ok-ready.ensures.fresh c.self.view_is c.in_ok-ready.ensures.up (sym c.in-Some.ensures)

pub returns : goal.returns
returns g c =
    let fit : fitting_text c.self.inside.state.settings (content c.args.message.now).item ≡ Some c.in-Some-2.text.items =
    ap (λ item. fitting_text c.self.inside.state.settings item) (sym c.item.ensures) ∙ sym c.in_ok-text.ensures.value ∙ ap (λ text. option_map (λ octets. octets.items) text) c.in-Some-2.is in
    accepted g.D.TurnDesk.answers_after c.self.inside.desk c.self.inside.state c.self.inside.state c.send.new.self c.self.inside.spent c.args.self.now (send (content c.args.message.now))
    (asks (message_frame c.self.inside.state.settings (content c.args.message.now) c.in-Some-2.text.items) ∷ []) c.new-entries.result.items c.send.new.entries.items c.in_ok-ready.ensures.fresh c.self.view_is c.new-entries.ensures.items
    (send_encounters c.self.inside.spent c.self.inside.state (content c.args.message.now) c.in_ok-ready.ensures.fresh c.in_ok-ready.ensures.up c.in-Some-2.text.items (sym c.in_default.ensures) fit)
    refl (λ es k h. (c.in-Some-2.text.items, fit, h)) c.in_ok-send.ensures.does

pub returns-in_err-ready : goal.returns-in_err-ready
returns-in_err-ready g c =
    refused_at_once g.D.TurnDesk.answers_after c.self.inside.desk c.self.inside.state c.self.inside.spent c.args.self.now (send (content c.args.message.now)) c.in_err-ready.field-0.0 c.from_residual.result
    c.self.view_is (λ down. down) c.in_err-ready.ensures.refused c.from_residual.ensures.1

pub returns-in_err-text : goal.returns-in_err-text
returns-in_err-text g c =
    out_of_memory g.D.TurnDesk.answers_after c.self.inside.desk c.self.inside.state c.self.inside.state c.self.inside.spent c.args.self.now (send (content c.args.message.now)) c.from_residual-in_err-text.result
    c.self.view_is (send_memory c.self.inside.spent c.self.inside.state (content c.args.message.now) c.in_ok-ready.ensures.fresh c.in_ok-ready.ensures.up (sym c.in_default.ensures)) c.from_residual-in_err-text.ensures.1

pub returns-in_err-send : goal.returns-in_err-send
returns-in_err-send g c =
    out_of_memory g.D.TurnDesk.answers_after c.self.inside.desk c.self.inside.state c.send.new.self c.self.inside.spent c.args.self.now (send (content c.args.message.now)) c.from_residual-in_err-send.result
    c.self.view_is (send_memory c.self.inside.spent c.self.inside.state (content c.args.message.now) c.in_ok-ready.ensures.fresh c.in_ok-ready.ensures.up (sym c.in_default.ensures)) c.from_residual-in_err-send.ensures.1

pub invariant_of-self-in_default-2 : goal.invariant_of-self-in_default-2
invariant_of-self-in_default-2 g c = λ b. c.self.invariant c.in_ok-ready.ensures.fresh

pub returns-in_default-2 : goal.returns-in_default-2
returns-in_default-2 g c =
    let long : fitting_text c.self.inside.state.settings (content c.args.message.now).item ≡ None =
    ap (λ item. fitting_text c.self.inside.state.settings item) (sym c.item.ensures) ∙ sym c.in_ok-text.ensures.value ∙ none_through (λ octets. octets.items) c.in_ok-text.field-0 c.in_default-2.not-Some in
    too_long_refused c.self.inside.desk c.self.inside.state c.self.inside.spent c.args.self.now (content c.args.message.now) c.in_ok-ready.ensures.fresh c.self.view_is c.in_ok-ready.ensures.up (sym c.in_default.ensures) long

pub invariant_of-self-2 : goal.invariant_of-self-2
invariant_of-self-2 g c = λ b. c.in_ok-send.ensures.sound

pub send-requires-clause-sound : goal.send-requires-clause-sound
send-requires-clause-sound g c = c.self.invariant c.in_ok-ready.ensures.fresh

pub send-requires-clause-unhindered : goal.send-requires-clause-unhindered
send-requires-clause-unhindered g c = sym c.in_default.ensures

pub send-requires-clause-fits : goal.send-requires-clause-fits
send-requires-clause-fits g c =
    ap (λ item. fitting_text c.self.inside.state.settings item) (sym c.item.ensures) ∙ sym c.in_ok-text.ensures.value ∙ ap (λ text. option_map (λ octets. octets.items) text) c.in-Some-2.is

pub send-requires-clause-encoded_bytes : goal.send-requires-clause-encoded_bytes
send-requires-clause-encoded_bytes g c = subst (λ text. IfSome text (λ octets. IsText c.self.inside.state.settings.depth octets.items)) c.in-Some-2.is c.in_ok-text.ensures.encoded_bytes

pub invariant_of-self-in_err-send : goal.invariant_of-self-in_err-send
invariant_of-self-in_err-send g c = λ b. absurd (let d : true ≡ false = b in cc)
