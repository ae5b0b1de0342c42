use Rattle.std.proofs.Common.{◌≡◌, ◌+◌, Bool, false, List, ℕ, Option, Some, option_map, ap, sym, ◌∙◌, if◌then◌else◌}
use Rattle.secs_item.specs.Item.{view}
use Rattle.hsms_frame.specs.Frame.{Frame}
use Rattle.hsms_frame.specs.Build.{data_header_of}
use Rattle.hsms_frame.specs.Header.{stream_of}
use Rattle.hsms_endpoint.specs.Frame.{abort_of, reply_with, fitting_text}
use Rattle.hsms_endpoint.proofs.Messages.{differ}
use Rattle.hsms_endpoint.proofs.state.State.reply_frame.Goals as goal

pub returns-clause-exact : goal.returns-clause-exact
returns-clause-exact c =
    let fit : fitting_text c.args.self.now.settings (option_map (λ i. view i.now) c.args.item) ≡ Some c.in-Some.text.items =
    sym c.in_ok-text.ensures.value ∙ ap (λ text. option_map (λ octets. octets.items) text) c.in-Some.is in
    let built : ◌≡◌ {A = Frame} (record { header = c.data_header-header.result; text = c.in-Some.text.items }) (record { header = data_header_of c.args.self.now.settings.device (stream_of c.args.header) (c.args.header.byte3 + 1) false c.args.header.system; text = c.in-Some.text.items }) =
    (let e1 = c.data_header-header.ensures in let e2 = c.device-device.ensures.value in let e3 = c.stream.ensures in cc) in
    built
    ∙ ap (λ (text : Option (List ℕ)). reply_with c.args.self.now.settings c.args.header text) (sym fit)
    ∙ ap (λ (b : Bool). if b then abort_of c.args.self.now.settings c.args.header else reply_with c.args.self.now.settings c.args.header (fitting_text c.args.self.now.settings (option_map (λ i. view i.now) c.args.item))) (sym (differ c.args.header.byte3 255 c.if-header-eq255.false))
