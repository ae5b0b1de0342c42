use Rattle.std.proofs.Common.{◌≡◌, length, true, option_map, sym, ◌∙◌}
use Rattle.secs_item.specs.Item.{view}
use Rattle.hsms_endpoint.specs.Frame.{is_within_depth}
use Rattle.hsms_endpoint.proofs.Messages.{text_is_some, too_deep, short_enough, too_long, no_text, has_room, has_no_room}
use Rattle.hsms_endpoint.proofs.state.State.fitting_text.Goals.{in_default-via-in-Some+else-len-max, in_default-via-in_default}
use Rattle.hsms_endpoint.proofs.state.State.fitting_text.Goals as goal

pub returns-then-not-is_within_depth-clause-value : goal.returns-then-not-is_within_depth-clause-value
returns-then-not-is_within_depth-clause-value c =
    too_deep c.args.self.now.settings (option_map (λ i. view i.now) c.args.item) (sym c.is_within_depth.ensures ∙ c.if-not-is_within_depth.true)

pub returns-in-Some-clause-value : goal.returns-in-Some-clause-value
returns-in-Some-clause-value c =
    short_enough (λ octets. octets.items) c.args.self.now.settings (option_map (λ i. view i.now) c.args.item) (sym c.is_within_depth.ensures ∙ c.if-not-is_within_depth.false) c.in_ok-text.field-0 c.in-Some.text
    c.in_ok-text.ensures.value c.in-Some.is
    (has_room c.len.result c.max.result (length c.in-Some.text.items) c.args.self.now.settings.max (c.len.ensures ∙ c.in-Some.text.ok.0) c.max.ensures.value c.max.ensures.least c.if-len-max.true)

pub returns-in-Some-clause-encoded_bytes : goal.returns-in-Some-clause-encoded_bytes
returns-in-Some-clause-encoded_bytes c =
    text_is_some (λ octets. octets.items) c.args.self.now.settings.depth _ c.in_ok-text.field-0 c.in-Some.text (sym c.is_within_depth.ensures ∙ c.if-not-is_within_depth.false) c.in-Some.is c.in_ok-text.ensures.encoded_bytes

pub returns-in_default-clause-value : goal.returns-in_default-clause-value
returns-in_default-clause-value c =
    let item = option_map (λ i. view i.now) c.args.item in
    let shallow : is_within_depth c.args.self.now.settings.depth item ≡ true = sym c.is_within_depth.ensures ∙ c.if-not-is_within_depth.false in
    elim c.in_default.branch [
      | in_default-via-in-Some+else-len-max w ↦ too_long (λ octets. octets.items) c.args.self.now.settings item shallow c.in_ok-text.field-0 w.in-Some.text c.in_ok-text.ensures.value w.in-Some.is
          (has_no_room w.len.result w.max.result (length w.in-Some.text.items) c.args.self.now.settings.max (w.len.ensures ∙ w.in-Some.text.ok.0) w.max.ensures.value w.max.ensures.least w.if-len-max.false)
      | in_default-via-in_default w ↦ no_text (λ octets. octets.items) c.args.self.now.settings item shallow c.in_ok-text.field-0 c.in_ok-text.ensures.value w.in_default.not-Some
    ]
