use Rattle.std.proofs.Common.{◌≡◌, sym, ap, ◌∙◌}
use Rattle.std.proofs.lemmas.Result.{on_ok_weaker}
use Rattle.secs_item.specs.Item.{values, u2, u4, u8, f4, f8, view}
use Rattle.secs_item.proofs.Views.{view-U2, view-U4, view-U8, view-F4, view-F8}
use Rattle.secs_item.proofs.ShortestEncodings.{is_body}
use Rattle.secs_item.proofs.encoding.push_body.Goals as goal

pub returns-in-U2-clause-in_range : goal.returns-in-U2-clause-in_range
returns-in-U2-clause-in_range c =
    let view_is : view c.args.item.now ≡ values (u2 c.deref-in-U2.result.now) = ap view c.in-U2.is ∙ view-U2 c.in-U2.values ∙ ap (λ xs. values (u2 xs)) (sym c.deref-in-U2.ensures.value) in
    on_ok_weaker c.push_values-in-U2.result (is_body _ _ view_is) c.push_values-in-U2.ensures.in_range

pub returns-in-U4-clause-in_range : goal.returns-in-U4-clause-in_range
returns-in-U4-clause-in_range c =
    let view_is : view c.args.item.now ≡ values (u4 c.deref-in-U4.result.now) = ap view c.in-U4.is ∙ view-U4 c.in-U4.values ∙ ap (λ xs. values (u4 xs)) (sym c.deref-in-U4.ensures.value) in
    on_ok_weaker c.push_values-in-U4.result (is_body _ _ view_is) c.push_values-in-U4.ensures.in_range

pub returns-in-U8-clause-in_range : goal.returns-in-U8-clause-in_range
returns-in-U8-clause-in_range c =
    let view_is : view c.args.item.now ≡ values (u8 c.deref-in-U8.result.now) = ap view c.in-U8.is ∙ view-U8 c.in-U8.values ∙ ap (λ xs. values (u8 xs)) (sym c.deref-in-U8.ensures.value) in
    on_ok_weaker c.push_values-in-U8.result (is_body _ _ view_is) c.push_values-in-U8.ensures.in_range

pub returns-in-F4-clause-in_range : goal.returns-in-F4-clause-in_range
returns-in-F4-clause-in_range c =
    let view_is : view c.args.item.now ≡ values (f4 c.deref-in-F4.result.now) = ap view c.in-F4.is ∙ view-F4 c.in-F4.values ∙ ap (λ xs. values (f4 xs)) (sym c.deref-in-F4.ensures.value) in
    on_ok_weaker c.push_values-in-F4.result (is_body _ _ view_is) c.push_values-in-F4.ensures.in_range

pub returns-in-F8-clause-in_range : goal.returns-in-F8-clause-in_range
returns-in-F8-clause-in_range c =
    let view_is : view c.args.item.now ≡ values (f8 c.deref-in-F8.result.now) = ap view c.in-F8.is ∙ view-F8 c.in-F8.values ∙ ap (λ xs. values (f8 xs)) (sym c.deref-in-F8.ensures.value) in
    on_ok_weaker c.push_values-in-F8.result (is_body _ _ view_is) c.push_values-in-F8.ensures.in_range
