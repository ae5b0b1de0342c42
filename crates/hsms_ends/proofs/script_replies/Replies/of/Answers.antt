use Rattle.std.proofs.Common.{◌≡◌, ◌++◌, ◌∷◌, [], length, vec_len, filter, if◌then◌else◌, rules, ◌∙◌, ap, sym, map-id}
use Rattle.std.specs.Map.{lookup}
use Rattle.std.specs.Option.{option_map_or}
use Rattle.std.proofs.lemmas.Iterator.Adapters.{YieldsList-from_vec}
use Rattle.std.proofs.lemmas.Iterator.Consumers.{YieldsList-end}
use Rattle.std.proofs.lemmas.List.Elements.{filter-append}
use Rattle.hsms_ends.specs.ScriptedDesk.{has_head}
use Rattle.hsms_ends.proofs.ScriptReplies.{same_head}
use Rattle.hsms_ends.proofs.script_replies.Replies.of.Goals as goal

-- src/script_replies.rt:29:9
pub loop-message-init : goal.loop-message-init
loop-message-init c stream function = ap (λ es. option_map_or (λ g. g.items) (lookup (same_head (stream, function)) es) []) c.new-groups.ensures.empty

-- src/script_replies.rt:29:9
pub loop-message-preserved : goal.loop-message-preserved
loop-message-preserved c stream function =
    c.in_ok-add.ensures stream function
    ∙ ap (λ kept. kept ++ (if has_head stream function c.in-Some.message then c.in-Some.message ∷ [] else [])) (c.loop-message.invariant stream function)
    ∙ sym (filter-append (has_head stream function) c.loop-message.yielded (c.in-Some.message ∷ []))

-- src/script_replies.rt:25:5
pub returns : goal.returns
returns c stream function =
    let len : vec_len c.args.messages ≡ length c.args.messages.items = search rules in
    let all = YieldsList-from_vec {s = c.into_iter-message-iterator.result} c.args.messages.items c.into_iter-message-iterator.ensures.into_iter_gives.0 (c.into_iter-message-iterator.ensures.into_iter_gives.1 ∙ len) in
    let end = YieldsList-end all c.loop-message.yielded c.loop-message.message-iterator c.loop-message.yielded_by c.next.result c.next.new.self c.in-None.is c.next.ensures.steps in
    c.loop-message.invariant stream function ∙ ap (filter (has_head stream function)) (sym (map-id c.loop-message.yielded) ∙ end.0)
