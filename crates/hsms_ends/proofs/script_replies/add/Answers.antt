use Rattle.std.proofs.Common.{◌++◌, ◌∷◌, ◌∙◌, [], List, Option, Vec, Global, ap, sym}
use Rattle.std.specs.Option.{option_map_or}
use Rattle.secs_text.specs.declared.message.Message.{Message}
use Rattle.hsms_ends.proofs.ScriptReplies.{group_grows}
use Rattle.hsms_ends.proofs.script_replies.add.Goals as goal
use Rattle.hsms_ends.proofs.script_replies.add.Goals.{in-Some, in-None}

-- src/script_replies.rt:54:1
pub returns : goal.returns
returns c =
    let more : List Message → List Message = λ xs. xs ++ (c.args.message ∷ []) in
    let items_or : Option (Vec Message Global) → List Message = λ o. option_map_or (λ g. g.items) o [] in
    group_grows c.args.groups.now c.swap_remove.new.self c.insert.new.self c.stream.result c.from.result c.push.new.self c.args.message
    c.swap_remove.ensures.updates.0 c.in_ok-insert.ensures.updates.0
    (elim c.match-swap_remove.branch [
      | in-Some w ↦ c.in_ok-push.ensures.items ∙ ap (λ (g : Vec Message Global). more g.items) w.group-is
          ∙ ap (λ o. more (items_or o)) (sym w.in-Some.is ∙ c.swap_remove.ensures.value)
      | in-None w ↦ c.in_ok-push.ensures.items ∙ ap (λ (g : Vec Message Global). more g.items) w.group-is
          ∙ ap more w.new-group.ensures.items
          ∙ ap (λ o. more (items_or o)) (sym w.in-None.is ∙ c.swap_remove.ensures.value)
    ])
    c.stream.ensures.value (c.from.ensures ∙ c.function.ensures)
