-- The answers of a message handler with replies of its own. In SEMI E5 a reply has the stream of its primary and its
-- function plus one, and function 0 aborts. The W bit of a reply is not considered.
use Rattle.std.specs.Prelude.{◌≡◌, ℕ, ◌==◌, ◌+◌, ◌-◌, Bool, ◌&&◌, List, [], ◌∷◌, filter, Option, Some, None, is_some, unwrap_or, if◌then◌else◌, Vec}
use Rattle.std.specs.Option.{option_map_or}
use Rattle.indexmap.specs.IndexMap.{IndexMap, get}
use Rattle.secs_text.specs.declared.message.Message.{Message}
use Rattle.secs_text.specs.Content.{Content}
use Rattle.secs_text.specs.View.{content}
use Rattle.hsms_endpoint.specs.Answer.{Answered, replies, quiet}
use Rattle.hsms_ends.specs.declared.script_replies.Replies.{Replies}

-- True if a message has this stream and function.
abbrev pub has_head : ℕ → ℕ → Message → Bool
has_head stream function message = ((content message).stream == stream) && ((content message).function == function)

-- The messages in the map with this stream and function.
abbrev pub with_head : {A S : Type 0} → IndexMap (ℕ × ℕ) (Vec Message A) S → ℕ → ℕ → List Message
with_head groups stream function =
    option_map_or (λ group. group.items) (get (λ x y. (x.0 == y.0) && (x.1 == y.1)) groups (stream, function)) []

-- The replies with this stream and function.
abbrev pub replies_with : Replies → ℕ → ℕ → List Message
replies_with grouped stream function = with_head grouped.groups stream function

-- Holds if these are the messages of the script, by stream and function, each in the order of the script.
abbrev pub IsGrouped : List Message → Replies → Type 0
IsGrouped script grouped =
    (stream function : ℕ) → replies_with grouped stream function ≡ filter (has_head stream function) script

-- The item of the reply, if there is one. Otherwise nothing if the primary is aborted; otherwise the answer of the
-- other handler.
abbrev pub scripted_by : Option Message → Bool → Answered → Answered
scripted_by (Some reply) is_aborted own = replies (content reply).item
scripted_by None is_aborted own = if is_aborted then quiet else own

-- The element that is used after n others: each in order, and then the last one repeats.
abbrev pub in_turn : {X : Type 0} → ℕ → List X → Option X
in_turn before [] = None
in_turn before (x ∷ xs) = Some (if before == 0 then x else unwrap_or (in_turn (before - 1) xs) x)

-- The item of the reply that is next among those that answer the primary.
abbrev pub scripted_answer : Replies → (Content → Answered) → ℕ → Content → Answered
scripted_answer grouped own before primary =
    scripted_by (in_turn before (replies_with grouped primary.stream (primary.function + 1)))
    (is_some (in_turn 0 (replies_with grouped primary.stream 0))) (own primary)
