-- What `hsms serve` reads of an input with `--send` or `--answer`.
use Rattle.std.specs.Prelude.{◌≡◌, ◌==◌, ◌<◌, ◌≤◌, ◌⊎◌, ◌++◌, ◌%◌, ◌&&◌, not, ℕ, Bool, List, [], ◌∷◌, Option, filter, map, length, if◌then◌else◌}
use Rattle.secs_text.specs.declared.fault.TextFault.TheVariants as text
use Rattle.secs_text.specs.declared.message.Message.{Message}
use Rattle.secs_text.specs.Fault.{NotesFault}
use Rattle.secs_text.specs.View.{content, contents}
use Rattle.hsms_ends.specs.declared.step.Step.{Step}
use Rattle.hsms_ends.specs.declared.step.Step.TheVariants.{Send, Separate}
use Rattle.cli_filters.specs.declared.encode_error.EncodeError.{EncodeError}
use Rattle.cli_filters.specs.declared.encode_error.EncodeError.TheVariants.{Input, Text, Read}
use Rattle.cli_filters.specs.Encode.{ParsesMessages, TakesAtMost, input_limit}
use Rattle.cli_serve.specs.declared.script.Script.{Script}
use Rattle.cli_serve.specs.Comments.{without_comments}

-- True if a message is a reply: the handler replies, and the function is even (SEMI E5, function).
abbrev pub is_reply : Bool → Message → Bool
is_reply answer message = answer && ((content message).function % 2 == 0)

-- The replies, in order.
abbrev pub replies_of : Bool → List Message → List Message
replies_of answer messages = filter (is_reply answer) messages

-- Every other message is sent. If the script is sent, the session is separated then.
abbrev pub steps_of : Bool → Bool → List Message → List Step
steps_of send answer messages =
    map (λ m. Send m) (filter (λ m. not (is_reply answer m)) messages) ++ (if send then Separate ∷ [] else [])

-- Holds if the input without its comments is the notation of messages, and the script has their replies and steps.
abbrev pub IsScript : ℕ → Bool → Bool → Script → List ℕ → Type 0
IsScript depth send answer script input =
    (messages : List Message) × ParsesMessages depth (without_comments input) (contents messages)
    × (script.replies.items ≡ replies_of answer messages) × (script.steps.items ≡ steps_of send answer messages)

-- Why no script was read, with what is left of the input: it is too long; it is not messages, or an allocation failed;
-- or a read failed.
abbrev pub IsNoScript : ℕ → List ℕ → EncodeError → Option (List ℕ) → Type 0
IsNoScript depth input Input left = input_limit < length input
IsNoScript depth input (Text fault) left =
    (fault ≡ text.Memory) ⊎ ((length input ≤ input_limit) × NotesFault (without_comments input) depth fault)
IsNoScript depth input Read left = TakesAtMost input_limit input left
IsNoScript depth input error left = ⊥
