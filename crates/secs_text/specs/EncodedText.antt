-- Encoding of a part of a text to bytes: the shortest encoding of what was read is appended (SEMI E5; the notation is
-- project-specific).
use Rattle.std.specs.Prelude.{◌≡◌, ℕ, List, [], Option, Some, None, option_map}
use Rattle.secs_item.specs.Item.{Value}
use Rattle.secs_item.specs.ShortestEncoding.{short}
use Rattle.secs_text.specs.Content.{Content}
use Rattle.std.proofs.Common.{Bor}
use Rattle.secs_text.specs.declared.printing.messages.Head.{Head}

-- ---- messages

-- The message text in the fewest bytes. It is empty if the message has no item.
abbrev pub text_of : Option Value → Option (List ℕ)
text_of None = Some []
text_of (Some v) = short v

abbrev pub IsEncoded : Option Value → Option (Bor (List ℕ)) → Type 0
IsEncoded item text = text_of item ≡ option_map (λ t. t.now) text

-- The message with this head and this item.
abbrev pub headed_by : Head → Option Value → Content
headed_by head item = record { stream = head.stream; function = head.function; wait = head.wait; item = item }
