use Rattle.std.proofs.Common.{◌≡◌, []}
use Rattle.secs_text.specs.Fault.{any_messages}
use Rattle.secs_text.specs.InnerRemainingTokens.{left, octets_left}
use Rattle.secs_text.specs.ParserStates.{walk, start}
use Rattle.secs_text.specs.View.{contents}
use Rattle.secs_text.proofs.reading.read_several.Given as goal

abbrev pub invariant-loop-messages : goal.invariant-loop-messages
invariant-loop-messages l = walk (any_messages l.depth) (start []) (left l.initial.tokens) ≡ walk (any_messages l.depth) (start (contents l.messages.items)) (left l.tokens)

abbrev pub decreases-loop-messages : goal.decreases-loop-messages
decreases-loop-messages l = octets_left l.tokens
