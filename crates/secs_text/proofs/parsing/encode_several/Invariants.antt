use Rattle.secs_text.specs.InnerRemainingTokens.{left, octets_left}
use Rattle.secs_text.specs.InnerEncodedText.{GivenSoFar}
use Rattle.secs_text.proofs.parsing.encode_several.Given as goal

abbrev pub invariant-loop-encoded_form : goal.invariant-loop-encoded_form
invariant-loop-encoded_form g l = GivenSoFar l.depth (left l.initial.tokens) (left l.tokens) (λ kept. g.R.Receiver.Given kept l.fn.receiver) (λ kept. g.R.Receiver.Given kept l.receiver)

abbrev pub decreases-loop-encoded_form : goal.decreases-loop-encoded_form
decreases-loop-encoded_form g l = octets_left l.tokens
