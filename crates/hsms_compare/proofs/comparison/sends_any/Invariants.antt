use Rattle.std.proofs.Common.{◌≡◌, length, take}
use Rattle.hsms_compare.specs.Conversation.{sent}
use Rattle.hsms_compare.proofs.comparison.sends_any.Given as goal

abbrev pub invariant-loop-entry : goal.invariant-loop-entry
invariant-loop-entry l = length (sent (take l.entry-index l.log)) ≡ 0
