use Rattle.std.proofs.Common.{◌≡◌, ◌≤◌, length, take}
use Rattle.hsms_compare.specs.Conversation.{sent}
use Rattle.hsms_compare.proofs.tracing.sent_before.Given as goal

abbrev pub invariant-loop-i : goal.invariant-loop-i
invariant-loop-i l = record {
  counted : l.count ≡ length (sent (take l.i l.log));
  few : l.count ≤ l.i;
}
