use Rattle.std.proofs.Common.{◌≡◌, ◌≤◌, length, take}
use Rattle.hsms_compare.specs.Conversation.{received}
use Rattle.hsms_compare.proofs.tracing.receipt.Given as goal

abbrev pub invariant-loop-i : goal.invariant-loop-i
invariant-loop-i l = record {
  counted : l.count ≡ length (received (take l.i l.log));
  few : l.count ≤ l.i;
  not_yet : l.count ≤ l.number;
}
