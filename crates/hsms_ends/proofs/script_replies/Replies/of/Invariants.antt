use Rattle.std.proofs.Common.{◌≡◌, ℕ, filter}
use Rattle.hsms_ends.specs.ScriptedDesk.{has_head, with_head}
use Rattle.hsms_ends.proofs.script_replies.Replies.of.Given as goal

abbrev pub invariant-loop-message : goal.invariant-loop-message
invariant-loop-message l = (stream function : ℕ) → with_head l.groups stream function ≡ filter (has_head stream function) l.yielded
