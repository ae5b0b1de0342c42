use Rattle.std.proofs.Common.{◌≡◌, ◌++◌, drop, length, take}
use Rattle.cli_serve.specs.Comments.{blanked_after, without_comments}
use Rattle.cli_serve.proofs.comments.without_comments.Given as goal

-- The bytes so far as they are read, and then the rest.
abbrev pub invariant-loop-octet : goal.invariant-loop-octet
invariant-loop-octet l =
    (length l.octet-items ≡ l.octet-index-end)
    × (take l.octet-index l.octet-items ++ blanked_after l.part (drop l.octet-index l.octet-items) ≡ without_comments l.fn.script.items)
