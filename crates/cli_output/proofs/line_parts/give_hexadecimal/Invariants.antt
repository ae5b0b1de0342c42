use Rattle.std.proofs.Common.{◌≡◌, ◌++◌, ℕ, List, length}
use Rattle.hex.specs.Hex.{encode_lower}
use Rattle.secs_text.specs.BlockOutput.{AppendsBytes}
use Rattle.cli_output.proofs.line_parts.give_hexadecimal.Given as goal

-- The digits of the bytes that were passed are given.
abbrev pub invariant-loop-front : goal.invariant-loop-front
invariant-loop-front g l =
    (done : List ℕ) × (l.octets ≡ done ++ l.rest) × AppendsBytes (g.O.Output.Given l.initial.out) l.initial.block (g.O.Output.Given l.out) l.block (encode_lower done)

abbrev pub decreases-loop-front : goal.decreases-loop-front
decreases-loop-front g l = length l.rest
