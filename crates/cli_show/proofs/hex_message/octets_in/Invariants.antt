use Rattle.std.proofs.Common.{◌≡◌, length}
use Rattle.cli_show.specs.InnerReadAhead.{subsequent}
use Rattle.cli_show.specs.ShowHex.{decoded_octets}
use Rattle.cli_show.proofs.hex_message.octets_in.Given as goal

-- The bytes so far, and after them those of what is left.
abbrev pub invariant-loop-first : goal.invariant-loop-first
invariant-loop-first l = decoded_octets l.text ≡ subsequent l.octets.items (decoded_octets l.rest)

abbrev pub decreases-loop-first : goal.decreases-loop-first
decreases-loop-first l = length l.rest
