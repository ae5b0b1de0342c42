use Rattle.std.proofs.Common.{◌≡◌, ◌+◌, ◌-◌, vec_len}
use Rattle.cli_filters.proofs.CompleteLines.{ReadSoFar}
use Rattle.cli_filters.proofs.read_input.read_past.Given as goal

-- What was read so far is a prefix of the input, and its end was not found.
abbrev pub invariant-loop-source : goal.invariant-loop-source
invariant-loop-source g l =
    ReadSoFar (g.R.Source.state l.initial.source).left (g.R.Source.state l.source).left l.octets.items
    × (vec_len l.block ≡ 65536)
    × ((g.R.Source.state l.source).ends ≡ (g.R.Source.state l.initial.source).ends)
    × ((g.R.Source.state l.source).failures ≡ (g.R.Source.state l.initial.source).failures)

abbrev pub decreases-loop-source : goal.decreases-loop-source
decreases-loop-source g l = l.limit + 1 - vec_len l.octets
