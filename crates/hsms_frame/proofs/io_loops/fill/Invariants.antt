use Rattle.std.proofs.Common.{length, ◌-◌, ◌≡◌, ◌≤◌, ◌+◌}
use Rattle.hsms_frame.specs.Io.{Takes}
use Rattle.hsms_frame.specs.Frame.{IsOctets}
use Rattle.hsms_frame.proofs.io_loops.fill.Given as goal

-- What was read so far is at the front of the slice.
abbrev pub invariant-loop-filled : goal.invariant-loop-filled
invariant-loop-filled g l =
    (l.filled ≤ length l.into)
    × IsOctets l.into
    × Takes (g.R.Source.state l.initial.source).left (g.R.Source.state l.source).left l.filled l.into
    × ((g.R.Source.state l.source).pulls ≤ (g.R.Source.state l.initial.source).pulls + l.filled)
    × ((g.R.Source.state l.source).empty_pulls ≡ (g.R.Source.state l.initial.source).empty_pulls)
    × ((g.R.Source.state l.source).ends ≡ (g.R.Source.state l.initial.source).ends)
    × ((g.R.Source.state l.source).failures ≡ (g.R.Source.state l.initial.source).failures)

abbrev pub decreases-loop-filled : goal.decreases-loop-filled
decreases-loop-filled g l = length l.initial.into - l.filled
