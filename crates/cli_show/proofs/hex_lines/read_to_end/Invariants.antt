use Rattle.std.proofs.Common.{◌≡◌, ◌+◌, ◌-◌, length}
use Rattle.hsms_frame.specs.Io.{IfRecorded}
use Rattle.cli_show.specs.ShowHex.{line_limit}
use Rattle.cli_show.specs.InnerShowHex.{IsPlaced}
use Rattle.cli_show.proofs.LineEnds.{EndsSoFar}
use Rattle.cli_show.proofs.hex_lines.read_to_end.Given as goal

-- More was read after what was read before, the end was not found, and no read failed.
abbrev pub invariant-loop-end : goal.invariant-loop-end
invariant-loop-end g l =
    IfRecorded (g.R.Source.state l.initial.source).left (λ input. EndsSoFar l.max l.initial.ahead input l.ahead (g.R.Source.state l.source).left l.end)
    × IsPlaced l.max l.ahead l.end
    × ((g.R.Source.state l.source).ends ≡ (g.R.Source.state l.initial.source).ends)
    × ((g.R.Source.state l.source).failures ≡ (g.R.Source.state l.initial.source).failures)

-- Bytes without a line's end are within the maximum length of a line.
abbrev pub decreases-loop-end : goal.decreases-loop-end
decreases-loop-end g l = line_limit l.max + 1 - length l.ahead
