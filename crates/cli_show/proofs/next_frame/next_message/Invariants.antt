use Rattle.std.proofs.Common.{◌≡◌, ◌-◌, length}
use Rattle.hsms_frame.specs.ReadAhead.{ReadsMore}
use Rattle.hsms_frame.specs.Io.{IfRecorded}
use Rattle.hsms_frame.specs.Framing.{FrontAs}
use Rattle.cli_show.proofs.next_frame.next_message.Given as goal

-- More was read after what was read before, the end was not found, and no read failed.
abbrev pub invariant-loop-found : goal.invariant-loop-found
invariant-loop-found g l =
    IfRecorded (g.R.Source.state l.initial.source).left (λ input. ReadsMore l.initial.ahead input l.ahead (g.R.Source.state l.source).left)
    × FrontAs l.max l.ahead l.found
    × ((g.R.Source.state l.source).ends ≡ (g.R.Source.state l.initial.source).ends)
    × ((g.R.Source.state l.source).failures ≡ (g.R.Source.state l.initial.source).failures)

-- Each part of a message is shorter than 4,294,967,310 bytes.
abbrev pub decreases-loop-found : goal.decreases-loop-found
decreases-loop-found g l = 4294967310 - length l.ahead
