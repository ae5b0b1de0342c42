use Rattle.std.proofs.Common.{take}
use Rattle.std.specs.List.{flat_map}
use Rattle.hsms_log.specs.InnerWriting.{HasWritten, spaced}
use Rattle.hsms_log.proofs.writing.put_numbers.Given as goal

-- The numbers that were passed are written.
abbrev pub invariant-loop-number : goal.invariant-loop-number
invariant-loop-number g l =
    HasWritten (g.W.Sink.state l.initial.sink) (g.W.Sink.state l.sink) (flat_map spaced (take l.number-index l.numbers))
