use Rattle.std.proofs.Common.{◌≡◌, map, take}
use Rattle.hsms_compare_repair.specs.declared.numbered_frame.NumberedFrame.{NumberedFrame}
use Rattle.hsms_compare_repair.proofs.facts.lines_of.Given as goal

abbrev pub invariant-loop-frame : goal.invariant-loop-frame
invariant-loop-frame l = l.lines.items ≡ map (λ (frame : NumberedFrame). frame.line) (take l.frame-index l.frames)
