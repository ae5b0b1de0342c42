use Rattle.std.proofs.Common.{map, take}
use Rattle.hsms_endpoint.specs.Drive.{input_event}
use Rattle.hsms_endpoint.specs.InnerDriving.{HasDriven}
use Rattle.hsms_endpoint.proofs.driving.drive.Given as goal

abbrev pub invariant-loop-input : goal.invariant-loop-input
invariant-loop-input g l = HasDriven g.D.TurnDesk.answers_after l.fn.settings l.fn.desk l.fn.first_system (map input_event (take l.input-index l.inputs)) l.entries.items l.end
