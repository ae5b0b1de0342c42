-- What is told of a capture.
use Rattle.hsms_machine.specs.Settings.{Parameters}
use Rattle.capture_tcp.specs.declared.packet.Side.{Side}

-- what is told: verdicts, or the log of the end on this side, with these settings
pub data Way : Type 0 where
  to_verdicts : Way
  to_log : Parameters → Side → Way
