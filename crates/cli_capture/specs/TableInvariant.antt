-- The connections that are kept, as those of the definition.
use Rattle.std.specs.Prelude.{Bool, true, false, if◌then◌else◌, Option, Some, None}
use Rattle.hsms_machine.specs.Settings.{Parameters}
use Rattle.hsms_machine.specs.declared.settings.Role.{Role}
use Rattle.hsms_machine.specs.declared.settings.Role.TheVariants as role
use Rattle.cli_options.specs.declared.capture_options.Capturing.{Capturing}
use Rattle.capture_tcp.specs.declared.packet.Side.TheVariants.{Active, Passive}
use Rattle.cli_capture.specs.FileDispatch.{Wanted}
use Rattle.cli_capture.specs.OutputMode.{Way, to_log, to_verdicts}

-- ---- the same of packets of a file

abbrev pub same_role : Role → Role → Bool
same_role role.Host role.Host = true
same_role role.Host role.Equipment = false
same_role role.Equipment role.Host = false
same_role role.Equipment role.Equipment = true

-- what is told: verdicts, or the log of the end that has a role, the active one where both have it
abbrev pub way_by : Option Role → Parameters → Parameters → Way
way_by None a p = to_verdicts
way_by (Some r) a p = if same_role r a.role then to_log a Active else to_log p Passive

abbrev pub way_of : Capturing → Way
way_of options = way_by options.log options.active options.passive

-- what is audited or written, by the options
abbrev pub wanted_of : Capturing → Wanted
wanted_of options =
    record { port = options.port; peer = options.peer; way = way_of options; active = options.active; passive = options.passive; joined = options.joined }
