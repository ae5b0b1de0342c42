-- The line that tells the verdict on the log of an end, or that it has none.
use Rattle.std.specs.Prelude.{ℕ, Option, None, Some, List, [], ◌∷◌, ◌++◌, codes, decimal}
use Rattle.std.specs.Net.Text.{socket_text}
use Rattle.std.specs.declared.net.socket_addr.SocketAddr.{SocketAddr}
use Rattle.hsms_machine.specs.declared.settings.Role.{Role}
use Rattle.hsms_log.specs.LineFormat.{role_word}
use Rattle.hsms_log.specs.declared.verdict.Why.TheVariants.{Unreadable, Broken}
use Rattle.hsms_log.specs.declared.verdict.Verdict.{Verdict}
use Rattle.hsms_log.specs.declared.verdict.Verdict.TheVariants.{Pass, Fail}
use Rattle.hsms_machine.specs.Rule.{rule_name}
use Rattle.cli_output.specs.Verdict.{verdict_line_of}
use Rattle.capture_tcp.specs.declared.packet.Side.{Side}
use Rattle.capture_tcp.specs.declared.packet.Side.TheVariants.{Active, Passive}
use Rattle.capture_log.specs.declared.audited_log.LogVerdict.{LogVerdict}
use Rattle.capture_log.specs.declared.socket_pair.Pair.{Pair}
use Rattle.capture_errors.specs.Errors.{packet_of}
use Rattle.capture_errors.specs.declared.incomplete.Shortfall.{Shortfall}

-- an address and its port, as 10.0.0.1:40000 or [fe80::1]:40000
unfoldable pub address_text : SocketAddr → List ℕ
address_text address = socket_text address

abbrev pub side_word : Side → List ℕ
side_word Active = codes "active"
side_word Passive = codes "passive"

-- the addresses of both ends, the active one's first, and the role and side of the end whose line it is
abbrev pub front_of : Pair → Role → Side → List ℕ
front_of pair role side =
    address_text pair.active ++ codes " " ++ address_text pair.passive ++ codes " " ++ role_word role ++ codes " " ++ side_word side
    ++ codes ":"

-- the packet that is named where something is missing
abbrev pub lack_words : Option Shortfall → List ℕ
lack_words None = []
lack_words (Some shortfall) = codes " incomplete packet=" ++ decimal (packet_of shortfall)

-- the line that fails, and its packet
abbrev pub place_words : ℕ → ℕ → List ℕ
place_words line packet = codes "fail line=" ++ decimal line ++ codes " packet=" ++ decimal packet

-- a verdict, with its end; where it is a failure with the packet of the line
abbrev pub verdict_line_at : Verdict → ℕ → List ℕ
verdict_line_at (Pass summary) packet = verdict_line_of (Pass summary)
verdict_line_at (Fail line Unreadable) packet = place_words line packet ++ codes " unreadable\n"
verdict_line_at (Fail line (Broken rule)) packet = place_words line packet ++ codes " rule=" ++ rule_name rule ++ 10 ∷ []

abbrev pub verdict_line_by : Verdict → Option ℕ → List ℕ
verdict_line_by verdict None = verdict_line_of verdict
verdict_line_by verdict (Some packet) = verdict_line_at verdict packet

-- what the audit says of the log, or nothing where the connection never came up
abbrev pub told_words : Option LogVerdict → List ℕ
told_words None = 10 ∷ []
told_words (Some emitted) = 32 ∷ verdict_line_by emitted.verdict emitted.packet

-- the line of an end
abbrev pub end_line_of : Pair → Role → Side → Option Shortfall → Option LogVerdict → List ℕ
end_line_of pair role side shortfall emitted = front_of pair role side ++ lack_words shortfall ++ told_words emitted
