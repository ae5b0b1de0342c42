-- The line with the verdict on the log of an endpoint, or without one.
use Rattle.std.specs.Prelude.{ℕ, Option, None, Some, List, [], ◌∷◌, ◌++◌, codes, decimal}
use Rattle.std.specs.Net.Text.{socket_text}
use Rattle.std.specs.declared.net.socket_addr.SocketAddr.{SocketAddr}
use Rattle.hsms_machine.specs.declared.settings.Role.{Role}
use Rattle.hsms_log.specs.LineFormat.{role_word}
use Rattle.hsms_log.specs.declared.verdict.Why.TheVariants.{Unreadable, Broken}
use Rattle.hsms_log.specs.declared.verdict.Verdict.{Verdict}
use Rattle.hsms_log.specs.declared.verdict.Verdict.TheVariants.{Pass, Fail}
use Rattle.hsms_machine.specs.Rule.{rule_name}
use Rattle.cli_output.specs.Verdict.{verdict_line_of}
use Rattle.capture_tcp.specs.declared.packet.Side.{Side}
use Rattle.capture_tcp.specs.declared.packet.Side.TheVariants.{Active, Passive}
use Rattle.capture_log.specs.declared.audited_log.LogVerdict.{LogVerdict}
use Rattle.capture_log.specs.declared.socket_pair.Pair.{Pair}
use Rattle.capture_events.specs.declared.incomplete.Shortfall.{Shortfall}
use Rattle.capture_events.specs.declared.incomplete.Shortfall.TheVariants.{Lost, Differs, Length, Full, Time, File}

-- An address and its port, as 10.0.0.1:40000 or [fe80::1]:40000.
unfoldable pub address_text : SocketAddr → List ℕ
address_text address = socket_text address

abbrev pub side_word : Side → List ℕ
side_word Active = codes "active"
side_word Passive = codes "passive"

-- The addresses of both endpoints, the active one's first, and the role and side of the endpoint of the line.
abbrev pub front_of : Pair → Role → Side → List ℕ
front_of pair role side =
    address_text pair.active ++ codes " " ++ address_text pair.passive ++ codes " " ++ role_word role ++ codes " " ++ side_word side
    ++ codes ":"

-- The packet of a shortfall.
abbrev pub packet_of : Shortfall → ℕ
packet_of (Lost packet) = packet
packet_of (Differs packet) = packet
packet_of (Length packet) = packet
packet_of (Full packet) = packet
packet_of (Time packet) = packet
packet_of (File fault packet) = packet

abbrev pub shortfall_words : Option Shortfall → List ℕ
shortfall_words None = []
shortfall_words (Some shortfall) = codes " incomplete packet=" ++ decimal (packet_of shortfall)

-- The failing line, and its packet.
abbrev pub place_words : ℕ → ℕ → List ℕ
place_words line packet = codes "fail line=" ++ decimal line ++ codes " packet=" ++ decimal packet

-- A verdict, with the line's end. A failure has the packet of the failing line.
abbrev pub verdict_line_at : Verdict → ℕ → List ℕ
verdict_line_at (Pass summary) packet = verdict_line_of (Pass summary)
verdict_line_at (Fail line Unreadable) packet = place_words line packet ++ codes " unreadable\n"
verdict_line_at (Fail line (Broken rule)) packet = place_words line packet ++ codes " rule=" ++ rule_name rule ++ 10 ∷ []

abbrev pub verdict_line_by : Verdict → Option ℕ → List ℕ
verdict_line_by verdict None = verdict_line_of verdict
verdict_line_by verdict (Some packet) = verdict_line_at verdict packet

-- The verdict on the log, or none if the connection never came up.
abbrev pub verdict_words : Option LogVerdict → List ℕ
verdict_words None = 10 ∷ []
verdict_words (Some verdict) = 32 ∷ verdict_line_by verdict.verdict verdict.packet

-- The line of an endpoint.
abbrev pub end_line_of : Pair → Role → Side → Option Shortfall → Option LogVerdict → List ℕ
end_line_of pair role side shortfall verdict = front_of pair role side ++ shortfall_words shortfall ++ verdict_words verdict
