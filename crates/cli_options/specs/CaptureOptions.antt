-- The options of `hsms capture`, and what they request.
use Rattle.std.specs.Prelude.{◌≡◌, ◌≤◌, ◌++◌, List, [], ◌∷◌, codes, Bool, true, false, IsTrue, Option, Some, None, unwrap_or, ⊤}
use Rattle.std.specs.Net.Grammar.{IsIpText}
use Rattle.std.specs.declared.net.ip_addr.IpAddr.{IpAddr}
use Rattle.clap.specs.Words.{Row, Rule, Text, first_of}
use Rattle.hsms_machine.specs.declared.settings.Role.{Role}
use Rattle.hsms_machine.specs.declared.settings.Role.TheVariants.{Host, Equipment}
use Rattle.hsms_machine.specs.declared.settings.Side.{Side}
use Rattle.hsms_machine.specs.declared.settings.Side.TheVariants.{Active, Passive}
use Rattle.hsms_machine.specs.Settings.{Parameters}
use Rattle.cli_options.specs.declared.capture_options.Capturing.{Capturing}
use Rattle.cli_options.specs.OptionValues.{IsFlag, Number, depth_number, device_number, flag_option, max_number, number_in, operands, option_of, text_option}
use Rattle.cli_options.specs.ServeOptions.{HasNumbers, role_word, time_rules}

-- ---- the options

-- The TCP port of the listening end.
abbrev pub captured_number : Number
captured_number = record { name = codes "port"; least = 1; greatest = 65535; left_out = Some 5000 }

abbrev pub place_rules : List Rule
place_rules =
    option_of captured_number ∷ text_option (codes "peer") ∷ text_option (codes "active") ∷ text_option (codes "log")
    ∷ text_option (codes "format") ∷ flag_option (codes "midstream") ∷ option_of device_number ∷ []

abbrev pub size_rules : List Rule
size_rules = option_of max_number ∷ option_of depth_number ∷ []

abbrev pub capture_rules : List Rule
capture_rules = operands (codes "FILE") ∷ place_rules ++ (time_rules ++ size_rules)

-- ---- what they request

-- The role of the other end of a connection.
abbrev pub other_role : Role → Role
other_role Host = Equipment
other_role Equipment = Host

-- Holds if the text of the option `peer`, if any, is this address, if any.
abbrev pub IsPeer : Option Text → Option IpAddr → Type 0
IsPeer None None = ⊤
IsPeer (Some text) (Some address) = IsIpText text address
IsPeer _ _ = ⊥

abbrev pub HasPeer : List Row → Option IpAddr → Type 0
HasPeer rows peer = IsPeer (first_of (codes "peer") rows) peer

-- The text of the option `log`, if any, that requests the log of this role, or none.
abbrev pub log_word : Option Role → Option Text
log_word None = None
log_word (Some role) = Some (role_word role)

-- The name of the format of verdicts: lines of text, or JSON objects.
abbrev pub verdict_form_word : Bool → Text
verdict_form_word false = codes "text"
verdict_form_word true = codes "json"

-- Holds if the option `format` names this format. A log is text.
abbrev pub HasVerdictForm : List Row → Bool → Type 0
HasVerdictForm rows json =
    (unwrap_or (first_of (codes "format") rows) (codes "text") ≡ verdict_form_word json)
    × (IsTrue json → first_of (codes "log") rows ≡ None)

-- Holds if the connecting end has this role: that of the option `active`, by default host.
abbrev pub HasActive : List Row → Role → Type 0
HasActive rows role = unwrap_or (first_of (codes "active") rows) (codes "host") ≡ role_word role

-- Holds if the matches have these settings of an end with this role and side, for a log of several connections.
abbrev pub HasEnd : List Row → Role → Side → Parameters → Type 0
HasEnd rows role link s = (s.version ≡ 2) × (s.role ≡ role) × (s.link ≡ link) × HasNumbers rows s

-- Holds if the matches request this of a capture. One end is as the option says, and the other end is the opposite.
abbrev pub HasCapturing : List Row → Capturing → Type 0
HasCapturing rows capturing =
    (number_in captured_number rows ≡ Some capturing.port) × HasPeer rows capturing.peer
    × (first_of (codes "log") rows ≡ log_word capturing.log) × HasActive rows capturing.active.role × HasEnd rows capturing.active.role Active capturing.active
    × HasEnd rows (other_role capturing.active.role) Passive capturing.passive × IsFlag (codes "midstream") rows capturing.joined
    × HasVerdictForm rows capturing.json

-- Holds if its port is within its limits. The numbers of settings are within theirs by their type.
abbrev pub IsCapturingWithinLimits : Capturing → Type 0
IsCapturingWithinLimits capturing = (1 ≤ capturing.port) × (capturing.port ≤ 65535)
