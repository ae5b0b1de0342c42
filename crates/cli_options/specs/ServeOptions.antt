-- The options of `hsms serve`, and what they request.
use Rattle.std.specs.Prelude.{◌≡◌, ◌==◌, ◌++◌, ◌&&◌, ◌||◌, not, ℕ, Bool, true, List, [], ◌∷◌, codes, Some, None, is_some, option_map, unwrap_or}
use Rattle.clap.specs.Words.{Row, Rule, Text, first_of}
use Rattle.hsms_machine.specs.declared.settings.Role.{Role}
use Rattle.hsms_machine.specs.declared.settings.Role.TheVariants.{Host, Equipment}
use Rattle.hsms_machine.specs.declared.settings.Side.{Side}
use Rattle.hsms_machine.specs.declared.settings.Side.TheVariants.{Active, Passive}
use Rattle.hsms_machine.specs.Settings.{Parameters}
use Rattle.cli_options.specs.declared.serve_options.Repeat.{Repeat}
use Rattle.cli_options.specs.declared.serve_options.Service.{Service}
use Rattle.cli_options.specs.OptionValues.{IsFlag, Number, depth_number, device_number, flag_in, flag_option, max_number, needed_option, number_in, option_of, text_option}

-- ---- the options

-- A time in milliseconds.
abbrev pub time_number : Text → ℕ → Number
time_number name left_out = record { name = name; least = 1; greatest = 3600000; left_out = Some left_out }

abbrev pub t3_number : Number
t3_number = time_number (codes "t3") 45000

abbrev pub t6_number : Number
t6_number = time_number (codes "t6") 6000

abbrev pub t7_number : Number
t7_number = time_number (codes "t7") 10000

abbrev pub t8_number : Number
t8_number = time_number (codes "t8") 5000

-- The idle time after which an end tests its link, in milliseconds; 0 for never.
abbrev pub linktest_number : Number
linktest_number = record { name = codes "linktest"; least = 0; greatest = 3600000; left_out = Some 0 }

-- A TCP port, which is required; 0 for any free one.
abbrev pub port_number : Number
port_number = record { name = codes "port"; least = 0; greatest = 65535; left_out = None }

-- The system bytes of the first own message.
abbrev pub first_system_number : Number
first_system_number = record { name = codes "first-system"; least = 0; greatest = 4294967295; left_out = Some 1 }

abbrev pub turns_number : Number
turns_number = record { name = codes "turns"; least = 0; greatest = 4294967295; left_out = Some 4294967295 }

-- How long an end waits before it connects again.
abbrev pub t5_number : Number
t5_number = time_number (codes "t5") 10000

-- The maximum number of connections that are served, one after another.
abbrev pub connections_number : Number
connections_number = record { name = codes "connections"; least = 1; greatest = 4294967295; left_out = Some 4294967295 }

abbrev pub connection_rules : List Rule
connection_rules =
    needed_option (codes "role") ∷ needed_option (codes "link") ∷ needed_option (codes "address") ∷ option_of port_number
    ∷ text_option (codes "port-file") ∷ flag_option (codes "skip-silent") ∷ option_of device_number ∷ []

abbrev pub time_rules : List Rule
time_rules = option_of t3_number ∷ option_of t6_number ∷ option_of t7_number ∷ option_of t8_number ∷ []

abbrev pub limit_rules : List Rule
limit_rules = option_of linktest_number ∷ option_of max_number ∷ option_of depth_number ∷ []

abbrev pub handler_rules : List Rule
handler_rules =
    option_of first_system_number ∷ option_of turns_number ∷ text_option (codes "mdln") ∷ text_option (codes "softrev")
    ∷ flag_option (codes "send") ∷ flag_option (codes "answer") ∷ flag_option (codes "all-sent")
    ∷ flag_option (codes "all-answered") ∷ []

abbrev pub again_rules : List Rule
again_rules =
    flag_option (codes "reconnect") ∷ flag_option (codes "once") ∷ option_of connections_number ∷ option_of t5_number ∷ []

abbrev pub serve_rules : List Rule
serve_rules = connection_rules ++ (time_rules ++ (limit_rules ++ (handler_rules ++ again_rules)))

-- ---- what they request

abbrev pub role_word : Role → Text
role_word Host = codes "host"
role_word Equipment = codes "equipment"

abbrev pub side_word : Side → Text
side_word Active = codes "active"
side_word Passive = codes "passive"

-- The text of an option in the matches. It is empty by default.
abbrev pub text_in : Text → List Row → Text
text_in name rows = unwrap_or (first_of name rows) []

-- Holds if the matches have these times.
abbrev pub HasTimes : List Row → ℕ → ℕ → ℕ → ℕ → Type 0
HasTimes rows t3 t6 t7 t8 =
    (number_in t3_number rows ≡ Some t3) × (number_in t6_number rows ≡ Some t6) × (number_in t7_number rows ≡ Some t7)
    × (number_in t8_number rows ≡ Some t8)

-- Holds if the matches have the numbers of these settings.
abbrev pub HasNumbers : List Row → Parameters → Type 0
HasNumbers rows s =
    (number_in device_number rows ≡ Some s.device) × HasTimes rows s.t3 s.t6 s.t7 s.t8
    × (number_in max_number rows ≡ Some s.max) × (number_in depth_number rows ≡ Some s.depth)

-- Holds if the matches have these settings, of a log of one connection.
abbrev pub HasSettings : List Row → Parameters → Type 0
HasSettings rows s =
    (s.version ≡ 1)
    × (first_of (codes "role") rows ≡ Some (role_word s.role)) × (first_of (codes "link") rows ≡ Some (side_word s.link))
    × HasNumbers rows s

-- True if the matches say how an end listens: which file gets its port, or that silent peers are skipped.
abbrev pub says_how_to_listen : List Row → Bool
says_how_to_listen rows = is_some (first_of (codes "port-file") rows) || flag_in (codes "skip-silent") rows

-- True if an end with this side can have this port, and options that say how it listens. Only a passive end has these,
-- or any free port.
abbrev pub allows_port : Side → ℕ → Bool → Bool
allows_port Passive port says_how = true
allows_port Active port says_how = not (port == 0) && not says_how

-- Holds if the matches have these settings and this port, and an end with the settings can have the port.
abbrev pub HasEndpoint : List Row → Parameters → ℕ → Type 0
HasEndpoint rows s port =
    HasSettings rows s × (number_in port_number rows ≡ Some port) × (allows_port s.link port (says_how_to_listen rows) ≡ true)

-- True if the matches say something about further connections: that they have no script, how many there are, or after
-- which time.
abbrev pub limits_repeat : List Row → Bool
limits_repeat rows =
    flag_in (codes "once") rows || (is_some (first_of (codes "connections") rows) || is_some (first_of (codes "t5") rows))

-- Holds if the matches request this of connections one after another. They say something about further ones only if
-- there are some.
abbrev pub HasRepeat : List Row → Repeat → Type 0
HasRepeat rows repeat =
    IsFlag (codes "reconnect") rows repeat.again × IsFlag (codes "once") rows repeat.once
    × (number_in connections_number rows ≡ Some repeat.connections) × (number_in t5_number rows ≡ Some repeat.t5)
    × (limits_repeat rows ≡ true → repeat.again ≡ true)

-- Holds if the matches request this service.
abbrev pub AsksToServe : List Row → Service → Type 0
AsksToServe rows service =
    HasEndpoint rows service.settings service.port × (first_of (codes "address") rows ≡ Some service.address.now)
    × (option_map (λ text. text.now) service.port_file ≡ first_of (codes "port-file") rows)
    × (number_in first_system_number rows ≡ Some service.first_system)
    × (number_in turns_number rows ≡ Some service.turns) × (number_in linktest_number rows ≡ Some service.linktest)
    × HasRepeat rows service.repeat
    × (service.mdln.now ≡ text_in (codes "mdln") rows) × (service.softrev.now ≡ text_in (codes "softrev") rows)
    × IsFlag (codes "send") rows service.send × IsFlag (codes "answer") rows service.answer
    × IsFlag (codes "all-sent") rows service.all_sent × IsFlag (codes "all-answered") rows service.all_answered
    × IsFlag (codes "skip-silent") rows service.skip_silent
