-- A connection by the number of its SYN: its packets wait until the SYN of the passive end is there, and then it is followed.
use Rattle.std.specs.Prelude.{◌≡◌, ◌⊎◌, ◌<◌, ◌+◌, ◌%◌, ◌^◌, ◌==◌, ◌&&◌, ◌||◌, ◌++◌, ◌∷◌, ℕ, Bool, true, false, not, if◌then◌else◌, List, [], length, Option, Some, None, is_some}
use Rattle.std.specs.Option.{option_map}
use Rattle.hsms_machine.specs.Settings.{Parameters}
use Rattle.capture_tcp.specs.TcpStreams.{End, active, passive, same_end, Cell, syn, octet, fin, Seen}
use Rattle.capture_tcp.specs.KnownStreams.{bases}
use Rattle.capture_log.specs.declared.socket_pair.Pair.{Pair}
use Rattle.cli_capture.specs.declared.report.Report.{Report}
use Rattle.capture_errors.specs.declared.incomplete.Shortfall.{Shortfall}
use Rattle.capture_errors.specs.declared.incomplete.Shortfall.TheVariants.{Lost}
use Rattle.cli_capture.specs.ConnectionLog.{ToldForGood, ToldOf}
use Rattle.cli_capture.specs.TrackedConnection.{GivesUp, WhenTold}

-- ---- the SYN of the passive end

abbrev pub begins_with_syn : List Cell → Bool
begins_with_syn [] = false
begins_with_syn (syn ∷ cs) = true
begins_with_syn (octet n ∷ cs) = false
begins_with_syn (fin ∷ cs) = false

abbrev pub is_number : Option ℕ → ℕ → Bool
is_number None n = false
is_number (Some m) n = m == n

-- it acknowledges the active end's SYN
abbrev pub is_answer : ℕ → Seen → Bool
is_answer number s = same_end s.from passive && (begins_with_syn s.cells && is_number s.acknowledged ((number + 1) % 2 ^ 32))

-- the number of the first one
abbrev pub answered_by : ℕ → List Seen → Option ℕ
answered_by number [] = None
answered_by number (s ∷ ss) = if is_answer number s then Some s.number else answered_by number ss

-- ---- where none was captured

abbrev pub has_octets : List Cell → Bool
has_octets [] = false
has_octets (syn ∷ cs) = has_octets cs
has_octets (octet n ∷ cs) = true
has_octets (fin ∷ cs) = has_octets cs

-- a packet shows that there was one: the active end acknowledges it, or there is data, which a RST hasn't
abbrev pub shows_answer : Seen → Bool
shows_answer s = (same_end s.from active && is_some s.acknowledged) || (has_octets s.cells && not s.reset)

abbrev pub first_shown : List Seen → Option ℕ
first_shown [] = None
first_shown (s ∷ ss) = if shows_answer s then Some s.packet else first_shown ss

-- it is lost at the first such packet
abbrev pub lost_by : List Seen → Option Shortfall
lost_by ss = option_map (λ packet. Lost packet) (first_shown ss)

-- where there is none, nothing is told: the connection was refused, or is half open
abbrev pub ToldUnanswered : Pair → List Seen → Report → Report → Type 0
ToldUnanswered pair ss old new = WhenTold (is_some (first_shown ss)) pair (lost_by ss) None old new

-- ---- what code does

-- all is told of it, or it is given up with one of these segments
abbrev pub OverWith : Parameters → Parameters → Pair → (End → ℕ) → List Seen → Report → Report → Type 0
OverWith a p pair base all old new =
    ToldForGood a p pair base all old new
    ⊎ ((front : List Seen) × (s : Seen) × (rest : List Seen) × (all ≡ front ++ s ∷ rest) × GivesUp a p pair base front s old new)

-- Without the SYN of the passive end it is over where more than 4,096 packets wait.
abbrev pub OverBy : Option ℕ → Parameters → Parameters → Pair → ℕ → List Seen → Report → Report → Type 0
OverBy None a p pair number all old new = (4096 < length all) × ToldUnanswered pair all old new
OverBy (Some other) a p pair number all old new = OverWith a p pair (bases number other) all old new

-- no segment follows
abbrev pub EndsBy : Option ℕ → Parameters → Parameters → Pair → ℕ → List Seen → Bool → Option Shortfall → Report → Report → Type 0
EndsBy None a p pair number all replaced missing old new = ToldUnanswered pair all old new
EndsBy (Some other) a p pair number all replaced missing old new = ToldOf a p pair (bases number other) all replaced missing old new
