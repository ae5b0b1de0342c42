-- The first contradiction of two logs, by line numbers.
use Rattle.std.specs.Prelude.{◌≡◌, ℕ, List, Bool, Option, Some, None}
use Rattle.hsms_frame.specs.Frame.{Frame}
use Rattle.hsms_machine.specs.declared.entry.Entry.{Entry}
use Rattle.hsms_machine.specs.declared.settings.Role.TheVariants.{Host, Equipment}
use Rattle.hsms_compare.specs.declared.contradiction.Contradiction.{Contradiction}
use Rattle.hsms_compare.specs.declared.contradiction.Contradiction.TheVariants.{Differs, Unsent, Order}
use Rattle.hsms_compare.specs.declared.line_contradiction.LineContradiction.{LineContradiction}
use Rattle.hsms_compare.specs.declared.line_contradiction.LineContradiction.TheVariants as by_lines
use Rattle.hsms_compare.specs.Conversation.{Line, entries}
use Rattle.hsms_compare.specs.Agreement.{CanAgree, FirstContradiction, ReceivesAs, SendsAs}
use Rattle.hsms_compare.specs.Merge.{line_at}

-- The line number of the entry at k, counted from 0.
abbrev pub number_at : List Line → ℕ → ℕ
number_at lines k = (line_at lines k).position

-- Holds if the receiver's entry at i receives its n-th frame, and the sender's entry at k sends its n-th one.
abbrev pub IsSentAt : (sender receiver : List Entry) → ℕ → ℕ → Type 0
IsSentAt sender receiver k i =
    (frame : Frame) × (another : Frame) × (n : ℕ) × ReceivesAs receiver i frame n × SendsAs sender k another n

-- Holds for the same contradiction, by line numbers. For an order these are also the lines that send what the two
-- entries receive.
abbrev pub IsByLines : (host equipment : List Line) → Contradiction → LineContradiction → Type 0
IsByLines host equipment (Differs Host k i) found = found ≡ by_lines.Differs Host (number_at equipment k) (number_at host i)
IsByLines host equipment (Differs Equipment k i) found =
    found ≡ by_lines.Differs Equipment (number_at host k) (number_at equipment i)
IsByLines host equipment (Unsent Host i) found = found ≡ by_lines.Unsent Host (number_at host i)
IsByLines host equipment (Unsent Equipment i) found = found ≡ by_lines.Unsent Equipment (number_at equipment i)
IsByLines host equipment (Order i j) found =
    (k : ℕ) × (m : ℕ) × IsSentAt (entries equipment) (entries host) k i × IsSentAt (entries host) (entries equipment) m j
    × (found ≡ by_lines.Order (number_at host i) (number_at equipment k) (number_at equipment j) (number_at host m))

-- The first contradiction of two logs, or none. An open log may have more entries.
abbrev pub FirstByLines : (host_open equipment_open : Bool) (host equipment : List Line) → Option LineContradiction → Type 0
FirstByLines host_open equipment_open host equipment None = CanAgree host_open equipment_open (entries host) (entries equipment)
FirstByLines host_open equipment_open host equipment (Some found) =
    (contradiction : Contradiction)
    × FirstContradiction host_open equipment_open (entries host) (entries equipment) (Some contradiction)
    × IsByLines host equipment contradiction found
