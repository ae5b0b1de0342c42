-- What only contracts of private functions use, besides the definitions of `DataOnly`.
use Rattle.std.specs.Prelude.{◌≡◌, ◌<◌, ◌+◌, ◌^◌, ◌||◌, ℕ, Bool, if◌then◌else◌, List, drop, Option, Some, None}
use Rattle.capture_tcp.specs.declared.reassembly.Cell.{Cell as HeldCell}
use Rattle.capture_tcp.specs.declared.reassembly.Head.{Head}
use Rattle.capture_tcp.specs.declared.reassembly.Head.TheVariants as head
use Rattle.capture_tcp.specs.Message.{cells_to, message_size}
use Rattle.capture_tcp.specs.Reassembly.{in_piece}
use Rattle.capture_tcp.specs.InnerReassembly.{further}

-- The offset after a packet with a SYN or a FIN.
abbrev pub flags_end : Bool → Bool → ℕ → ℕ
flags_end syns fins end = if syns || fins then end else 0

-- What the first four cells show of the size of the message at the front.
abbrev pub HeadSays : List (Option HeldCell) → Head → Type 0
HeadSays ss head.Missing = None ≡ message_size (in_piece ss)
HeadSays ss (head.Ends count) = (Some count ≡ message_size (in_piece ss)) × (0 < count)
HeadSays ss (head.Length value) = (further 4 (cells_to value (in_piece (drop 4 ss))) ≡ message_size (in_piece ss)) × (value < 2 ^ 32)

-- Holds if a message of bytes alone has more cells than `room`.
abbrev pub IsLonger : ℕ → Head → Type 0
IsLonger room head.Missing = ⊥
IsLonger room (head.Ends count) = ⊥
IsLonger room (head.Length value) = room < value + 4
