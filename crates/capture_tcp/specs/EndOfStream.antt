-- How the events of a connection end.
use Rattle.std.specs.Prelude.{◌≡◌, ◌++◌, Bool, true, false, nat_lt, nat_le, if◌then◌else◌, ℕ, List, [], length, map, filter, Option, Some, None}
use Rattle.capture_tcp.specs.declared.ending.Ending.{Ending}
use Rattle.capture_tcp.specs.declared.ending.Ending.TheVariants as ending
use Rattle.capture_tcp.specs.declared.events.TimedEvent.{TimedEvent}
use Rattle.capture_tcp.specs.TcpStreams.{Placed, loss, loss_shown, difference}
use Rattle.capture_tcp.specs.EventSteps.{entry_as}
use Rattle.capture_tcp.specs.ReaderState.{MayFollow, log_of}

-- The ending by the loss or the conflicting retransmission, if there is one: the earlier of the two.
abbrev pub broken : Option ℕ → Option ℕ → Ending
broken None None = ending.Complete
broken (Some j) None = ending.Lost j
broken None (Some k) = ending.Differs k
broken (Some j) (Some k) = if nat_lt j k then ending.Lost j else ending.Differs k

-- `Closed`, if the connection ended before that.
abbrev pub ended_by : Bool → List Placed → Ending
ended_by true ps = ending.Closed
ended_by false ps = broken (loss [] ps) (difference [] ps)

abbrev pub ended_at : List Placed → Ending
ended_at ps = ended_by (log_of ps).closed ps

-- The ending with the packet that shows a loss.
abbrev pub shown_by : Option ℕ → Ending → Ending
shown_by shown ending.Closed = ending.Closed
shown_by shown ending.Complete = ending.Complete
shown_by None (ending.Lost packet) = ending.Lost packet
shown_by (Some n) (ending.Lost packet) = ending.Lost n
shown_by shown (ending.Differs packet) = ending.Differs packet

abbrev pub ended : List Placed → Ending
ended ps = shown_by (loss_shown [] ps) (ended_at ps)

-- ---- whether the ending is known, whatever follows

-- The number of packets after one.
abbrev pub packets_after : ℕ → List Placed → ℕ
packets_after k ps = length (filter (λ p. nat_lt k p.packet) ps)

-- True if the connection ended, or a retransmission conflicts, or the next 4,096 packets after the one with missing
-- data are present.
abbrev pub ends_for_good : Ending → List Placed → Bool
ends_for_good ending.Closed ps = true
ends_for_good ending.Complete ps = false
ends_for_good (ending.Lost packet) ps = nat_le 4096 (packets_after packet ps)
ends_for_good (ending.Differs packet) ps = true

abbrev pub is_known : List Placed → Bool
is_known ps = ends_for_good (ended_at ps) ps

-- ---- what code does

-- Holds if, whatever follows, these are all emitted events, with this ending.
abbrev pub IsEnded : Bool → List Placed → List TimedEvent → Ending → Type 0
IsEnded more ps emitted e =
    (later : List Placed) → MayFollow more ps later → (map entry_as emitted ≡ (log_of (ps ++ later)).emitted) × (e ≡ ended_at (ps ++ later))

abbrev pub EndsSo : Bool → List Placed → List TimedEvent → Type 0
EndsSo more ps emitted = (e : Ending) × IsEnded more ps emitted e

-- Holds if, whatever follows, these are all emitted events, with this ending, by the packet that shows a loss.
abbrev pub IsShownEnded : Bool → List Placed → List TimedEvent → Ending → Type 0
IsShownEnded more ps emitted e =
    (later : List Placed) → MayFollow more ps later → (map entry_as emitted ≡ (log_of (ps ++ later)).emitted) × (e ≡ ended (ps ++ later))
