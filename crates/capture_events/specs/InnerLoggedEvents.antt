-- What only contracts of private functions use, besides the definitions of `LoggedEvents`.
use Rattle.std.specs.Prelude.{◌≡◌, ℕ, if◌then◌else◌, List, ◌++◌, map, length, Option, Some, None}
use Rattle.hsms_frame.specs.Frame.{Frame}
use Rattle.capture_log.specs.BothLogs.{is_no_message}
use Rattle.capture_log.specs.declared.socket_pair.Pair.{Pair}
use Rattle.capture_tcp.specs.declared.events.TimedEvent.{TimedEvent}
use Rattle.capture_events.specs.declared.event.Event.{Event}
use Rattle.capture_events.specs.declared.event.Event.TheVariants.{Logged}
use Rattle.capture_events.specs.declared.log_item.LogItem.{LogItem}
use Rattle.capture_events.specs.declared.incomplete.Shortfall.{Shortfall}
use Rattle.capture_events.specs.ConnectionItems.{frame_in}
use Rattle.capture_events.specs.LoggedEvents.{logged_by}

-- The message of these bytes, or `None` if no endpoint takes a message of this length.
abbrev pub frame_by : ℕ → List ℕ → Option Frame
frame_by most octets = if is_no_message most (length octets) then None else Some (frame_in octets)

-- The items are appended to the events.
abbrev pub LogsItems : Pair → List LogItem → List Event → List Event → Type 0
LogsItems pair items old new = new ≡ old ++ map (Logged pair) items

abbrev pub LogsBy : ℕ → List ℕ → Pair → List TimedEvent → Option (Option Shortfall) → List Event → List Event → Type 0
LogsBy most bare pair hs over old new = LogsItems pair (logged_by most bare hs).items old new × (over ≡ (logged_by most bare hs).over)
