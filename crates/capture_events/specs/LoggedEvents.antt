-- The items of the events of a TCP connection.
use Rattle.std.specs.Prelude.{ℕ, List, [], ◌∷◌, Some, None}
use Rattle.capture_log.specs.declared.audited_log.LogComment.TheVariants.{Packet}
use Rattle.capture_tcp.specs.declared.events.TimedEvent.{TimedEvent}
use Rattle.capture_tcp.specs.KnownStreams.{seen_of}
use Rattle.capture_tcp.specs.EventSteps.{reported_as}
use Rattle.capture_tcp.specs.TcpStreams.{Seen}
use Rattle.capture_events.specs.declared.log_item.LogItem.{LogItem}
use Rattle.capture_events.specs.declared.waiting.Waiting.{Waiting}
use Rattle.capture_events.specs.ConnectionItems.{ConnectionItems, and_item, is_among, log_time_of, kind_of}

abbrev pub log_time_by : List ℕ → TimedEvent → ℕ
log_time_by bare h = log_time_of (reported_as h.event) (is_among bare h.packet) h.time

abbrev pub item_of_event : List ℕ → TimedEvent → LogItem
item_of_event bare h = record { comment = Packet h.packet; time = log_time_by bare h; kind = Some (kind_of h.packet (reported_as h.event)) }

unfoldable pub logged_by : ℕ → List ℕ → List TimedEvent → ConnectionItems
logged_by most bare [] = record { items = []; over = None }
logged_by most bare (h ∷ hs) = and_item most (reported_as h.event) h.packet (item_of_event bare h) (logged_by most bare hs)

abbrev pub seen_waiting : Waiting → Seen
seen_waiting w = seen_of w.segment w.octets.items
