-- What is logged of a session that was running before its capture, by what happens since both of its directions have begun
-- (SEMI E37, section 7).
use Rattle.std.specs.Prelude.{◌||◌, ◌-◌, ◌^◌, ◌++◌, ◌∷◌, max, ℕ, nat_le, Bool, true, false, if◌then◌else◌, List, [], length, take, drop, filter, Option, Some, None, is_some}
use Rattle.std.specs.List.{list_any}
use Rattle.hsms_frame.specs.declared.header.Header.{Header}
use Rattle.hsms_frame.specs.Build.{control_header_of}
use Rattle.capture_tcp.specs.declared.packet.Side.{Side}
use Rattle.capture_tcp.specs.declared.packet.Side.TheVariants as side
use Rattle.capture_tcp.specs.declared.events.Event.{Event}
use Rattle.capture_tcp.specs.declared.events.Event.TheVariants as happens
use Rattle.capture_tcp.specs.declared.events.TimedEvent.{TimedEvent}
use Rattle.capture_log.specs.BothLogs.{is_no_message}
use Rattle.capture_midstream.specs.MessageCheck.{header_of}
use Rattle.capture_midstream.specs.Requests.{is_left_out}
use Rattle.capture_midstream.specs.Assumption.{assumed_by}
use Rattle.capture_midstream.specs.declared.sync_packet.Start.{Start}
use Rattle.capture_midstream.specs.declared.assumption.Assumption.{Assumption}
use Rattle.capture_midstream.specs.declared.assumption.Assumption.TheVariants.{Selected, Asked, Nothing}
use Rattle.cli_capture.specs.TrackedConnection.{logged_by}
use Rattle.cli_capture.specs.MidstreamItems.{Item, comes_up, supposes, leaves_out, emits, closes_down}
use Rattle.cli_capture.specs.PendingRequests.{Spoken, nothing_spoken, spoken_to, with_message}

-- ---- what happens since both directions have begun

-- The messages from that packet on, and that it goes down. That it came up is supposed.
abbrev pub counts_by : ℕ → ℕ → Event → Bool
counts_by begun packet happens.Up = false
counts_by begun packet (happens.Message from octets) = nat_le begun packet
counts_by begun packet happens.Down = true

abbrev pub since : Start → List TimedEvent → List TimedEvent
since start hs = filter (λ h. counts_by start.packet h.packet h.event) hs

-- the header of a message that an end takes, and which one sent it
abbrev pub said_by : ℕ → Event → Option (Side × Header)
said_by most happens.Up = None
said_by most (happens.Message from octets) =
    if is_no_message most (length octets.items) then None else Some (from, header_of (take 10 (drop 4 octets.items)))
said_by most happens.Down = None

-- ---- what stood before

-- what is supposed, and which end has asked, where one has
pub record Before : Type 0 where
  pub assumed : Assumption
  pub asker : Side

abbrev pub was_selected : Before
was_selected = record { assumed = Selected; asker = side.Active }

abbrev pub other_side : Side → Side
other_side side.Active = side.Passive
other_side side.Passive = side.Active

abbrev pub before_or : Option Assumption → Side → Before → Before
before_or None from later = later
before_or (Some assumed) from later = record { assumed = assumed; asker = other_side from }

abbrev pub before_with : Option (Side × Header) → Spoken → (Spoken → Before) → Before
before_with None spoken later = was_selected
before_with (Some m) spoken later = before_or (assumed_by m.1 (spoken_to m.0 spoken)) m.0 (later (with_message m.0 m.1 spoken))

-- The first message that says something of it decides it. Where none does, or what no end takes comes before it, the
-- session was selected.
unfoldable pub before_by : ℕ → Spoken → List TimedEvent → Before
before_by most spoken [] = was_selected
before_by most spoken (h ∷ hs) = before_with (said_by most h.event) spoken (λ later. before_by most later hs)

-- so many messages are looked at
abbrev pub looked_at : ℕ
looked_at = 4097

abbrev pub before_of : ℕ → List TimedEvent → Before
before_of most hs = before_by most nothing_spoken (take looked_at hs)

-- whether it is decided, whatever follows
abbrev pub decided_with : Option (Side × Header) → Spoken → (Spoken → Bool) → Bool
decided_with None spoken later = true
decided_with (Some m) spoken later = is_some (assumed_by m.1 (spoken_to m.0 spoken)) || later (with_message m.0 m.1 spoken)

unfoldable pub decided_by : ℕ → Spoken → List TimedEvent → Bool
decided_by most spoken [] = false
decided_by most spoken (h ∷ hs) = decided_with (said_by most h.event) spoken (λ later. decided_by most later hs)

abbrev pub is_decided : ℕ → List TimedEvent → Bool
is_decided most hs = nat_le looked_at (length hs) || decided_by most nothing_spoken hs

-- ---- what is left out

-- by which rules: the greatest length of a message, T3, and when both directions had begun
pub record Terms : Type 0 where
  pub most : ℕ
  pub t3 : ℕ
  pub begun : ℕ

abbrev pub item_by : Bool → TimedEvent → Item
item_by true h = leaves_out h.packet
item_by false h = emits h

abbrev pub item_with : Option (Side × Header) → Terms → Spoken → ℕ → TimedEvent → Item
item_with None t spoken latest h = emits h
item_with (Some m) t spoken latest h = item_by (is_left_out m.1 (spoken_to m.0 spoken) t.begun t.t3 latest) h

abbrev pub spoken_with : Option (Side × Header) → Spoken → Spoken
spoken_with None spoken = spoken
spoken_with (Some m) spoken = with_message m.0 m.1 spoken

-- A response is left out whose request isn't among what the other end sent before, as long as no message came later than T3
-- behind the beginning.
unfoldable pub items_by : Terms → Spoken → ℕ → List TimedEvent → List Item
items_by t spoken latest [] = []
items_by t spoken latest (h ∷ hs) =
    item_with (said_by t.most h.event) t spoken (max latest h.time) h
    ∷ items_by t (spoken_with (said_by t.most h.event) spoken) (max latest h.time) hs

-- what is supposed to have been asked for counts too
abbrev pub asked_by : Assumption → Side → Spoken
asked_by Selected asker = nothing_spoken
asked_by (Asked system) asker = with_message asker (control_header_of 1 0 system) nothing_spoken
asked_by Nothing asker = nothing_spoken

abbrev pub asked : Before → Spoken
asked b = asked_by b.assumed b.asker

-- ---- the log

abbrev pub is_said : Event → Bool
is_said happens.Up = false
is_said (happens.Message from octets) = true
is_said happens.Down = false

abbrev pub is_message_told : Item → Bool
is_message_told (comes_up time) = false
is_message_told (supposes from header) = false
is_message_told (leaves_out packet) = false
is_message_told (emits h) = is_said h.event
is_message_told closes_down = false

abbrev pub tells_some : List Item → Bool
tells_some xs = list_any is_message_told xs

-- a Select of the active end with the greatest system bytes, and its response with status 0; or the Select.req that was
-- answered; or nothing
abbrev pub supposed_messages : Assumption → Side → List Item
supposed_messages Selected asker =
    supposes side.Active (control_header_of 1 0 (2 ^ 32 - 1)) ∷ supposes side.Passive (control_header_of 2 0 (2 ^ 32 - 1)) ∷ []
supposed_messages (Asked system) asker = supposes asker (control_header_of 1 0 system) ∷ []
supposed_messages Nothing asker = []

abbrev pub supposed_items : Before → ℕ → List Item
supposed_items b begun = comes_up begun ∷ supposed_messages b.assumed b.asker

-- it comes up, as it is supposed, where some message is told
abbrev pub if_told : Bool → List Item → List Item → List Item
if_told true front xs = front ++ xs
if_told false front xs = []

abbrev pub after_front : List Item → List Item → List Item
after_front front xs = if_told (tells_some xs) front xs

-- the items of a session, by what stood before and what happens; nothing behind a message that no end takes
abbrev pub items_of : Terms → Before → List TimedEvent → List Item
items_of t b hs = items_by t (asked b) 0 (logged_by t.most hs)

abbrev pub session_items : Terms → Before → List TimedEvent → List Item
session_items t b hs = after_front (supposed_items b t.begun) (items_of t b hs)

-- the log of a session, by all that happens
abbrev pub whole_log : Terms → List TimedEvent → List Item
whole_log t hs = session_items t (before_of t.most hs) hs

-- as far as it is sure: nothing before it is decided what stood before
abbrev pub log_if : Bool → List Item → List Item
log_if true xs = xs
log_if false xs = []

abbrev pub sure_log : Terms → List TimedEvent → List Item
sure_log t hs = log_if (is_decided t.most hs) (whole_log t hs)
