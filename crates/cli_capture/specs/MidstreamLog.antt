-- A session that was running before the capture, in the midst of it.
use Rattle.std.specs.Prelude.{◌≡◌, ◌≤◌, ◌<◌, ◌-◌, ◌⊎◌, ◌∷◌, max, ℕ, Bool, true, false, List, [], flat_map, length, Option, Some, None}
use Rattle.hsms_machine.specs.Settings.{Parameters}
use Rattle.capture_tcp.specs.declared.packet.Side.TheVariants as side
use Rattle.capture_tcp.specs.declared.events.TimedEvent.{TimedEvent}
use Rattle.capture_midstream.specs.declared.sync_packet.Start.{Start}
use Rattle.capture_midstream.specs.declared.assumption.Assumption.TheVariants.{Selected}
use Rattle.cli_capture.specs.declared.progress.Progress.TheVariants as progress
use Rattle.cli_capture.specs.declared.midstream_log.Joined.{Joined}
use Rattle.cli_capture.specs.declared.pending_requests.Said.{Said}
use Rattle.cli_capture.specs.OutputMode.{Way, to_log, to_verdicts}
use Rattle.cli_capture.specs.TrackedConnection.{came_up_by, course_by_events}
use Rattle.cli_capture.specs.MidstreamItems.{EndsHaveItems, Item, comes_up, supposes, leaves_out, emits, closes_down}
use Rattle.cli_capture.specs.PendingRequests.{KnowsBoth, Spoken, nothing_spoken}
use Rattle.cli_capture.specs.Assumptions.{Before, Terms, asked, before_of, decided_by, is_decided, items_by, looked_at, said_by, session_items, spoken_with, tells_some}

-- ---- what is known behind so many things that happened

abbrev pub most_by : Way → Parameters → ℕ
most_by to_verdicts a = a.max
most_by (to_log settings side) a = settings.max

abbrev pub terms_by : Way → Parameters → Start → Terms
terms_by how a start = record { most = most_by how a; t3 = a.t3; begun = start.time }

abbrev pub latest_after : ℕ → List TimedEvent → ℕ
latest_after latest [] = latest
latest_after latest (h ∷ hs) = latest_after (max latest h.time) hs

abbrev pub spoken_behind : ℕ → Spoken → List TimedEvent → Spoken
spoken_behind most spoken [] = spoken
spoken_behind most spoken (h ∷ hs) = spoken_behind most (spoken_with (said_by most h.event) spoken) hs

-- what both ends have asked for, as long as no time is past T3 behind the beginning
abbrev pub SaidAs : Terms → ℕ → Spoken → Option Said → Type 0
SaidAs t latest spoken None = t.t3 < latest - t.begun
SaidAs t latest spoken (Some said) = (latest - t.begun ≤ t.t3) × KnowsBoth spoken said

abbrev pub packet_left : Item → List ℕ
packet_left (comes_up time) = []
packet_left (supposes from header) = []
packet_left (leaves_out packet) = packet ∷ []
packet_left (emits h) = []
packet_left closes_down = []

-- the packets that wait for the first message that is told
abbrev pub left_if : Bool → List Item → List ℕ
left_if true xs = []
left_if false xs = flat_map packet_left xs

-- ---- it waits for a message that decides what stood before

pub record IsWaiting (most : ℕ) (hs : List TimedEvent) (j : Joined) : Type 0 where
  pub unsettled : j.is_decided ≡ false
  pub assumed : j.assumed ≡ Selected
  pub asker : j.asker ≡ side.Active
  pub up : j.is_up ≡ false
  pub ends : j.ends ≡ None
  pub left : j.left_out.items ≡ []
  pub waiting : j.waiting.items ≡ hs
  pub undecided : decided_by most nothing_spoken hs ≡ false
  pub said : (said : Said) × (j.said ≡ Some said) × KnowsBoth (spoken_behind most nothing_spoken hs) said

-- ---- it is told, by what is supposed

pub record IsReported (how : Way) (a p : Parameters) (start : Start) (b : Before) (hs : List TimedEvent) (j : Joined) : Type 0 where
  pub start_is : j.start ≡ start
  pub assumed : j.assumed ≡ b.assumed
  pub asker : j.asker ≡ b.asker
  pub waiting : j.waiting.items ≡ []
  pub proceeds : course_by_events (most_by how a) hs ≡ progress.Proceeds
  pub never_up : came_up_by hs ≡ false
  pub up : j.is_up ≡ tells_some (items_by (terms_by how a start) (asked b) 0 hs)
  pub left : j.left_out.items ≡ left_if j.is_up (items_by (terms_by how a start) (asked b) 0 hs)
  pub ends : how ≡ to_verdicts → EndsHaveItems a p (session_items (terms_by how a start) b hs) j.ends

abbrev pub IsTelling : Way → Parameters → Parameters → Start → Before → List TimedEvent → Joined → Type 0
IsTelling how a p start b hs j =
    IsReported how a p start b hs j × SaidAs (terms_by how a start) (latest_after 0 hs) (spoken_behind (most_by how a) (asked b) hs) j.said

-- behind all that happened since both directions had begun
abbrev pub JoinedStands : Way → Parameters → Parameters → Start → List TimedEvent → Joined → Type 0
JoinedStands how a p start hs j =
    (j.start ≡ start)
    × (((length hs < looked_at) × IsWaiting (most_by how a) hs j)
    ⊎ ((j.is_decided ≡ true) × (is_decided (most_by how a) hs ≡ true) × IsTelling how a p start (before_of (most_by how a) hs) hs j))
