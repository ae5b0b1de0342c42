-- What both ends of a connection log of what happens on it.
use Rattle.std.specs.Prelude.{◌≡◌, ◌<◌, ◌+◌, ◌⊎◌, ◌||◌, ℕ, nat_lt, Bool, true, false, if◌then◌else◌, List, [], ◌∷◌, ◌++◌, length, drop, max, Some, None}
use Rattle.hsms_frame.specs.Frame.{Frame}
use Rattle.hsms_machine.specs.Settings.{Parameters}
use Rattle.hsms_machine.specs.declared.entry.Entry.{Entry}
use Rattle.hsms_machine.specs.declared.entry.Event.{Event}
use Rattle.hsms_machine.specs.declared.entry.Event.TheVariants.{Up, Sent, Taken, Down}
use Rattle.hsms_log.specs.LineFormat.{message_octets}
use Rattle.capture_tcp.specs.declared.packet.Side.{Side}
use Rattle.capture_tcp.specs.declared.packet.Side.TheVariants.{Active, Passive}
use Rattle.capture_tcp.specs.declared.events.Event.{Event as Happens}
use Rattle.capture_tcp.specs.declared.events.Event.TheVariants as happens
use Rattle.capture_tcp.specs.declared.events.TimedEvent.{TimedEvent}
use Rattle.capture_log.specs.declared.audited_log.LogComment.{LogComment}
use Rattle.capture_log.specs.declared.audited_log.LogComment.TheVariants as remark
use Rattle.capture_log.specs.declared.both_logs.LogResult.{LogResult}
use Rattle.capture_log.specs.declared.both_logs.LogResult.TheVariants as reception
use Rattle.capture_log.specs.AuditedLog.{HasLogged, Note, CurrentState}

abbrev pub is_same : Side → Side → Bool
is_same Active Active = true
is_same Active Passive = false
is_same Passive Active = false
is_same Passive Passive = true

-- what an end logs: the one that sent a message that it sent it, and the other one that it took it
abbrev pub event_of : Side → Side → Frame → Event
event_of side from frame = if is_same side from then Sent frame else Taken frame

abbrev pub LogsAs : Side → Happens → Event → Type 0
LogsAs side happens.Up event = event ≡ Up
LogsAs side (happens.Message from octets) event =
    (frame : Frame) × (drop 4 octets.items ≡ message_octets frame) × (event ≡ event_of side from frame)
LogsAs side happens.Down event = event ≡ Down

-- the entry of an end says what happened, when, and at which packet
pub record Records (before : ℕ) (side : Side) (happening : TimedEvent) (note : Note) : Type 0 where
  pub entry : Entry
  pub remark : note.remark ≡ remark.Packet happening.packet
  pub there : note.entry ≡ Some entry
  pub time : entry.time ≡ max before happening.time
  pub event : LogsAs side happening.event entry.event

abbrev pub note_of : LogComment → ℕ → Event → Note
note_of remark time event = record { remark = remark; entry = Some (record { time = time; event = event }) }

-- a comment alone
abbrev pub remark_alone : LogComment → Note
remark_alone remark = record { remark = remark; entry = None }

-- the log has one entry more
abbrev pub Adds : Note → CurrentState → CurrentState → Type 0
Adds note old new =
    (settings : Parameters) (notes : List Note) → HasLogged settings notes old → HasLogged settings (notes ++ note ∷ []) new

-- one entry more, of what happened, where the entry before has this time
abbrev pub HasNoted : ℕ → Side → TimedEvent → CurrentState → CurrentState → Type 0
HasNoted before side happening old new =
    (note : Note) × Records before side happening note × Adds note old new

-- a message that no end takes: fewer than fourteen octets with those of its length, or more than so many behind them
abbrev pub IsNoMessage : ℕ → Happens → Type 0
IsNoMessage most happens.Up = ⊥
IsNoMessage most (happens.Message from octets) = (length octets.items < 14) ⊎ (most + 4 < length octets.items)
IsNoMessage most happens.Down = ⊥

abbrev pub LogsEventAs : ℕ → ℕ → Side → TimedEvent → LogResult → CurrentState → CurrentState → Type 0
LogsEventAs most before side happening reception.Proceeds old new = HasNoted before side happening old new
LogsEventAs most before side happening reception.Down old new = (happening.event ≡ happens.Down) × HasNoted before side happening old new
LogsEventAs most before side happening reception.Length old new = IsNoMessage most happening.event × (new ≡ old)

-- a message of so many octets, those of its length with them, is none that an end takes
abbrev pub is_no_message : ℕ → ℕ → Bool
is_no_message most count = nat_lt count 14 || nat_lt (most + 4) count

-- whether both ends log what happens, and whether more may follow
abbrev pub reception_of : ℕ → Happens → LogResult
reception_of most happens.Up = reception.Proceeds
reception_of most (happens.Message from octets) = if is_no_message most (length octets.items) then reception.Length else reception.Proceeds
reception_of most happens.Down = reception.Down
