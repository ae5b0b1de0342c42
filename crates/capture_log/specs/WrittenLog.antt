-- The log of one end of one connection after another, as it is written.
use Rattle.std.specs.Prelude.{◌≡◌, ◌<◌, ◌⊎◌, ℕ, true, false, Option, None, Some, List, [], ◌∷◌, ◌++◌}
use Rattle.hsms_machine.specs.Settings.{Parameters}
use Rattle.hsms_log.specs.LineFormat.{settings_line}
use Rattle.capture_tcp.specs.declared.packet.Side.{Side}
use Rattle.capture_tcp.specs.declared.events.Event.{Event as Happens}
use Rattle.capture_tcp.specs.declared.events.Event.TheVariants as happens
use Rattle.capture_tcp.specs.declared.events.TimedEvent.{TimedEvent}
use Rattle.capture_errors.specs.declared.rejection.Rejection.TheVariants.{Overlap, Peer}
use Rattle.capture_log.specs.declared.both_logs.LogResult.{LogResult}
use Rattle.capture_log.specs.declared.both_logs.LogResult.TheVariants as reception
use Rattle.capture_log.specs.declared.written_log.Begun.{Begun}
use Rattle.capture_log.specs.declared.socket_pair.Pair.{Pair}
use Rattle.capture_log.specs.declared.stop.Stop.{Stop}
use Rattle.capture_log.specs.declared.stop.Stop.TheVariants as stop
use Rattle.capture_log.specs.AuditedLog.{Note, note_text}
use Rattle.capture_log.specs.BothLogs.{IsNoMessage, Records}
use Rattle.capture_log.specs.SocketPair.{HaveSameAddresses}

-- ---- the connection that came up last, if one did

-- it has other addresses
abbrev pub HasOthers : Option Begun → Pair → Type 0
HasOthers None pair = ⊥
HasOthers (Some begun) pair = HaveSameAddresses begun.pair pair → ⊥

-- it has the same, and is up
abbrev pub IsStillUp : Option Begun → Pair → Type 0
IsStillUp None pair = ⊥
IsStillUp (Some begun) pair = HaveSameAddresses begun.pair pair × (begun.is_up ≡ true)

-- there is none, or it has the same and went down
abbrev pub MayComeUp : Option Begun → Pair → Type 0
MayComeUp None pair = Unit {0}
MayComeUp (Some begun) pair = HaveSameAddresses begun.pair pair × (begun.is_up ≡ false)

abbrev pub MayHappen : Option Begun → Pair → Happens → Type 0
MayHappen begun pair happens.Up = MayComeUp begun pair
MayHappen begun pair (happens.Message from octets) = Unit {0}
MayHappen begun pair happens.Down = Unit {0}

-- it has the same addresses, and the last entry of the log is later than this time
abbrev pub IsLater : Option Begun → Pair → ℕ → ℕ → Type 0
IsLater None pair last time = ⊥
IsLater (Some begun) pair last time = HaveSameAddresses begun.pair pair × (time < last)

-- one that is assumed to have come up at this time: its entries come after those of the log, with their own times
abbrev pub MayBeAssumed : Option Begun → Pair → ℕ → ℕ → Type 0
MayBeAssumed begun pair last time = MayComeUp begun pair × (IsLater begun pair last time → ⊥)

abbrev pub came_up : Pair → Option Begun
came_up pair = Some (record { pair = pair; is_up = true })

abbrev pub went_down : Option Begun → Option Begun
went_down None = None
went_down (Some begun) = Some (record { pair = begun.pair; is_up = false })

-- what becomes of it by what happens
abbrev pub begun_by : Option Begun → Pair → Happens → Option Begun
begun_by begun pair happens.Up = came_up pair
begun_by begun pair (happens.Message from octets) = begun
begun_by begun pair happens.Down = went_down begun

-- ---- what stops a log

-- a connection doesn't come up at this packet, where the one before has other addresses or is up; or memory is wanting
abbrev pub Refuses : Option Begun → Pair → ℕ → Stop → Type 0
Refuses begun pair packet (stop.Refused rejection) =
    (HasOthers begun pair × (rejection ≡ Peer packet)) ⊎ (IsStillUp begun pair × (rejection ≡ Overlap packet))
Refuses begun pair packet stop.Memory = Unit {0}

-- the same for one that is assumed to have come up at this time: the log may also have a later entry
abbrev pub RefusesAssumed : Option Begun → Pair → ℕ → ℕ → ℕ → Stop → Type 0
RefusesAssumed begun pair packet last time why =
    Refuses begun pair packet why ⊎ (IsLater begun pair last time × (why ≡ stop.Refused (Overlap packet)))

-- only what comes up is refused
abbrev pub Stops : Option Begun → Pair → ℕ → Happens → Stop → Type 0
Stops begun pair packet happens.Up why = Refuses begun pair packet why
Stops begun pair packet (happens.Message from octets) why = why ≡ stop.Memory
Stops begun pair packet happens.Down why = why ≡ stop.Memory

-- what is refused leaves the connection that came up last as it was
abbrev pub Leaves : Stop → Option Begun → Option Begun → Type 0
Leaves (stop.Refused rejection) old new = new ≡ old
Leaves stop.Memory old new = Unit {0}

-- ---- what is told

-- the first connection that comes up begins the log
abbrev pub front_of : Option Begun → Parameters → List ℕ
front_of None settings = settings_line settings ++ 10 ∷ []
front_of (Some begun) settings = []

abbrev pub front_by : Option Begun → Parameters → Happens → List ℕ
front_by begun settings happens.Up = front_of begun settings
front_by begun settings (happens.Message from octets) = []
front_by begun settings happens.Down = []

-- behind what was there: the front of the log, where it begins here, and what happened
abbrev pub WritesNote : List ℕ → ℕ → Side → TimedEvent → List ℕ → List ℕ → Type 0
WritesNote front before side happening old new =
    (note : Note) × Records before side happening note × (new ≡ (old ++ front) ++ note_text note)

-- the same, or nothing where it is a message that no end takes
abbrev pub WritesEventAs : Option Begun → Parameters → ℕ → Side → TimedEvent → LogResult → List ℕ → List ℕ → Type 0
WritesEventAs begun settings before side happening reception.Proceeds old new =
    WritesNote (front_by begun settings happening.event) before side happening old new
WritesEventAs begun settings before side happening reception.Down old new =
    (happening.event ≡ happens.Down) × WritesNote (front_by begun settings happening.event) before side happening old new
WritesEventAs begun settings before side happening reception.Length old new =
    IsNoMessage settings.max happening.event × (new ≡ old)
