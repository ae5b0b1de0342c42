-- What only contracts of private functions use, besides the definitions of `TrackedConnection`.
use Rattle.std.specs.Prelude.{◌≡◌, ◌⊎◌, ◌||◌, ◌++◌, ◌∷◌, max, ℕ, Bool, true, false, List, [], map, Option, Some, None, is_some, Box}
use Rattle.std.specs.Option.{option_map}
use Rattle.std.specs.declared.alloc.Global.{Global}
use Rattle.hsms_machine.specs.Settings.{Parameters}
use Rattle.hsms_machine.specs.declared.entry.Event.TheVariants as logs_event
use Rattle.capture_tcp.specs.declared.connection.Connection.{Connection}
use Rattle.capture_tcp.specs.declared.ending.Ending.{Ending}
use Rattle.capture_tcp.specs.declared.packet.Side.{Side}
use Rattle.capture_tcp.specs.declared.packet.Side.TheVariants as side
use Rattle.capture_tcp.specs.declared.events.TimedEvent.{TimedEvent}
use Rattle.capture_tcp.specs.TcpStreams.{End, Seen}
use Rattle.capture_tcp.specs.KnownStreams.{bases, seen_of}
use Rattle.capture_tcp.specs.Laws.{AreNumbered}
use Rattle.capture_tcp.specs.ReaderInvariant.{StateInvariant, TakesOn}
use Rattle.capture_tcp.specs.Limits.{ContinuesBy}
use Rattle.capture_tcp.specs.Timestamps.{IsInTime, TakesInTime}
use Rattle.capture_log.specs.AuditedLog.{HasLogged, Note}
use Rattle.capture_log.specs.BothLogs.{Adds, Records, reception_of, note_of}
use Rattle.capture_log.specs.declared.audited_log.LogComment.TheVariants as remark
use Rattle.capture_log.specs.declared.both_logs.BothLogs.{BothLogs}
use Rattle.capture_log.specs.declared.both_logs.LogResult.{LogResult}
use Rattle.capture_log.specs.declared.both_logs.LogResult.TheVariants as reception
use Rattle.capture_log.specs.declared.socket_pair.Pair.{Pair}
use Rattle.cli_capture.specs.declared.progress.Progress.{Progress}
use Rattle.cli_capture.specs.declared.progress.Progress.TheVariants as progress
use Rattle.cli_capture.specs.declared.progress.Followed.{Followed as Taken}
use Rattle.cli_capture.specs.declared.progress.Followed.TheVariants as taken
use Rattle.cli_capture.specs.declared.tracked_connection.Logs.{Logs}
use Rattle.cli_capture.specs.declared.tracked_connection.Open.{Open}
use Rattle.cli_capture.specs.declared.tracked_connection.Waiting.{Waiting}
use Rattle.cli_capture.specs.declared.report.OutputMode.TheVariants.{Verdicts}
use Rattle.cli_capture.specs.declared.report.Report.{Report}
use Rattle.capture_errors.specs.declared.incomplete.Shortfall.{Shortfall}
use Rattle.capture_errors.specs.declared.incomplete.Shortfall.TheVariants as lacks
use Rattle.cli_capture.specs.Progress.{lack_behind}
use Rattle.cli_capture.specs.ConnectionLog.{ToldForGood, ToldOf, bare_resets}
use Rattle.cli_capture.specs.TrackedConnection.{timed_by, came_up_by, logged_by, course_by_events, WhenTold, IsTooMuch, AllFit, GivesUp}

-- ---- what both ends have heard

-- the entries of an end, one for each thing that happened, behind an entry of one time, up to that of another one
abbrev pub AreNotes : Side → ℕ → List TimedEvent → List Note → ℕ → Type 0
AreNotes side before [] notes last = (notes ≡ []) × (last ≡ before)
AreNotes side before (h ∷ hs) notes last =
    (note : Note) × (rest : List Note) × (notes ≡ note ∷ rest) × Records before side h note × AreNotes side (max before h.time) hs rest last

-- both logs have them
pub record HaveHeard (a p : Parameters) (hs : List TimedEvent) (last : ℕ) (ends : BothLogs) : Type 0 where
  pub most : ends.max ≡ a.max
  pub notes_a : List Note
  pub notes_p : List Note
  pub logged_a : HasLogged a notes_a ends.active
  pub logged_p : HasLogged p notes_p ends.passive
  pub are_a : AreNotes side.Active 0 hs notes_a last
  pub are_p : AreNotes side.Passive 0 hs notes_p last

abbrev pub IsNothing : {A : Type 0} → List A → Bool
IsNothing [] = true
IsNothing (x ∷ xs) = false

-- more may follow: there are no logs where nothing happened
abbrev pub EndsHave : Parameters → Parameters → List TimedEvent → Option (Box BothLogs Global) → Type 0
EndsHave a p hs None = hs ≡ []
EndsHave a p hs (Some box) = (IsNothing hs ≡ false) × HaveHeard a p hs box.value.time box.value

-- nothing more is logged
abbrev pub EndsHad : Parameters → Parameters → List TimedEvent → Option (Box BothLogs Global) → Type 0
EndsHad a p hs None = ⊥
EndsHad a p hs (Some box) = (last : ℕ) × HaveHeard a p hs last box.value

abbrev pub EndsBy : Progress → Parameters → Parameters → List TimedEvent → Option (Box BothLogs Global) → Type 0
EndsBy progress.Proceeds a p hs ends = EndsHave a p hs ends
EndsBy (progress.Over lack) a p hs ends = EndsHad a p hs ends

-- ---- something happens

-- the logs of both ends begin with it
abbrev pub Begins : Parameters → Parameters → Option (Box BothLogs Global) → Option (Box BothLogs Global) → Type 0
Begins a p None new = (box : Box BothLogs Global) × (new ≡ Some box) × HaveHeard a p [] box.value.time box.value
Begins a p (Some box) new = new ≡ Some box

abbrev pub HearsBy : LogResult → Parameters → Parameters → List TimedEvent → TimedEvent → Option (Box BothLogs Global) → Type 0
HearsBy reception.Proceeds a p hs h new = EndsHave a p (hs ++ h ∷ []) new
HearsBy reception.Down a p hs h new = EndsHad a p (hs ++ h ∷ []) new
HearsBy reception.Length a p hs h new = EndsHad a p hs new

abbrev pub HearsOn : Parameters → Parameters → TimedEvent → LogResult → Option (Box BothLogs Global) → Option (Box BothLogs Global) → Type 0
HearsOn a p h reception old new = (hs : List TimedEvent) → EndsHave a p hs old → (reception ≡ reception_of a.max h.event) × HearsBy reception a p hs h new

-- what happens is heard, thing by thing, as far as more may follow
abbrev pub times : Logs → List TimedEvent → List TimedEvent
times first emitted = map (timed_by first.bare_resets.items) emitted

pub record HearsAll (a p : Parameters) (hs : List TimedEvent) (old : Logs) (emitted : List TimedEvent) (progress : Progress) (new : Logs) : Type 0 where
  pub course_is : progress ≡ course_by_events a.max (times old emitted)
  pub up : new.is_up ≡ (old.is_up || came_up_by (logged_by a.max (times old emitted)))
  pub bare : new.bare_resets ≡ old.bare_resets
  pub ends : EndsBy progress a p (hs ++ logged_by a.max (times old emitted)) new.ends

abbrev pub HearsThem : Parameters → Parameters → Logs → List TimedEvent → Progress → Logs → Type 0
HearsThem a p old emitted progress new = (hs : List TimedEvent) → EndsHave a p hs old.ends → HearsAll a p hs old emitted progress new

-- ---- a connection is over

abbrev pub unboxed_ends : Option (Box BothLogs Global) → Option BothLogs
unboxed_ends ends = option_map (λ box. box.value) ends

-- both logs go down since a later connection replaces it
abbrev pub Replaces : Option (Box BothLogs Global) → Option (Box BothLogs Global) → Type 0
Replaces None new = new ≡ None
Replaces (Some old) None = ⊥
Replaces (Some old) (Some new) =
    Adds (note_of remark.Replaced old.value.time logs_event.Down) old.value.active new.value.active
    × Adds (note_of remark.Replaced old.value.time logs_event.Down) old.value.passive new.value.passive

abbrev pub DownBy : Bool → Logs → Logs → Type 0
DownBy false old new = new ≡ old
DownBy true old new = (new.is_up ≡ old.is_up) × Replaces old.ends new.ends

-- ---- a segment is taken

abbrev pub TakesSegment : Connection → Seen → List TimedEvent → List TimedEvent → Taken → Type 0
TakesSegment c s emitted later (taken.Proceeds next) = (next.ending ≡ None) × TakesOn c s emitted next later × TakesInTime c s emitted next later × ContinuesBy c emitted s
TakesSegment c s emitted later (taken.BothLogs lack) =
    ((next : Connection) × (ending : Ending) × (next.ending ≡ Some ending) × (lack ≡ lack_behind ending None)
    × TakesOn c s emitted next later × TakesInTime c s emitted next later)
    ⊎ ((lack ≡ Some (lacks.Full s.packet)) × (later ≡ emitted)
    × ((base : End → ℕ) (before : List Seen) (away : List TimedEvent) → StateInvariant c (away ++ emitted) base before → IsTooMuch base before s))

-- it goes on, or it is over, by what was heard of it or by what it lacks
abbrev pub ContinuesWith : Pair → Logs → Progress → Taken → Option Open → Report → Report → Type 0
ContinuesWith pair logs progress.Proceeds (taken.Proceeds c) left old new = (left ≡ Some (record { connection = c; logs = logs })) × (new ≡ old)
ContinuesWith pair logs progress.Proceeds (taken.BothLogs lack) left old new = (left ≡ None) × WhenTold (logs.is_up || is_some lack) pair lack (unboxed_ends logs.ends) old new
ContinuesWith pair logs (progress.Over lack) t left old new = (left ≡ None) × WhenTold (logs.is_up || is_some lack) pair lack (unboxed_ends logs.ends) old new

-- a connection that goes on, behind these segments
pub record IsFollowed (a p : Parameters) (base : End → ℕ) (seen : List Seen) (o : Open) : Type 0 where
  pub emitted : List TimedEvent
  pub unended : o.connection.ending ≡ None
  pub consistent : StateInvariant o.connection emitted base seen
  pub timed : IsInTime o.connection emitted base seen
  pub proceeds : course_by_events a.max emitted ≡ progress.Proceeds
  pub up : o.logs.is_up ≡ came_up_by emitted
  pub bare : o.logs.bare_resets.items ≡ bare_resets seen
  pub ends : EndsHave a p emitted o.logs.ends
  pub fit : AllFit base [] seen

abbrev pub FollowsOn : Parameters → Parameters → Pair → (End → ℕ) → List Seen → Seen → Option Open → Report → Report → Type 0
FollowsOn a p pair base before s None old new = ToldForGood a p pair base (before ++ s ∷ []) old new ⊎ GivesUp a p pair base before s old new
FollowsOn a p pair base before s (Some o) old new = (new ≡ old) × IsFollowed a p base (before ++ s ∷ []) o

-- one segment more, where verdicts are told
abbrev pub Follows : Pair → Seen → Open → Option Open → Report → Report → Type 0
Follows pair s o left old new =
    old.manner ≡ Verdicts → (base : End → ℕ) (before : List Seen) → AreNumbered 0 (before ++ s ∷ []) → IsFollowed old.active old.passive base before o
    → FollowsOn old.active old.passive pair base before s left old new

-- no segment follows
abbrev pub EndsOpen : Pair → Bool → Option Shortfall → Open → Report → Report → Type 0
EndsOpen pair replaced missing o old new =
    old.manner ≡ Verdicts → (base : End → ℕ) (seen : List Seen) → AreNumbered 0 seen → IsFollowed old.active old.passive base seen o
    → ToldOf old.active old.passive pair base seen replaced missing old new

-- ---- several segments, one after another

abbrev pub seen_waiting : Waiting → Seen
seen_waiting w = seen_of w.segment w.octets.items

-- it goes on behind all of them, or it is over with one of them
abbrev pub FollowsThem : Parameters → Parameters → Pair → (End → ℕ) → List Seen → List Seen → Option Open → Report → Report → Type 0
FollowsThem a p pair base before ss None old new =
    (front : List Seen) × (s : Seen) × (rest : List Seen) × (ss ≡ front ++ s ∷ rest) × FollowsOn a p pair base (before ++ front) s None old new
FollowsThem a p pair base before ss (Some o) old new = (new ≡ old) × IsFollowed a p base (before ++ ss) o

abbrev pub FollowsAll : Pair → List Seen → Open → Option Open → Report → Report → Type 0
FollowsAll pair ss o left old new =
    old.manner ≡ Verdicts → (base : End → ℕ) (before : List Seen) → AreNumbered 0 (before ++ ss) → IsFollowed old.active old.passive base before o
    → FollowsThem old.active old.passive pair base before ss left old new

-- it begins by the numbers of both SYNs
abbrev pub BeginsWith : Pair → ℕ → ℕ → List Seen → Option Open → Report → Report → Type 0
BeginsWith pair a p ss left old new =
    old.manner ≡ Verdicts → AreNumbered 0 ss → FollowsThem old.active old.passive pair (bases a p) [] ss left old new
