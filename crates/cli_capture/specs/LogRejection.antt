-- Where the log of one end is told: which refusal comes of a connection, and what stands on the page then.
use Rattle.std.specs.Prelude.{◌≡◌, ◌⊎◌, ◌<◌, ◌++◌, ◌∷◌, ℕ, List, [], length, Option, Some, None}
use Rattle.hsms_machine.specs.Settings.{Parameters}
use Rattle.capture_tcp.specs.declared.packet.Side.{Side}
use Rattle.capture_tcp.specs.TcpStreams.{End, Seen, places}
use Rattle.capture_tcp.specs.EndOfStream.{ended}
use Rattle.capture_tcp.specs.KnownStreams.{bases}
use Rattle.capture_tcp.specs.ConnectionEvents.{up, Entry, emits}
use Rattle.capture_log.specs.WrittenLog.{Refuses}
use Rattle.capture_log.specs.declared.written_log.WrittenLog.{WrittenLog}
use Rattle.capture_log.specs.declared.socket_pair.Pair.{Pair}
use Rattle.capture_log.specs.declared.stop.Stop.{Stop}
use Rattle.cli_capture.specs.declared.report.Report.{Report}
use Rattle.capture_errors.specs.declared.incomplete.Shortfall.{Shortfall}
use Rattle.capture_errors.specs.declared.incomplete.Shortfall.TheVariants.{Full}
use Rattle.cli_capture.specs.Progress.{lack_behind}
use Rattle.cli_capture.specs.TrackedConnection.{IsTooMuch, MayTellMore}
use Rattle.cli_capture.specs.ConnectionLog.{clock_of, entries_logged}
use Rattle.cli_capture.specs.LogOutput.{EntriesOn, IsOver, LogsTo, Page, SegmentsOn, page_of}
use Rattle.cli_capture.specs.Report.{first_of}
use Rattle.cli_capture.specs.ConnectionState.{lost_by}
use Rattle.cli_capture.specs.StopError.{IsRefusalOf}

-- ---- what is missing

-- it is refused in the words of what was missing first, and the page is as it was
pub record RefusesFor (lacks : Option Shortfall) (st : Stop) (old new : Report) : Type 0 where
  pub lack : Shortfall
  pub lack_is : lacks ≡ Some lack
  pub words : IsRefusalOf (first_of old.shortfall lack) st
  pub page_is : new.page.octets ≡ old.page.octets

-- ---- what comes up

-- the same by the entries of the definition
pub record RefusesUp (settings : Parameters) (side : Side) (pair : Pair) (clock : ℕ → Entry → ℕ) (es : List Entry) (old : Page) (st : Stop) (text : List ℕ) : Type 0 where
  pub front : List Entry
  pub e : Entry
  pub rest : List Entry
  pub are : es ≡ front ++ e ∷ rest
  pub is_up : e.emitted ≡ up
  pub mid : Page
  pub on : EntriesOn settings side pair clock front old mid
  pub refused : Refuses mid.begun pair e.packet st
  pub text_is : text ≡ mid.text

-- ---- a segment

-- it lacks something, whatever follows: what is told of it is on the page
pub record RefusesLack (j : WrittenLog) (pair : Pair) (base : End → ℕ) (seen : List Seen) (es : List Entry) (st : Stop) (old new : Report) : Type 0 where
  pub lack : Shortfall
  pub lacks : IsOver (Some lack) j.settings.max base seen
  pub words : IsRefusalOf (first_of old.shortfall lack) st
  pub mid : Page
  pub on : EntriesOn j.settings j.side pair (clock_of base seen) es (page_of j old) mid
  pub text_is : new.page.octets ≡ mid.text

-- something that is told with it isn't logged, or something is missing
pub record RefusesTold (j : WrittenLog) (pair : Pair) (base : End → ℕ) (before : List Seen) (s : Seen) (st : Stop) (old new : Report) : Type 0 where
  pub more : List Entry
  pub tells_are : emits (places base [] (before ++ s ∷ [])) ≡ emits (places base [] before) ++ more
  pub reason : RefusesUp j.settings j.side pair (clock_of base (before ++ s ∷ [])) (entries_logged j.settings.max more) (page_of j old) st new.page.octets
      ⊎ RefusesLack j pair base (before ++ s ∷ []) (entries_logged j.settings.max more) st old new

-- more might have been told of those before, and with it too much would wait
pub record RefusesMore (settings : Parameters) (base : End → ℕ) (before : List Seen) (s : Seen) (st : Stop) (old new : Report) : Type 0 where
  pub more : MayTellMore settings base before
  pub past : IsTooMuch base before s
  pub refused : RefusesFor (Some (Full s.packet)) st old new

abbrev pub RefusesSegment : WrittenLog → Pair → (End → ℕ) → List Seen → Seen → Stop → Report → Report → Type 0
RefusesSegment j pair base before s st old new = RefusesTold j pair base before s st old new ⊎ RefusesMore j.settings base before s st old new

-- ---- several segments, one after another

-- one of them is refused, and the page has what is told with those before it
pub record RefusesOf (j : WrittenLog) (pair : Pair) (base : End → ℕ) (before ss : List Seen) (st : Stop) (old new : Report) : Type 0 where
  pub front : List Seen
  pub s : Seen
  pub rest : List Seen
  pub are : ss ≡ front ++ s ∷ rest
  pub mid : Report
  pub logs : LogsTo (SegmentsOn j.settings j.side pair base before front) j old mid
  pub refused : RefusesSegment logs.next pair base (before ++ front) s st mid new

-- ---- a connection by the number of its SYN

-- with a segment, by the numbers of the passive end's SYN that are known before it and with it
abbrev pub RefusedWith : Option ℕ → Option ℕ → WrittenLog → Pair → ℕ → List Seen → Seen → Stop → Report → Report → Type 0
RefusedWith (Some other) now j pair number seen s st old new = RefusesSegment j pair (bases number other) seen s st old new
RefusedWith None (Some other) j pair number seen s st old new = RefusesOf j pair (bases number other) [] (seen ++ s ∷ []) st old new
RefusedWith None None j pair number seen s st old new = (4096 < length (seen ++ s ∷ [])) × RefusesFor (lost_by (seen ++ s ∷ [])) st old new

abbrev pub lack_at_end : Option ℕ → ℕ → List Seen → Option Shortfall → Option Shortfall
lack_at_end None number seen missing = lost_by seen
lack_at_end (Some other) number seen missing = lack_behind (ended (places (bases number other) [] seen)) missing
