-- The comparison of the texts of two logs.
use Rattle.std.specs.Prelude.{◌≡◌, ◌≢◌, ◌⊎◌, ◌==◌, ◌&&◌, ℕ, List}
use Rattle.hsms_machine.specs.declared.settings.Role.TheVariants.{Host, Equipment}
use Rattle.hsms_machine.specs.Settings.{Parameters}
use Rattle.hsms_compare.specs.Conversation.{Line}
use Rattle.hsms_compare.specs.LineContradiction.{FirstByLines}
use Rattle.hsms_compare_repair.specs.Connection.{AreFactsTo}
use Rattle.hsms_compare_logs.specs.declared.comparing.LogComparison.{LogComparison}
use Rattle.hsms_compare_logs.specs.declared.comparing_logs.CompareFault.{CompareFault}
use Rattle.hsms_compare_logs.specs.declared.comparing_logs.CompareFault.TheVariants.{Log, FirstLineOfFirst, FirstLineOfSecond, SameRole, SameLink, Device}
use Rattle.hsms_compare_logs.specs.LogEntries.{HasEntries, HasSettings, connection_of, is_open_connection}
use Rattle.hsms_compare_causes.specs.declared.connection_log.ConnectionLog.{ConnectionLog}
use Rattle.hsms_compare_logs.specs.PairFailures.{AreFailuresIf, are_decided}
use Rattle.hsms_compare_logs.specs.ReadLogs.{IsOfText}
use Rattle.hsms_compare_logs.specs.Records.{IsLogOf}

-- Holds if logs with these settings can be of both ends of one connection.
pub record CanCompare (s t : Parameters) : Type 0 where
  pub roles : s.role ≢ t.role
  pub links : s.link ≢ t.link
  pub devices : s.device ≡ t.device

-- Holds if these are the failed requests of the first connections of two logs with these entries and settings, or none if
-- the logs do not decide what became of requests.
pub record AreFailuresOf (h : List Line) (s : Parameters) (e : List Line) (t : Parameters) (comparison : LogComparison) : Type 0 where
  pub host : ConnectionLog
  pub equipment : ConnectionLog
  pub host_so : IsLogOf (connection_of h) (is_open_connection h) host
  pub equipment_so : IsLogOf (connection_of e) (is_open_connection e) equipment
  pub failures_so : AreFailuresIf (are_decided comparison.contradiction comparison.is_in_order comparison.host.frames comparison.equipment.frames)
      host equipment s t comparison.failures

-- Holds if the texts begin with these settings, and these are the first contradiction of their first connections, or
-- none, the facts of both directions, and what is read of both.
pub record HaveComparison (host : List ℕ) (s : Parameters) (equipment : List ℕ) (t : Parameters) (comparison : LogComparison) : Type 0 where
  pub role : s.role ≡ Host
  pub host_settings : HasSettings host s
  pub equipment_settings : HasSettings equipment t
  pub contradiction : (h e : List Line) → HasEntries host s h → HasEntries equipment t e
      → FirstByLines (is_open_connection h) (is_open_connection e) (connection_of h) (connection_of e) comparison.contradiction
  pub to_equipment : AreFactsTo comparison.host.frames comparison.equipment.frames comparison.facts.to_equipment.items
  pub to_host : AreFactsTo comparison.equipment.frames comparison.host.frames comparison.facts.to_host.items
  pub failures : (h e : List Line) → HasEntries host s h → HasEntries equipment t e → AreFailuresOf h s e t comparison
  pub of_host : IsOfText host comparison.host
  pub of_equipment : IsOfText equipment comparison.equipment

-- Holds for the texts in either order. Their connections are in order if both logs are of version 1.
abbrev pub AreCompared : (one other : List ℕ) → LogComparison → Type 0
AreCompared one other comparison =
    (s : Parameters) × (t : Parameters) × CanCompare s t × (comparison.is_in_order ≡ ((s.version == 1) && (t.version == 1)))
    × (HaveComparison one s other t comparison ⊎ HaveComparison other t one s comparison)

-- ---- texts that are not compared

-- The first reason why logs with these settings cannot be of both ends of one connection.
abbrev pub CannotCompare : (s t : Parameters) → CompareFault → Type 0
CannotCompare s t SameRole = s.role ≡ t.role
CannotCompare s t SameLink = (s.role ≢ t.role) × (s.link ≡ t.link)
CannotCompare s t Device = (s.role ≢ t.role) × (s.link ≢ t.link) × (s.device ≢ t.device)
CannotCompare s t fault = ⊥

abbrev pub HasNoSettings : List ℕ → Type 0
HasNoSettings text = (s : Parameters) → HasSettings text s → ⊥

-- The first reason why two texts are not compared. `Log` says that a log was not read to its end.
abbrev pub AreNotCompared : (one other : List ℕ) → CompareFault → Type 0
AreNotCompared one other (Log fault) = Unit {0}
AreNotCompared one other FirstLineOfFirst = HasNoSettings one
AreNotCompared one other FirstLineOfSecond = (s : Parameters) × HasSettings one s × HasNoSettings other
AreNotCompared one other fault = (s : Parameters) × (t : Parameters) × HasSettings one s × HasSettings other t × CannotCompare s t fault
