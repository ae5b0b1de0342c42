-- Two logs of one conversation: what each endpoint sent and received, and one history of both. TCP keeps the order of
-- what is sent, and adds nothing.
use Rattle.std.specs.Prelude.{◌≡◌, ◌++◌, ℕ, List, [], ◌∷◌, map, take}
use Rattle.std.specs.List.{flat_map}
use Rattle.hsms_frame.specs.Frame.{Frame}
use Rattle.hsms_machine.specs.declared.entry.Entry.{Entry}
use Rattle.hsms_machine.specs.declared.entry.Event.{Event}
use Rattle.hsms_machine.specs.declared.entry.Event.TheVariants.{Sent, Taken, Discarded}
use Rattle.hsms_machine.specs.declared.settings.Role.{Role}
use Rattle.hsms_machine.specs.declared.settings.Role.TheVariants.{Host, Equipment}

-- ---- of one endpoint

-- The frame that an event sends.
abbrev pub sent_by : Event → List Frame
sent_by (Sent frame) = frame ∷ []
sent_by _ = []

-- The frame that an event receives, accepted or discarded.
abbrev pub received_by : Event → List Frame
received_by (Taken frame) = frame ∷ []
received_by (Discarded frame) = frame ∷ []
received_by _ = []

-- The frames that a log sends, in order.
abbrev pub sent : List Entry → List Frame
sent log = flat_map (λ entry. sent_by entry.event) log

-- The frames that a log receives, in order.
abbrev pub received : List Entry → List Frame
received log = flat_map (λ entry. received_by entry.event) log

-- Holds if the list begins with the prefix.
abbrev pub IsPrefix : List Frame → List Frame → Type 0
IsPrefix prefix list = (rest : List Frame) × (list ≡ prefix ++ rest)

-- ---- with positions

-- An entry and its position, such as its line number.
pub record Line : Type 0 where
  pub position : ℕ
  pub entry : Entry

abbrev pub entries : List Line → List Entry
entries lines = map (λ (line : Line). line.entry) lines

-- ---- of both endpoints

-- An entry, and the endpoint that logged it.
pub record Step : Type 0 where
  pub end : Role
  pub entry : Entry

abbrev pub peer : Role → Role
peer Host = Equipment
peer Equipment = Host

-- The entry, if both roles are the same.
abbrev pub entry_of : Role → Role → Entry → List Entry
entry_of Host Host entry = entry ∷ []
entry_of Equipment Equipment entry = entry ∷ []
entry_of _ _ entry = []

-- The entries that an endpoint logs of a history.
abbrev pub log_of : Role → List Step → List Entry
log_of end history = flat_map (λ step. entry_of end step.end step.entry) history

-- Holds if what the receiver has received is a prefix of what the sender has sent, each according to its own log.
abbrev pub IsDelivered : (sender receiver : List Entry) → Type 0
IsDelivered sender receiver = IsPrefix (received receiver) (sent sender)

-- Holds if this is true after each step of the history, in both directions.
abbrev pub IsPossible : List Step → Type 0
IsPossible history =
    (end : Role) (moment : ℕ) → IsDelivered (log_of (peer end) (take moment history)) (log_of end (take moment history))

-- Holds if the two logs are of one conversation: some possible history gives both of them.
pub record Agree (host equipment : List Entry) : Type 0 where
  pub history : List Step
  pub of_host : log_of Host history ≡ host
  pub of_equipment : log_of Equipment history ≡ equipment
  pub possible : IsPossible history
