-- Two endpoints that are connected by two byte streams, each read in chunks of any size.
use Rattle.std.specs.Prelude.{◌≡◌, ◌++◌, ℕ, List, [], ◌∷◌}
use Rattle.std.specs.List.{flat_map}
use Rattle.hsms_frame.specs.Frame.{Frame, frame_octets, IsFrame}
use Rattle.hsms_machine.specs.declared.entry.Entry.{Entry}
use Rattle.hsms_compare.specs.Conversation.{Agree, sent, received}

-- The bytes of messages, in order.
abbrev pub octets_of : List Frame → List ℕ
octets_of frames = flat_map frame_octets frames

-- Holds if the numbers of each message are in their ranges.
abbrev pub AreMessages : List Frame → Type 0
AreMessages [] = Unit {0}
AreMessages (frame ∷ frames) = IsFrame frame × AreMessages frames

-- Holds if a log sends and receives messages whose numbers are in their ranges.
abbrev pub CarriesMessages : List Entry → Type 0
CarriesMessages log = AreMessages (sent log) × AreMessages (received log)

-- One turn of an endpoint: the bytes that it receives, possibly none, and the entries that it logs.
pub data Turn : Type 0 where
  AtHost : List ℕ → List Entry → Turn
  AtEquipment : List ℕ → List Entry → Turn

-- The entries that the host logs in these turns.
abbrev pub host_log : List Turn → List Entry
host_log [] = []
host_log (AtHost octets entries ∷ turns) = entries ++ host_log turns
host_log (AtEquipment octets entries ∷ turns) = host_log turns

-- The entries that the equipment logs.
abbrev pub equipment_log : List Turn → List Entry
equipment_log [] = []
equipment_log (AtHost octets entries ∷ turns) = equipment_log turns
equipment_log (AtEquipment octets entries ∷ turns) = entries ++ equipment_log turns

-- Holds if the bytes that the receiver has read are a prefix of those that the sender has sent. They begin with the
-- messages that it has received, and more may follow.
abbrev pub IsStreamed : (sender receiver : List Entry) → List ℕ → Type 0
IsStreamed sender receiver bytes =
    (pending : List ℕ) × (in_transit : List ℕ)
    × (octets_of (sent sender) ≡ bytes ++ in_transit) × (bytes ≡ octets_of (received receiver) ++ pending)

-- Holds if each of these turns keeps both streams as in `IsStreamed`, after these entries of both endpoints and these
-- bytes to each.
abbrev pub AreStreamed : (host equipment : List Entry) → (to_host to_equipment : List ℕ) → List Turn → Type 0
AreStreamed host equipment to_host to_equipment [] = Unit {0}
AreStreamed host equipment to_host to_equipment (AtHost octets entries ∷ turns) =
    IsStreamed equipment (host ++ entries) (to_host ++ octets)
    × AreStreamed (host ++ entries) equipment (to_host ++ octets) to_equipment turns
AreStreamed host equipment to_host to_equipment (AtEquipment octets entries ∷ turns) =
    IsStreamed host (equipment ++ entries) (to_equipment ++ octets)
    × AreStreamed host (equipment ++ entries) to_host (to_equipment ++ octets) turns

-- Two such endpoints log one conversation, in any order of their turns and wherever it stops.
abbrev pub StreamedLogsAgree : Type 0
StreamedLogsAgree =
    (turns : List Turn) → AreStreamed [] [] [] [] turns → CarriesMessages (host_log turns) → CarriesMessages (equipment_log turns)
    → Agree (host_log turns) (equipment_log turns)
