-- How far two logs agree, and the first contradiction after that.
use Rattle.std.specs.Prelude.{◌≡◌, ◌≢◌, ◌+◌, ◌-◌, ◌<◌, ◌≤◌, ◌++◌, ℕ, List, [], ◌∷◌, Bool, true, false, not, IsTrue, Option, Some, None, length, take}
use Rattle.hsms_frame.specs.Frame.{Frame}
use Rattle.hsms_machine.specs.declared.entry.Entry.{Entry}
use Rattle.hsms_machine.specs.Entry.{entry_at, is_down}
use Rattle.hsms_machine.specs.declared.settings.Role.TheVariants.{Host, Equipment}
use Rattle.hsms_compare.specs.declared.stop.Stop.{Stop}
use Rattle.hsms_compare.specs.declared.stop.Stop.TheVariants.{Ended, Waits, OtherSent}
use Rattle.hsms_compare.specs.declared.contradiction.Contradiction.{Contradiction}
use Rattle.hsms_compare.specs.declared.contradiction.Contradiction.TheVariants.{Differs, Unsent, Order}
use Rattle.hsms_compare.specs.Conversation.{Agree, sent, received, sent_by, received_by}

-- Holds if the first i entries of the host's log and the first j of the equipment's agree. No prefixes that agree
-- have more entries, at either end.
pub record AgreeUpTo (host equipment : List Entry) (i j : ℕ) : Type 0 where
  pub within_host : i ≤ length host
  pub within_equipment : j ≤ length equipment
  pub agree : Agree (take i host) (take j equipment)
  pub furthest : (m n : ℕ) → m ≤ length host → n ≤ length equipment → Agree (take m host) (take n equipment)
      → (m ≤ i) × (n ≤ j)

-- Holds if the entry at i receives this frame, as the n-th that the log receives, counted from 0.
pub record ReceivesAs (log : List Entry) (i : ℕ) (frame : Frame) (n : ℕ) : Type 0 where
  pub there : i < length log
  pub frame_is : received_by (entry_at log i).event ≡ frame ∷ []
  pub number : n ≡ length (received (take i log))

-- Holds if the entry at k sends this frame, as the n-th that the log sends, counted from 0.
pub record SendsAs (log : List Entry) (k : ℕ) (frame : Frame) (n : ℕ) : Type 0 where
  pub there : k < length log
  pub frame_is : sent_by (entry_at log k).event ≡ frame ∷ []
  pub number : n ≡ length (sent (take k log))

-- Holds if the receiver's entry at i receives its n-th frame, and the sender's entry at k sends another frame as its
-- n-th.
abbrev pub IsDifferent : (sender receiver : List Entry) → ℕ → ℕ → Type 0
IsDifferent sender receiver k i =
    (frame : Frame) × (another : Frame) × (n : ℕ) × ReceivesAs receiver i frame n × SendsAs sender k another n × (another ≢ frame)

-- Holds if the receiver's entry at i receives one frame more than the sender's log sends.
abbrev pub IsUnsent : (sender receiver : List Entry) → ℕ → Type 0
IsUnsent sender receiver i = (frame : Frame) × (n : ℕ) × ReceivesAs receiver i frame n × (length (sent sender) ≤ n)

-- Why a log is merged up to its first i entries with this prefix of the other one, and no further.
abbrev pub StopsAt : List Entry → ℕ → List Entry → Stop → Type 0
StopsAt log i other Ended = i ≡ length log
StopsAt log i other Waits = IsUnsent other log i
StopsAt log i other (OtherSent k) = IsDifferent other log k i

-- Holds if the last n frames that the sender's log sends are not received.
abbrev pub AreLost : (sender receiver : List Entry) → ℕ → Type 0
AreLost sender receiver n = n + length (received receiver) ≡ length (sent sender)

-- ---- logs that may have more

-- True if a log is open: its last entry does not close the connection.
abbrev pub is_open : List Entry → Bool
is_open log = not (is_down (entry_at log (length log - 1)).event)

-- The entries that may follow a log, if it is open.
abbrev pub MayHave : Bool → List Entry → Type 0
MayHave true more = Unit {0}
MayHave false more = more ≡ []

-- Holds if both logs agree with what may follow them.
pub record CanAgree (host_open equipment_open : Bool) (host equipment : List Entry) : Type 0 where
  pub host_more : List Entry
  pub equipment_more : List Entry
  pub host_may : MayHave host_open host_more
  pub equipment_may : MayHave equipment_open equipment_more
  pub agree : Agree (host ++ host_more) (equipment ++ equipment_more)

-- ---- contradictions

-- Holds if the receiver's entry at i receives its n-th frame, and the sender's log sends its n-th one after its entry
-- at j.
abbrev pub IsSentLater : (sender receiver : List Entry) → ℕ → ℕ → Type 0
IsSentLater sender receiver j i =
    (frame : Frame) × (another : Frame) × (n : ℕ) × (k : ℕ) × ReceivesAs receiver i frame n × SendsAs sender k another n × (j < k)

-- The contradiction of two logs that agree up to i and j, and no further. What an open log may still send is no
-- contradiction, if all of that log agrees.
abbrev pub Contradicts : (host_open equipment_open : Bool) (host equipment : List Entry) → ℕ → ℕ → Contradiction → Type 0
Contradicts host_open equipment_open host equipment i j (Differs Host sender receiver) =
    (receiver ≡ i) × IsDifferent equipment host sender receiver
Contradicts host_open equipment_open host equipment i j (Differs Equipment sender receiver) =
    (receiver ≡ j) × IsDifferent host equipment sender receiver
Contradicts host_open equipment_open host equipment i j (Unsent Host receiver) =
    (receiver ≡ i) × IsUnsent equipment host receiver × (IsTrue equipment_open → j < length equipment)
Contradicts host_open equipment_open host equipment i j (Unsent Equipment receiver) =
    (receiver ≡ j) × IsUnsent host equipment receiver × (IsTrue host_open → i < length host)
Contradicts host_open equipment_open host equipment i j (Order at_host at_equipment) =
    (at_host ≡ i) × (at_equipment ≡ j) × IsSentLater equipment host j i × IsSentLater host equipment i j

-- The first contradiction, or none.
abbrev pub FirstContradiction : (host_open equipment_open : Bool) (host equipment : List Entry) → Option Contradiction → Type 0
FirstContradiction host_open equipment_open host equipment None = CanAgree host_open equipment_open host equipment
FirstContradiction host_open equipment_open host equipment (Some found) =
    (i : ℕ) × (j : ℕ) × AgreeUpTo host equipment i j × Contradicts host_open equipment_open host equipment i j found
