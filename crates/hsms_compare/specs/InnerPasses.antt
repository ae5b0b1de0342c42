-- For private contracts: one pass over two logs.
use Rattle.std.specs.Prelude.{◌≡◌, ◌≤◌, ℕ, List, [], ◌∷◌, Option, Some, None, length, take, drop}
use Rattle.hsms_frame.specs.Frame.{Frame}
use Rattle.hsms_machine.specs.declared.settings.Role.{Role}
use Rattle.hsms_machine.specs.declared.settings.Role.TheVariants.{Host, Equipment}
use Rattle.hsms_compare.specs.declared.stop.MergeResult.TheVariants as step
use Rattle.hsms_compare.specs.declared.stop.Stop.TheVariants as stop
use Rattle.hsms_compare.specs.declared.merge.Merge.{Merge}
use Rattle.hsms_compare.specs.declared.reading.NumberedEntry.{NumberedEntry}
use Rattle.hsms_compare.specs.declared.pass.Pause.{Pause}
use Rattle.hsms_compare.specs.declared.pass.Pause.TheVariants.{Done, Waits}
use Rattle.hsms_compare.specs.declared.pass.Turn.{Turn}
use Rattle.hsms_compare.specs.declared.pass.Turn.TheVariants.{Merged, Differs, Stopped}
use Rattle.hsms_compare.specs.declared.pass.Offered.{Offered}
use Rattle.hsms_compare.specs.declared.pass.Offered.TheVariants.{Takes, Stops}
use Rattle.hsms_compare.specs.declared.pass.PassEnd.{PassEnd}
use Rattle.hsms_compare.specs.declared.pass.PassEnd.TheVariants as end
use Rattle.hsms_compare.specs.Conversation.{Line, entries, sent}
use Rattle.hsms_compare.specs.Agreement.{AgreeUpTo, IsDifferent, SendsAs, StopsAt}
use Rattle.hsms_compare.specs.Merge.{IsMergeStep, line_at}
use Rattle.hsms_compare.specs.Readings.{line_of, pending}

-- ---- one entry

-- The result of offering the entry that was read.
abbrev pub IsOffered : (own other : List Line) → Role → Option NumberedEntry → Merge → Offered → Merge → Type 0
IsOffered own other role None old (Stops Done) new = new ≡ old
IsOffered own other role None old (Stops (Waits position)) new = ⊥
IsOffered own other role None old (Takes turn) new = ⊥
IsOffered own other role (Some next) old (Stops Done) new = ⊥
IsOffered own other role (Some next) old (Stops (Waits position)) new =
    (position ≡ next.position) × IsMergeStep own other role (line_of next) old step.NoneInFlight new
IsOffered own other role (Some next) old (Takes (Merged which)) new =
    (which ≡ role) × IsMergeStep own other role (line_of next) old step.Merged new
IsOffered own other role (Some next) old (Takes (Differs which sender position)) new =
    (which ≡ role) × (position ≡ next.position) × IsMergeStep own other role (line_of next) old (step.OtherInFlight sender) new
IsOffered own other role (Some next) old (Takes (Stopped one another)) new = ⊥

-- Holds if an entry that is merged was read.
abbrev pub TakesOf : Role → Option NumberedEntry → Offered → Type 0
TakesOf role next (Takes (Merged which)) = (which ≡ role) × (1 ≤ length (pending next))
TakesOf role next (Takes (Differs which sender position)) = which ≡ role
TakesOf role next (Takes (Stopped one another)) = ⊥
TakesOf role next (Stops pause) = Unit {0}

-- The next step of a pass after these lines of both logs.
abbrev pub IsTurn : (host equipment : List Line) (host_next equipment_next : Option NumberedEntry) → Merge → Turn → Merge → Type 0
IsTurn host equipment host_next equipment_next old (Merged Host) new =
    IsOffered host equipment Host host_next old (Takes (Merged Host)) new
IsTurn host equipment host_next equipment_next old (Merged Equipment) new =
    IsOffered equipment host Equipment equipment_next old (Takes (Merged Equipment)) new
IsTurn host equipment host_next equipment_next old (Differs Host sender position) new =
    IsOffered host equipment Host host_next old (Takes (Differs Host sender position)) new
IsTurn host equipment host_next equipment_next old (Differs Equipment sender position) new =
    IsOffered equipment host Equipment equipment_next old (Takes (Differs Equipment sender position)) new
IsTurn host equipment host_next equipment_next old (Stopped host_pause equipment_pause) new =
    IsOffered host equipment Host host_next old (Stops host_pause) old
    × IsOffered equipment host Equipment equipment_next old (Stops equipment_pause) old

-- Holds if an entry that is merged was read.
abbrev pub TurnsOf : (host_next equipment_next : Option NumberedEntry) → Turn → Type 0
TurnsOf host_next equipment_next (Merged Host) = 1 ≤ length (pending host_next)
TurnsOf host_next equipment_next (Merged Equipment) = 1 ≤ length (pending equipment_next)
TurnsOf host_next equipment_next (Differs which sender position) = Unit {0}
TurnsOf host_next equipment_next (Stopped host_pause equipment_pause) = Unit {0}

-- ---- all entries

-- Why a log is merged up to its first i lines with the first j of the other one, and no further. These lines are left
-- to be read.
abbrev pub IsPause : List Line → ℕ → List Line → ℕ → List Line → Pause → Type 0
IsPause lines i other j left Done = (i ≡ length lines) × (left ≡ [])
IsPause lines i other j left (Waits position) =
    ((line_at lines i).position ≡ position) × StopsAt (entries lines) i (take j (entries other)) stop.Waits
    × ((line : Line) × (drop i lines ≡ line ∷ left))

-- Holds if two logs agree this far, and go no further for these reasons.
pub record HavePaused (host equipment host_left equipment_left : List Line) (host_pause equipment_pause : Pause) : Type 0 where
  pub i : ℕ
  pub j : ℕ
  pub up_to : AgreeUpTo (entries host) (entries equipment) i j
  pub host_so : IsPause host i equipment j host_left host_pause
  pub equipment_so : IsPause equipment j host i equipment_left equipment_pause

-- Holds if the receiver's line i, at this position, receives another frame than the sender's line k, at this position.
abbrev pub IsDifferentAt : (sender receiver : List Line) → ℕ → (sent_at received_at : ℕ) → Type 0
IsDifferentAt sender receiver i sent_at received_at =
    (k : ℕ) × ((line_at sender k).position ≡ sent_at) × ((line_at receiver i).position ≡ received_at)
    × IsDifferent (entries sender) (entries receiver) k i

-- The end of a pass over two logs.
abbrev pub HasStopped : (host equipment host_left equipment_left : List Line) → PassEnd → Type 0
HasStopped host equipment host_left equipment_left (end.Differs Host sent_at received_at) =
    (i : ℕ) × (j : ℕ) × AgreeUpTo (entries host) (entries equipment) i j × IsDifferentAt equipment host i sent_at received_at
HasStopped host equipment host_left equipment_left (end.Differs Equipment sent_at received_at) =
    (i : ℕ) × (j : ℕ) × AgreeUpTo (entries host) (entries equipment) i j × IsDifferentAt host equipment j sent_at received_at
HasStopped host equipment host_left equipment_left (end.Stopped host_pause equipment_pause) =
    HavePaused host equipment host_left equipment_left host_pause equipment_pause

-- The first of these lines that sends a frame, by its position.
abbrev pub IsFirstSent : List Line → Option ℕ → Type 0
IsFirstSent lines None = sent (entries lines) ≡ []
IsFirstSent lines (Some position) =
    (k : ℕ) × (frame : Frame) × ((line_at lines k).position ≡ position) × SendsAs (entries lines) k frame 0
