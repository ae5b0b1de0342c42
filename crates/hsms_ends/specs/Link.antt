-- The recorded calls of a link.
use Rattle.std.specs.Prelude.{◌≡◌, ◌<◌, ◌≤◌, ◌+◌, ◌^◌, ◌++◌, ℕ, Bool, true, false, List, [], ◌∷◌, length, take, Option, Some, None, Result, Ok, Err}
use Rattle.hsms_frame.specs.CallCounts.{next_count}
use Rattle.hsms_frame.specs.Io.{IfRecorded, Grows, Stays}
use Rattle.hsms_ends.specs.declared.link.Got.{Got}
use Rattle.hsms_ends.specs.declared.link.Got.TheVariants.{Octets, Quiet, Closed}
use Rattle.hsms_ends.specs.declared.fault.LinkFault.{LinkFault}

-- The record of a link: the times that `now` returned, the bytes that `wait` read and those that `send` sent. Each is
-- in order, and only present if the link records it. It also has the number of waits that returned, how many of them
-- returned `Closed`, whether the last one did, and the number of failures.
pub record LinkState : Type 0 where
  pub moments : Option (List ℕ)
  pub given : Option (List ℕ)
  pub taken : Option (List ℕ)
  pub waits : ℕ
  pub closes : ℕ
  pub closed : Bool
  pub failures : ℕ

-- The input from a link in a sequence of calls: the times, the bytes read, and the numbers of waits that returned and
-- of `Closed` among them. If a wait returned, it also says whether the last one returned `Closed`.
pub record LinkInput : Type 0 where
  pub moments : List ℕ
  pub given : List ℕ
  pub waits : ℕ
  pub closes : ℕ
  pub closed : Option Bool

-- True if the last wait returned `Closed`, after a sequence of calls.
abbrev pub closed_after : Bool → Option Bool → Bool
closed_after before None = before
closed_after before (Some closed) = closed

-- Whether the last wait in two sequences returned `Closed`, if there is one.
abbrev pub later : Option Bool → Option Bool → Option Bool
later a None = a
later a (Some closed) = Some closed

-- Holds if `now` returned these times since, provided that the link still records times; it then recorded the earlier
-- ones too. A link may stop recording times, so this does not begin with the earlier ones.
abbrev pub Recalls : Option (List ℕ) → Option (List ℕ) → List ℕ → Type 0
Recalls old new added = IfRecorded new (λ after. (before : List ℕ) × (old ≡ Some before) × (after ≡ before ++ added))

-- Holds if a stored count rose by k, unless it reached its maximum.
abbrev pub RisesBy : ℕ → ℕ → ℕ → Type 0
RisesBy old new k = old + k < 2 ^ 64 → new ≡ old + k

-- Holds if the link gave this input and no other.
pub record ProcessesInput (old new : LinkState) (reception : LinkInput) : Type 0 where
  pub moments : Recalls old.moments new.moments reception.moments
  pub given : Grows old.given new.given reception.given
  pub waits : RisesBy old.waits new.waits reception.waits
  pub closes : RisesBy old.closes new.closes reception.closes
  pub closed : new.closed ≡ closed_after old.closed reception.closed

abbrev pub processed_nothing : LinkInput
processed_nothing = record { moments = []; given = []; waits = 0; closes = 0; closed = None }

abbrev pub processed_time : ℕ → LinkInput
processed_time now = record { moments = now ∷ []; given = []; waits = 0; closes = 0; closed = None }

abbrev pub processed_octets : List ℕ → LinkInput
processed_octets octets = record { moments = []; given = octets; waits = 1; closes = 0; closed = Some false }

abbrev pub processed_quiet : LinkInput
processed_quiet = record { moments = []; given = []; waits = 1; closes = 0; closed = Some false }

abbrev pub processed_close : LinkInput
processed_close = record { moments = []; given = []; waits = 1; closes = 1; closed = Some true }

-- The input in one sequence and then in another.
abbrev pub both : LinkInput → LinkInput → LinkInput
both a b = record {
  moments = a.moments ++ b.moments;
  given = a.given ++ b.given;
  waits = a.waits + b.waits;
  closes = a.closes + b.closes;
  closed = later a.closed b.closed;
}

-- The effect of `now` if it returns this time.
pub record Asks (old new : LinkState) (now : ℕ) : Type 0 where
  pub reception : ProcessesInput old new (processed_time now)
  pub taken : Stays old.taken new.taken
  pub failures : new.failures ≡ old.failures

-- The input in a result of `wait`, by the bytes read.
abbrev pub processed_got : List ℕ → Got → LinkInput
processed_got into (Octets n) = processed_octets (take n into)
processed_got into Quiet = processed_quiet
processed_got into Closed = processed_close

-- Holds if some bytes were received, and no more than the slice can take.
abbrev pub IsGot : List ℕ → Got → Type 0
IsGot into (Octets n) = (0 < n) × (n ≤ length into)
IsGot into Quiet = Unit {0}
IsGot into Closed = Unit {0}

-- The effect of `wait`, by its result. A wait that fails has read nothing.
abbrev pub Waits : LinkState → LinkState → List ℕ → Result Got LinkFault → Type 0
Waits old new into (Ok got) =
    IsGot into got × ProcessesInput old new (processed_got into got) × Stays old.taken new.taken × (new.failures ≡ old.failures)
Waits old new into (Err _) =
    ProcessesInput old new processed_nothing × Stays old.taken new.taken × (new.failures ≡ next_count old.failures)

-- The effect of `send`, by its result. A send that fails has sent nothing.
abbrev pub Sends : LinkState → LinkState → List ℕ → Result ℕ LinkFault → Type 0
Sends old new octets (Ok n) =
    ProcessesInput old new processed_nothing × Grows old.taken new.taken (take n octets) × (new.failures ≡ old.failures)
Sends old new octets (Err _) =
    ProcessesInput old new processed_nothing × Stays old.taken new.taken × (new.failures ≡ next_count old.failures)
