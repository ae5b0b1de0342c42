-- Where a direction begins: at the first place from which on messages of the session stand one behind another, as far as
-- the octets go.
use Rattle.std.specs.Prelude.{◌≡◌, ◌≤◌, ◌<◌, ◌+◌, ◌⊎◌, ℕ, zero, suc, Bool, true, false, List, length, drop, Option, Some, None}
use Rattle.capture_midstream.specs.declared.sync_point.Beginning.{Beginning}
use Rattle.capture_midstream.specs.declared.sync_point.Beginning.TheVariants.{Sure, Open}
use Rattle.capture_midstream.specs.declared.message_check.Found.{Found}
use Rattle.capture_midstream.specs.declared.message_check.Found.TheVariants.{Missing, Begun, Whole, Other}
use Rattle.capture_midstream.specs.declared.session_filter.Session.{Session}
use Rattle.capture_midstream.specs.MessageCheck.{FrontAs}

abbrev pub one_more : Option ℕ → Option ℕ
one_more (Some n) = Some (n + 1)
one_more None = None

-- how many messages there are, by what stands at the front, and where that is one, by what stands behind it
abbrev pub CountsBy : (List ℕ → Option ℕ → Type 0) → List ℕ → Found → Option ℕ → Type 0
CountsBy counts octets Missing count = count ≡ Some 0
CountsBy counts octets Begun count = count ≡ Some 0
CountsBy counts octets (Whole size) count = (others : Option ℕ) × counts (drop size octets) others × (count ≡ one_more others)
CountsBy counts octets Other count = count ≡ None

-- how many messages stand whole one behind another at the front, of at most so many that are looked at: none is told
-- where something else stands there, or behind one of them
unfoldable pub CountsAs : Session → ℕ → List ℕ → Option ℕ → Type 0
CountsAs s zero octets count = count ≡ Some 0
CountsAs s (suc most) octets count = (found : Found) × FrontAs s octets found × CountsBy (CountsAs s most) octets found count

-- so many are looked at
abbrev pub most : ℕ
most = 3

-- no message stands at this place, or something else behind it
abbrev pub IsRefused : Session → List ℕ → ℕ → Type 0
IsRefused s octets place = CountsAs s most (drop place octets) None

-- all places from one on and before another one are refused, and there so many messages stand
pub record IsFirst (s : Session) (octets : List ℕ) (from place count : ℕ) : Type 0 where
  pub subsequent : from ≤ place
  pub within : place ≤ length octets
  pub others : (q : ℕ) → from ≤ q → q < place → IsRefused s octets q
  pub here : CountsAs s most (drop place octets) (Some count)

-- The first place that isn't refused: a direction begins there where three messages stand there. Else more octets may
-- refuse it.
abbrev pub BeginsAs : Session → List ℕ → ℕ → Beginning → Type 0
BeginsAs s octets from (Sure place) = IsFirst s octets from place 3
BeginsAs s octets from (Open place) = (count : ℕ) × (count < 3) × IsFirst s octets from place count

-- no message stands whole at the front, or something else behind it
unfoldable pub NoMessageAt : Session → List ℕ → Type 0
NoMessageAt s octets = (count : Option ℕ) × CountsAs s most octets count × ((count ≡ None) ⊎ (count ≡ Some 0))

unfoldable pub SomeMessageAt : Session → List ℕ → Type 0
SomeMessageAt s octets = (count : ℕ) × (0 < count) × CountsAs s most octets (Some count)

-- where a direction begins of which no octet follows: at the first place where a message stands whole, with nothing else
-- behind it, or behind all octets
pub record BeginsAtEnd (s : Session) (octets : List ℕ) (from place : ℕ) : Type 0 where
  pub subsequent : from ≤ place
  pub within : place ≤ length octets
  pub others : (q : ℕ) → from ≤ q → q < place → NoMessageAt s (drop q octets)
  pub here : (place ≡ length octets) ⊎ SomeMessageAt s (drop place octets)

-- whether three messages stand there
abbrev pub IsSureBy : Session → List ℕ → Bool → Type 0
IsSureBy s octets true = CountsAs s most octets (Some 3)
IsSureBy s octets false = (count : Option ℕ) × CountsAs s most octets count × (count ≡ Some 3 → ⊥)
