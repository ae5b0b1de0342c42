-- What only contracts of private functions use, besides the definitions of `SyncPoint`.
use Rattle.std.specs.Prelude.{◌≡◌, ◌<◌, ℕ, List, drop, Some}
use Rattle.capture_midstream.specs.declared.sync_point.Beginning.{Beginning}
use Rattle.capture_midstream.specs.declared.sync_point.Beginning.TheVariants.{Sure, Open}
use Rattle.capture_midstream.specs.declared.session_filter.Session.{Session}
use Rattle.capture_midstream.specs.SyncPoint.{CountsAs, most}

-- what is known of a place that isn't refused
abbrev pub BeginsHere : Session → List ℕ → ℕ → Beginning → Type 0
BeginsHere s octets place (Sure at) = (at ≡ place) × CountsAs s most (drop place octets) (Some 3)
BeginsHere s octets place (Open at) = (at ≡ place) × ((count : ℕ) × (count < 3) × CountsAs s most (drop place octets) (Some count))
