-- What only contracts of private functions use, besides the definitions of `Losses`.
use Rattle.std.specs.Prelude.{◌≡◌, ◌∷◌, ◌||◌, ℕ, Bool, true, nat_lt, if◌then◌else◌, List, []}
use Rattle.capture_tcp.specs.declared.losses.BothEnds.{BothEnds}
use Rattle.capture_tcp.specs.declared.losses.Need.{Need}
use Rattle.capture_tcp.specs.declared.packet.Side.{Side}
use Rattle.capture_tcp.specs.declared.packet.Side.TheVariants as side
use Rattle.capture_tcp.specs.Losses.{other_end}

-- The end of a side's own direction, and of the other one.
abbrev pub own_end : BothEnds → Side → ℕ
own_end e side.Active = e.active
own_end e side.Passive = e.passive

abbrev pub is_incomplete : BothEnds → Need → Bool
is_incomplete e n = nat_lt (other_end e n.from) n.acknowledged || nat_lt (own_end e n.from) n.place

-- The needs from the first with missing data on.
unfoldable pub unsettled : BothEnds → List Need → List Need
unsettled e [] = []
unsettled e (n ∷ ns) = if is_incomplete e n then n ∷ ns else unsettled e ns

abbrev pub IsUnsettled : BothEnds → List Need → Type 0
IsUnsettled e [] = Unit {0}
IsUnsettled e (n ∷ ns) = is_incomplete e n ≡ true
