-- What only contracts of private functions use, besides the definitions of `ScriptedLink`.
use Rattle.std.specs.Prelude.{◌++◌, ℕ, Bool, true, false, List, [], ◌∷◌, Option, Some, None, take, drop, map, get_or, option_map}
use Rattle.std.specs.List.{flat_map}
use Rattle.hsms_frame.specs.CallCounts.{next_count}
use Rattle.hsms_ends.specs.declared.link.Got.{Got}
use Rattle.hsms_ends.specs.declared.link.Got.TheVariants.{Octets, Quiet, Closed}

-- The peer of such a link: the bytes that it sent, and the remaining waits, the first of them without its bytes
-- already returned. `None` is a wait in which nothing is received. It also has the number of waits that returned
-- `Closed`, and whether the last one did.
pub record PeerState : Type 0 where
  pub given : List ℕ
  pub left : List (Option (List ℕ))
  pub closes : ℕ
  pub closed : Bool

-- The bytes of a wait in which some are received.
abbrev pub wait_octets : {V : Type 0} → (V → List ℕ) → Option V → List ℕ
wait_octets items None = []
wait_octets items (Some octets) = items octets

-- The bytes already returned if the waits before `place` are used up, with `within` bytes of the wait at `place`.
abbrev pub given_of : {V : Type 0} → (V → List ℕ) → List (Option V) → ℕ → ℕ → List ℕ
given_of items waits place within =
    flat_map (wait_octets items) (take place waits) ++ take within (wait_octets items (get_or waits place None))

-- The waits without the first n bytes of the first one.
abbrev pub without_front : ℕ → List (Option (List ℕ)) → List (Option (List ℕ))
without_front n [] = []
without_front n (None ∷ waits) = None ∷ waits
without_front n (Some octets ∷ waits) = Some (drop n octets) ∷ waits

-- The waits that remain there.
abbrev pub left_of : {V : Type 0} → (V → List ℕ) → List (Option V) → ℕ → ℕ → List (Option (List ℕ))
left_of items waits place within = without_front within (map (option_map items) (drop place waits))

-- The bytes of a result.
abbrev pub got_octets : List ℕ → Got → List ℕ
got_octets into (Octets n) = take n into
got_octets into Quiet = []
got_octets into Closed = []

-- True if the result is that the peer has closed the connection.
abbrev pub is_closed : Got → Bool
is_closed (Octets n) = false
is_closed Quiet = false
is_closed Closed = true

-- The number of results that were `Closed`, after this one.
abbrev pub closes_after : Got → ℕ → ℕ
closes_after (Octets n) closes = closes
closes_after Quiet closes = closes
closes_after Closed closes = next_count closes
