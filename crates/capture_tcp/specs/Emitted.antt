-- Deliveries that are emitted one after another, up to where they are certainly before the end of a log.
use Rattle.std.specs.Prelude.{◌≡◌, Bool, true, false, nat_lt, ℕ, List, [], ◌∷◌, Option, Some, None}
use Rattle.capture_tcp.specs.declared.streams.Due.{Due}

-- True if a packet is before a limit.
abbrev pub is_sure : Option ℕ → ℕ → Bool
is_sure None n = true
is_sure (Some k) n = nat_lt n k

-- Holds if the first delivery is not before the limit.
abbrev pub IsHeldBack : Option ℕ → List Due → Type 0
IsHeldBack limit [] = Unit {0}
IsHeldBack limit (t ∷ ts) = is_sure limit t.at ≡ false

abbrev pub EachDue : (Due → Type 0) → List Due → Type 0
EachDue P [] = Unit {0}
EachDue P (t ∷ ts) = P t × EachDue P ts
