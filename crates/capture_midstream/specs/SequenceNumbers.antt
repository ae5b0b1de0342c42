-- Numbers of TCP, by places.
use Rattle.std.specs.Prelude.{◌≡◌, ◌<◌, ◌+◌, ◌-◌, ◌%◌, ◌^◌, ℕ, Bool, false, min, nat_le, nat_lt, if◌then◌else◌}

-- these places have these numbers, and aren't as far as 2^31 from one another
pub record ArePlaces (start begin place number : ℕ) : Type 0 where
  pub begin_is : begin ≡ start % 2 ^ 32
  pub number_is : number ≡ place % 2 ^ 32
  pub ahead : start < place + 2 ^ 31
  pub subsequent : place < start + 2 ^ 31

-- how far a number stands behind another one
abbrev pub difference : ℕ → ℕ → ℕ
difference number other = (number + 2 ^ 32 - other) % 2 ^ 32

-- The same as contracts by places say, of any numbers: a number that is less than 2^31 before the beginning stands there,
abbrev pub before_by : ℕ → ℕ → ℕ → ℕ
before_by begin number length =
    if nat_lt (difference begin number) (2 ^ 31) then (min (difference begin number) length) else 0

abbrev pub reaches_by : ℕ → ℕ → ℕ → Bool
reaches_by begin number length =
    if nat_lt (difference begin number) (2 ^ 31) then (nat_le (difference begin number) length) else false

-- and one that is less than 2^31 behind it there.
abbrev pub from_by : ℕ → ℕ → Bool
from_by begin number = nat_lt (difference number begin) (2 ^ 31)

-- the number from the beginning on
abbrev pub number_by : ℕ → ℕ → ℕ
number_by begin number = if nat_lt (difference begin number) (2 ^ 31) then begin else number

-- the number behind so many octets
abbrev pub number_following : ℕ → ℕ → ℕ
number_following number count = (number + count % 2 ^ 32) % 2 ^ 32
