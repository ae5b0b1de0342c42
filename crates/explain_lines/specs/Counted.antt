-- Counts.
use Rattle.std.specs.Prelude.{◌-◌, ◌^◌, ℕ, min}

-- A 64-bit count, which stays at its maximum.
abbrev pub counted : ℕ → ℕ
counted n = min n (2 ^ 64 - 1)
