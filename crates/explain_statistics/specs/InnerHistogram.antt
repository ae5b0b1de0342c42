-- A histogram of times by their eight highest binary digits.
use Rattle.std.specs.Prelude.{◌≤◌, ◌+◌, ◌-◌, ◌*◌, ◌/◌, ◌%◌, ◌^◌, ℕ, nat_lt, if◌then◌else◌}

-- The minimum time that a counter counts.
abbrev pub time_at : ℕ → ℕ
time_at place = if nat_lt place 256 then place else (128 + place % 128) * 2 ^ (place / 128 - 1)

-- Holds if the returned time is at most one part in 128 too low.
abbrev pub IsNear : ℕ → ℕ → Type 0
IsNear ms shown_line = (shown_line ≤ ms) × (128 * (ms - shown_line) ≤ ms)
