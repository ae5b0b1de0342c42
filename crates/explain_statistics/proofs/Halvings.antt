-- A time that is halved repeatedly.
use Rattle.std.proofs.Common.{◌≡◌, ◌≤◌, ◌<◌, ◌+◌, ◌-◌, ◌*◌, ◌/◌, ◌%◌, ◌^◌, ◌⊎◌, ℕ, true, false, suc, zero, inl, inr, refl, arith, nat_lt}
use Rattle.std.proofs.Math.Nat.{mul-le-mul_left}
use Rattle.std.proofs.lemmas.Bool.{lt-ltb, le-ltb}
use native.Mathlib.Numerals.{unary_clauses}
use Rattle.explain_statistics.specs.InnerHistogram.{time_at, IsNear}

-- Holds if the time is this number of units of a power of two, or less than one unit more.
pub record IsHalved (time rest halvings : ℕ) : Type 0 where
  pub low : rest * 2 ^ halvings ≤ time
  pub high : time < (rest + 1) * 2 ^ halvings
  pub full : (halvings ≡ 0) ⊎ (128 ≤ rest)
  pub fits : time < 2 ^ 32

pub unhalved : (time : ℕ) → time < 2 ^ 32 → IsHalved time time 0
unhalved time fits = record { low = omega arith; high = omega arith; full = inl refl; fits = fits }

pow-one : (n : ℕ) → 2 ^ (n + 1) ≡ 2 ^ n * 2
pow-one n = simp unary_clauses refl

pub halved : (time rest halvings : ℕ) → 256 ≤ rest → IsHalved time rest halvings → IsHalved time (rest / 2) (halvings + 1)
halved time rest halvings large is =
    let unit = 2 ^ halvings in
    let twice : 2 ^ (halvings + 1) ≡ unit * 2 = pow-one halvings in
    let half = rest / 2 in
    let below : half * 2 ≤ rest = omega arith in
    let above : rest + 1 ≤ (half + 1) * 2 = omega arith in
    let low : unit * (half * 2) ≤ unit * rest = mul-le-mul_left unit below in
    let high : unit * (rest + 1) ≤ unit * ((half + 1) * 2) = mul-le-mul_left unit above in
    record {
      low = rw twice (omega (arith, low, is.low));
      high = rw twice (omega (arith, high, is.high));
      full = inr (omega arith);
      fits = is.fits;
    }

near_plain : (time rest place : ℕ) → place ≡ rest → rest < 256 → rest ≤ time → time < rest + 1 → IsNear time (time_at place)
near_plain time rest place is small low high =
    let lt : nat_lt place 256 ≡ true = lt-ltb place 256 (omega arith) in
    rw lt (omega arith, omega arith)

near_high : (time rest h place : ℕ) → place ≡ 128 * h + rest → 1 ≤ h → 128 ≤ rest → rest < 256 → rest * 2 ^ h ≤ time
    → time < (rest + 1) * 2 ^ h → IsNear time (time_at place)
near_high time rest h place is some full small low high =
    let not_low : nat_lt place 256 ≡ false = le-ltb place 256 (omega arith) in
    let digits : 128 + place % 128 ≡ rest = omega arith in
    let times : place / 128 - 1 ≡ h = omega arith in
    let unit = 2 ^ h in
    let most : unit * 128 ≤ unit * rest = mul-le-mul_left unit full in
    let close : 128 * (time - rest * unit) ≤ time = omega (arith, most, low, high) in
    rw not_low (rw digits (rw times (low, close)))

-- The time of the counter is near.
pub near : (time rest halvings : ℕ) → rest < 256 → IsHalved time rest halvings → IsNear time (time_at (128 * halvings + rest))
near time rest zero small is = near_plain time rest (128 * 0 + rest) (omega arith) small (omega (arith, is.low)) (omega (arith, is.high))
near time rest (suc k) small is =
    let some : 1 ≤ suc k = omega arith in
    elim is.full [
      | inl none ↦ absurd (omega (arith, none))
      | inr full ↦ near_high time rest (suc k) (128 * suc k + rest) refl some full small is.low is.high
    ]

-- After 24 halvings the time is below 256.
pub last_rest : (time rest : ℕ) → IsHalved time rest 24 → rest < 256
last_rest time rest is = omega (arith, is.low, is.fits)
