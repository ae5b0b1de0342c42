-- The offset with a number that is nearest to an offset.
use Rattle.std.proofs.Common.{◌≡◌, ◌<◌, ◌≤◌, ℕ, ◌+◌, ◌-◌, ◌%◌, ◌^◌, Bool, true, false, cond, nat_le, min, Some, None, refl, ap, subst, arith}
use Rattle.std.proofs.lemmas.Bool.{le-leb, lt-leb, leb-true, leb-false}
use Rattle.capture_tcp.specs.TcpStreams.{nearest}
use Rattle.capture_tcp.specs.Laws.{SameNumber}

-- The distance from an offset to the next one with a number.
abbrev ahead_of : ℕ → ℕ → ℕ
ahead_of known number = (number + 2 ^ 32 - known % 2 ^ 32) % 2 ^ 32

ahead_is : (known number : ℕ) → number < 2 ^ 32 → SameNumber (known + ahead_of known number) number
ahead_is known number small = omega arith

suffix_is : (known number : ℕ) → number < 2 ^ 32 → 2 ^ 32 - ahead_of known number ≤ known → SameNumber (known - (2 ^ 32 - ahead_of known number)) number
suffix_is known number small within = omega (arith, within)

ahead_small : (known number : ℕ) → ahead_of known number < 2 ^ 32
ahead_small known number = omega arith

pub near : (known number place : ℕ) → number < 2 ^ 32 → nearest known number ≡ Some place
    → SameNumber place number × (place ≤ known + 2 ^ 26) × (known ≤ place + 2 ^ 26)
near known number place small is = by_ahead (nat_le (ahead_of known number) (2 ^ 26)) (nat_le (2 ^ 32 - ahead_of known number) (min known (2 ^ 26))) refl refl is
  where
    by_ahead : (b c : Bool) → nat_le (ahead_of known number) (2 ^ 26) ≡ b → nat_le (2 ^ 32 - ahead_of known number) (min known (2 ^ 26)) ≡ c
        → cond b (Some (known + ahead_of known number)) (cond c (Some (known - (2 ^ 32 - ahead_of known number))) None) ≡ Some place
        → SameNumber place number × (place ≤ known + 2 ^ 26) × (known ≤ place + 2 ^ 26)
    by_ahead true c e f is =
        let same : known + ahead_of known number ≡ place = cc in
        let le = leb-true (ahead_of known number) (2 ^ 26) e in
        (subst (λ (n : ℕ). SameNumber n number) same (ahead_is known number small), omega (arith, same, le), omega (arith, same))
    by_ahead false true e f is =
        let same : known - (2 ^ 32 - ahead_of known number) ≡ place = cc in
        let le = leb-true (2 ^ 32 - ahead_of known number) (min known (2 ^ 26)) f in
        let within : 2 ^ 32 - ahead_of known number ≤ known = omega (arith, le) in
        let short : 2 ^ 32 - ahead_of known number ≤ 2 ^ 26 = omega (arith, le) in
        (subst (λ (n : ℕ). SameNumber n number) same (suffix_is known number small within), omega (arith, same), omega (arith, same, short, within))
    by_ahead false false e f is = absurd cc

ahead_found : (known number place : ℕ) → number < 2 ^ 32 → SameNumber place number → known ≤ place → place ≤ known + 2 ^ 26 → ahead_of known number ≡ place - known
ahead_found known number place small same after near = omega (arith, same, after, near)

after_found : (known number place : ℕ) → number < 2 ^ 32 → SameNumber place number → place < known → known ≤ place + 2 ^ 26
    → ahead_of known number ≡ 2 ^ 32 - (known - place)
after_found known number place small same before near = omega (arith, same, before, near)

pub found : (known number place : ℕ) → number < 2 ^ 32 → SameNumber place number → place ≤ known + 2 ^ 26 → known ≤ place + 2 ^ 26
    → nearest known number ≡ Some place
found known number place small same above below = by_side (nat_le known place) refl
  where
    by_side : (b : Bool) → nat_le known place ≡ b → nearest known number ≡ Some place
    by_side true e =
        let after = leb-true known place e in
        let ahead = ahead_found known number place small same after above in
        let le : ahead_of known number ≤ 2 ^ 26 = omega (arith, ahead, above) in
        let is : known + ahead_of known number ≡ place = omega (arith, ahead, after) in
        rw (le-leb (ahead_of known number) (2 ^ 26) le) (ap Some is)
    by_side false e =
        let before = leb-false known place e in
        let ahead = after_found known number place small same before below in
        let far : 2 ^ 26 < ahead_of known number = omega (arith, ahead, before, below) in
        let le : 2 ^ 32 - ahead_of known number ≤ min known (2 ^ 26) = omega (arith, ahead, before, below) in
        let is : known - (2 ^ 32 - ahead_of known number) ≡ place = omega (arith, ahead, before, below) in
        rw (lt-leb (ahead_of known number) (2 ^ 26) far, le-leb (2 ^ 32 - ahead_of known number) (min known (2 ^ 26)) le) (ap Some is)
