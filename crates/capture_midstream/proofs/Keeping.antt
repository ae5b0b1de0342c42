-- How many packets are kept, and what they bring.
use Rattle.std.proofs.Common.{◌≡◌, ◌+◌, ◌-◌, ◌*◌, ◌/◌, ◌%◌, ◌^◌, ◌<◌, ◌≤◌, ◌⊎◌, ◌++◌, ◌==◌, ℕ, zero, suc, Bool, true, false, min, List, [], ◌∷◌, All, count_ones, length, slice_index_or, arith, inl, inr, refl, sym, ◌∙◌, ap, subst}
use Rattle.std.specs.Int.{IsPowerOfTwo}
use Rattle.std.proofs.Math.Nat.{two-pow-succ}
use Rattle.std.proofs.lemmas.List.Sums.{sum_by-cons, sum_by_push}
use Rattle.std.proofs.lemmas.Nat.{ones_le_self, zero_from_ones}
use lib.Count.{ones_step}
use Rattle.std.proofs.lemmas.Bool.Decides.{Decides-eqb}
use Rattle.capture_tcp.specs.declared.packet.Segment.{Segment}
use Rattle.capture_midstream.specs.declared.buffered_packet.BufferedPacket.{BufferedPacket}
use Rattle.capture_midstream.specs.PacketBuffer.{AreSilent, BuffersPackets, IsDue, IsFull, octets_brought}

-- ---- octets

abbrev count : BufferedPacket → ℕ
count g = length g.octets.items

-- one packet more
pub brings_more : (gs : List BufferedPacket) (g : BufferedPacket) (n : ℕ) → n ≡ length g.octets.items
    → octets_brought (gs ++ g ∷ []) ≡ octets_brought gs + n
brings_more gs g n is = sum_by_push count gs g ∙ ap (λ m. octets_brought gs + m) (sym is)

no_octet : (xs : List ℕ) → length xs ≡ 0 → xs ≡ []
no_octet [] e = refl
no_octet (x ∷ xs) e = absurd (omega arith)

brings_none : (gs : List BufferedPacket) (k : ℕ) (d : BufferedPacket) → octets_brought gs ≡ 0 → k < length gs
    → (slice_index_or gs k d).octets.items ≡ []
brings_none [] k d e lt = absurd (omega arith)
brings_none (g ∷ gs) zero d e lt = no_octet g.octets.items (omega (arith, sum_by-cons count g gs))
brings_none (g ∷ gs) (suc k) d e lt = brings_none gs k d (omega (arith, sum_by-cons count g gs)) (omega arith)

pub silent : (gs : List BufferedPacket) → octets_brought gs ≡ 0 → All (λ g. g.octets.items ≡ []) gs
silent gs e = λ k d lt. brings_none gs k d e lt

pub none_brought : (gs : List BufferedPacket) → All (λ g. g.octets.items ≡ []) gs → octets_brought gs ≡ 0
none_brought [] all = refl
none_brought (g ∷ gs) all =
    let here : length g.octets.items ≡ 0 = ap length (all 0 g (omega arith)) in
    let rest = none_brought gs (λ k d lt. all (suc k) d (omega arith)) in
    omega (arith, sum_by-cons count g gs)

-- ---- powers of two

-- a number by its lowest binary digit, and by the others
by_digit : (n digit rest ones : ℕ) → n ≡ digit + 2 * rest → digit + ones ≡ 1 → (ones ≡ 1 → IsPowerOfTwo rest) → (ones ≡ 0 → rest ≡ 0)
    → IsPowerOfTwo n
by_digit n zero rest ones is one more none =
    let power = more (omega arith) in
    (suc power.0, omega (arith, power.1, two-pow-succ power.0))
by_digit n (suc digit) rest ones is one more none =
    let nought : rest ≡ 0 = none (omega arith) in
    (0, omega arith)

one_digit : (most n : ℕ) → n ≤ most → count_ones n ≡ 1 → IsPowerOfTwo n
one_digit zero n le one = absurd (omega (arith, ones_le_self n))
one_digit (suc most) n le one =
    let positive : 1 ≤ n = omega (arith, ones_le_self n) in
    by_digit n (n % 2) (n / 2) (count_ones (n / 2)) (omega arith) (sym (ones_step n) ∙ one)
    (one_digit most (n / 2) (omega arith)) (zero_from_ones (n / 2))

pub is_power : (n : ℕ) → count_ones n ≡ 1 → IsPowerOfTwo n
is_power n = one_digit n n (omega arith)

pub power_ones : (k : ℕ) → count_ones (2 ^ k) ≡ 1
power_ones zero = omega (arith, ones_step 1, ones_le_self 0)
power_ones (suc k) =
    let twice = two-pow-succ k in
    let rest : 2 ^ suc k / 2 ≡ 2 ^ k = omega arith in
    let digit : 2 ^ suc k % 2 ≡ 0 = omega arith in
    omega (arith, ones_step (2 ^ suc k), ap count_ones rest, power_ones k)

pub power_is : (n : ℕ) → IsPowerOfTwo n → count_ones n ≡ 1
power_is n power = ap count_ones power.1 ∙ power_ones power.0

-- ---- what is told of packets

pub buffers_by : (segment : Segment) (octets : List ℕ) (now items new : List BufferedPacket) (g : BufferedPacket) → now ≡ items
    → g.segment ≡ segment → g.octets.items ≡ octets → new ≡ items ++ g ∷ [] → BuffersPackets segment octets now new
buffers_by segment octets now items new g same at brings is = (g, at, brings, is ∙ ap (λ gs. gs ++ g ∷ []) (sym same))

pub silent_by : (now items : List BufferedPacket) (octets : ℕ) → now ≡ items → octets ≡ min (octets_brought items) (2 ^ 64 - 1)
    → ((octets == 0) ≡ true → AreSilent now) × (AreSilent now → (octets == 0) ≡ true)
silent_by now items octets same counts =
    let is = Decides-eqb octets 0 in
    let none : octets ≡ 0 → octets_brought items ≡ 0 = λ e. omega arith in (
      (λ e. subst AreSilent (sym same) (silent items (none (is.0 e)))),
      (λ all. is.1 (let e = none_brought items (subst AreSilent same all) in omega arith)),
    )

pub power_by : (now items : List BufferedPacket) (n : ℕ) (power : Bool) → items ≡ now → n ≡ length items → power ≡ (count_ones n == 1)
    → (power ≡ true → IsPowerOfTwo (length now)) × (IsPowerOfTwo (length now) → power ≡ true)
power_by now items n power same many is =
    let one = Decides-eqb (count_ones n) 1 in
    let counts : n ≡ length now = many ∙ ap length same in (
      (λ on. subst IsPowerOfTwo counts (is_power n (one.0 (sym is ∙ on)))),
      (λ p. is ∙ one.1 (power_is n (subst IsPowerOfTwo (sym counts) p))),
    )

pub due_by_power : (gs : List BufferedPacket) (power : Bool) → power ≡ true → (power ≡ true → IsPowerOfTwo (length gs))
    → (power ≡ true → IsDue gs) × (IsDue gs → power ≡ true)
due_by_power gs power on is = ((λ e. inl (is on)), (λ due. on))

full_or : {P Q : Type 0} (full power : Bool) → (P → power ≡ true) → power ≡ false → (Q → full ≡ true) → P ⊎ Q → full ≡ true
full_or full power one off two (inl p) = let none : ⊥ = cc (one p) in absurd none
full_or full power one off two (inr q) = two q

pub due_by_full : (gs : List BufferedPacket) (power full : Bool) → power ≡ false
    → (power ≡ true → IsPowerOfTwo (length gs)) × (IsPowerOfTwo (length gs) → power ≡ true)
    → (full ≡ true → IsFull gs) × (IsFull gs → full ≡ true) → (full ≡ true → IsDue gs) × (IsDue gs → full ≡ true)
due_by_full gs power full off counts decides =
    ((λ e. inr (decides.0 e)), (λ due. full_or full power counts.1 off decides.1 due))
