-- The sum of 16-bit words, by numbers of four bytes.
use Rattle.std.proofs.Common.{◌≡◌, ℕ, ◌+◌, ◌*◌, ◌%◌, ◌<◌, ◌≤◌, List, [], ◌∷◌, length, drop, get_or, sym, arith}
use Rattle.std.proofs.lemmas.List.{drop-drop, length-drop}
use Rattle.byteorder.specs.Endian.{little_number}
use Rattle.capture_pcap.specs.Checksum.{words_sum}

words_of_four : (xs : List ℕ) → 4 ≤ length xs → (256 * little_number 4 xs + words_sum (drop 4 xs)) % 65535 ≡ words_sum xs % 65535
unfolding words_sum
words_of_four [] le = absurd (omega (arith, le))
words_of_four (a ∷ []) le = absurd (omega (arith, le))
words_of_four (a ∷ b ∷ []) le = absurd (omega (arith, le))
words_of_four (a ∷ b ∷ c ∷ []) le = absurd (omega (arith, le))
words_of_four (a ∷ b ∷ c ∷ d ∷ xs) le = omega arith

words_of_two : (xs : List ℕ) → 2 ≤ length xs → (256 * little_number 2 xs + words_sum (drop 2 xs)) % 65535 ≡ words_sum xs % 65535
unfolding words_sum
words_of_two [] le = absurd (omega (arith, le))
words_of_two (a ∷ []) le = absurd (omega (arith, le))
words_of_two (a ∷ b ∷ xs) le = omega arith

four_at : (n : ℕ) (xs : List ℕ) → n + 4 ≤ length xs → (256 * little_number 4 (drop n xs) + words_sum (drop (n + 4) xs)) % 65535 ≡ words_sum (drop n xs) % 65535
four_at n xs le =
    let e = words_of_four (drop n xs) (omega (arith, le, length-drop n xs)) in
    rw (sym (drop-drop 4 n xs)) e

summed : (a b c d p q r s t : ℕ) → (256 * a + q) % 65535 ≡ p % 65535 → (256 * b + r) % 65535 ≡ q % 65535 → (256 * c + s) % 65535 ≡ r % 65535 → (256 * d + t) % 65535 ≡ s % 65535
    → (256 * (a + b + c + d) + t) % 65535 ≡ p % 65535
summed a b c d p q r s t e f g h = omega (arith, e, f, g, h)

pub words_of_sixteen : (xs : List ℕ) → 16 ≤ length xs
    → (256 * (little_number 4 (drop 0 xs) + little_number 4 (drop 4 xs) + little_number 4 (drop 8 xs) + little_number 4 (drop 12 xs)) + words_sum (drop 16 xs)) % 65535
    ≡ words_sum xs % 65535
words_of_sixteen xs le =
    summed _ _ _ _ (words_sum xs) (words_sum (drop 4 xs)) (words_sum (drop 8 xs)) (words_sum (drop 12 xs)) (words_sum (drop 16 xs))
    (four_at 0 xs (omega (arith, le))) (four_at 4 xs (omega (arith, le))) (four_at 8 xs (omega (arith, le))) (four_at 12 xs (omega (arith, le)))

pub words_more : (sum four new rest others all : ℕ) → (256 * four + others) % 65535 ≡ rest % 65535 → new % 65535 ≡ (sum + four) % 65535 → (256 * sum + rest) % 65535 ≡ all % 65535
    → (256 * new + others) % 65535 ≡ all % 65535
words_more sum four new rest others all e f g = omega (arith, e, f, g)

pub words_end : (sum few rest all : ℕ) → (256 * few) % 65535 ≡ rest % 65535 → (256 * sum + rest) % 65535 ≡ all % 65535 → 256 * ((sum + few) % 65535) % 65535 ≡ all % 65535
words_end sum few rest all e f = omega (arith, e, f)

pub words_one : (sum two : ℕ) (rest others : List ℕ) (all : ℕ) → 2 ≤ length rest → others ≡ drop 2 rest → two ≡ little_number 2 rest
    → (256 * sum + words_sum rest) % 65535 ≡ all % 65535 → (256 * (sum + two) + words_sum others) % 65535 ≡ all % 65535
words_one sum two rest others all le are is e = let f = words_of_two rest le in rw (are, is) (omega (arith, e, f))

pub words_last : (sum last : ℕ) (rest : List ℕ) (all : ℕ) → length rest < 2 → last ≡ get_or rest 0 0 → (256 * sum + words_sum rest) % 65535 ≡ all % 65535
    → (256 * (sum + last)) % 65535 ≡ all % 65535
unfolding words_sum
words_last sum last [] all lt is e = let none : last ≡ 0 = is in omega (arith, e, none)
words_last sum last (a ∷ []) all lt is e = let one : last ≡ a = is in omega (arith, e, one)
words_last sum last (a ∷ b ∷ rest) all lt is e = absurd (omega (arith, lt))

pub same_sum : (pseudo sum : ℕ) → (pseudo % 65535 + sum % 65535) % 65535 ≡ (pseudo + sum) % 65535
same_sum pseudo sum = omega arith

pub pseudo_agrees : (source target size : ℕ) → (source % 65535 + target % 65535 + 6 + size % 65535) % 65535 ≡ (source + target + 6 + size) % 65535
pseudo_agrees source target size = omega arith
