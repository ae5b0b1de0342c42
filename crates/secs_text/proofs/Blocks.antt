-- Writing of bytes to a block, word by word.
use Rattle.std.proofs.Common.{◌≡◌, ℕ, zero, suc, ◌+◌, ◌*◌, ◌/◌, ◌%◌, ◌≤◌, ◌<◌, ◌^◌, ◌&&◌, Bool, true, cond, eqb, ltb, lt-ltb, le-ltb, List, [], ◌∷◌, ◌++◌, length, get_or, take, drop, codes, refl, ap, sym, ◌∙◌, arith, append_assoc, append-nil, subst, length-append, length-take-le, take-add, take-take, take_at, drop_at}
use Rattle.std.specs.Fmt.{decimal}
use Rattle.std.specs.Cmp.Lexicographic.{pointwise}
use Rattle.std.proofs.lemmas.Bool.{ltb-true}
use Rattle.std.proofs.lemmas.List.{drop-drop, drop-take}
use Rattle.std.proofs.lemmas.Fmt.{AppendsLastDigit, decimal_from_appends, decimal_step, length-decimal-le}
use Rattle.secs_item.specs.Equality.{octets_Decides}
use Rattle.secs_text.specs.declared.word_tables.TheConstants.{WORDS, NUMBERS}
use Rattle.secs_text.specs.InnerBlockOutput.{IsPlace, AppendsText, Puts, two_decimals}
use Rattle.secs_text.specs.Printed.{hexadecimal, two_digits}
use Rattle.secs_text.proofs.Prefixes.{both}

-- A second text begins where the first one ended.
pub appended_then : {a b c xs ys : List ℕ} {i j k : ℕ} → AppendsText a b i xs j → AppendsText b c j ys k → AppendsText a c i (xs ++ ys) k
appended_then {a} {b} {c} {xs} {ys} {i} p q = record {
  octets = q.octets ∙ ap (λ l. l ++ ys) p.octets ∙ append_assoc (take i a) xs ys;
  moved = omega (arith, p.moved, q.moved, length-append xs ys);
  size = q.size ∙ p.size;
}

pub appended_nothing : (block : List ℕ) (at : ℕ) → AppendsText block block at [] at
appended_nothing block at = record { octets = sym (append-nil (take at block)); moved = omega arith; size = refl }

pub appended_same : {old now : List ℕ} {at end : ℕ} {xs : List ℕ} (ys : List ℕ) → xs ≡ ys → AppendsText old now at xs end → AppendsText old now at ys end
appended_same {old} {now} {at} {end} ys same p = subst (λ (o : List ℕ). AppendsText old now at o end) same p

-- Only the first `n` bytes count.
pub appended_less : {a b xs : List ℕ} {i j : ℕ} (n : ℕ) → i ≤ length a → n ≤ length xs → AppendsText a b i xs j → AppendsText a b i (take n xs) (i + n)
appended_less {a} {b} {xs} {i} {j} n within few p =
    let front = length-take-le i a within in
    record {
      octets = sym (take-take (i + n) j b (omega (arith, p.moved))) ∙ ap (take (i + n)) p.octets ∙ take-add i n (take i a ++ xs)
          ∙ (λ k. take_at (take i a) xs i front k ++ take n (drop_at (take i a) xs i front k));
      moved = omega (arith, length-take-le n xs few);
      size = p.size;
    }

-- ---- the tables

-- True if the next rows of a table are right, each of `size` bytes.
abbrev rows : ℕ → (ℕ → List ℕ → Bool) → ℕ → ℕ → List ℕ → Bool
rows size right zero k table = true
rows size right (suc n) k table = right k table && rows size right n (k + 1) (drop size table)

row_at : (size : ℕ) (right : ℕ → List ℕ → Bool) (n k i j m : ℕ) (table : List ℕ) → rows size right n k table ≡ true → i < n → j ≡ k + i → m ≡ size * i → right j (drop m table) ≡ true
row_at size right zero k i j m table all lt number place = absurd (omega arith)
row_at size right (suc n) k zero j m table all lt number place =
    let first : j ≡ k = omega arith in
    let front : m ≡ 0 = omega (arith, place) in
    rw (first, front) (both _ _ all).0
row_at size right (suc n) k (suc i) j m table all lt number place =
    let further : size + size * i ≡ m = grind (arith, place) in
    ap (λ o. right j o) (sym (drop-drop (size * i) size table ∙ ap (λ q. drop q table) further))
    ∙ row_at size right n (k + 1) i j (size * i) (drop size table) (both _ _ all).1 (omega arith) (omega arith) refl

pub words_right : (octet : ℕ) → octet < 256 → take 5 (drop (8 * octet) WORDS) ≡ codes " " ++ hexadecimal (octet ∷ [])
words_right octet lt =
    (octets_Decides _ _).0 (row_at 8 (λ k word. pointwise eqb (take 5 word) (codes " " ++ hexadecimal (k ∷ []))) 256 0 octet octet (8 * octet) WORDS refl lt (omega arith) refl)

pub digits_right : (octet : ℕ) → octet < 256 → take 2 (drop (8 * octet + 3) WORDS) ≡ two_digits octet
digits_right octet lt =
    ap (take 2) (sym (drop-drop 3 (8 * octet) WORDS)) ∙ sym (drop-take 3 2 (drop (8 * octet) WORDS)) ∙ ap (drop 3) (words_right octet lt)

-- The last digits of a number, at most the given number of them.
abbrev by_digits : ℕ → ℕ → List ℕ
by_digits zero n = []
by_digits (suc k) n = cond (ltb n 10) ((48 + n) ∷ []) (by_digits k (n / 10) ++ ((48 + n % 10) ∷ []))

appends : AppendsLastDigit by_digits
appends = record { one = λ k n lt. rw (lt-ltb n 10 lt) refl; more = λ k n le. rw (le-ltb n 10 le) refl }

pub numbers_right : (n : ℕ) → n < 256 → take (get_or (drop (4 * n) NUMBERS) 3 0) (drop (4 * n) NUMBERS) ≡ decimal n
numbers_right n lt =
    (octets_Decides _ _).0 (row_at 4 (λ k number. pointwise eqb (take (get_or number 3 0) number) (by_digits 3 k)) 256 0 n n (4 * n) NUMBERS refl lt (omega arith) refl)
    ∙ decimal_from_appends by_digits appends 3 n (omega arith) (length-decimal-le 3 n (omega arith) (omega arith) (omega arith))

pub numbers_short : (n : ℕ) → n < 256 → get_or (drop (4 * n) NUMBERS) 3 0 < 5
numbers_short n lt = ltb-true _ 5 (row_at 4 (λ k number. ltb (get_or number 3 0) 5) 256 0 n n (4 * n) NUMBERS refl lt (omega arith) refl)

pub pairs_right : (n : ℕ) → n < 100 → take 2 (drop (4 * n + 401) NUMBERS) ≡ two_decimals n
pairs_right n lt =
    let place : 401 + 4 * n ≡ 4 * n + 401 = omega arith in
    ap (take 2) (sym (drop-drop (4 * n) 401 NUMBERS ∙ ap (λ m. drop m NUMBERS) place))
    ∙ (octets_Decides _ _).0 (row_at 4 (λ k pair. pointwise eqb (take 2 pair) (two_decimals k)) 100 0 n n (4 * n) (drop 401 NUMBERS) refl lt (omega arith) refl)

-- A number in terms of its hundreds.
pub decimal_hundreds : (n : ℕ) → 100 ≤ n → n < 2 ^ 64 → decimal (n / 100) ++ two_decimals (n % 100) ≡ decimal n
decimal_hundreds n enough small =
    let tens : n / 10 / 10 ≡ n / 100 = omega arith in
    let high : n / 10 % 10 ≡ n % 100 / 10 = omega arith in
    let low : n % 10 ≡ n % 100 % 10 = omega arith in
    let step : decimal (n / 10) ≡ decimal (n / 100) ++ ((48 + n % 100 / 10) ∷ []) = rw (tens, high) at (decimal_step (n / 10) (omega arith) (omega arith)) in
    let last : decimal n ≡ decimal (n / 10) ++ ((48 + n % 100 % 10) ∷ []) = rw low at (decimal_step n (omega arith) small) in
    sym (last ∙ ap (λ o. o ++ ((48 + n % 100 % 10) ∷ [])) step ∙ append_assoc (decimal (n / 100)) ((48 + n % 100 / 10) ∷ []) ((48 + n % 100 % 10) ∷ []))

-- ---- passing the bytes to an output

pub puts_nothing : (G : List ℕ → Type 0) (block : List ℕ) (at : ℕ) → IsPlace block at → Puts G block at G block at []
puts_nothing G block at place = record {
  octets = λ given h. (given, h, sym (append-nil (given ++ take at block)));
  place = place;
}

-- All bytes before the offset in the block were passed to the output.
pub puts_given : (G H : List ℕ → Type 0) (block : List ℕ) (at : ℕ) → IsPlace block at → ((given : List ℕ) → G given → H (given ++ take at block)) → Puts G block at H block 0 []
puts_given G H block at place gives = record {
  octets = λ given h. (given ++ take at block, gives given h, refl);
  place = record { size = place.size; within = omega arith };
}

-- A text that is written after the earlier texts.
pub puts_appended : {G H : List ℕ → Type 0} {block now new : List ℕ} {from at end : ℕ} {xs ys : List ℕ} → Puts G block from H now at xs → AppendsText now new at ys end → end ≤ 65536 → Puts G block from H new end (xs ++ ys)
puts_appended {G} {H} {block} {now} {new} {from} {at} {end} {xs} {ys} p q within = record {
  octets = λ given h.
      let a = p.octets given h in
      (a.0, a.1, ap (λ o. a.0 ++ o) q.octets ∙ sym (append_assoc a.0 (take at now) ys) ∙ ap (λ o. o ++ ys) a.2 ∙ append_assoc (given ++ take from block) xs ys);
  place = record { size = q.size ∙ p.place.size; within = within };
}

-- A text that is printed after the earlier texts.
pub puts_then : {G H K : List ℕ → Type 0} {block now new : List ℕ} {from at end : ℕ} {xs ys : List ℕ} → Puts G block from H now at xs → Puts H now at K new end ys → Puts G block from K new end (xs ++ ys)
puts_then {G} {H} {K} {block} {now} {new} {from} {at} {end} {xs} {ys} p q = record {
  octets = λ given h.
      let a = p.octets given h in
      let b = q.octets a.0 a.1 in
      (b.0, b.1, b.2 ∙ ap (λ o. o ++ ys) a.2 ∙ append_assoc (given ++ take from block) xs ys);
  place = q.place;
}

-- Space was made after the earlier texts.
pub puts_room : {G H K : List ℕ → Type 0} {block now new : List ℕ} {from at end : ℕ} {xs : List ℕ} → Puts G block from H now at xs → Puts H now at K new end [] → Puts G block from K new end xs
puts_room {G} {H} {K} {block} {now} {new} {from} {at} {end} {xs} p q = rw (append-nil xs) at (puts_then p q)

pub puts_same : {G H : List ℕ → Type 0} {block now : List ℕ} {from at : ℕ} {xs : List ℕ} (ys : List ℕ) → xs ≡ ys → Puts G block from H now at xs → Puts G block from H now at ys
puts_same {G} {H} {block} {now} {from} {at} ys same p = subst (λ (o : List ℕ). Puts G block from H now at o) same p
