-- Bytes, and the numbers in them.
use Rattle.std.proofs.Common.{◌≡◌, ℕ, zero, suc, ◌+◌, ◌*◌, ◌^◌, ◌<◌, List, [], ◌∷◌, ◌++◌, length, take, drop, refl, sym, ap, ◌∙◌, subst, arith, inl, inr}
use Rattle.std.proofs.lemmas.Bool.{cases_lt}
use Rattle.std.proofs.lemmas.List.{append-nil, drop_at, nil_from_length, length-take, get_or-drop, get_or-take, get_or_past}
use Rattle.std.proofs.lemmas.Nat.{same_from_place}
use Rattle.std.specs.Int.{byte_at}
use Rattle.byteorder.specs.Endian.{big_bytes, big_number}
use Rattle.byteorder.specs.Numbers.{big_from-cons, big_from-lt, big_number-reads_back, length-bytes_high_first}
use Rattle.secs_item.specs.Encoding.{IsOctets}

pub IsOctets-drop : (n : ℕ) (octets : List ℕ) → IsOctets octets → IsOctets (drop n octets)
IsOctets-drop n octets h i = rw get_or-drop (h (n + i))

pub IsOctets-rest : (octets encoded_bytes rest : List ℕ) → octets ≡ encoded_bytes ++ rest → IsOctets octets → IsOctets rest
IsOctets-rest octets encoded_bytes rest parts h =
    subst IsOctets (ap (λ (o : List ℕ). drop (length encoded_bytes) o) parts ∙ drop_at encoded_bytes rest (length encoded_bytes) refl) (IsOctets-drop (length encoded_bytes) octets h)

pub IsOctets-take : (n : ℕ) (octets : List ℕ) → IsOctets octets → IsOctets (take n octets)
IsOctets-take n octets h i =
    elim (cases_lt i n) [
      | inl lt ↦ rw (get_or-take n octets i 0 lt) (h i)
      | inr le ↦ rw (get_or_past (take n octets) i 0 (omega (arith, length-take n octets))) (omega arith)
    ]

pub IsOctets-nil : IsOctets []
IsOctets-nil i = omega arith

pub IsOctets-cons : (x : ℕ) (xs : List ℕ) → x < 256 → IsOctets xs → IsOctets (x ∷ xs)
IsOctets-cons x xs lt h zero = lt
IsOctets-cons x xs lt h (suc i) = h i

pub IsOctets-tail : (x : ℕ) (xs : List ℕ) → IsOctets (x ∷ xs) → IsOctets xs
IsOctets-tail x xs h i = h (suc i)

pub IsOctets-append : (xs ys : List ℕ) → IsOctets xs → IsOctets ys → IsOctets (xs ++ ys)
IsOctets-append [] ys h k = k
IsOctets-append (x ∷ xs) ys h k = IsOctets-cons x (xs ++ ys) (h 0) (IsOctets-append xs ys (IsOctets-tail x xs h) k)

-- ---- numbers, most significant byte first

pub IsOctets-big_bytes : (size n : ℕ) → IsOctets (big_bytes size n)
IsOctets-big_bytes zero n = IsOctets-nil
IsOctets-big_bytes (suc size) n = IsOctets-cons (byte_at size n) (big_bytes size n) (byte_below size n) (IsOctets-big_bytes size n)
  where
    byte_below : (size n : ℕ) → byte_at size n < 256
    byte_below zero n = omega arith
    byte_below (suc size) n = omega arith

-- The number determines its bytes.
same_octets : (size : ℕ) (xs ys : List ℕ) → length xs ≡ size → length ys ≡ size → IsOctets xs → IsOctets ys → big_number size xs ≡ big_number size ys → xs ≡ ys
same_octets zero xs ys lx ly hx hy e = nil_from_length xs lx ∙ sym (nil_from_length ys ly)
same_octets (suc size) [] ys lx ly hx hy e = absurd (omega arith)
same_octets (suc size) (x ∷ xs) [] lx ly hx hy e = absurd (omega arith)
same_octets (suc size) (x ∷ xs) (y ∷ ys) lx ly hx hy e =
    let tx = IsOctets-tail x xs hx in
    let ty = IsOctets-tail y ys hy in
    let parts : x * 256 ^ size + big_number size xs ≡ y * 256 ^ size + big_number size ys =
    ap (λ (r : ℕ). x * 256 ^ size + r) (sym (big_from-cons 0 size x xs)) ∙ e ∙ ap (λ (r : ℕ). y * 256 ^ size + r) (big_from-cons 0 size y ys) in
    let p = same_from_place x (big_number size xs) y (big_number size ys) (256 ^ size) (big_from-lt 0 size xs tx) (big_from-lt 0 size ys ty) parts in
    let rest : xs ≡ ys = same_octets size xs ys (omega arith) (omega arith) tx ty p.1 in
    cc

-- Writing a number that was read reproduces its bytes.
pub big_bytes-big_number : (size : ℕ) (octets : List ℕ) → length octets ≡ size → IsOctets octets → big_bytes size (big_number size octets) ≡ octets
big_bytes-big_number size octets len h =
    let n = big_number size octets in
    let small : n < 256 ^ size = big_from-lt 0 size octets h in
    let again : big_number size (big_bytes size n) ≡ n = ap (big_number size) (sym (append-nil (big_bytes size n))) ∙ big_number-reads_back size n [] small in
    same_octets size (big_bytes size n) octets (length-bytes_high_first size n) len (IsOctets-big_bytes size n) h again
