-- The bytes that words of hexadecimal digits represent.
use Rattle.std.proofs.Common.{◌≡◌, ℕ, suc, ◌+◌, ◌*◌, ◌<◌, Bool, true, false, List, [], ◌∷◌, ◌++◌, length, drop, get_or, refl, sym, ap, ◌∙◌, arith, append_assoc, append-nil, if◌then◌else◌}
use Rattle.std.specs.Prelude.{Option, Some, None, option_map, option_and_then, ◌==◌}
use Rattle.std.proofs.Math.Seq.{drop-cons, drop-length}
use Rattle.std.proofs.lemmas.Bool.{eqb-true, eq-eqb, ne_eqb}
use Rattle.secs_item.specs.ShortestEncoding.{octet_alone}
use Rattle.secs_text.specs.Words.{octet_of, octets_of, octet_then, octet_of_digits, only, hex_octets, sized, float_of}

-- A word represents one byte exactly if it represents a float of one byte.
pub one_octet : (w : List ℕ) → float_of 1 w ≡ option_map octet_alone (octet_of w)
unfolding octet_of float_of
one_octet w = alone (octets_of w)
  where
    alone : (octets : Option (List ℕ)) → option_and_then (sized 1) octets ≡ option_map octet_alone (option_and_then only octets)
    alone None = refl
    alone (Some []) = refl
    alone (Some (o ∷ [])) = refl
    alone (Some (o ∷ p ∷ os)) = rw (ne_eqb (length (o ∷ p ∷ os)) 1 (λ e. omega arith)) refl

then_length : (o : Option ℕ) (rest : Option (List ℕ)) (n : ℕ) → ((octets : List ℕ) → rest ≡ Some octets → n ≡ 2 * length octets) → (octets : List ℕ) → octet_then o rest ≡ Some octets → n + 2 ≡ 2 * length octets
then_length (Some o) (Some rest) n more octets e =
    let is : o ∷ rest ≡ octets = cc in
    omega (arith, more rest refl, ap length is)
then_length (Some o) None n more octets e = cc
then_length None rest n more octets e = cc

hex_length : (digits octets : List ℕ) → hex_octets digits ≡ Some octets → length digits ≡ 2 * length octets
hex_length [] octets e = let is : [] ≡ octets = cc in omega (arith, ap length is)
hex_length (high ∷ []) octets e = cc
hex_length (high ∷ low ∷ digits) octets e = omega (arith, then_length (octet_of_digits high low) (hex_octets digits) (length digits) (hex_length digits) octets e)

when_sized : (size : ℕ) (octets : List ℕ) (b : Bool) → (length octets == size) ≡ b → (length octets ≡ size → ⊥) → (if b then Some octets else None) ≡ None
when_sized size octets true e other = absurd (other (eqb-true (length octets) size e))
when_sized size octets false e other = refl

none_sized : (size : ℕ) (r : Option (List ℕ)) → ((octets : List ℕ) → r ≡ Some octets → length octets ≡ size → ⊥) → option_and_then (sized size) r ≡ None
none_sized size None other = refl
none_sized size (Some octets) other = when_sized size octets (length octets == size) refl (other octets refl)

-- Too few or too many digits.
pub other_length : (size : ℕ) (digits : List ℕ) → (length digits ≡ 2 * size → ⊥) → option_and_then (sized size) (hex_octets digits) ≡ None
other_length size digits other = none_sized size (hex_octets digits) (λ octets e all. let long : length digits ≡ 2 * length octets = hex_length digits octets e in other (omega arith))

is_sized : (size : ℕ) (octets : List ℕ) (b : Bool) → (length octets == size) ≡ b → length octets ≡ size → (if b then Some octets else None) ≡ Some octets
is_sized size octets true e all = refl
is_sized size octets false e all = absurd (let same = eq-eqb (length octets) size all in cc)

-- The right number of digits.
pub right_length : (size : ℕ) (digits : List ℕ) (r : Option (List ℕ)) → length digits ≡ 2 * size → r ≡ hex_octets digits → r ≡ option_and_then (sized size) (hex_octets digits)
right_length size digits None long is = ap (λ o. option_and_then (sized size) o) is
right_length size digits (Some octets) long is =
    let half : length octets ≡ size = omega (arith, hex_length digits octets (sym is)) in
    sym (is_sized size octets (length octets == size) refl half) ∙ ap (λ o. option_and_then (sized size) o) is

-- ---- byte by byte

abbrev pub after_octets : List ℕ → Option (List ℕ) → Option (List ℕ)
after_octets octets rest = option_map (λ more. octets ++ more) rest

-- Before the first byte.
pub nothing_yet : (rest : Option (List ℕ)) → rest ≡ after_octets [] rest
nothing_yet None = refl
nothing_yet (Some more) = refl

-- Two digits, and those after them.
digits_at : (digits : List ℕ) (k : ℕ) → k + 1 < length digits → hex_octets (drop k digits) ≡ octet_then (octet_of_digits (get_or digits k 0) (get_or digits (k + 1) 0)) (hex_octets (drop (k + 2) digits))
digits_at digits k lt =
    let next : suc k ≡ k + 1 = omega arith in
    let after : suc (k + 1) ≡ k + 2 = omega arith in
    ap hex_octets (drop-cons digits k 0 (omega arith) ∙ ap (λ i. get_or digits k 0 ∷ drop i digits) next
    ∙ ap (λ o. get_or digits k 0 ∷ o) (drop-cons digits (k + 1) 0 lt ∙ ap (λ i. get_or digits (k + 1) 0 ∷ drop i digits) after))

moved : (octets : List ℕ) (o : ℕ) (rest : Option (List ℕ)) → after_octets octets (octet_then (Some o) rest) ≡ after_octets (octets ++ o ∷ []) rest
moved octets o None = refl
moved octets o (Some rest) = ap (λ k. Some k) (sym (append_assoc octets (o ∷ []) rest))

-- The byte of the next two digits.
pub octet_continues : (digits octets new : List ℕ) (i o : ℕ) → 2 * i + 1 < length digits → octet_of_digits (get_or digits (2 * i) 0) (get_or digits (2 * i + 1) 0) ≡ Some o → new ≡ octets ++ o ∷ [] → hex_octets digits ≡ after_octets octets (hex_octets (drop (2 * i) digits)) → hex_octets digits ≡ after_octets new (hex_octets (drop (2 * (i + 1)) digits))
octet_continues digits octets new i o lt is new_is before =
    let place : 2 * i + 2 ≡ 2 * (i + 1) = omega arith in
    before ∙ ap (λ r. after_octets octets r) (digits_at digits (2 * i) lt ∙ ap (λ p. octet_then p (hex_octets (drop (2 * i + 2) digits))) is)
    ∙ moved octets o (hex_octets (drop (2 * i + 2) digits))
    ∙ ap (λ k. after_octets (octets ++ o ∷ []) (hex_octets (drop k digits))) place
    ∙ ap (λ k. after_octets k (hex_octets (drop (2 * (i + 1)) digits))) (sym new_is)

-- The next two digits represent no byte.
pub no_octet : (digits octets : List ℕ) (i : ℕ) → 2 * i + 1 < length digits → octet_of_digits (get_or digits (2 * i) 0) (get_or digits (2 * i + 1) 0) ≡ None → hex_octets digits ≡ after_octets octets (hex_octets (drop (2 * i) digits)) → hex_octets digits ≡ None
no_octet digits octets i lt is before =
    before ∙ ap (λ r. after_octets octets r) (digits_at digits (2 * i) lt ∙ ap (λ p. octet_then p (hex_octets (drop (2 * i + 2) digits))) is)

-- No digits remain.
pub octets_done : (digits octets : List ℕ) (n : ℕ) → length digits ≡ 2 * n → hex_octets digits ≡ after_octets octets (hex_octets (drop (2 * n) digits)) → hex_octets digits ≡ Some octets
octets_done digits octets n long before =
    before ∙ ap (λ k. after_octets octets (hex_octets (drop k digits))) (sym long) ∙ ap (λ o. after_octets octets (hex_octets o)) (drop-length digits) ∙ ap (λ k. Some k) (append-nil octets)
