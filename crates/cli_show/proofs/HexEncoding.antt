-- The bytes in lines of hexadecimal.
use Rattle.std.proofs.Common.{◌≡◌, ℕ, List, [], ◌∷◌, ◌++◌, true, false, None, Some, refl, ap}
use Rattle.std.specs.Prelude.{Option}
use Rattle.std.proofs.lemmas.List.{append_assoc}
use Rattle.cli_show.specs.InnerReadAhead.{subsequent}
use Rattle.cli_show.specs.ShowHex.{is_blank, octet_and, octet_of, decoded_octets}

pub decodes_on : (c : ℕ) (rest : List ℕ) → is_blank c ≡ true → decoded_octets (c ∷ rest) ≡ decoded_octets rest
unfolding decoded_octets
decodes_on c [] blank = rw blank refl
decodes_on c (d ∷ rest) blank = rw blank refl

pub decodes_octet : (c d octet : ℕ) (rest : List ℕ) → is_blank c ≡ false → octet_of c d ≡ Some octet
    → decoded_octets (c ∷ d ∷ rest) ≡ octet_and (Some octet) (decoded_octets rest)
unfolding decoded_octets
decodes_octet c d octet rest blank is = rw (blank, is) refl

pub decodes_none : (c : ℕ) (others : List ℕ) → is_blank c ≡ false
    → ((high low : ℕ) (rest : List ℕ) → c ∷ others ≡ high ∷ low ∷ rest → octet_of high low ≡ None) → decoded_octets (c ∷ others) ≡ None
unfolding decoded_octets
decodes_none c [] blank none = rw blank refl
decodes_none c (d ∷ rest) blank none = rw (blank, none c d rest refl) refl

pub decodes_end : decoded_octets [] ≡ Some []
unfolding decoded_octets
decodes_end = refl

-- ---- bytes so far, and those of what is left

pub after_octet : (octets : List ℕ) (octet : ℕ) (more : Option (List ℕ)) → subsequent (octets ++ octet ∷ []) more ≡ subsequent octets (octet_and (Some octet) more)
after_octet octets octet None = refl
after_octet octets octet (Some more) = ap Some (append_assoc octets (octet ∷ []) more)
