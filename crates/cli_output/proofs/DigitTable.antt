-- The digits of a byte.
use Rattle.std.proofs.Common.{◌≡◌, ℕ, ◌<◌, true, [], ◌∷◌, get_or, eqb, refl}
use Rattle.std.specs.Cmp.Lexicographic.{pointwise}
use Rattle.std.proofs.lemmas.Bool.{agree_below_at}
use Rattle.hex.specs.Hex.{encode_lower, encode_with}
use Rattle.secs_item.specs.Equality.{octets_Decides}
use Rattle.cli_output.specs.declared.digits.TheConstants.{DIGITS}

pub digits_right : (octet : ℕ) → octet < 256 → get_or DIGITS octet [] ≡ encode_lower (octet ∷ [])
unfolding encode_with
digits_right octet lt =
    (octets_Decides _ _).0 (agree_below_at (λ k. pointwise eqb (get_or DIGITS k []) (encode_lower (k ∷ []))) (λ k. true) 256 octet refl lt)
