-- What only contracts of private functions use, besides the definitions of `BlockOutput`.
use Rattle.std.specs.Prelude.{◌≡◌, ◌≤◌, ℕ, zero, suc, ◌+◌, ◌/◌, ◌%◌, drop, refl, List, [], ◌∷◌, ◌++◌, length, take, codes}
use Rattle.std.specs.Fmt.{decimal}
use Rattle.std.proofs.Common.{ap, sym, ◌∙◌}
use Rattle.std.proofs.lemmas.List.Concat.{flat_map-cons}
use Rattle.secs_item.specs.declared.format.Format.{Format}
use Rattle.secs_text.specs.TypeName.{type_name}
use Rattle.secs_item.specs.Decoding.{pieces, each, unread}
use Rattle.secs_text.specs.Printed.{spaced}

-- Holds if the block up to `end` is the old block up to `from`, followed by the text.
pub record AppendsText (old new : List ℕ) (from : ℕ) (text : List ℕ) (end : ℕ) : Type 0 where
  pub octets : take end new ≡ take from old ++ text
  pub moved : end ≡ from + length text
  pub size : length new ≡ length old

-- The words of values of `size` bytes, each after a space. Bytes after the last complete value have no word.
abbrev pub words_of : (List ℕ → List ℕ) → ℕ → List ℕ → List ℕ
words_of word size octets = spaced word (each unread size octets)

-- Holds if `at` is an offset in a block of 65,536 bytes.
pub record IsPlace (block : List ℕ) (at : ℕ) : Type 0 where
  pub size : length block ≡ 65536
  pub within : at ≤ 65536

-- Holds if the output's bytes, followed by the block's bytes up to an offset, grew by a text. A predicate gives the
-- bytes that were passed to the output, since the output need not record them.
pub record Puts (Given : List ℕ → Type 0) (block : List ℕ) (from : ℕ) (GivenNow : List ℕ → Type 0) (block_now : List ℕ) (at : ℕ) (text : List ℕ) : Type 0 where
  pub octets : (given : List ℕ) → Given given → (now : List ℕ) × GivenNow now × (now ++ take at block_now ≡ given ++ take from block ++ text)
  pub place : IsPlace block_now at

-- The two digits of a number below 100.
abbrev pub two_decimals : ℕ → List ℕ
two_decimals n = (48 + n / 10) ∷ (48 + n % 10) ∷ []

-- The opening of an item with a count, after a space.
abbrev pub opening_of : Format → ℕ → List ℕ
opening_of f count = codes " <" ++ type_name f ++ codes " [" ++ decimal count ++ codes "]"

-- ---- the words printed from the bytes of values are the words of the values

pieces_words : {X : Type 0} (one : X → List ℕ) (read : List ℕ → X) (size n : ℕ) (octets : List ℕ)
    → spaced (λ o. one (read o)) (pieces unread size n octets) ≡ spaced one (pieces read size n octets)
pieces_words one read size zero octets = refl
pieces_words one read size (suc n) octets =
    flat_map-cons (λ o. codes " " ++ one (read o)) (take size octets) (pieces unread size n (drop size octets))
    ∙ ap (λ (o : List ℕ). (codes " " ++ one (read (take size octets))) ++ o) (pieces_words one read size n (drop size octets))
    ∙ sym (flat_map-cons (λ x. codes " " ++ one x) (read (take size octets)) (pieces read size n (drop size octets)))

pub each_words : {X : Type 0} (one : X → List ℕ) (read : List ℕ → X) (size : ℕ) (octets : List ℕ) → words_of (λ o. one (read o)) size octets ≡ spaced one (each read size octets)
each_words one read size octets = pieces_words one read size (length octets / size) octets
