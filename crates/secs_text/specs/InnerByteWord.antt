-- Words of values that are single bytes, as they are printed (project-specific notation).
use Rattle.std.specs.Prelude.{◌≡◌, ℕ, List, [], ◌∷◌, ◌++◌, Option, Some, length}
use Rattle.secs_text.specs.InnerCanonicalTokens.{IsWord}

-- Holds if the text is a space and a word that represents this byte.
pub record IsShortWord (reads : List ℕ → Option (List ℕ)) (octet : ℕ) (text : List ℕ) : Type 0 where
  pub word : List ℕ
  pub is_word : IsWord word
  pub encodes_to : reads word ≡ Some (octet ∷ [])
  pub parts : text ≡ 0x20 ∷ word

-- Holds if the text is words that represent these bytes, followed by a rest. Each word has `size` bytes with the space
-- before it.
abbrev pub AreShortWords : (List ℕ → Option (List ℕ)) → ℕ → List ℕ → List ℕ → List ℕ → Type 0
AreShortWords reads size [] text rest = text ≡ rest
AreShortWords reads size (octet ∷ octets) text rest =
    (first : List ℕ) × (after : List ℕ) × IsShortWord reads octet first × (length first ≡ size) × (text ≡ first ++ after)
    × AreShortWords reads size octets after rest
