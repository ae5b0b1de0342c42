-- The texts that are the notation of a message. This is project-specific.
use Rattle.std.specs.Prelude.{◌≡◌, ◌^◌, ◌⊎◌, ℕ, Bool, true, false, List, [], ◌∷◌, ◌++◌, map, Option, Some, None}
use Rattle.secs_item.specs.Item.{Value, list, values, Elements, no_elements, element, format_of, count_of}
use Rattle.secs_text.specs.Body.{Body, in_text, in_words, encoded_bytes, body_of}
use Rattle.secs_text.specs.Content.{Content}
use Rattle.secs_text.specs.Token.{Token, word, quoted, less, greater, bracket, bracket_end, stop, end, tokens}
use Rattle.secs_text.specs.TypeName.{format_named}
use Rattle.secs_text.specs.Words.{number_below, octet_of, head_word, head}

-- ---- values

-- Holds if the tokens are words, one for each value, in order.
abbrev pub InWords : {X : Type 0} → (List ℕ → Option X) → List X → List Token → Type 0
InWords one xs ts = (words : List (List ℕ)) × (map one words ≡ map Some xs) × (ts ≡ map word words)

-- Holds if the token represents these text bytes: those between the quotes, or the one byte of a word.
abbrev pub IsPiece : Token → List ℕ → Type 0
IsPiece (quoted text) octets = octets ≡ text
IsPiece (word w) octets = (octet : ℕ) × (octet_of w ≡ Some octet) × (octets ≡ octet ∷ [])
IsPiece t octets = ⊥

-- Holds if the tokens are pieces of text whose bytes, joined, are these.
abbrev pub InPieces : List Token → List ℕ → Type 0
InPieces [] octets = octets ≡ []
InPieces (t ∷ ts) octets = (first rest : List ℕ) × IsPiece t first × InPieces ts rest × (octets ≡ first ++ rest)

abbrev pub BodyTokens : Body → List Token → Type 0
BodyTokens (in_text octets) ts = InPieces ts octets
BodyTokens (in_words s xs) ts = InWords (encoded_bytes s) xs ts

-- ---- items

-- Holds if the tokens are the right count in brackets, or are empty.
abbrev pub CountTokens : ℕ → List Token → Type 0
CountTokens n ts = (ts ≡ []) ⊎ ((w : List ℕ) × (number_below (2 ^ 64) w ≡ Some n) × (ts ≡ bracket ∷ word w ∷ bracket_end ∷ []))

-- Holds if the tokens are `<`, the type name, an optional count, the inner tokens and `>`.
pub record Enclosed (v : Value) (inner ts : List Token) : Type 0 where
  pub name : List ℕ
  pub named : format_named name ≡ Some (format_of v)
  pub count : List Token
  pub counted : CountTokens (count_of v) count
  pub parts : ts ≡ less ∷ word name ∷ count ++ inner ++ greater ∷ []

abbrev mutual
  pub ItemTokens : Value → List Token → Type 0
  ItemTokens (list es) ts = (inner : List Token) × ElementTokens es inner × Enclosed (list es) inner ts
  ItemTokens (values v) ts = (inner : List Token) × BodyTokens (body_of v) inner × Enclosed (values v) inner ts

  -- Holds if these are the tokens of the elements, in order.
  pub ElementTokens : Elements → List Token → Type 0
  ElementTokens no_elements ts = ts ≡ []
  ElementTokens (element v es) ts = (first rest : List Token) × ItemTokens v first × ElementTokens es rest × (ts ≡ first ++ rest)

-- ---- messages

abbrev pub OptionalItem : Option Value → List Token → Type 0
OptionalItem None ts = ts ≡ []
OptionalItem (Some v) ts = ItemTokens v ts

-- The word `W`.
abbrev pub wait_word : List ℕ
wait_word = 0x57 ∷ []

abbrev pub wait_tokens : Bool → List Token
wait_tokens true = word wait_word ∷ []
wait_tokens false = []

-- Holds if the tokens are the head, an optional `W`, an optional item and `.`.
pub record MessageTokens (m : Content) (ts : List Token) : Type 0 where
  pub name : List ℕ
  pub named : head_word name ≡ head m.stream m.function
  pub item : List Token
  pub holds : OptionalItem m.item item
  pub parts : ts ≡ word name ∷ wait_tokens m.wait ++ item ++ stop ∷ []

abbrev pub MessagesTokens : List Content → List Token → Type 0
MessagesTokens [] ts = ts ≡ []
MessagesTokens (m ∷ ms) ts = (first rest : List Token) × MessageTokens m first × MessagesTokens ms rest × (ts ≡ first ++ rest)

-- Holds if these are exactly the tokens of the text.
abbrev pub HasTokens : List ℕ → List Token → Type 0
HasTokens text ts = map (λ t. t.token) (tokens text) ≡ ts ++ end ∷ []

-- Holds if the text is the message's notation.
abbrev pub Notation : Content → List ℕ → Type 0
Notation m text = (ts : List Token) × MessageTokens m ts × HasTokens text ts

-- Holds if the text is the notation of these messages, in order.
abbrev pub Notations : List Content → List ℕ → Type 0
Notations ms text = (ts : List Token) × MessagesTokens ms ts × HasTokens text ts
