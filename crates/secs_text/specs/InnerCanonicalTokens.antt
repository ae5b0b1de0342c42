-- Tokens spaced as in a printed message (project-specific notation).
use Rattle.std.specs.Prelude.{◌≡◌, ◌^◌, ◌<◌, ◌-◌, ℕ, true, false, List, ◌∷◌, ◌++◌, length, codes, Some}
use Rattle.std.specs.List.{list_all, prefix_len}
use Rattle.std.specs.Str.Parse.{digits_value}
use Rattle.secs_item.specs.declared.format.Format.{Format}
use Rattle.secs_text.specs.declared.token.Count.{Count}
use Rattle.secs_text.specs.declared.token.Token.{Token}
use Rattle.secs_text.specs.Octets.{is_white, is_digit, is_of_word}
use Rattle.secs_text.specs.InnerTokenView.{seen, is_last}
use Rattle.secs_text.specs.Token as math
use Rattle.secs_text.specs.Token.{Placed, Front, whole, front}
use Rattle.secs_text.specs.TypeName.{format_named}
use Rattle.secs_text.specs.Words.{is_numeral, number_below, head, head_word}

-- Holds if a word ends here: the rest does not begin with a byte of a word.
abbrev pub EndsWord : List ℕ → Type 0
EndsWord rest = prefix_len is_of_word rest ≡ 0

-- Holds if these are one or more bytes, each of which is allowed in a word.
pub record IsWord (w : List ℕ) : Type 0 where
  pub some : 0 < length w
  pub all : list_all is_of_word w ≡ true

-- ---- at the start of bytes

-- Holds if the byte is this token, whatever follows it.
pub record IsSymbol (c : ℕ) (t : Token) : Type 0 where
  pub fronts : (octets : List ℕ) → front c octets ≡ whole (seen t) 0
  pub can_continue : is_last (seen t) ≡ false

-- Holds if this token, which is one byte, follows `size` bytes of white space.
pub record IsSymbolAfter (size : ℕ) (t : Token) (octets : List ℕ) : Type 0 where
  pub octet : ℕ
  pub spaces : List ℕ
  pub rest : List ℕ
  pub symbol : IsSymbol octet t
  pub white : list_all is_white spaces ≡ true
  pub sized : length spaces ≡ size
  pub parts : octets ≡ spaces ++ octet ∷ rest

-- Holds if the bytes begin with a type name of `size` bytes, and a space and a `[` follow it.
pub record NamesType (f : Format) (size : ℕ) (octets : List ℕ) : Type 0 where
  pub name : List ℕ
  pub rest : List ℕ
  pub named : format_named name ≡ Some f
  pub word : IsWord name
  pub sized : length name ≡ size
  pub parts : octets ≡ name ++ (codes " [" ++ rest)

-- Holds if the bytes begin with a number of `size` digits, and a `]` follows it.
pub record IsCounted (number size : ℕ) (octets : List ℕ) : Type 0 where
  pub digits : List ℕ
  pub rest : List ℕ
  pub numbers : number_below (2 ^ 64) digits ≡ Some number
  pub word : IsWord digits
  pub sized : length digits ≡ size
  pub parts : octets ≡ digits ++ 0x5D ∷ rest

-- Holds if the bytes begin with a number of `count` digits that is below 100.
pub record IsSmall (number count : ℕ) (octets : List ℕ) : Type 0 where
  pub digits : List ℕ
  pub rest : List ℕ
  pub numeral : is_numeral digits ≡ true
  pub value : digits_value 10 digits ≡ number
  pub small : number < 100
  pub counted : length digits ≡ count
  pub ends : prefix_len is_digit rest ≡ 0
  pub parts : octets ≡ digits ++ rest

-- Holds if the bytes begin with a letter and a number of one or two digits, `size` bytes in all.
pub record IsLettered (letter number size : ℕ) (octets : List ℕ) : Type 0 where
  pub rest : List ℕ
  pub number_following : IsSmall number (size - 1) rest
  pub some : 0 < size
  pub parts : octets ≡ letter ∷ rest

-- Holds if the bytes begin with a head of `size` bytes.
pub record IsHeaded (stream function size : ℕ) (octets : List ℕ) : Type 0 where
  pub text : List ℕ
  pub rest : List ℕ
  pub names : head_word text ≡ head stream function
  pub word : IsWord text
  pub sized : length text ≡ size
  pub ends : EndsWord rest
  pub parts : octets ≡ text ++ rest

-- ---- among tokens

-- Holds if the first tokens name a format and its count, and `after` are the tokens that follow.
pub record IsOpening (f : Format) (count : Count) (before after : List Placed) : Type 0 where
  pub at : ℕ
  pub name : List ℕ
  pub named : format_named name ≡ Some f
  pub number_at : ℕ
  pub number : List ℕ
  pub numbers : number_below (2 ^ 64) number ≡ Some count.number
  pub end_at : ℕ
  pub parts : before ≡ record { at = at; token = math.word name } ∷ record { at = count.at; token = math.bracket } ∷ record { at = number_at; token = math.word number } ∷ record { at = end_at; token = math.bracket_end } ∷ after

-- Holds if the first token is a `W`, and `after` are the tokens that follow.
pub record IsWait (before after : List Placed) : Type 0 where
  pub at : ℕ
  pub parts : before ≡ record { at = at; token = math.word (codes "W") } ∷ after

-- Holds if the first token names a stream and a function, and `after` are the tokens that follow.
pub record IsHead (stream function : ℕ) (before after : List Placed) : Type 0 where
  pub at : ℕ
  pub text : List ℕ
  pub names : head_word text ≡ head stream function
  pub parts : before ≡ record { at = at; token = math.word text } ∷ after
