-- The results of reading a line, as functions on lists.
use Rattle.std.specs.Prelude.{◌≡◌, ◌≤◌, ◌==◌, ◌^◌, ◌&&◌, not, ℕ, Bool, true, List, [], ◌∷◌, Option, Some, None, length, take, drop, slice_index, nat_lt, codes, if◌then◌else◌}
use Rattle.std.specs.Str.{bytes_eq}
use Rattle.std.specs.List.{list_all}
use Rattle.std.specs.Char.{is_ascii_digit}
use Rattle.std.specs.Str.Parse.{digits_value}
use Rattle.hsms_machine.specs.declared.settings.Role.{Role}
use Rattle.hsms_machine.specs.declared.settings.Role.TheVariants.{Host, Equipment}
use Rattle.hsms_machine.specs.declared.settings.Side.{Side}
use Rattle.hsms_machine.specs.declared.settings.Side.TheVariants.{Active, Passive}
use Rattle.hsms_machine.specs.Settings.{Parameters}

-- The function's result, if there is a value; None stays None.
infixl 10 ◌>>=◌
abbrev pub ◌>>=◌ : {A B : Type 0} → Option A → (A → Option B) → Option B
None >>= f = None
(Some x) >>= f = f x

-- True if a zero precedes other digits.
abbrev pub has_leading_zero : List ℕ → Bool
has_leading_zero word = (slice_index word 0 == 48) && nat_lt 1 (length word)

-- True for a decimal number: at least one digit, digits only, and no zero before others.
abbrev pub is_decimal : List ℕ → Bool
is_decimal word = list_all is_ascii_digit word && (nat_lt 0 (length word) && not (has_leading_zero word))

-- The decimal number below 2 ^ 64 that the word encodes.
unfoldable pub number_of : List ℕ → Option ℕ
number_of word =
    if is_decimal word && nat_lt (digits_value 10 word) (2 ^ 64) then Some (digits_value 10 word) else None

-- Holds for the digits at the front of a text, at most nineteen: the number that they encode, and how many they are.
pub record IsFrontNumber (text : List ℕ) (answer : ℕ × ℕ) : Type 0 where
  pub few : answer.1 ≤ 19
  pub within : answer.1 ≤ length text
  pub digits : list_all is_ascii_digit (take answer.1 text) ≡ true
  pub value : answer.0 ≡ digits_value 10 (take answer.1 text)

-- The text before the first space, and the text after it.
abbrev pub word_at : List ℕ → Option (List ℕ × List ℕ)
word_at [] = None
word_at (octet ∷ text) = if octet == 32 then Some ([], text) else (word_at text >>= λ w. Some (octet ∷ w.0, w.1))

-- A number, a space, and what follows it.
unfoldable pub number_at : List ℕ → Option (ℕ × List ℕ)
number_at text = do
  w ← word_at text
  n ← number_of w.0
  Some (n, w.1)

-- The number, if it is below the bound.
abbrev pub below : ℕ → ℕ → Option ℕ
below bound n = if nat_lt n bound then Some n else None

unfoldable pub role_of : List ℕ → Option Role
role_of word = if bytes_eq word (codes "host") then Some Host else if bytes_eq word (codes "equipment") then Some Equipment else None

unfoldable pub link_of : List ℕ → Option Side
link_of word = if bytes_eq word (codes "active") then Some Active else if bytes_eq word (codes "passive") then Some Passive else None

-- What follows a prefix.
unfoldable pub after : List ℕ → List ℕ → Option (List ℕ)
after prefix text = if bytes_eq (take (length prefix) text) prefix then Some (drop (length prefix) text) else None

-- The version, and what follows it.
unfoldable pub version_at : List ℕ → Option (ℕ × List ℕ)
version_at line = do
  rest ← after (codes "hsms-log ") line
  v ← number_at rest
  version ← below (2 ^ 8) v.0
  Some (version, v.1)

-- The role, the side and the device ID of an endpoint, and what follows them.
unfoldable pub end_at : List ℕ → Option (Role × Side × ℕ × List ℕ)
end_at text = do
  a ← word_at text
  role ← role_of a.0
  b ← word_at a.1
  link ← link_of b.0
  c ← number_at b.1
  device ← below (2 ^ 16) c.0
  Some (role, link, device, c.1)

-- A number of 32 bits, and what follows it.
unfoldable pub u32_at : List ℕ → Option (ℕ × List ℕ)
u32_at text = do
  n ← number_at text
  number ← below (2 ^ 32) n.0
  Some (number, n.1)

-- The four times, and what follows them.
unfoldable pub times_at : List ℕ → Option (ℕ × ℕ × ℕ × ℕ × List ℕ)
times_at text = do
  a ← u32_at text
  b ← u32_at a.1
  c ← u32_at b.1
  d ← u32_at c.1
  Some (a.0, b.0, c.0, d.0, d.1)

-- The maximum length of a message, and the maximum depth of items.
unfoldable pub limits_of : List ℕ → Option (ℕ × ℕ)
limits_of text = do
  max ← u32_at text
  e ← number_of max.1
  depth ← below (2 ^ 8) e
  Some (max.0, depth)

-- The settings, if their numbers fit their types.
unfoldable pub settings_at : List ℕ → Option Parameters
settings_at line = do
  v ← version_at line
  a ← end_at v.1
  t ← times_at a.3
  l ← limits_of t.4
  Some (record { version = v.0; role = a.0; link = a.1; device = a.2; t3 = t.0; t6 = t.1; t7 = t.2; t8 = t.3; max = l.0; depth = l.1 })
