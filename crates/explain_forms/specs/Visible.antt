-- Bytes of the log as text, without control characters.
use Rattle.std.specs.Prelude.{◌≡◌, ◌==◌, ◌&&◌, not, ℕ, Bool, true, List, nat_lt}
use Rattle.std.specs.List.{list_all}

-- True if the byte is not an ASCII control character.
abbrev pub is_visible : ℕ → Bool
is_visible octet = nat_lt 31 octet && not (octet == 127)

-- Holds if none of these bytes is an ASCII control character.
abbrev pub HasNoControl : List ℕ → Type 0
HasNoControl words = list_all is_visible words ≡ true
