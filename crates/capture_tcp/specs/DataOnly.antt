-- Bytes without a SYN or a FIN among them: here the length of a message gives its end.
use Rattle.std.specs.Prelude.{◌≡◌, ◌≤◌, ◌+◌, ℕ, Bool, true, false, List, get_or, Option, Some, None}
use Rattle.capture_tcp.specs.declared.reassembly.Cell.{Cell as HeldCell}
use Rattle.capture_tcp.specs.declared.reassembly.Cell.TheVariants as held

abbrev pub is_octet : HeldCell → Bool
is_octet held.Syn = false
is_octet (held.Octet n) = true
is_octet held.Fin = false

-- Holds if all buffered cells from an offset on are bytes.
abbrev pub AreOctetsFrom : ℕ → ℕ → List (Option HeldCell) → Type 0
AreOctetsFrom from base ss = (i : ℕ) (c : HeldCell) → from ≤ base + i → get_or ss i None ≡ Some c → is_octet c ≡ true
