-- The order of the open transactions of one direction and kind. Then how they are stored: each under the system bytes
-- of its request. Only private functions use this last part.
use Rattle.std.specs.Prelude.{◌≡◌, ℕ, ◌≤◌, ◌==◌, false, List, [], ◌∷◌, Option, Some, None}
use Rattle.std.specs.List.{AllByRecursion}
use Rattle.hsms_machine.specs.declared.open_transactions.Transaction.{Transaction}

-- Holds if none was opened after the time, or before an earlier one of the list. No two have the same system bytes.
abbrev pub IsOrdered : ℕ → List Transaction → Type 0
IsOrdered moment [] = Unit {0}
IsOrdered moment (first ∷ later) =
    (first.time ≤ moment)
    × AllByRecursion (λ other. first.time ≤ other.time) later
    × AllByRecursion (λ other. (other.header.system == first.header.system) ≡ false) later
    × IsOrdered moment later

-- ---- how they are stored

-- Holds if no transaction was opened after this time.
abbrev pub AreUntil : ℕ → List Transaction → Type 0
AreUntil time [] = Unit {0}
AreUntil time (opened ∷ later) = (opened.time ≤ time) × AreUntil time later

-- The transaction that was opened first.
abbrev pub first_of : List Transaction → Option Transaction
first_of [] = None
first_of (opened ∷ later) = Some opened
