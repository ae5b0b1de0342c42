-- What only contracts of private functions use, besides the definitions of `OpeningOrder`.
use Rattle.std.specs.Prelude.{◌≡◌, ℕ, zero, suc, ◌+◌, ◌-◌, ◌^◌, ◌<◌, ◌≤◌, ◌==◌, Bool, false, cond, is_some, List, [], ◌∷◌, ◌++◌, length, option_to_list, Option, None, IfSome}
use Rattle.std.specs.List.{list_any, cons_option}
use Rattle.std.specs.Map.{values_of}
use Rattle.hsms_machine.specs.declared.open_transactions.Transaction.{Transaction}

-- ---- their order

-- Holds if no transaction was opened before this time.
abbrev pub AreSince : ℕ → List Transaction → Type 0
AreSince time [] = Unit {0}
AreSince time (opened ∷ later) = (time ≤ opened.time) × AreSince time later

-- Holds if times do not decrease along the list.
abbrev pub AreInOrder : List Transaction → Type 0
AreInOrder [] = Unit {0}
AreInOrder (opened ∷ later) = AreSince opened.time later × AreInOrder later

-- True if a transaction has these system bytes.
abbrev pub uses : ℕ → List Transaction → Bool
uses system opened = list_any (λ transaction. transaction.header.system == system) opened

-- Holds if no two transactions have the same system bytes.
abbrev pub AreApart : List Transaction → Type 0
AreApart [] = Unit {0}
AreApart (opened ∷ later) = (uses opened.header.system later ≡ false) × AreApart later

-- ---- how they are stored: in slots, which are empty once the transaction is closed

-- The open transactions of the slots.
abbrev pub open_in : List (Option Transaction) → List Transaction
open_in [] = []
open_in (slot ∷ slots) = cons_option slot (open_in slots)

-- The open transaction at an index.
abbrev pub open_at : List (Option Transaction) → ℕ → Option Transaction
open_at [] index = None
open_at (slot ∷ slots) zero = slot
open_at (slot ∷ slots) (suc index) = open_at slots index

-- The index of the first open transaction, or the number of slots.
abbrev pub first_open : List (Option Transaction) → ℕ
first_open [] = 0
first_open (slot ∷ slots) = cond (is_some slot) 0 (suc (first_open slots))

-- Holds if the key of each open transaction is its system bytes.
abbrev pub AreKeyed : List (ℕ × Option Transaction) → Type 0
AreKeyed [] = Unit {0}
AreKeyed (entry ∷ entries) =
    IfSome entry.1 (λ opened. (entry.0 ≡ opened.header.system) × (entry.0 < 2 ^ 32))
    × AreKeyed entries

-- Holds if each key is below the limit.
abbrev pub AreBelow : ℕ → List (ℕ × Option Transaction) → Type 0
AreBelow limit [] = Unit {0}
AreBelow limit (entry ∷ entries) = (entry.0 < limit) × AreBelow limit entries

-- The invariant of a map of slots: the index of the first open transaction, and the number of empty slots.
pub record AreKept (first empty : ℕ) (entries : List (ℕ × Option Transaction)) : Type 0 where
  pub counted : length (open_in (values_of entries)) + empty ≡ length entries
  pub starts : first ≡ first_open (values_of entries)
  pub keyed : AreKeyed entries
  pub below : AreBelow (2 ^ 32 + length entries) entries
  pub apart : AreApart (open_in (values_of entries))
  pub in_order : AreInOrder (open_in (values_of entries))

-- The invariant of the open transactions, of which the oldest may be stored outside the map.
pub record AreListed (oldest : Option Transaction) (queue : List Transaction) : Type 0 where
  pub few : length queue < 2 ^ 63 - 1
  pub apart : AreApart (option_to_list oldest ++ queue)
  pub in_order : AreInOrder (option_to_list oldest ++ queue)
