-- Laws of encodings, errors and nesting, independent of the code.
use Rattle.std.specs.Prelude.{◌≡◌, ◌≤◌, ◌⊎◌, ℕ, List, ◌++◌, length, Option, Some}
use Rattle.secs_item.specs.Item.{Value, nest, InRange}
use Rattle.secs_item.specs.Header.{Reason}
use Rattle.secs_item.specs.Encoding.{IsOctets, EncodesTo, IsAtFront, IsTextOf}
use Rattle.secs_item.specs.ShortestEncoding.{short}
use Rattle.secs_item.specs.Fault.{Faults, TextFaults}

-- Holds if no encoding is a prefix of a longer one, and none encodes two values.
abbrev pub OneEncodingAtStart : Type 0
OneEncodingAtStart = (v w : Value) (a b x y : List ℕ) → EncodesTo v a → EncodesTo w b → a ++ x ≡ b ++ y → (v ≡ w) × (a ≡ b)

-- Holds if the shortest encoding is an encoding.
abbrev pub ShortEncodes : Type 0
ShortEncodes = (v : Value) (octets : List ℕ) → InRange v → short v ≡ Some octets → EncodesTo v octets

-- Holds if each value with an encoding has a shortest one, and no encoding is shorter.
abbrev pub NoneIsShorter : Type 0
NoneIsShorter = (v : Value) (octets : List ℕ) → EncodesTo v octets → (least : List ℕ) × (short v ≡ Some least) × (length least ≤ length octets)

-- Holds if each value with an encoding has its numbers in range.
abbrev pub EncodedInRange : Type 0
EncodedInRange = (v : Value) (octets : List ℕ) → EncodesTo v octets → InRange v

-- Holds if decoding the shortest encoding returns the value, whatever bytes follow it.
abbrev pub ShortIsReadAgain : Type 0
ShortIsReadAgain = (v : Value) (octets rest : List ℕ) (depth : ℕ) → InRange v → short v ≡ Some octets → nest v ≤ depth
    → IsAtFront depth (octets ++ rest) v (length octets)

-- ---- exactly one result for the item at the start

abbrev pub SomeAnswer : Type 0
SomeAnswer = (depth : ℕ) (octets : List ℕ) → IsOctets octets
    → ((v : Value) × (n : ℕ) × IsAtFront depth octets v n) ⊎ ((at : ℕ) × (reason : Reason) × Faults depth octets at reason)

abbrev pub OneItem : Type 0
OneItem = (depth : ℕ) (octets : List ℕ) (v w : Value) (n m : ℕ) → IsAtFront depth octets v n → IsAtFront depth octets w m → (v ≡ w) × (n ≡ m)

abbrev pub OneFault : Type 0
OneFault = (depth : ℕ) (octets : List ℕ) (at place : ℕ) (reason cause : Reason) → Faults depth octets at reason → Faults depth octets place cause
    → (at ≡ place) × (reason ≡ cause)

abbrev pub NotBoth : Type 0
NotBoth = (depth : ℕ) (octets : List ℕ) (v : Value) (n at : ℕ) (reason : Reason) → IsAtFront depth octets v n → Faults depth octets at reason → ⊥

-- ---- exactly one result for a complete text

abbrev pub SomeTextAnswer : Type 0
SomeTextAnswer = (depth : ℕ) (octets : List ℕ) → IsOctets octets
    → ((text : Option Value) × IsTextOf depth octets text) ⊎ ((at : ℕ) × (reason : Reason) × TextFaults depth octets at reason)

abbrev pub OneText : Type 0
OneText = (depth : ℕ) (octets : List ℕ) (text other : Option Value) → IsTextOf depth octets text → IsTextOf depth octets other → text ≡ other

abbrev pub OneTextFault : Type 0
OneTextFault = (depth : ℕ) (octets : List ℕ) (at place : ℕ) (reason cause : Reason) → TextFaults depth octets at reason → TextFaults depth octets place cause
    → (at ≡ place) × (reason ≡ cause)

abbrev pub NotBothOfText : Type 0
NotBothOfText = (depth : ℕ) (octets : List ℕ) (text : Option Value) (at : ℕ) (reason : Reason) → IsTextOf depth octets text
    → TextFaults depth octets at reason → ⊥
