-- The first error of bytes that are not an item. The order of errors is project-specific.
use Rattle.std.specs.Prelude.{◌≡◌, ◌≤◌, ◌<◌, ◌⊎◌, ℕ, zero, suc, ◌+◌, true, List, ◌++◌, length, drop, Ok, Err}
use Rattle.secs_item.specs.Item.{Value, Elements, count, nest, nest_of_elements}
use Rattle.secs_item.specs.Format.{is_list}
use Rattle.secs_item.specs.declared.fault.ItemFault.{ItemFault}
use Rattle.secs_item.specs.declared.fault.ItemFault.TheVariants as fault
use Rattle.secs_item.specs.Header.{Reason, no_length, bad_format, deep, ragged, truncated, trailing, Head, header_at}
use Rattle.secs_item.specs.Encoding.{EncodesTo, AllEncoded}

-- Holds if the bytes start with the header of a list, some of its elements follow, and the next element has the error.
pub record FaultsInElement (InElement : List ℕ → ℕ → Reason → Type 0) (depth : ℕ) (octets : List ℕ) (at : ℕ) (reason : Reason) : Type 0 where
  pub head : Head
  pub head_is : header_at (suc depth) octets ≡ Ok head
  pub of_list : is_list head.format ≡ true
  pub before : Elements
  pub fewer : count before < head.length
  pub nesting : nest_of_elements before ≤ depth
  pub encoded_bytes : List ℕ
  pub encodes_to : AllEncoded before encoded_bytes
  pub rest : List ℕ
  pub parts : drop head.size octets ≡ encoded_bytes ++ rest
  pub at_in_element : ℕ
  pub place : at ≡ head.size + length encoded_bytes + at_in_element
  pub fault : InElement rest at_in_element reason

-- Holds if the header at the start has the error.
abbrev pub FaultsInHeader : ℕ → List ℕ → ℕ → Reason → Type 0
FaultsInHeader depth octets at reason = (at ≡ 0) × (header_at depth octets ≡ Err reason)

-- Holds if no item within `depth` is encoded at the start, for this reason, which the header at this offset gives.
unfoldable pub Faults : ℕ → List ℕ → ℕ → Reason → Type 0
Faults zero octets at reason = FaultsInHeader 0 octets at reason
Faults (suc depth) octets at reason = FaultsInHeader (suc depth) octets at reason ⊎ FaultsInElement (Faults depth) depth octets at reason

-- Holds if bytes follow the item at the start.
pub record HasTrailing (depth : ℕ) (octets : List ℕ) (at : ℕ) : Type 0 where
  pub value : Value
  pub encoded_bytes : List ℕ
  pub encodes_to : EncodesTo value encoded_bytes
  pub nesting : nest value ≤ depth
  pub rest : List ℕ
  pub follows : 0 < length rest
  pub parts : octets ≡ encoded_bytes ++ rest
  pub place : at ≡ length encoded_bytes

-- Holds if the bytes are neither empty nor one item.
abbrev pub TextFaults : ℕ → List ℕ → ℕ → Reason → Type 0
TextFaults depth octets at reason = (0 < length octets) × (Faults depth octets at reason ⊎ ((reason ≡ trailing) × HasTrailing depth octets at))

-- The error that the code returns for a reason at an offset.
abbrev pub fault_at : ℕ → Reason → ItemFault
fault_at at no_length = fault.NoLength at
fault_at at bad_format = fault.Format at
fault_at at deep = fault.Deep at
fault_at at ragged = fault.Ragged at
fault_at at truncated = fault.Truncated at
fault_at at trailing = fault.Trailing at

-- Holds if the returned error has property `P`.
abbrev pub IsReported : (ℕ → Reason → Type 0) → ItemFault → Type 0
IsReported P f = (at : ℕ) × (reason : Reason) × P at reason × (f ≡ fault_at at reason)
