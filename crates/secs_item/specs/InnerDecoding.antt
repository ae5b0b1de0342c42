-- What only contracts of private functions use, besides the definitions of `Decoding`.
use Rattle.std.specs.Prelude.{ℕ, zero, suc, ◌+◌, if◌then◌else◌, List, length, take, drop, Result, Ok, Err}
use Rattle.secs_item.specs.Item.{Value, list, values, Elements, no_elements, element}
use Rattle.secs_item.specs.Format.{is_list}
use Rattle.secs_item.specs.Header.{Reason, Head, header_at}
use Rattle.secs_item.specs.Decoding.{values_of}

-- ---- items

pub record Fault : Type 0 where
  pub at : ℕ
  pub reason : Reason

infixl 10 ◌>>=◌
abbrev pub ◌>>=◌ : {A B : Type 0} → Result A Fault → (A → Result B Fault) → Result B Fault
(Ok x) >>= f = f x
(Err e) >>= f = Err e

-- The result of reading after `size` bytes: an error's offset counts these bytes too.
abbrev pub subsequent : {A : Type 0} → ℕ → Result A Fault → Result A Fault
subsequent size (Ok x) = Ok x
subsequent size (Err f) = Err (record { at = size + f.at; reason = f.reason })

unfoldable pub elements_by : (List ℕ → Result (Value × ℕ) Fault) → ℕ → List ℕ → Result (Elements × ℕ) Fault
elements_by one zero octets = Ok (no_elements, 0)
elements_by one (suc n) octets = do
  first ← one octets
  others ← subsequent first.1 (elements_by one n (drop first.1 octets))
  Ok (element first.0 others.0, first.1 + others.1)

unfoldable pub item_by : (ℕ → List ℕ → Result (Elements × ℕ) Fault) → List ℕ → Result Head Reason → Result (Value × ℕ) Fault
item_by elements octets (Err reason) = Err (record { at = 0; reason = reason })
item_by elements octets (Ok head) =
    if is_list head.format then (subsequent head.size (elements head.length (drop head.size octets)) >>= (λ x. Ok (list x.0, head.size + x.1)))
    else Ok (values (values_of head.format (take head.length (drop head.size octets))), head.size + head.length)

-- Lists may be nested at most `depth` deep. If `depth` is 0, no header is a list's, so there are no elements to read.
unfoldable pub item_at : ℕ → List ℕ → Result (Value × ℕ) Fault
item_at zero octets = item_by (λ n rest. Ok (no_elements, 0)) octets (header_at 0 octets)
item_at (suc depth) octets = item_by (elements_by (item_at depth)) octets (header_at (suc depth) octets)
