-- A data item of SEMI E5 (data structures: items and lists), independent of its location in memory, and the value that
-- an `Item` of the code represents.
use Rattle.std.specs.Prelude.{◌≡◌, ◌<◌, ◌^◌, ℕ, suc, max, ℤ, Bool, List, [], ◌∷◌, length, FitsSigned}
use Rattle.std.specs.Int.{w8, w16, w32, w64}
use Rattle.std.specs.List.{AllByRecursion}
use Rattle.secs_item.specs.declared.format.Format.{Format}
use Rattle.secs_item.specs.declared.format.Format.TheVariants as format
use Rattle.secs_item.specs.declared.item.Item.{Item, fold-Item}
use Rattle.secs_item.specs.declared.item.Item.TheOpen.{Item-F}

-- The values of an item that is not a list: bytes, truth values, numbers, or uninterpreted floats.
pub data Values : Type 0 where
  binary : List ℕ → Values
  boolean : List Bool → Values
  ascii : List ℕ → Values
  jis8 : List ℕ → Values
  char2 : List ℕ → Values
  i8 : List ℤ → Values
  i1 : List ℤ → Values
  i2 : List ℤ → Values
  i4 : List ℤ → Values
  f8 : List (List ℕ) → Values
  f4 : List (List ℕ) → Values
  u8 : List ℕ → Values
  u1 : List ℕ → Values
  u2 : List ℕ → Values
  u4 : List ℕ → Values

mutual
  pub data Value : Type 0 where
    list : Elements → Value
    values : Values → Value

  pub data Elements : Type 0 where
    no_elements : Elements
    element : Value → Elements → Elements

abbrev pub count : Elements → ℕ
count no_elements = 0
count (element v es) = suc (count es)

-- The elements with one more at the end.
abbrev pub with_element : Elements → Value → Elements
with_element no_elements v = element v no_elements
with_element (element w es) v = element w (with_element es v)

-- The nesting depth of lists.
abbrev mutual
  pub nest : Value → ℕ
  nest (list es) = suc (nest_of_elements es)
  nest (values v) = 0

  -- The maximum of the elements' depths.
  pub nest_of_elements : Elements → ℕ
  nest_of_elements no_elements = 0
  nest_of_elements (element v es) = max (nest v) (nest_of_elements es)

-- ---- the format of an item, and its number of values or elements

abbrev pub format_of_values : Values → Format
format_of_values (binary xs) = format.Binary
format_of_values (boolean xs) = format.Boolean
format_of_values (ascii xs) = format.Ascii
format_of_values (jis8 xs) = format.Jis8
format_of_values (char2 xs) = format.Char2
format_of_values (i8 xs) = format.I8
format_of_values (i1 xs) = format.I1
format_of_values (i2 xs) = format.I2
format_of_values (i4 xs) = format.I4
format_of_values (f8 xs) = format.F8
format_of_values (f4 xs) = format.F4
format_of_values (u8 xs) = format.U8
format_of_values (u1 xs) = format.U1
format_of_values (u2 xs) = format.U2
format_of_values (u4 xs) = format.U4

abbrev pub format_of : Value → Format
format_of (list es) = format.List
format_of (values v) = format_of_values v

abbrev pub count_of_values : Values → ℕ
count_of_values (binary xs) = length xs
count_of_values (boolean xs) = length xs
count_of_values (ascii xs) = length xs
count_of_values (jis8 xs) = length xs
count_of_values (char2 xs) = length xs
count_of_values (i8 xs) = length xs
count_of_values (i1 xs) = length xs
count_of_values (i2 xs) = length xs
count_of_values (i4 xs) = length xs
count_of_values (f8 xs) = length xs
count_of_values (f4 xs) = length xs
count_of_values (u8 xs) = length xs
count_of_values (u1 xs) = length xs
count_of_values (u2 xs) = length xs
count_of_values (u4 xs) = length xs

abbrev pub count_of : Value → ℕ
count_of (list es) = count es
count_of (values v) = count_of_values v

-- ---- the values within the ranges of the code's types

abbrev pub ValuesInRange : Values → Type 0
ValuesInRange (binary xs) = AllByRecursion (λ n. n < 256) xs
ValuesInRange (boolean xs) = AllByRecursion (λ truth. Unit {0}) xs
ValuesInRange (ascii xs) = AllByRecursion (λ n. n < 256) xs
ValuesInRange (jis8 xs) = AllByRecursion (λ n. n < 256) xs
ValuesInRange (char2 xs) = AllByRecursion (λ n. n < 256) xs
ValuesInRange (i1 xs) = AllByRecursion (FitsSigned w8) xs
ValuesInRange (i2 xs) = AllByRecursion (FitsSigned w16) xs
ValuesInRange (i4 xs) = AllByRecursion (FitsSigned w32) xs
ValuesInRange (i8 xs) = AllByRecursion (FitsSigned w64) xs
ValuesInRange (u1 xs) = AllByRecursion (λ n. n < 256) xs
ValuesInRange (u2 xs) = AllByRecursion (λ n. n < 256 ^ 2) xs
ValuesInRange (u4 xs) = AllByRecursion (λ n. n < 256 ^ 4) xs
ValuesInRange (u8 xs) = AllByRecursion (λ n. n < 256 ^ 8) xs
ValuesInRange (f4 xs) = AllByRecursion (λ float. (length float ≡ 4) × AllByRecursion (λ n. n < 256) float) xs
ValuesInRange (f8 xs) = AllByRecursion (λ float. (length float ≡ 8) × AllByRecursion (λ n. n < 256) float) xs

abbrev mutual
  pub InRange : Value → Type 0
  InRange (list es) = ElementsInRange es
  InRange (values v) = ValuesInRange v

  pub ElementsInRange : Elements → Type 0
  ElementsInRange no_elements = Unit {0}
  ElementsInRange (element v es) = InRange v × ElementsInRange es

-- ---- the value that an `Item` represents

abbrev pub elements_of : List Value → Elements
elements_of [] = no_elements
elements_of (v ∷ vs) = element v (elements_of vs)

-- The value of one level, whose elements are values already.
abbrev pub view_step : Item-F Value → Value
view_step (Item-F.List v) = list (elements_of v.items)
view_step (Item-F.Binary v) = values (binary v.items)
view_step (Item-F.Boolean v) = values (boolean v.items)
view_step (Item-F.Ascii v) = values (ascii v.items)
view_step (Item-F.Jis8 v) = values (jis8 v.items)
view_step (Item-F.Char2 v) = values (char2 v.items)
view_step (Item-F.I8 v) = values (i8 v.items)
view_step (Item-F.I1 v) = values (i1 v.items)
view_step (Item-F.I2 v) = values (i2 v.items)
view_step (Item-F.I4 v) = values (i4 v.items)
view_step (Item-F.F8 v) = values (f8 v.items)
view_step (Item-F.F4 v) = values (f4 v.items)
view_step (Item-F.U8 v) = values (u8 v.items)
view_step (Item-F.U1 v) = values (u1 v.items)
view_step (Item-F.U2 v) = values (u2 v.items)
view_step (Item-F.U4 v) = values (u4 v.items)

abbrev pub view : Item → Value
view = fold-Item Value view_step
