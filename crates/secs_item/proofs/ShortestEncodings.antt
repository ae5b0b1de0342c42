-- The shortest encoding, element by element.
use Rattle.std.proofs.Common.{◌≡◌, ℕ, suc, ◌+◌, ◌*◌, ◌^◌, ◌<◌, ◌≤◌, Bool, true, false, ltb, List, [], ◌∷◌, ◌++◌, length, drop, get_or, Option, Some, None, refl, sym, ap, ◌∙◌, append_assoc, append-nil, arith, inl, inr}
use Rattle.std.specs.Prelude.{is_some, option_and_then, option_map}
use Rattle.std.proofs.lemmas.Bool.{cases_lt, le-ltb, lt-ltb}
use Rattle.std.proofs.lemmas.List.{at_drop_more, at_drop_all}
use Rattle.secs_item.specs.declared.format.Format.{Format}
use Rattle.secs_item.specs.declared.format.Format.TheVariants as format
use Rattle.secs_item.specs.declared.item.Item.{Item}
use Rattle.secs_item.specs.Format.{is_list, value_size}
use Rattle.secs_item.specs.Item.{Value, list, values, Values, Elements, count, count_of, format_of, format_of_values, view, ValuesInRange, InRange}
use Rattle.secs_item.specs.InnerItem.{views}
use Rattle.secs_item.specs.Encoding.{header}
use Rattle.secs_item.specs.ShortestEncoding.{field_of, framed, short, short_body, short_elements, IsBodyOf}
use Rattle.secs_item.specs.InnerShortestEncoding.{body_of, Appends}

pub count-views : (items : List Item) → count (views items) ≡ length items
count-views [] = refl
count-views (x ∷ items) = ap suc (count-views items)

-- The encoding of a list, given its elements'.
abbrev in_list : ℕ → Option (List ℕ) → Option (List ℕ)
in_list number body = option_and_then (λ b. framed format.List number b) body

framed_fits : (f : Format) (number : ℕ) (body : List ℕ) → number < 256 ^ 3 → framed f number body ≡ Some (header f (field_of number) number ++ body)
framed_fits f number body lt =
    let small : ltb number (256 ^ 3) ≡ true = lt-ltb number (256 ^ 3) lt in
    rw small refl

pub list_too_large : (es : Elements) → 256 ^ 3 ≤ count es → is_some (short (list es)) ≡ false
list_too_large es le = by_body (short_elements es)
  where
    large : ltb (count es) (256 ^ 3) ≡ false
    large = le-ltb (count es) (256 ^ 3) le

    by_body : (body : Option (List ℕ)) → is_some (in_list (count es) body) ≡ false
    by_body None = refl
    by_body (Some body) = rw large refl

pub list_within : (es : Elements) → is_some (short (list es)) ≡ true → count es < 256 ^ 3
list_within es h =
    elim (cases_lt (count es) (256 ^ 3)) [
      | inl lt ↦ lt
      | inr le ↦ let none = list_too_large es le in absurd cc
    ]

-- ---- by the number in an item's header

abbrev number_of : Value → ℕ
number_of v = value_size (format_of v) * count_of v

abbrev pub front_of : Value → List ℕ
front_of v = header (format_of v) (field_of (number_of v)) (number_of v)

pub too_large : (v : Value) → 256 ^ 3 ≤ value_size (format_of v) * count_of v → is_some (short v) ≡ false
too_large (list es) le = list_too_large es (omega arith)
too_large (values v) le =
    let large : ltb (number_of (values v)) (256 ^ 3) ≡ false = le-ltb (number_of (values v)) (256 ^ 3) le in rw large refl

pub within : (v : Value) → is_some (short v) ≡ true → value_size (format_of v) * count_of v < 256 ^ 3
within v h =
    elim (cases_lt (number_of v) (256 ^ 3)) [
      | inl lt ↦ lt
      | inr le ↦ let none = too_large v le in absurd cc
    ]

pub values_some : (v : Value) → is_list (format_of v) ≡ false → value_size (format_of v) * count_of v < 256 ^ 3 → is_some (short v) ≡ true
values_some (list es) h lt = absurd cc
values_some (values v) h lt =
    let small : ltb (number_of (values v)) (256 ^ 3) ≡ true = lt-ltb (number_of (values v)) (256 ^ 3) lt in rw small refl

-- The body of values is written after their header.
pub values_written : (v : Value) (old headed now : List ℕ) → is_list (format_of v) ≡ false → is_some (short v) ≡ true → headed ≡ old ++ front_of v → now ≡ headed ++ body_of v → Appends (short v) old now
values_written (list es) old headed now h some front body = absurd cc
values_written (values v) old headed now h some front body = (
  front_of (values v) ++ short_body v,
  framed_fits (format_of_values v) (number_of (values v)) (short_body v) (within (values v) some),
  body ∙ ap (λ (o : List ℕ). o ++ short_body v) front ∙ append_assoc old (front_of (values v)) (short_body v),
)

pub values_in_range : (v : Value) → is_list (format_of v) ≡ false → IsBodyOf v (body_of v) → InRange v
values_in_range (list es) h is = absurd cc
values_in_range (values v) h is = is.1

-- The body of values that are in range.
pub is_body : (v : Value) (vs : Values) → v ≡ values vs → ValuesInRange vs → IsBodyOf v (body_of v)
is_body v vs e h = rw e (refl, h)

pub front_of_list : (items : List Item) → front_of (list (views items)) ≡ header format.List (field_of (length items)) (length items)
front_of_list items =
    let n : 1 * count (views items) ≡ length items = omega (arith, count-views items) in
    ap (λ (n : ℕ). header format.List (field_of n) n) n

pub list_short : (es : Elements) (body : List ℕ) → count es < 256 ^ 3 → short_elements es ≡ Some body → short (list es) ≡ Some (header format.List (field_of (count es)) (count es) ++ body)
list_short es body lt e = ap (in_list (count es)) e ∙ framed_fits format.List (count es) body lt

some_body : (number : ℕ) (body : Option (List ℕ)) → is_some (in_list number body) ≡ true → (octets : List ℕ) × (body ≡ Some octets)
some_body number None h = absurd cc
some_body number (Some octets) h = (octets, refl)

pub list_body : (es : Elements) → is_some (short (list es)) ≡ true → (body : List ℕ) × (short_elements es ≡ Some body)
list_body es h = some_body (count es) (short_elements es) h

pub list_not : (es : Elements) → is_some (short_elements es) ≡ false → is_some (short (list es)) ≡ false
list_not es h = by_body (short_elements es) h
  where
    by_body : (body : Option (List ℕ)) → is_some body ≡ false → is_some (in_list (count es) body) ≡ false
    by_body None e = refl
    by_body (Some body) e = absurd cc

pub list_some : (es : Elements) → count es < 256 ^ 3 → is_some (short_elements es) ≡ true → is_some (short (list es)) ≡ true
list_some es lt h = by_body (short_elements es) h
  where
    by_body : (body : Option (List ℕ)) → is_some body ≡ true → is_some (in_list (count es) body) ≡ true
    by_body None e = absurd cc
    by_body (Some body) e = let small : ltb (count es) (256 ^ 3) ≡ true = lt-ltb (count es) (256 ^ 3) lt in rw small refl

-- An element and the elements after it.
abbrev in_front : Option (List ℕ) → Option (List ℕ) → Option (List ℕ)
in_front first others = option_and_then (λ f. option_map (λ o. f ++ o) others) first

pub both_short : (first others : Option (List ℕ)) (octets : List ℕ) → in_front first others ≡ Some octets → (f o : List ℕ) × (first ≡ Some f) × (others ≡ Some o) × (octets ≡ f ++ o)
both_short None others octets e = absurd cc
both_short (Some f) None octets e = absurd cc
both_short (Some f) (Some o) octets e = (f, o, refl, refl, cc)

not_first : (first others : Option (List ℕ)) → is_some first ≡ false → is_some (in_front first others) ≡ false
not_first None others h = refl
not_first (Some f) others h = absurd cc

-- The elements from an index on.
pub elements_from : (items : List Item) (i : ℕ) (x : Item) → i < length items → x ≡ get_or items i x → short_elements (views (drop i items)) ≡ in_front (short (view x)) (short_elements (views (drop (i + 1) items)))
elements_from items i x lt is = at_drop_more (λ (xs : List Item). short_elements (views xs)) items i x lt ∙ ap (λ (y : Item). in_front (short (view y)) (short_elements (views (drop (i + 1) items)))) (sym is)

pub next_not : (items : List Item) (i : ℕ) (x : Item) → i < length items → x ≡ get_or items i x → is_some (short (view x)) ≡ false → is_some (short_elements (views (drop i items))) ≡ false
next_not items i x lt is none = ap is_some (elements_from items i x lt is) ∙ not_first (short (view x)) (short_elements (views (drop (i + 1) items))) none

pub next_some : (items : List Item) (i : ℕ) (x : Item) → i < length items → x ≡ get_or items i x → is_some (short (view x)) ≡ true → is_some (short_elements (views (drop (i + 1) items))) ≡ is_some (short_elements (views (drop i items)))
next_some items i x lt is some = sym (ap is_some (elements_from items i x lt is) ∙ subsequent (short (view x)) (short_elements (views (drop (i + 1) items))) some)
  where
    subsequent : (first others : Option (List ℕ)) → is_some first ≡ true → is_some (in_front first others) ≡ is_some others
    subsequent None others h = absurd cc
    subsequent (Some f) None h = refl
    subsequent (Some f) (Some o) h = refl

pub none_left : (items : List Item) (i : ℕ) → length items ≤ i → short_elements (views (drop i items)) ≡ Some []
none_left items i le = at_drop_all (λ (xs : List Item). short_elements (views xs)) items i le

-- ---- a boolean result and its proposition

pub says_no : (b : Bool) → b ≡ false → (◌≡◌ {A = Bool} false true → b ≡ true) × (b ≡ true → ◌≡◌ {A = Bool} false true)
says_no b e = (λ f. absurd cc, λ h. sym e ∙ h)

pub says_yes : (b : Bool) → b ≡ true → (◌≡◌ {A = Bool} true true → b ≡ true) × (b ≡ true → ◌≡◌ {A = Bool} true true)
says_yes b e = (λ f. e, λ h. refl)

pub not_true : (b : Bool) → (b ≡ true → ⊥) → b ≡ false
not_true true h = absurd (h refl)
not_true false h = refl

pub said_no : (b : Bool) → b ≡ false → b ≡ true → ⊥
said_no b h e = cc

-- ---- writing elements

-- Loop invariant: the bytes written after the header so far, and the remaining elements.
pub record IsWriting (items : List Item) (i : ℕ) (before now : List ℕ) : Type 0 where
  pub body : List ℕ
  pub rest : List ℕ
  pub body_is : short_elements (views items) ≡ Some body
  pub rest_is : short_elements (views (drop i items)) ≡ Some rest
  pub so_far : now ++ rest ≡ before ++ body

pub starts_writing : (items : List Item) (before : List ℕ) → is_some (short (list (views items))) ≡ true → IsWriting items 0 before before
starts_writing items before h =
    let p = list_body (views items) h in
    record { body = p.0; rest = p.0; body_is = p.1; rest_is = p.1; so_far = refl }

-- The next element has an encoding.
pub next_short : (items : List Item) (i : ℕ) (before now : List ℕ) (x : Item) → i < length items → x ≡ get_or items i x → IsWriting items i before now → is_some (short (view x)) ≡ true
next_short items i before now x lt is w =
    let p = both_short (short (view x)) (short_elements (views (drop (i + 1) items))) w.rest (sym (elements_from items i x lt is) ∙ w.rest_is) in
    ap is_some p.2

pub continues_writing : (items : List Item) (i : ℕ) (before now after : List ℕ) (x : Item) → i < length items → x ≡ get_or items i x → IsWriting items i before now → Appends (short (view x)) now after → IsWriting items (i + 1) before after
continues_writing items i before now after x lt is w a =
    let p = both_short (short (view x)) (short_elements (views (drop (i + 1) items))) w.rest (sym (elements_from items i x lt is) ∙ w.rest_is) in
    let same : ◌≡◌ {A = Option (List ℕ)} (Some a.0) (Some p.0) = sym a.1 ∙ p.2 in
    let first : a.0 ≡ p.0 = cc in
    record {
      body = w.body;
      rest = p.1;
      body_is = w.body_is;
      rest_is = p.3;
      so_far = ap (λ (o : List ℕ). o ++ p.1) (a.2 ∙ ap (λ (o : List ℕ). now ++ o) first) ∙ append_assoc now p.0 p.1 ∙ ap (λ (o : List ℕ). now ++ o) (sym p.4) ∙ w.so_far;
    }

pub ends_writing : (items : List Item) (i : ℕ) (old now : List ℕ) → length items ≤ i → is_some (short (list (views items))) ≡ true
    → IsWriting items i (old ++ header format.List (field_of (length items)) (length items)) now → Appends (short (list (views items))) old now
ends_writing items i old now le h w =
    let number = length items in
    let front = header format.List (field_of number) number in
    let none : ◌≡◌ {A = Option (List ℕ)} (Some []) (Some w.rest) = sym (none_left items i le) ∙ w.rest_is in
    let rest : w.rest ≡ [] = cc in
    let all : now ≡ (old ++ front) ++ w.body = sym (append-nil now) ∙ ap (λ (o : List ℕ). now ++ o) (sym rest) ∙ w.so_far in
    let counted = count-views items in
    let encoded_form : short (list (views items)) ≡ Some (front ++ w.body) = list_short (views items) w.body (list_within (views items) h) w.body_is ∙ ap (λ (n : ℕ). Some (header format.List (field_of n) n ++ w.body)) counted in
    (front ++ w.body, encoded_form, all ∙ append_assoc old front w.body)
