-- Items of values, printed from their bytes.
use Rattle.std.proofs.Common.{◌≡◌, ℕ, zero, suc, ◌+◌, ◌/◌, ◌<◌, ◌≤◌, ◌^◌, false, List, [], ◌∷◌, ◌++◌, length, get_or, take, codes, append_assoc, refl, sym, ap, ◌∙◌, subst, arith}
use Rattle.std.specs.Prelude.{FitsSigned}
use Rattle.std.specs.List.{AllByRecursion}
use Rattle.std.specs.Int.{w8, w16, w32, w64}
use Rattle.std.proofs.Math.Nat.{div-le_self}
use Rattle.secs_item.specs.declared.format.Format.{Format}
use Rattle.secs_item.specs.Format.{is_list, value_size}
use Rattle.secs_item.specs.Item.{Value, list, values, Values, binary, boolean, ascii, jis8, char2, i1, i2, i4, i8, u1, u2, u4, u8, f4, f8, format_of, format_of_values, count_of_values, ValuesInRange, count, view}
use Rattle.secs_item.specs.InnerItem.{views}
use Rattle.secs_item.specs.Decoding.{values_of}
use Rattle.secs_item.specs.ShortestEncoding.{IsBodyOf, short_body}
use Rattle.secs_item.proofs.Bodies.{body_reads}
use Rattle.secs_item.proofs.Uniqueness.{body_short}
use Rattle.secs_text.specs.Body.{signed_number, unsigned_number, hex_float, body_of}
use Rattle.secs_text.specs.InRange.{Fits, IsOctets, AllHeld, BodyIsHeld, IsHeld}
use Rattle.secs_text.specs.InnerBlockOutput.{Puts, opening_of}
use Rattle.secs_text.specs.Printed.{printed_elements, printed_item, printed_values}
use Rattle.secs_text.proofs.Blocks.{puts_same, puts_then}
use Rattle.std.proofs.lemmas.List.{take_more, take_all}
use Rattle.secs_item.specs.declared.format.Format.TheVariants as format
use Rattle.secs_item.specs.declared.item.Item.{Item}
use Rattle.secs_text.proofs.Views.{count_views, printed_push}
use Rattle.secs_text.proofs.PrintingItems.{counted, printed_of_values}

-- ---- values in range can be represented by a program

all_as : {X : Type 0} (P Q : X → Type 0) → ((x : X) → P x → Q x) → (xs : List X) → AllByRecursion P xs → AllByRecursion Q xs
all_as P Q f [] h = tt
all_as P Q f (x ∷ xs) h = (f x h.0, all_as P Q f xs h.1)

octets_held : (xs : List ℕ) → AllByRecursion (λ n. n < 256) xs → IsOctets xs
octets_held [] h zero = omega arith
octets_held [] h (suc k) = omega arith
octets_held (x ∷ xs) h zero = h.0
octets_held (x ∷ xs) h (suc k) = octets_held xs h.1 k

float_held : (size : ℕ) (float : List ℕ) → (length float ≡ size) × AllByRecursion (λ n. n < 256) float → Fits (hex_float size) float
float_held size float h = (h.0, octets_held float h.1)

pub body_held : (v : Values) → ValuesInRange v → BodyIsHeld (body_of v)
body_held (binary xs) h = h
body_held (boolean xs) h = h
body_held (ascii xs) h = octets_held xs h
body_held (jis8 xs) h = h
body_held (char2 xs) h = h
body_held (i1 xs) h = all_as (FitsSigned w8) (Fits (signed_number (2 ^ 7))) (λ z fits. (omega arith, grind (fits, arith))) xs h
body_held (i2 xs) h = all_as (FitsSigned w16) (Fits (signed_number (2 ^ 15))) (λ z fits. (omega arith, grind (fits, arith))) xs h
body_held (i4 xs) h = all_as (FitsSigned w32) (Fits (signed_number (2 ^ 31))) (λ z fits. (omega arith, grind (fits, arith))) xs h
body_held (i8 xs) h = all_as (FitsSigned w64) (Fits (signed_number (2 ^ 63))) (λ z fits. (omega arith, grind (fits, arith))) xs h
body_held (u1 xs) h = all_as (λ n. n < 256) (Fits (unsigned_number (2 ^ 8))) (λ n below. (omega arith, omega (arith, below))) xs h
body_held (u2 xs) h = all_as (λ n. n < 256 ^ 2) (Fits (unsigned_number (2 ^ 16))) (λ n below. (omega arith, omega (arith, below))) xs h
body_held (u4 xs) h = all_as (λ n. n < 256 ^ 4) (Fits (unsigned_number (2 ^ 32))) (λ n below. (omega arith, omega (arith, below))) xs h
body_held (u8 xs) h = all_as (λ n. n < 256 ^ 8) (Fits (unsigned_number (2 ^ 64))) (λ n below. (omega arith, omega (arith, below))) xs h
body_held (f4 xs) h = all_as _ (Fits (hex_float 4)) (float_held 4) xs h
body_held (f8 xs) h = all_as _ (Fits (hex_float 8)) (float_held 8) xs h

-- ---- an item of values, from its bytes

pub leaf_puts : {G H : List ℕ → Type 0} {block now : List ℕ} {from at : ℕ} (v : Value) (f : Format) (octets : List ℕ) → is_list (format_of v) ≡ false → f ≡ format_of v → IsBodyOf v octets
    → Puts G block from H now at (opening_of f (length octets / value_size f) ++ printed_values (body_of (values_of f octets)) ++ codes ">")
    → Puts G block from H now at (codes " " ++ printed_item v)
leaf_puts (list es) f octets lists is h p = absurd cc
leaf_puts {G} {H} {block} {now} {from} {at} (values v) f octets lists is h p =
    let encoded_bytes = body_short v h.1 in
    let reads = body_reads v (short_body v) encoded_bytes.0 in
    let read : values_of f octets ≡ v = ap (λ o. values_of f o) h.0 ∙ ap (λ k. values_of k (short_body v)) is ∙ reads.read_is in
    puts_same (codes " " ++ printed_item (values v))
    (sym (printed_of_values f (length octets) octets (ap is_list is ∙ lists) refl) ∙ ap (λ w. codes " " ++ printed_item (values w)) read) p

pub leaf_held : (v : Value) (octets : List ℕ) → is_list (format_of v) ≡ false → IsBodyOf v octets → length octets < 2 ^ 64 → IsHeld v
leaf_held (list es) octets lists h few = absurd cc
leaf_held (values v) octets lists h few =
    let encoded_bytes = body_short v h.1 in
    let reads = body_reads v (short_body v) encoded_bytes.0 in
    let n = counted (format_of_values v) octets lists in
    let read : values_of (format_of_values v) octets ≡ v = ap (values_of (format_of_values v)) h.0 ∙ reads.read_is in
    let size : count_of_values v ≡ length octets / value_size (format_of_values v) = ap count_of_values (sym read) ∙ n.1 in
    (omega (arith, size, few, div-le_self (length octets) (value_size (format_of_values v))), body_held v h.1)

-- ---- a list, from its elements

pub list_continues : {G H K : List ℕ → Type 0} {block mid now : List ℕ} {from at end : ℕ} (items : List Item) (i : ℕ) (item : Item) (opening : List ℕ) → i < length items → item ≡ get_or items i item
    → Puts G block from H mid at (opening ++ printed_elements (views (take i items))) → Puts H mid at K now end (codes " " ++ printed_item (view item))
    → Puts G block from K now end (opening ++ printed_elements (views (take (i + 1) items)))
list_continues {G} {H} {K} {block} {mid} {now} {from} {at} {end} items i item opening lt is before one =
    puts_same (opening ++ printed_elements (views (take (i + 1) items)))
    (append_assoc opening (printed_elements (views (take i items))) (codes " " ++ printed_item (view item))
    ∙ ap (λ o. opening ++ o) (sym (printed_push (take i items) item))
    ∙ ap (λ xs. opening ++ printed_elements (views xs)) (ap (λ x. take i items ++ x ∷ []) is ∙ sym (take_more items i item lt)))
    (puts_then before one)

pub list_ends : {G H K : List ℕ → Type 0} {block mid now : List ℕ} {from at end : ℕ} (items : List Item) (i : ℕ) → length items ≤ i
    → Puts G block from H mid at (opening_of format.List (length items) ++ printed_elements (views (take i items))) → Puts H mid at K now end (codes ">")
    → Puts G block from K now end (codes " " ++ printed_item (list (views items)))
list_ends {G} {H} {K} {block} {mid} {now} {from} {at} {end} items i all before stop =
    let es = views items in
    let opening = opening_of format.List (length items) in
    let whole : take i items ≡ items = take_all i items all in
    puts_same (codes " " ++ printed_item (list es))
    (ap (λ xs. opening ++ printed_elements (views xs) ++ codes ">") whole
    ∙ append_assoc opening (printed_elements es) (codes ">")
    ∙ ap (λ n. opening_of format.List n ++ (printed_elements es ++ codes ">")) (sym (count_views items))
    ∙ sym (append_assoc (opening_of format.List (count es)) (printed_elements es) (codes ">")))
    (puts_then before stop)

pub list_held : (items : List Item) (i : ℕ) → length items ≤ i → length items < 2 ^ 64 → AllHeld (views (take i items)) → IsHeld (list (views items))
list_held items i all few held =
    let whole : take i items ≡ items = take_all i items all in
    (omega (arith, few, count_views items), subst (λ xs. AllHeld (views xs)) whole held)
