-- No encoding is shorter than the shortest one.
use Rattle.std.proofs.Common.{◌≡◌, ℕ, zero, suc, ◌*◌, ◌^◌, ◌<◌, ◌≤◌, Bool, true, false, cond, ltb, List, [], ◌∷◌, ◌++◌, length, Some, refl, sym, ap, ◌∙◌, arith}
use Rattle.std.specs.Prelude.{option_and_then}
use Rattle.std.specs.List.{AllByRecursion}
use Rattle.std.specs.Int.{w8, w16, w32, w64}
use Rattle.std.proofs.Math.Nat.{mul_comm}
use Rattle.std.proofs.lemmas.Bool.{lt-ltb, ltb-false}
use Rattle.std.proofs.lemmas.List.{length-append}
use Rattle.secs_item.specs.declared.format.Format.{Format}
use Rattle.secs_item.specs.declared.format.Format.TheVariants as format
use Rattle.secs_item.specs.Format.{value_size}
use Rattle.secs_item.specs.Item.{Value, list, values, Values, binary, boolean, ascii, jis8, char2, i8, i1, i2, i4, f8, f4, u8, u1, u2, u4, Elements, no_elements, element, count, ValuesInRange, InRange, ElementsInRange, format_of_values, count_of_values}
use Rattle.secs_item.specs.Encoding.{IsOctets, InOrder, Octet, Truth, Signed, Unsigned, Unread, Body, header, Framed, EncodesTo, AllEncoded}
use Rattle.secs_item.specs.ShortestEncoding.{short_body, field_of, framed, short, short_elements}
use Rattle.secs_item.specs.Decoding.{octet, truth, signed, unread}
use Rattle.byteorder.specs.Endian.{big_number}
use Rattle.secs_item.proofs.Codecs.{octets_codec, truth_codec, signed_codec, unsigned_codec, unread_codec}
use Rattle.secs_item.proofs.Bodies.{in_order_length}
use Rattle.secs_item.proofs.Items.{framed_length}
use Rattle.secs_item.proofs.Octets.{IsOctets-tail}
use Rattle.secs_item.proofs.Uniqueness.{body_short}

-- ---- encoded values are in range

all_in_order : {X : Type 0} {One : X → List ℕ → Type 0} {Fits : X → Type 0} → ((x : X) (octets : List ℕ) → One x octets → Fits x) → (xs : List X) (octets : List ℕ) → InOrder One xs octets → AllByRecursion Fits xs
all_in_order fits [] octets h = tt
all_in_order fits (x ∷ xs) octets h = (fits x h.0 h.2, all_in_order fits xs h.1 h.3)

all_octets : (xs : List ℕ) → IsOctets xs → AllByRecursion (λ n. n < 256) xs
all_octets [] h = tt
all_octets (x ∷ xs) h = (h 0, all_octets xs (IsOctets-tail x xs h))

unread_in_range : (size : ℕ) (float octets : List ℕ) → Unread size float octets → (length float ≡ size) × AllByRecursion (λ n. n < 256) float
unread_in_range size float octets h = (h.0, all_octets float h.1)

body_in_range : (v : Values) (octets : List ℕ) → Body v octets → ValuesInRange v
body_in_range (binary xs) octets h = all_in_order (λ n octets one. one.0) xs octets h
body_in_range (boolean xs) octets h = all_in_order (λ truth octets one. tt) xs octets h
body_in_range (ascii xs) octets h = all_in_order (λ n octets one. one.0) xs octets h
body_in_range (jis8 xs) octets h = all_in_order (λ n octets one. one.0) xs octets h
body_in_range (char2 xs) octets h = all_in_order (λ n octets one. one.0) xs octets h
body_in_range (i8 xs) octets h = all_in_order (λ z octets one. one.0) xs octets h
body_in_range (i1 xs) octets h = all_in_order (λ z octets one. one.0) xs octets h
body_in_range (i2 xs) octets h = all_in_order (λ z octets one. one.0) xs octets h
body_in_range (i4 xs) octets h = all_in_order (λ z octets one. one.0) xs octets h
body_in_range (f8 xs) octets h = all_in_order (unread_in_range 8) xs octets h
body_in_range (f4 xs) octets h = all_in_order (unread_in_range 4) xs octets h
body_in_range (u8 xs) octets h = all_in_order (λ n octets one. one.0) xs octets h
body_in_range (u1 xs) octets h = all_in_order (λ n octets one. one.0) xs octets h
body_in_range (u2 xs) octets h = all_in_order (λ n octets one. one.0) xs octets h
body_in_range (u4 xs) octets h = all_in_order (λ n octets one. one.0) xs octets h

mutual
  pub encoded_in_range : (v : Value) (octets : List ℕ) → EncodesTo v octets → InRange v
  encoded_in_range (list es) octets h = elements_in_range es h.0 h.1
  encoded_in_range (values v) octets h = body_in_range v h.0 h.1

  elements_in_range : (es : Elements) (octets : List ℕ) → AllEncoded es octets → ElementsInRange es
  elements_in_range no_elements octets h = tt
  elements_in_range (element v es) octets h = (encoded_in_range v h.0 h.2, elements_in_range es h.1 h.3)

-- ---- the body of values has one length

body_length : (v : Values) (octets : List ℕ) → Body v octets → length octets ≡ count_of_values v * value_size (format_of_values v)
body_length (binary xs) octets h = in_order_length Octet 1 octet octets_codec xs octets h
body_length (boolean xs) octets h = in_order_length Truth 1 truth truth_codec xs octets h
body_length (ascii xs) octets h = in_order_length Octet 1 octet octets_codec xs octets h
body_length (jis8 xs) octets h = in_order_length Octet 1 octet octets_codec xs octets h
body_length (char2 xs) octets h = in_order_length Octet 1 octet octets_codec xs octets h
body_length (i8 xs) octets h = in_order_length (Signed w64) 8 (signed w64) (signed_codec w64 refl) xs octets h
body_length (i1 xs) octets h = in_order_length (Signed w8) 1 (signed w8) (signed_codec w8 refl) xs octets h
body_length (i2 xs) octets h = in_order_length (Signed w16) 2 (signed w16) (signed_codec w16 refl) xs octets h
body_length (i4 xs) octets h = in_order_length (Signed w32) 4 (signed w32) (signed_codec w32 refl) xs octets h
body_length (f8 xs) octets h = in_order_length (Unread 8) 8 unread (unread_codec 8) xs octets h
body_length (f4 xs) octets h = in_order_length (Unread 4) 4 unread (unread_codec 4) xs octets h
body_length (u8 xs) octets h = in_order_length (Unsigned 8) 8 (big_number 8) (unsigned_codec 8) xs octets h
body_length (u1 xs) octets h = in_order_length Octet 1 octet octets_codec xs octets h
body_length (u2 xs) octets h = in_order_length (Unsigned 2) 2 (big_number 2) (unsigned_codec 2) xs octets h
body_length (u4 xs) octets h = in_order_length (Unsigned 4) 4 (big_number 4) (unsigned_codec 4) xs octets h

-- ---- the fewest length bytes

field_by : (number field : ℕ) (one two : Bool) → ltb number 256 ≡ one → ltb number (256 ^ 2) ≡ two → 1 ≤ field → number < 256 ^ field → cond one 1 (cond two 2 3) ≤ field
field_by number field true two e f some fits = some
field_by number zero false two e f some fits = absurd (omega arith)
field_by number (suc zero) false two e f some fits = absurd (omega (arith, ltb-false number 256 e))
field_by number (suc (suc zero)) false true e f some fits = omega arith
field_by number (suc (suc zero)) false false e f some fits = absurd (omega (arith, ltb-false number (256 ^ 2) f))
field_by number (suc (suc (suc field))) false true e f some fits = omega arith
field_by number (suc (suc (suc field))) false false e f some fits = omega arith

field_least : (number field : ℕ) → 1 ≤ field → number < 256 ^ field → field_of number ≤ field
field_least number field some fits = field_by number field (ltb number 256) (ltb number (256 ^ 2)) refl refl some fits

within_three : (number field : ℕ) → field ≤ 3 → number < 256 ^ field → number < 256 ^ 3
within_three number zero few fits = omega arith
within_three number (suc zero) few fits = omega arith
within_three number (suc (suc zero)) few fits = omega arith
within_three number (suc (suc (suc zero))) few fits = fits
within_three number (suc (suc (suc (suc field)))) few fits = absurd (omega arith)

framed_there : (f : Format) (number : ℕ) (body : List ℕ) → number < 256 ^ 3 → framed f number body ≡ Some (header f (field_of number) number ++ body)
framed_there f number body lt = let small : ltb number (256 ^ 3) ≡ true = lt-ltb number (256 ^ 3) lt in rw small refl

-- A body that is not longer, with the same number in its header.
framed_shorter : (f : Format) (number : ℕ) (body octets least : List ℕ) → Framed f number body octets → length least ≤ length body
    → (short : List ℕ) × (framed f number least ≡ Some short) × (length short ≤ length octets)
framed_shorter f number body octets least framed le = (
  header f (field_of number) number ++ least,
  framed_there f number least (within_three number framed.field framed.three_at_most framed.fits),
  omega (arith, framed_length f (field_of number) number least, framed_length f framed.field number body, ap length framed.parts, field_least number framed.field framed.one_at_least framed.fits),
)

mutual
  pub none_shorter : (v : Value) (octets : List ℕ) → EncodesTo v octets → (least : List ℕ) × (short v ≡ Some least) × (length least ≤ length octets)
  none_shorter (list es) octets h =
      let inner = elements_shorter es h.0 h.1 in
      let outer = framed_shorter format.List (count es) h.0 octets inner.0 h.2 inner.2 in
      (outer.0, ap (λ body. option_and_then (λ b. framed format.List (count es) b) body) inner.1 ∙ outer.1, outer.2)
  none_shorter (values v) octets h =
      let size = value_size (format_of_values v) in
      let least : size * count_of_values v ≡ length (short_body v) = (body_short v (body_in_range v h.0 h.1)).1 in
      let number : length h.0 ≡ size * count_of_values v = body_length v h.0 h.1 ∙ mul_comm (count_of_values v) size in
      let outer = framed_shorter (format_of_values v) (length h.0) h.0 octets (short_body v) h.2 (omega (arith, least, number)) in
      (outer.0, ap (λ n. framed (format_of_values v) n (short_body v)) (sym number) ∙ outer.1, outer.2)

  elements_shorter : (es : Elements) (octets : List ℕ) → AllEncoded es octets → (least : List ℕ) × (short_elements es ≡ Some least) × (length least ≤ length octets)
  elements_shorter no_elements octets h = ([], refl, omega arith)
  elements_shorter (element v es) octets h =
      let first = none_shorter v h.0 h.2 in
      let others = elements_shorter es h.1 h.3 in
      (first.0 ++ others.0, rw (first.1, others.1) refl, omega (arith, first.2, others.2, length-append first.0 others.0, length-append h.0 h.1, ap length h.4))
