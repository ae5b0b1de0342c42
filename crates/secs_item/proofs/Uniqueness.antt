-- The laws of encodings.
use Rattle.std.proofs.Common.{◌≡◌, ℕ, ℤ, ◌*◌, ◌^◌, ◌<◌, ◌≤◌, max, Bool, true, false, ltb, cond, List, [], ◌∷◌, ◌++◌, length, take, Option, Some, None, Result, Ok, Err, refl, sym, ap, ◌∙◌, arith, inl, inr}
use Rattle.std.specs.Prelude.{◌⊎◌, FitsSigned, option_and_then}
use Rattle.std.specs.List.{flat_map, AllByRecursion}
use Rattle.std.specs.Int.{Width, w8, w16, w32, w64}
use Rattle.std.proofs.Math.Nat.{mul_comm}
use Rattle.std.proofs.lemmas.Bool.{ltb-true}
use Rattle.std.proofs.lemmas.List.{length-append, take_at}
use Rattle.std.proofs.lemmas.List.Concat.{flat_map-cons}
use Rattle.byteorder.specs.Endian.{big_bytes, big_number}
use Rattle.secs_item.specs.declared.format.Format.{Format}
use Rattle.secs_item.specs.declared.format.Format.TheVariants as format
use Rattle.secs_item.specs.Format.{value_size}
use Rattle.secs_item.specs.Item.{Value, list, values, Values, binary, boolean, ascii, jis8, char2, i1, i2, i4, i8, u1, u2, u4, u8, f4, f8, Elements, no_elements, element, count, nest, ValuesInRange, InRange, ElementsInRange, count_of_values, format_of_values}
use Rattle.secs_item.specs.Header.{Reason}
use Rattle.secs_item.specs.Encoding.{IsOctets, InOrder, Octet, Truth, Signed, Unsigned, Unread, Body, header, Framed, EncodesTo, AllEncoded, IsAtFront}
use Rattle.secs_item.specs.ShortestEncoding.{octet_alone, octet_of_truth, octets_of_signed, unread, short_body, field_of, framed, short, short_elements}
use Rattle.secs_item.specs.Fault.{Faults}
use Rattle.secs_item.specs.Decoding.{octet, truth, signed, unread as unread_of}
use Rattle.secs_item.specs.InnerDecoding.{Fault, item_at}
use Rattle.secs_item.proofs.Octets.{IsOctets-nil, IsOctets-cons}
use Rattle.secs_item.proofs.Codecs.{IsCodec, octets_codec, truth_codec, signed_codec, unsigned_codec, unread_codec}
use Rattle.secs_item.proofs.Bodies.{in_order_length}
use Rattle.secs_item.proofs.Determinism.{item_reads}
use Rattle.secs_item.proofs.Faults.{fault, fault_found, fault_read}
use Rattle.secs_item.proofs.ShortestEncodings.{both_short}
use Rattle.secs_item.proofs.Prefixes.{front_found, front_read}

-- ---- one encoding

pub same_front : (v w : Value) (a b x y : List ℕ) → EncodesTo v a → EncodesTo w b → a ++ x ≡ b ++ y → (v ≡ w) × (a ≡ b)
same_front v w a b x y sv sw e =
    let depth = max (nest v) (nest w) in
    let same : ◌≡◌ {A = Result (Value × ℕ) Fault} (Ok (v, length a)) (Ok (w, length b)) =
    sym (item_reads v depth a x sv (omega arith)) ∙ ap (item_at depth) e ∙ item_reads w depth b y sw (omega arith) in
    let pair : ◌≡◌ {A = Value × ℕ} (v, length a) (w, length b) = cc in
    let len : length a ≡ length b = ap (λ (p : Value × ℕ). p.1) pair in
    (ap (λ (p : Value × ℕ). p.0) pair, sym (take_at a x (length a) refl) ∙ ap (take (length a)) e ∙ take_at b y (length a) (sym len))

-- ---- one result

pub some_answer : (depth : ℕ) (octets : List ℕ) → IsOctets octets → ((v : Value) × (n : ℕ) × IsAtFront depth octets v n) ⊎ ((at : ℕ) × (reason : Reason) × Faults depth octets at reason)
some_answer depth octets h = by_reading (item_at depth octets) refl
  where
    by_reading : (r : Result (Value × ℕ) Fault) → item_at depth octets ≡ r → ((v : Value) × (n : ℕ) × IsAtFront depth octets v n) ⊎ ((at : ℕ) × (reason : Reason) × Faults depth octets at reason)
    by_reading (Ok x) e = inl (x.0, x.1, front_found depth octets x.0 x.1 h e)
    by_reading (Err f) e = inr (f.at, f.reason, fault_found depth octets f h e)

pub one_fault_of : (depth : ℕ) (octets : List ℕ) (at place : ℕ) (reason cause : Reason) → Faults depth octets at reason → Faults depth octets place cause → (at ≡ place) × (reason ≡ cause)
one_fault_of depth octets at place reason cause a b =
    let same : ◌≡◌ {A = Result (Value × ℕ) Fault} (Err (fault at reason)) (Err (fault place cause)) = sym (fault_read depth octets at reason a) ∙ fault_read depth octets place cause b in
    let one : fault at reason ≡ fault place cause = cc in
    (ap (λ (f : Fault). f.at) one, ap (λ (f : Fault). f.reason) one)

pub not_both_of : (depth : ℕ) (octets : List ℕ) (v : Value) (n at : ℕ) (reason : Reason) → IsAtFront depth octets v n → Faults depth octets at reason → ⊥
not_both_of depth octets v n at reason a b =
    let same : ◌≡◌ {A = Result (Value × ℕ) Fault} (Ok (v, n)) (Err (fault at reason)) = sym (front_read depth octets v n a) ∙ fault_read depth octets at reason b in
    cc

-- ---- the shortest encoding is an encoding

octet_fits : (n : ℕ) → n < 256 → Octet n (octet_alone n)
octet_fits n lt = (lt, refl)

truth_fits : (b : Bool) → Unit {0} → Truth b (octet_of_truth b)
truth_fits true h = (1, omega arith, refl, refl)
truth_fits false h = (0, omega arith, refl, refl)

signed_fits : (width : Width) (z : ℤ) → FitsSigned width z → Signed width z (octets_of_signed width z)
signed_fits width z h = (h, refl)

unsigned_fits : (size n : ℕ) → n < 256 ^ size → Unsigned size n (big_bytes size n)
unsigned_fits size n h = (h, refl)

octets_all : (xs : List ℕ) → AllByRecursion (λ n. n < 256) xs → IsOctets xs
octets_all [] h = IsOctets-nil
octets_all (x ∷ xs) h = IsOctets-cons x xs h.0 (octets_all xs h.1)

unread_fits : (size : ℕ) (x : List ℕ) → (length x ≡ size) × AllByRecursion (λ n. n < 256) x → Unread size x (unread x)
unread_fits size x h = (h.0, octets_all x h.1, refl)

in_order : {X : Type 0} (One : X → List ℕ → Type 0) (octets_of : X → List ℕ) (Fits : X → Type 0) → ((x : X) → Fits x → One x (octets_of x)) → (xs : List X) → AllByRecursion Fits xs → InOrder One xs (flat_map octets_of xs)
in_order One octets_of Fits fits [] h = refl
in_order One octets_of Fits fits (x ∷ xs) h = (octets_of x, flat_map octets_of xs, fits x h.0, in_order One octets_of Fits fits xs h.1, flat_map-cons octets_of x xs)

short_values : {X : Type 0} (One : X → List ℕ → Type 0) (size : ℕ) (read : List ℕ → X) (octets_of : X → List ℕ) (Fits : X → Type 0) → IsCodec One size read → ((x : X) → Fits x → One x (octets_of x)) → (xs : List X) → AllByRecursion Fits xs
    → InOrder One xs (flat_map octets_of xs) × (size * length xs ≡ length (flat_map octets_of xs))
short_values One size read octets_of Fits codec fits xs h =
    let encoded_bytes = in_order One octets_of Fits fits xs h in
    (encoded_bytes, mul_comm size (length xs) ∙ sym (in_order_length One size read codec xs (flat_map octets_of xs) encoded_bytes))

pub body_short : (v : Values) → ValuesInRange v → Body v (short_body v) × (value_size (format_of_values v) * count_of_values v ≡ length (short_body v))
body_short (binary xs) h = short_values Octet 1 octet octet_alone (λ n. n < 256) octets_codec octet_fits xs h
body_short (boolean xs) h = short_values Truth 1 truth octet_of_truth (λ truth. Unit {0}) truth_codec truth_fits xs h
body_short (ascii xs) h = short_values Octet 1 octet octet_alone (λ n. n < 256) octets_codec octet_fits xs h
body_short (jis8 xs) h = short_values Octet 1 octet octet_alone (λ n. n < 256) octets_codec octet_fits xs h
body_short (char2 xs) h = short_values Octet 1 octet octet_alone (λ n. n < 256) octets_codec octet_fits xs h
body_short (i1 xs) h = short_values (Signed w8) 1 (signed w8) (octets_of_signed w8) (FitsSigned w8) (signed_codec w8 refl) (signed_fits w8) xs h
body_short (i2 xs) h = short_values (Signed w16) 2 (signed w16) (octets_of_signed w16) (FitsSigned w16) (signed_codec w16 refl) (signed_fits w16) xs h
body_short (i4 xs) h = short_values (Signed w32) 4 (signed w32) (octets_of_signed w32) (FitsSigned w32) (signed_codec w32 refl) (signed_fits w32) xs h
body_short (i8 xs) h = short_values (Signed w64) 8 (signed w64) (octets_of_signed w64) (FitsSigned w64) (signed_codec w64 refl) (signed_fits w64) xs h
body_short (u1 xs) h = short_values Octet 1 octet octet_alone (λ n. n < 256) octets_codec octet_fits xs h
body_short (u2 xs) h = short_values (Unsigned 2) 2 (big_number 2) (big_bytes 2) (λ n. n < 256 ^ 2) (unsigned_codec 2) (unsigned_fits 2) xs h
body_short (u4 xs) h = short_values (Unsigned 4) 4 (big_number 4) (big_bytes 4) (λ n. n < 256 ^ 4) (unsigned_codec 4) (unsigned_fits 4) xs h
body_short (u8 xs) h = short_values (Unsigned 8) 8 (big_number 8) (big_bytes 8) (λ n. n < 256 ^ 8) (unsigned_codec 8) (unsigned_fits 8) xs h
body_short (f4 xs) h = short_values (Unread 4) 4 unread_of unread (λ float. (length float ≡ 4) × AllByRecursion (λ n. n < 256) float) (unread_codec 4) (unread_fits 4) xs h
body_short (f8 xs) h = short_values (Unread 8) 8 unread_of unread (λ float. (length float ≡ 8) × AllByRecursion (λ n. n < 256) float) (unread_codec 8) (unread_fits 8) xs h

-- The number of length bytes in the shortest encoding.
record IsField (number field : ℕ) : Type 0 where
  pub some : 1 ≤ field
  pub few : field ≤ 3
  pub fits : number < 256 ^ field

field_by : (number : ℕ) (one two : Bool) → ltb number 256 ≡ one → ltb number (256 ^ 2) ≡ two → number < 256 ^ 3 → IsField number (cond one 1 (cond two 2 3))
field_by number true two e f lt = record { some = omega arith; few = omega arith; fits = ltb-true number 256 e }
field_by number false true e f lt = record { some = omega arith; few = omega arith; fits = ltb-true number (256 ^ 2) f }
field_by number false false e f lt = record { some = omega arith; few = omega arith; fits = lt }

framed_some : (f : Format) (number : ℕ) (body octets : List ℕ) (b : Bool) → ltb number (256 ^ 3) ≡ b → cond b (Some (header f (field_of number) number ++ body)) None ≡ Some octets → Framed f number body octets
framed_some f number body octets false t e = absurd cc
framed_some f number body octets true t e =
    let is = field_by number (ltb number 256) (ltb number (256 ^ 2)) refl refl (ltb-true number (256 ^ 3) t) in
    record { field = field_of number; one_at_least = is.some; three_at_most = is.few; fits = is.fits; parts = sym cc }

framed_by : (f : Format) (number : ℕ) (body octets : List ℕ) → framed f number body ≡ Some octets → Framed f number body octets
framed_by f number body octets e = framed_some f number body octets (ltb number (256 ^ 3)) refl e

then_some : {A B : Type 0} (f : A → Option B) (o : Option A) (y : B) → option_and_then f o ≡ Some y → (x : A) × (o ≡ Some x) × (f x ≡ Some y)
then_some f None y e = absurd cc
then_some f (Some x) y e = (x, refl, e)

mutual
  pub short_encodes : (v : Value) (octets : List ℕ) → InRange v → short v ≡ Some octets → EncodesTo v octets
  short_encodes (list es) octets h e =
      let p = then_some (λ body. framed format.List (count es) body) (short_elements es) octets e in
      (p.0, elements_encode es p.0 h p.1, framed_by format.List (count es) p.0 octets p.2)
  short_encodes (values v) octets h e =
      let p = body_short v h in
      (short_body v, p.0, framed_by (format_of_values v) (length (short_body v)) (short_body v) octets (ap (λ (n : ℕ). framed (format_of_values v) n (short_body v)) (sym p.1) ∙ e))

  pub elements_encode : (es : Elements) (octets : List ℕ) → ElementsInRange es → short_elements es ≡ Some octets → AllEncoded es octets
  elements_encode no_elements octets h e = sym cc
  elements_encode (element v es) octets h e =
      let p = both_short (short v) (short_elements es) octets e in
      (p.0, p.1, short_encodes v p.0 h.0 p.2, elements_encode es p.1 h.1 p.3, p.4)

pub short_front : (v : Value) (octets rest : List ℕ) (depth : ℕ) → InRange v → short v ≡ Some octets → nest v ≤ depth → IsAtFront depth (octets ++ rest) v (length octets)
short_front v octets rest depth h e deep = record {
  within = omega (arith, length-append octets rest);
  encodes_to = rw (take_at octets rest (length octets) refl) (short_encodes v octets h e);
  nesting = deep;
}
