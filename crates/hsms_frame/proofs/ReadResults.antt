-- The results of a read, by where it stops.
use Rattle.std.proofs.Common.{◌≡◌, ◌≢◌, ◌≤◌, ◌<◌, ◌+◌, ◌-◌, ℕ, List, [], length, take, drop, Some, Ok, Err, refl, ◌^◌, sym, ◌∙◌, ap, subst, arith}
use Rattle.std.specs.Prelude.{Option}
use Rattle.std.proofs.lemmas.List.{length-drop, drop-drop, length-take-le, take-append-drop, take-append-le}
use Rattle.std.proofs.Math.Seq.{take-add}
use Rattle.std.specs.Int.{w32, from_be_bytes}
use Rattle.hsms_frame.specs.declared.header.Header.{Header}
use Rattle.hsms_frame.specs.declared.fault.ReadFault.{ReadFault}
use Rattle.hsms_frame.specs.declared.fault.ReadFault.TheVariants.{TooShort, TooLong, Memory, CutOff, Read}
use Rattle.hsms_frame.specs.Header.{header_octets, IsHeader}
use Rattle.hsms_frame.specs.Frame.{IsOctets, length_field, IsTooShort, IsTooLong}
use Rattle.hsms_frame.specs.Reading.{ReadsAs, StopsWithin}
use Rattle.hsms_frame.specs.InnerReading.{TakesFront, TakesLength}
use Rattle.hsms_frame.proofs.Octets.{IsOctets-parts, IsOctets-append}
use Rattle.hsms_frame.proofs.FramedMessages.{subsequent, length-subsequent, encodes_to, cut_within, cut_early, faultless}

pub subsequent-drop : (input : List ℕ) → subsequent input ≡ drop 14 input
subsequent-drop input = drop-drop 10 4 input

pub nonempty : (input : List ℕ) → 0 < length input → input ≢ []
nonempty input some none = let size : length input ≡ 0 = ap length none in absurd (omega arith)

-- A prefix was taken that has the length field and ends before the end of the message.
stops_within : (max : ℕ) (input : List ℕ) (n : ℕ) (left : Option (List ℕ)) → 4 ≤ n → n ≤ length input → IsOctets (take n input)
    → 10 ≤ length_field input → (14 ≤ n → length_field input ≤ max) → n < 4 + length_field input → left ≡ Some (drop n input)
    → StopsWithin max input left
stops_within max input n left there within fits enough small short known_input =
    let taken : List ℕ = take n input in
    let size : length taken ≡ n = length-take-le n input within in
    let field : length_field taken ≡ length_field input =
    ap (λ x. from_be_bytes w32 x) (sym (take-append-le 4 taken (drop n input) (omega arith)) ∙ ap (λ x. take 4 x) (take-append-drop n input)) in (
      taken,
      drop n input,
      sym (take-append-drop n input),
      known_input,
      faultless max taken (λ _. omega arith) (λ full. let most : length_field input ≤ max = small (omega arith) in omega arith),
      cut_within taken fits (omega arith) (omega arith) (omega arith),
    )

-- The two parts at the front are bytes.
front_fits : (n k : ℕ) (input : List ℕ) → IsOctets (take n input) → IsOctets (take k (drop n input)) → IsOctets (take (n + k) input)
front_fits n k input a b =
    let P : List ℕ → Type 0 = λ xs. IsOctets xs in
    subst P (sym (take-add n k input)) (IsOctets-append (take n input) (take k (drop n input)) a b)

-- The input ends in the length field.
pub cut_at_length : (max : ℕ) (input : List ℕ) (e : ReadFault) (left : Option (List ℕ))
    → TakesLength input (Err e) left → ReadsAs max input (Err e) left
cut_at_length max input CutOff left h = (
  nonempty input h.0,
  faultless max input (λ there. let few : length input < 4 = h.1 in absurd (omega arith)) (λ there. let few : length input < 4 = h.1 in absurd (omega arith)),
  cut_early input h.2 h.1,
  h.3,
)
cut_at_length max input Read left (n, less, within, fits, known_input) =
    let size : length (take n input) ≡ n = length-take-le n input within in (
      take n input,
      drop n input,
      sym (take-append-drop n input),
      known_input,
      faultless max (take n input) (λ there. absurd (omega arith)) (λ there. absurd (omega arith)),
      cut_early (take n input) fits (omega arith),
    )
cut_at_length max input Memory left h = absurd h
cut_at_length max input (TooShort n) left h = absurd h
cut_at_length max input (TooLong n k) left h = absurd h

-- The input ends in the header.
pub cut_at_header : {T : Type 0} (view : T → List ℕ) (max : ℕ) (input : List ℕ) (e : ReadFault) (left : Option (List ℕ))
    → 4 ≤ length input → 10 ≤ length_field input → IsOctets (take 4 input) → (e ≡ Memory → ⊥)
    → TakesFront view 10 (drop 4 input) (Err e) left → ReadsAs max input (Err e) left
cut_at_header view max input CutOff left there enough fits ample h =
    let few : length (drop 4 input) < 10 = h.0 in
    let size : length (drop 4 input) ≡ length input - 4 = length-drop 4 input in (
      nonempty input (omega arith),
      faultless max input (λ _. enough) (λ full. absurd (omega arith)),
      cut_within input (IsOctets-parts 4 input fits h.1) there enough (omega arith),
      h.2,
    )
cut_at_header view max input Read left there enough fits ample (n, less, within, header_fits, known_input) =
    stops_within max input (4 + n) left (omega arith) (omega (arith, length-drop 4 input, within)) (front_fits 4 n input fits header_fits) enough
    (λ full. absurd (omega arith)) (omega arith) (known_input ∙ ap Some (drop-drop n 4 input))
cut_at_header view max input Memory left there enough fits ample h = absurd (ample refl)
cut_at_header view max input (TooShort n) left there enough fits ample h = absurd h
cut_at_header view max input (TooLong n k) left there enough fits ample h = absurd h

-- The input ends in the text, or its allocation fails.
pub cut_at_text : {T : Type 0} (view : T → List ℕ) (max : ℕ) (input : List ℕ) (n : ℕ) (e : ReadFault) (left : Option (List ℕ))
    → 14 ≤ length input → n ≡ length_field input → 10 ≤ n → n ≤ max → IsOctets (take 4 input) → IsOctets (take 10 (drop 4 input))
    → TakesFront view (n - 10) (subsequent input) (Err e) left → ReadsAs max input (Err e) left
cut_at_text view max input n CutOff left there field enough within fits header_fits h =
    let few : length (subsequent input) < n - 10 = h.0 in
    let size : length (subsequent input) ≡ length input - 14 = length-subsequent input in (
      nonempty input (omega arith),
      faultless max input (λ _. omega arith) (λ _. omega arith),
      cut_within input (IsOctets-parts 4 input fits (IsOctets-parts 10 (drop 4 input) header_fits h.1)) (omega arith) (omega arith) (omega arith),
      h.2,
    )
cut_at_text view max input n Read left there field enough within fits header_fits (k, less, there_too, text_fits, known_input) =
    let P : List ℕ → Type 0 = λ xs. IsOctets xs in
    let header : IsOctets (take 14 input) = front_fits 4 10 input fits header_fits in
    let text : IsOctets (take k (drop 14 input)) = subst P (ap (λ xs. take k xs) (subsequent-drop input)) text_fits in
    stops_within max input (14 + k) left (omega arith) (omega (arith, length-subsequent input, there_too)) (front_fits 14 k input header text) (omega arith)
    (λ _. omega arith) (omega arith) (known_input ∙ ap (λ xs. Some (drop k xs)) (subsequent-drop input) ∙ ap Some (drop-drop k 14 input))
cut_at_text view max input n Memory left there field enough within fits header_fits (some, known_input) =
    let reported_as : left ≡ Some (drop 14 input) = known_input ∙ ap Some (subsequent-drop input) in (
      there,
      reported_as,
      stops_within max input 14 left (omega arith) there (front_fits 4 10 input fits header_fits) (omega arith) (λ _. omega arith) (omega arith) reported_as,
    )
cut_at_text view max input n (TooShort m) left there field enough within fits header_fits h = absurd h
cut_at_text view max input n (TooLong m k) left there field enough within fits header_fits h = absurd h

-- The length field is too small.
pub too_short : (input : List ℕ) (n : ℕ) → 4 ≤ length input → n ≡ length_field input → n < 10 → IsTooShort input n
too_short input n there field short = record { there = there; field = field; short = short }

-- The length field exceeds the limit.
pub too_long : (max : ℕ) (input : List ℕ) (n : ℕ) (h : Header) → 14 ≤ length input → n ≡ length_field input
    → header_octets h ≡ take 10 (drop 4 input) → IsHeader h → 10 ≤ n → max < n → IsTooLong max input n h
too_long max input n h there field header fits enough long = record {
  there = there;
  field = field;
  header = sym header;
  header_fits = fits;
  enough = enough;
  long = long;
}

-- There is a message.
pub read_whole : (max : ℕ) (input text : List ℕ) (n : ℕ) (h : Header) (left : Option (List ℕ)) → 14 ≤ length input
    → n ≡ length_field input → 10 ≤ n → n ≤ max → n < 2 ^ 32 → IsOctets (take 4 input) → header_octets h ≡ take 10 (drop 4 input) → IsHeader h
    → TakesFront (λ t. t) (n - 10) (subsequent input) (Ok text) left
    → ReadsAs max input (Ok (Some (record { header = h; text = text }))) left
read_whole max input text n h left there field enough within bound fits header header_fits h' =
    let size : length text ≡ n - 10 = ap length h'.1 ∙ length-take-le (n - 10) (subsequent input) h'.0 in
    let front : text ≡ take (length text) (subsequent input) = h'.1 ∙ ap (λ k. take k (subsequent input)) (sym size) in (
      drop (length text) (subsequent input),
      encodes_to input text h there fits (omega arith) (sym header) front,
      h'.3 ∙ ap (λ k. Some (drop k (subsequent input))) (sym size),
      record { header = header_fits; text = h'.2; size = omega arith },
      omega arith,
    )
