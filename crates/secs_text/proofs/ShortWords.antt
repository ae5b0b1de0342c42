-- Words of values that are single bytes, each after a space, and runs of such words.
use Rattle.std.proofs.Common.{◌≡◌, ℕ, zero, suc, ◌+◌, ◌*◌, ◌/◌, ◌%◌, ◌^◌, ◌<◌, ◌≤◌, Bool, true, false, ◌&&◌, ◌||◌, List, [], ◌∷◌, ◌++◌, length, drop, take, get_or, refl, sym, ap, ◌∙◌, subst, arith, if◌then◌else◌, append_assoc, append-nil, length-append}
use Rattle.std.specs.Simd.{first_chunks}
use Rattle.std.specs.Prelude.{Option, Some, None, IfSome, option_map, nat_le, ◌-◌, ◌==◌}
use Rattle.std.proofs.Math.Nat.{le-div_iff_mul-le}
use Rattle.std.proofs.lemmas.Bool.{leb-true, le-leb}
use Rattle.std.proofs.lemmas.List.{drop-drop, take_more, length-take-le, get_or-drop}
use Rattle.secs_item.specs.declared.format.Format.{Format}
use Rattle.secs_item.specs.Format.{value_size}
use Rattle.secs_item.specs.ShortestEncoding.{octet_alone, octet_of_truth}
use Rattle.secs_text.specs.InnerCanonicalTokens.{EndsWord}
use Rattle.secs_text.specs.Octets.{is_of_word, is_digit, is_letter}
use Rattle.secs_text.specs.ParserStates.{Count}
use Rattle.secs_text.specs.InnerByteWord.{IsShortWord, AreShortWords}
use Rattle.secs_text.specs.InnerEncodedText.{word_octets, AppendsBytes, Collected}
use Rattle.secs_text.specs.Token as math
use Rattle.secs_text.specs.Token.{Placed, tokens_from}
use Rattle.secs_text.specs.Words.{octet_of, octets_of, octet_of_digits, octet_from, hex_digit, truth_of}
use Rattle.secs_text.proofs.CanonicalTokenLists.{white_here, ends_of}
use Rattle.secs_text.proofs.Prefixes.{both}
use Rattle.secs_text.proofs.ParsingValues.{word_collected}
use Rattle.secs_text.proofs.Tokenized.{word_here, drop_front}

-- A byte in a range of upper-case letters is an upper-case letter.
letter_of : (c first last : ℕ) → 0x41 ≤ first → last ≤ 0x5A → nat_le first c && nat_le c last ≡ true → nat_le 0x41 c && nat_le c 0x5A ≡ true
letter_of c first last from to e =
    let parts = both (nat_le first c) (nat_le c last) e in
    let one = leb-true first c parts.0 in
    let two = leb-true c last parts.1 in
    let lower : nat_le 0x41 c ≡ true = le-leb 0x41 c (omega arith) in
    let upper : nat_le c 0x5A ≡ true = le-leb c 0x5A (omega arith) in
    rw (lower, upper) refl

small_of : (c first last : ℕ) → 0x61 ≤ first → last ≤ 0x7A → nat_le first c && nat_le c last ≡ true → nat_le 0x61 c && nat_le c 0x7A ≡ true
small_of c first last from to e =
    let parts = both (nat_le first c) (nat_le c last) e in
    let one = leb-true first c parts.0 in
    let two = leb-true c last parts.1 in
    let lower : nat_le 0x61 c ≡ true = le-leb 0x61 c (omega arith) in
    let upper : nat_le c 0x7A ≡ true = le-leb c 0x7A (omega arith) in
    rw (lower, upper) refl

or_true : (a : Bool) → a || true ≡ true
or_true true = refl
or_true false = refl

by_kind : (c n : ℕ) (d u l : Bool) → is_digit c ≡ d → nat_le 0x41 c && nat_le c 0x46 ≡ u → nat_le 0x61 c && nat_le c 0x66 ≡ l
    → (if d then Some (c - 0x30) else (if u then Some (c - 0x37) else (if l then Some (c - 0x57) else None))) ≡ Some n → is_of_word c ≡ true
by_kind c n true u l digit upper lower e = ap (λ t. (t || is_letter c) || (c == 0x2D)) digit
by_kind c n false true l digit upper lower e =
    let letter : is_letter c ≡ true = ap (λ t. t || (nat_le 0x61 c && nat_le c 0x7A)) (letter_of c 0x41 0x46 (omega arith) (omega arith) upper) in
    ap (λ t. (t || is_letter c) || (c == 0x2D)) digit ∙ ap (λ t. t || (c == 0x2D)) letter
by_kind c n false false true digit upper lower e =
    let letter : is_letter c ≡ true = ap (λ t. (nat_le 0x41 c && nat_le c 0x5A) || t) (small_of c 0x61 0x66 (omega arith) (omega arith) lower) ∙ or_true (nat_le 0x41 c && nat_le c 0x5A) in
    ap (λ t. (t || is_letter c) || (c == 0x2D)) digit ∙ ap (λ t. t || (c == 0x2D)) letter
by_kind c n false false false digit upper lower e = cc

digit_of_word : (c n : ℕ) → hex_digit c ≡ Some n → is_of_word c ≡ true
digit_of_word c n e = by_kind c n (is_digit c) (nat_le 0x41 c && nat_le c 0x46) (nat_le 0x61 c && nat_le c 0x66) refl refl refl e

two_digits : (a b : Option ℕ) (octet : ℕ) → octet_from a b ≡ Some octet → (x y : ℕ) × (a ≡ Some x) × (b ≡ Some y)
two_digits (Some x) (Some y) octet e = (x, y, refl, refl)
two_digits (Some x) None octet e = cc
two_digits None b octet e = cc

encodes_to : (high low octet : ℕ) → octet_of_digits high low ≡ Some octet → octet_of (0x30 ∷ 0x78 ∷ high ∷ low ∷ []) ≡ Some octet
unfolding octet_of octets_of
encodes_to high low octet e = rw e refl

-- ---- one word

five_of : (o : List ℕ) → length o ≡ 5 → o ≡ get_or o 0 0 ∷ get_or o 1 0 ∷ get_or o 2 0 ∷ get_or o 3 0 ∷ get_or o 4 0 ∷ []
five_of [] e = absurd (omega arith)
five_of (a ∷ []) e = absurd (omega arith)
five_of (a ∷ b ∷ []) e = absurd (omega arith)
five_of (a ∷ b ∷ c ∷ []) e = absurd (omega arith)
five_of (a ∷ b ∷ c ∷ d ∷ []) e = absurd (omega arith)
five_of (a ∷ b ∷ c ∷ d ∷ f ∷ []) e = refl
five_of (a ∷ b ∷ c ∷ d ∷ f ∷ g ∷ o) e = absurd (omega arith)

two_of : (o : List ℕ) → length o ≡ 2 → o ≡ get_or o 0 0 ∷ get_or o 1 0 ∷ []
two_of [] e = absurd (omega arith)
two_of (a ∷ []) e = absurd (omega arith)
two_of (a ∷ b ∷ []) e = refl
two_of (a ∷ b ∷ c ∷ o) e = absurd (omega arith)

pub octet_short : (text : List ℕ) (octet : ℕ) → length text ≡ 5 → get_or text 0 0 ≡ 0x20 → get_or text 1 0 ≡ 0x30 → get_or text 2 0 ≡ 0x78 → octet_of_digits (get_or text 3 0) (get_or text 4 0) ≡ Some octet
    → IsShortWord (λ w. option_map octet_alone (octet_of w)) octet text
octet_short text octet long space zero_is x_is e =
    let high = get_or text 3 0 in
    let low = get_or text 4 0 in
    let d = two_digits (hex_digit high) (hex_digit low) octet e in
    let first = digit_of_word high d.0 d.2 in
    let second = digit_of_word low d.1 d.3 in
    record {
      word = 0x30 ∷ 0x78 ∷ high ∷ low ∷ [];
      is_word = record { some = omega arith; all = rw (first, second) refl };
      encodes_to = ap (option_map octet_alone) (encodes_to high low octet e);
      parts = five_of text long ∙ rw (space, zero_is, x_is) refl;
    }

pub octet_short_if : (text : List ℕ) (r : Option ℕ) → length text ≡ 5 → get_or text 0 0 ≡ 0x20 → get_or text 1 0 ≡ 0x30 → get_or text 2 0 ≡ 0x78 → r ≡ octet_of_digits (get_or text 3 0) (get_or text 4 0)
    → IfSome r (λ octet. IsShortWord (λ w. option_map octet_alone (octet_of w)) octet text)
octet_short_if text None long space zero_is x_is e = tt
octet_short_if text (Some octet) long space zero_is x_is e = octet_short text octet long space zero_is x_is (sym e)

pub truth_short : (text : List ℕ) (letter octet : ℕ) → length text ≡ 2 → get_or text 0 0 ≡ 0x20 → get_or text 1 0 ≡ letter → is_of_word letter ≡ true
    → option_map octet_of_truth (truth_of (letter ∷ [])) ≡ Some (octet ∷ []) → IsShortWord (λ w. option_map octet_of_truth (truth_of w)) octet text
truth_short text letter octet long space letter_is is e = record {
  word = letter ∷ [];
  is_word = record { some = omega arith; all = rw is refl };
  encodes_to = e;
  parts = two_of text long ∙ rw (space, letter_is) refl;
}

pub t_encodes : option_map octet_of_truth (truth_of (0x54 ∷ [])) ≡ Some (1 ∷ [])
unfolding truth_of
t_encodes = refl

pub f_encodes : option_map octet_of_truth (truth_of (0x46 ∷ [])) ≡ Some (0 ∷ [])
unfolding truth_of
f_encodes = refl

-- If at most one byte remains of four bytes after the space, the zero and the `x` are subtracted, the first three bytes
-- are these.
pub front_of_word : (a b c d n left : ℕ) → a < 256 → b < 256 → c < 256 → d < 256 → n ≡ a * 16777216 + b * 65536 + c * 256 + d → left ≡ (n + (2 ^ 32 - 0x20307800)) % 2 ^ 32 → left ≤ 255
    → (a ≡ 0x20) × (b ≡ 0x30) × (c ≡ 0x78) × (left ≡ d)
front_of_word a b c d n left first second third fourth is rest small =
    let sum : n ≡ 0x20307800 + left = omega (arith, first, second, third, fourth, is, rest, small) in
    let space : a ≡ 0x20 = omega (arith, first, second, third, fourth, is, sum, small) in
    let zero_is : b ≡ 0x30 = omega (arith, second, third, fourth, is, sum, small, space) in
    let x_is : c ≡ 0x78 = omega (arith, third, fourth, is, sum, small, space, zero_is) in
    (space, zero_is, x_is, omega (arith, is, sum, space, zero_is, x_is))

-- ---- runs of words

times_more : (size n : ℕ) → size * suc n ≡ size + size * n
times_more size n = grind arith

pub times_next : (size n : ℕ) → size * (n + 1) ≡ size * n + size
times_next size n = grind arith

-- One of the parts of a text, which have `size` bytes each.
pub part_at : (size k : ℕ) (text d : List ℕ) (i : ℕ) → i < k → get_or (first_chunks size k text) i d ≡ take size (drop (size * i) text)
part_at size zero text d i less = absurd (omega arith)
part_at size (suc k) text d zero less = let none : 0 ≡ size * 0 = omega arith in ap (λ n. take size (drop n text)) none
part_at size (suc k) text d (suc i) less =
    part_at size k (drop size text) d i (omega arith)
    ∙ ap (take size) (drop-drop (size * i) size text ∙ ap (λ n. drop n text) (sym (times_more size i)))

-- The part after `i` parts is within the text.
pub part_within : (size i n : ℕ) → 0 < size → i < n / size → size * i + size ≤ n
part_within size i n some less =
    let h : (i + 1) * size ≤ n = (le-div_iff_mul-le some).0 (omega arith) in
    let same : (i + 1) * size ≡ size * i + size = grind arith in
    omega (arith, h, same)

-- The first `i` parts are within the text.
pub parts_within : (size i n : ℕ) → 0 < size → i ≤ n / size → size * i ≤ n
parts_within size i n some less =
    let h : i * size ≤ n = (le-div_iff_mul-le some).0 less in
    let same : i * size ≡ size * i = grind arith in
    omega (arith, h, same)

module _ (reads : List ℕ → Option (List ℕ)) (size : ℕ) where
  -- One more word.
  pub words_more : (os : List ℕ) (o : ℕ) (text rest first after : List ℕ) → AreShortWords reads size os text rest → IsShortWord reads o first → length first ≡ size → rest ≡ first ++ after
      → AreShortWords reads size (os ++ o ∷ []) text after
  words_more [] o text rest first after h is sized parts = (first, after, is, sized, h ∙ parts, refl)
  words_more (p ∷ os) o text rest first after h is sized parts = (h.0, h.1, h.2, h.3, h.4, words_more os o h.1 rest first after h.5 is sized parts)

  space_ends : (o : ℕ) (first after text : List ℕ) → IsShortWord reads o first → text ≡ first ++ after → EndsWord text
  space_ends o first after text is parts = subst (λ t. EndsWord t) (sym (parts ∙ ap (λ f. f ++ after) is.parts)) refl

  -- A space precedes each word.
  ends_before : (os text rest : List ℕ) → AreShortWords reads size os text rest → EndsWord rest → EndsWord text
  ends_before [] text rest h ends = subst (λ t. EndsWord t) (sym h) ends
  ends_before (o ∷ os) text rest h ends = space_ends o h.0 h.1 text h.2 h.4

  -- All words except the last one.
  pub words_less : (os : List ℕ) (o : ℕ) (text rest : List ℕ) → AreShortWords reads size (os ++ o ∷ []) text rest
      → AreShortWords reads size os text (drop (size * length os) text) × EndsWord (drop (size * length os) text)
  words_less [] o text rest h =
      let none : size * 0 ≡ 0 = omega arith in
      (ap (λ k. drop k text) (sym none), subst (λ k. EndsWord (drop k text)) (sym none) (space_ends o h.0 h.1 text h.2 h.4))
  words_less (p ∷ os) o text rest h =
      let less = words_less os o h.1 rest h.5 in
      let subsequent : drop (size * suc (length os)) text ≡ drop (size * length os) h.1 =
      ap (λ k. drop k text) (times_more size (length os)) ∙ sym (drop-drop (size * length os) size text)
      ∙ ap (drop (size * length os)) (ap (λ t. drop size t) h.4 ∙ ap (λ k. drop k (h.0 ++ h.1)) (sym h.3) ∙ drop_front h.0 h.1) in
      ((h.0, h.1, h.2, h.3, h.4, subst (λ r. AreShortWords reads size os h.1 r) (sym subsequent) less.0), subst (λ r. EndsWord r) (sym subsequent) less.1)

  pub all_but_one : (octets : List ℕ) (count : ℕ) (text rest : List ℕ) → 0 < count → count ≤ length octets → AreShortWords reads size (take count octets) text rest
      → AreShortWords reads size (take (count - 1) octets) text (drop (size * (count - 1)) text) × EndsWord (drop (size * (count - 1)) text)
  all_but_one octets count text rest some within h =
      let one : count - 1 + 1 ≡ count = omega arith in
      let split : take count octets ≡ take (count - 1) octets ++ get_or octets (count - 1) 0 ∷ [] = ap (λ k. take k octets) (sym one) ∙ take_more octets (count - 1) 0 (omega arith) in
      let long : length (take (count - 1) octets) ≡ count - 1 = length-take-le (count - 1) octets (omega arith) in
      let less = words_less (take (count - 1) octets) (get_or octets (count - 1) 0) text rest (subst (λ os. AreShortWords reads size os text rest) split h) in (
        subst (λ k. AreShortWords reads size (take (count - 1) octets) text (drop (size * k) text)) long less.0,
        subst (λ k. EndsWord (drop (size * k) text)) long less.1,
      )

-- A word ends if the bytes end, or if the next byte is not allowed in a word.
pub ends_at : (text : List ℕ) (at : ℕ) → is_of_word (get_or text at 0) ≡ false → EndsWord (drop at text)
ends_at text at e = ends_of (drop at text) (ap is_of_word (get_or-drop at text 0 0 ∙ ap (λ k. get_or text k 0) (omega arith)) ∙ e)

-- The values of a run's words are collected.
pub run_collected : (f : Format) (count : Option Count) (first : List Placed) (old : List ℕ) (reads : List ℕ → Option (List ℕ)) (size : ℕ) → ((w : List ℕ) → word_octets f w ≡ reads w) → value_size f ≡ 1
    → (os : List ℕ) (at : ℕ) (text rest new : List ℕ) → AreShortWords reads size os text rest → EndsWord rest → Collected f count first (tokens_from at text) old new
    → Collected f count first (tokens_from (at + size * length os) rest) old (new ++ os)
run_collected f count first old reads size encoded_bytes sized [] at text rest new h ends g =
    let here : at ≡ at + size * 0 = omega arith in
    subst (λ k. Collected f count first (tokens_from k rest) old (new ++ [])) here (subst (λ r. Collected f count first (tokens_from at r) old (new ++ [])) h (subst (λ o. Collected f count first (tokens_from at text) old o) (sym (append-nil new)) g))
run_collected f count first old reads size encoded_bytes sized (o ∷ os) at text rest new h ends g =
    let is = h.2 in
    let w = is.word in
    let after = h.1 in
    let ended = ends_before reads size os after rest h.5 ends in
    let next = at + 1 + length w in
    let parts : tokens_from at text ≡ record { at = at + 1; token = math.word w } ∷ tokens_from next after =
    ap (λ t. tokens_from at t) (h.4 ∙ ap (λ t. t ++ after) is.parts) ∙ white_here at 0x20 (w ++ after) refl ∙ word_here (at + 1) w after is.is_word ended in
    let appends_bytes : AppendsBytes true new (new ++ o ∷ []) (word_octets f w) = ap (option_map (λ p. new ++ p)) (sym (encoded_bytes w ∙ is.encodes_to)) in
    let one : length (new ++ o ∷ []) ≡ length new + value_size f = length-append new (o ∷ []) ∙ ap (λ n. length new + n) (sym sized) in
    let more = run_collected f count first old reads size encoded_bytes sized os next after rest (new ++ o ∷ []) h.5 ends (word_collected (at + 1) w (tokens_from next after) (new ++ o ∷ []) g parts true refl appends_bytes one) in
    let long : suc (length w) ≡ size = sym (ap length is.parts) ∙ h.3 in
    let place : next + size * length os ≡ at + size * suc (length os) = omega (arith, long, times_more size (length os)) in
    subst (λ k. Collected f count first (tokens_from k rest) old (new ++ o ∷ os)) place (subst (λ p. Collected f count first (tokens_from (next + size * length os) rest) old p) (append_assoc new (o ∷ []) os) more)

-- A run at an offset of a text.
pub run_collected_at : (f : Format) (count : Option Count) (first : List Placed) (old : List ℕ) (reads : List ℕ → Option (List ℕ)) (size n place : ℕ) (octets text rest new now : List ℕ) → ((w : List ℕ) → word_octets f w ≡ reads w) → value_size f ≡ 1
    → rest ≡ drop place text → n ≤ length octets → AreShortWords reads size (take n octets) rest (drop (size * n) rest) → EndsWord (drop (size * n) rest) → now ≡ new ++ take n octets → Collected f count first (tokens_from place (drop place text)) old new
    → Collected f count first (tokens_from (place + size * n) (drop (place + size * n) text)) old now
run_collected_at f count first old reads size n place octets text rest new now encoded_bytes sized left within words ends pushed g =
    let long : length (take n octets) ≡ n = length-take-le n octets within in
    let subsequent : drop (size * n) rest ≡ drop (place + size * n) text = ap (drop (size * n)) left ∙ drop-drop (size * n) place text in
    let here = subst (λ o. Collected f count first (tokens_from place o) old new) (sym left) g in
    let all = run_collected f count first old reads size encoded_bytes sized (take n octets) place rest (drop (size * n) rest) new words ends here in
    subst (λ o. Collected f count first (tokens_from (place + size * n) (drop (place + size * n) text)) old o) (sym pushed)
    (subst (λ o. Collected f count first (tokens_from (place + size * n) o) old (new ++ take n octets)) subsequent
    (subst (λ k. Collected f count first (tokens_from (place + size * k) (drop (size * n) rest)) old (new ++ take n octets)) long all))
