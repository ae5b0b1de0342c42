-- Tokens spaced as in a printed message.
use Rattle.std.proofs.Common.{◌≡◌, ℕ, suc, ◌+◌, ◌-◌, ◌*◌, ◌^◌, ◌<◌, ◌≤◌, Bool, true, false, ◌||◌, not, List, [], ◌∷◌, ◌++◌, length, take, drop, get_or, refl, sym, ap, subst, ◌∙◌, arith, codes, append_assoc}
use Rattle.std.specs.Prelude.{Option, Some, Ok, Err, cond, ◌==◌}
use Rattle.std.specs.List.{find, list_all}
use Rattle.std.specs.Str.{bytes_eq}
use Rattle.std.specs.Str.Parse.{digits_value}
use Rattle.std.proofs.lemmas.Bool.{eqb-true, false_from_ne_true, lt-ltb, le-ltb}
use Rattle.std.proofs.lemmas.Slice.Eq.{bytes_eq-Decides}
use Rattle.std.proofs.lemmas.List.{drop-drop, drop_more, length-append, length-take-le, take-append-drop}
use Rattle.secs_item.specs.declared.format.Format.{Format}
use Rattle.secs_text.specs.InnerCanonicalTokens.{EndsWord, IsWord, IsSymbol, IsSymbolAfter, NamesType, IsCounted, IsSmall, IsLettered, IsHeaded, IsOpening, IsWait, IsHead}
use Rattle.secs_item.specs.declared.format.Format.TheVariants as format
use Rattle.secs_text.specs.Body.{nothing_of}
use Rattle.secs_text.specs.Content.{Content}
use Rattle.secs_text.specs.Fault.{any_messages}
use Rattle.secs_text.specs.ParserStates.{Rules, Before, walk, start, type_expected, after_type, in_item, after_name, ◌>>=◌}
use Rattle.secs_text.specs.InnerParseSteps.{count_seen}
use Rattle.secs_text.specs.InnerEncodedText.{named}
use Rattle.secs_text.specs.declared.token.Count.{Count}
use Rattle.secs_text.specs.declared.fault.TextFault.TheVariants as fault
use Rattle.secs_text.specs.declared.token.Token.{Token}
use Rattle.secs_text.specs.Octets.{is_white, is_digit, is_of_word}
use Rattle.secs_text.specs.InnerTokenView.{seen, then_tokens}
use Rattle.secs_text.specs.Token as math
use Rattle.secs_text.specs.Token.{Placed, front, whole, with_front, tokens_after, tokens_from}
use Rattle.secs_text.specs.TypeName.{type_name, formats, format_named}
use Rattle.secs_text.specs.Words.{is_numeral, number_below, head, head_word, head_of_parts}
use Rattle.secs_text.proofs.Prefixes.{both}
use Rattle.secs_text.proofs.Numbers.{just, no_number, take_all, value_more, numeral_digits}
use Rattle.secs_text.proofs.PrintedWords.{and_true, all_of_word}
use Rattle.secs_text.proofs.Tokenized.{word_here, prefix_front, take_front, drop_front}

-- ---- single bytes

pub one_of : (o : List ℕ) → 1 ≤ length o → o ≡ get_or o 0 0 ∷ drop 1 o
one_of o le = drop_more o 0 0 (omega arith)

pub two_of : (o : List ℕ) → 2 ≤ length o → o ≡ get_or o 0 0 ∷ get_or o 1 0 ∷ drop 2 o
two_of o le = one_of o (omega arith) ∙ ap (λ r. get_or o 0 0 ∷ r) (drop_more o 1 0 (omega arith))

pub three_of : (o : List ℕ) → 3 ≤ length o → o ≡ get_or o 0 0 ∷ get_or o 1 0 ∷ get_or o 2 0 ∷ drop 3 o
three_of o le = two_of o (omega arith) ∙ ap (λ r. get_or o 0 0 ∷ get_or o 1 0 ∷ r) (drop_more o 2 0 (omega arith))

-- ---- symbols

pub white_here : (at c : ℕ) (octets : List ℕ) → is_white c ≡ true → tokens_from at (c ∷ octets) ≡ tokens_from (at + 1) octets
unfolding tokens_after
white_here at c octets e = rw e refl

past_spaces : (at : ℕ) (spaces octets : List ℕ) → list_all is_white spaces ≡ true → tokens_from at (spaces ++ octets) ≡ tokens_from (at + length spaces) octets
past_spaces at [] octets all = let place : at ≡ at + 0 = omega arith in ap (λ k. tokens_from k octets) place
past_spaces at (c ∷ spaces) octets all =
    let parts = both _ _ all in
    let place : at + 1 + length spaces ≡ at + suc (length spaces) = omega arith in
    white_here at c (spaces ++ octets) parts.0 ∙ past_spaces (at + 1) spaces octets parts.1 ∙ ap (λ k. tokens_from k octets) place

symbol_here : (at c : ℕ) (octets : List ℕ) (t : Token) → IsSymbol c t → tokens_from at (c ∷ octets) ≡ record { at = at; token = seen t } ∷ tokens_from (at + 1) octets
unfolding tokens_after
symbol_here at c octets t is = ap (λ f. with_front at f (λ more. tokens_after more (at + 1) octets)) (is.fronts octets)

-- The bytes after the first `k` bytes.
subsequent : (at k : ℕ) (text octets front rest : List ℕ) → octets ≡ drop at text → octets ≡ front ++ rest → length front ≡ k → drop (at + k) text ≡ rest
subsequent at k text octets front rest left parts size =
    sym (drop-drop k at text) ∙ ap (λ o. drop k o) (sym left ∙ parts) ∙ ap (λ n. drop n (front ++ rest)) (sym size) ∙ drop_front front rest

pub symbol_taken : (at size : ℕ) (text : List ℕ) (t : Token) → IsSymbolAfter size t (drop at text)
    → tokens_from at (drop at text) ≡ then_tokens (record { at = at + size; token = seen t }) (tokens_from (at + size + 1) (drop (at + size + 1) text))
symbol_taken at size text t is =
    let c = is.octet in
    let place : at + length is.spaces ≡ at + size = ap (λ n. at + n) is.sized in
    let one : at + size + 1 ≡ at + (size + 1) = omega arith in
    let both_sized : length (is.spaces ++ c ∷ []) ≡ size + 1 = (omega (arith, length_both is.spaces c, is.sized)) in
    let rest_is : drop (at + size + 1) text ≡ is.rest = ap (λ k. drop k text) one ∙ subsequent at (size + 1) text (drop at text) (is.spaces ++ c ∷ []) is.rest refl (is.parts ∙ sym (append_assoc is.spaces (c ∷ []) is.rest)) both_sized in
    ap (λ o. tokens_from at o) is.parts
    ∙ past_spaces at is.spaces (c ∷ is.rest) is.white
    ∙ ap (λ k. tokens_from k (c ∷ is.rest)) place
    ∙ symbol_here (at + size) c is.rest t is.symbol
    ∙ rw is.symbol.can_continue (ap (λ o. record { at = at + size; token = seen t } ∷ tokens_from (at + size + 1) o) (sym rest_is))
  where
    length_both : (xs : List ℕ) (c : ℕ) → length (xs ++ c ∷ []) ≡ length xs + 1
    length_both [] c = refl
    length_both (x ∷ xs) c = let more = length_both xs c in omega (arith, more)

-- A symbol occurs here, or after one space.
pub symbol_first : (o rest : List ℕ) (c : ℕ) (t : Token) → rest ≡ o → 1 ≤ length rest → get_or rest 0 0 ≡ c → IsSymbol c t → IsSymbolAfter 0 t o
symbol_first o rest c t same some is_c symbol = record {
  octet = c;
  spaces = [];
  rest = drop 1 rest;
  symbol = symbol;
  white = refl;
  sized = refl;
  parts = sym same ∙ one_of rest some ∙ ap (λ x. x ∷ drop 1 rest) is_c;
}

pub symbol_second : (o rest : List ℕ) (c : ℕ) (t : Token) → rest ≡ o → 2 ≤ length rest → get_or rest 0 0 ≡ 0x20 → get_or rest 1 0 ≡ c → IsSymbol c t → IsSymbolAfter 1 t o
symbol_second o rest c t same some space is_c symbol = record {
  octet = c;
  spaces = 0x20 ∷ [];
  rest = drop 2 rest;
  symbol = symbol;
  white = refl;
  sized = refl;
  parts = sym same ∙ two_of rest some ∙ rw (space, is_c) refl;
}

-- ---- words

opening_here : (at : ℕ) (w d rest : List ℕ) → IsWord w → IsWord d → tokens_from at (w ++ (0x20 ∷ 0x5B ∷ (d ++ 0x5D ∷ rest)))
    ≡ record { at = at; token = math.word w } ∷ record { at = at + length w + 1; token = math.bracket } ∷ record { at = at + length w + 1 + 1; token = math.word d } ∷ record { at = at + length w + 1 + 1 + length d; token = math.bracket_end } ∷ tokens_from (at + length w + 1 + 1 + length d + 1) rest
unfolding tokens_after
opening_here at w d rest is d_is =
    let n = at + length w in
    word_here at w (0x20 ∷ 0x5B ∷ (d ++ 0x5D ∷ rest)) is refl
    ∙ ap (λ ts. record { at = at; token = math.word w } ∷ record { at = n + 1; token = math.bracket } ∷ ts) (word_here (n + 1 + 1) d (0x5D ∷ rest) d_is refl)

-- A digit is a numeral.
one_digit : (digit : ℕ) → is_digit digit ≡ true → (is_numeral (digit ∷ []) ≡ true) × (digits_value 10 (digit ∷ []) ≡ digit - 48)
one_digit digit d =
    let numeral : is_numeral (digit ∷ []) ≡ true = and_true _ _ (and_true _ _ d refl) (or_last (not (digit == 0x30))) in
    (numeral, value_more (digit ∷ []) 0 d (omega arith) ∙ alone (digit - 48))
  where
    alone : (n : ℕ) → 0 + n ≡ n
    alone n = omega arith

    or_last : (b : Bool) → b || true ≡ true
    or_last true = refl
    or_last false = refl

below : (limit n : ℕ) (w : List ℕ) → is_numeral w ≡ true → digits_value 10 w ≡ n → n < limit → number_below limit w ≡ Some n
below limit n w numeral value lt = just limit w (length w) n numeral (omega arith) (sym value ∙ ap (λ o. digits_value 10 o) (sym (take_all w (length w) (omega arith)))) lt

numeral_of : (limit number : ℕ) (w : List ℕ) → number_below limit w ≡ Some number → is_numeral w ≡ true
numeral_of limit number w e = by_numeral (is_numeral w) refl
  where
    by_numeral : (b : Bool) → is_numeral w ≡ b → is_numeral w ≡ true
    by_numeral true is = is
    by_numeral false is = let none = sym (no_number limit w is) ∙ e in cc

numeral_word : (w : List ℕ) → is_numeral w ≡ true → IsWord w
numeral_word [] e = cc
numeral_word (c ∷ w) e = record { some = omega arith; all = all_of_word (c ∷ w) (numeral_digits (c ∷ w) e) }

pub counted : (number size : ℕ) (o : List ℕ) → number_below (2 ^ 64) (take size o) ≡ Some number → size < length o → get_or o size 0 ≡ 0x5D → IsCounted number size o
counted number size o numbers within last = record {
  digits = take size o;
  rest = drop (size + 1) o;
  numbers = numbers;
  word = numeral_word (take size o) (numeral_of (2 ^ 64) number (take size o) numbers);
  sized = length-take-le size o (omega arith);
  parts = sym (take-append-drop size o) ∙ ap (λ r. take size o ++ r) (drop_more o size 0 within ∙ ap (λ c. c ∷ drop (size + 1) o) last);
}

pub counted_by_one : (number : ℕ) (o : List ℕ) → 2 ≤ length o → is_digit (get_or o 0 0) ≡ true → get_or o 1 0 ≡ 0x5D → number ≡ get_or o 0 0 - 48 → get_or o 0 0 ≤ 57 → IsCounted number 1 o
counted_by_one number o le digit last is high =
    let value = one_digit (get_or o 0 0) digit in
    record {
      digits = get_or o 0 0 ∷ [];
      rest = drop 2 o;
      numbers = below (2 ^ 64) number (get_or o 0 0 ∷ []) value.0 (value.1 ∙ sym is) (omega arith);
      word = numeral_word (get_or o 0 0 ∷ []) value.0;
      sized = refl;
      parts = two_of o le ∙ ap (λ c. get_or o 0 0 ∷ c ∷ drop 2 o) last;
    }

pub opening_taken : (at size number count : ℕ) (f : Format) (text octets name_after : List ℕ) → octets ≡ drop at text → NamesType f size octets → name_after ≡ drop (size + 2) octets → IsCounted number count name_after
    → IsOpening f (record { at = at + size + 1; number = number }) (tokens_from at (drop at text)) (tokens_from (at + (size + count + 3)) (drop (at + (size + count + 3)) text))
opening_taken at size number count f text octets name_after left names name_left is =
    let n = at + length names.name in
    let d = is.digits in
    let name = names.name in
    let opened : length (name ++ (0x20 ∷ 0x5B ∷ [])) ≡ size + 2 = omega (arith, length-append name (0x20 ∷ 0x5B ∷ []), names.sized) in
    let joined : names.rest ≡ d ++ 0x5D ∷ is.rest = sym (name_left ∙ ap (λ o. drop (size + 2) o) (names.parts ∙ sym (append_assoc name (0x20 ∷ 0x5B ∷ []) names.rest)) ∙ ap (λ k. drop k ((name ++ (0x20 ∷ 0x5B ∷ [])) ++ names.rest)) (sym opened) ∙ drop_front (name ++ (0x20 ∷ 0x5B ∷ [])) names.rest) ∙ is.parts in
    let shown : octets ≡ name ++ (0x20 ∷ 0x5B ∷ (d ++ 0x5D ∷ is.rest)) = names.parts ∙ ap (λ o. name ++ (0x20 ∷ 0x5B ∷ o)) joined in
    let ending = 0x20 ∷ 0x5B ∷ (d ++ 0x5D ∷ []) in
    let apart : octets ≡ (name ++ ending) ++ is.rest = shown ∙ ap (λ o. name ++ (0x20 ∷ 0x5B ∷ o)) (sym (append_assoc d (0x5D ∷ []) is.rest)) ∙ sym (append_assoc name ending is.rest) in
    let long : length (name ++ ending) ≡ size + count + 3 = omega (arith, length-append name ending, length-append d (0x5D ∷ []), names.sized, is.sized) in
    let rest_is : drop (at + (size + count + 3)) text ≡ is.rest = subsequent at (size + count + 3) text octets (name ++ ending) is.rest left apart long in
    let count_at : n + 1 ≡ at + size + 1 = ap (λ k. at + k + 1) names.sized in
    let last : n + 1 + 1 + length d + 1 ≡ at + (size + count + 3) = omega (arith, names.sized, is.sized) in
    record {
      at = at;
      name = name;
      named = names.named;
      number_at = n + 1 + 1;
      number = d;
      numbers = is.numbers;
      end_at = n + 1 + 1 + length d;
      parts = ap (λ o. tokens_from at o) (sym left ∙ shown) ∙ opening_here at name d is.rest names.word is.word
          ∙ ap (λ k. record { at = at; token = math.word name } ∷ record { at = k; token = math.bracket } ∷ record { at = n + 1 + 1; token = math.word d } ∷ record { at = n + 1 + 1 + length d; token = math.bracket_end } ∷ tokens_from (n + 1 + 1 + length d + 1) is.rest) count_at
          ∙ ap (λ k. record { at = at; token = math.word name } ∷ record { at = at + size + 1; token = math.bracket } ∷ record { at = n + 1 + 1; token = math.word d } ∷ record { at = n + 1 + 1 + length d; token = math.bracket_end } ∷ tokens_from k is.rest) last
          ∙ ap (λ o. record { at = at; token = math.word name } ∷ record { at = at + size + 1; token = math.bracket } ∷ record { at = n + 1 + 1; token = math.word d } ∷ record { at = n + 1 + 1 + length d; token = math.bracket_end } ∷ tokens_from (at + (size + count + 3)) o) (sym rest_is);
    }

letter_word : (a : ℕ) → is_of_word a ≡ true → IsWord (a ∷ [])
letter_word a is = record { some = omega arith; all = and_true _ _ is refl }

pub name_word : (f : Format) → IsWord (type_name f)
name_word format.List = record { some = omega arith; all = refl }
name_word format.Binary = record { some = omega arith; all = refl }
name_word format.Boolean = record { some = omega arith; all = refl }
name_word format.Ascii = record { some = omega arith; all = refl }
name_word format.Jis8 = record { some = omega arith; all = refl }
name_word format.Char2 = record { some = omega arith; all = refl }
name_word format.I1 = record { some = omega arith; all = refl }
name_word format.I2 = record { some = omega arith; all = refl }
name_word format.I4 = record { some = omega arith; all = refl }
name_word format.I8 = record { some = omega arith; all = refl }
name_word format.U1 = record { some = omega arith; all = refl }
name_word format.U2 = record { some = omega arith; all = refl }
name_word format.U4 = record { some = omega arith; all = refl }
name_word format.U8 = record { some = omega arith; all = refl }
name_word format.F4 = record { some = omega arith; all = refl }
name_word format.F8 = record { some = omega arith; all = refl }

-- The first of these formats that has this name, given the result of the first test and the format that the rest
-- yields.
by_first : (f g : Format) (w : List ℕ) (rest : Option Format) (b : Bool) → bytes_eq (type_name g) w ≡ b → ◌≡◌ {A = Option Format} (cond b (Some g) rest) (Some f) → (◌≡◌ {A = Option Format} rest (Some f) → IsWord w) → IsWord w
by_first f g w rest true is e next = subst IsWord ((bytes_eq-Decides (type_name g) w).0 is) (name_word g)
by_first f g w rest false is e next = next e

among_words : (f : Format) (w : List ℕ) (fs : List Format) → find (λ g. bytes_eq (type_name g) w) fs ≡ Some f → IsWord w
among_words f w [] e = cc
among_words f w (g ∷ fs) e = by_first f g w (find (λ h. bytes_eq (type_name h) w) fs) (bytes_eq (type_name g) w) refl e (among_words f w fs)

named_word : (f : Format) (w : List ℕ) → format_named w ≡ Some f → IsWord w
unfolding format_named
named_word f w is = among_words f w formats is

pub names_front : (f : Format) (size : ℕ) (o : List ℕ) → size + 2 ≤ length o → format_named (take size o) ≡ Some f → get_or o size 0 ≡ 0x20 → get_or o (size + 1) 0 ≡ 0x5B
    → NamesType f size o
names_front f size o within named space bracket =
    let subsequent : drop (size + 1) o ≡ 0x5B ∷ drop (size + 1 + 1) o = drop_more o (size + 1) 0 (omega arith) ∙ ap (λ c. c ∷ drop (size + 1 + 1) o) bracket in
    record {
      name = take size o;
      rest = drop (size + 1 + 1) o;
      named = named;
      word = named_word f (take size o) named;
      sized = length-take-le size o (omega arith);
      parts = sym (take-append-drop size o) ∙ ap (λ r. take size o ++ r) (drop_more o size 0 (omega arith) ∙ ap (λ c. c ∷ drop (size + 1) o) space ∙ ap (λ r. 0x20 ∷ r) subsequent);
    }

-- ---- heads

pub wait_taken : (at : ℕ) (text octets : List ℕ) → octets ≡ drop at text → 3 ≤ length octets → get_or octets 0 0 ≡ 0x20 → get_or octets 1 0 ≡ 0x57 → is_of_word (get_or octets 2 0) ≡ false
    → IsWait (tokens_from at (drop at text)) (tokens_from (at + 2) (drop (at + 2) text))
wait_taken at text octets left le space letter last =
    let after = get_or octets 2 0 ∷ drop 3 octets in
    let parts : octets ≡ 0x20 ∷ 0x57 ∷ after = three_of octets le ∙ rw (space, letter) refl in
    let ends : EndsWord after = rw last refl in
    let two : at + 1 + 1 ≡ at + 2 = omega arith in
    let rest_is = subsequent at 2 text octets (0x20 ∷ 0x57 ∷ []) after left parts refl in
    record {
      at = at + 1;
      parts = ap (λ o. tokens_from at o) (sym left ∙ parts) ∙ white_here at 0x20 (0x57 ∷ after) refl ∙ word_here (at + 1) (0x57 ∷ []) after (letter_word 0x57 refl) ends
          ∙ ap (λ k. record { at = at + 1; token = math.word (codes "W") } ∷ tokens_from k after) two
          ∙ ap (λ o. record { at = at + 1; token = math.word (codes "W") } ∷ tokens_from (at + 2) o) (sym rest_is);
    }

pub small_of_one : (o : List ℕ) → 2 ≤ length o → is_digit (get_or o 0 0) ≡ true → get_or o 0 0 ≤ 57 → is_digit (get_or o 1 0) ≡ false → IsSmall (get_or o 0 0 - 48) 1 o
small_of_one o le first high last =
    let value = one_digit (get_or o 0 0) first in
    record {
      digits = get_or o 0 0 ∷ [];
      rest = get_or o 1 0 ∷ drop 2 o;
      numeral = value.0;
      value = value.1;
      small = omega arith;
      counted = refl;
      ends = rw last refl;
      parts = two_of o le;
    }

pub small_of_two : (o : List ℕ) → 3 ≤ length o → is_digit (get_or o 0 0) ≡ true → (get_or o 0 0 == 0x30) ≡ false → is_digit (get_or o 1 0) ≡ true → get_or o 0 0 ≤ 57 → get_or o 1 0 ≤ 57 → is_digit (get_or o 2 0) ≡ false
    → IsSmall (10 * (get_or o 0 0 - 48) + (get_or o 1 0 - 48)) 2 o
small_of_two o le first some second high high_too last =
    let tens = get_or o 0 0 in
    let ones = get_or o 1 0 in
    let numeral : is_numeral (tens ∷ ones ∷ []) ≡ true = and_true _ _ (and_true _ _ first (and_true _ _ second refl)) (ap (λ b. not b || false) some) in
    let more = value_more (tens ∷ ones ∷ []) 1 second (omega arith) in
    let one = (one_digit tens first).1 in
    record {
      digits = tens ∷ ones ∷ [];
      rest = get_or o 2 0 ∷ drop 3 o;
      numeral = numeral;
      value = more ∙ ap (λ n. n * 10 + (ones - 48)) one ∙ turned (tens - 48) (ones - 48);
      small = omega arith;
      counted = refl;
      ends = rw last refl;
      parts = three_of o le;
    }
  where
    turned : (a b : ℕ) → a * 10 + b ≡ 10 * a + b
    turned a b = omega arith

all_both : (p : ℕ → Bool) (xs ys : List ℕ) → list_all p xs ≡ true → list_all p ys ≡ true → list_all p (xs ++ ys) ≡ true
all_both p [] ys first second = second
all_both p (x ∷ xs) ys first second = let parts = both _ _ first in and_true _ _ parts.0 (all_both p xs ys parts.1 second)

names : (stream function : ℕ) (first second : List ℕ) → is_numeral first ≡ true → digits_value 10 first ≡ stream → stream < 128 → is_numeral second ≡ true → digits_value 10 second ≡ function → function < 256
    → head_word (0x53 ∷ (first ++ 0x46 ∷ second)) ≡ head stream function
unfolding head_word
names stream function [] second n v lt m u gt = cc
names stream function (a ∷ more) [] n v lt m u gt = cc
names stream function (a ∷ more) (b ∷ subsequent_octets) n v lt m u gt =
    let digits = a ∷ more in
    let others = b ∷ subsequent_octets in
    let size = prefix_front is_digit digits (0x46 ∷ others) (numeral_digits digits n) refl in
    let all = numeral_digits others m in
    ap (λ k. head_of_parts (take k (digits ++ 0x46 ∷ others)) (drop k (digits ++ 0x46 ∷ others))) size
    ∙ ap (λ o. head_of_parts o (drop (length digits) (digits ++ 0x46 ∷ others))) (take_front digits (0x46 ∷ others))
    ∙ ap (λ o. head_of_parts digits o) (drop_front digits (0x46 ∷ others))
    ∙ rw (some_left more, some_left subsequent_octets, all, below 128 stream digits n v lt, below 256 function others m u gt) refl
  where
    some_left : (xs : List ℕ) → (suc (length xs) == 0) ≡ false
    some_left xs = false_from_ne_true (suc (length xs) == 0) (λ e. let none = eqb-true (suc (length xs)) 0 e in absurd (omega arith))

seam : (xs q : List ℕ) → get_or (xs ++ q) (length xs) 0 ≡ get_or q 0 0
seam [] q = refl
seam (x ∷ xs) q = seam xs q

pub ends_of : (q : List ℕ) → is_of_word (get_or q 0 0) ≡ false → EndsWord q
ends_of [] e = refl
ends_of (c ∷ q) e = rw e refl

-- The bytes after a letter and a number.
after_lettered : (letter number size : ℕ) (octets : List ℕ) → (h : IsLettered letter number size octets) → drop size octets ≡ h.number_following.rest
after_lettered letter number size octets h =
    let n = h.number_following in
    let one : size ≡ suc (length n.digits) = (let some = h.some in let counted = n.counted in omega (arith, some, counted)) in
    ap (λ o. drop size o) (h.parts ∙ ap (λ o. letter ∷ o) n.parts) ∙ ap (λ k. drop k (letter ∷ (n.digits ++ n.rest))) one ∙ drop_front n.digits n.rest

pub headed : (stream function first second : ℕ) (octets rest : List ℕ) → IsLettered 0x53 stream first octets → rest ≡ drop first octets → IsLettered 0x46 function second rest → is_of_word (get_or rest second 0) ≡ false
    → IsHeaded stream function (first + second) octets
headed stream function first second octets rest s left f last =
    let a = s.number_following in
    let b = f.number_following in
    let joined : a.rest ≡ 0x46 ∷ (b.digits ++ b.rest) = sym (left ∙ after_lettered 0x53 stream first octets s) ∙ f.parts ∙ ap (λ o. 0x46 ∷ o) b.parts in
    let one : second ≡ suc (length b.digits) = (let some = f.some in let counted = b.counted in omega (arith, some, counted)) in
    let next : get_or rest second 0 ≡ get_or b.rest 0 0 = ap (λ o. get_or o second 0) (f.parts ∙ ap (λ o. 0x46 ∷ o) b.parts) ∙ ap (λ k. get_or (0x46 ∷ (b.digits ++ b.rest)) k 0) one ∙ seam b.digits b.rest in
    let small = a.small in
    let less = b.small in
    let size : length (a.digits ++ 0x46 ∷ b.digits) ≡ length a.digits + suc (length b.digits) = length-append a.digits (0x46 ∷ b.digits) in
    let some = s.some in
    let counted = a.counted in
    record {
      text = 0x53 ∷ (a.digits ++ 0x46 ∷ b.digits);
      rest = b.rest;
      names = names stream function a.digits b.digits a.numeral a.value (omega (arith, small)) b.numeral b.value (omega (arith, less));
      word = record {
        some = omega arith;
        all = all_both is_of_word a.digits (0x46 ∷ b.digits) (all_of_word a.digits (numeral_digits a.digits a.numeral)) (all_of_word b.digits (numeral_digits b.digits b.numeral));
      };
      sized = omega (arith, size, one, some, counted);
      ends = ends_of b.rest (ap is_of_word (sym next) ∙ last);
      parts = s.parts ∙ ap (λ o. 0x53 ∷ o) (a.parts ∙ ap (λ o. a.digits ++ o) joined ∙ sym (append_assoc a.digits (0x46 ∷ b.digits) b.rest));
    }

pub head_taken : (at size stream function : ℕ) (text octets : List ℕ) (before : List Placed) → before ≡ tokens_from at octets → octets ≡ drop at text → IsHeaded stream function size octets
    → IsHead stream function before (tokens_from (at + size) (drop (at + size) text))
head_taken at size stream function text octets before from left h =
    let rest_is = subsequent at size text octets h.text h.rest left h.parts h.sized in
    record {
      at = at;
      text = h.text;
      names = h.names;
      parts = from ∙ ap (λ o. tokens_from at o) h.parts ∙ word_here at h.text h.rest h.word h.ends
          ∙ ap (λ k. record { at = at; token = math.word h.text } ∷ tokens_from (at + k) h.rest) h.sized
          ∙ ap (λ o. record { at = at; token = math.word h.text } ∷ tokens_from (at + size) o) (sym rest_is);
    }

-- ---- the steps that they lead to

-- The type name of an item in which lists may be nested `depth` deep.
named_leads : (f : Format) (rules : Rules) (b : Before) (opening at depth : ℕ) → length b.lists + depth ≡ rules.depth → (f ≡ format.List → 0 < depth) → after_name rules b opening at (Some f) ≡ Ok (after_type b (nothing_of f))
named_leads format.List rules b opening at depth e deep = let more = deep refl in rw (lt-ltb (length b.lists) rules.depth (omega (arith, e, more))) refl
named_leads format.Binary rules b opening at depth e deep = refl
named_leads format.Boolean rules b opening at depth e deep = refl
named_leads format.Ascii rules b opening at depth e deep = refl
named_leads format.Jis8 rules b opening at depth e deep = refl
named_leads format.Char2 rules b opening at depth e deep = refl
named_leads format.I1 rules b opening at depth e deep = refl
named_leads format.I2 rules b opening at depth e deep = refl
named_leads format.I4 rules b opening at depth e deep = refl
named_leads format.I8 rules b opening at depth e deep = refl
named_leads format.U1 rules b opening at depth e deep = refl
named_leads format.U2 rules b opening at depth e deep = refl
named_leads format.U4 rules b opening at depth e deep = refl
named_leads format.U8 rules b opening at depth e deep = refl
named_leads format.F4 rules b opening at depth e deep = refl
named_leads format.F8 rules b opening at depth e deep = refl

pub opening_leads : (f : Format) (count : Count) (before after : List Placed) (rules : Rules) (b : Before) (opening depth : ℕ) → IsOpening f count before after → length b.lists + depth ≡ rules.depth → (f ≡ format.List → 0 < depth)
    → walk rules (type_expected b opening) before ≡ walk rules (in_item b (record { count = count_seen (Some count); so_far = nothing_of f })) after
opening_leads f count before after rules b opening depth is e deep =
    let rest = record { at = count.at; token = math.bracket } ∷ record { at = is.number_at; token = math.word is.number } ∷ record { at = is.end_at; token = math.bracket_end } ∷ after in
    ap (λ ts. walk rules (type_expected b opening) ts) is.parts
    ∙ ap (λ n. after_name rules b opening is.at n >>= (λ next. walk rules next rest)) is.named
    ∙ ap (λ s. s >>= (λ next. walk rules next rest)) (named_leads f rules b opening is.at depth e deep)
    ∙ rw is.numbers refl

pub opening_too_deep : (count : Count) (before after : List Placed) (rules : Rules) (b : Before) (opening depth : ℕ) → IsOpening format.List count before after → length b.lists + depth ≡ rules.depth → depth ≡ 0
    → walk rules (type_expected b opening) before ≡ Err (fault.Deep opening)
opening_too_deep count before after rules b opening depth is e none =
    ap (λ ts. walk rules (type_expected b opening) ts) is.parts ∙ rw (is.named, le-ltb (length b.lists) rules.depth (omega (arith, e, none))) refl

pub head_leads : (stream function depth : ℕ) (before after : List Placed) (ms : List Content) → IsHead stream function before after → walk (any_messages depth) (start ms) before ≡ named depth ms (Some (stream, function)) after
head_leads stream function depth before after ms is = ap (λ ts. walk (any_messages depth) (start ms) ts) is.parts ∙ rw is.names refl
