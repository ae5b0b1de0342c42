-- The printed form of a message is its notation.
use Rattle.std.proofs.Common.{◌≡◌, ℕ, zero, suc, ◌^◌, ◌<◌, Bool, true, false, inr, List, [], ◌∷◌, ◌++◌, ◌&&◌, length, take, drop, map, refl, sym, ap, ◌∙◌, subst, append_assoc, append-nil, arith, codes, if◌then◌else◌}
use Rattle.std.specs.Prelude.{Option, Some, None, MatchOption, ◌==◌}
use Rattle.std.specs.List.{list_all, AllByRecursion}
use Rattle.std.specs.Fmt.{decimal}
use Rattle.std.specs.Str.{IsAscii}
use Rattle.std.proofs.lemmas.Bool.{ne_eqb, ltb-true}
use Rattle.std.proofs.lemmas.List.Folds.{list_all-append}
use Rattle.secs_item.specs.Item.{Value, list, values, Elements, no_elements, element, format_of, count_of}
use Rattle.secs_item.specs.declared.format.Format.{Format}
use Rattle.secs_item.specs.declared.format.Format.TheVariants as format
use Rattle.secs_text.specs.Octets.{is_quotable, is_digit, is_of_word}
use Rattle.secs_text.specs.Body.{WordEncoding, IsEncoded, encoded_bytes, Body, in_text, in_words, body_of}
use Rattle.secs_text.specs.Content.{Content}
use Rattle.secs_text.specs.InRange.{IsOctets, Fits, BodyIsHeld, InnerIsHeld, AllHeld, IsHeld, IsHeldMessage}
use Rattle.secs_text.specs.Notation.{InPieces, BodyTokens, Enclosed, ItemTokens, ElementTokens, OptionalItem, wait_word, wait_tokens, Notation}
use Rattle.secs_text.specs.Printed.{hexadecimal, spaced, printed_text, written, printed_values, printed_opening, printed_body, printed_elements, printed_item, printed_optional, printed}
use Rattle.secs_text.specs.Token.{Token, word, quoted, less, greater, bracket, bracket_end, stop, end, tokens}
use Rattle.secs_text.specs.TypeName.{type_name, format_named}
use Rattle.secs_text.specs.Words.{head, number_below, head_of_numbers, head_of_parts, head_word}
use Rattle.secs_text.proofs.PartialTokens.{SoFar}
use Rattle.secs_text.specs.InnerCanonicalTokens.{IsWord}
use Rattle.secs_text.proofs.CanonicalTokenLists.{name_word}
use Rattle.secs_text.proofs.PrintedWords.{and_true, all_digits, decimal_digits, decimal_word, number_read, octet_word, octet_is_read, written_word, written_read}
use Rattle.secs_text.proofs.Tokenized.{Prints, is_low, low_both, low_word, end_kinds, word_kinds, prefix_front, take_front, drop_front, prints_none, prints_along, prints_both, prints_word, prints_opening, prints_count, prints_close, prints_space, prints_stop, prints_quoted}

-- ---- text bytes

-- Outside a quoted text.
record PrintsText (cs : List ℕ) : Type 0 where
  ts : List Token
  prints : Prints (printed_text false cs) ts
  pieces : InPieces ts cs

-- Inside a quoted text, which continues with the first of these bytes.
record PrintsRest (cs : List ℕ) : Type 0 where
  q : List ℕ
  more : List ℕ
  out : List ℕ
  ts : List Token
  parts : cs ≡ q ++ more
  quotable : list_all is_quotable q ≡ true
  printed : printed_text true cs ≡ q ++ 0x22 ∷ out
  prints : Prints out ts
  pieces : InPieces ts more

printed_step : (open_quote : Bool) (c : ℕ) (cs : List ℕ) (b : Bool) → is_quotable c ≡ b → printed_text open_quote (c ∷ cs) ≡ (if b then (if open_quote then [] else codes " \"") ++ c ∷ [] else (if open_quote then codes "\"" else []) ++ codes " " ++ hexadecimal (c ∷ [])) ++ printed_text b cs
unfolding printed_text
printed_step open_quote c cs b is = ap (λ b. (if b then (if open_quote then [] else codes " \"") ++ c ∷ [] else (if open_quote then codes "\"" else []) ++ codes " " ++ hexadecimal (c ∷ [])) ++ printed_text b cs) is

text_more : (c : ℕ) (cs : List ℕ) → c < 256 → (b : Bool) → is_quotable c ≡ b → PrintsText cs → PrintsRest cs → PrintsText (c ∷ cs)
text_more c cs lt true is f t = record {
  ts = quoted (c ∷ t.q) ∷ t.ts;
  prints = prints_along (ap (λ o. 0x20 ∷ 0x22 ∷ c ∷ o) (append_assoc t.q (0x22 ∷ []) t.out ∙ sym t.printed) ∙ sym (printed_step false c cs true is))
      (prints_both (prints_quoted (c ∷ t.q) (and_true _ _ is t.quotable)) t.prints);
  pieces = (c ∷ t.q, t.more, refl, t.pieces, ap (λ o. c ∷ o) t.parts);
}
text_more c cs lt false is f t = record {
  ts = word (hexadecimal (c ∷ [])) ∷ f.ts;
  prints = prints_along (sym (printed_step false c cs false is)) (prints_both (prints_word (hexadecimal (c ∷ [])) (octet_word c lt)) f.prints);
  pieces = (c ∷ [], cs, (c, octet_is_read c lt, refl), f.pieces, refl);
}

rest_more : (c : ℕ) (cs : List ℕ) → c < 256 → (b : Bool) → is_quotable c ≡ b → PrintsText cs → PrintsRest cs → PrintsRest (c ∷ cs)
rest_more c cs lt true is f t = record {
  q = c ∷ t.q;
  more = t.more;
  out = t.out;
  ts = t.ts;
  parts = ap (λ o. c ∷ o) t.parts;
  quotable = and_true _ _ is t.quotable;
  printed = printed_step true c cs true is ∙ ap (λ o. c ∷ o) t.printed;
  prints = t.prints;
  pieces = t.pieces;
}
rest_more c cs lt false is f t = record {
  q = [];
  more = c ∷ cs;
  out = (codes " " ++ hexadecimal (c ∷ [])) ++ printed_text false cs;
  ts = word (hexadecimal (c ∷ [])) ∷ f.ts;
  parts = refl;
  quotable = refl;
  printed = printed_step true c cs false is;
  prints = prints_both (prints_word (hexadecimal (c ∷ [])) (octet_word c lt)) f.prints;
  pieces = (c ∷ [], cs, (c, octet_is_read c lt, refl), f.pieces, refl);
}

text_prints : (cs : List ℕ) → IsOctets cs → PrintsText cs × PrintsRest cs
unfolding printed_text
text_prints [] h = (
  record { ts = []; prints = prints_none; pieces = refl },
  record { q = []; more = []; out = []; ts = []; parts = refl; quotable = refl; printed = refl; prints = prints_none; pieces = refl },
)
text_prints (c ∷ cs) h =
    let r = text_prints cs (λ k. h (suc k)) in
    (text_more c cs (h 0) (is_quotable c) refl r.0 r.1, rest_more c cs (h 0) (is_quotable c) refl r.0 r.1)

-- ---- words

words_print : (s : WordEncoding) (xs : List (IsEncoded s)) → AllByRecursion (Fits s) xs → Prints (spaced (written s) xs) (map word (map (written s) xs)) × (map (encoded_bytes s) (map (written s) xs) ≡ map (λ x. Some x) xs)
words_print s [] h = (prints_none, refl)
words_print s (x ∷ xs) h =
    let rest = words_print s xs h.1 in
    (prints_both (prints_word (written s x) (written_word s x h.0)) rest.0, (λ i. written_read s x h.0 i ∷ rest.1 i))

record PrintsBody (v : Value) : Type 0 where
  inner : List Token
  prints : Prints (printed_body v) inner
  holds : SoFar v inner

record PrintsValues (body : Body) : Type 0 where
  inner : List Token
  prints : Prints (printed_values body) inner
  holds : BodyTokens body inner

values_print : (body : Body) → BodyIsHeld body → PrintsValues body
values_print (in_text octets) h = let r = (text_prints octets h).0 in record { inner = r.ts; prints = r.prints; holds = r.pieces }
values_print (in_words s xs) h = let r = words_print s xs h in record { inner = map word (map (written s) xs); prints = r.0; holds = (map (written s) xs, r.1, refl) }

-- ---- items

name_named : (f : Format) → format_named (type_name f) ≡ Some f
unfolding format_named
name_named format.List = refl
name_named format.Binary = refl
name_named format.Boolean = refl
name_named format.Ascii = refl
name_named format.Jis8 = refl
name_named format.Char2 = refl
name_named format.I1 = refl
name_named format.I2 = refl
name_named format.I4 = refl
name_named format.I8 = refl
name_named format.U1 = refl
name_named format.U2 = refl
name_named format.U4 = refl
name_named format.U8 = refl
name_named format.F4 = refl
name_named format.F8 = refl

record PrintsItem (v : Value) : Type 0 where
  ts : List Token
  prints : Prints (printed_item v) ts
  tokens : ItemTokens v ts

opening_prints : (v : Value) → count_of v < 2 ^ 64 → Prints (printed_opening v) (less ∷ word (type_name (format_of v)) ∷ bracket ∷ word (decimal (count_of v)) ∷ bracket_end ∷ [])
opening_prints v lt =
    let name = codes "<" ++ type_name (format_of v) in
    let n = decimal (count_of v) in
    prints_along (sym (append_assoc (name ++ codes " [") n (codes "]") ∙ append_assoc name (codes " [") (n ++ codes "]")))
    (prints_both (prints_opening (type_name (format_of v)) (name_word (format_of v))) (prints_count n (decimal_word (count_of v) lt)))

enclosed : (v : Value) (inner : List Token) → count_of v < 2 ^ 64 → Enclosed v inner (less ∷ word (type_name (format_of v)) ∷ (bracket ∷ word (decimal (count_of v)) ∷ bracket_end ∷ []) ++ inner ++ greater ∷ [])
enclosed v inner lt = record {
  name = type_name (format_of v);
  named = name_named (format_of v);
  count = bracket ∷ word (decimal (count_of v)) ∷ bracket_end ∷ [];
  counted = inr (decimal (count_of v), number_read (2 ^ 64) (count_of v) lt lt, refl);
  parts = refl;
}

item_tokens : (v : Value) (inner : List Token) → count_of v < 2 ^ 64 → SoFar v inner → ItemTokens v (less ∷ word (type_name (format_of v)) ∷ (bracket ∷ word (decimal (count_of v)) ∷ bracket_end ∷ []) ++ inner ++ greater ∷ [])
item_tokens (list es) inner lt holds = (inner, holds, enclosed (list es) inner lt)
item_tokens (values v) inner lt holds = (inner, holds, enclosed (values v) inner lt)

item_print : (v : Value) → count_of v < 2 ^ 64 → PrintsBody v → PrintsItem v
item_print v lt b = record {
  ts = less ∷ word (type_name (format_of v)) ∷ (bracket ∷ word (decimal (count_of v)) ∷ bracket_end ∷ []) ++ b.inner ++ greater ∷ [];
  prints = prints_both (prints_both (opening_prints v lt) b.prints) prints_close;
  tokens = item_tokens v b.inner lt b.holds;
}

record PrintsElements (es : Elements) : Type 0 where
  ts : List Token
  prints : Prints (printed_elements es) ts
  tokens : ElementTokens es ts

mutual
  body_prints : (v : Value) → InnerIsHeld v → PrintsBody v
  body_prints (list es) h = let r = elements_print es h in record { inner = r.ts; prints = r.prints; holds = r.tokens }
  body_prints (values v) h = let r = values_print (body_of v) h in record { inner = r.inner; prints = r.prints; holds = r.holds }

  elements_print : (es : Elements) → AllHeld es → PrintsElements es
  elements_print no_elements h = record { ts = []; prints = prints_none; tokens = refl }
  elements_print (element v es) h =
      let first = item_print v h.0 (body_prints v h.1) in
      let rest = elements_print es h.2 in
      record { ts = first.ts ++ rest.ts; prints = prints_both (prints_space first.prints) rest.prints; tokens = (first.ts, rest.ts, first.tokens, rest.tokens, refl) }

-- ---- messages

record PrintsOptional (item : Option Value) : Type 0 where
  ts : List Token
  prints : Prints (printed_optional item) ts
  tokens : OptionalItem item ts

optional_print : (item : Option Value) → MatchOption item (Unit {0}) IsHeld → PrintsOptional item
optional_print None h = record { ts = []; prints = prints_none; tokens = refl }
optional_print (Some v) h = let r = item_print v h.0 (body_prints v h.1) in record { ts = r.ts; prints = prints_space r.prints; tokens = r.tokens }

wait_prints : (b : Bool) → Prints (if b then codes " W" else []) (wait_tokens b)
wait_prints true = prints_word wait_word (record { some = omega arith; all = refl })
wait_prints false = prints_none

-- The word of the head.
abbrev head_text : ℕ → ℕ → List ℕ
head_text stream function = 0x53 ∷ (decimal stream ++ 0x46 ∷ decimal function)

head_is_word : (stream function : ℕ) → stream < 128 → function < 256 → IsWord (head_text stream function)
head_is_word stream function s f = record {
  some = omega arith;
  all = list_all-append is_of_word (decimal stream) (0x46 ∷ decimal function) ∙ and_true _ _ (decimal_word stream (omega arith)).all (decimal_word function (omega arith)).all;
}

parts_read : (stream function : ℕ) → stream < 128 → function < 256 → head_of_parts (decimal stream) (0x46 ∷ decimal function) ≡ head stream function
parts_read stream function s f =
    let first = decimal_digits stream (omega arith) in
    let second = decimal_digits function (omega arith) in
    let some : (length (decimal stream) == 0) ≡ false = ne_eqb (length (decimal stream)) 0 (λ e. let positive = first.1 in omega arith) in
    let others : (length (decimal function) == 0) ≡ false = ne_eqb (length (decimal function)) 0 (λ e. let positive = second.1 in omega arith) in
    let digits = all_digits (decimal function) second.0 in
    rw (some, others, digits) (ap (λ o. head_of_numbers o (number_below 256 (decimal function))) (number_read 128 stream (omega arith) s) ∙ ap (λ o. head_of_numbers (Some stream) o) (number_read 256 function (omega arith) f))

head_is_read : (stream function : ℕ) → stream < 128 → function < 256 → head_word (head_text stream function) ≡ head stream function
unfolding head_word
head_is_read stream function s f =
    let ds = decimal stream in
    let rest = 0x46 ∷ decimal function in
    let n = prefix_front is_digit ds rest (all_digits ds (decimal_digits stream (omega arith)).0) refl in
    ap (λ k. head_of_parts (take k (ds ++ rest)) (drop k (ds ++ rest))) n
    ∙ ap (λ o. head_of_parts o (drop (length ds) (ds ++ rest))) (take_front ds rest)
    ∙ ap (λ o. head_of_parts ds o) (drop_front ds rest) ∙ parts_read stream function s f

abbrev after_head : Content → List ℕ
after_head m = ((if m.wait then codes " W" else []) ++ printed_optional m.item) ++ codes " ."

record PrintsMessage (m : Content) : Type 0 where
  item : List Token
  tokens : OptionalItem m.item item
  prints : Prints (after_head m) (wait_tokens m.wait ++ item ++ stop ∷ [])

message_prints : (m : Content) → IsHeldMessage m → PrintsMessage m
message_prints m h =
    let item = optional_print m.item h.item in
    record { item = item.ts; tokens = item.tokens; prints = prints_both (prints_both (wait_prints m.wait) item.prints) prints_stop }

printed_parts : (m : Content) → head_text m.stream m.function ++ after_head m ≡ printed m
printed_parts m =
    let w = head_text m.stream m.function in
    let wait = if m.wait then codes " W" else [] in
    let opt = printed_optional m.item in
    ap (λ o. w ++ o) (append_assoc wait opt (codes " .")) ∙ sym (append_assoc w wait (opt ++ codes " .")) ∙ sym (append_assoc (w ++ wait) opt (codes " ."))
    ∙ ap (λ o. (((0x53 ∷ o) ++ wait) ++ opt) ++ codes " .") (sym (append_assoc (decimal m.stream) (0x46 ∷ []) (decimal m.function)))

-- The printed form has the tokens of its message.
pub printed_is_notation : (m : Content) → IsHeldMessage m → Notation m (printed m)
printed_is_notation m h =
    let w = head_text m.stream m.function in
    let p = message_prints m h in
    let ts = word w ∷ wait_tokens m.wait ++ p.item ++ stop ∷ [] in
    let kinds = word_kinds w (after_head m ++ []) _ (head_is_word m.stream m.function h.stream h.function) (p.prints.starts [] refl) (p.prints.printed [] (end ∷ []) refl end_kinds) in
    let whole : w ++ (after_head m ++ []) ≡ printed m = ap (λ o. w ++ o) (append-nil (after_head m)) ∙ printed_parts m in (
      ts,
      record { name = w; named = head_is_read m.stream m.function h.stream h.function; item = p.item; holds = p.tokens; parts = refl },
      ap (λ o. map (λ t. t.token) (tokens o)) (sym whole) ∙ kinds.kinds 0,
    )

first_low : (c : ℕ) (b rest : Bool) → b ≡ is_low c → b && rest ≡ true → c < 128
first_low c true rest is e = ltb-true c 128 (sym is)
first_low c false rest is e = cc

others_low : (b rest : Bool) → b && rest ≡ true → rest ≡ true
others_low true rest e = e
others_low false rest e = cc

low_octets : (octets : List ℕ) → list_all is_low octets ≡ true → IsAscii octets
low_octets [] all zero = omega arith
low_octets [] all (suc k) = omega arith
low_octets (c ∷ cs) all zero = first_low c (is_low c) (list_all is_low cs) refl all
low_octets (c ∷ cs) all (suc k) = low_octets cs (others_low (is_low c) (list_all is_low cs) all) k

-- The printed form is ASCII.
pub printed_is_ascii : (m : Content) → IsHeldMessage m → IsAscii (printed m)
printed_is_ascii m h =
    let w = head_text m.stream m.function in
    let parts = low_both w (after_head m) (low_word w (head_is_word m.stream m.function h.stream h.function).all) (message_prints m h).prints.low in
    low_octets (printed m) (ap (λ o. list_all is_low o) (sym (printed_parts m)) ∙ parts)

pub notation_of : (m : Content) (text : List ℕ) → text ≡ printed m → IsHeldMessage m → Notation m text
notation_of m text is h = let P : List ℕ → Type 0 = λ o. Notation m o in subst P (sym is) (printed_is_notation m h)
