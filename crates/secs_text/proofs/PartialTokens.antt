-- Tokens of the content of an item, consumed one by one.
use Rattle.std.proofs.Common.{◌≡◌, ℕ, suc, ◌+◌, ◌≤◌, true, inl, inr, List, [], ◌∷◌, ◌++◌, map, refl, sym, ap, ◌∙◌, subst, append_assoc, append-nil, arith}
use Rattle.std.specs.Prelude.{Option, Some, None, option_map, ◌^◌}
use Rattle.std.proofs.lemmas.Bool.{eqb-true}
use Rattle.secs_item.specs.Item.{Value, list, values, Values, binary, boolean, ascii, jis8, char2, i1, i2, i4, i8, u1, u2, u4, u8, f4, f8, Elements, no_elements, element, nest, nest_of_elements, format_of, format_of_values, count_of, with_element}
use Rattle.secs_item.specs.declared.format.Format.{Format}
use Rattle.secs_item.specs.declared.format.Format.TheVariants as format
use Rattle.secs_text.specs.Body.{WordEncoding, hex_octet, truth_letter, signed_number, unsigned_number, hex_float, IsEncoded, encoded_bytes, Body, in_words, body_of, nothing_of}
use Rattle.secs_text.specs.Token.{Token, word, quoted, less, greater, bracket, bracket_end}
use Rattle.secs_text.specs.TypeName.{format_named}
use Rattle.secs_text.specs.Words.{number_below, octet_of}
use Rattle.secs_text.specs.Notation.{InWords, IsPiece, InPieces, BodyTokens, CountTokens, Enclosed, ItemTokens, ElementTokens}
use Rattle.secs_text.specs.ParserStates.{Count, with_word, with_quoted, with_item, is_counted}

map_push : {X Y : Type 0} (f : X → Y) (xs : List X) (x : X) → map f (xs ++ x ∷ []) ≡ map f xs ++ f x ∷ []
map_push f [] x = refl
map_push f (y ∷ xs) x = ap (λ o. f y ∷ o) (map_push f xs x)

words_push : {X : Type 0} (one : List ℕ → Option X) (xs : List X) (x : X) (ts : List Token) (w : List ℕ) → InWords one xs ts → one w ≡ Some x → InWords one (xs ++ x ∷ []) (ts ++ word w ∷ [])
words_push one xs x ts w h is =
    (h.0 ++ w ∷ [], map_push one h.0 w ∙ ap (λ o. o ++ one w ∷ []) h.1 ∙ ap (λ o. map (λ y. Some y) xs ++ o ∷ []) is ∙ sym (map_push (λ y. Some y) xs x), ap (λ o. o ++ word w ∷ []) h.2 ∙ sym (map_push word h.0 w))

pieces_push : (ts : List Token) (t : Token) (octets piece : List ℕ) → InPieces ts octets → IsPiece t piece → InPieces (ts ++ t ∷ []) (octets ++ piece)
pieces_push [] t octets piece h is = (piece, [], is, refl, ap (λ o. o ++ piece) h ∙ sym (append-nil piece))
pieces_push (u ∷ ts) t octets piece h is = (h.0, h.1 ++ piece, h.2, pieces_push ts t h.1 piece h.3 is, ap (λ o. o ++ piece) h.4 ∙ append_assoc h.0 h.1 piece)

-- Holds if these values and the earlier ones have one format, and this is the next token.
pub record IsNext (v more : Values) (ts : List Token) (t : Token) : Type 0 where
  pub tokens : BodyTokens (body_of more) (ts ++ t ∷ [])
  pub format : format_of_values more ≡ format_of_values v

mapped : {X : Type 0} (o : Option X) (g : X → Values) (v : Values) → option_map g o ≡ Some v → (x : X) × (o ≡ Some x) × (g x ≡ v)
mapped (Some x) g v e = (x, refl, cc)
mapped None g v e = cc

next_is : (v more other : Values) (ts : List Token) (t : Token) → other ≡ more → IsNext v other ts t → IsNext v more ts t
next_is v more other ts t e h = let P : Values → Type 0 = λ o. IsNext v o ts t in subst P e h

-- Holds if the words of a format are read one by one.
record IsPacked (s : WordEncoding) (pack : List (IsEncoded s) → Values) : Type 0 where
  can_continue : (xs : List (IsEncoded s)) (w : List ℕ) → with_word (pack xs) w ≡ option_map (λ x. pack (xs ++ x ∷ [])) (encoded_bytes s w)
  body : (xs : List (IsEncoded s)) → body_of (pack xs) ≡ in_words s xs
  format : (xs ys : List (IsEncoded s)) → format_of_values (pack xs) ≡ format_of_values (pack ys)

next_word : (s : WordEncoding) (pack : List (IsEncoded s) → Values) → IsPacked s pack → (xs : List (IsEncoded s)) (more : Values) (ts : List Token) (w : List ℕ) → BodyTokens (body_of (pack xs)) ts → with_word (pack xs) w ≡ Some more → IsNext (pack xs) more ts (word w)
next_word s pack packed xs more ts w h e =
    let x = mapped (encoded_bytes s w) (λ y. pack (xs ++ y ∷ [])) more (sym (packed.can_continue xs w) ∙ e) in
    let P : Body → Type 0 = λ o. BodyTokens o ts in
    let Q : Body → Type 0 = λ o. BodyTokens o (ts ++ word w ∷ []) in
    next_is (pack xs) more (pack (xs ++ x.0 ∷ [])) ts (word w) x.2
    (record { tokens = subst Q (sym (packed.body (xs ++ x.0 ∷ []))) (words_push (encoded_bytes s) xs x.0 ts w (subst P (packed.body xs) h) x.1); format = packed.format (xs ++ x.0 ∷ []) xs })

-- One more word.
pub word_taken : (v more : Values) (ts : List Token) (w : List ℕ) → BodyTokens (body_of v) ts → with_word v w ≡ Some more → IsNext v more ts (word w)
word_taken (ascii xs) more ts w h e =
    let x = mapped (octet_of w) (λ y. ascii (xs ++ y ∷ [])) more e in
    next_is (ascii xs) more (ascii (xs ++ x.0 ∷ [])) ts (word w) x.2 (record { tokens = pieces_push ts (word w) xs (x.0 ∷ []) h (x.0, x.1, refl); format = refl })
word_taken (binary xs) more ts w h e = next_word hex_octet binary (record { can_continue = λ ys u. refl; body = λ ys. refl; format = λ ys zs. refl }) xs more ts w h e
word_taken (boolean xs) more ts w h e = next_word truth_letter boolean (record { can_continue = λ ys u. refl; body = λ ys. refl; format = λ ys zs. refl }) xs more ts w h e
word_taken (jis8 xs) more ts w h e = next_word hex_octet jis8 (record { can_continue = λ ys u. refl; body = λ ys. refl; format = λ ys zs. refl }) xs more ts w h e
word_taken (char2 xs) more ts w h e = next_word hex_octet char2 (record { can_continue = λ ys u. refl; body = λ ys. refl; format = λ ys zs. refl }) xs more ts w h e
word_taken (i1 xs) more ts w h e = next_word (signed_number (2 ^ 7)) i1 (record { can_continue = λ ys u. refl; body = λ ys. refl; format = λ ys zs. refl }) xs more ts w h e
word_taken (i2 xs) more ts w h e = next_word (signed_number (2 ^ 15)) i2 (record { can_continue = λ ys u. refl; body = λ ys. refl; format = λ ys zs. refl }) xs more ts w h e
word_taken (i4 xs) more ts w h e = next_word (signed_number (2 ^ 31)) i4 (record { can_continue = λ ys u. refl; body = λ ys. refl; format = λ ys zs. refl }) xs more ts w h e
word_taken (i8 xs) more ts w h e = next_word (signed_number (2 ^ 63)) i8 (record { can_continue = λ ys u. refl; body = λ ys. refl; format = λ ys zs. refl }) xs more ts w h e
word_taken (u1 xs) more ts w h e = next_word (unsigned_number (2 ^ 8)) u1 (record { can_continue = λ ys u. refl; body = λ ys. refl; format = λ ys zs. refl }) xs more ts w h e
word_taken (u2 xs) more ts w h e = next_word (unsigned_number (2 ^ 16)) u2 (record { can_continue = λ ys u. refl; body = λ ys. refl; format = λ ys zs. refl }) xs more ts w h e
word_taken (u4 xs) more ts w h e = next_word (unsigned_number (2 ^ 32)) u4 (record { can_continue = λ ys u. refl; body = λ ys. refl; format = λ ys zs. refl }) xs more ts w h e
word_taken (u8 xs) more ts w h e = next_word (unsigned_number (2 ^ 64)) u8 (record { can_continue = λ ys u. refl; body = λ ys. refl; format = λ ys zs. refl }) xs more ts w h e
word_taken (f4 xs) more ts w h e = next_word (hex_float 4) f4 (record { can_continue = λ ys u. refl; body = λ ys. refl; format = λ ys zs. refl }) xs more ts w h e
word_taken (f8 xs) more ts w h e = next_word (hex_float 8) f8 (record { can_continue = λ ys u. refl; body = λ ys. refl; format = λ ys zs. refl }) xs more ts w h e

-- One more quoted text.
pub quoted_taken : (v more : Values) (ts : List Token) (text : List ℕ) → BodyTokens (body_of v) ts → with_quoted v text ≡ Some more → IsNext v more ts (quoted text)
quoted_taken (ascii xs) more ts text h e =
    let is : ascii (xs ++ text) ≡ more = cc in
    next_is (ascii xs) more (ascii (xs ++ text)) ts (quoted text) is (record { tokens = pieces_push ts (quoted text) xs text h refl; format = refl })
quoted_taken v more ts text h e = cc

-- One more element.
elements_push : (es : Elements) (v : Value) (ts us : List Token) → ElementTokens es ts → ItemTokens v us → ElementTokens (with_element es v) (ts ++ us)
elements_push no_elements v ts us h item = (us, [], item, refl, ap (λ o. o ++ us) h ∙ sym (append-nil us))
elements_push (element w es) v ts us h item = (h.0, h.1 ++ us, h.2, elements_push es v h.1 us h.3 item, ap (λ o. o ++ us) h.4 ∙ append_assoc h.0 h.1 us)

nest_push : (es : Elements) (v : Value) (k depth : ℕ) → nest_of_elements es + k ≤ depth → nest v + k ≤ depth → nest_of_elements (with_element es v) + k ≤ depth
nest_push no_elements v k depth all one = omega arith
nest_push (element w es) v k depth all one = let rest = nest_push es v k depth (omega arith) one in omega arith

-- ---- an unfinished item

-- Holds if these are the tokens of the content so far.
abbrev pub SoFar : Value → List Token → Type 0
SoFar (list es) ts = ElementTokens es ts
SoFar (values v) ts = BodyTokens (body_of v) ts

abbrev pub Counted : Option Count → List Token → Type 0
Counted None ts = ts ≡ []
Counted (Some c) ts = (w : List ℕ) × (number_below (2 ^ 64) w ≡ Some c.number) × (ts ≡ bracket ∷ word w ∷ bracket_end ∷ [])

pub record OpenedTokens (count : Option Count) (so_far : Value) (ts : List Token) : Type 0 where
  pub name : List ℕ
  pub named : format_named name ≡ Some (format_of so_far)
  pub written : List Token
  pub counted : Counted count written
  pub inner : List Token
  pub holds : SoFar so_far inner
  pub parts : ts ≡ less ∷ word name ∷ written ++ inner

abbrev pub IsList : Value → Type 0
IsList (list es) = Unit {0}
IsList (values v) = ⊥

pub element_taken : (c : Option Count) (so_far v : Value) (ts us : List Token) → IsList so_far → OpenedTokens c so_far ts → ItemTokens v us → OpenedTokens c (with_item so_far v) (ts ++ us)
element_taken c (list es) v ts us is h item = record {
  name = h.name;
  named = h.named;
  written = h.written;
  counted = h.counted;
  inner = h.inner ++ us;
  holds = elements_push es v h.inner us h.holds item;
  parts = ap (λ o. o ++ us) h.parts ∙ append_assoc (less ∷ word h.name ∷ h.written) h.inner us;
}
element_taken c (values w) v ts us is h item = absurd is

pub nest_taken : (so_far v : Value) (k depth : ℕ) → IsList so_far → nest so_far + k ≤ depth → nest v + suc k ≤ depth → nest (with_item so_far v) + k ≤ depth
nest_taken (list es) v k depth is all one = let more = nest_push es v (suc k) depth (omega arith) one in omega arith
nest_taken (values w) v k depth is all one = absurd is

pub value_taken : (c : Option Count) (v more : Values) (ts : List Token) (t : Token) → (h : OpenedTokens c (values v) ts) → ((inner : List Token) → BodyTokens (body_of v) inner → IsNext v more inner t) → OpenedTokens c (values more) (ts ++ t ∷ [])
value_taken c v more ts t h next = record {
  name = h.name;
  named = h.named ∙ ap (λ f. Some f) (sym (next h.inner h.holds).format);
  written = h.written;
  counted = h.counted;
  inner = h.inner ++ t ∷ [];
  holds = (next h.inner h.holds).tokens;
  parts = ap (λ o. o ++ t ∷ []) h.parts ∙ append_assoc (less ∷ word h.name ∷ h.written) h.inner (t ∷ []);
}

-- The written count is right.
right_count : (c : Option Count) (n : ℕ) (ts : List Token) → Counted c ts → is_counted c n ≡ true → CountTokens n ts
right_count None n ts h e = inl h
right_count (Some c) n ts h e = inr (h.0, h.1 ∙ ap (λ o. Some o) (eqb-true c.number n e), h.2)

enclosed : (c : Option Count) (v : Value) (ts : List Token) → (h : OpenedTokens c v ts) → is_counted c (count_of v) ≡ true → Enclosed v h.inner (ts ++ greater ∷ [])
enclosed c v ts h e = record { name = h.name; named = h.named; count = h.written; counted = right_count c (count_of v) h.written h.counted e; parts = ap (λ o. o ++ greater ∷ []) h.parts }

pub item_closed : (c : Option Count) (v : Value) (ts : List Token) → OpenedTokens c v ts → is_counted c (count_of v) ≡ true → ItemTokens v (ts ++ greater ∷ [])
item_closed c (list es) ts h e = (h.inner, h.holds, enclosed c (list es) ts h e)
item_closed c (values v) ts h e = (h.inner, h.holds, enclosed c (values v) ts h e)

-- ---- no content yet

pub format_of_nothing : (f : Format) → format_of (nothing_of f) ≡ f
format_of_nothing format.List = refl
format_of_nothing format.Ascii = refl
format_of_nothing format.Binary = refl
format_of_nothing format.Boolean = refl
format_of_nothing format.Jis8 = refl
format_of_nothing format.Char2 = refl
format_of_nothing format.I1 = refl
format_of_nothing format.I2 = refl
format_of_nothing format.I4 = refl
format_of_nothing format.I8 = refl
format_of_nothing format.U1 = refl
format_of_nothing format.U2 = refl
format_of_nothing format.U4 = refl
format_of_nothing format.U8 = refl
format_of_nothing format.F4 = refl
format_of_nothing format.F8 = refl

pub nothing_so_far : (f : Format) → SoFar (nothing_of f) []
nothing_so_far format.List = refl
nothing_so_far format.Ascii = refl
nothing_so_far format.Binary = ([], refl, refl)
nothing_so_far format.Boolean = ([], refl, refl)
nothing_so_far format.Jis8 = ([], refl, refl)
nothing_so_far format.Char2 = ([], refl, refl)
nothing_so_far format.I1 = ([], refl, refl)
nothing_so_far format.I2 = ([], refl, refl)
nothing_so_far format.I4 = ([], refl, refl)
nothing_so_far format.I8 = ([], refl, refl)
nothing_so_far format.U1 = ([], refl, refl)
nothing_so_far format.U2 = ([], refl, refl)
nothing_so_far format.U4 = ([], refl, refl)
nothing_so_far format.U8 = ([], refl, refl)
nothing_so_far format.F4 = ([], refl, refl)
nothing_so_far format.F8 = ([], refl, refl)
