-- The tokens of concatenated texts.
use Rattle.std.proofs.Common.{◌≡◌, ℕ, suc, ◌+◌, ◌≤◌, Bool, true, false, ◌&&◌, List, [], ◌∷◌, ◌++◌, length, take, drop, map, refl, sym, ap, ◌∙◌, subst, append_assoc, arith, codes, cond}
use Rattle.std.specs.Prelude.{◌==◌, slice_index, nat_lt}
use Rattle.std.specs.List.{list_all, prefix_len}
use Rattle.std.proofs.lemmas.Bool.{eqb-true}
use Rattle.std.proofs.lemmas.Bool.Decides.{nat_tests}
use Rattle.std.proofs.lemmas.List.Folds.{list_all-append}
use Rattle.secs_text.specs.InnerCanonicalTokens.{IsWord, EndsWord}
use Rattle.secs_text.specs.Octets.{is_white, is_of_word, is_quotable}
use Rattle.secs_text.specs.Token.{Token, word, quoted, less, greater, bracket, bracket_end, stop, end, Front, whole, front, quoted_front, with_front, tokens_after, tokens_from}
use Rattle.secs_text.proofs.Completeness.{token_of}
use Rattle.secs_text.proofs.TokenLists.{skipped}

-- Holds if the bytes have these tokens, at every offset.
pub record HasKinds (octets : List ℕ) (ts : List Token) : Type 0 where
  pub kinds : (at : ℕ) → map token_of (tokens_from at octets) ≡ ts

moved : (octets more : List ℕ) (ts us : List Token) → octets ≡ more → ts ≡ us → HasKinds octets ts → HasKinds more us
moved octets more ts us e f h = record { kinds = λ at. ap (λ o. map token_of (tokens_from at o)) (sym e) ∙ h.kinds at ∙ f }

front_step : (at c : ℕ) (octets : List ℕ) → tokens_from at (c ∷ octets) ≡ with_front at (front c octets) (λ more. tokens_after more (at + 1) octets)
unfolding tokens_after
front_step at c octets = refl

pub end_kinds : HasKinds [] (end ∷ [])
unfolding tokens_after
end_kinds = record { kinds = λ at. refl }

white_kinds : (octets : List ℕ) (ts : List Token) → HasKinds octets ts → HasKinds (0x20 ∷ octets) ts
white_kinds octets ts h = record { kinds = λ at. ap (λ o. map token_of o) (front_step at 0x20 octets) ∙ h.kinds (at + 1) }

-- A complete token, and the tokens after it.
whole_kinds : (c n : ℕ) (octets rest : List ℕ) (t : Token) (ts : List Token) → front c octets ≡ whole t n → n ≤ length octets → drop n octets ≡ rest → HasKinds rest ts → HasKinds (c ∷ octets) (t ∷ ts)
whole_kinds c n octets rest t ts e le left h = record {
  kinds = λ at. ap (λ o. map token_of o) (front_step at c octets)
      ∙ ap (λ f. map token_of (with_front at f (λ more. tokens_after more (at + 1) octets))) e
      ∙ ap (λ o. t ∷ map token_of o) (skipped n (at + 1) octets le ∙ ap (λ o. tokens_from (at + 1 + n) o) left)
      ∙ ap (λ o. t ∷ o) (h.kinds (at + 1 + n));
}

-- ---- tokens at the start

prefix_by_first : (p : ℕ → Bool) (c : ℕ) (cs rest : List ℕ) (b : Bool) → p c ≡ b → b && list_all p cs ≡ true → (list_all p cs ≡ true → prefix_len p (cs ++ rest) ≡ length cs) → cond (p c) (1 + prefix_len p (cs ++ rest)) 0 ≡ suc (length cs)
prefix_by_first p c cs rest true is all more = let n = more all in let one : 1 + prefix_len p (cs ++ rest) ≡ suc (length cs) = omega arith in rw is one
prefix_by_first p c cs rest false is all more = cc

pub prefix_front : (p : ℕ → Bool) (cs rest : List ℕ) → list_all p cs ≡ true → prefix_len p rest ≡ 0 → prefix_len p (cs ++ rest) ≡ length cs
prefix_front p [] rest all ends = ends
prefix_front p (c ∷ cs) rest all ends = prefix_by_first p c cs rest (p c) refl all (λ more. prefix_front p cs rest more ends)

pub take_front : (cs rest : List ℕ) → take (length cs) (cs ++ rest) ≡ cs
take_front [] rest = refl
take_front (c ∷ cs) rest = ap (λ o. c ∷ o) (take_front cs rest)

pub drop_front : (cs rest : List ℕ) → drop (length cs) (cs ++ rest) ≡ rest
drop_front [] rest = refl
drop_front (c ∷ cs) rest = drop_front cs rest

length_front : (cs rest : List ℕ) → length cs ≤ length (cs ++ rest)
length_front [] rest = omega arith
length_front (c ∷ cs) rest = let le = length_front cs rest in omega arith

not_that : (k c : ℕ) → is_of_word k ≡ false → is_of_word c ≡ true → (c == k) ≡ false
not_that k c no_word is = by_same (c == k) refl
  where
    by_same : (b : Bool) → (c == k) ≡ b → b ≡ false
    by_same true e = let same = ap is_of_word (eqb-true c k e) in cc
    by_same false e = refl

no_white : (c : ℕ) → is_of_word c ≡ true → is_white c ≡ false
no_white c is =
    let a = not_that 0x20 c refl is in
    let b = not_that 0x09 c refl is in
    let d = not_that 0x0D c refl is in
    let e = not_that 0x0A c refl is in
    rw (a, b, d, e) refl

front_word : (c : ℕ) (octets : List ℕ) → is_of_word c ≡ true → front c octets ≡ whole (word (c ∷ take (prefix_len is_of_word octets) octets)) (prefix_len is_of_word octets)
front_word c octets is =
    let space = no_white c is in
    let quote = not_that 0x22 c refl is in
    let opening = not_that 0x3C c refl is in
    let closing = not_that 0x3E c refl is in
    let counting = not_that 0x5B c refl is in
    let counted = not_that 0x5D c refl is in
    let point = not_that 0x2E c refl is in
    rw (space, quote, opening, closing, counting, counted, point, is) refl

first_of_word : (c : ℕ) (cs : List ℕ) (b : Bool) → is_of_word c ≡ b → b && list_all is_of_word cs ≡ true → (is_of_word c ≡ true) × (list_all is_of_word cs ≡ true)
first_of_word c cs true is e = (is, e)
first_of_word c cs false is e = cc

-- A word, and the tokens after it.
pub word_here : (at : ℕ) (w rest : List ℕ) → IsWord w → EndsWord rest → tokens_from at (w ++ rest) ≡ record { at = at; token = word w } ∷ tokens_from (at + length w) rest
word_here at [] rest is ends = absurd (let some = is.some in omega arith)
word_here at (c ∷ cs) rest is ends =
    let parts = first_of_word c cs (is_of_word c) refl is.all in
    let n = prefix_front is_of_word cs rest parts.1 ends in
    let octets = cs ++ rest in
    let fronted : front c octets ≡ whole (word (c ∷ cs)) (length cs) = front_word c octets parts.0 ∙ ap (λ k. whole (word (c ∷ take k octets)) k) n ∙ ap (λ o. whole (word (c ∷ o)) (length cs)) (take_front cs rest) in
    let place : at + 1 + length cs ≡ at + suc (length cs) = omega arith in
    front_step at c octets
    ∙ ap (λ f. with_front at f (λ more. tokens_after more (at + 1) octets)) fronted
    ∙ ap (λ ts. record { at = at; token = word (c ∷ cs) } ∷ ts) (skipped (length cs) (at + 1) octets (length_front cs rest) ∙ ap (λ o. tokens_from (at + 1 + length cs) o) (drop_front cs rest) ∙ ap (λ k. tokens_from k rest) place)

pub word_kinds : (w rest : List ℕ) (ts : List Token) → IsWord w → EndsWord rest → HasKinds rest ts → HasKinds (w ++ rest) (word w ∷ ts)
word_kinds w rest ts is ends h = record { kinds = λ at. ap (λ o. map token_of o) (word_here at w rest is ends) ∙ ap (λ o. word w ∷ o) (h.kinds (at + length w)) }

at_front : (q rest : List ℕ) (c : ℕ) → slice_index (q ++ c ∷ rest) (length q) ≡ c
at_front [] rest c = refl
at_front (d ∷ q) rest c = at_front q rest c

after_quote : (q rest : List ℕ) (c : ℕ) → drop (length q + 1) (q ++ c ∷ rest) ≡ rest
after_quote [] rest c = refl
after_quote (d ∷ q) rest c = let e : suc (length q) + 1 ≡ suc (length q + 1) = omega arith in ap (λ k. drop k (d ∷ (q ++ c ∷ rest))) e ∙ after_quote q rest c

quote_within : (q rest : List ℕ) (c : ℕ) → length q + 1 ≤ length (q ++ c ∷ rest)
quote_within [] rest c = omega arith
quote_within (d ∷ q) rest c = let le = quote_within q rest c in omega arith

quoted_kinds : (q rest : List ℕ) (ts : List Token) → list_all is_quotable q ≡ true → HasKinds rest ts → HasKinds (0x22 ∷ (q ++ 0x22 ∷ rest)) (quoted q ∷ ts)
quoted_kinds q rest ts all h =
    let octets = q ++ 0x22 ∷ rest in
    let n = prefix_front is_quotable q (0x22 ∷ rest) all refl in
    let closes : (slice_index octets (length q) == 0x22) ≡ true = ap (λ c. c == 0x22) (at_front q rest 0x22) in
    let one : Front = whole (quoted (take (length q) octets)) (length q + 1) in
    let fronted : front 0x22 octets ≡ whole (quoted q) (length q + 1) =
    ap (λ k. quoted_front octets k) n ∙ rw closes (ap (λ o. whole (quoted o) (length q + 1)) (take_front q (0x22 ∷ rest))) in
    whole_kinds 0x22 (length q + 1) octets rest (quoted q) ts fronted (quote_within q rest 0x22) (after_quote q rest 0x22) h

-- ---- ASCII texts

abbrev pub is_low : ℕ → Bool
is_low c = nat_lt c 128

pub both_true : (a b : Bool) → a ≡ true → b ≡ true → a && b ≡ true
both_true true b e f = f
both_true false b e f = cc

split_true : (a b : Bool) → a && b ≡ true → (a ≡ true) × (b ≡ true)
split_true true b e = (refl, e)
split_true false b e = cc

all_low : (p : ℕ → Bool) → ((c : ℕ) → p c ≡ true → is_low c ≡ true) → (cs : List ℕ) → list_all p cs ≡ true → list_all is_low cs ≡ true
all_low p low [] all = refl
all_low p low (c ∷ cs) all =
    let parts = split_true (p c) (list_all p cs) all in
    both_true (is_low c) (list_all is_low cs) (low c parts.0) (all_low p low cs parts.1)

word_low : (c : ℕ) → is_of_word c ≡ true → is_low c ≡ true
word_low c is = grind (arith, nat_tests)

quotable_low : (c : ℕ) → is_quotable c ≡ true → is_low c ≡ true
quotable_low c is = grind (arith, nat_tests)

pub low_word : (w : List ℕ) → list_all is_of_word w ≡ true → list_all is_low w ≡ true
low_word w all = all_low is_of_word word_low w all

pub low_both : (a b : List ℕ) → list_all is_low a ≡ true → list_all is_low b ≡ true → list_all is_low (a ++ b) ≡ true
low_both a b first second = list_all-append is_low a b ∙ both_true _ _ first second

-- ---- concatenated texts

-- Holds if the bytes are ASCII and have these tokens, provided that no byte of a word follows them.
pub record Prints (octets : List ℕ) (ps : List Token) : Type 0 where
  pub low : list_all is_low octets ≡ true
  pub starts : (rest : List ℕ) → EndsWord rest → EndsWord (octets ++ rest)
  pub printed : (rest : List ℕ) (ts : List Token) → EndsWord rest → HasKinds rest ts → HasKinds (octets ++ rest) (ps ++ ts)

pub prints_none : Prints [] []
prints_none = record { low = refl; starts = λ rest e. e; printed = λ rest ts e h. h }

pub prints_along : {octets more : List ℕ} {ps : List Token} → octets ≡ more → Prints octets ps → Prints more ps
prints_along {octets} {more} {ps} e h = let P : List ℕ → Type 0 = λ o. Prints o ps in subst P e h

pub prints_both : {a b : List ℕ} {ps qs : List Token} → Prints a ps → Prints b qs → Prints (a ++ b) (ps ++ qs)
prints_both {a} {b} {ps} {qs} first second = record {
  low = low_both a b first.low second.low;
  starts = λ rest e. ap (λ o. prefix_len is_of_word o) (append_assoc a b rest) ∙ first.starts (b ++ rest) (second.starts rest e);
  printed = λ rest ts e h. moved (a ++ (b ++ rest)) ((a ++ b) ++ rest) (ps ++ (qs ++ ts)) ((ps ++ qs) ++ ts) (sym (append_assoc a b rest)) (sym (append_assoc ps qs ts)) (first.printed (b ++ rest) (qs ++ ts) (second.starts rest e) (second.printed rest ts e h));
}

-- A word after a space.
pub prints_word : (w : List ℕ) → IsWord w → Prints (codes " " ++ w) (word w ∷ [])
prints_word w is = record { low = low_word w is.all; starts = λ rest e. refl; printed = λ rest ts e h. white_kinds (w ++ rest) (word w ∷ ts) (word_kinds w rest ts is e h) }

pub prints_opening : (w : List ℕ) → IsWord w → Prints (codes "<" ++ w) (less ∷ word w ∷ [])
prints_opening w is = record { low = low_word w is.all; starts = λ rest e. refl; printed = λ rest ts e h. whole_kinds 0x3C 0 (w ++ rest) (w ++ rest) less (word w ∷ ts) refl (omega arith) refl (word_kinds w rest ts is e h) }

bracket_end_kinds : (rest : List ℕ) (ts : List Token) → HasKinds rest ts → HasKinds (0x5D ∷ rest) (bracket_end ∷ ts)
bracket_end_kinds rest ts h = whole_kinds 0x5D 0 rest rest bracket_end ts refl (omega arith) refl h

pub prints_count : (w : List ℕ) → IsWord w → Prints (codes " [" ++ (w ++ codes "]")) (bracket ∷ word w ∷ bracket_end ∷ [])
prints_count w is = record {
  low = low_both w (codes "]") (low_word w is.all) refl;
  starts = λ rest e. refl;
  printed = λ rest ts e h. moved (0x20 ∷ 0x5B ∷ (w ++ (0x5D ∷ rest))) (0x20 ∷ 0x5B ∷ ((w ++ codes "]") ++ rest)) _ _ (ap (λ o. 0x20 ∷ 0x5B ∷ o) (sym (append_assoc w (codes "]") rest))) refl
      (white_kinds _ _ (whole_kinds 0x5B 0 _ _ bracket (word w ∷ bracket_end ∷ ts) refl (omega arith) refl (word_kinds w (0x5D ∷ rest) (bracket_end ∷ ts) is refl (bracket_end_kinds rest ts h))));
}

pub prints_close : Prints (codes ">") (greater ∷ [])
prints_close = record { low = refl; starts = λ rest e. refl; printed = λ rest ts e h. whole_kinds 0x3E 0 rest rest greater ts refl (omega arith) refl h }

pub prints_space : {octets : List ℕ} {ps : List Token} → Prints octets ps → Prints (codes " " ++ octets) ps
prints_space {octets} {ps} h = record { low = h.low; starts = λ rest e. refl; printed = λ rest ts e k. white_kinds (octets ++ rest) (ps ++ ts) (h.printed rest ts e k) }

pub prints_stop : Prints (codes " .") (stop ∷ [])
prints_stop = record { low = refl; starts = λ rest e. refl; printed = λ rest ts e h. white_kinds (0x2E ∷ rest) (stop ∷ ts) (whole_kinds 0x2E 0 rest rest stop ts refl (omega arith) refl h) }

pub prints_quoted : (q : List ℕ) → list_all is_quotable q ≡ true → Prints (0x20 ∷ 0x22 ∷ (q ++ 0x22 ∷ [])) (quoted q ∷ [])
prints_quoted q all = record {
  low = low_both q (0x22 ∷ []) (all_low is_quotable quotable_low q all) refl;
  starts = λ rest e. refl;
  printed = λ rest ts e h. white_kinds _ _ (moved (0x22 ∷ (q ++ 0x22 ∷ rest)) (0x22 ∷ ((q ++ 0x22 ∷ []) ++ rest)) _ _ (ap (λ o. 0x22 ∷ o) (sym (append_assoc q (0x22 ∷ []) rest))) refl (quoted_kinds q rest ts all h));
}
