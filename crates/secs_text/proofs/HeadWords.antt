-- Words that name a stream and a function.
use Rattle.std.proofs.Common.{◌≡◌, inl, inr, ℕ, ◌-◌, ◌≤◌, Bool, true, false, ◌&&◌, List, [], ◌∷◌, length, take, drop, get_or, refl, sym, ap, ◌∙◌, arith, if◌then◌else◌}
use Rattle.std.specs.Prelude.{Option, Some, None, ◌⊎◌, nat_lt, ◌==◌, not}
use Rattle.std.specs.List.{list_all}
use Rattle.secs_text.specs.Octets.{is_digit}
use Rattle.std.specs.Str.Parse.{digits_value}
use Rattle.secs_text.specs.Words.{is_numeral, number_below, HeadWord, head_of_numbers, head_of_parts, head, bad_head, no_head}
use Rattle.secs_text.proofs.Numbers.{take_all, not_empty, numeral_digits}

if_some : (a b : Bool) (n m : ℕ) → (if a && b then Some n else None) ≡ Some m → a ≡ true
if_some true b n m e = refl
if_some false b n m e = cc

numeral_of : (limit : ℕ) (w : List ℕ) (n : ℕ) → number_below limit w ≡ Some n → is_numeral w ≡ true
unfolding number_below
numeral_of limit w n e = if_some (is_numeral w) (nat_lt (digits_value 10 w) limit) (digits_value 10 w) n e

numeral_some : (w : List ℕ) → is_numeral w ≡ true → (length w == 0) ≡ false
numeral_some [] e = cc
numeral_some (c ∷ w) e = not_empty c w

-- Both numbers are valid.
both_right : (stream function : List ℕ) (s f : ℕ) → number_below 128 stream ≡ Some s → number_below 256 function ≡ Some f → head s f ≡ head_of_parts stream (70 ∷ function)
both_right stream function s f is_s is_f =
    let a = numeral_of 128 stream s is_s in
    let b = numeral_of 256 function f is_f in
    rw (numeral_some stream a, numeral_some function b, numeral_digits function b, is_s, is_f) refl

pub right_head : (stream rest : List ℕ) (s f : ℕ) → get_or rest 0 0 ≡ 70 → 1 ≤ length rest → number_below 128 stream ≡ Some s → number_below 256 (take (length rest - 1) (drop 1 rest)) ≡ Some f → head s f ≡ head_of_parts stream rest
right_head stream [] s f letter some is_s is_f = absurd (omega arith)
right_head stream (c ∷ function) s f letter some is_s is_f =
    let same : c ≡ 70 = letter in
    let all : take (length (c ∷ function) - 1) function ≡ function = take_all function _ (omega arith) in
    rw same (both_right stream function s f is_s (ap (λ o. number_below 256 o) (sym all) ∙ is_f))

-- A number is invalid.
wrong_numbers : (stream function : List ℕ) (word : HeadWord) → number_below 128 stream ≡ None ⊎ number_below 256 function ≡ None → word ≡ (if not (length stream == 0) && not (length function == 0) && list_all is_digit function then bad_head else no_head)
    → word ≡ head_of_parts stream (70 ∷ function)
wrong_numbers stream function word (inl none) is = is ∙ rw none refl
wrong_numbers stream function word (inr none) is =
    is ∙ ap (λ w. if not (length stream == 0) && not (length function == 0) && list_all is_digit function then w else no_head) (sym (ap (head_of_numbers (number_below 128 stream)) none ∙ second (number_below 128 stream)))
  where
    second : (s : Option ℕ) → head_of_numbers s None ≡ bad_head
    second None = refl
    second (Some s) = refl

pub wrong_head_is : (stream rest function : List ℕ) (word : HeadWord) → get_or rest 0 0 ≡ 70 → 1 ≤ length rest → function ≡ take (length rest - 1) (drop 1 rest) → number_below 128 stream ≡ None ⊎ number_below 256 function ≡ None
    → word ≡ (if not (length stream == 0) && not (length function == 0) && list_all is_digit function then bad_head else no_head) → word ≡ head_of_parts stream rest
wrong_head_is stream [] function word letter some function_is none is = absurd (omega arith)
wrong_head_is stream (c ∷ rest) function word letter some function_is none is =
    let same : c ≡ 70 = letter in
    let all : function ≡ rest = function_is ∙ take_all rest _ (omega arith) in
    rw (same, ← all) (wrong_numbers stream function word none is)
