-- Headers: reading and encoding are inverse.
use Rattle.std.proofs.Common.{◌≡◌, ℕ, zero, suc, ◌+◌, ◌-◌, ◌*◌, ◌/◌, ◌%◌, ◌^◌, ◌<◌, ◌≤◌, Bool, true, false, cond, not, eqb, ltb, List, [], ◌∷◌, ◌++◌, length, take, drop, Option, Some, None, Result, Ok, Err, refl, sym, ap, ◌∙◌, arith, inl, inr, one-add, eq-eqb}
use Rattle.std.specs.Prelude.{◌⊎◌, ◌&&◌}
use Rattle.std.proofs.Math.Dec.{eqb-suc-zero}
use Rattle.std.proofs.lemmas.Bool.{eqb-true, ltb-false, le-ltb, ne_eqb}
use Rattle.std.proofs.lemmas.List.{length-append, take-append-drop, length-take, length-drop}
use Rattle.byteorder.specs.Endian.{big_bytes, big_number}
use Rattle.byteorder.specs.Numbers.{big_from-lt, big_from-take, big_number-reads_back, length-bytes_high_first}
use Rattle.secs_item.specs.declared.format.Format.{Format}
use Rattle.secs_item.specs.declared.format.Format.TheVariants as format
use Rattle.secs_item.specs.Format.{code_of, all_formats, format_among, format_with_code, is_list, value_size}
use Rattle.secs_item.specs.Header.{Reason, no_length, deep, ragged, truncated, Head, checked_body, with_format, header_at}
use Rattle.secs_item.specs.Encoding.{IsOctets, header}
use Rattle.secs_item.proofs.Octets.{IsOctets-take, IsOctets-tail, big_bytes-big_number}

-- ---- checks that passed

guard_ok : {A : Type 0} (b : Bool) (reason : Reason) (r : Result A Reason) (y : A) → cond b (Err reason) r ≡ Ok y → (b ≡ false) × (r ≡ Ok y)
guard_ok true reason r y e = absurd cc
guard_ok false reason r y e = (refl, e)

chosen : {A : Type 0} (b : Bool) (x : A) (r : Option A) (y : A) → cond b (Some x) r ≡ Some y → ((b ≡ true) × (x ≡ y)) ⊎ (r ≡ Some y)
chosen true x r y e = inl (refl, cc)
chosen false x r y e = inr e

body_ok : (lists whole short : Bool) (x y : Head) → cond lists (Ok x) (cond (not whole) (Err ragged) (cond short (Err truncated) (Ok x))) ≡ Ok y → (x ≡ y) × (lists ≡ false → (whole ≡ true) × (short ≡ false))
body_ok true whole short x y e = (cc, λ f. absurd cc)
body_ok false false short x y e = absurd cc
body_ok false true true x y e = absurd cc
body_ok false true false x y e = (cc, λ f. (refl, refl))

pub ok_body : (lists whole short : Bool) (x : Head) → (lists ≡ false → (whole ≡ true) × (short ≡ false)) → cond lists (Ok x) (cond (not whole) (Err ragged) (cond short (Err truncated) (Ok x))) ≡ Ok x
ok_body true whole short x h = refl
ok_body false whole short x h = let p = h refl in rw (p.0, p.1) refl

-- ---- codes

code_among : (fs : List Format) (code : ℕ) (f : Format) → format_among fs code ≡ Some f → code_of f ≡ code
code_among [] code f e = absurd cc
code_among (g ∷ fs) code f e =
    elim (chosen (eqb code (code_of g)) g (format_among fs code) f e) [
      | inl p ↦ ap code_of (sym p.1) ∙ sym (eqb-true code (code_of g) p.0)
      | inr p ↦ code_among fs code f p
    ]

pub format_with_code-code_of : (f : Format) → format_with_code (code_of f) ≡ Some f
unfolding format_with_code
format_with_code-code_of format.List = refl
format_with_code-code_of format.Binary = refl
format_with_code-code_of format.Boolean = refl
format_with_code-code_of format.Ascii = refl
format_with_code-code_of format.Jis8 = refl
format_with_code-code_of format.Char2 = refl
format_with_code-code_of format.I8 = refl
format_with_code-code_of format.I1 = refl
format_with_code-code_of format.I2 = refl
format_with_code-code_of format.I4 = refl
format_with_code-code_of format.F8 = refl
format_with_code-code_of format.F4 = refl
format_with_code-code_of format.U8 = refl
format_with_code-code_of format.U1 = refl
format_with_code-code_of format.U2 = refl
format_with_code-code_of format.U4 = refl

pub code_of_list : format_with_code 0 ≡ Some format.List
code_of_list = format_with_code-code_of format.List

code_is : (code : ℕ) (f : Format) → format_with_code code ≡ Some f → code_of f ≡ code
unfolding format_with_code
code_is code f e = code_among all_formats code f e

-- ---- headers

-- The properties of bytes whose header was read.
pub record IsHeader (depth : ℕ) (octets : List ℕ) (head : Head) : Type 0 where
  pub field : ℕ
  pub one_at_least : 1 ≤ field
  pub three_at_most : field ≤ 3
  pub fits : head.length < 256 ^ field
  pub size : head.size ≡ 1 + field
  pub within : head.size ≤ length octets
  pub parts : octets ≡ header head.format field head.length ++ drop head.size octets
  pub deep_enough : is_list head.format ≡ true → 0 < depth
  pub whole : is_list head.format ≡ false → head.length % value_size head.format ≡ 0
  pub body : is_list head.format ≡ false → head.length ≤ length (drop head.size octets)

not_deep : (lists : Bool) (depth : ℕ) → lists && eqb depth 0 ≡ false → lists ≡ true → 0 < depth
not_deep false depth e f = absurd cc
not_deep true zero e f = absurd cc
not_deep true (suc depth) e f = omega arith

encoded_header : (first : ℕ) (rest : List ℕ) (f : Format) (field : ℕ) → field ≡ first % 4 → code_of f ≡ first / 4 → field ≤ length rest → IsOctets rest
    → first ∷ rest ≡ header f field (big_number field rest) ++ drop (1 + field) (first ∷ rest)
encoded_header first rest f field low code long h =
    let front : 4 * code_of f + field ≡ first = omega (arith, low, code) in
    let len : length (take field rest) ≡ field = omega (arith, length-take field rest) in
    let number : big_number field rest ≡ big_number field (take field rest) = sym (big_from-take 0 field field rest (omega arith)) in
    let octets : big_bytes field (big_number field rest) ≡ take field rest = ap (big_bytes field) number ∙ big_bytes-big_number field (take field rest) len (IsOctets-take field rest h) in
    let past : drop (1 + field) (first ∷ rest) ≡ drop field rest = rw one-add refl in
    rw (front, octets, past) (ap (λ (r : List ℕ). first ∷ r) (sym (take-append-drop field rest)))

formatted : (depth first : ℕ) (rest : List ℕ) (head : Head) (o : Option Format) → format_with_code (first / 4) ≡ o → 0 < first % 4 → IsOctets rest → with_format depth o (first % 4) rest ≡ Ok head → IsHeader depth (first ∷ rest) head
formatted depth first rest head None code some h e = absurd cc
formatted depth first rest head (Some f) code some h e =
    let field = first % 4 in
    let a = guard_ok (is_list f && eqb depth 0) deep (cond (ltb (length rest) field) (Err truncated) (checked_body f field (big_number field rest) (length rest - field))) head e in
    let b = guard_ok (ltb (length rest) field) truncated (checked_body f field (big_number field rest) (length rest - field)) head a.1 in
    let made : Head = record { format = f; size = 1 + field; length = big_number field rest } in
    let c = body_ok (is_list f) (eqb (big_number field rest % value_size f) 0) (ltb (length rest - field) (big_number field rest)) made head b.1 in
    let long : field ≤ length rest = ltb-false (length rest) field b.0 in
    let past : drop (1 + field) (first ∷ rest) ≡ drop field rest = rw one-add refl in
    let is : IsHeader depth (first ∷ rest) made = record {
      field = field;
      one_at_least = omega arith;
      three_at_most = omega arith;
      fits = big_from-lt 0 field rest h;
      size = refl;
      within = omega arith;
      parts = encoded_header first rest f field refl (code_is (first / 4) f code) long h;
      deep_enough = not_deep (is_list f) depth a.0;
      whole = λ lists. eqb-true _ 0 (c.1 lists).0;
      body = λ lists. rw past (omega (arith, ltb-false _ _ (c.1 lists).1, length-drop field rest));
    } in
    rw (← c.0) is

some_field : (n : ℕ) → eqb n 0 ≡ false → 0 < n
some_field zero e = absurd cc
some_field (suc n) e = omega arith

pub header_is : (depth : ℕ) (octets : List ℕ) (head : Head) → IsOctets octets → header_at depth octets ≡ Ok head → IsHeader depth octets head
unfolding header_at
header_is depth [] head h e = absurd cc
header_is depth (first ∷ rest) head h e =
    let a = guard_ok (eqb (first % 4) 0) no_length (with_format depth (format_with_code (first / 4)) (first % 4) rest) head e in
    formatted depth first rest head (format_with_code (first / 4)) refl (some_field (first % 4) a.0) (IsOctets-tail first rest h) a.1

pub is_deep : (lists : Bool) (depth : ℕ) → (lists ≡ true → 0 < depth) → lists && eqb depth 0 ≡ false
is_deep false depth h = refl
is_deep true zero h = absurd (omega (arith, h refl))
is_deep true (suc depth) h = eqb-suc-zero depth

-- An encoded header is read back, whatever follows it.
pub header_reads : (depth : ℕ) (f : Format) (field number : ℕ) (rest : List ℕ) → 1 ≤ field → field ≤ 3 → number < 256 ^ field → (is_list f ≡ true → 0 < depth)
    → (is_list f ≡ false → (number % value_size f ≡ 0) × (number ≤ length rest)) → header_at depth (header f field number ++ rest) ≡ Ok (record { format = f; size = 1 + field; length = number })
unfolding header_at
header_reads depth f field number rest some few fits deep_enough whole =
    let first = 4 * code_of f + field in
    let after = big_bytes field number ++ rest in
    let low : first % 4 ≡ field = omega arith in
    let high : first / 4 ≡ code_of f = omega arith in
    let there : eqb field 0 ≡ false = ne_eqb field 0 (λ e. omega arith) in
    let allowed : is_list f && eqb depth 0 ≡ false = is_deep (is_list f) depth deep_enough in
    let len : length after ≡ field + length rest = length-append (big_bytes field number) rest ∙ ap (λ (n : ℕ). n + length rest) (length-bytes_high_first field number) in
    let long : ltb (length after) field ≡ false = le-ltb (length after) field (omega arith) in
    let value : big_number field after ≡ number = big_number-reads_back field number rest fits in
    let left : length after - field ≡ length rest = omega arith in
    rw (low, high, there, format_with_code-code_of f, allowed, long, value, left)
    (ok_body (is_list f) (eqb (number % value_size f) 0) (ltb (length rest) number) (record { format = f; size = 1 + field; length = number }) (λ lists. (eq-eqb _ 0 (whole lists).0, le-ltb _ _ (whole lists).1)))

-- A list whose length byte is missing.
pub short_list_cut : (depth : ℕ) (rest : List ℕ) → length rest < 1 → 0 < depth → header_at depth (1 ∷ rest) ≡ Err truncated
unfolding header_at
short_list_cut depth [] none some = rw (code_of_list, is_deep true depth (λ e. some)) refl
short_list_cut depth (octet ∷ rest) none some = absurd (omega (arith, none))
