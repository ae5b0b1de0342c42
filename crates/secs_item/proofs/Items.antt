-- Items: reading and encoding are inverse.
use Rattle.std.proofs.Common.{◌≡◌, ℕ, zero, suc, ◌+◌, ◌-◌, ◌%◌, ◌<◌, ◌≤◌, Bool, true, false, List, [], ◌++◌, length, take, drop, Result, Ok, Err, refl, sym, ap, ◌∙◌, subst, arith, append_assoc}
use Rattle.std.proofs.lemmas.List.{length-append, length-take, drop_at, take-append-drop}
use Rattle.byteorder.specs.Endian.{big_bytes}
use Rattle.byteorder.specs.Numbers.{length-bytes_high_first}
use Rattle.secs_item.specs.declared.format.Format.{Format}
use Rattle.secs_item.specs.declared.format.Format.TheVariants as format
use Rattle.secs_item.specs.Format.{is_list, value_size}
use Rattle.secs_item.specs.Item.{Value, list, values, Elements, no_elements, element, count, nest, nest_of_elements}
use Rattle.secs_item.specs.Header.{Reason, Head, header_at}
use Rattle.secs_item.specs.Encoding.{IsOctets, header, EncodesTo, AllEncoded}
use Rattle.secs_item.specs.Decoding.{values_of}
use Rattle.secs_item.specs.InnerDecoding.{Fault, ◌>>=◌, subsequent, elements_by, item_by, item_at}
use Rattle.secs_item.proofs.Octets.{IsOctets-drop, IsOctets-rest, IsOctets-take}
use Rattle.secs_item.proofs.Bodies.{body_encoded}
use Rattle.secs_item.proofs.Headers.{IsHeader, header_is}

-- ---- steps that succeeded

pub bind_ok : {A B : Type 0} (r : Result A Fault) (f : A → Result B Fault) (y : B) → (r >>= f) ≡ Ok y → (x : A) × (r ≡ Ok x) × (f x ≡ Ok y)
bind_ok (Ok x) f y e = (x, refl, e)
bind_ok (Err d) f y e = absurd cc

pub subsequent_ok : {A : Type 0} (size : ℕ) (r : Result A Fault) (y : A) → subsequent size r ≡ Ok y → r ≡ Ok y
subsequent_ok size (Ok x) y e = e
subsequent_ok size (Err d) y e = absurd cc

-- ---- the result of reading from the start

pub record IsItem (depth : ℕ) (octets : List ℕ) (v : Value) (n : ℕ) : Type 0 where
  pub encoded_bytes : List ℕ
  pub rest : List ℕ
  pub parts : octets ≡ encoded_bytes ++ rest
  pub length_is : length encoded_bytes ≡ n
  pub encodes_to : EncodesTo v encoded_bytes
  pub nesting : nest v ≤ depth

pub record AreElements (depth number : ℕ) (octets : List ℕ) (es : Elements) (n : ℕ) : Type 0 where
  pub encoded_bytes : List ℕ
  pub rest : List ℕ
  pub parts : octets ≡ encoded_bytes ++ rest
  pub length_is : length encoded_bytes ≡ n
  pub encodes_to : AllEncoded es encoded_bytes
  pub count_is : count es ≡ number
  pub nesting : nest_of_elements es ≤ depth

abbrev pub ElementFound : ℕ → (List ℕ → Result (Value × ℕ) Fault) → Type 0
ElementFound depth one = (octets : List ℕ) (x : Value × ℕ) → IsOctets octets → one octets ≡ Ok x → IsItem depth octets x.0 x.1

abbrev pub ElementsFound : ℕ → (ℕ → List ℕ → Result (Elements × ℕ) Fault) → Type 0
ElementsFound depth inner = (number : ℕ) (octets : List ℕ) (x : Elements × ℕ) → IsOctets octets → inner number octets ≡ Ok x → AreElements depth number octets x.0 x.1

elements_found : (depth : ℕ) (one : List ℕ → Result (Value × ℕ) Fault) → ElementFound depth one → ElementsFound depth (elements_by one)
unfolding elements_by
elements_found depth one found zero octets x h e =
    let made : ◌≡◌ {A = Elements × ℕ} (no_elements, 0) x = cc in
    subst (λ (y : Elements × ℕ). AreElements depth 0 octets y.0 y.1) made (record { encoded_bytes = []; rest = octets; parts = refl; length_is = refl; encodes_to = refl; count_is = refl; nesting = omega arith })
elements_found depth one found (suc number) octets x h e =
    let a = bind_ok (one octets) (λ first. subsequent first.1 (elements_by one number (drop first.1 octets)) >>= λ others. Ok (element first.0 others.0, first.1 + others.1)) x e in
    let first = found octets a.0 h a.1 in
    let past : drop a.0.1 octets ≡ first.rest = ap (λ (o : List ℕ). drop a.0.1 o) first.parts ∙ drop_at first.encoded_bytes first.rest a.0.1 first.length_is in
    let b = bind_ok (subsequent a.0.1 (elements_by one number (drop a.0.1 octets))) (λ others. Ok (element a.0.0 others.0, a.0.1 + others.1)) x a.2 in
    let read : elements_by one number first.rest ≡ Ok b.0 = ap (elements_by one number) (sym past) ∙ subsequent_ok a.0.1 _ b.0 b.1 in
    let others = elements_found depth one found number first.rest b.0 (IsOctets-rest octets first.encoded_bytes first.rest first.parts h) read in
    let made : ◌≡◌ {A = Elements × ℕ} (element a.0.0 b.0.0, a.0.1 + b.0.1) x = cc in
    subst (λ (y : Elements × ℕ). AreElements depth (suc number) octets y.0 y.1) made (record {
      encoded_bytes = first.encoded_bytes ++ others.encoded_bytes;
      rest = others.rest;
      parts = first.parts ∙ ap (λ (o : List ℕ). first.encoded_bytes ++ o) others.parts ∙ sym (append_assoc first.encoded_bytes others.encoded_bytes others.rest);
      length_is = length-append first.encoded_bytes others.encoded_bytes ∙ omega (arith, first.length_is, others.length_is);
      encodes_to = (first.encoded_bytes, others.encoded_bytes, first.encodes_to, others.encodes_to, refl);
      count_is = ap suc others.count_is;
      nesting = omega (arith, first.nesting, others.nesting);
    })

-- The length of a header and a body in bytes.
pub framed_length : (f : Format) (field number : ℕ) (body : List ℕ) → length (header f field number ++ body) ≡ 1 + field + length body
framed_length f field number body = omega (arith, length-append (big_bytes field number) body, length-bytes_high_first field number)

list_found : (depth : ℕ) (octets : List ℕ) (head : Head) (y : Elements × ℕ) → IsHeader depth octets head → is_list head.format ≡ true → head.format ≡ format.List
    → AreElements (depth - 1) head.length (drop head.size octets) y.0 y.1 → IsItem depth octets (list y.0) (head.size + y.1)
list_found depth octets head y is lists of_list found = record {
  encoded_bytes = header format.List is.field head.length ++ found.encoded_bytes;
  rest = found.rest;
  parts = is.parts ∙ ap (λ (f : Format). header f is.field head.length ++ drop head.size octets) of_list ∙ ap (λ (o : List ℕ). header format.List is.field head.length ++ o) found.parts ∙ sym (append_assoc (header format.List is.field head.length) found.encoded_bytes found.rest);
  length_is = framed_length format.List is.field head.length found.encoded_bytes ∙ omega (arith, is.size, found.length_is);
  encodes_to = (found.encoded_bytes, found.encodes_to, record { field = is.field; one_at_least = is.one_at_least; three_at_most = is.three_at_most; fits = rw found.count_is is.fits; parts = rw found.count_is refl });
  nesting = let some = is.deep_enough lists in omega (arith, found.nesting, some);
}

values_found : (depth : ℕ) (octets : List ℕ) (head : Head) → IsOctets octets → IsHeader depth octets head → is_list head.format ≡ false
    → IsItem depth octets (values (values_of head.format (take head.length (drop head.size octets)))) (head.size + head.length)
values_found depth octets head h is lists =
    let left = drop head.size octets in
    let body = take head.length left in
    let len : length body ≡ head.length = omega (arith, length-take head.length left, is.body lists) in
    let p = body_encoded head.format body lists (ap (λ (n : ℕ). n % value_size head.format) len ∙ is.whole lists) (IsOctets-take head.length left (IsOctets-drop head.size octets h)) in
    record {
      encoded_bytes = header head.format is.field head.length ++ body;
      rest = drop head.length left;
      parts = is.parts ∙ ap (λ (o : List ℕ). header head.format is.field head.length ++ o) (sym (take-append-drop head.length left)) ∙ sym (append_assoc (header head.format is.field head.length) body (drop head.length left));
      length_is = framed_length head.format is.field head.length body ∙ omega (arith, is.size, len);
      encodes_to = (body, p.0, record { field = is.field; one_at_least = is.one_at_least; three_at_most = is.three_at_most; fits = rw len is.fits; parts = rw (p.1, len) refl });
      nesting = omega arith;
    }

pub is_format_list : (f : Format) → is_list f ≡ true → f ≡ format.List
is_format_list format.List e = refl
is_format_list format.Binary e = absurd cc
is_format_list format.Boolean e = absurd cc
is_format_list format.Ascii e = absurd cc
is_format_list format.Jis8 e = absurd cc
is_format_list format.Char2 e = absurd cc
is_format_list format.I8 e = absurd cc
is_format_list format.I1 e = absurd cc
is_format_list format.I2 e = absurd cc
is_format_list format.I4 e = absurd cc
is_format_list format.F8 e = absurd cc
is_format_list format.F4 e = absurd cc
is_format_list format.U8 e = absurd cc
is_format_list format.U1 e = absurd cc
is_format_list format.U2 e = absurd cc
is_format_list format.U4 e = absurd cc

by_found : (depth : ℕ) (inner : ℕ → List ℕ → Result (Elements × ℕ) Fault) → (0 < depth → ElementsFound (depth - 1) inner) → (octets : List ℕ) (x : Value × ℕ) (r : Result Head Reason) → IsOctets octets → header_at depth octets ≡ r
    → item_by inner octets r ≡ Ok x → IsItem depth octets x.0 x.1
unfolding item_by
by_found depth inner found octets x (Err reason) h is e = absurd cc
by_found depth inner found octets x (Ok head) h is e = by_kind (is_list head.format) refl
  where
    known : IsHeader depth octets head
    known = header_is depth octets head h is

    by_kind : (b : Bool) → is_list head.format ≡ b → IsItem depth octets x.0 x.1
    by_kind true lists =
        let a = bind_ok (subsequent head.size (inner head.length (drop head.size octets))) (λ y. Ok (list y.0, head.size + y.1)) x (rw lists at e) in
        let read = subsequent_ok head.size (inner head.length (drop head.size octets)) a.0 a.1 in
        let made : ◌≡◌ {A = Value × ℕ} (list a.0.0, head.size + a.0.1) x = cc in
        subst (λ (y : Value × ℕ). IsItem depth octets y.0 y.1) made
        (list_found depth octets head a.0 known lists (is_format_list head.format lists) (found (known.deep_enough lists) head.length (drop head.size octets) a.0 (IsOctets-drop head.size octets h) read))
    by_kind false lists =
        let e' = rw lists at e in
        let made : ◌≡◌ {A = Value × ℕ} (values (values_of head.format (take head.length (drop head.size octets))), head.size + head.length) x = cc in
        subst (λ (y : Value × ℕ). IsItem depth octets y.0 y.1) made (values_found depth octets head h known lists)

-- An item that is read from the start is encoded there.
pub item_found : (depth : ℕ) (octets : List ℕ) (x : Value × ℕ) → IsOctets octets → item_at depth octets ≡ Ok x → IsItem depth octets x.0 x.1
unfolding item_at
item_found zero octets x h e = by_found 0 (λ n rest. Ok (no_elements, 0)) (λ lt. absurd (omega arith)) octets x (header_at 0 octets) h refl e
item_found (suc depth) octets x h e =
    by_found (suc depth) (elements_by (item_at depth)) (λ lt. let less : suc depth - 1 ≡ depth = omega arith in rw less (elements_found depth (item_at depth) (λ o y k f. item_found depth o y k f))) octets x (header_at (suc depth) octets) h refl e
