-- Decoding of an encoding, whatever bytes follow.
use Rattle.std.proofs.Common.{◌≡◌, ℕ, zero, suc, ◌+◌, ◌<◌, ◌≤◌, true, false, List, ◌++◌, length, drop, Result, Ok, refl, sym, ap, ◌∙◌, subst, arith, append_assoc}
use Rattle.std.proofs.lemmas.List.{length-append, take_at, drop_at}
use Rattle.byteorder.specs.Numbers.{length-bytes_high_first}
use Rattle.secs_item.specs.declared.format.Format.{Format}
use Rattle.secs_item.specs.declared.format.Format.TheVariants as format
use Rattle.secs_item.specs.Format.{is_list}
use Rattle.secs_item.specs.Item.{Value, list, values, Values, binary, boolean, ascii, jis8, char2, i8, i1, i2, i4, f8, f4, u8, u1, u2, u4, Elements, no_elements, element, count, nest, nest_of_elements, format_of_values}
use Rattle.secs_item.specs.Header.{header_at}
use Rattle.secs_item.specs.Encoding.{Body, header, Framed, EncodesTo, AllEncoded}
use Rattle.secs_item.specs.InnerDecoding.{Fault, elements_by, item_by, item_at}
use Rattle.secs_item.proofs.Bodies.{body_reads}
use Rattle.secs_item.proofs.Headers.{header_reads}
use Rattle.secs_item.proofs.Items.{framed_length}
use Rattle.secs_item.proofs.Lengths.{at_any_depth}

not_list : (v : Values) → is_list (format_of_values v) ≡ false
not_list (binary xs) = refl
not_list (boolean xs) = refl
not_list (ascii xs) = refl
not_list (jis8 xs) = refl
not_list (char2 xs) = refl
not_list (i8 xs) = refl
not_list (i1 xs) = refl
not_list (i2 xs) = refl
not_list (i4 xs) = refl
not_list (f8 xs) = refl
not_list (f4 xs) = refl
not_list (u8 xs) = refl
not_list (u1 xs) = refl
not_list (u2 xs) = refl
not_list (u4 xs) = refl

-- A header with its body, followed by more bytes.
framed_front : (f : Format) (number : ℕ) (body octets rest : List ℕ) (framed : Framed f number body octets) → octets ++ rest ≡ header f framed.field number ++ (body ++ rest)
framed_front f number body octets rest framed =
    ap (λ (o : List ℕ). o ++ rest) framed.parts ∙ append_assoc (header f framed.field number) body rest

header_length : (f : Format) (field number : ℕ) → length (header f field number) ≡ 1 + field
header_length f field number = omega (arith, length-bytes_high_first field number)

values_by : (inner : ℕ → List ℕ → Result (Elements × ℕ) Fault) (depth : ℕ) (v : Values) (body octets rest : List ℕ) → Body v body → Framed (format_of_values v) (length body) body octets
    → item_by inner (octets ++ rest) (header_at depth (octets ++ rest)) ≡ Ok (values v, length octets)
unfolding item_by
values_by inner depth v body octets rest encodes_to framed =
    let f = format_of_values v in
    let n = length body in
    let front = header f framed.field n in
    let is = body_reads v body encodes_to in
    let parts = framed_front f n body octets rest framed in
    let long : n ≤ length (body ++ rest) = omega (arith, length-append body rest) in
    let read : header_at depth (octets ++ rest) ≡ Ok (record { format = f; size = 1 + framed.field; length = n }) =
    ap (header_at depth) parts ∙ header_reads depth f framed.field n (body ++ rest) framed.one_at_least framed.three_at_most framed.fits (λ e. absurd (differ e)) (λ e. (is.whole, long)) in
    let left : drop (1 + framed.field) (octets ++ rest) ≡ body ++ rest = ap (λ (o : List ℕ). drop (1 + framed.field) o) parts ∙ drop_at front (body ++ rest) (1 + framed.field) (header_length f framed.field n) in
    let size : 1 + framed.field + n ≡ length octets = sym (ap length framed.parts ∙ framed_length f framed.field n body) in
    rw (read, not_list v, left, take_at body rest n refl, is.read_is, size) refl
  where
    differ : is_list (format_of_values v) ≡ true → ⊥
    differ e = let f = not_list v in cc

list_by : (inner : ℕ → List ℕ → Result (Elements × ℕ) Fault) (depth : ℕ) (es : Elements) (body octets rest : List ℕ) → 0 < depth → Framed format.List (count es) body octets
    → inner (count es) (body ++ rest) ≡ Ok (es, length body) → item_by inner (octets ++ rest) (header_at depth (octets ++ rest)) ≡ Ok (list es, length octets)
unfolding item_by
list_by inner depth es body octets rest deep framed read =
    let n = count es in
    let front = header format.List framed.field n in
    let parts = framed_front format.List n body octets rest framed in
    let header_read : header_at depth (octets ++ rest) ≡ Ok (record { format = format.List; size = 1 + framed.field; length = n }) =
    ap (header_at depth) parts ∙ header_reads depth format.List framed.field n (body ++ rest) framed.one_at_least framed.three_at_most framed.fits (λ e. deep) (λ e. absurd cc) in
    let left : drop (1 + framed.field) (octets ++ rest) ≡ body ++ rest = ap (λ (o : List ℕ). drop (1 + framed.field) o) parts ∙ drop_at front (body ++ rest) (1 + framed.field) (header_length format.List framed.field n) in
    let size : 1 + framed.field + length body ≡ length octets = sym (ap length framed.parts ∙ framed_length format.List framed.field n body) in
    rw (header_read, left, read, size) refl

-- The elements, followed by more bytes.
element_by : (one : List ℕ → Result (Value × ℕ) Fault) (v : Value) (es : Elements) (first others rest : List ℕ) → one (first ++ (others ++ rest)) ≡ Ok (v, length first)
    → elements_by one (count es) (others ++ rest) ≡ Ok (es, length others) → elements_by one (count (element v es)) ((first ++ others) ++ rest) ≡ Ok (element v es, length (first ++ others))
unfolding elements_by
element_by one v es first others rest is read =
    let regrouped : (first ++ others) ++ rest ≡ first ++ (others ++ rest) = append_assoc first others rest in
    let left : drop (length first) (first ++ (others ++ rest)) ≡ others ++ rest = drop_at first (others ++ rest) (length first) refl in
    rw (regrouped, is, left, read, length-append first others) refl

mutual
  unfolding item_at elements_by

  pub item_reads : (v : Value) (depth : ℕ) (octets rest : List ℕ) → EncodesTo v octets → nest v ≤ depth → item_at depth (octets ++ rest) ≡ Ok (v, length octets)
  item_reads (values v) depth octets rest h deep =
      at_any_depth (λ (r : Result (Value × ℕ) Fault). r ≡ Ok (values v, length octets)) depth (octets ++ rest) (λ inner. values_by inner depth v h.0 octets rest h.1 h.2)
  item_reads (list es) zero octets rest h deep = absurd (omega arith)
  item_reads (list es) (suc depth) octets rest h deep =
      list_by (elements_by (item_at depth)) (suc depth) es h.0 octets rest (omega arith) h.2 (elements_read es depth h.0 rest h.1 (omega arith))

  pub elements_read : (es : Elements) (depth : ℕ) (octets rest : List ℕ) → AllEncoded es octets → nest_of_elements es ≤ depth → elements_by (item_at depth) (count es) (octets ++ rest) ≡ Ok (es, length octets)
  elements_read no_elements depth octets rest h deep = rw h refl
  elements_read (element v es) depth octets rest h deep =
      let a = item_reads v depth h.0 (h.1 ++ rest) h.2 (omega arith) in
      let b = elements_read es depth h.1 rest h.3 (omega arith) in
      subst (λ (o : List ℕ). elements_by (item_at depth) (count (element v es)) (o ++ rest) ≡ Ok (element v es, length o)) (sym h.4) (element_by (item_at depth) v es h.0 h.1 rest a b)
