use Rattle.std.proofs.Common.{◌≡◌, ◌≤◌, ◌<◌, ◌+◌, ◌++◌, ℕ, List, [], ◌∷◌, length, length-append, take, drop, get_or, insert, refl, sym, ap, ◌∙◌, append_assoc, arith, false, true, ◌^◌}
use Rattle.std.specs.Prelude.{nat_lt}
use Rattle.std.proofs.lemmas.Bool.{le-ltb, lt-ltb}
use Rattle.std.proofs.lemmas.List.{get_or-take, length-take-le, take_at, drop_at}
use Rattle.secs_item.specs.ShortestEncoding.{field_of}
use Rattle.secs_item.specs.Encoding.{header}
use Rattle.secs_item.proofs.header_patch.patch_long_header.Goals as goal

field_two : (n : ℕ) → 256 ≤ n → n < 65536 → field_of n ≡ 2
field_two n more less =
    let first : nat_lt n 256 ≡ false = le-ltb n 256 more in
    let second : nat_lt n (256 ^ 2) ≡ true = lt-ltb n (256 ^ 2) less in
    rw (first, second) refl

field_three : (n : ℕ) → 65536 ≤ n → field_of n ≡ 3
field_three n more =
    let first : nat_lt n 256 ≡ false = le-ltb n 256 (omega arith) in
    let second : nat_lt n (256 ^ 2) ≡ false = le-ltb n (256 ^ 2) more in
    rw (first, second) refl

-- A byte is inserted after these bytes.
inserted : (front back now : List ℕ) (i octet : ℕ) → now ≡ front ++ back → length front ≡ i → insert now i octet ≡ front ++ octet ∷ back
inserted front back now i octet is long = rw (is, take_at front back i long, drop_at front back i long) refl

-- One of the first `n` bytes.
octet_of : (octets all : List ℕ) (n i : ℕ) → take n octets ≡ all → i < n → get_or octets i 0 ≡ get_or all i 0
octet_of octets all n i is less = sym (get_or-take n octets i 0 less) ∙ ap (λ o. get_or o i 0) is

pub returns-then-number-le65535 : goal.returns-then-number-le65535
returns-then-number-le65535 c =
    let n = c.args.number in
    let now = c.args.out.now.items in
    let octets = c.header_octets.result in
    let all = header c.args.format 2 n in
    let front = take c.args.start now in
    let back = drop (c.args.start + 2) now in
    let two = get_or octets 0 0 ∷ get_or octets 1 0 ∷ [] in
    let low = get_or octets 2 0 in
    let long : length (front ++ two) ≡ c.args.start + 2 = length-append front two ∙ ap (λ k. k + 2) (length-take-le c.args.start now (omega (arith, c.requires.there))) in
    let octet : (i : ℕ) → i < 3 → get_or octets i 0 ≡ get_or all i 0 = λ i. octet_of octets all 3 i c.header_octets.ensures in
    c.in_ok-insert.ensures.items
    ∙ inserted (front ++ two) back c.set_two.new.out.items (c.args.start + 2) low (c.set_two.ensures ∙ sym (append_assoc front two back)) long
    ∙ append_assoc front two (low ∷ back)
    ∙ rw (octet 0 (omega arith), octet 1 (omega arith), octet 2 (omega arith), field_two n c.requires.long (omega (arith, c.if-number-le65535.true))) refl

pub returns : goal.returns
returns c =
    let n = c.args.number in
    let now = c.args.out.now.items in
    let octets = c.header_octets-2.result in
    let all = header c.args.format 3 n in
    let front = take c.args.start now in
    let back = drop (c.args.start + 2) now in
    let two = get_or octets 0 0 ∷ get_or octets 1 0 ∷ [] in
    let three = get_or octets 0 0 ∷ get_or octets 1 0 ∷ get_or octets 2 0 ∷ [] in
    let middle = get_or octets 2 0 in
    let low = get_or octets 3 0 in
    let size : length front ≡ c.args.start = length-take-le c.args.start now (omega (arith, c.requires.there)) in
    let long : length (front ++ two) ≡ c.args.start + 2 = length-append front two ∙ ap (λ k. k + 2) size in
    let longer : length (front ++ three) ≡ c.args.start + 3 = length-append front three ∙ ap (λ k. k + 3) size in
    let octet : (i : ℕ) → i < 4 → get_or octets i 0 ≡ get_or all i 0 = λ i. octet_of octets all 4 i c.header_octets-2.ensures in
    let once = c.in_ok-insert-2.ensures.items
    ∙ inserted (front ++ two) back c.set_two-2.new.out.items (c.args.start + 2) middle (c.set_two-2.ensures ∙ sym (append_assoc front two back)) long
    ∙ append_assoc front two (middle ∷ back) in
    c.in_ok-insert-3.ensures.items
    ∙ inserted (front ++ three) back c.insert-2.new.self.items (c.args.start + 3) low (once ∙ sym (append_assoc front three back)) longer
    ∙ append_assoc front three (low ∷ back)
    ∙ rw (octet 0 (omega arith), octet 1 (omega arith), octet 2 (omega arith), octet 3 (omega arith), field_three n (omega (arith, c.if-number-le65535.false))) refl
