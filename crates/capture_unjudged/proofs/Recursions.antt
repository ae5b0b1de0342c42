-- What functions that call themselves return, step by step.
use Rattle.std.proofs.Common.{◌≡◌, ◌<◌, ◌≤◌, ◌-◌, ◌+◌, ◌++◌, ◌∷◌, ◌∙◌, ℕ, Bool, zero, suc, true, false, List, [], length, refl, sym, ap, subst, inl, inr, arith, append_assoc}
use Rattle.std.specs.Prelude.{is_ok, OnOk, Option, Result, Ok, Err, codes, decimal, fold, nat_lt, if◌then◌else◌}
use Rattle.std.proofs.lemmas.Bool.Decides.{nat_tests}
use Rattle.std.proofs.lemmas.List.{append-nil}
use Rattle.hsms_frame.specs.Io.{Grows}
use Rattle.capture_midstream.specs.declared.buffered_packet.BufferedPacket.{BufferedPacket}
use Rattle.hsms_machine.specs.Settings.{Parameters}
use Rattle.capture_unjudged.specs.Devices.{AreDevices, IsDevice}
use Rattle.capture_unjudged.specs.Line.{line_of, rest_text}
use Rattle.capture_unjudged.specs.Sets.{count_lower, with_number}
use Rattle.capture_unjudged.specs.UnjudgedOutput.{line_if}
use Rattle.capture_unjudged.specs.declared.unjudged.Unjudged.{Unjudged}

pub on_ok : {T E P Q : Type 0} (r : Result T E) → (P → Q) → OnOk r P → OnOk r Q
on_ok (Ok x) f p = f p
on_ok (Err e) f p = p

-- ---- numbers

pub lower_none : (n : ℕ) (xs : List ℕ) → length xs ≡ 0 → 0 ≡ count_lower n xs
unfolding count_lower
lower_none n [] none = refl
lower_none n (x ∷ xs) none = absurd (omega arith)

lower_more : (n x : ℕ) (rest : List ℕ) (b : Bool) → nat_lt x n ≡ b → (if b then suc (count_lower n rest) else 0) ≡ count_lower n (x ∷ rest)
unfolding count_lower
lower_more n x rest b is = sym (ap (λ (t : Bool). if t then suc (count_lower n rest) else 0) is)

pub lower_first : (n x k : ℕ) (xs rest : List ℕ) → xs ≡ x ∷ rest → x < n → k ≡ count_lower n rest → 1 + k ≡ count_lower n xs
lower_first n x k xs rest parts is count =
    let lower : nat_lt x n ≡ true = grind (arith, nat_tests) in
    let one : 1 + k ≡ suc k = omega arith in
    one ∙ ap suc count ∙ lower_more n x rest true lower ∙ ap (count_lower n) (sym parts)

pub lower_last : (n x : ℕ) (xs rest : List ℕ) → xs ≡ x ∷ rest → n ≤ x → 0 ≡ count_lower n xs
lower_last n x xs rest parts is =
    let lower : nat_lt x n ≡ false = grind (arith, nat_tests) in
    lower_more n x rest false lower ∙ ap (count_lower n) (sym parts)

pub all_none : (zs ns : List ℕ) → length ns ≡ 0 → zs ≡ fold with_number zs ns
all_none zs [] none = refl
all_none zs (n ∷ ns) none = absurd (omega arith)

pub all_first : {T E : Type 0} (r : Result T E) (zs mid new ns rest : List ℕ) (n : ℕ) → ns ≡ n ∷ rest → mid ≡ with_number zs n
    → OnOk r (new ≡ fold with_number mid rest) → OnOk r (new ≡ fold with_number zs ns)
all_first r zs mid new ns rest n parts is more =
    on_ok r (λ it. it ∙ ap (λ (ys : List ℕ). fold with_number ys rest) is ∙ ap (fold with_number zs) (sym parts)) more

-- ---- devices

pub devices_none : (s : Parameters) (gs : List BufferedPacket) (ds : List ℕ) → length gs ≡ 0 → AreDevices s gs ds ds
unfolding AreDevices
devices_none s [] ds none = refl
devices_none s (g ∷ gs) ds none = absurd (omega arith)

devices_data : (s : Parameters) (g : BufferedPacket) (rest : List BufferedPacket) (ds new : List ℕ) (d : ℕ) → IsDevice s g.octets.items d
    → AreDevices s rest (ds ++ d ∷ []) new → AreDevices s (g ∷ rest) ds new
unfolding AreDevices
devices_data s g rest ds new d is more = inl (d, is, more)

devices_other : (s : Parameters) (g : BufferedPacket) (rest : List BufferedPacket) (ds new : List ℕ) → ((d : ℕ) → IsDevice s g.octets.items d → ⊥)
    → AreDevices s rest ds new → AreDevices s (g ∷ rest) ds new
unfolding AreDevices
devices_other s g rest ds new none more = inr (none, more)

pub devices_first : {T E : Type 0} (r : Result T E) (s : Parameters) (gs rest : List BufferedPacket) (g : BufferedPacket) (octets ds mid new : List ℕ) (d : ℕ)
    → gs ≡ g ∷ rest → octets ≡ g.octets.items → IsDevice s octets d → mid ≡ ds ++ d ∷ []
    → OnOk r (AreDevices s rest mid new) → OnOk r (AreDevices s gs ds new)
devices_first r s gs rest g octets ds mid new d parts of is with_it more =
    on_ok r (λ it. subst (λ (all : List BufferedPacket). AreDevices s all ds new) (sym parts)
    (devices_data s g rest ds new d (subst (λ (os : List ℕ). IsDevice s os d) of is)
    (subst (λ (ys : List ℕ). AreDevices s rest ys new) with_it it))) more

pub devices_next : {T E : Type 0} (r : Result T E) (s : Parameters) (gs rest : List BufferedPacket) (g : BufferedPacket) (octets ds new : List ℕ)
    → gs ≡ g ∷ rest → octets ≡ g.octets.items → ((d : ℕ) → IsDevice s octets d → ⊥)
    → OnOk r (AreDevices s rest ds new) → OnOk r (AreDevices s gs ds new)
devices_next r s gs rest g octets ds new parts of none more =
    on_ok r (λ it. subst (λ (all : List BufferedPacket). AreDevices s all ds new) (sym parts)
    (devices_other s g rest ds new (subst (λ (os : List ℕ). (d : ℕ) → IsDevice s os d → ⊥) of none) it)) more

-- ---- the line

pub rest_none : (text : List ℕ) (left : ℕ) (ns : List ℕ) → length ns ≡ 0 → text ≡ text ++ rest_text left ns
unfolding rest_text
rest_none text left [] none = sym (append-nil text)
rest_none text left (n ∷ ns) none = absurd (omega arith)

dots_are : (left n : ℕ) (ns : List ℕ) → left ≡ 0 → codes " .." ≡ rest_text left (n ∷ ns)
unfolding rest_text
dots_are zero n ns is = refl
dots_are (suc left) n ns is = absurd (omega arith)

pub rest_dots : {T E : Type 0} (r : Result T E) (text new ns rest : List ℕ) (left n : ℕ) → ns ≡ n ∷ rest → left ≡ 0
    → new ≡ (if is_ok r then text ++ codes " .." else text) → OnOk r (new ≡ text ++ rest_text left ns)
rest_dots (Ok x) text new ns rest left n parts is more =
    more ∙ ap (λ (dots : List ℕ). text ++ dots) (dots_are left n rest is ∙ ap (rest_text left) (sym parts))
rest_dots (Err e) text new ns rest left n parts is more = tt

number_is : (left n : ℕ) (ns : List ℕ) → 0 < left → codes ", " ++ decimal n ++ rest_text (left - 1) ns ≡ rest_text left (n ∷ ns)
unfolding rest_text
number_is zero n ns some = absurd (omega arith)
number_is (suc left) n ns some =
    let same : suc left - 1 ≡ left = omega arith in
    ap (λ (k : ℕ). codes ", " ++ decimal n ++ rest_text k ns) same

pub rest_first : {T E : Type 0} (r : Result T E) (text mid new ns rest : List ℕ) (left n : ℕ) → ns ≡ n ∷ rest → 0 < left
    → mid ≡ text ++ (codes ", " ++ decimal n) → OnOk r (new ≡ mid ++ rest_text (left - 1) rest) → OnOk r (new ≡ text ++ rest_text left ns)
rest_first r text mid new ns rest left n parts some with_it more =
    let others : List ℕ = rest_text (left - 1) rest in
    let same : rest_text left (n ∷ rest) ≡ rest_text left ns = ap (rest_text left) (sym parts) in
    let one : codes ", " ++ (decimal n ++ others) ≡ rest_text left ns = number_is left n rest some ∙ same in
    let two : (codes ", " ++ decimal n) ++ others ≡ codes ", " ++ (decimal n ++ others) = append_assoc (codes ", ") (decimal n) others in
    let three : (text ++ (codes ", " ++ decimal n)) ++ others ≡ text ++ ((codes ", " ++ decimal n) ++ others) =
    append_assoc text (codes ", " ++ decimal n) others in
    let four : mid ++ others ≡ (text ++ (codes ", " ++ decimal n)) ++ others = ap (λ (t : List ℕ). t ++ others) with_it in
    let five : text ++ ((codes ", " ++ decimal n) ++ others) ≡ text ++ rest_text left ns = ap (λ (t : List ℕ). text ++ t) (two ∙ one) in
    on_ok r (λ it. it ∙ four ∙ three ∙ five) more

line_is : (u : Unjudged) → u.is_complete ≡ true → line_of u ≡ line_if u
line_is u is = sym (ap (λ (b : Bool). if b then line_of u else []) is)

pub line_written : {T E : Type 0} (r : Result T E) (old new : Option (List ℕ)) (u : Unjudged) (bytes : List ℕ) → u.is_complete ≡ true → bytes ≡ line_of u
    → OnOk r (Grows old new bytes) → OnOk r (Grows old new (line_if u))
line_written r old new u bytes is of more =
    on_ok r (subst (λ (b : List ℕ). Grows old new b) (of ∙ line_is u is)) more
