-- A direction's first place from which on whole messages are read, by what is held.
use Rattle.std.proofs.Common.{◌≡◌, ◌<◌, ◌≤◌, ◌-◌, ◌+◌, ◌++◌, ◌∷◌, ℕ, List, [], length, drop, Option, Some, None, refl, sym, ap, ◌∙◌, subst, append_assoc, inl, inr, arith}
use Rattle.std.specs.Prelude.{Bool, false}
use Rattle.std.proofs.lemmas.Bool.{cases_lt}
use Rattle.std.proofs.lemmas.List.{append-nil, drop_all}
use Rattle.capture_tcp.specs.Reassembly.{CellIs, IsStoreOf, Store}
use Rattle.capture_tcp.specs.TcpStreams.{End, Placed}
use Rattle.capture_tcp.specs.declared.reassembly.Cell.{Cell as HeldCell}
use Rattle.capture_midstream.specs.declared.session_filter.Session.{Session}
use Rattle.capture_midstream.specs.SyncPoint.{BeginsAtEnd, IsSureBy, NoMessageAt, SomeMessageAt}
use Rattle.capture_midstream.specs.BufferedPacket.{octet_at, octets_in, octets_upto}
use Rattle.capture_midstream.specs.InnerBufferedPacket.{FindsIn, held_octet}
use Rattle.capture_midstream.proofs.Places.{dropped, next_octet, no_octet, none_is_sure, no_message_at, octet_is}

abbrev pub NoneSoFar : Session → Store → ℕ → ℕ → ℕ → Type 0
NoneSoFar s held from upto place =
    (ps : List Placed) (d : End) → IsStoreOf held ps d → (q : ℕ) → from ≤ q → q < place → NoMessageAt s (octets_upto upto (octet_at ps d) q)

abbrev pub GivesSoFar : Store → ℕ → ℕ → List ℕ → ℕ → Type 0
GivesSoFar held upto place octets at =
    (ps : List Placed) (d : End) → IsStoreOf held ps d → octets ++ octets_upto upto (octet_at ps d) at ≡ octets_upto upto (octet_at ps d) place

abbrev pub Gives : Store → ℕ → ℕ → List ℕ → Type 0
Gives held upto place octets = (ps : List Placed) (d : End) → IsStoreOf held ps d → octets ≡ octets_upto upto (octet_at ps d) place

-- one octet more
pub gives_more : (held : Store) (upto place at x : ℕ) (octets : List ℕ) (c : Option HeldCell) (o : Option ℕ) → held.place ≤ at → at < upto → CellIs held at c
    → o ≡ held_octet c → o ≡ Some x → GivesSoFar held upto place octets at → GivesSoFar held upto place (octets ++ x ∷ []) (at + 1)
gives_more held upto place at x octets c o le lt cell is some so_far ps d store =
    append_assoc octets (x ∷ []) (octets_upto upto (octet_at ps d) (at + 1))
    ∙ ap (λ rest. octets ++ rest) (sym (next_octet upto at x (octet_at ps d) lt (octet_is held at c o cell le is ps d store ∙ some)))
    ∙ so_far ps d store

-- there is no octet more
pub gives_all : (held : Store) (upto place at : ℕ) (octets : List ℕ) (c : Option HeldCell) (o : Option ℕ) → held.place ≤ at → CellIs held at c → o ≡ held_octet c
    → o ≡ None → GivesSoFar held upto place octets at → Gives held upto place octets
gives_all held upto place at octets c o le cell is none so_far ps d store =
    sym (append-nil octets)
    ∙ ap (λ rest. octets ++ rest) (sym (no_octet (upto - at) at (octet_at ps d) (octet_is held at c o cell le is ps d store ∙ none)))
    ∙ so_far ps d store

pub gives_to_end : (held : Store) (upto place at : ℕ) (octets : List ℕ) → upto ≤ at → GivesSoFar held upto place octets at → Gives held upto place octets
unfolding octets_in
gives_to_end held upto place at octets le so_far ps d store =
    let none : upto - at ≡ 0 = omega (arith, le) in
    sym (append-nil octets) ∙ ap (λ rest. octets ++ rest) (sym (ap (λ (k : ℕ). octets_in k (octet_at ps d) at) none)) ∙ so_far ps d store

pub gives_none : (held : Store) (upto place : ℕ) → GivesSoFar held upto place [] place
gives_none held upto place ps d store = refl

-- the places up to one where a message stands, or the octets end
pub none_on : (s : Session) (held : Store) (from upto place index : ℕ) (octets : List ℕ) → Gives held upto place octets → BeginsAtEnd s octets 0 index
    → NoneSoFar s held from upto place → NoneSoFar s held from upto (place + index)
none_on s held from upto place index octets gives begins so_far ps d store q after before =
    elim (cases_lt q place) [
      | inl lt ↦ so_far ps d store q after lt
      | inr le ↦ (
          let j : ℕ = q - place in
          let few : j < index = omega (arith, before, le) in
          let is : octets ≡ octets_upto upto (octet_at ps d) place = gives ps d store in
          let short : j ≤ length (octets_in (upto - place) (octet_at ps d) place) = omega (arith, few, begins.within, ap length is) in
          let here : place + j ≡ q = omega (arith, le) in
          let left : upto - place - j ≡ upto - q = omega (arith, le) in
          let P : List ℕ → Type 0 = λ xs. NoMessageAt s xs in
          subst P
          (ap (λ xs. drop j xs) is
          ∙ dropped (upto - place) (octet_at ps d) place j short
          ∙ ap (λ (k : ℕ). octets_in (upto - place - j) (octet_at ps d) k) here
          ∙ ap (λ (k : ℕ). octets_in k (octet_at ps d) q) left)
          (begins.others j (omega arith) few)
          )
    ]

-- the octets from a place among them on
from_place : (held : Store) (upto place index : ℕ) (octets : List ℕ) → Gives held upto place octets → index ≤ length octets
    → (ps : List Placed) (d : End) → IsStoreOf held ps d → drop index octets ≡ octets_upto upto (octet_at ps d) (place + index)
from_place held upto place index octets gives le ps d store =
    let is : octets ≡ octets_upto upto (octet_at ps d) place = gives ps d store in
    let short : index ≤ length (octets_in (upto - place) (octet_at ps d) place) = omega (arith, le, ap length is) in
    let left : upto - place - index ≡ upto - (place + index) = omega arith in
    ap (λ xs. drop index xs) is
    ∙ dropped (upto - place) (octet_at ps d) place index short
    ∙ ap (λ (k : ℕ). octets_in k (octet_at ps d) (place + index)) left

-- no octet stands behind them
pub none_after : (s : Session) (held : Store) (from upto place index : ℕ) (octets : List ℕ) → Gives held upto place octets → length octets ≤ index
    → index ≤ length octets → NoneSoFar s held from upto (place + index) → NoneSoFar s held from upto (place + index + 1)
none_after s held from upto place index octets gives all le so_far ps d store q after before =
    elim (cases_lt q (place + index)) [
      | inl lt ↦ so_far ps d store q after lt
      | inr ge ↦ (
          let here : place + index ≡ q = omega (arith, ge, before) in
          let P : List ℕ → Type 0 = λ xs. NoMessageAt s xs in
          subst P (sym (drop_all index octets all) ∙ from_place held upto place index octets gives le ps d store ∙ ap (λ (k : ℕ). octets_upto upto (octet_at ps d) k) here)
          (no_message_at s)
          )
    ]

-- a message stands there
pub found : (s : Session) (held : Store) (from upto place index : ℕ) (octets subsequent : List ℕ) (sure : Bool) → Gives held upto place octets → BeginsAtEnd s octets 0 index
    → index < length octets → subsequent ≡ drop index octets → IsSureBy s subsequent sure → from ≤ place → place + index ≤ upto
    → NoneSoFar s held from upto (place + index)
    → (ps : List Placed) (d : End) → IsStoreOf held ps d → FindsIn s (octet_at ps d) from upto (record { place = place + index; is_sure = sure })
found s held from upto place index octets subsequent sure gives begins lt is holds after within none ps d store =
    let same : drop index octets ≡ octets_upto upto (octet_at ps d) (place + index) = from_place held upto place index octets gives (omega (arith, lt)) ps d store in
    let P : List ℕ → Type 0 = λ xs. IsSureBy s xs sure in
    let Q : List ℕ → Type 0 = λ xs. SomeMessageAt s xs in (
      record {
        subsequent = omega (arith, after);
        within = within;
        others = λ q ge before. none ps d store q ge before;
        here = elim begins.here [ inl end ↦ absurd (omega (arith, end, lt)) | inr some ↦ inr (subst Q same some) ];
      },
      subst P (is ∙ same) holds,
    )

-- none stands anywhere
pub found_none : (s : Session) (held : Store) (from upto place : ℕ) → from ≤ upto → upto ≤ place → NoneSoFar s held from upto place
    → (ps : List Placed) (d : End) → IsStoreOf held ps d → FindsIn s (octet_at ps d) from upto (record { place = upto; is_sure = false })
unfolding octets_in
found_none s held from upto place le all none ps d store =
    let no : upto - upto ≡ 0 = omega arith in
    let P : List ℕ → Type 0 = λ xs. IsSureBy s xs false in (
      record { subsequent = le; within = omega arith; others = λ q ge before. none ps d store q ge (omega (arith, before, all)); here = inl refl },
      subst P (sym (ap (λ (k : ℕ). octets_in k (octet_at ps d) upto) no)) (none_is_sure s),
    )
