-- What was found stays where more octets come.
use Rattle.std.proofs.Common.{◌≡◌, ◌≤◌, ◌<◌, ◌+◌, ◌-◌, ◌++◌, ℕ, zero, suc, List, length, take, drop, Some, None, refl, sym, ◌∙◌, ap, subst, inl, inr, arith}
use Rattle.std.specs.Int.{w32, from_be_bytes}
use Rattle.std.proofs.lemmas.Bool.{cases_lt}
use Rattle.std.proofs.lemmas.List.{length-drop, length-append, take-append-le, drop-append-le}
use Rattle.secs_item.specs.Encoding.{IsText}
use Rattle.hsms_frame.specs.Frame.{length_field}
use Rattle.capture_midstream.specs.declared.session_filter.Session.{Session}
use Rattle.capture_midstream.specs.declared.message_check.Found.TheVariants.{Missing, Begun, Whole, Other}
use Rattle.capture_midstream.specs.declared.sync_point.Beginning.{Beginning}
use Rattle.capture_midstream.specs.declared.sync_point.Beginning.TheVariants.{Sure, Open}
use Rattle.capture_midstream.specs.MessageCheck.{FrontAs, has_header, header_of, is_of, text_at}
use Rattle.capture_midstream.specs.SyncPoint.{CountsAs, most, IsRefused, IsFirst, BeginsAs, BeginsAtEnd}
use Rattle.capture_midstream.proofs.Unique.{refused_none}

field_stays : (octets more : List ℕ) → 14 ≤ length octets → length_field (octets ++ more) ≡ length_field octets
field_stays octets more there = ap (λ xs. from_be_bytes w32 xs) (take-append-le 4 octets more (omega arith))

ten_stay : (octets more : List ℕ) → 14 ≤ length octets → take 10 (drop 4 (octets ++ more)) ≡ take 10 (drop 4 octets)
ten_stay octets more there =
    ap (λ xs. take 10 xs) (drop-append-le 4 octets more (omega arith))
    ∙ take-append-le 10 (drop 4 octets) more (omega (arith, length-drop 4 octets))

header_stays : (s : Session) (octets more : List ℕ) → 14 ≤ length octets → has_header s (octets ++ more) ≡ has_header s octets
header_stays s octets more there =
    ap (λ xs. is_of s (header_of xs) (length_field (octets ++ more))) (ten_stay octets more there)
    ∙ ap (λ n. is_of s (header_of (take 10 (drop 4 octets))) n) (field_stays octets more there)

after_stays : (octets more : List ℕ) → 14 ≤ length octets → drop 10 (drop 4 (octets ++ more)) ≡ drop 10 (drop 4 octets) ++ more
after_stays octets more there =
    ap (λ xs. drop 10 xs) (drop-append-le 4 octets more (omega arith))
    ∙ drop-append-le 10 (drop 4 octets) more (omega (arith, length-drop 4 octets))

text_stays : (octets more : List ℕ) → 14 ≤ length octets → 4 + length_field octets ≤ length octets → text_at (octets ++ more) ≡ text_at octets
text_stays octets more there whole =
    ap (λ n. take (n - 10) (drop 10 (drop 4 (octets ++ more)))) (field_stays octets more there)
    ∙ ap (λ xs. take (length_field octets - 10) xs) (after_stays octets more there)
    ∙ take-append-le (length_field octets - 10) (drop 10 (drop 4 octets)) more
    (omega (arith, length-drop 10 (drop 4 octets), length-drop 4 octets))

whole_stays : (s : Session) (octets more : List ℕ) (size : ℕ) → FrontAs s octets (Whole size) → FrontAs s (octets ++ more) (Whole size)
whole_stays s octets more size h =
    let P : List ℕ → Type 0 = λ xs. IsText s.depth xs in
    let longer : length (octets ++ more) ≡ length octets + length more = length-append octets more in
    let fields : length_field (octets ++ more) ≡ length_field octets = field_stays octets more h.0 in (
      omega (arith, h.0),
      header_stays s octets more h.0 ∙ h.1,
      h.2 ∙ ap (λ n. 4 + n) (sym fields),
      omega (arith, h.3),
      subst P (sym (text_stays octets more h.0 (omega (arith, h.2, h.3)))) h.4,
    )

other_stays : (s : Session) (octets more : List ℕ) → FrontAs s octets Other → FrontAs s (octets ++ more) Other
other_stays s octets more (there, inl wrong) =
    let longer : length (octets ++ more) ≡ length octets + length more = length-append octets more in
    (omega arith, inl (header_stays s octets more there ∙ wrong))
other_stays s octets more (there, inr (whole, unread)) =
    let P : List ℕ → Type 0 = λ xs. IsText s.depth xs in
    let longer : length (octets ++ more) ≡ length octets + length more = length-append octets more in
    let fields : length_field (octets ++ more) ≡ length_field octets = field_stays octets more there in
    (omega arith, inr (omega arith, λ text. unread (subst P (text_stays octets more there whole) text)))

-- a count that no further octet changes
pub refused_stays : (s : Session) (left : ℕ) (octets more : List ℕ) → CountsAs s left octets None → CountsAs s left (octets ++ more) None
unfolding CountsAs
refused_stays s zero octets more h = absurd cc
refused_stays s (suc left) octets more (Missing, front, is) = absurd cc
refused_stays s (suc left) octets more (Begun, front, is) = absurd cc
refused_stays s (suc left) octets more (Whole size, front, (None, counts, is)) =
    let Q : List ℕ → Type 0 = λ xs. CountsAs s left xs None in
    (Whole size, whole_stays s octets more size front, (None, subst Q (sym (drop-append-le size octets more front.3)) (refused_stays s left (drop size octets) more counts), refl))
refused_stays s (suc left) octets more (Whole size, front, (Some n, counts, is)) = absurd cc
refused_stays s (suc left) octets more (Other, front, is) = (Other, other_stays s octets more front, refl)

pub whole_row_stays : (s : Session) (left : ℕ) (octets more : List ℕ) → CountsAs s left octets (Some left) → CountsAs s left (octets ++ more) (Some left)
unfolding CountsAs
whole_row_stays s zero octets more h = refl
whole_row_stays s (suc left) octets more (Missing, front, is) = absurd cc
whole_row_stays s (suc left) octets more (Begun, front, is) = absurd cc
whole_row_stays s (suc left) octets more (Whole size, front, (None, counts, is)) = absurd cc
whole_row_stays s (suc left) octets more (Whole size, front, (Some n, counts, is)) =
    let same : n ≡ left = (let e : suc left ≡ n + 1 = cc in omega arith) in
    let Q : List ℕ → Type 0 = λ xs. CountsAs s left xs (Some left) in
    let P : ℕ → Type 0 = λ k. CountsAs s left (drop size octets) (Some k) in
    let later = whole_row_stays s left (drop size octets) more (subst P same counts) in
    (Whole size, whole_stays s octets more size front, (Some left, subst Q (sym (drop-append-le size octets more front.3)) later, ap Some (omega arith)))
whole_row_stays s (suc left) octets more (Other, front, is) = absurd cc

place_refused : (s : Session) (octets more : List ℕ) (place : ℕ) → place ≤ length octets → IsRefused s octets place
    → IsRefused s (octets ++ more) place
place_refused s octets more place within h =
    let Q : List ℕ → Type 0 = λ xs. CountsAs s most xs None in
    subst Q (sym (drop-append-le place octets more within)) (refused_stays s most (drop place octets) more h)

pub sure_stays : (s : Session) (octets more : List ℕ) (from place : ℕ) → BeginsAs s octets from (Sure place)
    → BeginsAs s (octets ++ more) from (Sure place)
sure_stays s octets more from place h =
    let longer : length (octets ++ more) ≡ length octets + length more = length-append octets more in
    let within : place ≤ length octets = h.within in
    let Q : List ℕ → Type 0 = λ xs. CountsAs s most xs (Some 3) in
    record {
      subsequent = h.subsequent;
      within = omega arith;
      others = λ q subsequent less. place_refused s octets more q (omega arith) (h.others q subsequent less);
      here = subst Q (sym (drop-append-le place octets more within)) (whole_row_stays s most (drop place octets) more h.here);
    }

-- places that were refused before, and those from the open one on
refused_on : (s : Session) (octets more : List ℕ) (from place open_count last q : ℕ) → IsFirst s octets from place open_count
    → ((q : ℕ) → place ≤ q → q < last → IsRefused s (octets ++ more) q) → from ≤ q → q < last → IsRefused s (octets ++ more) q
refused_on s octets more from place open_count last q h later subsequent less =
    elim (cases_lt q place) [
      | inl before ↦ (let within : place ≤ length octets = h.within in place_refused s octets more q (omega arith) (h.others q subsequent before))
      | inr onward ↦ later q onward less
    ]

first_on : (s : Session) (octets more : List ℕ) (from place open_count last count : ℕ) → IsFirst s octets from place open_count
    → IsFirst s (octets ++ more) place last count → IsFirst s (octets ++ more) from last count
first_on s octets more from place open_count last count h k =
    let a : from ≤ place = h.subsequent in
    let b : place ≤ last = k.subsequent in
    record {
      subsequent = omega arith;
      within = k.within;
      others = λ q subsequent less. refused_on s octets more from place open_count last q h k.others subsequent less;
      here = k.here;
    }

pub looks_on : (s : Session) (octets more : List ℕ) (from place : ℕ) (beginning : Beginning) → BeginsAs s octets from (Open place)
    → BeginsAs s (octets ++ more) place beginning → BeginsAs s (octets ++ more) from beginning
looks_on s octets more from place (Sure last) (n, less, h) k = first_on s octets more from place n last 3 h k
looks_on s octets more from place (Open last) (n, less, h) (m, small, k) = (m, small, first_on s octets more from place n last m h k)

pub ends_on : (s : Session) (octets : List ℕ) (from place last : ℕ) → BeginsAs s octets from (Open place)
    → BeginsAtEnd s octets place last → BeginsAtEnd s octets from last
ends_on s octets from place last (n, less, h) k =
    let a : from ≤ place = h.subsequent in
    let b : place ≤ last = k.subsequent in
    record {
      subsequent = omega arith;
      within = k.within;
      others = λ q subsequent before. elim (cases_lt q place) [
        | inl early ↦ refused_none s octets q (h.others q subsequent early)
        | inr onward ↦ k.others q onward before
      ];
      here = k.here;
    }
