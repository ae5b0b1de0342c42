-- How many messages stand one behind another, by what stands at the front.
use Rattle.std.proofs.Common.{◌≡◌, ◌<◌, ◌-◌, ◌+◌, ℕ, zero, suc, List, length, drop, Some, None, refl, subst, arith}
use Rattle.std.specs.Prelude.{Option}
use Rattle.std.proofs.lemmas.List.{length-drop}
use Rattle.capture_midstream.specs.declared.session_filter.Session.{Session}
use Rattle.capture_midstream.specs.declared.message_check.Found.TheVariants.{Missing, Begun, Whole, Other}
use Rattle.capture_midstream.specs.MessageCheck.{FrontAs}
use Rattle.capture_midstream.specs.SyncPoint.{CountsAs, one_more, most}

pub nothing_counts : (s : Session) (left : ℕ) (octets : List ℕ) → left ≡ 0 → CountsAs s left octets (Some 0)
unfolding CountsAs
nothing_counts s zero octets is = refl
nothing_counts s (suc left) octets is = absurd (omega arith)

pub missing_counts : (s : Session) (left : ℕ) (octets : List ℕ) → 0 < left → FrontAs s octets Missing → CountsAs s left octets (Some 0)
unfolding CountsAs
missing_counts s zero octets some front = absurd (omega arith)
missing_counts s (suc left) octets some front = (Missing, front, refl)

pub begun_counts : (s : Session) (left : ℕ) (octets : List ℕ) → 0 < left → FrontAs s octets Begun → CountsAs s left octets (Some 0)
unfolding CountsAs
begun_counts s zero octets some front = absurd (omega arith)
begun_counts s (suc left) octets some front = (Begun, front, refl)

pub other_counts : (s : Session) (left : ℕ) (octets : List ℕ) → 0 < left → FrontAs s octets Other → CountsAs s left octets None
unfolding CountsAs
other_counts s zero octets some front = absurd (omega arith)
other_counts s (suc left) octets some front = (Other, front, refl)

whole_counts : (s : Session) (left size : ℕ) (octets subsequent : List ℕ) (others : Option ℕ) → 0 < left → FrontAs s octets (Whole size)
    → subsequent ≡ drop size octets → CountsAs s (left - 1) subsequent others → CountsAs s left octets (one_more others)
unfolding CountsAs
whole_counts s zero size octets subsequent others some front is counts = absurd (omega arith)
whole_counts s (suc left) size octets subsequent others some front is counts =
    let P : ℕ → Type 0 = λ k. CountsAs s k subsequent others in
    let Q : List ℕ → Type 0 = λ xs. CountsAs s left xs others in
    let same : suc left - 1 ≡ left = omega arith in
    (Whole size, front, (others, subst Q is (subst P same counts), refl))

pub whole_and_more : (s : Session) (left size more : ℕ) (octets subsequent : List ℕ) → 0 < left → FrontAs s octets (Whole size)
    → subsequent ≡ drop size octets → CountsAs s (left - 1) subsequent (Some more) → CountsAs s left octets (Some (more + 1))
whole_and_more s left size more octets subsequent some front is counts = whole_counts s left size octets subsequent (Some more) some front is counts

pub whole_and_other : (s : Session) (left size : ℕ) (octets subsequent : List ℕ) → 0 < left → FrontAs s octets (Whole size)
    → subsequent ≡ drop size octets → CountsAs s (left - 1) subsequent None → CountsAs s left octets None
whole_and_other s left size octets subsequent some front is counts = whole_counts s left size octets subsequent None some front is counts

-- nothing is refused behind all octets
pub end_counts : (s : Session) (octets : List ℕ) → CountsAs s most (drop (length octets) octets) (Some 0)
end_counts s octets =
    missing_counts s 3 (drop (length octets) octets) (omega arith) (omega (arith, length-drop (length octets) octets))
