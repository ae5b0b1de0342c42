-- Octets have one answer each.
use Rattle.std.proofs.Common.{◌≡◌, ◌<◌, ℕ, zero, suc, List, drop, Some, None, refl, sym, ◌∙◌, ap, subst, inl, inr, arith}
use Rattle.std.specs.Prelude.{Option}
use Rattle.std.proofs.lemmas.Bool.{cases_lt}
use Rattle.capture_midstream.specs.declared.session_filter.Session.{Session}
use Rattle.capture_midstream.specs.declared.message_check.Found.{Found}
use Rattle.capture_midstream.specs.declared.message_check.Found.TheVariants.{Missing, Begun, Whole, Other}
use Rattle.capture_midstream.specs.declared.sync_point.Beginning.{Beginning}
use Rattle.capture_midstream.specs.declared.sync_point.Beginning.TheVariants.{Sure, Open}
use Rattle.capture_midstream.specs.MessageCheck.{FrontAs}
use Rattle.capture_midstream.specs.SyncPoint.{CountsAs, CountsBy, one_more, most, IsRefused, IsFirst, BeginsAs, BeginsAtEnd, NoMessageAt, SomeMessageAt}

one_front : (s : Session) (octets : List ℕ) (a b : Found) → FrontAs s octets a → FrontAs s octets b → a ≡ b
one_front s octets Missing Missing h k = refl
one_front s octets Missing Begun h k = absurd (omega (arith, h, k.0))
one_front s octets Missing (Whole n) h k = absurd (omega (arith, h, k.0))
one_front s octets Missing Other h k = absurd (omega (arith, h, k.0))
one_front s octets Begun Missing h k = absurd (omega (arith, h.0, k))
one_front s octets Begun Begun h k = refl
one_front s octets Begun (Whole n) h k = absurd (omega (arith, h.2, k.2, k.3))
one_front s octets Begun Other h (there, inl wrong) = absurd cc
one_front s octets Begun Other h (there, inr whole) = absurd (omega (arith, h.2, whole.0))
one_front s octets (Whole m) Missing h k = absurd (omega (arith, h.0, k))
one_front s octets (Whole m) Begun h k = absurd (omega (arith, k.2, h.2, h.3))
one_front s octets (Whole m) (Whole n) h k = ap (λ x. Whole x) (h.2 ∙ sym k.2)
one_front s octets (Whole m) Other h (there, inl wrong) = absurd cc
one_front s octets (Whole m) Other h (there, inr whole) = absurd (whole.1 h.4)
one_front s octets Other Missing h k = absurd (omega (arith, h.0, k))
one_front s octets Other Begun (there, inl wrong) k = absurd cc
one_front s octets Other Begun (there, inr whole) k = absurd (omega (arith, k.2, whole.0))
one_front s octets Other (Whole n) (there, inl wrong) k = absurd cc
one_front s octets Other (Whole n) (there, inr whole) k = absurd (whole.1 k.4)
one_front s octets Other Other h k = refl

-- the same by what stands at the front
one_by : (s : Session) (left : ℕ) (octets : List ℕ) (found : Found) (a b : Option ℕ)
    → ((xs : List ℕ) (x y : Option ℕ) → CountsAs s left xs x → CountsAs s left xs y → x ≡ y)
    → CountsBy (CountsAs s left) octets found a → CountsBy (CountsAs s left) octets found b → a ≡ b
one_by s left octets Missing a b one h k = h ∙ sym k
one_by s left octets Begun a b one h k = h ∙ sym k
one_by s left octets (Whole n) a b one h k = h.2 ∙ ap one_more (one (drop n octets) h.0 k.0 h.1 k.1) ∙ sym k.2
one_by s left octets Other a b one h k = h ∙ sym k

pub one_count : (s : Session) (left : ℕ) (octets : List ℕ) (a b : Option ℕ) → CountsAs s left octets a → CountsAs s left octets b → a ≡ b
unfolding CountsAs
one_count s zero octets a b h k = h ∙ sym k
one_count s (suc left) octets a b h k =
    let same : h.0 ≡ k.0 = one_front s octets h.0 k.0 h.1 k.1 in
    let P : Found → Type 0 = λ found. CountsBy (CountsAs s left) octets found a in
    one_by s left octets k.0 a b (λ xs x y p q. one_count s left xs x y p q) (subst P same h.2) k.2

-- two first places are one, and as many messages stand there
not_before : (s : Session) (octets : List ℕ) (from p q m n : ℕ) → IsFirst s octets from p m → IsFirst s octets from q n → p < q → ⊥
not_before s octets from p q m n h k less =
    absurd (let e : Some m ≡ None = one_count s most (drop p octets) (Some m) None h.here (k.others p h.subsequent less) in cc)

same_place : (s : Session) (octets : List ℕ) (from p q m n : ℕ) → IsFirst s octets from p m → IsFirst s octets from q n → p ≡ q
same_place s octets from p q m n h k =
    elim (cases_lt p q) [
      | inl less ↦ absurd (not_before s octets from p q m n h k less)
      | inr more ↦ elim (cases_lt q p) [
        | inl less ↦ absurd (not_before s octets from q p n m k h less)
        | inr same ↦ omega arith
      ]
    ]

same_count : (s : Session) (octets : List ℕ) (from p q m n : ℕ) → IsFirst s octets from p m → IsFirst s octets from q n → m ≡ n
same_count s octets from p q m n h k =
    let P : ℕ → Type 0 = λ x. CountsAs s most (drop x octets) (Some m) in
    let e : Some m ≡ Some n = one_count s most (drop q octets) (Some m) (Some n) (subst P (same_place s octets from p q m n h k) h.here) k.here in
    cc

pub one_beginning : (s : Session) (octets : List ℕ) (from : ℕ) (a b : Beginning) → BeginsAs s octets from a → BeginsAs s octets from b → a ≡ b
one_beginning s octets from (Sure p) (Sure q) h k = ap (λ x. Sure x) (same_place s octets from p q 3 3 h k)
one_beginning s octets from (Sure p) (Open q) h (n, less, k) = absurd (let e : 3 ≡ n = same_count s octets from p q 3 n h k in omega arith)
one_beginning s octets from (Open p) (Sure q) (n, less, h) k = absurd (let e : n ≡ 3 = same_count s octets from p q n 3 h k in omega arith)
one_beginning s octets from (Open p) (Open q) (m, less, h) (n, small, k) = ap (λ x. Open x) (same_place s octets from p q m n h k)

-- ---- where no octet follows

not_both : (s : Session) (octets : List ℕ) → NoMessageAt s octets → SomeMessageAt s octets → ⊥
unfolding NoMessageAt SomeMessageAt
not_both s octets (a, counts, inl none) (n, some, stand) =
    absurd (let e : a ≡ Some n = one_count s most octets a (Some n) counts stand in cc)
not_both s octets (a, counts, inr zero_of) (n, some, stand) =
    let e : a ≡ Some n = one_count s most octets a (Some n) counts stand in
    let same : 0 ≡ n = (let f : Some 0 ≡ Some n = sym zero_of ∙ e in cc) in
    absurd (omega arith)

not_earlier : (s : Session) (octets : List ℕ) (from a b : ℕ) → BeginsAtEnd s octets from a → BeginsAtEnd s octets from b → a < b → ⊥
not_earlier s octets from a b h k less =
    elim h.here [
      | inl end ↦ absurd (omega (arith, k.within))
      | inr stand ↦ not_both s (drop a octets) (k.others a h.subsequent less) stand
    ]

pub one_beginning_at_end : (s : Session) (octets : List ℕ) (from a b : ℕ) → BeginsAtEnd s octets from a → BeginsAtEnd s octets from b → a ≡ b
one_beginning_at_end s octets from a b h k =
    elim (cases_lt a b) [
      | inl less ↦ absurd (not_earlier s octets from a b h k less)
      | inr more ↦ elim (cases_lt b a) [
        | inl less ↦ absurd (not_earlier s octets from b a k h less)
        | inr same ↦ omega arith
      ]
    ]

pub refused_none : (s : Session) (octets : List ℕ) (place : ℕ) → IsRefused s octets place → NoMessageAt s (drop place octets)
unfolding NoMessageAt
refused_none s octets place refused = (None, refused, inl refl)

pub some_message_at : (s : Session) (octets : List ℕ) (n : ℕ) → 0 < n → CountsAs s most octets (Some n) → SomeMessageAt s octets
unfolding SomeMessageAt
some_message_at s octets n some counts = (n, some, counts)

pub sure_at_end : (s : Session) (octets : List ℕ) (from place last : ℕ) → BeginsAs s octets from (Sure place)
    → BeginsAtEnd s octets from last → last ≡ place
sure_at_end s octets from place last h k =
    let found : BeginsAtEnd s octets from place = record {
      subsequent = h.subsequent;
      within = h.within;
      others = λ q more less. refused_none s octets q (h.others q more less);
      here = inr (some_message_at s (drop place octets) 3 (omega arith) h.here);
    } in
    one_beginning_at_end s octets from last place k found
