-- What agrees is found without a fact.
use Rattle.std.proofs.Common.{◌≡◌, ◌∙◌, ◌<◌, ◌≤◌, ◌+◌, ◌-◌, ℕ, zero, suc, List, [], ◌∷◌, ◌++◌, length, drop, replicate, get_or, Bool, true, false, refl, sym, ap, subst, inl, inr, arith}
use Rattle.std.proofs.lemmas.List.{drop_more, drop_all, length-replicate, get_or-replicate, replicate_more, append-nil}
use Rattle.std.proofs.lemmas.Bool.{cases_lt}
use Rattle.hsms_frame.specs.Frame.{Frame}
use Rattle.hsms_compare_repair.specs.declared.numbered_frame.NumberedFrame.{NumberedFrame}
use Rattle.hsms_compare_repair.specs.declared.finding.Finding.{Finding}
use Rattle.hsms_compare_repair.specs.declared.finding.Finding.TheVariants.{Next, Unknown}
use Rattle.hsms_compare_repair.specs.Findings.{AreFindings, IsFinding, frame_at, no_frame, marks_after}
use Rattle.hsms_compare_repair.specs.Laws.{frames}
use Rattle.hsms_compare_repair.proofs.Rows.{is_unknown}

-- The findings of so many frames that are the sent ones from n on.
abbrev pub straight : ℕ → ℕ → List Finding
straight n zero = []
straight n (suc m) = Next n n ∷ straight (n + 1) m

pub length-straight : (n m : ℕ) → length (straight n m) ≡ m
length-straight n zero = refl
length-straight n (suc m) = ap suc (length-straight (n + 1) m)

module _ (sent : List NumberedFrame) (more : Bool) where
  pub is_straight : (n : ℕ) (frame : Frame) → n < length sent → (frame_at sent n).frame ≡ frame → IsFinding sent more (replicate n false) frame (Next n n)
  is_straight n frame lt is =
      let len : length (replicate n false) ≡ n = length-replicate n false in
      record {
        applies = (sym len, record { holds = (omega (arith, len), omega (arith, len), (lt, is)); least = λ m before a. omega (arith, len, before, a.0) });
        first = λ other before a. omega arith;
      }

  pub one_marked : (n : ℕ) → marks_after (replicate n false) (Next n n) ≡ replicate (n + 1) false
  one_marked n =
      ap (λ (k : ℕ). replicate n false ++ (replicate k true ++ false ∷ [])) (let e : n - n ≡ 0 = omega arith in e)
      ∙ replicate_more n false

  pub straight_found : (first beyond : List NumberedFrame) (n : ℕ) (rest : List Frame) (tail : List Finding) (last : List Bool) (left : ℕ) → frames (drop n sent) ≡ frames first ++ rest → AreFindings sent more (replicate (n + length first) false) 0 beyond tail last left → AreFindings sent more (replicate n false) 0 (first ++ beyond) (straight n (length first) ++ tail) last left
  straight_found [] beyond n rest tail last left e h =
      let P : ℕ → Type 0 = λ k. AreFindings sent more (replicate k false) 0 beyond tail last left in
      subst P (let z : n + 0 ≡ n = omega arith in z) h
  straight_found (frame ∷ first) beyond n rest tail last left e h =
      elim (cases_lt n (length sent)) [
        | inl lt ↦
            (let d : (frame_at sent n).frame ∷ frames (drop (n + 1) sent) ≡ frame.frame ∷ (frames first ++ rest) =
            ap frames (sym (drop_more sent n no_frame lt)) ∙ e in
            let head : (frame_at sent n).frame ≡ frame.frame = cc d in
            let tail_is : frames (drop (n + 1) sent) ≡ frames first ++ rest = cc d in
            let P : ℕ → Type 0 = λ k. AreFindings sent more (replicate k false) 0 beyond tail last left in
            let g = straight_found first beyond (n + 1) rest tail last left tail_is (subst P (let z : n + suc (length first) ≡ n + 1 + length first = omega arith in z) h) in
            let Q : List Bool → Type 0 = λ marks. AreFindings sent more marks 0 (first ++ beyond) (straight (n + 1) (length first) ++ tail) last left in
            (omega arith, is_straight n frame.frame lt head, subst Q (sym (one_marked n)) g))
        | inr ge ↦ (let d : [] ≡ frames (frame ∷ first) ++ rest = ap frames (sym (drop_all n sent ge)) ∙ e in absurd (cc d))
      ]

module _ (sent : List NumberedFrame) where
  abbrev pub unmarked : List Bool
  unmarked = replicate (length sent) false

  is_beyond : (frame : Frame) → IsFinding sent true unmarked frame Unknown
  is_beyond frame =
      let len : length unmarked ≡ length sent = length-replicate (length sent) false in
      is_unknown sent true unmarked frame
      (λ k a. omega (arith, len, a.0, a.2.0))
      (λ k a. (let e : get_or unmarked k false ≡ false = get_or-replicate (length sent) k false false (omega (arith, len, a.0.0)) in absurd (cc (e, a.1))))
      (λ a. omega (arith, len, a.0))
      (λ a. a.1 refl len)

  pub beyond_found : (beyond : List NumberedFrame) (unknown : ℕ) → (k : ℕ) × (k ≤ length beyond) × AreFindings sent true unmarked unknown beyond (replicate k Unknown) unmarked (unknown + k)
  beyond_found [] unknown = (0, omega arith, (refl, omega arith))
  beyond_found (frame ∷ beyond) unknown =
      elim (cases_lt unknown 256) [
        | inl lt ↦
            (let r = beyond_found beyond (unknown + 1) in
            let P : ℕ → Type 0 = λ x. AreFindings sent true unmarked (unknown + 1) beyond (replicate r.0 Unknown) unmarked x in
            (suc r.0, omega (arith, r.1), (lt, is_beyond frame.frame, subst P (let z : unknown + 1 + r.0 ≡ unknown + suc r.0 = omega arith in z) r.2)))
        | inr ge ↦ (0, omega arith, (ge, refl, omega arith))
      ]

-- All of what agrees.
pub all_found : (sent : List NumberedFrame) (more : Bool) (received : List NumberedFrame) (rest : List Frame) → frames sent ≡ frames received ++ rest → AreFindings sent more [] 0 received (straight 0 (length received)) (replicate (0 + length received) false) 0
all_found sent more received rest e =
    let last = replicate (0 + length received) false in
    let P : List NumberedFrame → Type 0 = λ x. AreFindings sent more [] 0 x (straight 0 (length received) ++ []) last 0 in
    let Q : List Finding → Type 0 = λ x. AreFindings sent more [] 0 received x last 0 in
    subst Q (append-nil (straight 0 (length received))) (subst P (append-nil received) (straight_found sent more received [] 0 rest [] last 0 e (refl, refl)))
