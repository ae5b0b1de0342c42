-- The repair does not change what agrees.
use Rattle.std.proofs.Common.{◌≡◌, ◌∙◌, ◌+◌, ◌-◌, ℕ, zero, suc, List, [], ◌∷◌, ◌++◌, length, take, drop, replicate, Bool, false, refl, sym, ap, subst, inl, inr, arith}
use Rattle.std.proofs.lemmas.List.{drop_more, drop_all}
use Rattle.std.proofs.lemmas.Bool.{cases_lt}
use Rattle.hsms_frame.specs.Frame.{Frame}
use Rattle.hsms_compare.specs.Conversation.{IsPrefix}
use Rattle.hsms_compare_repair.specs.declared.numbered_frame.NumberedFrame.{NumberedFrame}
use Rattle.hsms_compare_repair.specs.declared.finding.Finding.{Finding}
use Rattle.hsms_compare_repair.specs.declared.finding.Finding.TheVariants.{Next}
use Rattle.hsms_compare_repair.specs.Findings.{AreFindings, frame_at, no_frame, marks_after, unknown_after}
use Rattle.hsms_compare_repair.specs.Laws.{frames, repaired}
use Rattle.hsms_compare_repair.proofs.OneFinding.{one_finding}
use Rattle.hsms_compare_repair.proofs.Straight.{is_straight, one_marked}

module _ (sent : List NumberedFrame) (more : Bool) (last : List Bool) (left : ℕ) where
  kept-from : (n m : ℕ) (received : List NumberedFrame) (findings : List Finding) (rest : List Frame) → AreFindings sent more (replicate m false) 0 received findings last left → frames (drop m sent) ≡ frames (take n received) ++ rest → IsPrefix (frames (take n received)) (repaired sent received findings)
  kept-from zero m received findings rest h e = (repaired sent received findings, refl)
  kept-from (suc n) m [] findings rest h e = ([], refl)
  kept-from (suc n) m (frame ∷ received) [] rest h e = absurd (omega (arith, h.0))
  kept-from (suc n) m (frame ∷ received) (found ∷ findings) rest h e =
      elim (cases_lt m (length sent)) [
        | inl lt ↦
            (let d : (frame_at sent m).frame ∷ frames (drop (m + 1) sent) ≡ frame.frame ∷ (frames (take n received) ++ rest) =
            ap frames (sym (drop_more sent m no_frame lt)) ∙ e in
            let head : (frame_at sent m).frame ≡ frame.frame = cc d in
            let tail : frames (drop (m + 1) sent) ≡ frames (take n received) ++ rest = cc d in
            let is : found ≡ Next m m = one_finding sent more (replicate m false) frame.frame found (Next m m) h.1 (is_straight sent more m frame.frame lt head) in
            let P : Finding → Type 0 = λ x. AreFindings sent more (marks_after (replicate m false) x) (unknown_after 0 x) received findings last left in
            let Q : List Bool → Type 0 = λ x. AreFindings sent more x 0 received findings last left in
            let r = kept-from n (m + 1) received findings rest (subst Q (one_marked sent more m) (subst P is h.2)) tail in
            let none : m - m ≡ 0 = omega arith in (
              r.0,
              ap (λ (x : Finding). repaired sent (frame ∷ received) (x ∷ findings)) is
                  ∙ ap (λ (k : ℕ). frames (take k (drop m sent)) ++ frame.frame ∷ repaired sent received findings) none
                  ∙ ap (λ x. frame.frame ∷ x) r.1,
            ))
        | inr ge ↦ (let d : [] ≡ frames (frame ∷ take n received) ++ rest = ap frames (sym (drop_all m sent ge)) ∙ e in absurd (cc d))
      ]

pub kept : (sent received : List NumberedFrame) (more : Bool) (findings : List Finding) (last : List Bool) (left n : ℕ) → AreFindings sent more [] 0 received findings last left → IsPrefix (frames (take n received)) (frames sent) → IsPrefix (frames (take n received)) (repaired sent received findings)
kept sent received more findings last left n h (rest, e) = kept-from sent more last left n 0 received findings rest h e
