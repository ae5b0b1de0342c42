-- A received frame has one finding, and a direction one list of findings and of facts.
use Rattle.std.proofs.Common.{◌≡◌, ◌∙◌, ℕ, List, [], ◌∷◌, length, Bool, refl, sym, ap, subst, inl, inr, arith}
use Rattle.std.proofs.lemmas.Bool.{cases_lt}
use Rattle.hsms_frame.specs.Frame.{Frame}
use Rattle.hsms_compare_repair.specs.declared.numbered_frame.NumberedFrame.{NumberedFrame}
use Rattle.hsms_compare_repair.specs.declared.finding.Finding.{Finding}
use Rattle.hsms_compare_repair.specs.declared.finding.Finding.TheVariants.{Next, Late, Altered, Repeated, Unknown}
use Rattle.hsms_compare_repair.specs.declared.fact.Fact.{Fact}
use Rattle.hsms_compare_repair.specs.Findings.{Applies, AreFindings, IsAhead, IsFinding, IsLeast, IsSkipped, row, marks_after, unknown_after}
use Rattle.hsms_compare_repair.specs.Facts.{AreFacts, facts_of_findings}

pub one_least : (P : ℕ → Type 0) (k m : ℕ) → IsLeast P k → IsLeast P m → k ≡ m
one_least P k m a b =
    elim (cases_lt k m) [
      | inl lt ↦ absurd (b.least k lt a.holds)
      | inr ge ↦
          elim (cases_lt m k) [
            | inl lt ↦ absurd (a.least m lt b.holds)
            | inr le ↦ omega arith
          ]
    ]

module _ (sent : List NumberedFrame) (more : Bool) (marks : List Bool) (frame : Frame) where
  -- in one row
  same_row : (a b : Finding) → row a ≡ row b → Applies sent more marks frame a → Applies sent more marks frame b → a ≡ b
  same_row (Next n k) (Next m j) e a b =
      ap (λ x. Next x k) (a.0 ∙ sym b.0) ∙ ap (λ x. Next m x) (one_least (IsAhead sent (length marks) frame) k j a.1 b.1)
  same_row (Late k) (Late j) e a b = ap Late (one_least (IsSkipped sent marks frame) k j a b)
  same_row (Altered n) (Altered m) e a b = ap Altered (a.0 ∙ sym b.0)
  same_row Repeated Repeated e a b = refl
  same_row Unknown Unknown e a b = refl
  same_row (Next n k) (Late j) e a b = absurd (omega arith)
  same_row (Next n k) (Altered m) e a b = absurd (omega arith)
  same_row (Next n k) Repeated e a b = absurd (omega arith)
  same_row (Next n k) Unknown e a b = absurd (omega arith)
  same_row (Late k) (Next m j) e a b = absurd (omega arith)
  same_row (Late k) (Altered m) e a b = absurd (omega arith)
  same_row (Late k) Repeated e a b = absurd (omega arith)
  same_row (Late k) Unknown e a b = absurd (omega arith)
  same_row (Altered n) (Next m j) e a b = absurd (omega arith)
  same_row (Altered n) (Late j) e a b = absurd (omega arith)
  same_row (Altered n) Repeated e a b = absurd (omega arith)
  same_row (Altered n) Unknown e a b = absurd (omega arith)
  same_row Repeated (Next m j) e a b = absurd (omega arith)
  same_row Repeated (Late j) e a b = absurd (omega arith)
  same_row Repeated (Altered m) e a b = absurd (omega arith)
  same_row Repeated Unknown e a b = absurd (omega arith)
  same_row Unknown (Next m j) e a b = absurd (omega arith)
  same_row Unknown (Late j) e a b = absurd (omega arith)
  same_row Unknown (Altered m) e a b = absurd (omega arith)
  same_row Unknown Repeated e a b = absurd (omega arith)

  pub one_finding : (a b : Finding) → IsFinding sent more marks frame a → IsFinding sent more marks frame b → a ≡ b
  one_finding a b h g =
      elim (cases_lt (row a) (row b)) [
        | inl lt ↦ absurd (g.first a lt h.applies)
        | inr ge ↦
            elim (cases_lt (row b) (row a)) [
              | inl lt ↦ absurd (h.first b lt g.applies)
              | inr le ↦ same_row a b (omega arith) h.applies g.applies
            ]
      ]

pub record SameEnd (findings others : List Finding) (last last' : List Bool) (left left' : ℕ) : Type 0 where
  pub findings_so : findings ≡ others
  pub last_so : last ≡ last'
  pub left_so : left ≡ left'

module _ (sent : List NumberedFrame) (more : Bool) (last last' : List Bool) (left left' : ℕ) where
  pub one_list : (marks : List Bool) (unknown : ℕ) (received : List NumberedFrame) (findings others : List Finding) → AreFindings sent more marks unknown received findings last left → AreFindings sent more marks unknown received others last' left' → SameEnd findings others last last' left left'
  one_list marks unknown [] [] [] h g = record { findings_so = refl; last_so = h.0 ∙ sym g.0; left_so = h.1 ∙ sym g.1 }
  one_list marks unknown [] [] (b ∷ others) h g = absurd g
  one_list marks unknown [] (a ∷ findings) others h g = absurd h
  one_list marks unknown (frame ∷ received) [] [] h g = record { findings_so = refl; last_so = h.1 ∙ sym g.1; left_so = h.2 ∙ sym g.2 }
  one_list marks unknown (frame ∷ received) [] (b ∷ others) h g = absurd (omega (arith, h.0, g.0))
  one_list marks unknown (frame ∷ received) (a ∷ findings) [] h g = absurd (omega (arith, h.0, g.0))
  one_list marks unknown (frame ∷ received) (a ∷ findings) (b ∷ others) h g =
      let e : a ≡ b = one_finding sent more marks frame.frame a b h.1 g.1 in
      let P : Finding → Type 0 = λ x. AreFindings sent more (marks_after marks x) (unknown_after unknown x) received findings last left in
      let r = one_list (marks_after marks b) (unknown_after unknown b) received findings others (subst P e h.2) g.2 in
      record { findings_so = ap (λ x. x ∷ findings) e ∙ ap (λ x. b ∷ x) r.findings_so; last_so = r.last_so; left_so = r.left_so }

pub one_list_of_facts : (sent received : List NumberedFrame) (more : Bool) (shown : ℕ) (facts others : List Fact) → AreFacts sent received more shown facts → AreFacts sent received more shown others → facts ≡ others
one_list_of_facts sent received more shown facts others h g =
    let e = one_list sent more h.last g.last h.left g.left [] 0 received h.findings g.findings h.found g.found in
    h.told
    ∙ ap (λ x. facts_of_findings sent more shown received x h.last h.left) e.findings_so
    ∙ ap (λ x. facts_of_findings sent more shown received g.findings x h.left) e.last_so
    ∙ ap (λ x. facts_of_findings sent more shown received g.findings g.last x) e.left_so
    ∙ sym g.told
