-- Facts that are appended one by one.
use Rattle.std.proofs.Common.{◌≡◌, ◌∙◌, ◌<◌, ◌≤◌, ◌+◌, ◌-◌, ℕ, zero, suc, List, [], ◌∷◌, ◌++◌, length, take, get_or, Bool, sym, map, drop, ap, append_assoc, append-nil, arith}
use Rattle.std.proofs.lemmas.List.{take_more, length-take-le}
use Rattle.hsms_compare_repair.specs.declared.numbered_frame.NumberedFrame.{NumberedFrame}
use Rattle.hsms_compare_repair.specs.declared.finding.Finding.{Finding}
use Rattle.hsms_compare_repair.specs.declared.fact.Fact.{Fact}
use Rattle.hsms_compare_repair.specs.Facts.{facts_at, facts_from, facts_of_findings, facts_of_unknown, line_at, skipped_fact, skipped_facts}

module _ (sent : List NumberedFrame) (last : List Bool) where
  from-push : (received : List NumberedFrame) (i : ℕ) (findings : List Finding) (found : Finding) → facts_from sent last received i (findings ++ found ∷ []) ≡ facts_from sent last received i findings ++ facts_at sent last (line_at received (i + length findings)) found
  from-push received i [] found =
      append-nil (facts_at sent last (line_at received i) found)
      ∙ ap (λ (k : ℕ). facts_at sent last (line_at received k) found) (let e : i ≡ i + 0 = omega arith in e)
  from-push received i (first ∷ findings) found =
      ap (λ x. facts_at sent last (line_at received i) first ++ x) (from-push received (i + 1) findings found
      ∙ ap (λ (k : ℕ). facts_from sent last received (i + 1) findings ++ facts_at sent last (line_at received k) found) (let e : i + 1 + length findings ≡ i + suc (length findings) = omega arith in e))
      ∙ sym (append_assoc (facts_at sent last (line_at received i) first) (facts_from sent last received (i + 1) findings) (facts_at sent last (line_at received (i + suc (length findings))) found))

  pub from-more : (received : List NumberedFrame) (findings : List Finding) (i : ℕ) (found d : Finding) → i < length findings → found ≡ get_or findings i d → facts_from sent last received 0 (take (i + 1) findings) ≡ facts_from sent last received 0 (take i findings) ++ facts_at sent last (line_at received i) found
  from-more received findings i found d lt is =
      ap (facts_from sent last received 0) (take_more findings i d lt ∙ ap (λ x. take i findings ++ x ∷ []) (sym is))
      ∙ from-push received 0 (take i findings) found
      ∙ ap (λ (k : ℕ). facts_from sent last received 0 (take i findings) ++ facts_at sent last (line_at received k) found) (let n = length-take-le i findings (omega arith) in let e : 0 + length (take i findings) ≡ i = omega arith in e)

  pub skipped-more : (line k n : ℕ) → skipped_facts sent last line k (suc n) ≡ skipped_facts sent last line k n ++ skipped_fact sent last line (k + n)
  skipped-more line k zero =
      append-nil (skipped_fact sent last line k) ∙ ap (skipped_fact sent last line) (let e : k ≡ k + 0 = omega arith in e)
  skipped-more line k (suc n) =
      ap (λ x. skipped_fact sent last line k ++ x) (skipped-more line (k + 1) n
      ∙ ap (λ (m : ℕ). skipped_facts sent last line (k + 1) n ++ skipped_fact sent last line m) (let e : k + 1 + n ≡ k + suc n = omega arith in e))
      ∙ sym (append_assoc (skipped_fact sent last line k) (skipped_facts sent last line (k + 1) n) (skipped_fact sent last line (k + suc n)))

  pub skipped-step : (line next k : ℕ) → next ≤ k → skipped_facts sent last line next (k + 1 - next) ≡ skipped_facts sent last line next (k - next) ++ skipped_fact sent last line k
  skipped-step line next k le =
      ap (skipped_facts sent last line next) (let e : k + 1 - next ≡ suc (k - next) = omega arith in e)
      ∙ skipped-more line next (k - next)
      ∙ ap (λ (m : ℕ). skipped_facts sent last line next (k - next) ++ skipped_fact sent last line m) (let e : next + (k - next) ≡ k = omega arith in e)

abbrev lines-of : List NumberedFrame → List ℕ
lines-of frames = map (λ (frame : NumberedFrame). frame.line) frames

-- All facts, in two parts.
pub all-told : (sent received : List NumberedFrame) (more : Bool) (shown : ℕ) (findings : List Finding) (last : List Bool) (left : ℕ) (facts first : List Fact) (count many next : ℕ) (lines : List ℕ) → first ≡ facts_from sent last received 0 (take count findings) → facts ≡ first ++ facts_of_unknown many more shown next lines → count ≡ length findings - left → left ≤ length findings → many ≡ length sent → next ≡ length last → lines ≡ lines-of (take (length findings - count) (drop count received)) → facts ≡ facts_of_findings sent more shown received findings last left
all-told sent received more shown findings last left facts first count many next lines first_is facts_are count_is within many_is next_is lines_are =
    let left_is : length findings - count ≡ left = omega (arith, count_is, within) in
    facts_are
    ∙ ap (λ x. x ++ facts_of_unknown many more shown next lines) (first_is ∙ ap (λ (x : ℕ). facts_from sent last received 0 (take x findings)) count_is)
    ∙ ap (λ x. facts_from sent last received 0 (take (length findings - left) findings) ++ x) (
    ap (λ (x : ℕ). facts_of_unknown x more shown next lines) many_is
    ∙ ap (λ (x : ℕ). facts_of_unknown (length sent) more shown x lines) next_is
    ∙ ap (facts_of_unknown (length sent) more shown (length last)) (lines_are
    ∙ ap (λ (x : ℕ). lines-of (take x (drop count received))) left_is
    ∙ ap (λ (x : ℕ). lines-of (take left (drop x received))) count_is))
