-- What is left of connections of which some are forgotten.
use Rattle.std.proofs.Common.{◌≡◌, ◌%◌, ◌==◌, ◌∷◌, ℕ, Bool, true, false, cond, List, [], inl, inr, refl, sym, subst, ◌∙◌}
use Rattle.std.specs.Map.Calls.{RetainsPairs}
use Rattle.capture_log.specs.declared.socket_pair.Pair.{Pair}
use Rattle.cli_capture.specs.declared.tracked_connection.Flow.{Flow}
use Rattle.cli_capture.specs.InnerConnectionState.{IsForgotten}
use Rattle.cli_capture.specs.ConnectionTable.{KeepsIf, KeepsOf, LeavesOut}

-- what `retain` leaves, where its closure keeps those that aren't forgotten as they were
module _ {F : Type 0} (T : F → Pair → Flow → Bool → Flow → F → Type 0) (begun : ℕ) (f : F)
    (says : (k : Pair) (v : Flow) (b : Bool) (w : Flow) (g : F) → T f k v b w g
    → (b ≡ true → IsForgotten v begun → ⊥) × (b ≡ false → IsForgotten v begun) × (w ≡ v) × (g ≡ f)) where
  pub left_out : (es kept : List (Pair × Flow)) → RetainsPairs T f es kept → LeavesOut (λ (flow : Flow). IsForgotten flow begun) es kept
  left_out [] kept h = h
  left_out (e ∷ es) kept h =
      let s = says e.0 e.1 h.0 h.1 h.2 h.4 in
      let rest = left_out es h.3 (subst (λ g. RetainsPairs T g es h.3) s.3 h.5) in
      by_answer h.0 s.0 s.1 (h.6 ∙ (λ j. cond h.0 ((e.0, s.2 j) ∷ h.3) h.3)) rest
    where
      by_answer : (b : Bool) → (b ≡ true → IsForgotten e.1 begun → ⊥) → (b ≡ false → IsForgotten e.1 begun) → kept ≡ cond b (e ∷ h.3) h.3
          → LeavesOut (λ (flow : Flow). IsForgotten flow begun) es h.3 → LeavesOut (λ (flow : Flow). IsForgotten flow begun) (e ∷ es) kept
      by_answer true stays gone is rest = (h.3, rest, inr (stays refl, is))
      by_answer false stays gone is rest = (h.3, rest, inl (gone refl, is))

pub kept_if : (begun : ℕ) (es kept : List (Pair × Flow)) → begun % 4096 ≡ 0 → LeavesOut (λ (flow : Flow). IsForgotten flow begun) es kept
    → KeepsOf IsForgotten begun es kept
kept_if begun es kept is left = subst (λ (n : ℕ). KeepsIf (n == 0) (λ (flow : Flow). IsForgotten flow begun) es kept) (sym is) left
