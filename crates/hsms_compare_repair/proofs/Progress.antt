-- Findings, one frame on, and their numbers.
use Rattle.std.proofs.Common.{◌≡◌, ◌∙◌, ◌<◌, ◌≤◌, ◌+◌, ℕ, suc, List, [], ◌∷◌, ◌++◌, length, drop, get_or, Bool, refl, sym, ap, subst, append_assoc, append-nil, arith}
use Rattle.std.proofs.lemmas.List.{drop_more, drop_all}
use Rattle.hsms_compare_repair.specs.declared.numbered_frame.NumberedFrame.{NumberedFrame}
use Rattle.hsms_compare_repair.specs.declared.finding.Finding.{Finding}
use Rattle.hsms_compare_repair.specs.declared.finding.Finding.TheVariants.{Next, Late, Altered, Repeated, Unknown}
use Rattle.hsms_compare_repair.specs.Findings.{AreFindings, IsFinding, marks_after, no_frame, unknown_after}

-- What the rest of the received frames is, is what all are.
abbrev pub ContinuesAs : List NumberedFrame → Bool → List NumberedFrame → List Finding → List Bool → ℕ → ℕ → Type 0
ContinuesAs sent more received findings marks unknown i =
    (rest : List Finding) (last : List Bool) (left : ℕ)
    → AreFindings sent more marks unknown (drop i received) rest last left
    → AreFindings sent more [] 0 received (findings ++ rest) last left

pub one_more : (sent received : List NumberedFrame) (more : Bool) (findings : List Finding) (marks : List Bool) (unknown i : ℕ) (frame : NumberedFrame) (found : Finding) → ContinuesAs sent more received findings marks unknown i → i < length received → frame ≡ get_or received i frame → unknown < 256 → IsFinding sent more marks frame.frame found → ContinuesAs sent more received (findings ++ found ∷ []) (marks_after marks found) (unknown_after unknown found) (i + 1)
one_more sent received more findings marks unknown i frame found h lt is few f rest last left g =
    let e : drop i received ≡ frame ∷ drop (i + 1) received =
    drop_more received i frame lt ∙ ap (λ x. x ∷ drop (i + 1) received) (sym is) in
    let P : List NumberedFrame → Type 0 = λ x. AreFindings sent more marks unknown x (found ∷ rest) last left in
    let Q : List Finding → Type 0 = λ x. AreFindings sent more [] 0 received x last left in
    subst Q (sym (append_assoc findings (found ∷ []) rest)) (h (found ∷ rest) last left (subst P (sym e) (few, f, g)))

-- All is found, or the direction is given up.
ends : (sent received : List NumberedFrame) (more : Bool) (findings : List Finding) (marks : List Bool) (unknown i : ℕ) (rest : List NumberedFrame) → ContinuesAs sent more received findings marks unknown i → drop i received ≡ rest → AreFindings sent more marks unknown rest [] marks unknown → AreFindings sent more [] 0 received findings marks unknown
ends sent received more findings marks unknown i rest h e f =
    let P : List NumberedFrame → Type 0 = λ x. AreFindings sent more marks unknown x [] marks unknown in
    let Q : List Finding → Type 0 = λ x. AreFindings sent more [] 0 received x marks unknown in
    subst Q (append-nil findings) (h [] marks unknown (subst P (sym e) f))

pub ends_there : (sent received : List NumberedFrame) (more : Bool) (findings : List Finding) (marks : List Bool) (unknown i : ℕ) → ContinuesAs sent more received findings marks unknown i → length received ≤ i → AreFindings sent more [] 0 received findings marks unknown
ends_there sent received more findings marks unknown i h le =
    ends sent received more findings marks unknown i [] h (drop_all i received le) (refl, refl)

pub gives_up : (sent received : List NumberedFrame) (more : Bool) (findings : List Finding) (marks : List Bool) (unknown i : ℕ) → ContinuesAs sent more received findings marks unknown i → i < length received → 256 ≤ unknown → AreFindings sent more [] 0 received findings marks unknown
gives_up sent received more findings marks unknown i h lt many =
    ends sent received more findings marks unknown i (get_or received i no_frame ∷ drop (i + 1) received) h (drop_more received i no_frame lt) (many, refl, refl)

-- ---- how many

pub bounded : (sent : List NumberedFrame) (more : Bool) (marks : List Bool) (unknown : ℕ) (received : List NumberedFrame) (findings : List Finding) (last : List Bool) (left : ℕ) → AreFindings sent more marks unknown received findings last left → (length findings ≤ length received) × (left ≤ unknown + length findings)
bounded sent more marks unknown [] [] last left h = (omega arith, omega (arith, h.1))
bounded sent more marks unknown [] (found ∷ findings) last left h = absurd h
bounded sent more marks unknown (frame ∷ received) [] last left h = (omega arith, omega (arith, h.2))
bounded sent more marks unknown (frame ∷ received) (found ∷ findings) last left h =
    let r = bounded sent more (marks_after marks found) (unknown_after unknown found) received findings last left h.2 in
    (omega (arith, r.0), one_further unknown found (length findings) left r.1)
  where
    one_further : (unknown : ℕ) (found : Finding) (n left : ℕ) → left ≤ unknown_after unknown found + n → left ≤ unknown + suc n
    one_further unknown (Next next k) n left h = omega arith
    one_further unknown (Late k) n left h = omega arith
    one_further unknown (Altered next) n left h = omega arith
    one_further unknown Repeated n left h = omega arith
    one_further unknown Unknown n left h = omega arith
