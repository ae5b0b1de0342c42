-- Texts that are appended one after the other.
use Rattle.std.proofs.Common.{◌≡◌, ◌++◌, ℕ, List, [], Ok, Err, ◌∙◌, ap, append_assoc}
use Rattle.std.specs.Prelude.{Result, OnOk}

pub two : {E : Type 0} (r : Result (Unit {0}) E) (old mid new a b : List ℕ) → mid ≡ old ++ a → OnOk r (new ≡ mid ++ b) → OnOk r (new ≡ old ++ (a ++ b))
two (Ok done) old mid new a b is e = e ∙ ap (λ x. x ++ b) is ∙ append_assoc old a b
two (Err error) old mid new a b is e = tt

pub all : (t0 t1 t2 t3 t4 p h v e w l : List ℕ) → t0 ≡ [] → t1 ≡ t0 ++ p → t2 ≡ (t1 ++ h) ++ v → t3 ≡ (t2 ++ e) ++ w → t4 ≡ t3 ++ l
    → t4 ≡ ((((p ++ h) ++ v) ++ e) ++ w) ++ l
all t0 t1 t2 t3 t4 p h v e w l z e1 e2 e3 e4 =
    e4 ∙ ap (λ x. x ++ l) (e3 ∙ ap (λ x. (x ++ e) ++ w) (e2 ∙ ap (λ x. (x ++ h) ++ v) (e1 ∙ ap (λ x. x ++ p) z)))
