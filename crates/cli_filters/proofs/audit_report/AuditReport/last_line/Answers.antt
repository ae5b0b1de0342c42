use Rattle.std.proofs.Common.{◌≡◌, ◌++◌, ◌∙◌, [], ◌∷◌, ℕ, List, Ok, Err, sym, codes, decimal, append_assoc, string_bytes}
use Rattle.std.specs.Prelude.{Result, IfOk}
use Rattle.cli_filters.proofs.audit_report.AuditReport.last_line.Goals as goal

-- An equal text in another form.
same_words : {T E : Type 0} (octets : T → List ℕ) (r : Result T E) (xs ys : List ℕ) → IfOk r (λ words. octets words ≡ xs) → xs ≡ ys
    → IfOk r (λ words. octets words ≡ ys)
same_words octets (Ok words) xs ys is same = is ∙ same
same_words octets (Err fault) xs ys is same = tt

from_the_left : (a b c d e f g : List ℕ)
    → a ++ (b ++ (c ++ (d ++ (e ++ (f ++ g))))) ≡ (((((a ++ b) ++ c) ++ d) ++ e) ++ f) ++ g
from_the_left a b c d e f g =
    sym (append_assoc a b (c ++ (d ++ (e ++ (f ++ g))))) ∙ sym (append_assoc (a ++ b) c (d ++ (e ++ (f ++ g))))
    ∙ sym (append_assoc ((a ++ b) ++ c) d (e ++ (f ++ g))) ∙ sym (append_assoc (((a ++ b) ++ c) ++ d) e (f ++ g))
    ∙ sym (append_assoc ((((a ++ b) ++ c) ++ d) ++ e) f g)

pub returns : goal.returns
returns c =
    let words = from_the_left (codes "logs passed=") (decimal c.args.self.passed) (codes " failed=") (decimal c.args.self.failed)
    (codes " unopened=") (decimal c.args.self.unopened) (10 ∷ []) in
    rw c.if-self.false (same_words string_bytes c.format.result _ _ c.format.ensures.ok words)
