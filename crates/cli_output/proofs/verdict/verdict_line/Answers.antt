use Rattle.std.proofs.Common.{◌≡◌, ◌++◌, ◌∙◌, [], ◌∷◌, ℕ, List, Ok, Err, ap, sym, codes, decimal, append_assoc, string_bytes}
use Rattle.std.specs.Prelude.{Result, IfOk}
use Rattle.hsms_log.specs.declared.verdict.Verdict.TheVariants.{Fail}
use Rattle.cli_output.specs.Verdict.{verdict_line_of}
use Rattle.cli_output.proofs.verdict.verdict_line.Goals as goal

-- An equal text in another form.
same_words : {T E : Type 0} (octets : T → List ℕ) (r : Result T E) (xs ys : List ℕ) → IfOk r (λ words. octets words ≡ xs) → xs ≡ ys
    → IfOk r (λ words. octets words ≡ ys)
same_words octets (Ok words) xs ys is same = is ∙ same
same_words octets (Err fault) xs ys is same = tt

pub returns-in-Fail-default-Unreadable : goal.returns-in-Fail-default-Unreadable
returns-in-Fail-default-Unreadable c =
    let w = c.in-Fail-default-Unreadable in
    let why_is = rw w.is at w.why-is in
    let is = w.is ∙ ap (λ y. Fail w.line y) why_is in
    let front : List ℕ = codes "fail line=" ++ decimal w.line in
    same_words string_bytes c.format.result _ _ c.format.ensures.ok (sym (append_assoc front (codes " unreadable") (10 ∷ [])) ∙ sym (ap verdict_line_of is))

pub returns-in-Fail-default-Broken : goal.returns-in-Fail-default-Broken
returns-in-Fail-default-Broken c =
    let w = c.in-Fail-default-Broken in
    let why_is = rw w.is at w.why-is in
    let is = w.is ∙ ap (λ y. Fail w.line y) why_is in
    let front : List ℕ = codes "fail line=" ++ decimal w.line in
    let mark : List ℕ = codes " rule=" in
    let words = sym (append_assoc front mark (c.name.result.now ++ 10 ∷ [])) ∙ sym (append_assoc (front ++ mark) c.name.result.now (10 ∷ []))
    ∙ ap (λ (n : List ℕ). front ++ mark ++ n ++ 10 ∷ []) c.name.ensures in
    same_words string_bytes c.format-in-Fail-default-Broken.result _ _ c.format-in-Fail-default-Broken.ensures.ok (words ∙ sym (ap verdict_line_of is))
