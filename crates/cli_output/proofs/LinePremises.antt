-- What was given to an output and its block, part by part.
use Rattle.std.proofs.Common.{◌≡◌, ℕ, List, [], ◌∷◌, ◌++◌, sym, ap, ◌∙◌, subst, append-nil, append_assoc}
use Rattle.hsms_frame.specs.Frame.{Frame}
use Rattle.hsms_frame.specs.declared.kinds.Kind.{Kind}
use Rattle.hsms_frame.specs.Header.{kind_of}
use Rattle.secs_text.specs.BlockOutput.{AppendsBytes}
use Rattle.cli_output.specs.Line.{LineOf, LineOfKind}

-- A second text follows the first.
pub appends_then : (A B C : List ℕ → Type 0) (a b c xs ys : List ℕ) → AppendsBytes A a B b xs → AppendsBytes B b C c ys → AppendsBytes A a C c (xs ++ ys)
appends_then A B C a b c xs ys first second = λ given has.
    let p = first given has in
    let q = second p.0 p.1 in
    (q.0, q.1, q.2 ∙ ap (λ (o : List ℕ). o ++ ys) p.2 ∙ append_assoc (given ++ a) xs ys)

pub appends_none : (A : List ℕ → Type 0) (a : List ℕ) → AppendsBytes A a A a []
appends_none A a = λ given has. (given, has, sym (append-nil (given ++ a)))

-- An equal text under another name.
pub appends_same : (A B : List ℕ → Type 0) (a b xs ys : List ℕ) → xs ≡ ys → AppendsBytes A a B b xs → AppendsBytes A a B b ys
appends_same A B a b xs ys same appends_bytes = subst (λ (o : List ℕ). AppendsBytes A a B b o) same appends_bytes

-- ---- lines

-- The line of a message of this kind.
pub line_as : (depth : ℕ) (f : Frame) (kind : Kind) (line : List ℕ) → kind_of f.header ≡ kind → LineOfKind kind depth f line → LineOf depth f line
line_as depth f kind line is line_is = subst (λ (k : Kind). LineOfKind k depth f line) (sym is) line_is

-- Two numbers, each after a space.
pub two_numbers : (front first second text end : List ℕ) → front ++ (32 ∷ first) ++ (32 ∷ second) ++ text ++ end ≡ front ++ (32 ∷ first ++ 32 ∷ [] ++ second) ++ text ++ end
two_numbers front first second text end =
    ap (λ (o : List ℕ). o ++ text ++ end) (append_assoc front (32 ∷ first) (32 ∷ second) ∙ ap (λ (o : List ℕ). front ++ o) (sym (append_assoc (32 ∷ first) (32 ∷ []) second)))

-- A line with its text in hexadecimal.
pub unreadable_is : (front name mark digits end : List ℕ)
    → front ++ 32 ∷ [] ++ (name ++ mark ++ digits ++ end) ≡ front ++ (32 ∷ name) ++ mark ++ digits ++ end
unreadable_is front name mark digits end =
    append_assoc front (32 ∷ []) (name ++ mark ++ digits ++ end)
    ∙ sym (append_assoc front ((32 ∷ name) ++ mark ++ digits) end)
    ∙ ap (λ (o : List ℕ). o ++ end) (sym (append_assoc front ((32 ∷ name) ++ mark) digits) ∙ ap (λ (o : List ℕ). o ++ digits) (sym (append_assoc front (32 ∷ name) mark)))
