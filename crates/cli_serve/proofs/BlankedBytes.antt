-- Comments that are replaced byte by byte.
use Rattle.std.proofs.Common.{◌≡◌, ◌≤◌, ◌<◌, ◌+◌, ◌++◌, ◌∙◌, ℕ, suc, List, [], ◌∷◌, ap, append-nil, append_assoc, arith, drop, get_or, length, refl, set, sym, take}
use Rattle.std.proofs.lemmas.List.{drop-set-lt, drop_all, drop_more, take_all, take_more_set}
use Rattle.cli_serve.specs.declared.comments.Part.{Part}
use Rattle.cli_serve.specs.Comments.{blanked_after, part_after, read_as}

-- The byte at an index, as it is read.
one_blanked : (octets : List ℕ) (part : Part) (i : ℕ) → i < length octets → blanked_after part (drop i octets)
    ≡ read_as (part_after part (get_or octets i 0)) (get_or octets i 0) ∷ blanked_after (part_after part (get_or octets i 0)) (drop (i + 1) octets)
unfolding blanked_after
one_blanked octets part i below = ap (λ rest. blanked_after part rest) (drop_more octets i 0 below)

-- The byte at an index is replaced.
pub blanks_next : (all octets : List ℕ) (part next : Part) (i read : ℕ) → i < length octets → next ≡ part_after part (get_or octets i 0)
    → read ≡ read_as next (get_or octets i 0) → take i octets ++ blanked_after part (drop i octets) ≡ all
    → take (i + 1) (set octets i read) ++ blanked_after next (drop (i + 1) (set octets i read)) ≡ all
blanks_next all octets part next i read below next_is read_is before =
    ap (λ (front : List ℕ). front ++ blanked_after next (drop (i + 1) (set octets i read))) (take_more_set octets i read below)
    ∙ ap (λ (rest : List ℕ). (take i octets ++ read ∷ []) ++ blanked_after next rest) (drop-set-lt (i + 1) octets i read (omega arith))
    ∙ append_assoc (take i octets) (read ∷ []) (blanked_after next (drop (i + 1) octets))
    ∙ rw (read_is, next_is) (ap (λ (rest : List ℕ). take i octets ++ rest) (sym (one_blanked octets part i below)))
    ∙ before

-- Every byte was replaced.
pub blanks_all : (all octets : List ℕ) (part : Part) (i : ℕ) → length octets ≤ i → take i octets ++ blanked_after part (drop i octets) ≡ all
    → octets ≡ all
unfolding blanked_after
blanks_all all octets part i above before =
    sym (append-nil octets) ∙ ap (λ (front : List ℕ). front ++ []) (sym (take_all i octets above))
    ∙ ap (λ (rest : List ℕ). take i octets ++ blanked_after part rest) (sym (drop_all i octets above)) ∙ before

-- Each byte is replaced by one byte.
pub blanked_length : (part : Part) (octets : List ℕ) → length (blanked_after part octets) ≡ length octets
unfolding blanked_after
blanked_length part [] = refl
blanked_length part (c ∷ octets) = ap (λ n. suc n) (blanked_length (part_after part c) octets)
