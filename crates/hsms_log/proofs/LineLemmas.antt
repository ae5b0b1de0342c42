-- The lines of a text, from its front.
use Rattle.std.proofs.Common.{◌≡◌, ◌++◌, ℕ, List, [], ◌∷◌, Bool, true, false, cond, eqb, refl}
use Rattle.std.specs.List.{slice_split, onto_first}
use Rattle.std.specs.Str.Lines.{strip_carriage_return}
use Rattle.std.proofs.lemmas.List.Splits.{slice_split_at, slice_split_none}
use Rattle.hsms_log.specs.Lines.{HasNone, ended_lines, open_line, last_among}

parts_go : (b : Bool) (octet : ℕ) (parts : List (List ℕ)) → (part : List ℕ) × (more : List (List ℕ)) × (parts ≡ part ∷ more)
    → (part : List ℕ) × (more : List (List ℕ)) × (cond b ([] ∷ parts) (onto_first octet parts) ≡ part ∷ more)
parts_go true octet parts x = ([], parts, refl)
parts_go false octet parts x = (octet ∷ x.0, x.1, rw x.2 refl)

-- There is at least one part.
parts_some : (text : List ℕ) → (part : List ℕ) × (parts : List (List ℕ)) × (slice_split (λ octet. eqb octet 10) text ≡ part ∷ parts)
parts_some [] = ([], [], refl)
parts_some (octet ∷ text) = parts_go (eqb octet 10) octet _ (parts_some text)

pub ended_lines-first : (part rest : List ℕ) → HasNone 10 part → ended_lines (part ++ 10 ∷ rest) ≡ strip_carriage_return part ∷ ended_lines rest
unfolding ended_lines
ended_lines-first part rest h =
    let split = slice_split_at (λ octet. eqb octet 10) part 10 rest h refl in
    let parts = parts_some rest in
    rw (split, parts.2) refl

pub open_line-first : (part rest : List ℕ) → HasNone 10 part → open_line (part ++ 10 ∷ rest) ≡ open_line rest
unfolding open_line
open_line-first part rest h =
    let split = slice_split_at (λ octet. eqb octet 10) part 10 rest h refl in
    let parts = parts_some rest in
    rw (split, parts.2) refl

pub ended_lines-none : (text : List ℕ) → HasNone 10 text → ended_lines text ≡ []
unfolding ended_lines
ended_lines-none text h = rw (slice_split_none (λ octet. eqb octet 10) text h) refl

pub open_line-none : (text : List ℕ) → HasNone 10 text → open_line text ≡ text
unfolding open_line
open_line-none text h = rw (slice_split_none (λ octet. eqb octet 10) text h) refl

parts_last_go : (b : Bool) (octet : ℕ) (parts : List (List ℕ)) (rest : List ℕ)
    → (part next : List ℕ) × (more : List (List ℕ)) × (parts ≡ part ∷ next ∷ more) × (last_among (next ∷ more) ≡ rest)
    → (part next : List ℕ) × (more : List (List ℕ)) × (cond b ([] ∷ parts) (onto_first octet parts) ≡ part ∷ next ∷ more)
    × (last_among (next ∷ more) ≡ rest)
parts_last_go true octet parts rest x = ([], x.0, x.1 ∷ x.2, rw x.3 refl, x.4)
parts_last_go false octet parts rest x = (octet ∷ x.0, x.1, x.2, rw x.3 refl, x.4)

-- A text with a line feed has at least two parts, and the last one is what follows the last line feed.
parts_last : (front rest : List ℕ) → HasNone 10 rest
    → (part next : List ℕ) × (more : List (List ℕ)) × (slice_split (λ octet. eqb octet 10) (front ++ 10 ∷ rest) ≡ part ∷ next ∷ more)
    × (last_among (next ∷ more) ≡ rest)
parts_last [] rest h = ([], rest, [], rw (slice_split_none (λ octet. eqb octet 10) rest h) refl, refl)
parts_last (octet ∷ front) rest h = parts_last_go (eqb octet 10) octet _ rest (parts_last front rest h)

pub open_line-last : (front rest : List ℕ) → HasNone 10 rest → open_line (front ++ 10 ∷ rest) ≡ rest
unfolding open_line
open_line-last front rest h = let parts = parts_last front rest h in rw parts.3 parts.4
