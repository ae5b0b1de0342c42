-- An input that is read chunk by chunk.
use Rattle.std.proofs.Common.{◌≡◌, ◌≤◌, ◌<◌, ◌+◌, ◌++◌, ℕ, List, [], length, take, drop, Some, Ok, refl, sym, ◌∙◌, ap, arith}
use Rattle.std.specs.Prelude.{Option}
use Rattle.std.proofs.lemmas.List.{append-nil, append_assoc, length-append, take-append-drop, take_at}
use Rattle.std.proofs.lemmas.Bool.Decides.{nat_tests}
use Rattle.hsms_frame.specs.Io.{IfRecorded, Takes, IsAtEnd, ends_after}
use Rattle.cli_filters.specs.InnerEncode.{IsReadPast}

-- Holds if these bytes were read, and the others are left.
abbrev pub ReadSoFar : Option (List ℕ) → Option (List ℕ) → List ℕ → Type 0
ReadSoFar initial left octets =
    (input : List ℕ) → initial ≡ Some input → (rest : List ℕ) × (input ≡ octets ++ rest) × (left ≡ Some rest)

pub reads_none : (initial : Option (List ℕ)) → ReadSoFar initial initial []
reads_none initial = λ input known_input. (input, refl, known_input)

pub reads_more : (initial mid left : Option (List ℕ)) (octets buffer new : List ℕ) (n : ℕ) → ReadSoFar initial mid octets → Takes mid left n buffer
    → new ≡ octets ++ take n buffer → ReadSoFar initial left new
reads_more initial mid left octets buffer new n so_far takes added input known_input =
    let a = so_far input known_input in
    let rest : List ℕ = a.0 in
    let t = takes rest a.2 in (
      drop n rest,
      a.1 ∙ ap (λ xs. octets ++ xs) (sym (take-append-drop n rest)) ∙ sym (append_assoc octets (take n rest) (drop n rest))
          ∙ ap (λ xs. (octets ++ xs) ++ drop n rest) (sym t.1) ∙ ap (λ xs. xs ++ drop n rest) (sym added),
      t.2,
    )

-- The end was found, within the limit.
pub reads_whole : (initial left : Option (List ℕ)) (octets : List ℕ) (limit : ℕ) → ReadSoFar initial left octets → IsAtEnd left → length octets ≤ limit
    → IfRecorded initial (IsReadPast limit octets)
reads_whole initial left octets limit so_far end within input known_input =
    let a = so_far input known_input in
    let none : a.0 ≡ [] = end a.0 a.2 in
    let same : octets ≡ input = sym (a.1 ∙ ap (λ xs. octets ++ xs) none ∙ append-nil octets) in
    ((λ fits. same), (λ past. absurd (omega (arith, past, within))))

-- The limit was passed.
pub reads_past : (initial left : Option (List ℕ)) (octets : List ℕ) (limit : ℕ) → ReadSoFar initial left octets → limit < length octets
    → IfRecorded initial (IsReadPast limit octets)
reads_past initial left octets limit so_far past input known_input =
    let a = so_far input known_input in
    let size : length input ≡ length octets + length a.0 = ap length a.1 ∙ length-append octets a.0 in
    ((λ fits. absurd (omega (arith, past, fits))), (λ longer. omega (arith, size, past)))

-- A vector whose complete slice was written.
pub rewritten : (len : ℕ) (part old : List ℕ) → length part ≡ len → take len (part ++ drop (length part) old) ≡ part
rewritten len part old size = take_at part (drop (length part) old) len size

-- A read that returned something did not find the end.
pub not_at_end : (room n ends new : ℕ) → (n ≡ 0 → ⊥) → new ≡ ends_after room (Ok n) ends → new ≡ ends
not_at_end room n ends new some step = grind (arith, nat_tests, step, some)
