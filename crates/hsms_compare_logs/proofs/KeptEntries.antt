-- What is kept of a log, with one more entry.
use Rattle.std.proofs.Common.{◌≡◌, ◌++◌, ◌∙◌, ℕ, List, [], ◌∷◌, ap, map, sym}
use Rattle.std.proofs.lemmas.List.{map-append}
use Rattle.hsms_machine.specs.declared.entry.Entry.{Entry}
use Rattle.hsms_compare.specs.Conversation.{Line}
use Rattle.hsms_compare_logs.specs.Records.{bare_entry}

pub entries_more : (lines : List Line) (line : Line) (old new : List Entry) (entry : Entry) → old ≡ map (λ (it : Line). bare_entry it.entry) lines → new ≡ old ++ entry ∷ [] → entry ≡ bare_entry line.entry → new ≡ map (λ (it : Line). bare_entry it.entry) (lines ++ line ∷ [])
entries_more lines line old new entry before is entry_is =
    is
    ∙ ap (λ (xs : List Entry). xs ++ entry ∷ []) before
    ∙ ap (λ (x : Entry). map (λ (it : Line). bare_entry it.entry) lines ++ x ∷ []) entry_is
    ∙ sym (map-append (λ (it : Line). bare_entry it.entry) lines (line ∷ []))

pub lines_more : (lines : List Line) (line : Line) (old new : List ℕ) → old ≡ map (λ (it : Line). it.position) lines → new ≡ old ++ line.position ∷ [] → new ≡ map (λ (it : Line). it.position) (lines ++ line ∷ [])
lines_more lines line old new before is =
    is ∙ ap (λ (xs : List ℕ). xs ++ line.position ∷ []) before ∙ sym (map-append (λ (it : Line). it.position) lines (line ∷ []))
