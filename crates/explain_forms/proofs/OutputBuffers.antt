-- Appending to the output buffer.
use Rattle.std.proofs.Common.{◌≡◌, ◌+◌, ◌++◌, ℕ, true, false, List, [], ◌∷◌, Some, None, refl, sym, ap, ◌∙◌, subst, append_assoc, replicate}
use Rattle.std.specs.Prelude.{Option, IfSome}
use Rattle.std.proofs.lemmas.List.{append-nil, replicate_more}
use Rattle.secs_text.specs.BlockOutput.{AppendsBytes}
use Rattle.explain_lines.specs.declared.annotation.Note.{Note}
use Rattle.explain_forms.specs.declared.output_buffer.Page.{Page}
use Rattle.explain_forms.specs.OutputBuffer.{Adds, AddsSome, HasMemory, HasEmitted}
use Rattle.explain_forms.specs.TextOutput.{NotesWritten, NoteWritten}

pub adds_appended : (old new : Page) (words : List ℕ) → AppendsBytes (HasMemory old.shown_line) old.block (HasMemory new.shown_line) new.block words → Adds old new words
adds_appended old new words appends_bytes = record {
  grows = λ text shown_line.
      let (given, has, is) = shown_line in
      let (now, has_now, now_is) = appends_bytes given has in
      (now, has_now, ap (λ t. t ++ words) is ∙ sym now_is);
}

pub adds_none : (page : Page) → Adds page page []
adds_none page = record { grows = λ text has. let P : List ℕ → Type 0 = λ t. HasEmitted page t in subst P (sym (append-nil text)) has }

pub adds_then : (old mid new : Page) (one other : List ℕ) → Adds old mid one → Adds mid new other → Adds old new (one ++ other)
adds_then old mid new one other first second = record {
  grows = λ text has.
      let P : List ℕ → Type 0 = λ t. HasEmitted new t in
      subst P (append_assoc text one other) (second.grows (text ++ one) (first.grows text has));
}

pub some_then : (old mid new : Page) → AddsSome old mid → AddsSome mid new → AddsSome old new
some_then old mid new (one, first) (other, second) = (one ++ other, adds_then old mid new one other first second)

pub adds_is : (old new : Page) (one other : List ℕ) → one ≡ other → Adds old new one → Adds old new other
adds_is old new one other is adds = let P : List ℕ → Type 0 = λ w. Adds old new w in subst P is adds

-- ---- a buffer after a failed allocation

pub adds_refused : (old new : Page) (words : List ℕ) → new.shown_line.is_refused ≡ true → new.block ≡ [] → Adds old new words
adds_refused old new words refused none = record {
  grows = λ text shown_line.
      let all = text ++ words in
      (all, λ kept. let other : true ≡ false = sym refused ∙ kept in absurd cc, sym (append-nil all) ∙ ap (λ b. all ++ b) (sym none));
}

-- After a failed allocation the buffer accepts any words.
pub said_refused : (output : Option (List ℕ)) (old new : Page) → ((words : List ℕ) → Adds old new words)
    → (said : List ℕ) × IfSome output (λ words. said ≡ words) × Adds old new said
said_refused None old new refused = ([], tt, refused [])
said_refused (Some words) old new refused = (words, refl, refused words)

-- ---- the output is collected, and dropped

pub emitted_pending : (old new : Page) (text : List ℕ) → HasEmitted old text
    → ((given : List ℕ) → HasMemory old.shown_line given → HasMemory new.shown_line (given ++ old.block)) → new.block ≡ [] → HasEmitted new text
emitted_pending old new text (given, has, is) gives none =
    (given ++ old.block, gives given has, is ∙ sym (append-nil (given ++ old.block)) ∙ ap (λ b. given ++ old.block ++ b) (sym none))

pub input_octets : (page : Page) (text octets : List ℕ) → page.block ≡ [] → HasEmitted page text
    → ((given : List ℕ) → HasMemory page.shown_line given → octets ≡ given) → octets ≡ text
input_octets page text octets none (given, has, is) are = are given has ∙ sym (is ∙ ap (λ b. given ++ b) none ∙ append-nil given)

-- ---- annotations

-- The words of the annotations so far, and of one more.
pub notes_written_more : (notes : List Note) (note : Note) (words more : List ℕ) → NotesWritten notes words → NoteWritten note more → NotesWritten (notes ++ note ∷ []) (words ++ more)
notes_written_more [] note words more none shown_line =
    let P : List ℕ → Type 0 = λ w. NotesWritten (note ∷ []) (w ++ more) in
    subst P (sym none) (more, [], shown_line, refl, sym (append-nil more))
notes_written_more (first ∷ others) note words more (one, rest, one_emitted, rest_emitted, is) shown_line =
    (one, rest ++ more, one_emitted, notes_written_more others note rest more rest_emitted shown_line, ap (λ w. w ++ more) is ∙ append_assoc one rest more)

pub blank_more : (n : ℕ) → ◌++◌ {A = ℕ} (replicate n 32) (32 ∷ []) ≡ replicate (n + 1) 32
blank_more n = let blank : ℕ = 32 in replicate_more n blank
