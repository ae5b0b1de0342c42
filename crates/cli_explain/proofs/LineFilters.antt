-- Filter of log lines: which lines are written.
use Rattle.std.proofs.Common.{◌≡◌, ◌≤◌, ◌<◌, ◌+◌, ◌-◌, ◌++◌, ◌∙◌, ℕ, zero, suc, Bool, true, false, List, [], refl, sym, ap, arith, append_assoc}
use Rattle.std.proofs.lemmas.Bool.{lt-ltb, le-ltb}
use Rattle.explain_lines.specs.declared.annotation.Note.{Note}
use Rattle.explain_forms.specs.declared.output_buffer.Page.{Page}
use Rattle.explain_lines.specs.declared.explained_line.ExplainedLine.{ExplainedLine}
use Rattle.explain_forms.specs.OutputBuffer.{Adds, AddsSome}
use Rattle.cli_options.specs.declared.explain_options.Lines.{Lines}
use Rattle.cli_options.specs.declared.explain_options.OutputFormat.{OutputFormat}
use Rattle.cli_options.specs.declared.explain_options.OutputFormat.TheVariants.{Text, Json, Html}
use Rattle.cli_explain.specs.InnerLineFilter.{EndsWith, TakesLine, WritesNext, left_out, lines_in}
use Rattle.explain_forms.specs.TextOutput.{LineWritten, gap_text}
use Rattle.explain_forms.proofs.OutputBuffers.{adds_is, adds_none, adds_then}

none_left : (last number : ℕ) → number ≤ last + 1 → left_out last number ≡ []
none_left last number le = rw (le-ltb (last + 1) number le) refl

some_left : (last number : ℕ) → last + 1 < number → left_out last number ≡ gap_text
some_left last number lt = rw (lt-ltb (last + 1) number lt) refl

pub follows : (page : Page) (last number : ℕ) → number ≤ last + 1 → Adds page page (left_out last number)
follows page last number le = adds_is page page [] _ (sym (none_left last number le)) (adds_none page)

pub leaves_out : (old new : Page) (last number : ℕ) → last + 1 < number → Adds old new gap_text → Adds old new (left_out last number)
leaves_out old new last number lt adds = adds_is old new gap_text _ (sym (some_left last number lt)) adds

-- Up to the line before a line; line 0 has none before it.
number_after : (last number : ℕ) → left_out last (number - 1 + 1) ≡ left_out last number
number_after last zero = rw (le-ltb (last + 1) 1 (omega arith), le-ltb (last + 1) 0 (omega arith)) refl
number_after last (suc number) =
    let same : suc number - 1 + 1 ≡ suc number = omega arith in
    ap (λ n. left_out last n) same

pub left_before : (old new : Page) (last number to : ℕ) → to ≡ number - 1 → Adds old new (left_out last (to + 1)) → Adds old new (left_out last number)
left_before old new last number to is adds =
    adds_is old new (left_out last (to + 1)) _ (ap (λ n. left_out last (n + 1)) is ∙ number_after last number) adds

pub next_passed : (old mid new : Page) (last : ℕ) (shown_line : ExplainedLine) (notes : List Note) → Adds old mid (left_out last shown_line.number)
    → (words : List ℕ) × LineWritten shown_line notes words × Adds mid new words → WritesNext last old new shown_line notes
next_passed old mid new last shown_line notes gap (words, line, adds) = (words, line, adds_then old mid new _ words gap adds)

pub ends_with : (old mid new : Page) (last : ℕ) (shown_line : ExplainedLine) (notes : List Note) → AddsSome old mid → WritesNext last mid new shown_line notes
    → EndsWith old new shown_line notes
ends_with old mid new last shown_line notes (before, some) (words, line, adds) =
    (before ++ left_out last shown_line.number, words, line, adds_is old new _ _ (sym (append_assoc before (left_out last shown_line.number) words)) (adds_then old mid new before _ some adds))

-- ---- a line is written, or buffered

pub text_lines : (form : OutputFormat) (lines page : Lines) → form ≡ Text → lines_in form lines page ≡ lines
text_lines Text lines page is = refl
text_lines Json lines page is = absurd cc
text_lines Html lines page is = absurd cc

pub line_emitted : (now : Bool) (old mid new : Page) (last : ℕ) (shown_line : ExplainedLine) (notes : List Note) → now ≡ true → AddsSome old mid
    → WritesNext last mid new shown_line notes → TakesLine now old new shown_line notes
line_emitted true old mid new last shown_line notes is some emits = ends_with old mid new last shown_line notes some emits
line_emitted false old mid new last shown_line notes is some emits = absurd cc

pub line_held : (now : Bool) (page : Page) (shown_line : ExplainedLine) (notes : List Note) → now ≡ false → TakesLine now page page shown_line notes
line_held true page shown_line notes is = absurd cc
line_held false page shown_line notes is = refl
