-- What only contracts of private functions use, besides the definitions of `Visible`.
use Rattle.std.specs.Prelude.{ℕ, List}
use Rattle.explain_forms.specs.declared.output_buffer.Page.{Page}
use Rattle.explain_forms.specs.OutputBuffer.{Adds}
use Rattle.explain_forms.specs.Visible.{HasNoControl}

-- Holds if bytes without ASCII control characters are appended to the output.
abbrev pub AddsVisible : Page → Page → Type 0
AddsVisible old new = (words : List ℕ) × HasNoControl words × Adds old new words
