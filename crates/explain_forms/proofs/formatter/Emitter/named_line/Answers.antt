use Rattle.std.proofs.Common.{◌≡◌, ◌∙◌, sym}
use Rattle.cli_options.specs.declared.explain_options.OutputFormat.TheVariants.{Text, Json, Html}
use Rattle.explain_forms.proofs.formatter.Emitter.named_line.Goals as goal

pub returns-in-Text : goal.returns-in-Text
returns-in-Text c = λ is. let words = c.write_line.ensures in (words.0, words.2)

pub returns-in-Json : goal.returns-in-Json
returns-in-Json c = λ is. let other : Json ≡ Text = sym c.in-Json.is ∙ is in absurd cc

pub returns-in-Html : goal.returns-in-Html
returns-in-Html c = λ is. let other : Html ≡ Text = sym c.in-Html.is ∙ is in absurd cc
