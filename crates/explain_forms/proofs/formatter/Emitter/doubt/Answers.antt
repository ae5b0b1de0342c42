use Rattle.std.proofs.Common.{◌≡◌, ◌∙◌, sym}
use Rattle.cli_options.specs.declared.explain_options.OutputFormat.TheVariants.{Text, Html}
use Rattle.explain_forms.proofs.formatter.Emitter.doubt.Goals as goal

pub returns-in-Html : goal.returns-in-Html
returns-in-Html c = λ is. let other : Html ≡ Text = sym c.in-Html.is ∙ is in absurd cc
