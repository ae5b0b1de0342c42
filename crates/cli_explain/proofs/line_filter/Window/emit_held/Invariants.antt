use Rattle.std.proofs.Common.{◌≡◌, length}
use Rattle.cli_options.specs.declared.explain_options.OutputFormat.TheVariants.{Text}
use Rattle.explain_forms.specs.OutputBuffer.{AddsSome}
use Rattle.cli_explain.proofs.line_filter.Window.emit_held.Given as goal

-- The output of the lines so far is appended to the earlier output.
abbrev pub invariant-loop-held : goal.invariant-loop-held
invariant-loop-held l =
    (l.initial.self.excerpt.form ≡ Text → AddsSome l.fn.page l.page) × (l.self.excerpt ≡ l.initial.self.excerpt)
    × (l.self.subsequent ≡ l.initial.self.subsequent)

abbrev pub decreases-loop-held : goal.decreases-loop-held
decreases-loop-held l = length l.self.held.items
