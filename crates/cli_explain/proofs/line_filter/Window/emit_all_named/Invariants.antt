use Rattle.std.proofs.Common.{◌≡◌}
use Rattle.cli_options.specs.declared.explain_options.OutputFormat.TheVariants.{Text}
use Rattle.explain_forms.specs.OutputBuffer.{AddsSome}
use Rattle.cli_explain.proofs.line_filter.Window.emit_all_named.Given as goal

-- The output of the lines so far is appended to the earlier output.
abbrev pub invariant-loop : goal.invariant-loop
invariant-loop l =
    (l.initial.self.excerpt.form ≡ Text → AddsSome l.fn.page l.page) × (l.self.excerpt ≡ l.initial.self.excerpt)
    × (l.self.subsequent ≡ l.initial.self.subsequent) × (l.self.held ≡ l.initial.self.held)
