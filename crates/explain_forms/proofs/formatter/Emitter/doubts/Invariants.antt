use Rattle.std.proofs.Common.{◌≡◌}
use Rattle.cli_options.specs.declared.explain_options.OutputFormat.TheVariants.{Text}
use Rattle.explain_forms.specs.OutputBuffer.{AddsSome}
use Rattle.explain_forms.proofs.formatter.Emitter.doubts.Given as goal

abbrev pub invariant-loop-doubt : goal.invariant-loop-doubt
invariant-loop-doubt l = l.fn.self.form ≡ Text → AddsSome l.initial.page l.page
