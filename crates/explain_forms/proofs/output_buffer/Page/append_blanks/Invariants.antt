use Rattle.std.proofs.Common.{◌≤◌, replicate}
use Rattle.explain_forms.specs.OutputBuffer.{Adds}
use Rattle.explain_forms.proofs.output_buffer.Page.append_blanks.Given as goal

abbrev pub invariant-loop : goal.invariant-loop
invariant-loop l = Adds l.initial.self l.self (replicate l.counter 32) × (l.counter ≤ l.fn.count)
