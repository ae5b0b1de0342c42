use Rattle.std.proofs.Common.{◌≡◌, ◌++◌, take}
use Rattle.std.specs.Prelude.{string_bytes}
use Rattle.cli_compare.specs.FactLines.{fact_lines}
use Rattle.cli_compare.proofs.fact_lines.push_facts.Given as goal

abbrev pub invariant-loop-fact : goal.invariant-loop-fact
invariant-loop-fact l =
    string_bytes l.text ≡ string_bytes l.fn.text ++ fact_lines l.sender l.receiver (take l.fact-index l.facts)
