use Rattle.std.proofs.Common.{◌≡◌, ◌++◌, List, ℕ, length}
use Rattle.cli_explain.specs.InnerFirstFailureOutput.{KeepsShown}
use Rattle.cli_explain.specs.InnerLinesProcessed.{HasProcessed}
use Rattle.cli_explain.proofs.explainer.Explainer.take.Given as goal

-- The bytes passed so far were processed.
abbrev pub invariant-loop-part : goal.invariant-loop-part
invariant-loop-part l =
    (done : List ℕ) × (l.octets ≡ done ++ l.rest)
    × ((text : List ℕ) → HasProcessed l.initial.self text → HasProcessed l.self (text ++ done)) × KeepsShown l.initial.self.report l.self.report

abbrev pub decreases-loop-part : goal.decreases-loop-part
decreases-loop-part l = length l.rest
