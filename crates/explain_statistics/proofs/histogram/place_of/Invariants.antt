use Rattle.explain_statistics.proofs.Halvings.{IsHalved}
use Rattle.explain_statistics.proofs.histogram.place_of.Given as goal

-- The time, halved this many times. Nothing is lost except what follows its eight highest digits.
abbrev pub invariant-loop-halvings : goal.invariant-loop-halvings
invariant-loop-halvings l = IsHalved l.initial.rest l.rest l.halvings
