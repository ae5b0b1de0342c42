use Rattle.std.proofs.Common.{◌≡◌, ◌≤◌, take}
use Rattle.std.specs.Prelude.{count_by}
use Rattle.hsms_compare_logs.specs.PairVerdicts.{is_of}
use Rattle.hsms_compare_logs.proofs.pair_verdict.FactKind.count_among.Given as goal

abbrev pub invariant-loop-i : goal.invariant-loop-i
invariant-loop-i l = record {
  counted : l.count ≡ count_by (is_of l.self) (take l.i l.facts);
  few : l.count ≤ l.i;
}
