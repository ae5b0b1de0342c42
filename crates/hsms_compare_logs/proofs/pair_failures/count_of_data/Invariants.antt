use Rattle.std.proofs.Common.{◌≡◌, ◌≤◌, take}
use Rattle.std.specs.Prelude.{count_by}
use Rattle.hsms_compare_logs.specs.DataFrames.{is_data_frame}
use Rattle.hsms_compare_logs.proofs.pair_failures.count_of_data.Given as goal

abbrev pub invariant-loop-i : goal.invariant-loop-i
invariant-loop-i l = record {
  counted : l.count ≡ count_by is_data_frame (take l.i l.frames);
  few : l.count ≤ l.i;
}
