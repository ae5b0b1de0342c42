use Rattle.std.proofs.Common.{length, arith}
use Rattle.hsms_compare_causes.specs.declared.group.Group.TheVariants.{Ends}
use Rattle.hsms_compare_causes.specs.InnerGroups.{is_in}
use Rattle.hsms_compare_causes.proofs.Groups.{no_latest, none_later, none_of_system}
use Rattle.hsms_compare_causes.proofs.later_entries.LaterEntries.new.Goals as goal

pub returns : goal.returns
returns c = λ log. record {
  systems_so = λ s. none_of_system log c.new.result s c.new.ensures.empty;
  end_so = none_later (is_in Ends) log;
  latest_so = no_latest log (length log) (omega arith);
}
