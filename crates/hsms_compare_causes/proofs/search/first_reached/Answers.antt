use Rattle.std.proofs.Common.{◌+◌}
use Rattle.hsms_compare_causes.specs.InnerSearch.{is_wanted}
use Rattle.hsms_compare_causes.proofs.Groups.{reached_first}
use Rattle.hsms_compare_causes.proofs.search.first_reached.Goals as goal

pub returns : goal.returns
returns c = reached_first (is_wanted c.args.wanted) c.args.group c.args.log.now (c.args.index + 1) c.requires.group c.next_of_group.result c.next_of_group.ensures
