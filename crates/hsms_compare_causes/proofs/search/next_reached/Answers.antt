use Rattle.std.proofs.Common.{◌+◌}
use Rattle.hsms_compare_causes.specs.InnerGroups.{is_in}
use Rattle.hsms_compare_causes.specs.InnerSearch.{is_wanted}
use Rattle.hsms_compare_causes.proofs.Groups.{fewer_remain, reached_next}
use Rattle.hsms_compare_causes.proofs.search.next_reached.Goals as goal

pub returns : goal.returns
returns c = record {
  reached = reached_next (is_wanted c.args.wanted) c.args.group c.args.log.now (c.args.index + 1) c.requires.group c.args.reached c.next_of_group.result c.requires.reached c.requires.other c.next_of_group.ensures;
  fewer = fewer_remain (is_in c.args.group) c.args.log.now c.args.reached c.next_of_group.result c.requires.reached.there c.next_of_group.ensures;
}
