use Rattle.std.proofs.Common.{◌+◌, arith}
use Rattle.hsms_compare_causes.proofs.Groups.{no_latest}
use Rattle.hsms_compare_causes.proofs.search.latest_after.Goals as goal

pub returns : goal.returns
returns c = no_latest c.args.log.now (c.args.index + 1) (omega (arith, c.requires.count_so))
