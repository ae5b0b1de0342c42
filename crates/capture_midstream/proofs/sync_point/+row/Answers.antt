use Rattle.std.proofs.Common.{arith}
use Rattle.capture_midstream.proofs.Rows.{whole_and_more, whole_and_other}
use Rattle.capture_midstream.proofs.sync_point.+row.Goals as goal

pub returns-in-Some-clause-count : goal.returns-in-Some-clause-count
returns-in-Some-clause-count t c =
    whole_and_more c.args.session c.args.most c.in-Whole.size c.in-Some.others c.args.octets.now c.split_at.result.1.now (omega arith)
    c.in-Whole.ensures c.split_at.ensures.back c.in-Some.ensures.count

pub returns-in-None-clause-count : goal.returns-in-None-clause-count
returns-in-None-clause-count t c =
    whole_and_other c.args.session c.args.most c.in-Whole.size c.args.octets.now c.split_at.result.1.now (omega arith)
    c.in-Whole.ensures c.split_at.ensures.back c.in-None.ensures.count
