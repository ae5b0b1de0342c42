use Rattle.cli_capture.proofs.Written.{all_more, front_more, none_more}
use Rattle.cli_capture.proofs.report.Report.put_out.Goals as goal

pub returns-then-is_empty-clause-some : goal.returns-then-is_empty-clause-some
returns-then-is_empty-clause-some g c = none_more _

pub returns-in_err-give_all-clause-some : goal.returns-in_err-give_all-clause-some
returns-in_err-give_all-clause-some g c = front_more _ _ _ c.in_err-give_all.ensures.err

pub returns-clause-some : goal.returns-clause-some
returns-clause-some g c = all_more _ _ _ c.in_ok-give_all.ensures.ok
