use Rattle.hsms_compare_logs.proofs.LineEntries.{too_long_line}
use Rattle.hsms_compare_logs.proofs.line_read.LineRead.of.Goals as goal

pub returns-in-TooLong-clause-entry : goal.returns-in-TooLong-clause-entry
returns-in-TooLong-clause-entry c text left found line entries =
    too_long_line c.args.max c.args.number text left c.args.line found c.in-TooLong.is line entries
