use Rattle.std.proofs.Common.{true, false}
use Rattle.cli_output.proofs.LineBuffers.{fails_within, holds_line, appended_as, appended_counts, appended_name}
use Rattle.cli_output.proofs.line_buffer.give_hex_to_sink.Goals as goal

pub returns-then-out-clause-line : goal.returns-then-out-clause-line
returns-then-out-clause-line g c =
    fails_within _ _ _ _ _ _ _ (appended_as _ _ _ _ _ _ _ _ _ c.requires c.if-out.true c.give_hex_line.ensures)

pub returns-then-out-clause-writes : goal.returns-then-out-clause-writes
returns-then-out-clause-writes g c =
    appended_counts _ _ true _ _ _ _ _ (appended_as _ _ _ _ _ _ _ _ _ c.requires c.if-out.true c.give_hex_line.ensures)

pub returns-then-out-clause-same_reference : goal.returns-then-out-clause-same_reference
returns-then-out-clause-same_reference g c =
    appended_name _ _ true _ _ _ _ _ (appended_as _ _ _ _ _ _ _ _ _ c.requires c.if-out.true c.give_hex_line.ensures)

pub returns-clause-line : goal.returns-clause-line
returns-clause-line g c =
    holds_line _ _ _ _ _ _ _ (appended_as _ _ _ _ _ _ _ _ _ c.requires c.if-out.false c.give_hex_line.ensures)

pub returns-clause-writes : goal.returns-clause-writes
returns-clause-writes g c =
    appended_counts _ _ false _ _ _ _ _ (appended_as _ _ _ _ _ _ _ _ _ c.requires c.if-out.false c.give_hex_line.ensures)

pub returns-clause-same_reference : goal.returns-clause-same_reference
returns-clause-same_reference g c =
    appended_name _ _ false _ _ _ _ _ (appended_as _ _ _ _ _ _ _ _ _ c.requires c.if-out.false c.give_hex_line.ensures)
