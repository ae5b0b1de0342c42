use Rattle.std.proofs.Common.{true, false}
use Rattle.cli_output.proofs.LineBuffers.{fails_within, holds_line, appended_as, appended_counts, appended_name}
use Rattle.cli_output.proofs.line_buffer.give_to_sink.Goals as goal

pub returns-then-out-clause-line : goal.returns-then-out-clause-line
returns-then-out-clause-line g c =
    let l = c.give_line.ensures in
    (l.0, l.1, fails_within _ _ _ _ _ _ _ (appended_as _ _ _ _ _ _ _ _ _ c.requires.well c.if-out.true l.2))

pub returns-then-out-clause-writes : goal.returns-then-out-clause-writes
returns-then-out-clause-writes g c =
    let l = c.give_line.ensures in
    appended_counts _ _ true _ _ _ _ _ (appended_as _ _ _ _ _ _ _ _ _ c.requires.well c.if-out.true l.2)

pub returns-then-out-clause-same_reference : goal.returns-then-out-clause-same_reference
returns-then-out-clause-same_reference g c =
    let l = c.give_line.ensures in
    appended_name _ _ true _ _ _ _ _ (appended_as _ _ _ _ _ _ _ _ _ c.requires.well c.if-out.true l.2)

pub returns-clause-line : goal.returns-clause-line
returns-clause-line g c =
    let l = c.give_line.ensures in
    (l.0, l.1, holds_line _ _ _ _ _ _ _ (appended_as _ _ _ _ _ _ _ _ _ c.requires.well c.if-out.false l.2))

pub returns-clause-writes : goal.returns-clause-writes
returns-clause-writes g c =
    let l = c.give_line.ensures in
    appended_counts _ _ false _ _ _ _ _ (appended_as _ _ _ _ _ _ _ _ _ c.requires.well c.if-out.false l.2)

pub returns-clause-same_reference : goal.returns-clause-same_reference
returns-clause-same_reference g c =
    let l = c.give_line.ensures in
    appended_name _ _ false _ _ _ _ _ (appended_as _ _ _ _ _ _ _ _ _ c.requires.well c.if-out.false l.2)
