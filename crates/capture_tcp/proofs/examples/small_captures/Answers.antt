use Rattle.capture_tcp.proofs.SmallCaptures.{asked, early_reply, gap_at_end, lost_message, lost_reply, other_copy}
use Rattle.capture_tcp.proofs.examples.small_captures.Goals as goal

pub returns-clause-lost : goal.returns-clause-lost
returns-clause-lost c = lost_reply

pub returns-clause-early : goal.returns-clause-early
returns-clause-early c = early_reply

pub returns-clause-asked : goal.returns-clause-asked
returns-clause-asked c = asked

pub returns-clause-other : goal.returns-clause-other
returns-clause-other c = other_copy

pub returns-clause-gap : goal.returns-clause-gap
returns-clause-gap c = gap_at_end

pub returns-clause-message : goal.returns-clause-message
returns-clause-message c = lost_message
