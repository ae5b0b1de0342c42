use Rattle.capture_midstream.proofs.Messages.{messages_are_found as found, found_are_messages}
use Rattle.capture_midstream.proofs.laws.messages_are_found.Goals as goal

pub returns-clause-each : goal.returns-clause-each
returns-clause-each c = found

pub returns-clause-only : goal.returns-clause-only
returns-clause-only c = found_are_messages
