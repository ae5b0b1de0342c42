use Rattle.hsms_frame.proofs.Determined.{same_front}
use Rattle.hsms_frame.proofs.Octets.{header_fits, frame_fits}
use Rattle.hsms_frame.proofs.laws.one_message_at_front.Goals as goal

pub returns-clause-one : goal.returns-clause-one
returns-clause-one c = same_front

pub returns-clause-headers : goal.returns-clause-headers
returns-clause-headers c = header_fits

pub returns-clause-messages : goal.returns-clause-messages
returns-clause-messages c = frame_fits
