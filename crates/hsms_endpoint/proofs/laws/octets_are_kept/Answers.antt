use Rattle.hsms_endpoint.proofs.KeptRequests.{turn_keeps_octets, drive_keeps_octets}
use Rattle.hsms_endpoint.proofs.laws.octets_are_kept.Goals as goal

pub returns-clause-turn : goal.returns-clause-turn
returns-clause-turn c = turn_keeps_octets

pub returns-clause-drive : goal.returns-clause-drive
returns-clause-drive c = drive_keeps_octets
