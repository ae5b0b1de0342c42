use Rattle.std.proofs.Common.{length}
use Rattle.capture_unjudged.proofs.devices.+push_devices.Given as goal

abbrev pub decreases-push_devices : goal.decreases-push_devices
decreases-push_devices l = length l.packets.now
