use Rattle.capture_unjudged.proofs.Recursions.{devices_first, devices_next}
use Rattle.capture_unjudged.proofs.devices.+push_devices.Goals as goal

pub returns-in_ok-push-in-Some-device_of : goal.returns-in_ok-push-in-Some-device_of
returns-in_ok-push-in-Some-device_of t c =
    devices_first c.push_devices.result c.args.settings.now c.args.packets.now c.in-Some.rest.now c.in-Some.packet.now c.deref.result.now
    c.args.devices.now.items c.push.new.self.items c.push_devices.new.devices.items c.in-Some-device_of.device c.in-Some.ensures.cases.0
    c.deref.ensures.value c.in-Some-device_of.ensures.some c.in_ok-push-in-Some-device_of.ensures.items c.push_devices.ensures

pub returns-in-None : goal.returns-in-None
returns-in-None t c =
    devices_next c.push_devices-in-None.result c.args.settings.now c.args.packets.now c.in-Some.rest.now c.in-Some.packet.now c.deref.result.now
    c.args.devices.now.items c.push_devices-in-None.new.devices.items c.in-Some.ensures.cases.0 c.deref.ensures.value c.in-None.ensures.none
    c.push_devices-in-None.ensures
