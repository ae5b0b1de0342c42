use Rattle.std.proofs.lemmas.Result.{on_ok_weaker}
use Rattle.capture_tcp.proofs.Timing.{keeps_both}
use Rattle.capture_tcp.proofs.events.EmitterState.say.Goals as goal

pub returns-clause-times : goal.returns-clause-times
returns-clause-times c =
    on_ok_weaker c.say_up.result
    (keeps_both c.args.packet c.args.time c.args.emitted.now.items c.come_up.new.emitted.items c.say_up.new.emitted.items c.in_ok-come_up.ensures.times) c.say_up.ensures.times
