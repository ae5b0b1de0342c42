use Rattle.capture_tcp.proofs.Arriving.{active_brings, ok_weaker, passive_brings}
use Rattle.capture_tcp.proofs.reader_state.bring_to.Goals as goal

pub returns-in-Active-clause-held : goal.returns-in-Active-clause-held
returns-in-Active-clause-held c =
    ok_weaker c.bring.result
    (λ differs h. active_brings c.args.streams.now c.args.arrival c.args.octets.now c.bring.new.held differs c.in-Active.is h) c.bring.ensures.held

pub returns-in-Passive-clause-held : goal.returns-in-Passive-clause-held
returns-in-Passive-clause-held c =
    ok_weaker c.bring-in-Passive.result
    (λ differs h. passive_brings c.args.streams.now c.args.arrival c.args.octets.now c.bring-in-Passive.new.held differs c.in-Passive.is h) c.bring-in-Passive.ensures.held
