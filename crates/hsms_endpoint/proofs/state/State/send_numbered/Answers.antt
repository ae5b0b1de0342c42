use Rattle.std.proofs.Common.{refl, ap, ◌+◌, ◌%◌, ◌^◌}
use Rattle.hsms_endpoint.specs.declared.state.State.{State}
use Rattle.hsms_endpoint.proofs.Acts.{does_number}
use Rattle.hsms_endpoint.proofs.state.State.send_numbered.Goals as goal

pub returns : goal.returns
returns c = record {
  does = does_number c.args.self.now c.log.new.self _ c.args.entries.now.items c.log.new.entries.items c.args.frame c.args.number c.in_ok-log.ensures.does refl c.requires.free;
  after = ap (λ (s : State). record s { next = (c.args.number + 1) % 2 ^ 32 }) c.in_ok-log.ensures.after;
}
