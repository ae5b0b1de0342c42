use Rattle.std.proofs.Common.{◌-◌, List, length, drop, min, ap, ◌∙◌}
use Rattle.std.proofs.lemmas.Result.{on_ok_weaker}
use Rattle.capture_tcp.specs.Cells.{all_of}
use Rattle.capture_tcp.specs.declared.reassembly.Cell.{Cell as HeldCell}
use Rattle.capture_tcp.specs.InnerReassembly.{held_of}
use Rattle.capture_tcp.proofs.ConnectedPackets.{stored_from}
use Rattle.capture_tcp.proofs.reassembly.hold.Goals as goal

pub returns-clause-ok : goal.returns-clause-ok
returns-clause-ok c =
    on_ok_weaker c.put.result
    (λ stored. stored_from c.args.base c.args.place c.saturating_sub.result (held_of c.args.flags.syn c.args.octets.now c.args.flags.fin) c.cells_after-rest.result.now (all_of c.args.cells.now)
    (all_of c.join.new.self) (all_of c.put.new.self) c.join.ensures
    (c.cells_after-rest.ensures ∙ ap (λ (z : List HeldCell). drop (min (c.args.base - c.args.place) (length z)) z) (c.deref.ensures.value ∙ c.in_ok-carried.ensures)) c.saturating_sub.ensures stored) c.put.ensures.ok
