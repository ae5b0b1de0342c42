use Rattle.std.proofs.Common.{◌∙◌, ap, max, subst, arith}
use Rattle.capture_tcp.specs.Cells.{all_of}
use Rattle.capture_tcp.specs.Reassembly.{PutsIn, Store}
use Rattle.capture_tcp.specs.Message.{cells_of}
use Rattle.capture_tcp.proofs.StoredCells.{puts_in, puts_none}
use Rattle.capture_tcp.proofs.Octets.{octets_stay}
use Rattle.capture_tcp.proofs.reassembly.ReassemblyBuffer.put.Goals as goal

pub returns-then-count-eq0-clause-ok : goal.returns-then-count-eq0-clause-ok
returns-then-count-eq0-clause-ok c =
    puts_none c.args.self.now c.args.place c.args.flags.syn c.args.flags.fin c.args.octets.now (omega (arith, c.count_of-count.ensures, c.if-count-eq0.true))

pub returns-clause-ok : goal.returns-clause-ok
returns-clause-ok c =
    let cells = cells_of c.args.flags.syn c.args.octets.now c.args.flags.fin in
    subst (λ (s : Store). PutsIn s c.args.place cells (record { place = c.self.inside.place; cells = all_of c.hold.new.cells })) c.self.view_is
    (puts_in c.self.inside.place c.args.place c.args.flags.syn c.args.flags.fin c.args.octets.now (all_of c.self.inside.cells) (all_of c.hold.new.cells) c.in_ok-hold.ensures.ok)

pub invariant_of-self-2 : goal.invariant_of-self-2
invariant_of-self-2 c =
    octets_stay c.self.inside.octets_from c.self.inside.place c.args.place c.args.flags.syn c.args.flags.fin c.args.octets.now (all_of c.self.inside.cells)
    (all_of c.hold.new.cells) c.max-self-inside.result c.in-Some.end c.in_ok-hold.ensures.ok
    (omega (arith, c.count_of-count.ensures, c.in-Some.ensures)) (c.max-self-inside.ensures ∙ ap (max c.self.inside.octets_from) c.flags_end.ensures) c.self.invariant
