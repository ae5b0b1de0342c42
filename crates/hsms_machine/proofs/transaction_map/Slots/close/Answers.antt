use Rattle.std.proofs.Common.{◌+◌, ◌∙◌, arith, refl}
use Rattle.std.specs.Map.{values_of}
use Rattle.std.proofs.lemmas.Map.Entries.{length-values_of}
use Rattle.hsms_machine.proofs.KeptTransactions.{at-within, kept-closed, open-closed, first-emptied}
use Rattle.hsms_machine.proofs.transaction_map.Slots.close.Goals as goal

pub index_mut-requires : goal.index_mut-requires
index_mut-requires c =
    let es = c.args.self.now.map.entries in
    let lt = at-within (values_of es) c.args.index c.args.opened c.requires.place in
    omega (arith, length-values_of es, lt)

pub next_open-self-requires : goal.next_open-self-requires
next_open-self-requires c =
    first-emptied c.args.self.now.map.entries c.args.index c.args.self.now.first c.requires.kept.starts

pub sweep-requires : goal.sweep-requires
sweep-requires c =
    record { kept = kept-closed c.args.self.now.first c.args.self.now.empty (c.args.self.now.empty + 1) c.next_open-self.result c.args.self.now.map.entries c.args.index c.args.opened c.requires.kept c.requires.place refl c.next_open-self.ensures }

pub returns-then-self-slots-clause-closed : goal.returns-then-self-slots-clause-closed
returns-then-self-slots-clause-closed c =
    c.sweep.ensures.same ∙ open-closed c.args.self.now.first c.args.self.now.empty c.args.self.now.map.entries c.args.index c.args.opened c.requires.kept c.requires.place

pub returns-else-self-ge-MANY-clause-kept : goal.returns-else-self-ge-MANY-clause-kept
returns-else-self-ge-MANY-clause-kept c =
    kept-closed c.args.self.now.first c.args.self.now.empty (c.args.self.now.empty + 1) c.next_open-self.result c.args.self.now.map.entries c.args.index c.args.opened c.requires.kept c.requires.place refl c.next_open-self.ensures

pub returns-else-self-ge-MANY-clause-closed : goal.returns-else-self-ge-MANY-clause-closed
returns-else-self-ge-MANY-clause-closed c =
    open-closed c.args.self.now.first c.args.self.now.empty c.args.self.now.map.entries c.args.index c.args.opened c.requires.kept c.requires.place
