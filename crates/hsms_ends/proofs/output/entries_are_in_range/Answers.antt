use Rattle.std.proofs.Common.{[], ◌∷◌, List, take, sym, subst, arith}
use Rattle.std.specs.Prelude.{All}
use Rattle.std.proofs.lemmas.List.{take_all}
use Rattle.std.proofs.lemmas.List.Elements.{All-append, All-cons, All-nil}
use Rattle.hsms_machine.specs.declared.entry.Entry.{Entry}
use Rattle.hsms_log.specs.LineFormat.{IsEntry}
use Rattle.hsms_ends.proofs.OutputSteps.{taken_next}
use Rattle.hsms_ends.proofs.output.entries_are_in_range.Goals as goal

pub loop-place-init : goal.loop-place-init
loop-place-init c = (omega arith, All-nil IsEntry)

pub loop-place-preserved : goal.loop-place-preserved
loop-place-preserved c =
    let xs = c.args.entries.now in
    let x = c.index-entries-place.result in
    let i = c.loop-place.place in
    let P : List Entry → Type 0 = λ l. All IsEntry l in (
      omega arith,
      subst P (sym (taken_next xs i x c.loop-place-test.true c.index-entries-place.is))
          (All-append IsEntry (take i xs) (x ∷ []) c.loop-place.invariant.1 (All-cons IsEntry x [] c.entry_is_in_range.ensures (All-nil IsEntry))),
    )

pub returns : goal.returns
returns c =
    let xs = c.args.entries.now in
    let P : List Entry → Type 0 = λ l. All IsEntry l in
    subst P (take_all c.loop-place.place xs (omega (arith, c.loop-place-test.false))) c.loop-place.invariant.1
