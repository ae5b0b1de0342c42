use Rattle.std.proofs.Common.{◌++◌, ℕ, List, codes, refl, sym, subst}
use Rattle.explain_lines.specs.declared.explained_line.Carried.{Carried}
use Rattle.explain_forms.specs.OutputBuffer.{Adds}
use Rattle.explain_forms.specs.TextOutput.{CarriedSaid}
use Rattle.explain_forms.proofs.OutputBuffers.{adds_then}
use Rattle.explain_forms.proofs.text.write_carried.Goals as goal

pub returns-in-Entry : goal.returns-in-Entry
returns-in-Entry c =
    let time = c.write_time.ensures in
    let said = c.write_what.ensures in
    let P : Carried → Type 0 = λ w. (words : List ℕ) × CarriedSaid w words × Adds c.args.page.now c.write_what.new.page words in
    subst P (sym c.in-Entry.is)
    (time.0 ++ codes " " ++ said.0, (time.0, said.0, said.1, refl), adds_then _ _ _ _ _ (adds_then _ _ _ _ _ time.1 c.append_chunk.ensures) said.2)

pub returns-in-Nothing : goal.returns-in-Nothing
returns-in-Nothing c =
    let P : Carried → Type 0 = λ w. (words : List ℕ) × CarriedSaid w words × Adds c.args.page.now c.write_plain.new.page words in
    subst P (sym c.in-Nothing.is) c.write_plain.ensures

pub returns-in-Unreadable : goal.returns-in-Unreadable
returns-in-Unreadable c =
    let P : Carried → Type 0 = λ w. (words : List ℕ) × CarriedSaid w words × Adds c.args.page.now c.write_plain-in-Unreadable.new.page words in
    subst P (sym c.in-Unreadable.is) c.write_plain-in-Unreadable.ensures
