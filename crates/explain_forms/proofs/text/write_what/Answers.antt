use Rattle.std.proofs.Common.{◌++◌, ℕ, List, refl, sym, ap, subst}
use Rattle.hsms_log.specs.declared.step.What.{What}
use Rattle.explain_forms.specs.OutputBuffer.{Adds}
use Rattle.explain_forms.specs.TextOutput.{WhatSaid, mark_text}
use Rattle.explain_forms.proofs.OutputBuffers.{adds_is, adds_then}
use Rattle.explain_forms.proofs.text.write_what.Goals as goal

pub returns-in-Frame : goal.returns-in-Frame
returns-in-Frame c =
    let said = c.append_message_line.ensures in
    let P : What → Type 0 = λ w. (words : List ℕ) × WhatSaid w c.args.text.now words × Adds c.args.page.now c.append_message_line.new.self words in
    subst P (sym c.in-Frame.is)
    (mark_text c.in-Frame.mark ++ said.0, (said.0, said.1, refl), adds_is _ _ _ _ (ap (λ m. m ++ said.0) c.mark_word.ensures) (adds_then _ _ _ _ _ c.append_chunk.ensures said.2))

pub returns-in-Up : goal.returns-in-Up
returns-in-Up c =
    let said = c.write_rest.ensures in
    let P : What → Type 0 = λ w. (words : List ℕ) × WhatSaid w c.args.text.now words × Adds c.args.page.now c.write_rest.new.page words in
    subst P (sym c.in-Up.is) (said.0, tt, said.1)

pub returns-in-T3 : goal.returns-in-T3
returns-in-T3 c =
    let said = c.write_rest-in-T3.ensures in
    let P : What → Type 0 = λ w. (words : List ℕ) × WhatSaid w c.args.text.now words × Adds c.args.page.now c.write_rest-in-T3.new.page words in
    subst P (sym c.in-T3.is) (said.0, tt, said.1)

pub returns-in-Cut : goal.returns-in-Cut
returns-in-Cut c =
    let said = c.write_rest-in-Cut.ensures in
    let P : What → Type 0 = λ w. (words : List ℕ) × WhatSaid w c.args.text.now words × Adds c.args.page.now c.write_rest-in-Cut.new.page words in
    subst P (sym c.in-Cut.is) (said.0, tt, said.1)

pub returns-in-Down : goal.returns-in-Down
returns-in-Down c =
    let said = c.write_rest-in-Down.ensures in
    let P : What → Type 0 = λ w. (words : List ℕ) × WhatSaid w c.args.text.now words × Adds c.args.page.now c.write_rest-in-Down.new.page words in
    subst P (sym c.in-Down.is) (said.0, tt, said.1)
