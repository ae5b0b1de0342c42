use Rattle.std.proofs.Common.{◌≡◌, ◌++◌, [], List, codes, decimal, take, refl, sym, subst, arith, append_assoc}
use Rattle.std.proofs.lemmas.List.{append-nil, take_all, take_more}
use Rattle.explain_lines.specs.declared.annotation.Note.{Note}
use Rattle.explain_forms.specs.OutputBuffer.{padded}
use Rattle.explain_forms.specs.TextOutput.{NotesWritten}
use Rattle.explain_forms.proofs.OutputBuffers.{adds_is, adds_then, notes_written_more}
use Rattle.explain_forms.proofs.text.write_line.Goals as goal

pub loop-note-init : goal.loop-note-init
loop-note-init c =
    let said = c.write_carried.ensures in
    let line = padded 6 (decimal c.args.shown_line.number) ++ codes " " ++ said.0 in (
      line,
      [],
      (said.0, said.1, refl),
      refl,
      adds_is _ _ _ _ (sym (append-nil line)) (adds_then _ _ _ _ _ (adds_then _ _ _ _ _ c.append_number.ensures c.append_chunk.ensures) said.2),
    )

pub loop-note-preserved : goal.loop-note-preserved
loop-note-preserved c =
    let inv = c.loop-note.invariant in
    let note = c.write_note.ensures in
    let P : List Note → Type 0 = λ n. NotesWritten n (inv.1 ++ note.0) in (
      inv.0,
      inv.1 ++ note.0,
      inv.2,
      subst P (sym (take_more c.args.notes.now c.loop-note.note-index _ c.loop-note-test.true)) (notes_written_more _ _ _ _ inv.3 note.1),
      adds_is _ _ _ _ (append_assoc inv.0 inv.1 note.0) (adds_then _ _ _ _ _ inv.4 note.2),
    )

pub returns : goal.returns
returns c =
    let inv = c.loop-note.invariant in
    let P : List Note → Type 0 = λ n. NotesWritten n inv.1 in
    let all : take c.loop-note.note-index c.args.notes.now ≡ c.args.notes.now = take_all c.loop-note.note-index c.args.notes.now (omega (arith, c.loop-note-test.false)) in
    (inv.0 ++ inv.1, (inv.0, inv.1, inv.2, subst P all inv.3, refl), inv.4)
