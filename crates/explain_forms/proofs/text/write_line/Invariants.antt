use Rattle.std.proofs.Common.{◌++◌, ℕ, List, take}
use Rattle.explain_forms.specs.OutputBuffer.{Adds}
use Rattle.explain_forms.specs.TextOutput.{LineSaid, NotesWritten}
use Rattle.explain_forms.proofs.text.write_line.Given as goal

-- The line is written, and below it the annotations so far.
abbrev pub invariant-loop-note : goal.invariant-loop-note
invariant-loop-note l =
    (line : List ℕ) × (rest : List ℕ) × LineSaid l.fn.shown_line line × NotesWritten (take l.note-index l.notes) rest
    × Adds l.fn.page l.page (line ++ rest)
