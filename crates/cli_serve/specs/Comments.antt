-- A script without its comments.
use Rattle.std.specs.Prelude.{◌==◌, ℕ, List, [], ◌∷◌, if◌then◌else◌}
use Rattle.cli_serve.specs.declared.comments.Part.{Part}
use Rattle.cli_serve.specs.declared.comments.Part.TheVariants.{Plain, Quoted, Comment}

-- The part of a byte, after a byte of this part. A `#` starts a comment, unless it is in a quoted text. LF ends it.
abbrev pub part_after : Part → ℕ → Part
part_after Plain c = if c == 0x23 then Comment else (if c == 0x22 then Quoted else Plain)
part_after Quoted c = if c == 0x22 then Plain else Quoted
part_after Comment c = if c == 0x0A then Plain else Comment

-- The byte that is read for a byte of a part: a space for each byte of a comment.
abbrev pub read_as : Part → ℕ → ℕ
read_as Plain c = c
read_as Quoted c = c
read_as Comment c = 0x20

-- These bytes, after a byte of a part, with a space for each byte of a comment.
unfoldable pub blanked_after : Part → List ℕ → List ℕ
blanked_after part [] = []
blanked_after part (c ∷ octets) = read_as (part_after part c) c ∷ blanked_after (part_after part c) octets

-- A script with a space for each byte of its comments. So each other byte keeps its position.
abbrev pub without_comments : List ℕ → List ℕ
without_comments octets = blanked_after Plain octets
