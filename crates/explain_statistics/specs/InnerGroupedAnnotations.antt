-- What only contracts of private functions use, besides the definitions of `GroupedAnnotations`.
use Rattle.std.specs.Prelude.{List, [], ◌∷◌, ◌++◌}
use Rattle.explain_lines.specs.declared.annotation.Note.{Note}
use Rattle.explain_statistics.specs.GroupedAnnotations.{Represents, RepresentAll}

-- Holds if `both` represents what `last` represents, followed by one more annotation.
pub record Joins (last note both : Note) : Type 0 where
  pub consistent : (notes : List Note) → Represents last notes → Represents both (notes ++ note ∷ [])

-- Holds if one more annotation is appended.
pub record PutsNote (old : List Note) (note : Note) (new : List Note) : Type 0 where
  pub consistent : (each : List Note) → RepresentAll old each → RepresentAll new (each ++ note ∷ [])
