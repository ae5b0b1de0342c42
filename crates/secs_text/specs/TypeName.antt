-- The names that the notation gives to the item formats of SEMI E5. They are project-specific.
use Rattle.std.specs.Prelude.{ℕ, List, [], ◌∷◌, Option, codes}
use Rattle.std.specs.List.{find}
use Rattle.std.specs.Str.{bytes_eq}
use Rattle.secs_item.specs.declared.format.Format.{Format}
use Rattle.secs_item.specs.declared.format.Format.TheVariants as format

abbrev pub type_name : Format → List ℕ
type_name format.List = codes "L"
type_name format.Binary = codes "B"
type_name format.Boolean = codes "BOOLEAN"
type_name format.Ascii = codes "A"
type_name format.Jis8 = codes "J"
type_name format.Char2 = codes "C2"
type_name format.I1 = codes "I1"
type_name format.I2 = codes "I2"
type_name format.I4 = codes "I4"
type_name format.I8 = codes "I8"
type_name format.U1 = codes "U1"
type_name format.U2 = codes "U2"
type_name format.U4 = codes "U4"
type_name format.U8 = codes "U8"
type_name format.F4 = codes "F4"
type_name format.F8 = codes "F8"

abbrev pub formats : List Format
formats =
    format.List ∷ format.Binary ∷ format.Boolean ∷ format.Ascii ∷ format.Jis8 ∷ format.Char2
    ∷ format.I1 ∷ format.I2 ∷ format.I4 ∷ format.I8 ∷ format.U1 ∷ format.U2 ∷ format.U4 ∷ format.U8 ∷ format.F4 ∷ format.F8 ∷ []

-- The format that a word names.
unfoldable pub format_named : List ℕ → Option Format
format_named w = find (λ f. bytes_eq (type_name f) w) formats
