-- The item formats of SEMI E5 (data structures): the format codes, and the size of one value in bytes.
use Rattle.std.specs.Prelude.{ℕ, List, [], ◌∷◌, Option, Some, None, ◌==◌, if◌then◌else◌, Bool, true, false}
use Rattle.secs_item.specs.declared.format.Format.{Format}
use Rattle.secs_item.specs.declared.format.Format.TheVariants as format

abbrev pub code_of : Format → ℕ
code_of format.List = 0o00
code_of format.Binary = 0o10
code_of format.Boolean = 0o11
code_of format.Ascii = 0o20
code_of format.Jis8 = 0o21
code_of format.Char2 = 0o22
code_of format.I8 = 0o30
code_of format.I1 = 0o31
code_of format.I2 = 0o32
code_of format.I4 = 0o34
code_of format.F8 = 0o40
code_of format.F4 = 0o44
code_of format.U8 = 0o50
code_of format.U1 = 0o51
code_of format.U2 = 0o52
code_of format.U4 = 0o54

abbrev pub all_formats : List Format
all_formats =
    format.List ∷ format.Binary ∷ format.Boolean ∷ format.Ascii ∷ format.Jis8 ∷ format.Char2 ∷ format.I8 ∷ format.I1 ∷ format.I2 ∷ format.I4 ∷ format.F8 ∷ format.F4 ∷ format.U8 ∷ format.U1 ∷ format.U2 ∷ format.U4 ∷ []

-- The format among these that has this code.
abbrev pub format_among : List Format → ℕ → Option Format
format_among [] code = None
format_among (f ∷ fs) code = if code == code_of f then Some f else format_among fs code

unfoldable pub format_with_code : ℕ → Option Format
format_with_code code = format_among all_formats code

-- The size of one value in bytes; 1 for a list, since a list counts its elements.
abbrev pub value_size : Format → ℕ
value_size format.List = 1
value_size format.Binary = 1
value_size format.Boolean = 1
value_size format.Ascii = 1
value_size format.Jis8 = 1
value_size format.Char2 = 1
value_size format.I8 = 8
value_size format.I1 = 1
value_size format.I2 = 2
value_size format.I4 = 4
value_size format.F8 = 8
value_size format.F4 = 4
value_size format.U8 = 8
value_size format.U1 = 1
value_size format.U2 = 2
value_size format.U4 = 4

abbrev pub is_list : Format → Bool
is_list format.List = true
is_list format.Binary = false
is_list format.Boolean = false
is_list format.Ascii = false
is_list format.Jis8 = false
is_list format.Char2 = false
is_list format.I8 = false
is_list format.I1 = false
is_list format.I2 = false
is_list format.I4 = false
is_list format.F8 = false
is_list format.F4 = false
is_list format.U8 = false
is_list format.U1 = false
is_list format.U2 = false
is_list format.U4 = false
