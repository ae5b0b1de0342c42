-- Options with numbers, and flags, as `clap` reads them.
use Rattle.std.specs.Prelude.{◌≡◌, ℕ, Bool, false, true, not, is_some, pos, List, codes, Option, Some, None, if◌then◌else◌}
use Rattle.std.specs.Option.{option_map_or}
use Rattle.std.specs.Str.{bytes_eq}
use Rattle.std.specs.Str.Parse.{digits_value, without_leading_plus}
use Rattle.clap.specs.ValueTests.{is_unsigned_in}
use Rattle.clap.specs.Words.{Row, Rule, Text, first_of, new_rule, one_of}
use Rattle.clap.specs.declared.builder.action.ArgAction.TheVariants.{Append, SetTrue}
use Rattle.clap.specs.declared.builder.value_parser.ValueParser.TheVariants.{Signed}

-- An option with a number: its name, its minimum, its maximum, and its default, if it has one.
pub record Number : Type 0 where
  pub name : Text
  pub least : ℕ
  pub greatest : ℕ
  pub left_out : Option ℕ

-- Bytes of header and text.
abbrev pub max_number : Number
max_number = record { name = codes "max"; least = 256; greatest = 33554432; left_out = Some 1048576 }

-- Nested lists.
abbrev pub depth_number : Number
depth_number = record { name = codes "depth"; least = 1; greatest = 100; left_out = Some 32 }

-- The session ID of the messages.
abbrev pub device_number : Number
device_number = record { name = codes "device"; least = 0; greatest = 32767; left_out = Some 0 }

-- The system bytes of the first message.
abbrev pub system_number : Number
system_number = record { name = codes "system"; least = 0; greatest = 4294967295; left_out = Some 1 }

-- The option of a number, `--NAME N`.
abbrev pub option_of : Number → Rule
option_of n = record (new_rule n.name) {
  long = Some n.name;
  value_names = 1;
  parser = Some (Signed (pos n.least) (pos n.greatest));
  required = not (is_some n.left_out);
}

-- An option with a text, `--NAME TEXT`.
abbrev pub text_option : Text → Rule
text_option name = record (new_rule name) { long = Some name; value_names = 1 }

-- A required option with a text.
abbrev pub needed_option : Text → Rule
needed_option name = record (text_option name) { required = true }

-- A flag, `--NAME`.
abbrev pub flag_option : Text → Rule
flag_option name = record (new_rule name) { long = Some name; action = Some SetTrue }

-- An operand: at most one word that is no option.
abbrev pub operand : Text → Rule
operand name = new_rule name

-- Operands: any number of words that are no options.
abbrev pub operands : Text → Rule
operands name = record (new_rule name) { action = Some Append }

-- The number in a text of decimal digits, if it is in this range.
abbrev pub number_between : ℕ → ℕ → Text → Option ℕ
number_between least greatest text =
    if is_unsigned_in least greatest text then Some (digits_value 10 (without_leading_plus text)) else None

-- The number of an option in the matches.
abbrev pub number_in : Number → List Row → Option ℕ
number_in n rows = option_map_or (number_between n.least n.greatest) (one_of n.name rows) n.left_out

-- True if the matches have a flag.
abbrev pub flag_in : Text → List Row → Bool
flag_in name rows = option_map_or (bytes_eq (codes "true")) (first_of name rows) false

-- Holds if the result is whether the matches have a flag.
abbrev pub IsFlag : Text → List Row → Bool → Type 0
IsFlag name rows flag = flag ≡ flag_in name rows
