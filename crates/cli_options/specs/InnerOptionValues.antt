-- What only contracts of private functions use, besides the definitions of `OptionValues`.
use Rattle.std.specs.Prelude.{◌≤◌, ℕ, pos, Some}
use Rattle.clap.specs.Words.{Rule, Text}
use Rattle.clap.specs.declared.builder.value_parser.ValueParser.TheVariants.{Signed}
use Rattle.cli_options.specs.declared.option_tables.Numbered.{Numbered}
use Rattle.cli_options.specs.OptionValues.{Number, text_option}

-- The number of a described option.
abbrev pub described_number : Numbered → Number
described_number n = record { name = n.0.now; least = n.1; greatest = n.2; left_out = n.3 }

-- Holds for a number that an option may have.
abbrev pub IsOf : Number → ℕ → Type 0
IsOf n number = (n.least ≤ number) × (number ≤ n.greatest)

-- An option with a number from a minimum to a maximum.
abbrev pub ranged_option : Text → ℕ → ℕ → Rule
ranged_option name least greatest = record (text_option name) { parser = Some (Signed (pos least) (pos greatest)) }
