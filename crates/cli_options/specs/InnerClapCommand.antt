-- Options and subcommands as they are described for `clap`.
use Rattle.std.specs.Prelude.{◌++◌, List, [], ◌∷◌, map}
use Rattle.clap.specs.Words.{App, Rule, Shape, new_app, with_subcommand}
use Rattle.cli_options.specs.declared.clap_command.Subcommand.{Subcommand}
use Rattle.cli_options.specs.declared.option_tables.Described.{Described}
use Rattle.cli_options.specs.declared.option_tables.Described.TheVariants.{Flag, Word, Needed, Number, File, Files}
use Rattle.cli_options.specs.OptionValues.{flag_option, needed_option, operand, operands, option_of, text_option}
use Rattle.cli_options.specs.InnerOptionValues.{described_number}

-- The option that is described.
abbrev pub rule_described : Described → Rule
rule_described (Flag name help) = flag_option name.now
rule_described (Word name value help) = text_option name.now
rule_described (Needed name value help) = needed_option name.now
rule_described (Number number value help) = option_of (described_number number)
rule_described (File name help) = operand name.now
rule_described (Files name help) = operands name.now

-- The subcommand that is described.
abbrev pub shape_described : Subcommand → Shape
shape_described it = record (new_app it.name.now).top { rules = map rule_described it.options.now }

-- A command with these options added.
abbrev pub with_rules : App → List Rule → App
with_rules app rules = record app { top = record app.top { rules = app.top.rules ++ rules } }

-- A command with these subcommands added.
abbrev pub with_subcommands : App → List Shape → App
with_subcommands app [] = app
with_subcommands app (shape ∷ shapes) = with_subcommands (with_subcommand app shape) shapes
