use Rattle.std.proofs.Common.{◌≡◌, map, take}
use Rattle.clap.specs.Words.{app_of}
use Rattle.cli_options.specs.InnerClapCommand.{rule_described, with_rules}
use Rattle.cli_options.proofs.clap_command.Subcommand.command.Given as goal

-- The options that were passed are described.
abbrev pub invariant-loop-option : goal.invariant-loop-option
invariant-loop-option l = app_of l.command ≡ with_rules (app_of l.initial.command) (map rule_described (take l.option-index l.option-items))
