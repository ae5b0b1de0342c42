use Rattle.std.proofs.Common.{◌≡◌, map, take}
use Rattle.clap.specs.Words.{app_of}
use Rattle.cli_options.specs.InnerClapCommand.{shape_described, with_subcommands}
use Rattle.cli_options.proofs.clap_command.command.Given as goal

-- The subcommands that were passed are described.
abbrev pub invariant-loop-subcommand : goal.invariant-loop-subcommand
invariant-loop-subcommand l =
    app_of l.hsms ≡ with_subcommands (app_of l.initial.hsms) (map shape_described (take l.subcommand-index l.subcommand-items))
