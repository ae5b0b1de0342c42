use Rattle.clap.specs.Words.{app_of, rule_of}
use Rattle.cli_options.specs.InnerClapCommand.{rule_described}
use Rattle.cli_options.proofs.Described.{with_next_rule}
use Rattle.cli_options.proofs.clap_command.Subcommand.command.Goals as goal

pub loop-option-preserved : goal.loop-option-preserved
loop-option-preserved c =
    with_next_rule rule_described c.args.self.options.now c.loop-option.option-index _ (app_of c.match-self.command) (app_of c.loop-option.command)
    (app_of c.in_ok-command.command) (rule_of c.arg.result) c.loop-option-test.true c.loop-option.invariant
    (c.in_ok-command.ensures.shape c.arg.ensures.local) c.arg.ensures.rule
