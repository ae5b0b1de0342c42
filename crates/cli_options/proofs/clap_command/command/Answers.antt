use Rattle.std.proofs.Common.{◌≡◌, ◌∙◌, length, map, take, sym, ap, rules, arith}
use Rattle.std.proofs.lemmas.List.{length-map, take_all}
use Rattle.clap.specs.Words.{App, app_of}
use Rattle.cli_options.specs.InnerClapCommand.{shape_described, with_subcommands}
use Rattle.cli_options.specs.Request.{command_line}
use Rattle.cli_options.proofs.Described.{third_fails, with_next_subcommand}
use Rattle.cli_options.proofs.clap_command.command.Goals as goal

pub loop-subcommand-preserved : goal.loop-subcommand-preserved
loop-subcommand-preserved c =
    let size : length c.subcommands.result ≡ 7 = sym (length-map c.subcommands.result shape_described) ∙ ap length c.subcommands.ensures in
    let is = ap (λ (a : App). a.top) c.in_ok-command.ensures in
    let adds = c.in_ok-hsms.ensures.shape (third_fails _ _ _ _ (ap (λ (a : App). a.top.is_plain) c.in_ok-command.ensures)) in
    with_next_subcommand shape_described c.subcommands.result c.loop-subcommand.subcommand-index _ (app_of c.subcommand_required-hsms.result) (app_of c.loop-subcommand.hsms)
    (app_of c.in_ok-hsms.hsms) (app_of c.in_ok-command.field-0).top (omega (arith, c.loop-subcommand-test.true, size)) c.loop-subcommand.invariant adds is

pub returns : goal.returns
returns c =
    let size : length c.subcommands.result ≡ 7 = sym (length-map c.subcommands.result shape_described) ∙ ap length c.subcommands.ensures in
    let all : map shape_described (take c.loop-subcommand.subcommand-index c.subcommands.result) ≡ command_line.subs =
    ap (map shape_described) (take_all c.loop-subcommand.subcommand-index c.subcommands.result (omega (arith, c.loop-subcommand-test.false, size))) ∙ c.subcommands.ensures in
    let described : with_subcommands (app_of c.subcommand_required-hsms.result) command_line.subs ≡ command_line = search rules in
    c.loop-subcommand.invariant ∙ ap (with_subcommands (app_of c.subcommand_required-hsms.result)) all ∙ described
