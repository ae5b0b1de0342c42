use Rattle.std.specs.Prelude.{map, string_bytes}
use Rattle.clap.specs.Words.{app_of, kind_of}
use Rattle.cli_options.proofs.RequestedOptions.{asks_explained, asks_parsed, nothing_explained, nothing_parsed, operands_explained, operands_parsed}
use Rattle.cli_options.proofs.request.parse.Goals as goal

pub returns-in-Ok-clause-asks : goal.returns-in-Ok-clause-asks
returns-in-Ok-clause-asks c =
    asks_parsed _ c.in-Ok.matches (app_of c.in_ok-command.command) c.asked.result c.in_ok-command.ensures c.in-Ok.ensures.matches
    c.in-Ok.ensures.kinds c.asked.ensures.asks

pub returns-in-Ok-clause-refusal : goal.returns-in-Ok-clause-refusal
returns-in-Ok-clause-refusal c =
    nothing_parsed _ c.in-Ok.matches (app_of c.in_ok-command.command) _ c.asked.result c.in_ok-command.ensures c.in-Ok.ensures.matches
    c.in-Ok.ensures.kinds c.asked.ensures.refusal

pub returns-in-Err-clause-asks : goal.returns-in-Err-clause-asks
returns-in-Err-clause-asks c =
    asks_explained _ (app_of c.in_ok-command.command) (kind_of c.in-Err.error) c.explained.result c.in_ok-command.ensures c.in-Err.ensures.kinds
    c.explained.ensures.help

pub returns-in-Err-clause-refusal : goal.returns-in-Err-clause-refusal
returns-in-Err-clause-refusal c =
    nothing_explained _ (app_of c.in_ok-command.command) (kind_of c.in-Err.error) _ c.explained.result c.in_ok-command.ensures c.in-Err.ensures.kinds
    c.explained.ensures.refusal

pub returns-in-Ok-clause-operands : goal.returns-in-Ok-clause-operands
returns-in-Ok-clause-operands c =
    operands_parsed (map string_bytes c.args.words.now) c.in-Ok.matches (app_of c.in_ok-command.command) c.asked.result c.in_ok-command.ensures c.in-Ok.ensures.matches
    c.asked.ensures.asks c.asked.ensures.operands

pub returns-in-Err-clause-operands : goal.returns-in-Err-clause-operands
returns-in-Err-clause-operands c =
    operands_explained (map string_bytes c.args.words.now) (kind_of c.in-Err.error) c.explained.result c.explained.ensures.help c.explained.ensures.operands
