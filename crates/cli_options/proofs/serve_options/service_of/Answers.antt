use Rattle.std.proofs.Common.{refl}
use Rattle.cli_options.proofs.serve_options.service_of.Goals as goal

pub returns-in_err-repeat_of-clause-none : goal.returns-in_err-repeat_of-clause-none
returns-in_err-repeat_of-clause-none c none service asks = c.in_err-repeat_of.ensures.none refl service.repeat asks.6
