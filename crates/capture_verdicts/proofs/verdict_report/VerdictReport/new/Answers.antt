use Rattle.std.proofs.Common.{refl, ap}
use Rattle.std.specs.Map.{lookup}
use Rattle.capture_log.specs.contracts.socket_pair.PairPartialEq.TheImpl as same_pair
use Rattle.capture_verdicts.proofs.NextEvent.{begun}
use Rattle.capture_verdicts.proofs.verdict_report.VerdictReport.new.Goals as goal

pub returns-clause-blank : goal.returns-clause-blank
returns-clause-blank c =
    begun c.args.active c.args.passive _ refl refl (λ q. ap (lookup ((same_pair.ghosts).eq q)) c.new.ensures.empty) refl refl refl c.new-2.ensures
