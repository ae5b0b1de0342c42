use Rattle.std.proofs.Common.{refl}
use Rattle.capture_verdicts.proofs.LogNotes.{nothing_logged}
use Rattle.capture_verdicts.proofs.pair_logs.PairLogs.new.Goals as goal

pub returns-clause-begins : goal.returns-clause-begins
returns-clause-begins c = nothing_logged c.args.active.now c.args.passive.now _ c.in_ok-new.ensures.begins c.in_ok-new-2.ensures.begins refl
