use Rattle.std.proofs.Common.{sym, ap, ◌∙◌, arith}
use lib.Count.{count_trailing_zeros}
use Rattle.secs_text.specs.Octets.{is_quotable}
use Rattle.secs_text.proofs.Runs.{run_bound, run_through, run_stops}
use Rattle.secs_text.proofs.quotable.quotable_length.Goals as goal

pub returns-then-found-ne0-clause-length : goal.returns-then-found-ne0-clause-length
returns-then-found-ne0-clause-length c =
    let found = c.others-found in
    let run = run_stops is_quotable c.args.octets.now c.loop-i.i 16 (omega arith) (omega arith) (omega (arith, found.ensures)) ∙ ap (count_trailing_zeros 64) (sym found.ensures) in
    omega (arith, run, c.loop-i.invariant.0)

pub returns-then-found-ne0-clause-within : goal.returns-then-found-ne0-clause-within
returns-then-found-ne0-clause-within c =
    let found = c.others-found in
    let run = run_stops is_quotable c.args.octets.now c.loop-i.i 16 (omega arith) (omega arith) (omega (arith, found.ensures)) ∙ ap (count_trailing_zeros 64) (sym found.ensures) in
    omega (arith, run, run_bound is_quotable c.args.octets.now c.loop-i.i c.loop-i.invariant.1)

pub loop-i-preserved : goal.loop-i-preserved
loop-i-preserved c =
    let run = run_through is_quotable c.args.octets.now c.loop-i.i 16 (omega arith) (omega (arith, c.others-found.ensures)) in
    (omega (arith, run, c.loop-i.invariant.0), omega arith)
