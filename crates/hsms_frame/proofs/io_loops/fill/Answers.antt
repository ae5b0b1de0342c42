use Rattle.std.proofs.Common.{Ok, ap, arith, rules, ◌∙◌, ◌<◌, ◌-◌, length, take, drop}
use Rattle.std.proofs.lemmas.Grind.{common_steps}
use Rattle.hsms_frame.specs.Io.{ends_after_fill}
use Rattle.hsms_frame.proofs.Transfers.{no_end, found_end, takes_more, stops_short, counts_more, ends_at}
use Rattle.hsms_frame.proofs.io_loops.fill.Goals as goal

pub loop-filled-preserved : goal.loop-filled-preserved
loop-filled-preserved g c = (
  search rules,
  λ i. omega (arith, c.type_inv.into i),
  takes_more _ _ _ _ _ _ _ _ c.loop-filled.invariant.0 c.in_ok-count.ensures.bound c.loop-filled.invariant.2 c.in_ok-count.ensures.octets,
  counts_more _ _ _ _ _ c.loop-filled.invariant.3 c.in_ok-count.ensures.counts.pulls c.if-count-eq0.false,
  grind (arith, common_steps),
  no_end _ _ _ _ c.if-count-eq0.false c.in_ok-count.ensures.counts.ends ∙ c.loop-filled.invariant.5,
  grind (arith, common_steps),
)

pub returns-then-count-eq0-clause-end : goal.returns-then-count-eq0-clause-end
returns-then-count-eq0-clause-end g c = λ less. ends_at _ _ _ _ c.loop-filled.invariant.2 (c.in_ok-count.ensures.end c.if-count-eq0.true (search rules))

pub returns-then-count-eq0-clause-counts : goal.returns-then-count-eq0-clause-counts
returns-then-count-eq0-clause-counts g c =
    let part : 0 < length (take (length c.loop-filled.into - c.loop-filled.filled) (drop c.loop-filled.filled c.loop-filled.into)) = search rules in
    let less : c.loop-filled.filled < length c.args.into.now = search rules in
    record {
      empty_pulls = grind (arith, common_steps);
      ends = found_end _ _ _ _ _ _ part c.if-count-eq0.true less c.in_ok-count.ensures.counts.ends
          ∙ ap (λ n. ends_after_fill (length c.args.into.now) (Ok c.loop-filled.filled) n) c.loop-filled.invariant.5;
      failures = grind (arith, common_steps);
    }

pub returns-in_err-count-clause-err : goal.returns-in_err-count-clause-err
returns-in_err-count-clause-err g c =
    stops_short _ _ _ _ _ _ _ _ c.loop-filled.invariant.0 (search rules) c.loop-filled.invariant.2 c.in_err-count.ensures.none_lost
