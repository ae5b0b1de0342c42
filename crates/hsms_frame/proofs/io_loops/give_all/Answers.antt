use Rattle.std.proofs.Common.{arith, rules}
use Rattle.std.proofs.lemmas.Grind.{common_steps}
use Rattle.std.proofs.lemmas.List.{take_rest}
use Rattle.hsms_frame.proofs.Transfers.{counts_more, grows_more, part_within}
use Rattle.hsms_frame.proofs.io_loops.give_all.Goals as goal

pub loop-given-preserved : goal.loop-given-preserved
loop-given-preserved g c =
    let part = rw take_rest at c.in_ok-given.ensures.octets in (
      part_within _ _ _ c.loop-given.invariant.0 c.in_ok-given.ensures.bound,
      grows_more _ _ _ _ _ _ c.loop-given.invariant.1 part,
      counts_more _ _ _ _ _ c.loop-given.invariant.2 c.in_ok-given.ensures.counts.gives
          (λ none. omega (arith, none, c.in_ok-given.ensures.some (search rules))),
      grind (arith, common_steps),
    )
