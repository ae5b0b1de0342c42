use Rattle.std.proofs.Common.{◌<◌, ◌≤◌, ◌++◌, ◌∙◌, length, arith, ap, take}
use Rattle.cli_filters.proofs.CompleteLines.{reads_more, reads_whole, reads_past, not_at_end, rewritten}
use Rattle.cli_filters.proofs.read_input.read_past.Goals as goal

pub returns-in_default-clause-err : goal.returns-in_default-clause-err
returns-in_default-clause-err g c = λ input known_input.
    let so_far = c.loop-source.invariant.0 input known_input in
    let within : length c.loop-source.octets.items ≤ c.args.limit = omega (arith, c.len.ensures, c.loop-source-test.true, c.loop-source.octets.ok) in
    (c.loop-source.octets.items, so_far.0, within, so_far.1, c.in_default.ensures.none_lost so_far.0 so_far.2)

pub returns-then-count-eq0-clause-ok : goal.returns-then-count-eq0-clause-ok
returns-then-count-eq0-clause-ok g c =
    let room : 0 < length c.pull.new.into = omega (arith, c.pull.auto.into, c.deref_mut.ensures.len, c.loop-source.invariant.1) in
    reads_whole _ _ _ _ c.loop-source.invariant.0 (c.in-Ok.ensures.end c.if-count-eq0.true room)
    (omega (arith, c.len.ensures, c.loop-source-test.true, c.loop-source.octets.ok))

pub returns-clause-ok : goal.returns-clause-ok
returns-clause-ok g c =
    reads_past _ _ _ _ c.loop-source.invariant.0 (omega (arith, c.len.ensures, c.loop-source-test.false, c.loop-source.octets.ok))

pub loop-source-preserved : goal.loop-source-preserved
loop-source-preserved g c =
    let counts = rw c.in-Ok.is at c.pull.ensures.counts in (
      reads_more _ _ _ _ _ _ _ c.loop-source.invariant.0 c.in-Ok.ensures.octets
          (c.in_ok-extend_from_slice.ensures.items ∙ ap (λ xs. c.loop-source.octets.items ++ take c.in-Ok.count xs) c.deref.ensures.value
          ∙ ap (λ xs. c.loop-source.octets.items ++ xs) (ap (take c.in-Ok.count) (rewritten c.loop-source.block.len c.pull.new.into c.loop-source.block.items (omega (arith, c.pull.auto.into, c.deref_mut.ensures.len))))),
      c.loop-source.invariant.1,
      not_at_end _ _ _ _ c.if-count-eq0.false counts.ends ∙ c.loop-source.invariant.2,
      counts.failures ∙ c.loop-source.invariant.3,
    )
