use Rattle.std.proofs.Common.{◌≡◌, ◌<◌, ◌≤◌, length, take, refl, ap, ◌∙◌, arith, rules}
use Rattle.std.proofs.lemmas.Grind.{common_steps}
use Rattle.std.proofs.lemmas.List.{length-take}
use Rattle.std.proofs.lemmas.Result.{err_from_is_err_and}
use Rattle.hsms_frame.specs.CallCounts.{next_count}
use Rattle.hsms_log.specs.Auditing.{HasEnded}
use Rattle.hsms_log.proofs.Uniqueness.{RunLaws}
use Rattle.hsms_log.proofs.Audits.{reads_more, stops, ends, fails, ends_same, ends_found, uses_failing}
use Rattle.hsms_log.proofs.auditing.audit_within.Goals as goal

pub returns-in_err-count-clause-answer : goal.returns-in_err-count-clause-answer
returns-in_err-count-clause-answer g c =
    let laws : RunLaws = record { next = c.front_of_run_is_run.ensures.next; one = c.each_entry_has_one_answer.ensures.one } in
    let p = err_from_is_err_and c.from_residual.result c.from_residual.ensures.1 in
    λ input found_fact. rw (p.1, p.2) (stops laws (g.R.Source.state c.args.source.now).left (g.R.Source.state c.loop.source).left (g.R.Source.state c.pull.new.self).left
    c.loop.reader c.loop.invariant.0 c.in_err-count.ensures.none_lost input found_fact)

pub returns-then-count-eq0-clause-answer : goal.returns-then-count-eq0-clause-answer
returns-then-count-eq0-clause-answer g c =
    let laws : RunLaws = record { next = c.front_of_run_is_run.ensures.next; one = c.each_entry_has_one_answer.ensures.one } in
    let room : 0 < length c.pull.new.into = search rules in
    let counted = c.in_ok-count.ensures.counts in
    let before : 0 < length c.loop.block = search rules in
    let found = ends_found _ (length c.loop.block) (g.R.Source.state c.loop.source).ends c.in_ok-count.count before c.if-count-eq0.true counted.ends in
    ends laws (g.R.Source.state c.args.source.now).left (g.R.Source.state c.loop.source).left (g.R.Source.state c.pull.new.self).left c.in_ok-count.count
    c.pull.new.into c.loop.reader c.in_ok-finish.field-0 (HasEnded (g.R.Source.state c.args.source.now).ends (g.R.Source.state c.pull.new.self).ends)
    c.loop.invariant.0 c.in_ok-count.ensures.octets c.if-count-eq0.true (c.in_ok-count.ensures.end c.if-count-eq0.true room) c.in_ok-finish.ensures
    (found ∙ ap next_count c.loop.invariant.4)

pub returns-in-Some-clause-answer : goal.returns-in-Some-clause-answer
returns-in-Some-clause-answer g c =
    let laws : RunLaws = record { next = c.front_of_run_is_run.ensures.next; one = c.each_entry_has_one_answer.ensures.one } in
    let failing = rw c.in-Some.is at c.in_ok-failure.ensures.fails in
    let size : length c.pull.new.into ≡ 4096 = search rules in
    let small : length (take c.in_ok-count.count c.pull.new.into) ≤ 4096 = omega (arith, length-take c.in_ok-count.count c.pull.new.into, size) in
    fails laws (g.R.Source.state c.args.source.now).left (g.R.Source.state c.loop.source).left (g.R.Source.state c.pull.new.self).left c.in_ok-count.count
    c.pull.new.into c.loop.reader c.in-Some.failure (HasEnded (g.R.Source.state c.args.source.now).ends (g.R.Source.state c.pull.new.self).ends)
    c.loop.invariant.0 c.in_ok-count.ensures.octets small failing

pub returns-in-Some-clause-counts : goal.returns-in-Some-clause-counts
returns-in-Some-clause-counts g c =
    let inv = c.loop.invariant in
    let counted = c.in_ok-count.ensures.counts in
    let failing = rw c.in-Some.is at c.in_ok-failure.ensures.failure in
    record {
      uses = uses_failing c.args.reads c.in-Some.failure (g.R.Source.state c.args.source.now) (g.R.Source.state c.pull.new.self) failing;
      pulls = let one = counted.pulls in omega (arith, inv.3, one);
      empty_pulls = grind (arith, common_steps);
      failures = counted.failures ∙ inv.6;
    }

pub loop-preserved : goal.loop-preserved
loop-preserved g c =
    let inv = c.loop.invariant in
    let counted = c.in_ok-count.ensures.counts in
    let consistent = rw c.in_default.is at c.in_ok-failure.ensures.consistent in
    let room = rw c.in_default.is at c.in_ok-failure.ensures.room in
    let size : length c.pull.new.into ≡ 4096 = search rules in
    let lines = room refl in
    let one = counted.pulls in (
      reads_more (g.R.Source.state c.args.source.now).left (g.R.Source.state c.loop.source).left (g.R.Source.state c.pull.new.self).left c.in_ok-count.count
          c.pull.new.into c.loop.reader c.take.new.self inv.0 c.in_ok-count.ensures.octets (consistent refl),
      omega (arith, inv.1, lines, length-take c.in_ok-count.count c.pull.new.into, size),
      λ below. omega (arith, inv.2, inv.3, one),
      omega (arith, inv.3, one),
      counted.ends ∙ ends_same _ c.in_ok-count.count (g.R.Source.state c.loop.source).ends c.if-count-eq0.false ∙ inv.4,
      grind (arith, common_steps),
      counted.failures ∙ inv.6,
    )

pub returns-clause-answer : goal.returns-clause-answer
returns-clause-answer g c =
    let laws : RunLaws = record { next = c.front_of_run_is_run.ensures.next; one = c.each_entry_has_one_answer.ensures.one } in
    let left = (g.R.Source.state c.loop.source).left in
    stops laws (g.R.Source.state c.args.source.now).left left left c.loop.reader c.loop.invariant.0 (λ octets found_fact. found_fact)
