use Rattle.std.proofs.Common.{◌≡◌, ◌≤◌, ◌∙◌, ◌+◌, ◌++◌, ◌<◌, ◌*◌, ◌^◌, [], Err, length, take, refl, ap, arith, rules}
use Rattle.std.proofs.lemmas.List.{length-take}
use Rattle.std.proofs.lemmas.Result.{err_from_is_err_and}
use Rattle.hsms_frame.specs.CallCounts.{next_count}
use Rattle.hsms_log.proofs.Audits.{ends_found, ends_same}
use Rattle.cli_explain.proofs.Firsts.{more_shown, none_written}
use Rattle.explain_lines.proofs.Results.{on_ok_more}
use Rattle.cli_explain.proofs.FormattedLines.{all_read, concluded, less_left, none_more, none_read, read_on, reads_none, some_more, stops_early}
use Rattle.cli_explain.proofs.command.explain_to.Goals as goal

pub returns-in_err-explainer-clause-shown_line : goal.returns-in_err-explainer-clause-shown_line
returns-in_err-explainer-clause-shown_line g c = λ input shown_line.
    let p = err_from_is_err_and c.from_residual.result c.from_residual.ensures.1 in
    rw (p.1, p.2) (([], input, refl, shown_line), none_more _)

pub loop-init : goal.loop-init
loop-init g c = (none_read _ _ c.in_ok-explainer.ensures.reception, refl, refl, none_more _, refl, none_written _ _ _ c.in_ok-explainer.ensures.shown)

pub returns-then-count-eq0-clause-shown_line : goal.returns-then-count-eq0-clause-shown_line
returns-then-count-eq0-clause-shown_line g c = λ input shown_line.
    let inv = c.loop.invariant in
    let room : 0 < length c.pull.new.into = search rules in
    let before : 0 < length c.loop.block = search rules in
    let counted = c.in-Ok.ensures.counts in
    let found = ends_found _ (length c.loop.block) (g.R.Source.state c.loop.source).ends c.in-Ok.count before c.if-count-eq0.true counted.ends in
    let all = all_read _ _ _ c.in-Ok.count _ c.pull.new.into c.loop.explainer inv.0 c.in-Ok.ensures.octets c.if-count-eq0.true
    (c.in-Ok.ensures.end c.if-count-eq0.true room) input shown_line in
    let most = all.0 in
    let few : length input < 2 ^ 63 = search rules in
    concluded _ input c.conclude.result c.loop.explainer _ _ _ _ _ few all.1 all.2 (found ∙ ap next_count inv.1) inv.3 c.conclude.ensures.shown_line
    c.conclude.ensures.some c.conclude.ensures.fault

pub returns-in_err-take-clause-shown_line : goal.returns-in_err-take-clause-shown_line
returns-in_err-take-clause-shown_line g c = λ input shown_line.
    let inv = c.loop.invariant in
    let p = err_from_is_err_and c.from_residual-in_err-take.result c.from_residual-in_err-take.ensures.1 in
    rw (p.1, p.2) (less_left _ _ _ c.in-Ok.count _ c.pull.new.into c.loop.explainer inv.0 c.in-Ok.ensures.octets input shown_line, inv.3)

pub returns-in_err-write_buffered-clause-shown_line : goal.returns-in_err-write_buffered-clause-shown_line
returns-in_err-write_buffered-clause-shown_line g c = λ input shown_line.
    let inv = c.loop.invariant in
    let p = err_from_is_err_and c.from_residual-in_err-write_buffered.result c.from_residual-in_err-write_buffered.ensures.1 in
    rw (p.1, p.2) (stops_early c.args.excerpt.form input c.in_err-write_buffered.field-0.0 _ _ _ _ c.in_err-write_buffered.ensures.fault
    (less_left _ _ _ c.in-Ok.count _ c.pull.new.into c.loop.explainer inv.0 c.in-Ok.ensures.octets input shown_line)
    (some_more _ _ _ inv.3 c.in_err-write_buffered.ensures.some))

pub returns-in_err-write_buffered-clause-reads : goal.returns-in_err-write_buffered-clause-reads
returns-in_err-write_buffered-clause-reads g c =
    let same = c.in-Ok.ensures.counts.failures ∙ c.loop.invariant.2 in
    let p = err_from_is_err_and c.from_residual-in_err-write_buffered.result c.from_residual-in_err-write_buffered.ensures.1 in
    rw (p.1, p.2, same) (reads_none (Err c.in_err-write_buffered.field-0.0) _ c.in_err-write_buffered.ensures.fault)

pub loop-preserved : goal.loop-preserved
loop-preserved g c =
    let inv = c.loop.invariant in
    let counted = c.in-Ok.ensures.counts in
    let size : length c.pull.new.into ≡ 4096 = search rules in
    let taken = length-take c.in-Ok.count c.pull.new.into in
    let fits : 4096 * c.loop.counter + length (take c.in-Ok.count c.pull.new.into) ≤ 4096 * (c.loop.counter + 1) = omega (arith, taken, size) in (
      read_on _ _ _ c.in-Ok.count _ _ c.pull.new.into c.loop.explainer _ inv.0 c.in-Ok.ensures.octets fits
          (λ text reception. c.in_ok-write_buffered.ensures.reception (text ++ take c.in-Ok.count c.pull.new.into) (c.in_ok-take.ensures.reception text reception)),
      counted.ends ∙ ends_same _ c.in-Ok.count (g.R.Source.state c.loop.source).ends c.if-count-eq0.false ∙ inv.1,
      counted.failures ∙ inv.2,
      some_more _ _ _ inv.3 c.in_ok-write_buffered.ensures.some,
      c.in_ok-write_buffered.ensures.writes ∙ inv.4,
      c.in_ok-write_buffered.ensures.shown c.args.excerpt _ (more_shown _ _ _ _ _ c.in_ok-take.ensures.shown inv.5),
    )

pub returns-then-count-eq0-clause-reads : goal.returns-then-count-eq0-clause-reads
returns-then-count-eq0-clause-reads g c =
    let same = c.in-Ok.ensures.counts.failures ∙ c.loop.invariant.2 in
    rw same (reads_none c.conclude.result _ c.conclude.ensures.fault)

pub returns-then-count-eq0-clause-first : goal.returns-then-count-eq0-clause-first
returns-then-count-eq0-clause-first g c = λ input shown_line.
    let inv = c.loop.invariant in
    let room : 0 < length c.pull.new.into = search rules in
    let all = all_read _ _ _ c.in-Ok.count _ c.pull.new.into c.loop.explainer inv.0 c.in-Ok.ensures.octets c.if-count-eq0.true
    (c.in-Ok.ensures.end c.if-count-eq0.true room) input shown_line in
    let most = all.0 in
    let few : length input < 2 ^ 63 = search rules in
    on_ok_more _ _ c.conclude.result (λ first. first c.args.excerpt _ input few all.1 inv.5) c.conclude.ensures.first
