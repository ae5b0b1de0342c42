use Rattle.std.proofs.Common.{Ok, ap, arith, refl, sym, ◌∙◌}
use Rattle.std.proofs.lemmas.Result.{err_from_is_err_and}
use Rattle.cli_show.proofs.LineEnds.{input_ends, line_found, none_of_none, placed_so, reading_stops, reads_further, short_of_limit, starts}
use Rattle.cli_show.proofs.hex_lines.read_to_end.Goals as goal

pub loop-end-init : goal.loop-end-init
loop-end-init g c = (
  (λ input known_input. starts c.args.max c.args.ahead.now c.as_slice.result.now input _ _ known_input c.as_slice.ensures (c.end_in-end.ensures.end (none_of_none c.as_slice.result.now))),
  placed_so c.args.max c.as_slice.result.now c.args.ahead.now c.end_in-end.result c.as_slice.ensures c.end_in-end.ensures.placed,
  refl,
  refl,
)

pub returns-in_err-read_more-clause-end : goal.returns-in_err-read_more-clause-end
returns-in_err-read_more-clause-end g c = λ input known_input.
    let p = err_from_is_err_and c.from_residual.result c.from_residual.ensures.1 in
    rw (p.1, p.2) (reading_stops c.args.max c.args.ahead.now input c.loop-end.ahead c.read_more.new.ahead _ _ c.loop-end.end _ (c.loop-end.invariant.0 input known_input) (sym c.is_to_be_read.ensures ∙ c.loop-end-test.true) c.in_err-read_more.ensures.err c.in_err-read_more.ensures.fault)

pub returns-then-not-branch-clause-end : goal.returns-then-not-branch-clause-end
returns-then-not-branch-clause-end g c = λ input known_input.
    let none = c.in_ok-read_more.ensures.none (ap Ok c.if-not-branch.true) in
    input_ends c.args.max c.args.ahead.now input c.loop-end.ahead c.read_more.new.ahead _ _ c.loop-end.end (c.loop-end.invariant.0 input known_input) (sym c.is_to_be_read.ensures ∙ c.loop-end-test.true) c.in_ok-read_more.ensures.ok none.0 none.1

pub loop-end-smaller : goal.loop-end-smaller
loop-end-smaller g c =
    let short = short_of_limit c.args.max c.loop-end.ahead c.loop-end.end (sym c.is_to_be_read.ensures ∙ c.loop-end-test.true) c.loop-end.invariant.1 in
    let longer = c.in_ok-read_more.ensures.more (ap Ok c.if-not-branch.false) in
    omega (arith, longer, short)

pub loop-end-preserved : goal.loop-end-preserved
loop-end-preserved g c = (
  (λ input known_input.
      reads_further c.args.max c.args.ahead.now input c.loop-end.ahead c.read_more.new.ahead c.as_slice-seen.result.now c.as_slice-in-loop-end.result.now _ _ c.loop-end.end c.end_in-end-in-loop-end.result
      (c.loop-end.invariant.0 input known_input) (sym c.is_to_be_read.ensures ∙ c.loop-end-test.true) c.in_ok-read_more.ensures.ok
      (c.in_ok-read_more.ensures.more (ap Ok c.if-not-branch.false)) c.as_slice-seen.ensures c.as_slice-in-loop-end.ensures c.end_in-end-in-loop-end.ensures.end),
  placed_so c.args.max c.as_slice-in-loop-end.result.now c.read_more.new.ahead c.end_in-end-in-loop-end.result c.as_slice-in-loop-end.ensures c.end_in-end-in-loop-end.ensures.placed,
  rw c.if-not-branch.false at c.in_ok-read_more.ensures.end ∙ c.loop-end.invariant.2,
  c.in_ok-read_more.ensures.reads ∙ c.loop-end.invariant.3,
)

pub returns-clause-end : goal.returns-clause-end
returns-clause-end g c = λ input known_input. line_found c.args.max c.args.ahead.now input c.loop-end.ahead _ c.loop-end.end (c.loop-end.invariant.0 input known_input) (sym c.is_to_be_read.ensures ∙ c.loop-end-test.false)
