use Rattle.std.proofs.Common.{arith, refl, ◌∙◌}
use Rattle.std.proofs.lemmas.Result.{err_from_is_err_and}
use Rattle.cli_options.specs.Request.{is_bare}
use Rattle.cli_show.proofs.HexRuns.{lines_begin, lines_end, lines_full_end, lines_full_more, lines_full_stop, lines_go_on, lines_stop, lines_unwritten, no_line}
use Rattle.cli_show.proofs.Runs.{along}
use Rattle.cli_show.proofs.showing_hex.show_hex.Goals as goal

pub returns-in_err-ahead-clause-lines : goal.returns-in_err-ahead-clause-lines
returns-in_err-ahead-clause-lines g c = λ input known_input.
    let p = err_from_is_err_and c.from_residual.result c.from_residual.ensures.1 in
    rw (p.1, p.2) (no_line (is_bare c.args.showing.form) c.args.showing.max c.args.showing.depth input (g.R.Source.state c.args.source.now).left (g.W.Sink.state c.args.sink.now).written known_input)

pub returns-in_err-held-clause-lines : goal.returns-in_err-held-clause-lines
returns-in_err-held-clause-lines g c = λ input known_input.
    let p = err_from_is_err_and c.from_residual-in_err-held.result c.from_residual-in_err-held.ensures.1 in
    rw (p.1, p.2) (no_line (is_bare c.args.showing.form) c.args.showing.max c.args.showing.depth input (g.R.Source.state c.args.source.now).left (g.W.Sink.state c.args.sink.now).written known_input)

pub loop-passed-init : goal.loop-passed-init
loop-passed-init g c = (
  (λ input known_input. lines_begin _ _ _ input _ _ _ _ c.in_ok-held.ensures c.in_ok-ahead.ensures known_input),
  refl,
  refl,
  refl,
)

pub returns-in_err-show_next-clause-lines : goal.returns-in_err-show_next-clause-lines
returns-in_err-show_next-clause-lines g c = λ input known_input.
    let p = err_from_is_err_and c.from_residual-in_err-show_next.result c.from_residual-in_err-show_next.ensures.1 in
    rw (p.1, p.2) (lines_stop _ _ _ _ c.loop-passed.passed _ _ (g.R.Source.state c.show_next.new.source).left _ _ _ (g.W.Sink.state c.show_next.new.sink).written c.show_next.new.held (omega arith)
    (c.loop-passed.invariant.0 input known_input) (along _ _ _ c.in_err-show_next.ensures.line))

pub returns-then-not-branch-clause-lines : goal.returns-then-not-branch-clause-lines
returns-then-not-branch-clause-lines g c = λ input known_input.
    let line = rw c.if-not-branch.true at c.in_ok-show_next.ensures.line in
    lines_end _ _ _ _ c.loop-passed.passed _ (g.R.Source.state c.show_next.new.source).left _ _ _ (g.W.Sink.state c.show_next.new.sink).written c.show_next.new.held (omega arith)
    (c.loop-passed.invariant.0 input known_input) (along _ _ _ line)

pub loop-passed-preserved : goal.loop-passed-preserved
loop-passed-preserved g c =
    let line = rw c.if-not-branch.false at c.in_ok-show_next.ensures.line in (
      (λ input known_input. lines_go_on _ _ _ _ _ _ _ _ _ _ _ _ (c.loop-passed.invariant.0 input known_input) (along _ _ _ line)),
      rw c.if-not-branch.false at c.in_ok-show_next.ensures.end ∙ c.loop-passed.invariant.1,
      c.in_ok-show_next.ensures.reads ∙ c.loop-passed.invariant.2,
      c.in_ok-show_next.ensures.writes ∙ c.loop-passed.invariant.3,
    )

pub returns-in_err-put_out-clause-lines : goal.returns-in_err-put_out-clause-lines
returns-in_err-put_out-clause-lines g c = λ input known_input.
    let p = err_from_is_err_and c.from_residual-in_err-put_out.result c.from_residual-in_err-put_out.ensures.1 in
    rw (p.1, p.2) (lines_unwritten _ _ _ _ c.loop-passed.passed _ _ _ _ _ c.loop-passed.ahead (omega arith) (c.loop-passed.invariant.0 input known_input) c.in_err-put_out.ensures.err)

pub returns-in_err-is_at_end-clause-lines : goal.returns-in_err-is_at_end-clause-lines
returns-in_err-is_at_end-clause-lines g c = λ input known_input.
    let p = err_from_is_err_and c.from_residual-in_err-is_at_end.result c.from_residual-in_err-is_at_end.ensures.1 in
    rw (p.1, p.2) (lines_full_stop _ _ _ _ c.loop-passed.passed _ _ _ _ _ _ _ (omega arith) (c.loop-passed.invariant.0 input known_input) c.in_ok-put_out.ensures.ok (along _ _ _ c.in_err-is_at_end.ensures.answer))

pub returns-then-branch-clause-lines : goal.returns-then-branch-clause-lines
returns-then-branch-clause-lines g c = λ input known_input.
    let answer = rw c.if-branch.true at c.in_ok-is_at_end.ensures.answer in
    lines_full_end _ _ _ _ c.loop-passed.passed _ _ _ _ _ _ (omega arith) (c.loop-passed.invariant.0 input known_input) c.in_ok-put_out.ensures.ok (along _ _ _ answer)

pub returns-clause-lines : goal.returns-clause-lines
returns-clause-lines g c = λ input known_input.
    let answer = rw c.if-branch.false at c.in_ok-is_at_end.ensures.answer in
    lines_full_more _ _ _ _ c.loop-passed.passed _ _ _ _ _ _ (omega arith) (c.loop-passed.invariant.0 input known_input) c.in_ok-put_out.ensures.ok (along _ _ _ answer)
