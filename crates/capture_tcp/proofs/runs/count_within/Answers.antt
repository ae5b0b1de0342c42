use Rattle.std.proofs.Common.{◌≡◌, ◌<◌, ◌≤◌, ◌+◌, ◌-◌, length, refl, sym, subst, arith}
use Rattle.std.specs.VecDeque.{deque_len}
use Rattle.capture_tcp.specs.InnerRuns.{CellRun, end_of_run, HasAt}
use Rattle.capture_tcp.proofs.ApartRuns.{has_run, if_past, if_run, not_inside}
use Rattle.capture_tcp.proofs.runs.count_within.Goals as goal

pub returns-then-not-ends_by : goal.returns-then-not-ends_by
returns-then-not-ends_by c = (
  c.loop-run.invariant.0,
  if_run (λ (q : CellRun). c.args.end < end_of_run q) (c.args.index + c.loop-run.count) c.args.runs.now.items c.in-Some.run'.now c.in-Some.ensures.lookup (c.if-not-ends_by.ensures.passes refl),
  c.loop-run.invariant.1,
)

pub loop-run-preserved : goal.loop-run-preserved
loop-run-preserved c = (
  λ lt.
      let at : c.args.index + (c.loop-run.count + 1 - 1) ≡ c.args.index + c.loop-run.count = omega arith in
      subst (HasAt (λ (q : CellRun). end_of_run q ≤ c.args.end) c.args.runs.now.items) (sym at)
      (has_run (λ (q : CellRun). end_of_run q ≤ c.args.end) (c.args.index + c.loop-run.count) c.args.runs.now.items c.in-Some.run'.now
      (let lt = c.in-Some.ensures.variant.0 refl in omega (arith, lt, c.args.runs.now.ok.0)) c.in-Some.ensures.lookup (c.if-not-ends_by.ensures.ends refl)),
  (let lt = c.in-Some.ensures.variant.0 refl in omega (arith, lt, c.args.runs.now.ok.0)),
)

pub returns : goal.returns
returns c = (
  c.loop-run.invariant.0,
  if_past (λ (q : CellRun). c.args.end < end_of_run q) c.args.runs.now.items (c.args.index + c.loop-run.count) (not_inside (c.args.index + c.loop-run.count) (deque_len c.args.runs.now) (length c.args.runs.now.items) c.args.runs.now.ok.0
      (λ lt. let g = c.in_default.ensures.variant.1 lt in let is = c.in_default.is in cc)),
  c.loop-run.invariant.1,
)
