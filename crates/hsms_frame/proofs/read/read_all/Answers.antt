use Rattle.std.proofs.Common.{arith, ◌≡◌, ◌<◌, ◌≤◌, length}
use Rattle.hsms_frame.proofs.Buffers.{drained, filled, front_stopped, stopped}
use Rattle.hsms_frame.proofs.Counted.{not_memory, part_cut, part_failed, part_full}
use Rattle.hsms_frame.proofs.read.read_all.Goals as goal

pub returns-then-count-into-clause-answer : goal.returns-then-count-into-clause-answer
returns-then-count-into-clause-answer g c = λ input known_input.
    let e = c.in_ok-count.ensures in
    let size : length input ≡ c.in_ok-count.count = e.end c.if-count-into.true input known_input in
    let d = drained _ _ _ _ _ e.fits e.octets known_input size in
    (omega arith, d.0, d.1)

pub returns-then-count-into-clause-counts : goal.returns-then-count-into-clause-counts
returns-then-count-into-clause-counts g c =
    let less : c.in_ok-count.count < length c.args.into.now = omega (arith, c.if-count-into.true, c.in_ok-count.ensures.len) in
    part_cut _ _ _ _ less c.in_ok-count.ensures.counts

pub returns-in_err-count-clause-answer : goal.returns-in_err-count-clause-answer
returns-in_err-count-clause-answer g c = λ input known_input.
    let e = c.in_err-count.ensures in
    front_stopped {T = Unit {0}} (λ _. c.fill.new.into) _ _ _ _ c.from_residual.ensures.1 (stopped _ _ _ _ _ e.fits e.err known_input e.len)

pub returns-in_err-count-clause-memory : goal.returns-in_err-count-clause-memory
returns-in_err-count-clause-memory g c = not_memory _ c.from_residual.ensures.1

pub returns-in_err-count-clause-counts : goal.returns-in_err-count-clause-counts
returns-in_err-count-clause-counts g c = part_failed _ _ _ _ _ c.from_residual.ensures.1 c.in_err-count.ensures.counts

pub returns-clause-answer : goal.returns-clause-answer
returns-clause-answer g c = λ input known_input.
    let e = c.in_ok-count.ensures in
    filled _ _ _ _ _ _ e.fits e.octets known_input (omega (arith, e.len, e.bound, c.if-count-into.false)) e.len

pub returns-clause-counts : goal.returns-clause-counts
returns-clause-counts g c =
    let full : length c.args.into.now ≤ c.in_ok-count.count = omega (arith, c.if-count-into.false, c.in_ok-count.ensures.len) in
    part_full _ _ _ _ _ full c.in_ok-count.ensures.counts
