use Rattle.std.proofs.Common.{arith, ◌≡◌, ◌<◌, ℕ, List, length, subst, ap, ◌∙◌}
use Rattle.std.specs.Int.{w32, from_be_bytes}
use Rattle.std.proofs.lemmas.List.{nil_from_length}
use Rattle.hsms_frame.specs.Frame.{IsOctets}
use Rattle.hsms_frame.proofs.Buffers.{drained, filled, length_stopped, stopped}
use Rattle.hsms_frame.proofs.Counted.{whole_cut, whole_failed, whole_full, whole_missing}
use Rattle.hsms_frame.proofs.read.read_length.Goals as goal

pub returns-then-count-eq0-clause-answer : goal.returns-then-count-eq0-clause-answer
returns-then-count-eq0-clause-answer g c = λ input known_input.
    let e = c.in_ok-count.ensures in
    let size : length input ≡ c.in_ok-count.count = e.end (omega (arith, e.len)) input known_input in
    let d = drained _ _ _ _ _ e.fits e.octets known_input size in
    (nil_from_length input (omega arith), d.1)

pub returns-then-count-lt4-clause-answer : goal.returns-then-count-lt4-clause-answer
returns-then-count-lt4-clause-answer g c = λ input known_input.
    let e = c.in_ok-count.ensures in
    let size : length input ≡ c.in_ok-count.count = e.end (omega (arith, e.len)) input known_input in
    let d = drained _ _ _ _ _ e.fits e.octets known_input size in
    (omega arith, omega arith, d.0, d.1)

pub returns-clause-answer : goal.returns-clause-answer
returns-clause-answer g c = λ input known_input.
    let e = c.in_ok-count.ensures in
    let f = filled _ _ _ 4 _ _ e.fits e.octets known_input (omega (arith, e.len, e.bound)) e.len in
    let P : List ℕ → Type 0 = λ xs. IsOctets xs in
    (f.0, c.from_be_bytes.ensures ∙ ap (from_be_bytes w32) f.1, subst P f.1 e.fits, f.3)

pub returns-in_err-count-clause-answer : goal.returns-in_err-count-clause-answer
returns-in_err-count-clause-answer g c = λ input known_input.
    let e = c.in_err-count.ensures in
    length_stopped _ _ _ c.from_residual.ensures.1 (stopped _ _ _ _ _ e.fits e.err known_input e.len)

pub returns-in_err-count-clause-counts : goal.returns-in_err-count-clause-counts
returns-in_err-count-clause-counts g c = whole_failed _ _ _ _ _ c.from_residual.ensures.1 c.in_err-count.ensures.counts

pub returns-then-count-eq0-clause-counts : goal.returns-then-count-eq0-clause-counts
returns-then-count-eq0-clause-counts g c =
    let less : c.in_ok-count.count < 4 = omega (arith, c.if-count-eq0.true) in
    whole_missing _ _ _ _ less c.in_ok-count.ensures.counts

pub returns-then-count-lt4-clause-counts : goal.returns-then-count-lt4-clause-counts
returns-then-count-lt4-clause-counts g c = whole_cut _ _ _ _ c.if-count-lt4.true c.in_ok-count.ensures.counts

pub returns-clause-counts : goal.returns-clause-counts
returns-clause-counts g c = whole_full _ _ _ _ _ c.if-count-lt4.false c.in_ok-count.ensures.counts
