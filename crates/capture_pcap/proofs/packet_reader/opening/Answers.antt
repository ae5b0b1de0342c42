use Rattle.std.proofs.Common.{ℕ, Ok, length, ap, arith, ◌∙◌}
use Rattle.std.proofs.lemmas.Result.{err_from_is_err_and}
use Rattle.capture_pcap.specs.declared.block_reader.Format.{Format}
use Rattle.capture_pcap.proofs.BlockSteps.{all_read, device_ends_open, device_finds_opening, device_opens, more_stays, opening_short, reported_opens}
use Rattle.capture_pcap.proofs.packet_reader.opening.Goals as goal

pub read_more-requires : goal.read_more-requires
read_more-requires g c =
    let short = opening_short c.loop-found.ahead c.loop-found.found c.is_to_be_opened.result c.loop-found.invariant.1 c.is_to_be_opened.ensures c.loop-found-test.true in
    omega (arith, short)

pub returns-in_err-read_more-clause-read : goal.returns-in_err-read_more-clause-read
returns-in_err-read_more-clause-read g c = λ input known_input.
    let p = err_from_is_err_and c.from_residual.result c.from_residual.ensures.1 in
    let left = (g.R.Source.state c.loop-found.source).left in
    let new = (g.R.Source.state c.read_more.new.source).left in
    rw (p.1, p.2) (device_opens (Format × ℕ) c.in_err-read_more.field-0.0 c.args.ahead.now c.read_more.new.ahead input new c.in_err-read_more.ensures.stop
    (more_stays c.args.ahead.now c.loop-found.ahead c.read_more.new.ahead input left new (c.loop-found.invariant.0 input known_input) c.in_err-read_more.ensures.kept c.in_err-read_more.ensures.err))

pub returns-in_err-read_more-clause-found : goal.returns-in_err-read_more-clause-found
returns-in_err-read_more-clause-found g c =
    let p = err_from_is_err_and c.from_residual.result c.from_residual.ensures.1 in
    rw (p.1, p.2) (device_finds_opening c.read_more.new.ahead c.in_err-read_more.field-0.0 c.in_err-read_more.ensures.stop)

pub returns-in_err-read_more-clause-ends : goal.returns-in_err-read_more-clause-ends
returns-in_err-read_more-clause-ends g c =
    let p = err_from_is_err_and c.from_residual.result c.from_residual.ensures.1 in
    rw (p.1, p.2) (c.in_err-read_more.ensures.ends ∙ c.loop-found.invariant.2
    ∙ device_ends_open (Format × ℕ) c.in_err-read_more.field-0.0 (g.R.Source.state c.args.source.now).ends c.in_err-read_more.ensures.stop)

pub returns-then-not-branch-clause-read : goal.returns-then-not-branch-clause-read
returns-then-not-branch-clause-read g c = λ input known_input.
    let none = c.in_ok-read_more.ensures.none (ap Ok c.if-not-branch.true) in
    let left = (g.R.Source.state c.loop-found.source).left in
    let new = (g.R.Source.state c.read_more.new.source).left in
    all_read c.args.ahead.now c.loop-found.ahead c.read_more.new.ahead input left new (c.loop-found.invariant.0 input known_input) none.0 none.1 c.in_ok-read_more.ensures.ok

pub loop-found-smaller : goal.loop-found-smaller
loop-found-smaller g c =
    let short = opening_short c.loop-found.ahead c.loop-found.found c.is_to_be_opened.result c.loop-found.invariant.1 c.is_to_be_opened.ensures c.loop-found-test.true in
    let longer = c.in_ok-read_more.ensures.more (ap Ok c.if-not-branch.false) in
    omega (arith, longer, short)

pub returns-clause-found : goal.returns-clause-found
returns-clause-found g c = reported_opens c.loop-found.ahead c.loop-found.found c.reported_opening.result c.loop-found.invariant.1 c.reported_opening.ensures

pub returns-in_err-read_more-clause-bound : goal.returns-in_err-read_more-clause-bound
returns-in_err-read_more-clause-bound g c =
    let same = ap length c.in_err-read_more.ensures.kept in
    let bound = c.loop-found.invariant.5 in
    omega (arith, same, bound)
