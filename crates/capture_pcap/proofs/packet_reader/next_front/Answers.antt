use Rattle.std.proofs.Common.{Ok, length, ap, arith, ◌∙◌}
use Rattle.std.proofs.lemmas.Result.{err_from_is_err_and}
use Rattle.capture_pcap.specs.declared.next_block.Front.{Front}
use Rattle.capture_pcap.proofs.BlockSteps.{all_read, device_ends, device_finds, device_reads, ends_read, more_stays, open_short, reported_finds}
use Rattle.capture_pcap.proofs.packet_reader.next_front.Goals as goal

pub read_more-requires : goal.read_more-requires
read_more-requires g c =
    open_short c.args.reader.now c.loop-found.ahead c.loop-found.found c.is_to_be_read.result c.loop-found.invariant.1 c.is_to_be_read.ensures c.loop-found-test.true

pub returns-in_err-read_more-clause-read : goal.returns-in_err-read_more-clause-read
returns-in_err-read_more-clause-read g c = λ input known_input.
    let p = err_from_is_err_and c.from_residual.result c.from_residual.ensures.1 in
    let left = (g.R.Source.state c.loop-found.source).left in
    let new = (g.R.Source.state c.read_more.new.source).left in
    rw (p.1, p.2) (device_reads Front c.in_err-read_more.field-0.0 c.args.ahead.now c.read_more.new.ahead input new c.in_err-read_more.ensures.stop
    (more_stays c.args.ahead.now c.loop-found.ahead c.read_more.new.ahead input left new (c.loop-found.invariant.0 input known_input) c.in_err-read_more.ensures.kept c.in_err-read_more.ensures.err))

pub returns-in_err-read_more-clause-found : goal.returns-in_err-read_more-clause-found
returns-in_err-read_more-clause-found g c =
    let p = err_from_is_err_and c.from_residual.result c.from_residual.ensures.1 in
    rw (p.1, p.2) (device_finds c.args.reader.now c.read_more.new.ahead c.in_err-read_more.field-0.0 c.in_err-read_more.ensures.stop)

pub returns-in_err-read_more-clause-bound : goal.returns-in_err-read_more-clause-bound
returns-in_err-read_more-clause-bound g c =
    let same = ap length c.in_err-read_more.ensures.kept in
    let bound = c.loop-found.invariant.4 in
    omega (arith, same, bound)

pub returns-in_err-read_more-clause-ends : goal.returns-in_err-read_more-clause-ends
returns-in_err-read_more-clause-ends g c =
    let p = err_from_is_err_and c.from_residual.result c.from_residual.ensures.1 in
    rw (p.1, p.2) (c.in_err-read_more.ensures.ends ∙ c.loop-found.invariant.2
    ∙ device_ends Front c.in_err-read_more.field-0.0 (g.R.Source.state c.args.source.now).ends c.in_err-read_more.ensures.stop)

pub returns-then-not-branch-clause-read : goal.returns-then-not-branch-clause-read
returns-then-not-branch-clause-read g c = λ input known_input.
    let none = c.in_ok-read_more.ensures.none (ap Ok c.if-not-branch.true) in
    let left = (g.R.Source.state c.loop-found.source).left in
    let new = (g.R.Source.state c.read_more.new.source).left in
    ends_read c.as_slice-then-not-branch.result.now c.args.ahead.now c.read_more.new.ahead input c.at_end.result new c.at_end.ensures
    (all_read c.args.ahead.now c.loop-found.ahead c.read_more.new.ahead input left new (c.loop-found.invariant.0 input known_input) none.0 none.1 c.in_ok-read_more.ensures.ok)

pub loop-found-smaller : goal.loop-found-smaller
loop-found-smaller g c =
    let short = open_short c.args.reader.now c.loop-found.ahead c.loop-found.found c.is_to_be_read.result c.loop-found.invariant.1 c.is_to_be_read.ensures c.loop-found-test.true in
    let longer = c.in_ok-read_more.ensures.more (ap Ok c.if-not-branch.false) in
    omega (arith, longer, short)

pub returns-clause-found : goal.returns-clause-found
returns-clause-found g c =
    reported_finds c.args.reader.now c.loop-found.ahead c.place.result c.loop-found.found c.reported_front.result c.is_to_be_read.result c.loop-found.invariant.1
    c.is_to_be_read.ensures c.loop-found-test.false c.place.ensures c.reported_front.ensures
