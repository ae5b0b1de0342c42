use Rattle.std.proofs.Common.{arith}
use Rattle.cli_show.proofs.LineEnds.{is_line, too_far}
use Rattle.cli_show.proofs.hex_lines.end_in.Goals as goal

pub returns-then-place-max-clause-end : goal.returns-then-place-max-clause-end
returns-then-place-max-clause-end c = λ before.
    too_far c.args.max c.place_of_feed-place.result c.args.octets.now c.if-place-max.true c.place_of_feed-place.ensures.within (c.place_of_feed-place.ensures.none before)

pub returns-else-place-octets-clause-end : goal.returns-else-place-octets-clause-end
returns-else-place-octets-clause-end c = λ before.
    is_line c.args.max c.place_of_feed-place.result c.args.octets.now (omega (arith, c.if-place-max.false)) c.place_of_feed-place.ensures.within
    (omega (arith, c.if-place-octets.false)) (c.place_of_feed-place.ensures.none before)
