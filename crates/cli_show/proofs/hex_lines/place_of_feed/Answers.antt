use Rattle.cli_show.proofs.LineEnds.{none_at_all, none_up_to}
use Rattle.cli_show.proofs.hex_lines.place_of_feed.Goals as goal

pub returns-in-Some-clause-none : goal.returns-in-Some-clause-none
returns-in-Some-clause-none c = λ before. none_up_to _ c.args.seen c.in-Some.place (rw c.in-Some.is at c.memchr.ensures) before

pub returns-in-None-clause-none : goal.returns-in-None-clause-none
returns-in-None-clause-none c = λ before. none_at_all _ c.args.seen (rw c.in-None.is at c.memchr.ensures) before
