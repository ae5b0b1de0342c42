use Rattle.std.proofs.Common.{◌≤◌, ◌+◌, ◌*◌}
use Rattle.secs_text.specs.InnerRemainingTokens.{left, octets_left}
use Rattle.secs_text.specs.InnerParseSteps.{count_seen}
use Rattle.secs_text.proofs.ParsingItems.{ListedSoFar}
use Rattle.secs_text.proofs.parsing.items.+parse_item.Given as goal

abbrev pub decreases-elements : goal.decreases-elements
decreases-elements l = 2 * l.depth + 1

abbrev pub decreases-item : goal.decreases-item
decreases-item l = 2 * l.depth

abbrev pub invariant-elements-loop-out : goal.invariant-elements-loop-out
invariant-elements-loop-out l = record {
  listed : ListedSoFar l.depth (count_seen l.count) (left l.initial.tokens) (left l.tokens) l.fits l.number l.fn.out.items l.out.items;
  no_longer : l.number + octets_left l.tokens ≤ octets_left l.initial.tokens;
}

abbrev pub decreases-elements-loop-out : goal.decreases-elements-loop-out
decreases-elements-loop-out l = octets_left l.tokens
