use Rattle.std.proofs.Common.{◌≤◌}
use Rattle.secs_text.specs.InnerRemainingTokens.{left, octets_left}
use Rattle.secs_text.specs.InnerParseSteps.{count_seen}
use Rattle.secs_text.specs.InnerEncodedText.{Collected}
use Rattle.secs_text.proofs.parsing.values.parse_values.Given as goal

abbrev pub invariant-loop-word : goal.invariant-loop-word
invariant-loop-word l = record {
  collected : Collected l.format (count_seen l.count) (left l.fn.tokens) (left l.tokens) l.fn.out.items l.out.items;
  no_longer : octets_left l.tokens ≤ octets_left l.fn.tokens;
}

abbrev pub decreases-loop-word : goal.decreases-loop-word
decreases-loop-word l = octets_left l.tokens
