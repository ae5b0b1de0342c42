use Rattle.std.proofs.Common.{◌≤◌}
use Rattle.secs_text.specs.InnerRemainingTokens.{left, octets_left}
use Rattle.secs_text.specs.InnerEncodedText.{CollectsMore}
use Rattle.secs_text.proofs.parsing.runs.parse_run.Given as goal

abbrev pub invariant-loop-octets : goal.invariant-loop-octets
invariant-loop-octets g l = record {
  collected : CollectsMore l.fn.format (left l.initial.tokens) (left l.tokens) l.initial.out.items l.out.items;
  no_longer : octets_left l.tokens ≤ octets_left l.initial.tokens;
}

abbrev pub decreases-loop-octets : goal.decreases-loop-octets
decreases-loop-octets g l = octets_left l.tokens
