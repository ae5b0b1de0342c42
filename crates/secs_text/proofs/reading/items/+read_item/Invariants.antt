use Rattle.std.proofs.Common.{◌≡◌, ◌≤◌, ◌+◌, ◌*◌, length}
use Rattle.secs_item.specs.Item.{list, no_elements}
use Rattle.secs_item.specs.InnerItem.{views}
use Rattle.secs_text.specs.InnerRemainingTokens.{left, octets_left}
use Rattle.secs_text.specs.ParserStates.{Rules, Before, walk, in_item}
use Rattle.secs_text.specs.InnerParseSteps.{count_seen}
use Rattle.secs_text.proofs.reading.items.+read_item.Given as goal

abbrev pub decreases-elements : goal.decreases-elements
decreases-elements l = 2 * l.depth + 1

abbrev pub decreases-item : goal.decreases-item
decreases-item l = 2 * l.depth

abbrev pub invariant-elements-loop-items : goal.invariant-elements-loop-items
invariant-elements-loop-items l = record {
  reads : (rules : Rules) (b : Before) → length b.lists + 1 + l.depth ≡ rules.depth → walk rules (in_item b (record { count = count_seen l.count; so_far = list no_elements })) (left l.initial.tokens) ≡ walk rules (in_item b (record { count = count_seen l.count; so_far = list (views l.items.items) })) (left l.tokens);
  no_longer : octets_left l.tokens ≤ octets_left l.initial.tokens;
}

abbrev pub decreases-elements-loop-items : goal.decreases-elements-loop-items
decreases-elements-loop-items l = octets_left l.tokens
