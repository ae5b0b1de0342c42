use Rattle.std.proofs.Common.{◌∙◌, ap, rules}
use Rattle.secs_text.specs.InnerRemainingTokens.{left}
use Rattle.secs_text.specs.InnerParseSteps.{count_seen}
use Rattle.secs_text.specs.InnerTokenView.{seen, then_tokens}
use Rattle.secs_text.proofs.ParsingValues.{none_collected, word_collected, quoted_collected, no_word, values_read}
use Rattle.secs_text.proofs.parsing.values.parse_values.Goals as goal

pub loop-word-init : goal.loop-word-init
loop-word-init c = record {
  collected = c.in_ok-parse_printed.ensures.collected (count_seen c.args.count) (left c.args.tokens.now) c.args.out.now.items
      (none_collected c.args.format (count_seen c.args.count) (left c.args.tokens.now) c.args.out.now.items c.requires.no_list);
  no_longer = c.parse_printed.ensures.no_longer;
}

pub loop-word-preserved-else-not-branch : goal.loop-word-preserved-else-not-branch
loop-word-preserved-else-not-branch c = record {
  collected = word_collected c.next-next.result.at c.in-Word.word.now (left c.next-next.new.self) c.push_value.new.out.items c.loop-word.invariant.collected
      (c.next-next.ensures.tokens ∙ ap (λ t. then_tokens (record { at = c.next-next.result.at; token = seen t }) (left c.next-next.new.self)) c.in-Word.is)
      c.in_ok-push_value-in-Word.field-0 c.if-not-branch.false c.in_ok-push_value-in-Word.ensures.octets (c.in_ok-push_value-in-Word.ensures.size c.if-not-branch.false);
  no_longer = search rules;
}

pub loop-word-preserved : goal.loop-word-preserved
loop-word-preserved c = record {
  collected = quoted_collected c.next-next.result.at c.in-Quoted.text.now (left c.next-next.new.self) c.extend_from_slice.new.self.items c.octets_known.ensures c.loop-word.invariant.collected
      (c.next-next.ensures.tokens ∙ ap (λ t. then_tokens (record { at = c.next-next.result.at; token = seen t }) (left c.next-next.new.self)) c.in-Quoted.is)
      c.in-Ascii.is c.in_ok-extend_from_slice-in-Quoted.ensures.items;
  no_longer = search rules;
}

pub returns-then-not-branch-clause-values : goal.returns-then-not-branch-clause-values
returns-then-not-branch-clause-values c =
    no_word c.next-next.result.at c.in-Word.word.now (left c.next-next.new.self) c.push_value.new.out.items c.loop-word.invariant.collected
    (c.next-next.ensures.tokens ∙ ap (λ t. then_tokens (record { at = c.next-next.result.at; token = seen t }) (left c.next-next.new.self)) c.in-Word.is)
    c.in_ok-push_value-in-Word.field-0 c.if-not-branch.true c.in_ok-push_value-in-Word.ensures.octets

pub returns-clause-values : goal.returns-clause-values
returns-clause-values c =
    values_read c.next-next.result.at _ (left c.next-next.new.self) c.check_count.result c.loop-word.invariant.collected
    (c.next-next.ensures.tokens ∙ ap (λ t. then_tokens (record { at = c.next-next.result.at; token = seen t }) (left c.next-next.new.self)) c.in-Greater.is)
    (search rules) (search rules) c.check_count.ensures
