use Rattle.std.proofs.Common.{◌∙◌, ◌%◌, ◌∷◌, List, ℕ, ap, sym, length, arith}
use Rattle.secs_item.specs.Format.{value_size}
use Rattle.secs_item.specs.Item.{list, values}
use Rattle.secs_item.specs.InnerItem.{views}
use Rattle.secs_item.specs.Decoding.{values_of}
use Rattle.secs_text.specs.InnerRemainingTokens.{left}
use Rattle.secs_text.specs.ParserStates.{Before, walk, in_item, closed}
use Rattle.secs_text.specs.InnerParseSteps.{count_seen}
use Rattle.secs_text.specs.InnerTokenView.{seen, then_tokens}
use Rattle.secs_text.proofs.ReadingValues.{collected_complete, collected_values}
use Rattle.secs_text.proofs.Views.{views_push}
use Rattle.secs_text.proofs.reading.items.+read_item.Goals as goal

pub elements-loop-items-preserved : goal.elements-loop-items-preserved
elements-loop-items-preserved t c =
    let count = count_seen c.args.count in
    let items = c.loop-items.items.items in
    record {
      reads = λ rules b deep.
          let inner : Before = record b { lists = record { count = count; so_far = list (views items) } ∷ b.lists } in
          c.loop-items.invariant.reads rules b deep
          ∙ ap (λ ps. walk rules (in_item b (record { count = count; so_far = list (views items) })) ps)
          (c.next-next.ensures.tokens ∙ ap (λ u. then_tokens (record { at = c.next-next.result.at; token = seen u }) (left c.next-next.new.self)) c.in-Less.is)
          ∙ c.in_ok-item-in-Less.ensures.reads rules inner (omega arith)
          ∙ ap (λ es. walk rules (in_item b (record { count = count; so_far = list es })) (left c.item.new.tokens))
          (sym (ap views c.in_ok-push-in-Less.ensures.items ∙ views_push items c.in_ok-item-in-Less.field-0));
      no_longer = omega arith;
    }

pub item-item_of_values-requires-clause-whole : goal.item-item_of_values-requires-clause-whole
item-item_of_values-requires-clause-whole t c =
    ap (λ (o : List ℕ). length o % value_size c.in_ok-format.format) c.deref.ensures.value
    ∙ collected_complete c.in_ok-parse_values.ensures.values c.new-body.ensures.items

pub item-returns-in_default-clause-reads : goal.item-returns-in_default-clause-reads
item-returns-in_default-clause-reads t c = λ rules b deep.
    let h = c.in_ok-parse_values.ensures.values in
    c.in_ok-format.ensures.reads rules b deep
    ∙ h.leads rules b
    ∙ ap (λ v. walk rules (closed b.lists b v) (left c.parse_values.new.tokens))
    (sym (c.in_ok-item_of_values.ensures ∙ ap (λ v. values v) (ap (λ (o : List ℕ). values_of c.in_ok-format.format o) c.deref.ensures.value ∙ collected_values h c.new-body.ensures.items)))
