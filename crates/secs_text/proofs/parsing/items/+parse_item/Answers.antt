use Rattle.std.proofs.Common.{◌∙◌, ap, arith, rules}
use Rattle.secs_text.specs.InnerRemainingTokens.{left}
use Rattle.secs_text.specs.InnerParseSteps.{count_seen}
use Rattle.secs_text.specs.InnerTokenView.{seen, then_tokens}
use Rattle.secs_text.proofs.ParsingItems.{none_listed, element_listed, list_unfit, list_patched, two_kept, item_patched}
use Rattle.secs_text.proofs.parsing.items.+parse_item.Goals as goal

pub elements-loop-out-init : goal.elements-loop-out-init
elements-loop-out-init t c = record {
  listed = none_listed c.args.depth (count_seen c.args.count) (left c.args.tokens.now) c.args.out.now.items c.extend_from_slice.new.self.items c.in_ok-extend_from_slice.ensures.items;
  no_longer = search rules;
}

pub elements-loop-out-preserved : goal.elements-loop-out-preserved
elements-loop-out-preserved t c = record {
  listed = element_listed c.next-next.result.at (left c.next-next.new.self) (left c.item.new.tokens) c.in_ok-fits-in-Less.field-0 c.item.new.out.items
      c.loop-out.invariant.listed
      (c.next-next.ensures.tokens ∙ ap (λ u. then_tokens (record { at = c.next-next.result.at; token = seen u }) (left c.next-next.new.self)) c.in-Less.is)
      c.in_ok-fits-in-Less.ensures.reads;
  no_longer = search rules;
}

pub elements-returns-then-not-fits-clause-reads : goal.elements-returns-then-not-fits-clause-reads
elements-returns-then-not-fits-clause-reads t c =
    list_unfit c.next-next.result.at (left c.next-next.new.self) c.loop-out.invariant.listed
    (c.next-next.ensures.tokens ∙ ap (λ u. then_tokens (record { at = c.next-next.result.at; token = seen u }) (left c.next-next.new.self)) c.in-Greater.is)
    c.loop-out.out.items c.if-not-fits.true c.in_ok-check_count.ensures

pub elements-returns-clause-reads : goal.elements-returns-clause-reads
elements-returns-clause-reads t c =
    list_patched c.next-next.result.at (left c.next-next.new.self) c.loop-out.invariant.listed
    (c.next-next.ensures.tokens ∙ ap (λ u. then_tokens (record { at = c.next-next.result.at; token = seen u }) (left c.next-next.new.self)) c.in-Greater.is)
    c.in_ok-patch_header.field-0 c.len-start.result c.patch_header.new.out.items c.if-not-fits.false c.in_ok-check_count.ensures (search rules) (record { holds = c.in_ok-patch_header.ensures.fits; octets = c.in_ok-patch_header.ensures.octets })

pub item-overflow_sub-number : goal.item-overflow_sub-number
item-overflow_sub-number t c =
    let kept = two_kept c.args.out.now.items c.extend_from_slice.new.self.items c.parse_values.new.out.items c.len-start.result c.in_ok-parse_values.ensures.values c.in_ok-extend_from_slice.ensures.items (search rules) in
    omega (arith, c.len.ensures, c.parse_values.new.out.ok)

pub item-overflow_sub-number-in_default : goal.item-overflow_sub-number-in_default
item-overflow_sub-number-in_default t c =
    let kept = two_kept c.args.out.now.items c.extend_from_slice.new.self.items c.parse_values.new.out.items c.len-start.result c.in_ok-parse_values.ensures.values c.in_ok-extend_from_slice.ensures.items (search rules) in
    omega (arith, c.len.ensures, c.parse_values.new.out.ok)

pub item-patch_header-requires : goal.item-patch_header-requires
item-patch_header-requires t c =
    two_kept c.args.out.now.items c.extend_from_slice.new.self.items c.parse_values.new.out.items c.len-start.result c.in_ok-parse_values.ensures.values c.in_ok-extend_from_slice.ensures.items (search rules)

pub item-returns-in_default-clause-reads : goal.item-returns-in_default-clause-reads
item-returns-in_default-clause-reads t c =
    let item = item_patched c.args.out.now.items c.extend_from_slice.new.self.items c.parse_values.new.out.items c.patch_header.new.out.items c.in_ok-patch_header.field-0 c.len-start.result c.len.result
    c.in_ok-parse_values.ensures.values c.in_ok-extend_from_slice.ensures.items (search rules) (search rules) (record { holds = c.in_ok-patch_header.ensures.fits; octets = c.in_ok-patch_header.ensures.octets }) in
    record {
      value = item.value;
      leads = λ rules b deep. c.in_ok-format.ensures.reads rules b deep ∙ item.leads rules b tt;
      appends_bytes = item.appends_bytes;
    }
