use Rattle.std.proofs.Common.{◌≡◌, ◌∙◌, List, ℕ, false, length, sym, ap, subst, arith, rules}
use Rattle.secs_item.specs.declared.format.Format.TheVariants as format
use Rattle.secs_item.specs.declared.item.Item.{the_lemmas}
use Rattle.secs_item.specs.Format.{is_list}
use Rattle.secs_item.specs.Item.{format_of, list, view}
use Rattle.secs_item.specs.InnerItem.{views}
use Rattle.secs_item.specs.ShortestEncoding.{IsBodyOf}
use Rattle.secs_item.proofs.Views.{view-List}
use Rattle.secs_text.specs.InRange.{IsHeld}
use Rattle.secs_text.specs.InnerBlockOutput.{opening_of}
use Rattle.secs_text.proofs.PrintingLeaves.{leaf_held, leaf_puts, list_ends, list_continues, list_held}
use Rattle.secs_text.proofs.Views.{held_continues}
use Rattle.secs_text.proofs.printing.+put_tree.Goals as goal

pub returns-in_default-clause-puts : goal.returns-in_default-clause-puts
returns-in_default-clause-puts g t c =
    let v = view c.args.item.now in
    let other : is_list (format_of v) ≡ false = search (rules, the_lemmas, c.in_default.not-List) in
    leaf_puts v c.format.result c.deref.result.now other c.format.ensures
    (subst (λ (o : List ℕ). IsBodyOf v o) (sym c.deref.ensures.value) c.in_ok-octets.ensures) c.put_item_of_values.ensures

pub returns-in_default-clause-held : goal.returns-in_default-clause-held
returns-in_default-clause-held g t c =
    let v = view c.args.item.now in
    let other : is_list (format_of v) ≡ false = search (rules, the_lemmas, c.in_default.not-List) in
    leaf_held v c.in_ok-octets.octets.items other c.in_ok-octets.ensures (omega (arith, c.in_ok-octets.octets.ok))

pub loop-element-preserved : goal.loop-element-preserved
loop-element-preserved g t c =
    let items = c.deref-element-items.result.now in
    let i = c.loop-element.element-index in
    record {
      puts = list_continues items i c.element-item.result (opening_of format.List (length items)) c.loop-element-test.true c.element-item.is c.loop-element.invariant.puts c.in_ok-at.ensures.puts;
      held = held_continues items i c.element-item.result c.loop-element-test.true c.element-item.is c.loop-element.invariant.held c.in_ok-at.ensures.held;
    }

pub returns-clause-puts : goal.returns-clause-puts
returns-clause-puts g t c =
    let items = c.deref-element-items.result.now in
    let view_is : view c.args.item.now ≡ list (views items) = ap view c.in-List.is ∙ view-List c.in-List.elements ∙ ap (λ xs. list (views xs)) (sym c.deref-element-items.ensures.value) in
    rw view_is (list_ends items c.loop-element.element-index c.loop-element-test.false c.loop-element.invariant.puts c.put_end.ensures)

pub returns-clause-held : goal.returns-clause-held
returns-clause-held g t c =
    let items = c.deref-element-items.result.now in
    let view_is : view c.args.item.now ≡ list (views items) = ap view c.in-List.is ∙ view-List c.in-List.elements ∙ ap (λ xs. list (views xs)) (sym c.deref-element-items.ensures.value) in
    subst IsHeld (sym view_is) (list_held items c.loop-element.element-index c.loop-element-test.false (search rules) c.loop-element.invariant.held)
