use Rattle.std.proofs.Common.{◌≡◌, ◌++◌, ◌*◌, true, false, drop, length, refl, sym, ap, ◌∙◌, subst, arith, rules}
use Rattle.std.proofs.lemmas.Result.{on_ok_weaker}
use Rattle.secs_item.specs.declared.item.Item.{the_lemmas}
use Rattle.std.specs.Prelude.{is_some}
use Rattle.secs_item.specs.Item.{list, view, InRange, ElementsInRange, format_of, count_of}
use Rattle.secs_item.specs.InnerItem.{views}
use Rattle.secs_item.specs.declared.format.Format.TheVariants as format
use Rattle.secs_item.specs.Format.{is_list, value_size}
use Rattle.secs_item.specs.Encoding.{header}
use Rattle.secs_item.specs.ShortestEncoding.{field_of, short}
use Rattle.secs_item.proofs.Views.{view-List, views_from, views_done}
use Rattle.secs_item.proofs.ShortestEncodings.{within, front_of, front_of_list, values_written, values_in_range, starts_writing, continues_writing, ends_writing}
use Rattle.secs_item.proofs.encoding.+push_item.Goals as goal

pub push_header-requires : goal.push_header-requires
push_header-requires t c =
    let v = view c.args.item.now in
    let number : c.size.result * c.count.result ≡ value_size (format_of v) * count_of v = rw (c.size.ensures.value, c.format-format.ensures, c.count.ensures) refl in
    omega (arith, within v c.requires, number)

pub loop-element-init : goal.loop-element-init
loop-element-init t c =
    let items = c.deref-element-items.result.now in
    let view_is : view c.args.item.now ≡ list (views items) = ap view c.in-List.is ∙ view-List c.in-List.elements ∙ ap (λ xs. list (views xs)) (sym c.deref-element-items.ensures.value) in
    let some : is_some (short (list (views items))) ≡ true = ap (λ v. is_some (short v)) (sym view_is) ∙ c.requires in
    let written : c.push_header.new.octets.items ≡ c.args.octets.now.items ++ front_of (view c.args.item.now) = search rules in
    let front = ap (λ v. c.args.octets.now.items ++ front_of v) view_is ∙ ap (λ front. c.args.octets.now.items ++ front) (front_of_list items) in
    record {
      written = rw (written, front) (starts_writing items _ some);
      in_range = λ rest. rest;
    }

pub loop-element-preserved : goal.loop-element-preserved
loop-element-preserved t c =
    let items = c.deref-element-items.result.now in
    record {
      written = continues_writing items c.loop-element.element-index (c.args.octets.now.items ++ header format.List (field_of (length items)) (length items)) c.loop-element.octets.items c.push_item.new.octets.items c.element-item.result c.loop-element-test.true c.element-item.is c.loop-element.invariant.written c.in_ok-push_item.ensures.octets;
      in_range = λ rest. c.loop-element.invariant.in_range (subst ElementsInRange (sym (views_from items c.loop-element.element-index c.element-item.result c.loop-element-test.true c.element-item.is)) (c.in_ok-push_item.ensures.in_range, rest));
    }

pub returns-clause-octets : goal.returns-clause-octets
returns-clause-octets t c =
    let items = c.deref-element-items.result.now in
    let view_is : view c.args.item.now ≡ list (views items) = ap view c.in-List.is ∙ view-List c.in-List.elements ∙ ap (λ xs. list (views xs)) (sym c.deref-element-items.ensures.value) in
    let some : is_some (short (list (views items))) ≡ true = ap (λ v. is_some (short v)) (sym view_is) ∙ c.requires in
    rw view_is (ends_writing items c.loop-element.element-index c.args.octets.now.items c.loop-element.octets.items c.loop-element-test.false some c.loop-element.invariant.written)

pub returns-clause-in_range : goal.returns-clause-in_range
returns-clause-in_range t c =
    let items = c.deref-element-items.result.now in
    let view_is : view c.args.item.now ≡ list (views items) = ap view c.in-List.is ∙ view-List c.in-List.elements ∙ ap (λ xs. list (views xs)) (sym c.deref-element-items.ensures.value) in
    let none : ElementsInRange (views (drop c.loop-element.element-index items)) = subst ElementsInRange (sym (views_done items c.loop-element.element-index c.loop-element-test.false)) tt in
    subst InRange (sym view_is) (c.loop-element.invariant.in_range none)

pub returns-in_default-clause-octets : goal.returns-in_default-clause-octets
returns-in_default-clause-octets t c =
    let v = view c.args.item.now in
    let other : is_list (format_of v) ≡ false = search (rules, the_lemmas, c.in_default.not-List) in
    let headed : c.push_header.new.octets.items ≡ c.args.octets.now.items ++ front_of v = search rules in
    on_ok_weaker c.push_body.result (λ body. values_written v c.args.octets.now.items c.push_header.new.octets.items c.push_body.new.octets.items other c.requires headed body) c.push_body.ensures.octets

pub returns-in_default-clause-in_range : goal.returns-in_default-clause-in_range
returns-in_default-clause-in_range t c =
    let v = view c.args.item.now in
    let other : is_list (format_of v) ≡ false = search (rules, the_lemmas, c.in_default.not-List) in
    on_ok_weaker c.push_body.result (values_in_range v other) c.push_body.ensures.in_range
