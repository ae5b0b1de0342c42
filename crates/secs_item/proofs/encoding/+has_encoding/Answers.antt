use Rattle.std.proofs.Common.{◌≡◌, ◌*◌, ◌<◌, ◌^◌, true, false, refl, sym, ap, ◌∙◌, arith, rules}
use Rattle.std.specs.Prelude.{is_some}
use Rattle.secs_item.specs.declared.item.Item.{the_lemmas}
use Rattle.secs_item.specs.Format.{is_list, value_size}
use Rattle.secs_item.specs.Item.{count, count_of, format_of, list, view}
use Rattle.secs_item.specs.InnerItem.{views}
use Rattle.secs_item.specs.ShortestEncoding.{short, short_elements}
use Rattle.secs_item.proofs.Views.{view-List}
use Rattle.secs_item.proofs.ShortestEncodings.{too_large, values_some, list_not, list_some, next_not, next_some, none_left, says_no, says_yes, not_true, said_no}
use Rattle.secs_item.proofs.encoding.+has_encoding.Goals as goal

pub returns-then-length-gt-MAX_LENGTH : goal.returns-then-length-gt-MAX_LENGTH
returns-then-length-gt-MAX_LENGTH t c =
    let v = view c.args.item.now in
    let number : c.size.result * c.count.result ≡ value_size (format_of v) * count_of v = rw (c.size.ensures.value, c.format.ensures, c.count.ensures) refl in
    says_no (is_some (short v)) (too_large v (omega (arith, number)))

pub returns-in_default : goal.returns-in_default
returns-in_default t c =
    let v = view c.args.item.now in
    let other : is_list (format_of v) ≡ false = search (rules, the_lemmas, c.in_default.not-List) in
    let number : c.size.result * c.count.result ≡ value_size (format_of v) * count_of v = rw (c.size.ensures.value, c.format.ensures, c.count.ensures) refl in
    says_yes (is_some (short v)) (values_some v other (omega (arith, number)))

pub returns-then-not-has_encoding : goal.returns-then-not-has_encoding
returns-then-not-has_encoding t c =
    let items = c.deref-element-items.result.now in
    let view_is : view c.args.item.now ≡ list (views items) = ap view c.in-List.is ∙ view-List c.in-List.elements ∙ ap (λ xs. list (views xs)) (sym c.deref-element-items.ensures.value) in
    let refused : is_some (short (view c.element-item.result)) ≡ false = not_true _ (λ some. said_no c.has_encoding.result c.if-not-has_encoding.true (c.has_encoding.ensures.1 some)) in
    let none : is_some (short_elements (views items)) ≡ false = sym c.loop-element.invariant ∙ next_not items c.loop-element.element-index c.element-item.result c.loop-element-test.true c.element-item.is refused in
    says_no (is_some (short (view c.args.item.now))) (ap (λ v. is_some (short v)) view_is ∙ list_not (views items) none)

pub returns : goal.returns
returns t c =
    let items = c.deref-element-items.result.now in
    let view_is : view c.args.item.now ≡ list (views items) = ap view c.in-List.is ∙ view-List c.in-List.elements ∙ ap (λ xs. list (views xs)) (sym c.deref-element-items.ensures.value) in
    let all : is_some (short_elements (views items)) ≡ true = sym c.loop-element.invariant ∙ ap is_some (none_left items c.loop-element.element-index c.loop-element-test.false) in
    let number : c.size.result * c.count.result ≡ 1 * count (views items) = rw (c.size.ensures.value, c.format.ensures, c.count.ensures) (ap (λ v. value_size (format_of v) * count_of v) view_is) in
    let few : count (views items) < 256 ^ 3 = omega (arith, number) in
    says_yes (is_some (short (view c.args.item.now))) (ap (λ v. is_some (short v)) view_is ∙ list_some (views items) few all)

pub loop-element-preserved : goal.loop-element-preserved
loop-element-preserved t c =
    let items = c.deref-element-items.result.now in
    next_some items c.loop-element.element-index c.element-item.result c.loop-element-test.true c.element-item.is (c.has_encoding.ensures.0 c.if-not-has_encoding.false) ∙ c.loop-element.invariant
