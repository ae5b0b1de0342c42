use Rattle.std.proofs.Common.{◌≡◌, ℕ, ◌+◌, ◌-◌, ◌%◌, [], ◌∷◌, ◌++◌, true, false, map, length, take, drop, refl, sym, ap, ◌∙◌, rules, arith}
use Rattle.std.proofs.lemmas.List.{map_push, length-take, length-drop}
use Rattle.secs_item.specs.Format.{is_list, value_size}
use Rattle.secs_item.specs.Decoding.{values_of}
use Rattle.secs_item.specs.InnerDecoding.{item_at}
use Rattle.secs_item.specs.Item.{values, view}
use Rattle.secs_item.specs.InnerItem.{views}
use Rattle.secs_item.proofs.Building.{starts_building, next_measured, continues_building, ends_building}
use Rattle.secs_item.proofs.Lengths.{header_measured, elements_measured, list_is, values_are}
use Rattle.secs_item.proofs.Views.{view-List}
use Rattle.secs_item.proofs.decode.+build.Goals as goal

pub build_elements-loop-init : goal.build_elements-loop-init
build_elements-loop-init t c =
    rw c.in_ok-elements.ensures.items (starts_building (item_at c.args.depth) c.args.octets.now c.args.place c.args.count c.requires.within c.requires.measured)

pub build_elements-build_item-requires : goal.build_elements-build_item-requires
build_elements-build_item-requires t c =
    (search rules, (c.loop.invariant.within, next_measured (item_at c.args.depth) c.args.octets.now c.args.place c.args.count c.loop.counter c.loop.end (map view c.loop.elements.items) c.loop-test.true c.loop.invariant))

pub build_elements-loop-preserved : goal.build_elements-loop-preserved
build_elements-loop-preserved t c =
    let pushed : map view c.push.new.self.items ≡ map view c.loop.elements.items ++ view c.in_ok-element.element ∷ [] = rw c.in_ok-push.ensures.items (map_push view c.loop.elements.items c.in_ok-element.element) in
    rw pushed (continues_building c.args.depth c.args.octets.now c.args.place c.args.count c.loop.counter c.loop.end c.in_ok-element.after (map view c.loop.elements.items) (view c.in_ok-element.element) (λ i. omega (arith, c.type_inv.octets i)) c.loop-test.true c.loop.invariant c.in_ok-element.ensures)

pub build_elements-returns : goal.build_elements-returns
build_elements-returns t c = ends_building (item_at c.args.depth) c.args.octets.now c.args.place c.args.count c.loop.counter c.loop.end (map view c.loop.elements.items) c.loop-test.false c.loop.invariant

pub build_item-unreachable-requires : goal.build_item-unreachable-requires
build_item-unreachable-requires t c =
    header_measured c.args.place c.args.depth c.args.octets.now c.in_default.field-0 (sym c.in_default.is ∙ c.read_header.ensures.read) c.requires.measured

pub build_item-build_elements-requires : goal.build_item-build_elements-requires
build_item-build_elements-requires t c =
    let h = c.in-Ok.head in
    let lists : is_list h.format ≡ true = rw c.in-List.is refl in
    (search rules, (c.in-Ok.ensures.header, elements_measured c.args.place c.args.depth c.args.octets.now h c.in-Ok.ensures.read lists (c.in-Ok.ensures.list lists) c.requires.measured))

pub build_item-item_of_values-requires-clause-whole : goal.build_item-item_of_values-requires-clause-whole
build_item-item_of_values-requires-clause-whole t c =
    let h = c.in-Ok.head in
    let octets = c.args.octets.now in
    let lists : is_list h.format ≡ false = search rules in
    let len : length (take ((h.body + h.length) - h.body) (drop h.body octets)) ≡ h.length = omega (arith, length-take ((h.body + h.length) - h.body) (drop h.body octets), length-drop h.body octets, c.in-Ok.ensures.values lists) in
    ap (λ (n : ℕ). n % value_size h.format) len ∙ c.in-Ok.ensures.whole lists

pub build_item-returns-in_ok-elements-in-List : goal.build_item-returns-in_ok-elements-in-List
build_item-returns-in_ok-elements-in-List t c =
    let h = c.in-Ok.head in
    let lists : is_list h.format ≡ true = rw c.in-List.is refl in
    rw (view-List c.in_ok-elements-in-List.elements) (list_is c.args.place c.args.depth c.args.octets.now h (views c.in_ok-elements-in-List.elements.items) c.in_ok-elements-in-List.end c.in-Ok.ensures.read lists (c.in-Ok.ensures.list lists) c.in_ok-elements-in-List.ensures)

pub build_item-returns-in_ok-item-in_default-format : goal.build_item-returns-in_ok-item-in_default-format
build_item-returns-in_ok-item-in_default-format t c =
    let h = c.in-Ok.head in
    let lists : is_list h.format ≡ false = search rules in
    let len : (h.body + h.length) - h.body ≡ h.length = omega arith in
    let item : view c.in_ok-item-in_default-format.item ≡ values (values_of h.format (take h.length (drop h.body c.args.octets.now))) = c.in_ok-item-in_default-format.ensures ∙ ap (λ (n : ℕ). values (values_of h.format (take n (drop h.body c.args.octets.now)))) len in
    rw item (values_are c.args.place c.args.depth c.args.octets.now h c.in-Ok.ensures.read lists)
