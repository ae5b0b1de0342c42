use Rattle.std.proofs.Common.{ap, sym, ◌∙◌, arith}
use Rattle.std.specs.Cmp.{booleans_Decides}
use Rattle.std.proofs.lemmas.Bool.Decides.{Decides-eqb, Decides-int_eq}
use Rattle.secs_item.specs.Equality.{octets_Decides}
use Rattle.secs_item.specs.Item.{view, count, list, binary, boolean, ascii, char2, i1, i2, i4, i8, u1, u2, u4, u8, f4, f8}
use Rattle.secs_item.specs.InnerItem.{views}
use Rattle.secs_item.specs.declared.item.Item.{List as item_list, Binary as item_binary, Boolean as item_boolean, Ascii as item_ascii, Char2 as item_char2, I1 as item_i1, I2 as item_i2, I4 as item_i4, I8 as item_i8, U1 as item_u1, U2 as item_u2, U4 as item_u4, U8 as item_u8, F4 as item_f4, F8 as item_f8}
use Rattle.secs_item.proofs.Views.{view-List, view-Binary, view-Boolean, view-Ascii, view-Char2, view-I1, view-I2, view-I4, view-I8, view-U1, view-U2, view-U4, view-U8, view-F4, view-F8}
use Rattle.secs_item.proofs.Variants.{other_variant}
use Rattle.secs_item.proofs.Equals.{same_by, same_lists}
use Rattle.secs_item.proofs.ShortestEncodings.{count-views}
use Rattle.secs_item.proofs.item.+same.Goals as goal

pub same_item-returns-in-List-other : goal.same_item-returns-in-List-other
same_item-returns-in-List-other t c =
    same_lists c.deref.result.now c.deref-in-List-other.result.now (view c.args.item.now) (view c.args.other.now) _
    (ap view c.in-List.is ∙ view-List c.in-List.elements ∙ ap (λ items. list (views items)) (sym c.deref.ensures.value))
    (ap view c.in-List-other.is ∙ view-List c.in-List-other.others ∙ ap (λ items. list (views items)) (sym c.deref-in-List-other.ensures.value)) c.same_items.ensures

pub same_item-returns-in_default : goal.same_item-returns-in_default
same_item-returns-in_default t c = other_variant item_list _ _ _ (λ p. p) (ap view c.in-List.is ∙ view-List c.in-List.elements) c.in_default.not-List

pub same_item-returns-in-Binary-other : goal.same_item-returns-in-Binary-other
same_item-returns-in-Binary-other t c =
    same_by binary (λ xs ys e. cc) Decides-eqb c.in-Binary.values.items c.in-Binary-other.others.items (view c.args.item.now) (view c.args.other.now) _
    (ap view c.in-Binary.is ∙ view-Binary c.in-Binary.values) (ap view c.in-Binary-other.is ∙ view-Binary c.in-Binary-other.others) c.eq.ensures

pub same_item-returns-in_default-other : goal.same_item-returns-in_default-other
same_item-returns-in_default-other t c = other_variant item_binary _ _ _ (λ p. p) (ap view c.in-Binary.is ∙ view-Binary c.in-Binary.values) c.in_default-other.not-Binary

pub same_item-returns-in-Boolean-other : goal.same_item-returns-in-Boolean-other
same_item-returns-in-Boolean-other t c =
    same_by boolean (λ xs ys e. cc) booleans_Decides c.in-Boolean.values.items c.in-Boolean-other.others.items (view c.args.item.now) (view c.args.other.now) _
    (ap view c.in-Boolean.is ∙ view-Boolean c.in-Boolean.values) (ap view c.in-Boolean-other.is ∙ view-Boolean c.in-Boolean-other.others) c.eq-in-Boolean-other.ensures

pub same_item-returns-in_default-other-2 : goal.same_item-returns-in_default-other-2
same_item-returns-in_default-other-2 t c = other_variant item_boolean _ _ _ (λ p. p) (ap view c.in-Boolean.is ∙ view-Boolean c.in-Boolean.values) c.in_default-other-2.not-Boolean

pub same_item-returns-in-Ascii-other : goal.same_item-returns-in-Ascii-other
same_item-returns-in-Ascii-other t c =
    same_by ascii (λ xs ys e. cc) Decides-eqb c.in-Ascii.values.items c.in-Ascii-other.others.items (view c.args.item.now) (view c.args.other.now) _
    (ap view c.in-Ascii.is ∙ view-Ascii c.in-Ascii.values) (ap view c.in-Ascii-other.is ∙ view-Ascii c.in-Ascii-other.others) c.eq-in-Ascii-other.ensures

pub same_item-returns-in_default-other-3 : goal.same_item-returns-in_default-other-3
same_item-returns-in_default-other-3 t c = other_variant item_ascii _ _ _ (λ p. p) (ap view c.in-Ascii.is ∙ view-Ascii c.in-Ascii.values) c.in_default-other-3.not-Ascii

pub same_item-returns-in-Char2-other : goal.same_item-returns-in-Char2-other
same_item-returns-in-Char2-other t c =
    same_by char2 (λ xs ys e. cc) Decides-eqb c.in-Char2.values.items c.in-Char2-other.others.items (view c.args.item.now) (view c.args.other.now) _
    (ap view c.in-Char2.is ∙ view-Char2 c.in-Char2.values) (ap view c.in-Char2-other.is ∙ view-Char2 c.in-Char2-other.others) c.eq-in-Char2-other.ensures

pub same_item-returns-in_default-other-5 : goal.same_item-returns-in_default-other-5
same_item-returns-in_default-other-5 t c = other_variant item_char2 _ _ _ (λ p. p) (ap view c.in-Char2.is ∙ view-Char2 c.in-Char2.values) c.in_default-other-5.not-Char2

pub same_item-returns-in-I1-other : goal.same_item-returns-in-I1-other
same_item-returns-in-I1-other t c =
    same_by i1 (λ xs ys e. cc) Decides-int_eq c.in-I1.values.items c.in-I1-other.others.items (view c.args.item.now) (view c.args.other.now) _
    (ap view c.in-I1.is ∙ view-I1 c.in-I1.values) (ap view c.in-I1-other.is ∙ view-I1 c.in-I1-other.others) c.eq-in-I1-other.ensures

pub same_item-returns-in_default-other-6 : goal.same_item-returns-in_default-other-6
same_item-returns-in_default-other-6 t c = other_variant item_i1 _ _ _ (λ p. p) (ap view c.in-I1.is ∙ view-I1 c.in-I1.values) c.in_default-other-6.not-I1

pub same_item-returns-in-I2-other : goal.same_item-returns-in-I2-other
same_item-returns-in-I2-other t c =
    same_by i2 (λ xs ys e. cc) Decides-int_eq c.in-I2.values.items c.in-I2-other.others.items (view c.args.item.now) (view c.args.other.now) _
    (ap view c.in-I2.is ∙ view-I2 c.in-I2.values) (ap view c.in-I2-other.is ∙ view-I2 c.in-I2-other.others) c.eq-in-I2-other.ensures

pub same_item-returns-in_default-other-7 : goal.same_item-returns-in_default-other-7
same_item-returns-in_default-other-7 t c = other_variant item_i2 _ _ _ (λ p. p) (ap view c.in-I2.is ∙ view-I2 c.in-I2.values) c.in_default-other-7.not-I2

pub same_item-returns-in-I4-other : goal.same_item-returns-in-I4-other
same_item-returns-in-I4-other t c =
    same_by i4 (λ xs ys e. cc) Decides-int_eq c.in-I4.values.items c.in-I4-other.others.items (view c.args.item.now) (view c.args.other.now) _
    (ap view c.in-I4.is ∙ view-I4 c.in-I4.values) (ap view c.in-I4-other.is ∙ view-I4 c.in-I4-other.others) c.eq-in-I4-other.ensures

pub same_item-returns-in_default-other-8 : goal.same_item-returns-in_default-other-8
same_item-returns-in_default-other-8 t c = other_variant item_i4 _ _ _ (λ p. p) (ap view c.in-I4.is ∙ view-I4 c.in-I4.values) c.in_default-other-8.not-I4

pub same_item-returns-in-I8-other : goal.same_item-returns-in-I8-other
same_item-returns-in-I8-other t c =
    same_by i8 (λ xs ys e. cc) Decides-int_eq c.in-I8.values.items c.in-I8-other.others.items (view c.args.item.now) (view c.args.other.now) _
    (ap view c.in-I8.is ∙ view-I8 c.in-I8.values) (ap view c.in-I8-other.is ∙ view-I8 c.in-I8-other.others) c.eq-in-I8-other.ensures

pub same_item-returns-in_default-other-9 : goal.same_item-returns-in_default-other-9
same_item-returns-in_default-other-9 t c = other_variant item_i8 _ _ _ (λ p. p) (ap view c.in-I8.is ∙ view-I8 c.in-I8.values) c.in_default-other-9.not-I8

pub same_item-returns-in-U1-other : goal.same_item-returns-in-U1-other
same_item-returns-in-U1-other t c =
    same_by u1 (λ xs ys e. cc) Decides-eqb c.in-U1.values.items c.in-U1-other.others.items (view c.args.item.now) (view c.args.other.now) _
    (ap view c.in-U1.is ∙ view-U1 c.in-U1.values) (ap view c.in-U1-other.is ∙ view-U1 c.in-U1-other.others) c.eq-in-U1-other.ensures

pub same_item-returns-in_default-other-10 : goal.same_item-returns-in_default-other-10
same_item-returns-in_default-other-10 t c = other_variant item_u1 _ _ _ (λ p. p) (ap view c.in-U1.is ∙ view-U1 c.in-U1.values) c.in_default-other-10.not-U1

pub same_item-returns-in-U2-other : goal.same_item-returns-in-U2-other
same_item-returns-in-U2-other t c =
    same_by u2 (λ xs ys e. cc) Decides-eqb c.in-U2.values.items c.in-U2-other.others.items (view c.args.item.now) (view c.args.other.now) _
    (ap view c.in-U2.is ∙ view-U2 c.in-U2.values) (ap view c.in-U2-other.is ∙ view-U2 c.in-U2-other.others) c.eq-in-U2-other.ensures

pub same_item-returns-in_default-other-11 : goal.same_item-returns-in_default-other-11
same_item-returns-in_default-other-11 t c = other_variant item_u2 _ _ _ (λ p. p) (ap view c.in-U2.is ∙ view-U2 c.in-U2.values) c.in_default-other-11.not-U2

pub same_item-returns-in-U4-other : goal.same_item-returns-in-U4-other
same_item-returns-in-U4-other t c =
    same_by u4 (λ xs ys e. cc) Decides-eqb c.in-U4.values.items c.in-U4-other.others.items (view c.args.item.now) (view c.args.other.now) _
    (ap view c.in-U4.is ∙ view-U4 c.in-U4.values) (ap view c.in-U4-other.is ∙ view-U4 c.in-U4-other.others) c.eq-in-U4-other.ensures

pub same_item-returns-in_default-other-12 : goal.same_item-returns-in_default-other-12
same_item-returns-in_default-other-12 t c = other_variant item_u4 _ _ _ (λ p. p) (ap view c.in-U4.is ∙ view-U4 c.in-U4.values) c.in_default-other-12.not-U4

pub same_item-returns-in-U8-other : goal.same_item-returns-in-U8-other
same_item-returns-in-U8-other t c =
    same_by u8 (λ xs ys e. cc) Decides-eqb c.in-U8.values.items c.in-U8-other.others.items (view c.args.item.now) (view c.args.other.now) _
    (ap view c.in-U8.is ∙ view-U8 c.in-U8.values) (ap view c.in-U8-other.is ∙ view-U8 c.in-U8-other.others) c.eq-in-U8-other.ensures

pub same_item-returns-in_default-other-13 : goal.same_item-returns-in_default-other-13
same_item-returns-in_default-other-13 t c = other_variant item_u8 _ _ _ (λ p. p) (ap view c.in-U8.is ∙ view-U8 c.in-U8.values) c.in_default-other-13.not-U8

pub same_item-returns-in-F4-other : goal.same_item-returns-in-F4-other
same_item-returns-in-F4-other t c =
    same_by f4 (λ xs ys e. cc) octets_Decides c.in-F4.values.items c.in-F4-other.others.items (view c.args.item.now) (view c.args.other.now) _
    (ap view c.in-F4.is ∙ view-F4 c.in-F4.values) (ap view c.in-F4-other.is ∙ view-F4 c.in-F4-other.others) c.eq-in-F4-other.ensures

pub same_item-returns-in_default-other-14 : goal.same_item-returns-in_default-other-14
same_item-returns-in_default-other-14 t c = other_variant item_f4 _ _ _ (λ p. p) (ap view c.in-F4.is ∙ view-F4 c.in-F4.values) c.in_default-other-14.not-F4

pub same_item-returns-in-F8-other : goal.same_item-returns-in-F8-other
same_item-returns-in-F8-other t c =
    same_by f8 (λ xs ys e. cc) octets_Decides c.in-F8.values.items c.in-F8-other.others.items (view c.args.item.now) (view c.args.other.now) _
    (ap view c.in-F8.is ∙ view-F8 c.in-F8.values) (ap view c.in-F8-other.is ∙ view-F8 c.in-F8-other.others) c.eq-in-F8-other.ensures

pub same_item-returns-in_default-other-15 : goal.same_item-returns-in_default-other-15
same_item-returns-in_default-other-15 t c = other_variant item_f8 _ _ _ (λ p. p) (ap view c.in-F8.is ∙ view-F8 c.in-F8.values) c.in_default-other-15.not-F8

pub same_items-returns-then-items-others : goal.same_items-returns-then-items-others
same_items-returns-then-items-others t c =
    (λ h. absurd cc, λ e. absurd (omega (arith, count-views c.args.items.now, count-views c.args.others.now, ap count e)))
