use Rattle.std.proofs.Common.{ap, sym, ◌∙◌}
use Rattle.secs_item.specs.Item.{values, binary, boolean, ascii, jis8, char2, i1, i2, i4, i8, u1, u2, u4, u8, f4, f8, view}
use Rattle.secs_item.specs.declared.item.Item.{Binary as item_binary, Boolean as item_boolean, Ascii as item_ascii, Jis8 as item_jis8, Char2 as item_char2, I1 as item_i1, I2 as item_i2, I4 as item_i4, I8 as item_i8, U1 as item_u1, U2 as item_u2, U4 as item_u4, U8 as item_u8, F4 as item_f4, F8 as item_f8}
use Rattle.secs_item.proofs.Views.{made_as, view-Binary, view-Boolean, view-Ascii, view-Jis8, view-Char2, view-I1, view-I2, view-I4, view-I8, view-U1, view-U2, view-U4, view-U8, view-F4, view-F8}
use Rattle.secs_item.proofs.item.copy_values.Goals as goal

pub returns-in-Binary : goal.returns-in-Binary
returns-in-Binary c =
    made_as item_binary binary view-Binary c.deref.result.now _ _ _ (ap view c.in-Binary.is ∙ view-Binary c.in-Binary.values ∙ ap (λ xs. values (binary xs)) (sym c.deref.ensures.value)) c.from_slice.ensures.items c.map.ensures.cases

pub returns-in-Boolean : goal.returns-in-Boolean
returns-in-Boolean c =
    made_as item_boolean boolean view-Boolean c.deref-in-Boolean.result.now _ _ _ (ap view c.in-Boolean.is ∙ view-Boolean c.in-Boolean.values ∙ ap (λ xs. values (boolean xs)) (sym c.deref-in-Boolean.ensures.value)) c.from_slice-in-Boolean.ensures.items c.map-in-Boolean.ensures.cases

pub returns-in-Ascii : goal.returns-in-Ascii
returns-in-Ascii c =
    made_as item_ascii ascii view-Ascii c.deref-in-Ascii.result.now _ _ _ (ap view c.in-Ascii.is ∙ view-Ascii c.in-Ascii.values ∙ ap (λ xs. values (ascii xs)) (sym c.deref-in-Ascii.ensures.value)) c.from_slice-in-Ascii.ensures.items c.map-in-Ascii.ensures.cases

pub returns-in-Jis8 : goal.returns-in-Jis8
returns-in-Jis8 c =
    made_as item_jis8 jis8 view-Jis8 c.deref-in-Jis8.result.now _ _ _ (ap view c.in-Jis8.is ∙ view-Jis8 c.in-Jis8.values ∙ ap (λ xs. values (jis8 xs)) (sym c.deref-in-Jis8.ensures.value)) c.from_slice-in-Jis8.ensures.items c.map-in-Jis8.ensures.cases

pub returns-in-Char2 : goal.returns-in-Char2
returns-in-Char2 c =
    made_as item_char2 char2 view-Char2 c.deref-in-Char2.result.now _ _ _ (ap view c.in-Char2.is ∙ view-Char2 c.in-Char2.values ∙ ap (λ xs. values (char2 xs)) (sym c.deref-in-Char2.ensures.value)) c.from_slice-in-Char2.ensures.items c.map-in-Char2.ensures.cases

pub returns-in-I1 : goal.returns-in-I1
returns-in-I1 c =
    made_as item_i1 i1 view-I1 c.deref-in-I1.result.now _ _ _ (ap view c.in-I1.is ∙ view-I1 c.in-I1.values ∙ ap (λ xs. values (i1 xs)) (sym c.deref-in-I1.ensures.value)) c.from_slice-in-I1.ensures.items c.map-in-I1.ensures.cases

pub returns-in-I2 : goal.returns-in-I2
returns-in-I2 c =
    made_as item_i2 i2 view-I2 c.deref-in-I2.result.now _ _ _ (ap view c.in-I2.is ∙ view-I2 c.in-I2.values ∙ ap (λ xs. values (i2 xs)) (sym c.deref-in-I2.ensures.value)) c.from_slice-in-I2.ensures.items c.map-in-I2.ensures.cases

pub returns-in-I4 : goal.returns-in-I4
returns-in-I4 c =
    made_as item_i4 i4 view-I4 c.deref-in-I4.result.now _ _ _ (ap view c.in-I4.is ∙ view-I4 c.in-I4.values ∙ ap (λ xs. values (i4 xs)) (sym c.deref-in-I4.ensures.value)) c.from_slice-in-I4.ensures.items c.map-in-I4.ensures.cases

pub returns-in-I8 : goal.returns-in-I8
returns-in-I8 c =
    made_as item_i8 i8 view-I8 c.deref-in-I8.result.now _ _ _ (ap view c.in-I8.is ∙ view-I8 c.in-I8.values ∙ ap (λ xs. values (i8 xs)) (sym c.deref-in-I8.ensures.value)) c.from_slice-in-I8.ensures.items c.map-in-I8.ensures.cases

pub returns-in-U1 : goal.returns-in-U1
returns-in-U1 c =
    made_as item_u1 u1 view-U1 c.deref-in-U1.result.now _ _ _ (ap view c.in-U1.is ∙ view-U1 c.in-U1.values ∙ ap (λ xs. values (u1 xs)) (sym c.deref-in-U1.ensures.value)) c.from_slice-in-U1.ensures.items c.map-in-U1.ensures.cases

pub returns-in-U2 : goal.returns-in-U2
returns-in-U2 c =
    made_as item_u2 u2 view-U2 c.deref-in-U2.result.now _ _ _ (ap view c.in-U2.is ∙ view-U2 c.in-U2.values ∙ ap (λ xs. values (u2 xs)) (sym c.deref-in-U2.ensures.value)) c.from_slice-in-U2.ensures.items c.map-in-U2.ensures.cases

pub returns-in-U4 : goal.returns-in-U4
returns-in-U4 c =
    made_as item_u4 u4 view-U4 c.deref-in-U4.result.now _ _ _ (ap view c.in-U4.is ∙ view-U4 c.in-U4.values ∙ ap (λ xs. values (u4 xs)) (sym c.deref-in-U4.ensures.value)) c.from_slice-in-U4.ensures.items c.map-in-U4.ensures.cases

pub returns-in-U8 : goal.returns-in-U8
returns-in-U8 c =
    made_as item_u8 u8 view-U8 c.deref-in-U8.result.now _ _ _ (ap view c.in-U8.is ∙ view-U8 c.in-U8.values ∙ ap (λ xs. values (u8 xs)) (sym c.deref-in-U8.ensures.value)) c.from_slice-in-U8.ensures.items c.map-in-U8.ensures.cases

pub returns-in-F4 : goal.returns-in-F4
returns-in-F4 c =
    made_as item_f4 f4 view-F4 c.deref-in-F4.result.now _ _ _ (ap view c.in-F4.is ∙ view-F4 c.in-F4.values ∙ ap (λ xs. values (f4 xs)) (sym c.deref-in-F4.ensures.value)) c.from_slice-in-F4.ensures.items c.map-in-F4.ensures.cases

pub returns-in-F8 : goal.returns-in-F8
returns-in-F8 c =
    made_as item_f8 f8 view-F8 c.deref-in-F8.result.now _ _ _ (ap view c.in-F8.is ∙ view-F8 c.in-F8.values ∙ ap (λ xs. values (f8 xs)) (sym c.deref-in-F8.ensures.value)) c.from_slice-in-F8.ensures.items c.map-in-F8.ensures.cases
