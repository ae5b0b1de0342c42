use Rattle.std.proofs.Common.{ap}
use Rattle.secs_item.specs.Item.{values, binary, boolean, ascii, jis8, char2, i1, i2, i4, i8, u2, u4, u8, f4, f8}
use Rattle.secs_item.specs.Decoding.{values_of}
use Rattle.secs_item.specs.declared.item.Item.{Binary as item_binary, Boolean as item_boolean, Ascii as item_ascii, Jis8 as item_jis8, Char2 as item_char2, I1 as item_i1, I2 as item_i2, I4 as item_i4, I8 as item_i8, U2 as item_u2, U4 as item_u4, U8 as item_u8, F4 as item_f4, F8 as item_f8}
use Rattle.secs_item.proofs.Views.{made_as, view-Binary, view-Boolean, view-Ascii, view-Jis8, view-Char2, view-I1, view-I2, view-I4, view-I8, view-U2, view-U4, view-U8, view-F4, view-F8}
use Rattle.secs_item.proofs.decode.item_of_values.Goals as goal

pub returns-in-Binary : goal.returns-in-Binary
returns-in-Binary c = made_as item_binary binary view-Binary _ _ _ _ (ap (λ f. values (values_of f c.args.body.now)) c.in-Binary.is) c.read_octets.ensures c.map.ensures.cases

pub returns-in-Boolean : goal.returns-in-Boolean
returns-in-Boolean c = made_as item_boolean boolean view-Boolean _ _ _ _ (ap (λ f. values (values_of f c.args.body.now)) c.in-Boolean.is) c.read_values.ensures c.map-in-Boolean.ensures.cases

pub returns-in-Ascii : goal.returns-in-Ascii
returns-in-Ascii c = made_as item_ascii ascii view-Ascii _ _ _ _ (ap (λ f. values (values_of f c.args.body.now)) c.in-Ascii.is) c.read_octets-in-Ascii.ensures c.map-in-Ascii.ensures.cases

pub returns-in-Jis8 : goal.returns-in-Jis8
returns-in-Jis8 c = made_as item_jis8 jis8 view-Jis8 _ _ _ _ (ap (λ f. values (values_of f c.args.body.now)) c.in-Jis8.is) c.read_octets-in-Jis8.ensures c.map-in-Jis8.ensures.cases

pub returns-in-Char2 : goal.returns-in-Char2
returns-in-Char2 c = made_as item_char2 char2 view-Char2 _ _ _ _ (ap (λ f. values (values_of f c.args.body.now)) c.in-Char2.is) c.read_octets-in-Char2.ensures c.map-in-Char2.ensures.cases

pub returns-in-I1 : goal.returns-in-I1
returns-in-I1 c = made_as item_i1 i1 view-I1 _ _ _ _ (ap (λ f. values (values_of f c.args.body.now)) c.in-I1.is) c.read_values-in-I1.ensures c.map-in-I1.ensures.cases

pub returns-in-I2 : goal.returns-in-I2
returns-in-I2 c = made_as item_i2 i2 view-I2 _ _ _ _ (ap (λ f. values (values_of f c.args.body.now)) c.in-I2.is) c.read_values-in-I2.ensures c.map-in-I2.ensures.cases

pub returns-in-I4 : goal.returns-in-I4
returns-in-I4 c = made_as item_i4 i4 view-I4 _ _ _ _ (ap (λ f. values (values_of f c.args.body.now)) c.in-I4.is) c.read_values-in-I4.ensures c.map-in-I4.ensures.cases

pub returns-in-I8 : goal.returns-in-I8
returns-in-I8 c = made_as item_i8 i8 view-I8 _ _ _ _ (ap (λ f. values (values_of f c.args.body.now)) c.in-I8.is) c.read_values-in-I8.ensures c.map-in-I8.ensures.cases

pub returns-in-U2 : goal.returns-in-U2
returns-in-U2 c = made_as item_u2 u2 view-U2 _ _ _ _ (ap (λ f. values (values_of f c.args.body.now)) c.in-U2.is) c.read_values-in-U2.ensures c.map-in-U2.ensures.cases

pub returns-in-U4 : goal.returns-in-U4
returns-in-U4 c = made_as item_u4 u4 view-U4 _ _ _ _ (ap (λ f. values (values_of f c.args.body.now)) c.in-U4.is) c.read_values-in-U4.ensures c.map-in-U4.ensures.cases

pub returns-in-U8 : goal.returns-in-U8
returns-in-U8 c = made_as item_u8 u8 view-U8 _ _ _ _ (ap (λ f. values (values_of f c.args.body.now)) c.in-U8.is) c.read_values-in-U8.ensures c.map-in-U8.ensures.cases

pub returns-in-F4 : goal.returns-in-F4
returns-in-F4 c = made_as item_f4 f4 view-F4 _ _ _ _ (ap (λ f. values (values_of f c.args.body.now)) c.in-F4.is) c.read_values-in-F4.ensures c.map-in-F4.ensures.cases

pub returns-in-F8 : goal.returns-in-F8
returns-in-F8 c = made_as item_f8 f8 view-F8 _ _ _ _ (ap (λ f. values (values_of f c.args.body.now)) c.in-F8.is) c.read_values-in-F8.ensures c.map-in-F8.ensures.cases
