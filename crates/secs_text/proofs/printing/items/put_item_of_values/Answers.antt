use Rattle.std.proofs.Common.{◌/◌, ◌++◌, ◌∷◌, [], ℕ, List, codes, decimal, false, length, sym, ap}
use Rattle.std.specs.Fmt.{signed_decimal}
use Rattle.std.specs.Int.{w8, w16, w32, w64}
use Rattle.byteorder.specs.Endian.{big_number}
use Rattle.secs_item.specs.declared.format.Format.TheVariants as format
use Rattle.secs_item.specs.Decoding.{octet, truth, signed}
use Rattle.secs_item.proofs.Bodies.{each_octet}
use Rattle.secs_text.specs.InnerBlockOutput.{opening_of, each_words}
use Rattle.secs_text.specs.Printed.{hexadecimal, truth_word, printed_text}
use Rattle.secs_text.proofs.Blocks.{puts_same, puts_then}
use Rattle.secs_text.proofs.printing.items.put_item_of_values.Goals as goal

pub put_item_of_words-requires-clause-words : goal.put_item_of_words-requires-clause-words
put_item_of_words-requires-clause-words g c = λ o. each_words (λ n. hexadecimal (n ∷ [])) octet 1 o

pub put_item_of_words-requires-in-Boolean-clause-words : goal.put_item_of_words-requires-in-Boolean-clause-words
put_item_of_words-requires-in-Boolean-clause-words g c = λ o. each_words truth_word truth 1 o

pub put_item_of_words-requires-in-Jis8-clause-words : goal.put_item_of_words-requires-in-Jis8-clause-words
put_item_of_words-requires-in-Jis8-clause-words g c = λ o. each_words (λ n. hexadecimal (n ∷ [])) octet 1 o

pub put_item_of_words-requires-in-Char2-clause-words : goal.put_item_of_words-requires-in-Char2-clause-words
put_item_of_words-requires-in-Char2-clause-words g c = λ o. each_words (λ n. hexadecimal (n ∷ [])) octet 1 o

pub put_item_of_words-requires-in-I1-clause-words : goal.put_item_of_words-requires-in-I1-clause-words
put_item_of_words-requires-in-I1-clause-words g c = λ o. each_words signed_decimal (signed w8) 1 o

pub put_item_of_words-requires-in-I2-clause-words : goal.put_item_of_words-requires-in-I2-clause-words
put_item_of_words-requires-in-I2-clause-words g c = λ o. each_words signed_decimal (signed w16) 2 o

pub put_item_of_words-requires-in-I4-clause-words : goal.put_item_of_words-requires-in-I4-clause-words
put_item_of_words-requires-in-I4-clause-words g c = λ o. each_words signed_decimal (signed w32) 4 o

pub put_item_of_words-requires-in-I8-clause-words : goal.put_item_of_words-requires-in-I8-clause-words
put_item_of_words-requires-in-I8-clause-words g c = λ o. each_words signed_decimal (signed w64) 8 o

pub put_item_of_words-requires-in-U1-clause-words : goal.put_item_of_words-requires-in-U1-clause-words
put_item_of_words-requires-in-U1-clause-words g c = λ o. each_words decimal octet 1 o

pub put_item_of_words-requires-in-U2-clause-words : goal.put_item_of_words-requires-in-U2-clause-words
put_item_of_words-requires-in-U2-clause-words g c = λ o. each_words decimal (big_number 2) 2 o

pub put_item_of_words-requires-in-U4-clause-words : goal.put_item_of_words-requires-in-U4-clause-words
put_item_of_words-requires-in-U4-clause-words g c = λ o. each_words decimal (big_number 4) 4 o

pub put_item_of_words-requires-in-U8-clause-words : goal.put_item_of_words-requires-in-U8-clause-words
put_item_of_words-requires-in-U8-clause-words g c = λ o. each_words decimal (big_number 8) 8 o

pub returns-in-Ascii : goal.returns-in-Ascii
returns-in-Ascii g c =
    let body = c.args.body.now in
    rw c.in-Ascii.is (puts_same _
    (ap (λ (o : List ℕ). opening_of format.Ascii (length body / 1) ++ printed_text false o ++ codes ">") (sym (each_octet body)))
    (puts_then (puts_then c.put_opening-at.ensures c.put_text-at.ensures) c.put_end.ensures))

pub unreachable-requires : goal.unreachable-requires
unreachable-requires g c = let lists = rw c.in-List.is at c.requires.no_list in cc

pub returns-in-Binary : goal.returns-in-Binary
returns-in-Binary g c = rw c.in-Binary.is c.put_item_of_words.ensures

pub returns-in-Boolean : goal.returns-in-Boolean
returns-in-Boolean g c = rw c.in-Boolean.is c.put_item_of_words-in-Boolean.ensures

pub returns-in-Jis8 : goal.returns-in-Jis8
returns-in-Jis8 g c = rw c.in-Jis8.is c.put_item_of_words-in-Jis8.ensures

pub returns-in-Char2 : goal.returns-in-Char2
returns-in-Char2 g c = rw c.in-Char2.is c.put_item_of_words-in-Char2.ensures

pub returns-in-I1 : goal.returns-in-I1
returns-in-I1 g c = rw c.in-I1.is c.put_item_of_words-in-I1.ensures

pub returns-in-I2 : goal.returns-in-I2
returns-in-I2 g c = rw c.in-I2.is c.put_item_of_words-in-I2.ensures

pub returns-in-I4 : goal.returns-in-I4
returns-in-I4 g c = rw c.in-I4.is c.put_item_of_words-in-I4.ensures

pub returns-in-I8 : goal.returns-in-I8
returns-in-I8 g c = rw c.in-I8.is c.put_item_of_words-in-I8.ensures

pub returns-in-U1 : goal.returns-in-U1
returns-in-U1 g c = rw c.in-U1.is c.put_item_of_words-in-U1.ensures

pub returns-in-U2 : goal.returns-in-U2
returns-in-U2 g c = rw c.in-U2.is c.put_item_of_words-in-U2.ensures

pub returns-in-U4 : goal.returns-in-U4
returns-in-U4 g c = rw c.in-U4.is c.put_item_of_words-in-U4.ensures

pub returns-in-U8 : goal.returns-in-U8
returns-in-U8 g c = rw c.in-U8.is c.put_item_of_words-in-U8.ensures

pub returns-in-F4 : goal.returns-in-F4
returns-in-F4 g c = rw c.in-F4.is c.put_item_of_words-in-F4.ensures

pub returns-in-F8 : goal.returns-in-F8
returns-in-F8 g c = rw c.in-F8.is c.put_item_of_words-in-F8.ensures
