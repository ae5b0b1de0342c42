-- The printed form of a message, exactly one text. It is project-specific.
use Rattle.std.specs.Prelude.{ℕ, ◌/◌, ◌%◌, Bool, true, false, if◌then◌else◌, List, [], ◌∷◌, ◌++◌, Option, Some, None, codes}
use Rattle.std.specs.List.{flat_map}
use Rattle.std.specs.Fmt.{decimal, signed_decimal, digit_glyph}
use Rattle.secs_item.specs.Item.{Value, list, values, Elements, no_elements, element, format_of, count_of}
use Rattle.secs_text.specs.Body.{WordEncoding, hex_octet, truth_letter, signed_number, unsigned_number, hex_float, IsEncoded, Body, in_text, in_words, body_of}
use Rattle.secs_text.specs.Content.{Content}
use Rattle.secs_text.specs.Octets.{is_quotable}
use Rattle.secs_text.specs.TypeName.{type_name}

-- The two hexadecimal digits of a byte, in upper case.
abbrev pub two_digits : ℕ → List ℕ
two_digits octet = digit_glyph true (octet / 16) ∷ digit_glyph true (octet % 16) ∷ []

abbrev pub hexadecimal : List ℕ → List ℕ
hexadecimal octets = codes "0x" ++ flat_map two_digits octets

abbrev pub truth_word : Bool → List ℕ
truth_word true = codes "T"
truth_word false = codes "F"

-- The values, each after a space.
abbrev pub spaced : {X : Type 0} → (X → List ℕ) → List X → List ℕ
spaced one xs = flat_map (λ x. codes " " ++ one x) xs

-- The text of one byte, inside or outside a quote. A byte that is allowed between quotes is printed as is, every other
-- one as a word.
abbrev pub printed_octet : Bool → ℕ → List ℕ
printed_octet quoted c =
    if is_quotable c then (if quoted then [] else codes " \"") ++ c ∷ []
    else (if quoted then codes "\"" else []) ++ codes " " ++ hexadecimal (c ∷ [])

-- The text of bytes, inside or outside a quote.
unfoldable pub printed_text : Bool → List ℕ → List ℕ
printed_text quoted [] = if quoted then codes "\"" else []
printed_text quoted (c ∷ cs) = printed_octet quoted c ++ printed_text (is_quotable c) cs

-- The word that is printed for a value.
abbrev pub written : (s : WordEncoding) → IsEncoded s → List ℕ
written hex_octet x = hexadecimal (x ∷ [])
written truth_letter x = truth_word x
written (signed_number half) x = signed_decimal x
written (unsigned_number limit) x = decimal x
written (hex_float size) x = hexadecimal x

abbrev pub printed_values : Body → List ℕ
printed_values (in_text octets) = printed_text false octets
printed_values (in_words s xs) = spaced (written s) xs

-- The opening: `<`, type name, space, count.
abbrev pub printed_opening : Value → List ℕ
printed_opening v = codes "<" ++ type_name (format_of v) ++ codes " [" ++ decimal (count_of v) ++ codes "]"

-- The item with this body.
abbrev pub printed_around : Value → List ℕ → List ℕ
printed_around v body = printed_opening v ++ body ++ codes ">"

abbrev mutual
  pub printed_body : Value → List ℕ
  printed_body (list es) = printed_elements es
  printed_body (values v) = printed_values (body_of v)

  pub printed_elements : Elements → List ℕ
  printed_elements no_elements = []
  printed_elements (element v es) = codes " " ++ printed_around v (printed_body v) ++ printed_elements es

abbrev pub printed_item : Value → List ℕ
printed_item v = printed_around v (printed_body v)

abbrev pub printed_optional : Option Value → List ℕ
printed_optional None = []
printed_optional (Some v) = codes " " ++ printed_item v

abbrev pub printed : Content → List ℕ
printed m =
    codes "S" ++ decimal m.stream ++ codes "F" ++ decimal m.function
    ++ (if m.wait then codes " W" else []) ++ printed_optional m.item ++ codes " ."
