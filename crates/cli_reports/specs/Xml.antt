-- Text in XML.
use Rattle.std.specs.Prelude.{◌==◌, ◌||◌, ◌&&◌, ℕ, Bool, List, codes, encode_utf8, nat_lt, Option, Some, None, unwrap_or, if◌then◌else◌}

-- True for a control character except tab and line feed, and for a character that XML does not allow.
abbrev pub is_barred : ℕ → Bool
is_barred c = nat_lt c 9 || ((nat_lt 10 c && nat_lt c 32) || ((nat_lt 126 c && nat_lt c 160) || ((c == 65534) || (c == 65535))))

-- The reference to a character that could be markup.
abbrev pub markup_of : ℕ → Option (List ℕ)
markup_of c =
    if c == 60 then Some (codes "&lt;")
    else (if c == 62 then Some (codes "&gt;")
    else (if c == 38 then Some (codes "&amp;") else (if c == 34 then Some (codes "&quot;") else None)))

-- The bytes of a character in XML. U+FFFD represents one that is not allowed.
abbrev pub xml_of : ℕ → List ℕ
xml_of c = if is_barred c then encode_utf8 65533 else unwrap_or (markup_of c) (encode_utf8 c)
