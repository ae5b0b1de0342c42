-- What hexadecimal digits encode.
use Rattle.std.proofs.Common.{◌≡◌, ◌<◌, ◌+◌, ◌*◌, ◌++◌, ℕ, List, length, take, drop, get_or, Ok, Err, refl, sym, ap, ◌∙◌, subst, arith, length-append, take-append-drop}
use Rattle.std.specs.Prelude.{Result, MatchResult}
use Rattle.std.specs.Int.{w32, to_be_bytes, from_be_bytes}
use Rattle.std.proofs.lemmas.Nat.{be_bytes_4}
use Rattle.hex.specs.declared.error.FromHexError.{FromHexError}
use Rattle.hex.specs.Hex.{decode_of, decode_sized}
use Rattle.hex.proofs.HexLemmas.{decode_of-ok, decode_sized-twice, decode_sized-ok}
use Rattle.hsms_frame.specs.declared.header.Header.{Header}
use Rattle.hsms_frame.specs.Frame.{Frame}
use Rattle.hsms_frame.proofs.Octets.{IsOctets-drop}
use Rattle.hsms_frame.specs.Header.{header_octets, IsHeader}
use Rattle.hsms_log.specs.LineFormat.{IsHexOf, IsMessage, message_octets, system_octets}
use Rattle.hsms_log.proofs.LineBindings.{ok_inj}

-- The result of a decoder with room for four bytes.
abbrev pub Sized : List ℕ → Result (Unit {0}) FromHexError → List ℕ → Type 0
Sized digits r octets = MatchResult (decode_sized digits 4) (λ bytes. (r ≡ Ok (tt {0})) × (octets ≡ bytes)) (λ e. r ≡ Err e)

four : (digits bytes : List ℕ) (n : ℕ) → decode_sized digits 4 ≡ Ok bytes → n ≡ from_be_bytes w32 bytes → decode_of digits ≡ Ok (to_be_bytes w32 n)
four digits bytes n h is =
    let twice : decode_of digits ≡ Ok bytes = sym (decode_sized-twice digits 4 (decode_sized-ok digits 4 bytes h)) ∙ h in
    let parts = decode_of-ok digits bytes twice in
    let size : length digits ≡ 2 * 4 = decode_sized-ok digits 4 bytes h in
    let long : length digits ≡ 2 * length bytes = parts.2 in
    let same : to_be_bytes w32 n ≡ bytes = be_bytes_4 bytes n (omega arith) parts.3 is in
    twice ∙ ap (λ x. Ok x) (sym same)

found_go : (digits octets : List ℕ) (n : ℕ) (r : Result (Unit {0}) FromHexError) (x : Result (List ℕ) FromHexError) → decode_sized digits 4 ≡ x
    → MatchResult x (λ bytes. (r ≡ Ok (tt {0})) × (octets ≡ bytes)) (λ e. r ≡ Err e) → r ≡ Ok (tt {0})
    → n ≡ from_be_bytes w32 octets → decode_of digits ≡ Ok (to_be_bytes w32 n)
found_go digits octets n r (Ok bytes) e h ok is = four digits bytes n e (is ∙ ap (from_be_bytes w32) h.1)
found_go digits octets n r (Err f) e h ok is = let no = sym ok ∙ h in cc no

pub system_found : (digits octets : List ℕ) (n : ℕ) (r : Result (Unit {0}) FromHexError) → Sized digits r octets → r ≡ Ok (tt {0})
    → n ≡ from_be_bytes w32 octets → IsHexOf digits (system_octets n)
unfolding system_octets
system_found digits octets n r h ok is = found_go digits octets n r (decode_sized digits 4) refl h ok is

none_go : (r : Result (Unit {0}) FromHexError) (f : FromHexError) (octets : List ℕ) (x : Result (List ℕ) FromHexError) (bytes : List ℕ) → x ≡ Ok bytes → r ≡ Err f
    → MatchResult x (λ bytes. (r ≡ Ok (tt {0})) × (octets ≡ bytes)) (λ e. r ≡ Err e) → ⊥
none_go r f octets (Ok b) bytes e err h = let no = sym err ∙ h.0 in cc no
none_go r f octets (Err g) bytes e err h = cc e

pub system_none : (digits octets : List ℕ) (r : Result (Unit {0}) FromHexError) (f : FromHexError) → Sized digits r octets → r ≡ Err f
    → (n : ℕ) → IsHexOf digits (system_octets n) → ⊥
unfolding system_octets
system_none digits octets r f h err n encoded_bytes =
    let parts = decode_of-ok digits (to_be_bytes w32 n) encoded_bytes in
    let size : length digits ≡ 2 * 4 = parts.2 in
    none_go r f octets (decode_sized digits 4) (to_be_bytes w32 n) (decode_sized-twice digits 4 size ∙ encoded_bytes) err h

octets_drop : (n : ℕ) (xs : List ℕ) → ((i : ℕ) → get_or xs i 0 < 256) → (i : ℕ) → get_or (drop n xs) i 0 < 256
octets_drop n xs h i = IsOctets-drop n xs h i

pub message_found : (digits octets front text : List ℕ) (h : Header) → decode_of digits ≡ Ok octets → front ≡ take 10 octets → text ≡ drop 10 octets
    → IsHeader h → header_octets h ≡ front → IsMessage (record { header = h; text = text }) × IsHexOf digits (message_octets (record { header = h; text = text }))
unfolding message_octets
message_found digits octets front text h decoded front_is text_is fits encoded_bytes =
    let parts = decode_of-ok digits octets decoded in
    let P : List ℕ → Type 0 = λ xs. (i : ℕ) → get_or xs i 0 < 256 in
    let whole : header_octets h ++ text ≡ octets =
    ap (λ x. x ++ text) (encoded_bytes ∙ front_is) ∙ ap (λ x. take 10 octets ++ x) text_is ∙ take-append-drop 10 octets in
    (record { header = fits; text = subst P (sym text_is) (octets_drop 10 octets parts.3) }, decoded ∙ ap (λ x. Ok x) (sym whole))

-- Digits of fewer than ten bytes encode no message.
pub message_short : (digits octets : List ℕ) → decode_of digits ≡ Ok octets → length octets < 10 → (frame : Frame) → IsHexOf digits (message_octets frame) → ⊥
unfolding message_octets
message_short digits octets decoded short frame encoded_bytes =
    let same : octets ≡ header_octets frame.header ++ frame.text = ok_inj octets (header_octets frame.header ++ frame.text) (sym decoded ∙ encoded_bytes) in
    let size : length octets ≡ length (header_octets frame.header) + length frame.text =
    ap length same ∙ length-append (header_octets frame.header) frame.text in
    let ten : length (header_octets frame.header) ≡ 10 = refl in
    omega (arith, size, ten, short)

-- Digits that do not decode encode no message.
pub message_none : (digits : List ℕ) (e : FromHexError) → decode_of digits ≡ Err e → (frame : Frame) → IsHexOf digits (message_octets frame) → ⊥
message_none digits e h frame encoded_bytes = let no = sym h ∙ encoded_bytes in cc no
