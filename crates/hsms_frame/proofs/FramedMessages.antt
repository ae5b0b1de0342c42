-- Bytes that encode a header or a message.
use Rattle.std.proofs.Common.{◌≡◌, ◌≤◌, ◌<◌, ◌+◌, ◌-◌, ◌^◌, ◌++◌, ℕ, List, [], ◌∷◌, length, take, drop, get_or, replicate, sym, ◌∙◌, ap, refl, arith}
use Rattle.std.specs.Int.{w16, w32, to_be_bytes, from_be_bytes}
use Rattle.std.proofs.lemmas.Nat.{be_bytes_2, be_bytes_4, from_be_bytes-to_be_bytes_2, from_be_bytes-to_be_bytes_4}
use Rattle.std.proofs.lemmas.List.{take-append-drop, length-take-le, length-drop, length-append, append_assoc, take-append-le, drop_all, take_all, append-nil, length-replicate, nil_from_length}
use Rattle.std.proofs.Math.Seq.{drop-cons, get_or-append_seam}
use Rattle.hsms_frame.specs.declared.header.Header.{Header}
use Rattle.hsms_frame.specs.Header.{header_octets, IsHeader}
use Rattle.hsms_frame.specs.Frame.{Frame, frame_octets, IsFrame, IsOctets, length_field, IsProperFront, IsFaultless}
use Rattle.hsms_frame.proofs.Octets.{IsOctets-take, IsOctets-drop, IsOctets-append, IsOctets-replicate}

-- The header that ten bytes encode.
abbrev pub header_of : List ℕ → Header
header_of octets = record {
  session = from_be_bytes w16 (take 2 octets);
  byte2 = get_or octets 2 0;
  byte3 = get_or octets 3 0;
  ptype = get_or octets 4 0;
  stype = get_or octets 5 0;
  system = from_be_bytes w32 (drop 6 octets);
}

pub header_of-header_octets : (h : Header) → IsHeader h → header_of (header_octets h) ≡ h
header_of-header_octets h fits =
    ap (λ (s : ℕ). record { session = s; byte2 = h.byte2; byte3 = h.byte3; ptype = h.ptype; stype = h.stype; system = from_be_bytes w32 (to_be_bytes w32 h.system) })
    (from_be_bytes-to_be_bytes_2 h.session fits.session)
    ∙ ap (λ (n : ℕ). record { session = h.session; byte2 = h.byte2; byte3 = h.byte3; ptype = h.ptype; stype = h.stype; system = n })
    (from_be_bytes-to_be_bytes_4 h.system fits.system)

-- The four bytes after the session ID.
four : (octets : List ℕ) → length octets ≡ 10
    → get_or octets 2 0 ∷ get_or octets 3 0 ∷ get_or octets 4 0 ∷ get_or octets 5 0 ∷ drop 6 octets ≡ drop 2 octets
four octets size =
    let a : 2 < length octets = omega arith in
    let b : 3 < length octets = omega arith in
    let c : 4 < length octets = omega arith in
    let d : 5 < length octets = omega arith in
    sym (drop-cons octets 2 0 a
    ∙ ap (λ x. get_or octets 2 0 ∷ x) (drop-cons octets 3 0 b
    ∙ ap (λ x. get_or octets 3 0 ∷ x) (drop-cons octets 4 0 c
    ∙ ap (λ x. get_or octets 4 0 ∷ x) (drop-cons octets 5 0 d))))

pub header_octets-header_of : (octets : List ℕ) → length octets ≡ 10 → IsOctets octets → header_octets (header_of octets) ≡ octets
header_octets-header_of octets size fits =
    let mid : List ℕ = get_or octets 2 0 ∷ get_or octets 3 0 ∷ get_or octets 4 0 ∷ get_or octets 5 0 ∷ [] in
    let last : List ℕ = to_be_bytes w32 (from_be_bytes w32 (drop 6 octets)) in
    let first_size : length (take 2 octets) ≡ 2 = length-take-le 2 octets (omega arith) in
    let last_size : length (drop 6 octets) ≡ 4 = omega (arith, length-drop 6 octets) in
    ap (λ x. (x ++ mid) ++ last) (be_bytes_2 (take 2 octets) _ first_size (IsOctets-take 2 octets fits) refl)
    ∙ ap (λ x. (take 2 octets ++ mid) ++ x) (be_bytes_4 (drop 6 octets) _ last_size (IsOctets-drop 6 octets fits) refl)
    ∙ append_assoc (take 2 octets) mid (drop 6 octets)
    ∙ ap (λ x. take 2 octets ++ x) (four octets size)
    ∙ take-append-drop 2 octets

pub IsHeader-header_of : (octets : List ℕ) → IsOctets octets → IsHeader (header_of octets)
IsHeader-header_of octets fits = record {
  session = (let a = IsOctets-take 2 octets fits in omega (arith, a 0, a 1));
  byte2 = fits 2;
  byte3 = fits 3;
  ptype = fits 4;
  stype = fits 5;
  system = (let a = IsOctets-drop 6 octets fits in omega (arith, a 0, a 1, a 2, a 3));
}

-- The bytes after the length field and the header.
abbrev pub subsequent : List ℕ → List ℕ
subsequent octets = drop 10 (drop 4 octets)

-- A length field, a header and a text at the front of an input are a message.
pub encodes_to : (input text : List ℕ) (h : Header) → 14 ≤ length input → IsOctets (take 4 input)
    → length_field input ≡ 10 + length text → take 10 (drop 4 input) ≡ header_octets h → text ≡ take (length text) (subsequent input)
    → input ≡ frame_octets (record { header = h; text = text }) ++ drop (length text) (subsequent input)
encodes_to input text h there fits field header front =
    let n : ℕ = length text in
    let size : length (take 4 input) ≡ 4 = length-take-le 4 input (omega arith) in
    let number : to_be_bytes w32 (10 + n) ≡ take 4 input = be_bytes_4 (take 4 input) (10 + n) size fits (sym field) in
    let rest : List ℕ = drop n (subsequent input) in
    sym (
    ap (λ x. ((x ++ header_octets h) ++ text) ++ rest) number
    ∙ ap (λ x. ((take 4 input ++ x) ++ text) ++ rest) (sym header)
    ∙ append_assoc (take 4 input ++ take 10 (drop 4 input)) text rest
    ∙ append_assoc (take 4 input) (take 10 (drop 4 input)) (text ++ rest)
    ∙ ap (λ x. take 4 input ++ (take 10 (drop 4 input) ++ (x ++ rest))) front
    ∙ ap (λ x. take 4 input ++ (take 10 (drop 4 input) ++ x)) (take-append-drop n (subsequent input))
    ∙ ap (λ x. take 4 input ++ x) (take-append-drop 10 (drop 4 input))
    ∙ take-append-drop 4 input
    )

-- The number of bytes after the length field and the header.
pub length-subsequent : (octets : List ℕ) → length (subsequent octets) ≡ length octets - 14
length-subsequent octets = omega (arith, length-drop 10 (drop 4 octets), length-drop 4 octets)

-- Bytes with the length that their length field states are a message.
pub whole : (octets : List ℕ) → IsOctets octets → length octets ≡ 4 + length_field octets → 10 ≤ length_field octets
    → (f : Frame) × IsFrame f × (frame_octets f ≡ octets)
whole octets fits size enough =
    let text : List ℕ = subsequent octets in
    let h : Header = header_of (take 10 (drop 4 octets)) in
    let text_size : length text ≡ length octets - 14 = length-subsequent octets in
    let header_fits : IsOctets (take 10 (drop 4 octets)) = IsOctets-take 10 (drop 4 octets) (IsOctets-drop 4 octets fits) in
    let header_size : length (take 10 (drop 4 octets)) ≡ 10 = length-take-le 10 (drop 4 octets) (omega (arith, length-drop 4 octets)) in
    let bound : length_field octets < 2 ^ 32 = (let a = IsOctets-take 4 octets fits in omega (arith, a 0, a 1, a 2, a 3)) in
    let encoded_bytes = encodes_to octets text h (omega arith) (IsOctets-take 4 octets fits) (omega arith)
    (sym (header_octets-header_of (take 10 (drop 4 octets)) header_size header_fits)) (sym (take_all (length text) text (omega arith))) in
    let none : drop (length text) text ≡ [] = drop_all (length text) text (omega arith) in (
      record { header = h; text = text },
      record {
        header = IsHeader-header_of (take 10 (drop 4 octets)) header_fits;
        text = IsOctets-drop 10 (drop 4 octets) (IsOctets-drop 4 octets fits);
        size = omega arith;
      },
      sym (encoded_bytes ∙ ap (λ x. frame_octets (record { header = h; text = text }) ++ x) none ∙ append-nil (frame_octets (record { header = h; text = text }))),
    )

-- Bytes that reach into a message and not to its end.
pub cut_within : (octets : List ℕ) → IsOctets octets → 4 ≤ length octets → 10 ≤ length_field octets
    → length octets < 4 + length_field octets → IsProperFront octets
cut_within octets fits there enough short =
    let m : ℕ = 4 + length_field octets - length octets in
    let more : List ℕ = replicate m 0 in
    let all : List ℕ = octets ++ more in
    let more_size : length more ≡ m = length-replicate m 0 in
    let all_size : length all ≡ length octets + length more = length-append octets more in
    let field : length_field all ≡ length_field octets = ap (λ x. from_be_bytes w32 x) (take-append-le 4 octets more there) in
    let found = whole all (IsOctets-append octets more fits (IsOctets-replicate m 0 (omega arith))) (omega arith) (omega arith) in
    (found.0, more, found.1, (λ none. let size : length more ≡ 0 = ap length none in absurd (omega arith)), found.2)

-- A prefix of such bytes.
cut_shorter : (octets more : List ℕ) → IsProperFront (octets ++ more) → IsProperFront octets
cut_shorter octets more (f, rest, fits, some, same) = (
  f,
  more ++ rest,
  fits,
  (λ none. let size : length (more ++ rest) ≡ 0 = ap length none in
      absurd (some (nil_from_length rest (omega (arith, length-append more rest))))),
  same ∙ append_assoc octets more rest,
)

-- Three bytes or fewer.
pub cut_early : (octets : List ℕ) → IsOctets octets → length octets < 4 → IsProperFront octets
cut_early octets fits short =
    let pad : List ℕ = replicate (3 - length octets) 0 in
    let front : List ℕ = octets ++ pad in
    let long : List ℕ = front ++ 255 ∷ [] in
    let pad_size : length pad ≡ 3 - length octets = length-replicate (3 - length octets) 0 in
    let front_size : length front ≡ 3 = omega (arith, length-append octets pad) in
    let long_size : length long ≡ 4 = omega (arith, length-append front (255 ∷ [])) in
    let last : get_or long 3 0 ≡ 255 = ap (λ i. get_or long i 0) (sym front_size) ∙ get_or-append_seam front 255 [] 0 in
    let long_fits : IsOctets long = IsOctets-append front (255 ∷ [])
    (IsOctets-append octets pad fits (IsOctets-replicate (3 - length octets) 0 (omega arith))) (IsOctets-replicate 1 255 (omega arith)) in
    let same : take 4 long ≡ long = take_all 4 long (omega arith) in
    let field : length_field long ≡ from_be_bytes w32 long = ap (λ x. from_be_bytes w32 x) same in
    let big : 255 ≤ length_field long = omega arith in
    cut_shorter octets pad (cut_shorter front (255 ∷ []) (cut_within long long_fits (omega arith) (omega arith) (omega arith)))

-- There is no error if the length field, once present, is large enough for a header. Once the header is present, the
-- field is also within the limit.
pub faultless : (max : ℕ) (octets : List ℕ) → (4 ≤ length octets → 10 ≤ length_field octets)
    → (14 ≤ length octets → length_field octets ≤ max) → IsFaultless max octets
faultless max octets enough within = record {
  no_short = (λ n fault.
      let there : 4 ≤ length octets = fault.there in
      let least : 10 ≤ length_field octets = enough there in
      let field : n ≡ length_field octets = fault.field in
      let short : n < 10 = fault.short in
      omega arith);
  no_long = (λ n h fault.
      let there : 14 ≤ length octets = fault.there in
      let most : length_field octets ≤ max = within there in
      let field : n ≡ length_field octets = fault.field in
      let long : max < n = fault.long in
      omega arith);
}
