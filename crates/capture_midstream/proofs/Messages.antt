-- What is found to stand whole is a message of the session.
use Rattle.std.proofs.Common.{◌≡◌, ◌≤◌, ◌<◌, ◌+◌, ◌-◌, ◌^◌, ◌++◌, ℕ, List, length, take, drop, true, sym, ◌∙◌, ap, subst, arith}
use Rattle.std.specs.Int.{w32, to_be_bytes}
use Rattle.std.proofs.lemmas.Bool.{and_parts, leb-true}
use Rattle.std.proofs.lemmas.Nat.{from_be_bytes-to_be_bytes_4}
use Rattle.std.proofs.lemmas.List.{length-append, length-take-le, length-drop, take_at}
use Rattle.secs_item.specs.Encoding.{IsText}
use Rattle.hsms_frame.specs.declared.header.Header.{Header}
use Rattle.hsms_frame.specs.Header.{header_octets}
use Rattle.hsms_frame.specs.Frame.{Frame, frame_octets, IsOctets, length_field}
use Rattle.hsms_frame.proofs.Octets.{IsOctets-take, IsOctets-drop}
use Rattle.hsms_frame.proofs.FramedMessages.{encodes_to, header_of-header_octets, header_octets-header_of, IsHeader-header_of}
use Rattle.capture_midstream.specs.declared.session_filter.Session.{Session}
use Rattle.capture_midstream.specs.declared.message_check.Found.TheVariants.{Whole}
use Rattle.capture_midstream.specs.MessageCheck.{FrontAs, header_of, is_of, text_at}
use Rattle.capture_midstream.specs.Laws.{IsMessageOf}

pub frame_size : (f : Frame) → length (frame_octets f) ≡ 14 + length f.text
frame_size f = length-append (to_be_bytes w32 (10 + length f.text) ++ header_octets f.header) f.text

-- a session has no message whose length counts no header
at_least : (s : Session) (h : Header) (count : ℕ) → is_of s h count ≡ true → 10 ≤ count
unfolding is_of
at_least s h count is = leb-true 10 count (and_parts _ _ is).0

pub messages_are_found : (s : Session) (f : Frame) (more : List ℕ) → IsMessageOf s f → FrontAs s (frame_octets f ++ more) (Whole (14 + length f.text))
messages_are_found s f more m =
    let input : List ℕ = frame_octets f ++ more in
    let field : length_field input ≡ 10 + length f.text = from_be_bytes-to_be_bytes_4 (10 + length f.text) m.fits.size in
    let size : length input ≡ length (frame_octets f) + length more = length-append (frame_octets f) more in
    let front : length (frame_octets f) ≡ 14 + length f.text = frame_size f in
    let head : header_of (take 10 (drop 4 input)) ≡ f.header = header_of-header_octets f.header m.fits.header in
    let text : text_at input ≡ f.text =
    ap (λ n. take (n - 10) (drop 10 (drop 4 input))) field ∙ take_at f.text more (10 + length f.text - 10) (omega arith) in
    let P : List ℕ → Type 0 = λ xs. IsText s.depth xs in (
      omega arith,
      ap (λ h. is_of s h (length_field input)) head ∙ ap (λ n. is_of s f.header n) field ∙ m.header,
      omega arith,
      omega arith,
      subst P (sym text) m.text,
    )

pub found_are_messages : (s : Session) (octets : List ℕ) (size : ℕ) → IsOctets octets → FrontAs s octets (Whole size)
    → (f : Frame) × (more : List ℕ) × IsMessageOf s f × (octets ≡ frame_octets f ++ more) × (size ≡ 14 + length f.text)
found_are_messages s octets size fits h =
    let ten : List ℕ = take 10 (drop 4 octets) in
    let subsequent : List ℕ = drop 10 (drop 4 octets) in
    let text : List ℕ = text_at octets in
    let head : Header = header_of ten in
    let ten_fits : IsOctets ten = IsOctets-take 10 (drop 4 octets) (IsOctets-drop 4 octets fits) in
    let ten_size : length ten ≡ 10 = length-take-le 10 (drop 4 octets) (omega (arith, h.0, length-drop 4 octets)) in
    let enough : 10 ≤ length_field octets = at_least s head (length_field octets) h.1 in
    let room : length subsequent ≡ length octets - 14 = omega (arith, length-drop 10 (drop 4 octets), length-drop 4 octets) in
    let count : length text ≡ length_field octets - 10 = length-take-le (length_field octets - 10) subsequent (omega (arith, h.2, h.3)) in
    let bound : length_field octets < 2 ^ 32 = (let a = IsOctets-take 4 octets fits in omega (arith, a 0, a 1, a 2, a 3)) in
    let field : length_field octets ≡ 10 + length text = omega arith in (
      record { header = head; text = text },
      drop (length text) subsequent,
      record {
        fits = record {
          header = IsHeader-header_of ten ten_fits;
          text = IsOctets-take (length_field octets - 10) subsequent (IsOctets-drop 10 (drop 4 octets) (IsOctets-drop 4 octets fits));
          size = omega arith;
        };
        header = ap (λ n. is_of s head n) (sym field) ∙ h.1;
        text = h.4;
      },
      encodes_to octets text head h.0 (IsOctets-take 4 octets fits) field (sym (header_octets-header_of ten ten_size ten_fits))
          (ap (λ n. take n subsequent) (sym count)),
      omega (arith, h.2),
    )
