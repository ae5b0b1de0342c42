-- What is at the front of pending bytes.
use Rattle.std.proofs.Common.{◌≡◌, ◌≤◌, ◌<◌, ◌+◌, ◌^◌, ◌++◌, ℕ, zero, suc, true, false, List, length, take, drop, Some, Ok, Err, refl, sym, ◌∙◌, ap, subst, arith}
use Rattle.std.proofs.lemmas.List.{length-take-le, length-drop, drop-drop}
use Rattle.hsms_frame.specs.declared.header.Header.{Header}
use Rattle.hsms_frame.specs.declared.fault.FrameFault.TheVariants.{Memory}
use Rattle.hsms_frame.specs.Frame.{frame_octets, IsOctets, IsFaultless, IsProperFront, length_field}
use Rattle.hsms_frame.specs.Framing.{FramesAs, IsFrontOf}
use Rattle.hsms_frame.proofs.Octets.{IsOctets-take, IsOctets-drop}
use Rattle.hsms_frame.proofs.FramedMessages.{subsequent, encodes_to, cut_within, cut_early, faultless}
use Rattle.hsms_frame.proofs.ReadResults.{subsequent-drop}

-- Fewer than four bytes.
pub cut_in_field : (max : ℕ) (octets : List ℕ) → IsOctets octets → length octets < 4 → IsFaultless max octets × IsProperFront octets
cut_in_field max octets fits short = (faultless max octets (λ there. absurd (omega arith)) (λ there. absurd (omega arith)), cut_early octets fits short)

-- A length field that is large enough for a header, and within the limit once the header is present, and fewer bytes
-- than it states.
pub cut_after_field : (max : ℕ) (octets : List ℕ) → IsOctets octets → 4 ≤ length octets → 10 ≤ length_field octets
    → (14 ≤ length octets → length_field octets ≤ max) → length octets < 4 + length_field octets → IsFaultless max octets × IsProperFront octets
cut_after_field max octets fits there enough within short =
    (faultless max octets (λ _. enough) within, cut_within octets fits there enough short)

-- A complete message.
pub whole_at_front : (max : ℕ) (octets text : List ℕ) (h : Header) (size : ℕ) → IsFrontOf max octets h size → text ≡ take size (drop 14 octets)
    → FramesAs max octets (Ok (Some (record { header = h; text = text }))) (drop (14 + length text) octets)
whole_at_front max octets text h size front same =
    let there : 14 + size ≤ length octets = front.there in
    let within : 10 + size ≤ max = front.within in
    let field : length_field octets ≡ 10 + size = front.field in
    let room : size ≤ length (drop 14 octets) = omega (arith, length-drop 14 octets) in
    let count : length text ≡ size = ap length same ∙ length-take-le size (drop 14 octets) room in
    let bound : length_field octets < 2 ^ 32 = (let a = IsOctets-take 4 octets front.fits in omega (arith, a 0, a 1, a 2, a 3)) in
    let seen : text ≡ take (length text) (subsequent octets) = same ∙ ap (λ xs. take size xs) (sym (subsequent-drop octets)) ∙ ap (λ n. take n (subsequent octets)) (sym count) in
    let rest : drop (length text) (subsequent octets) ≡ drop (14 + length text) octets =
    ap (λ xs. drop (length text) xs) (subsequent-drop octets) ∙ drop-drop (length text) 14 octets in
    let P : List ℕ → Type 0 = λ xs. IsOctets xs in (
      encodes_to octets text h (omega arith) (IsOctets-take 4 octets front.fits) (omega arith) (sym front.header) seen
          ∙ ap (λ xs. frame_octets (record { header = h; text = text }) ++ xs) rest,
      record {
        header = front.header_fits;
        text = subst P (sym same) (IsOctets-take size (drop 14 octets) (IsOctets-drop 14 octets front.fits));
        size = omega arith;
      },
      omega arith,
    )

-- A complete message whose nonempty text cannot be allocated.
pub whole_unread : (max : ℕ) (octets : List ℕ) (h : Header) (size : ℕ) → IsFrontOf max octets h size → 0 < size
    → FramesAs max octets (Err Memory) octets
whole_unread max octets h size front some =
    let a = whole_at_front max octets (take size (drop 14 octets)) h size front refl in
    let there : 14 + size ≤ length octets = front.there in
    let room : size ≤ length (drop 14 octets) = omega (arith, there, length-drop 14 octets) in
    (_, _, a.0, a.1, a.2, omega (arith, some, length-take-le size (drop 14 octets) room), refl)

pub not_empty : (size : ℕ) → (size ≡ 0 → false ≡ true) → 0 < size
not_empty zero empty = let no = empty refl in cc
not_empty (suc n) empty = omega arith
