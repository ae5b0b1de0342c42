-- Messages among the bytes of a line.
use Rattle.std.proofs.Common.{◌≡◌, ◌≤◌, ◌<◌, ◌+◌, ◌^◌, ◌++◌, ℕ, true, false, List, length, take, drop, sym, ◌∙◌, ap, subst, arith}
use Rattle.std.specs.Int.{w32, from_be_bytes, to_be_bytes}
use Rattle.std.proofs.lemmas.List.{length-append, length-take-le, take-append-drop}
use Rattle.std.proofs.lemmas.Nat.{be_bytes_4}
use Rattle.hsms_frame.specs.declared.header.Header.{Header}
use Rattle.hsms_frame.specs.Frame.{Frame, IsOctets}
use Rattle.hsms_frame.specs.Header.{header_octets, IsHeader}
use Rattle.hsms_frame.proofs.Octets.{IsOctets-drop, IsOctets-take}
use Rattle.cli_show.specs.ShowHex.{IsMessageOf}

-- The first four bytes count the others.
pub after_four : (octets chunk rest : List ℕ) (n : ℕ) → chunk ≡ take 4 octets → rest ≡ drop 4 octets → length rest + 4 ≡ length octets → IsOctets octets
    → n ≡ from_be_bytes w32 chunk → n ≡ length rest → octets ≡ to_be_bytes w32 (length rest) ++ rest
after_four octets chunk rest n front back size fits field same =
    let four : length (take 4 octets) ≡ 4 = length-take-le 4 octets (omega (arith, size)) in
    let count : length rest ≡ from_be_bytes w32 (take 4 octets) = sym same ∙ field ∙ ap (λ xs. from_be_bytes w32 xs) front in
    let whole : to_be_bytes w32 (length rest) ≡ take 4 octets = be_bytes_4 (take 4 octets) (length rest) four (IsOctets-take 4 octets fits) count in
    sym (ap (λ xs. xs ++ rest) whole ∙ ap (λ ys. take 4 octets ++ ys) back ∙ take-append-drop 4 octets)

-- Ten bytes of header and a text.
pub after_ten : (max : ℕ) (octets chunk text : List ℕ) (h : Header) → chunk ≡ take 10 octets → text ≡ drop 10 octets → length text + 10 ≡ length octets → IsOctets octets
    → length octets ≤ max → max < 2 ^ 32 → IsHeader h → header_octets h ≡ chunk → IsMessageOf true max octets (record { header = h; text = text })
after_ten max octets chunk text h front back size fits within range fine encoded_bytes =
    let P : List ℕ → Type 0 = λ xs. IsOctets xs in (
      sym (ap (λ xs. xs ++ text) (encoded_bytes ∙ front) ∙ ap (λ ys. take 10 octets ++ ys) back ∙ take-append-drop 10 octets),
      (record { header = fine; text = subst P (sym back) (IsOctets-drop 10 octets fits); size = omega (arith, size, within, range) }, omega (arith, size, within)),
    )

-- ---- with the length bytes

pub not_counted : (max : ℕ) (octets : List ℕ) → ((rest : List ℕ) → length rest < 2 ^ 32 → octets ≡ to_be_bytes w32 (length rest) ++ rest → ⊥)
    → (f : Frame) → IsMessageOf false max octets f → ⊥
not_counted max octets none f (is, (fits, within)) =
    let rest : List ℕ = header_octets f.header ++ f.text in
    let size : length rest ≡ 10 + length f.text = length-append (header_octets f.header) f.text in
    let bound : 10 + length f.text < 2 ^ 32 = fits.size in
    none rest (omega (arith, size, bound)) (is ∙ ap (λ (n : ℕ). to_be_bytes w32 n ++ rest) (sym size))
