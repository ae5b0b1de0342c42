use Rattle.std.proofs.Common.{◌≡◌, ◌∙◌, ℤ, pos, negsuc, true, refl, ap, of_z, to_z, w64}
use Rattle.std.proofs.Math.IntN.{nat_abs}
use Rattle.std.proofs.lemmas.Int.{to_z-of_z}
use Rattle.std.specs.Fmt.{decimal, signed_decimal}
use Rattle.std.specs.Int.Signed.{le_z}
use Rattle.secs_text.proofs.Blocks.{appended_then, appended_same}
use Rattle.secs_text.proofs.formats.SignedWordFormat.append_chunk.Goals as goal

natural : (z : ℤ) → le_z (pos 0) z ≡ true → decimal (nat_abs z) ≡ signed_decimal z
natural (pos n) e = refl
natural (negsuc n) e = cc

pub returns-then-number-ge0-clause-appended_text : goal.returns-then-number-ge0-clause-appended_text
returns-then-number-ge0-clause-appended_text g c =
    let number = c.signed_of-number.result in
    let same = to_z-of_z w64 number (record { sfits = c.signed_of-number.type_inv }) in
    appended_then c.append_byte-at.ensures (appended_same _ (natural (to_z w64 (of_z w64 number)) c.if-number-ge0.true ∙ ap signed_decimal (same ∙ c.signed_of-number.ensures)) c.append_natural.ensures.appended_text)

pub returns-else-number-ge0-clause-appended_text : goal.returns-else-number-ge0-clause-appended_text
returns-else-number-ge0-clause-appended_text g c =
    let same = to_z-of_z w64 c.signed_of-number.result (record { sfits = c.signed_of-number.type_inv }) in
    appended_then c.append_byte-at.ensures (appended_same _ (ap signed_decimal (same ∙ c.signed_of-number.ensures)) c.append_number.ensures.appended_text)
