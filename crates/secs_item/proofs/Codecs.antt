-- The codecs of the kinds of values: the bytes of a value have one size and determine the value.
use Rattle.std.proofs.Common.{◌≡◌, ℕ, ◌^◌, ◌<◌, List, [], ◌∷◌, length, get_or, refl, sym, ap, ◌∙◌, arith}
use Rattle.std.specs.Int.{Width, byte_len, cast_signed, cast_unsigned}
use mir.Val.{bits}
use Rattle.std.proofs.Common.{Fits}
use Rattle.std.proofs.Math.Facts.{Fits-of_z, sfits_to_z}
use Rattle.std.proofs.lemmas.Int.{to_z-of_z, of_z-to_z}
use Rattle.std.proofs.lemmas.List.{append-nil}
use Rattle.byteorder.specs.Endian.{big_bytes, big_number}
use Rattle.byteorder.specs.Numbers.{big_from-lt, big_number-reads_back, length-bytes_high_first}
use Rattle.secs_item.specs.Encoding.{IsOctets, Octet, Truth, Unsigned, Signed, Unread}
use Rattle.secs_item.specs.Decoding.{octet, truth, signed, unread}
use Rattle.secs_item.proofs.Octets.{IsOctets-nil, IsOctets-cons, IsOctets-big_bytes, big_bytes-big_number}

pub record IsCodec {X : Type 0} (One : X → List ℕ → Type 0) (size : ℕ) (read : List ℕ → X) : Type 0 where
  pub length_is : (x : X) (octets : List ℕ) → One x octets → length octets ≡ size
  pub octets_are : (x : X) (octets : List ℕ) → One x octets → IsOctets octets
  pub read_is : (x : X) (octets : List ℕ) → One x octets → read octets ≡ x
  pub encoded_bytes : (octets : List ℕ) → length octets ≡ size → IsOctets octets → One (read octets) octets

lone : (octets : List ℕ) → length octets ≡ 1 → octets ≡ get_or octets 0 0 ∷ []
lone [] len = absurd (omega arith)
lone (x ∷ []) len = refl
lone (x ∷ y ∷ xs) len = absurd (omega arith)

pub octets_codec : IsCodec Octet 1 octet
octets_codec = record {
  length_is = λ x o one. rw one.1 refl;
  octets_are = λ x o one. rw one.1 (IsOctets-cons x [] one.0 IsOctets-nil);
  read_is = λ x o one. rw one.1 refl;
  encoded_bytes = λ o len h. (h 0, lone o len);
}

pub truth_codec : IsCodec Truth 1 truth
truth_codec = record {
  length_is = λ x o one. rw one.2 refl;
  octets_are = λ x o one. rw one.2 (IsOctets-cons one.0 [] one.1 IsOctets-nil);
  read_is = λ x o one. rw one.2 (sym one.3);
  encoded_bytes = λ o len h. (get_or o 0 0, h 0, lone o len, refl);
}

big_number-big_bytes : (size n : ℕ) → n < 256 ^ size → big_number size (big_bytes size n) ≡ n
big_number-big_bytes size n small = ap (big_number size) (sym (append-nil (big_bytes size n))) ∙ big_number-reads_back size n [] small

pub unsigned_codec : (size : ℕ) → IsCodec (Unsigned size) size (big_number size)
unsigned_codec size = record {
  length_is = λ n o one. rw one.1 (length-bytes_high_first size n);
  octets_are = λ n o one. rw one.1 (IsOctets-big_bytes size n);
  read_is = λ n o one. rw one.1 (big_number-big_bytes size n one.0);
  encoded_bytes = λ o len h. (big_from-lt 0 size o h, sym (big_bytes-big_number size o len h));
}

pub unread_codec : (size : ℕ) → IsCodec (Unread size) size unread
unread_codec size = record {
  length_is = λ x o one. ap length one.2 ∙ one.0;
  octets_are = λ x o one. rw one.2 one.1;
  read_is = λ x o one. one.2;
  encoded_bytes = λ o len h. (len, h, refl);
}

-- The signed codec of a width, if the numbers of the width are those of its bytes.
pub signed_codec : (width : Width) → 2 ^ bits width ≡ 256 ^ byte_len width → IsCodec (Signed width) (byte_len width) (signed width)
signed_codec width same = record {
  length_is = λ z o one. rw one.1 (length-bytes_high_first (byte_len width) (cast_unsigned width z));
  octets_are = λ z o one. rw one.1 (IsOctets-big_bytes (byte_len width) (cast_unsigned width z));
  read_is = λ z o one.
      let small : cast_unsigned width z < 256 ^ byte_len width = rw (← same) (below (Fits-of_z one.0)) in
      rw one.1 (ap (cast_signed width) (big_number-big_bytes (byte_len width) (cast_unsigned width z) small) ∙ to_z-of_z width z one.0);
  encoded_bytes = λ o len h.
      let n = big_number (byte_len width) o in
      let small : n < 256 ^ byte_len width = big_from-lt 0 (byte_len width) o h in
      let small' : n < 2 ^ bits width = rw same small in
      (sfits_to_z (fits small'), sym (ap (big_bytes (byte_len width)) (of_z-to_z width n small') ∙ big_bytes-big_number (byte_len width) o len h));
}
  where
    below : {n : ℕ} → Fits width n → n < 2 ^ bits width
    below f = f.fits

    fits : {n : ℕ} → n < 2 ^ bits width → Fits width n
    fits f = record { fits = f }
