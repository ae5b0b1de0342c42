-- What follows a VLAN tag or an extension header.
use Rattle.std.proofs.Common.{◌≡◌, ◌≢◌, ℕ, zero, suc, ◌+◌, ◌-◌, ◌*◌, ◌<◌, ◌≤◌, true, false, List, length, slice_index, refl, arith}
use Rattle.std.proofs.lemmas.Bool.{lt-ltb, le-ltb}
use Rattle.capture_pcap.specs.ByteOrder.{big_at}
use Rattle.capture_pcap.specs.declared.segment.Shown.TheVariants as shown
use Rattle.capture_pcap.specs.declared.segment.Reason.TheVariants as reason
use Rattle.capture_pcap.specs.declared.segment.Address.{Address}
use Rattle.capture_pcap.specs.Segment.{is_tag, untagged_at, tagged_at, is_extension, inside_at, extended_at}

pub untagged_is : (left protocol : ℕ) (octets : List ℕ) (at : ℕ) → is_tag protocol ≡ false → untagged_at protocol octets at ≡ tagged_at left protocol octets at
unfolding tagged_at
untagged_is zero protocol octets at h = rw h refl
untagged_is (suc n) protocol octets at h = rw h refl

pub tagged_last : (left protocol : ℕ) (octets : List ℕ) (at : ℕ) → is_tag protocol ≡ true → left ≡ 0 → shown.LeftOut reason.Header ≡ tagged_at left protocol octets at
unfolding tagged_at
tagged_last left protocol octets at h e = rw (e, h) refl

pub tagged_short : (left protocol : ℕ) (octets : List ℕ) (at : ℕ) → is_tag protocol ≡ true → left ≢ 0 → length octets - at < 4
    → shown.LeftOut reason.Short ≡ tagged_at left protocol octets at
unfolding tagged_at
tagged_short zero protocol octets at h some lt = absurd (some refl)
tagged_short (suc n) protocol octets at h some lt = rw (h, lt-ltb (length octets - at) 4 lt) refl

pub tagged_more : (left protocol : ℕ) (octets : List ℕ) (at : ℕ) → is_tag protocol ≡ true → left ≢ 0 → 4 ≤ length octets - at
    → tagged_at (left - 1) (big_at 2 (at + 2) octets) octets (at + 4) ≡ tagged_at left protocol octets at
unfolding tagged_at
tagged_more zero protocol octets at h some le = absurd (some refl)
tagged_more (suc n) protocol octets at h some le =
    let e : suc n - 1 ≡ n = omega arith in
    rw (e, h, le-ltb (length octets - at) 4 le) refl

pub inside_is : (left : ℕ) (source target : Address) (next : ℕ) (octets : List ℕ) (from end : ℕ) → is_extension next ≡ false
    → inside_at source target next octets from end ≡ extended_at left source target next octets from end
unfolding extended_at
inside_is zero source target next octets from end h = rw h refl
inside_is (suc n) source target next octets from end h = rw h refl

pub extended_last : (left : ℕ) (source target : Address) (next : ℕ) (octets : List ℕ) (from end : ℕ) → is_extension next ≡ true → left ≡ 0
    → shown.LeftOut reason.Header ≡ extended_at left source target next octets from end
unfolding extended_at
extended_last left source target next octets from end h e = rw (e, h) refl

pub extended_short : (left : ℕ) (source target : Address) (next : ℕ) (octets : List ℕ) (from end : ℕ) → is_extension next ≡ true → left ≢ 0
    → length octets < from + 8 → shown.LeftOut reason.Short ≡ extended_at left source target next octets from end
unfolding extended_at
extended_short zero source target next octets from end h some lt = absurd (some refl)
extended_short (suc n) source target next octets from end h some lt = rw (h, lt-ltb (length octets) (from + 8) lt) refl

pub extended_more : (left : ℕ) (source target : Address) (next : ℕ) (octets : List ℕ) (from end : ℕ) → is_extension next ≡ true → left ≢ 0
    → from + 8 ≤ length octets
    → extended_at (left - 1) source target (slice_index octets from) octets (from + 8 + 8 * slice_index octets (from + 1)) end ≡ extended_at left source target next octets from end
unfolding extended_at
extended_more zero source target next octets from end h some le = absurd (some refl)
extended_more (suc n) source target next octets from end h some le =
    let e : suc n - 1 ≡ n = omega arith in
    rw (e, h, le-ltb (length octets) (from + 8) le) refl
