-- The TCP segment in a packet, by its link layer, or why no segment is read.
use Rattle.std.specs.Prelude.{ℕ, zero, suc, ◌+◌, ◌-◌, ◌*◌, ◌/◌, ◌%◌, ◌==◌, ◌||◌, Bool, nat_lt, not, if◌then◌else◌, List, length, take, drop, slice_index, Some, None}
use Rattle.capture_pcap.specs.ByteOrder.{big_at}
use Rattle.capture_pcap.specs.Checksum.{is_damaged}
use Rattle.capture_pcap.specs.declared.segment.Shown.{Shown}
use Rattle.capture_pcap.specs.declared.segment.Shown.TheVariants as shown
use Rattle.capture_pcap.specs.declared.segment.Reason.TheVariants as reason
use Rattle.capture_pcap.specs.declared.segment.Address.{Address}
use Rattle.capture_pcap.specs.declared.segment.Address.TheVariants as address

-- ---- TCP

-- The segment in the bytes from one offset up to another.
abbrev pub tcp_at : Address → Address → List ℕ → ℕ → ℕ → Shown
tcp_at source target octets from end =
    if nat_lt (length octets) end then shown.LeftOut reason.Cut else
    (if nat_lt end (from + 20) then shown.LeftOut reason.Header else
    (if nat_lt (slice_index octets (from + 12) / 16) 5 then shown.LeftOut reason.Header else
    (if nat_lt end (from + slice_index octets (from + 12) / 16 * 4) then shown.LeftOut reason.Header else
    (if is_damaged source target (take (end - from) (drop from octets)) then shown.LeftOut reason.Damaged else
    shown.Segment (record {
      source = source;
      source_port = big_at 2 from octets;
      target = target;
      target_port = big_at 2 (from + 2) octets;
      number = big_at 4 (from + 4) octets;
      acknowledged = if slice_index octets (from + 13) / 16 % 2 == 0 then None else Some (big_at 4 (from + 8) octets);
      flags = slice_index octets (from + 13) % 16;
      body = from + slice_index octets (from + 12) / 16 * 4;
      end = end;
    })))))

-- ---- IPv4

-- Where the packet ends. Length 0 means that it extends to the end of the bytes (segmentation offload).
abbrev pub v4_end : List ℕ → ℕ → ℕ
v4_end octets at = if big_at 2 (at + 2) octets == 0 then length octets else at + big_at 2 (at + 2) octets

abbrev pub v4_at : List ℕ → ℕ → Shown
v4_at octets at =
    if nat_lt (length octets - at) 20 then shown.LeftOut reason.Short else
    (if not (slice_index octets (at + 9) == 6) then shown.Other else
    (if not (big_at 2 (at + 6) octets % 0x4000 == 0) then shown.LeftOut reason.Fragment else
    (if nat_lt (slice_index octets at % 16) 5 then shown.LeftOut reason.Header else
    tcp_at (address.V4 (big_at 4 (at + 12) octets)) (address.V4 (big_at 4 (at + 16) octets)) octets (at + slice_index octets at % 16 * 4) (v4_end octets at))))

-- ---- IPv6

-- True for hop-by-hop, routing and destination options.
abbrev pub is_extension : ℕ → Bool
is_extension next = (next == 0) || (next == 43) || (next == 60)

abbrev pub inside_at : Address → Address → ℕ → List ℕ → ℕ → ℕ → Shown
inside_at source target next octets from end =
    if next == 44 then shown.LeftOut reason.Fragment else
    (if not (next == 6) then shown.Other else tcp_at source target octets from end)

-- What follows at most n extension headers.
unfoldable pub extended_at : ℕ → Address → Address → ℕ → List ℕ → ℕ → ℕ → Shown
extended_at zero source target next octets from end = if is_extension next then shown.LeftOut reason.Header else inside_at source target next octets from end
extended_at (suc n) source target next octets from end =
    if is_extension next then
    (if nat_lt (length octets) (from + 8) then shown.LeftOut reason.Short else
    extended_at n source target (slice_index octets from) octets (from + 8 + 8 * slice_index octets (from + 1)) end)
    else inside_at source target next octets from end

abbrev pub v6_end : List ℕ → ℕ → ℕ
v6_end octets at = if big_at 2 (at + 4) octets == 0 then length octets else at + 40 + big_at 2 (at + 4) octets

abbrev pub v6_at : List ℕ → ℕ → Shown
v6_at octets at =
    if nat_lt (length octets - at) 40 then shown.LeftOut reason.Short else
    extended_at 8 (address.V6 (big_at 16 (at + 8) octets)) (address.V6 (big_at 16 (at + 24) octets)) (slice_index octets (at + 6)) octets (at + 40) (v6_end octets at)

-- ---- links

abbrev pub is_tag : ℕ → Bool
is_tag protocol = (protocol == 0x8100) || (protocol == 0x88a8) || (protocol == 0x9100)

abbrev pub untagged_at : ℕ → List ℕ → ℕ → Shown
untagged_at protocol octets at =
    if protocol == 0x0800 then v4_at octets at else
    (if protocol == 0x86dd then v6_at octets at else shown.Other)

-- What follows at most n VLAN tags.
unfoldable pub tagged_at : ℕ → ℕ → List ℕ → ℕ → Shown
tagged_at zero protocol octets at = if is_tag protocol then shown.LeftOut reason.Header else untagged_at protocol octets at
tagged_at (suc n) protocol octets at =
    if is_tag protocol then
    (if nat_lt (length octets - at) 4 then shown.LeftOut reason.Short else tagged_at n (big_at 2 (at + 2) octets) octets (at + 4))
    else untagged_at protocol octets at

-- A link layer whose header has this number of bytes, and the protocol at an offset.
abbrev pub framed_at : ℕ → ℕ → List ℕ → Shown
framed_at size place octets =
    if nat_lt (length octets) size then shown.LeftOut reason.Short else tagged_at 16 (big_at 2 place octets) octets size

-- A link layer without a protocol field: the IP version gives the protocol.
abbrev pub raw_at : ℕ → List ℕ → Shown
raw_at at octets =
    if nat_lt (length octets) (at + 1) then shown.LeftOut reason.Short else
    (if slice_index octets at / 16 == 4 then v4_at octets at else
    (if slice_index octets at / 16 == 6 then v6_at octets at else shown.Other))

abbrev pub is_raw : ℕ → Bool
is_raw link = (link == 12) || (link == 14) || (link == 101) || (link == 228) || (link == 229)

abbrev pub is_null : ℕ → Bool
is_null link = (link == 0) || (link == 108)

-- Ethernet 1, Linux cooked 113 and 276, raw, null and loop.
unfoldable pub segment_at : ℕ → List ℕ → Shown
segment_at link octets =
    if link == 1 then framed_at 14 12 octets else
    (if link == 113 then framed_at 16 14 octets else
    (if link == 276 then framed_at 20 0 octets else
    (if is_raw link then raw_at 0 octets else
    (if is_null link then raw_at 4 octets else shown.LeftOut reason.Link))))
