-- The next record (pcap) or block (pcapng) of a capture file.
use Rattle.std.specs.Prelude.{ℕ, zero, suc, ◌+◌, ◌-◌, ◌*◌, ◌/◌, ◌%◌, ◌^◌, ◌==◌, ◌||◌, ◌&&◌, min, slice_get, Bool, nat_lt, not, if◌then◌else◌, List, length, take, drop, slice_index, Option, Some, None, Result, Ok, Err}
use Rattle.capture_pcap.specs.declared.byte_order.Order.{Order}
use Rattle.capture_pcap.specs.declared.byte_order.Order.TheVariants as order
use Rattle.capture_pcap.specs.declared.next_block.Front.{Front}
use Rattle.capture_pcap.specs.declared.next_block.Front.TheVariants as front
use Rattle.capture_pcap.specs.declared.next_block.Interface.{Interface}
use Rattle.capture_pcap.specs.declared.fault.CaptureFault.{CaptureFault}
use Rattle.capture_pcap.specs.declared.fault.CaptureFault.TheVariants as fault
use Rattle.capture_pcap.specs.ByteOrder.{number_in}

-- The maximum length of a record or block that is read.
abbrev pub greatest : ℕ
greatest = 0x1000000

-- ---- pcap

-- The record at the start: seconds, a fraction of a second of which `parts` are a millisecond, the captured length, the
-- packet's length, and the bytes. If the record is incomplete, more bytes are needed.
unfoldable pub pcap_at : Order → ℕ → ℕ → List ℕ → Result Front CaptureFault
pcap_at o parts link octets =
    if nat_lt (length octets) 16 then Ok front.More else
    (if nat_lt greatest (number_in o 4 (drop 8 octets)) then Err fault.Length else
    (if nat_lt (length octets - 16) (number_in o 4 (drop 8 octets)) then Ok front.More else
    Ok (front.Packet (record {
      time = Some (number_in o 4 octets * 1000 + number_in o 4 (drop 4 octets) / parts);
      link = link;
      body = 16;
      held = number_in o 4 (drop 8 octets);
      whole = not (nat_lt (number_in o 4 (drop 8 octets)) (number_in o 4 (drop 12 octets)));
      size = 16 + number_in o 4 (drop 8 octets);
    }))))

-- ---- pcapng

-- The number of ticks in a second: a power of two if the highest bit is set, otherwise a power of ten.
abbrev pub ticks_of : ℕ → Option ℕ
ticks_of resolution =
    if nat_lt resolution 20 then Some (10 ^ resolution) else
    (if nat_lt resolution 128 then None else
    (if nat_lt resolution 192 then Some (2 ^ (resolution - 128)) else None))

-- Milliseconds since 1970, not below 0. The offset is in seconds, in two's complement of 64 bits.
abbrev pub milliseconds_of : ℕ → ℕ → ℕ → ℕ
milliseconds_of per_second offset ticks =
    if nat_lt offset (2 ^ 63) then ticks * 1000 / per_second + offset * 1000 else ticks * 1000 / per_second - (2 ^ 64 - offset) * 1000

-- ---- options of an interface

-- The interface after an option.
abbrev pub with_option : Order → ℕ → List ℕ → Interface → Interface
with_option o code value i =
    if (code == 9) && (length value == 1) then record i { resolution = slice_index value 0 } else
    (if (code == 14) && (length value == 8) then record i { offset = number_in o 8 value } else i)

-- Each option has a code, a length, and a value that is padded to whole words. Code 0 ends the options.
unfoldable pub options_at : ℕ → Order → List ℕ → Interface → Interface
options_at zero o octets i = i
options_at (suc n) o octets i =
    if nat_lt (length octets) 4 then i else
    (if number_in o 2 octets == 0 then i else
    (if nat_lt (length octets - 4) ((number_in o 2 (drop 2 octets) + 3) / 4 * 4) then i else
    options_at n o (drop (4 + (number_in o 2 (drop 2 octets) + 3) / 4 * 4) octets)
    (with_option o (number_in o 2 octets) (take (number_in o 2 (drop 2 octets)) (drop 4 octets)) i)))

-- ---- complete blocks; `size` is their length

-- The packet of an enhanced (6) or old (2) block.
abbrev pub packet_at : Order → Option Interface → Option ℕ → ℕ → List ℕ → Result Front CaptureFault
packet_at o None ticks size octets = Err fault.Interface
packet_at o (Some i) None size octets = Err fault.Resolution
packet_at o (Some i) (Some per_second) size octets =
    if nat_lt (size - 32) (number_in o 4 (drop 20 octets)) then Err fault.Length else
    Ok (front.Packet (record {
      time = Some (milliseconds_of per_second i.offset (number_in o 4 (drop 12 octets) * 2 ^ 32 + number_in o 4 (drop 16 octets)));
      link = i.link;
      body = 28;
      held = number_in o 4 (drop 20 octets);
      whole = not (nat_lt (number_in o 4 (drop 20 octets)) (number_in o 4 (drop 24 octets)));
      size = size;
    }))

abbrev pub ticks_at : Option Interface → Option ℕ
ticks_at None = None
ticks_at (Some i) = ticks_of i.resolution

abbrev pub timed_at : Order → List Interface → ℕ → ℕ → List ℕ → Result Front CaptureFault
timed_at o interfaces which size octets =
    if nat_lt size 32 then Err fault.Length else
    packet_at o (slice_get interfaces which) (ticks_at (slice_get interfaces which)) size octets

-- The number of captured bytes in a simple block (3): the packet's length, limited by the snapshot length if that is
-- not 0, and by the bytes in the block.
abbrev pub held_of : ℕ → ℕ → ℕ → ℕ
held_of had snap there = if snap == 0 then min had there else min (min had snap) there

abbrev pub untimed_at : Order → Option Interface → ℕ → List ℕ → Result Front CaptureFault
untimed_at o None size octets = Err fault.Interface
untimed_at o (Some i) size octets =
    if nat_lt size 16 then Err fault.Length else
    Ok (front.Packet (record {
      time = None;
      link = i.link;
      body = 12;
      held = held_of (number_in o 4 (drop 8 octets)) i.snap (size - 16);
      whole = not (nat_lt (held_of (number_in o 4 (drop 8 octets)) i.snap (size - 16)) (number_in o 4 (drop 8 octets)));
      size = size;
    }))

abbrev pub interface_at : Order → ℕ → List ℕ → Result Front CaptureFault
interface_at o size octets =
    if nat_lt size 20 then Err fault.Length else
    Ok (front.Described (options_at (size - 20) o (take (size - 20) (drop 16 octets))
    (record { link = number_in o 2 (drop 8 octets); snap = number_in o 4 (drop 12 octets); resolution = 6; offset = 0 })) size)

-- True if the block is a custom block. It counts as a packet, as in Wireshark.
abbrev pub is_custom : ℕ → Bool
is_custom kind = (kind == 0xbad) || (kind == 0x40000bad)

abbrev pub block_of : Order → List Interface → ℕ → ℕ → List ℕ → Result Front CaptureFault
block_of o interfaces kind size octets =
    if kind == 1 then interface_at o size octets else
    (if kind == 6 then timed_at o interfaces (number_in o 4 (drop 8 octets)) size octets else
    (if kind == 2 then timed_at o interfaces (number_in o 2 (drop 8 octets)) size octets else
    (if kind == 3 then untimed_at o (slice_get interfaces 0) size octets else
    Ok (front.Passed (is_custom kind) size))))

-- The length of the block at the start. `None` if the block is incomplete.
abbrev pub size_at : Order → List ℕ → Result (Option ℕ) CaptureFault
size_at o octets =
    if nat_lt (length octets) 12 then Ok None else
    (if nat_lt (number_in o 4 (drop 4 octets)) 12 then Err fault.Length else
    (if nat_lt greatest (number_in o 4 (drop 4 octets)) then Err fault.Length else
    (if not (number_in o 4 (drop 4 octets) % 4 == 0) then Err fault.Length else
    (if nat_lt (length octets) (number_in o 4 (drop 4 octets)) then Ok None else
    (if number_in o 4 (drop (number_in o 4 (drop 4 octets) - 4) octets) == number_in o 4 (drop 4 octets)
    then Ok (Some (number_in o 4 (drop 4 octets))) else Err fault.Trailer)))))

abbrev pub in_block : Order → List Interface → List ℕ → Result (Option ℕ) CaptureFault → Result Front CaptureFault
in_block o interfaces octets (Ok None) = Ok front.More
in_block o interfaces octets (Ok (Some size)) = block_of o interfaces (number_in o 4 octets) size octets
in_block o interfaces octets (Err f) = Err f

-- The byte order of the section whose header block is at the start.
abbrev pub order_of : ℕ → Option Order
order_of number =
    if number == 0x1a2b3c4d then Some order.Big else
    (if number == 0x4d3c2b1a then Some order.Little else None)

abbrev pub in_section : Order → Result (Option ℕ) CaptureFault → Result Front CaptureFault
in_section o (Ok None) = Ok front.More
in_section o (Ok (Some size)) = Ok (front.Begun o size)
in_section o (Err f) = Err f

abbrev pub section_at : Option Order → List ℕ → Result Front CaptureFault
section_at None octets = Err fault.Order
section_at (Some o) octets = in_section o (size_at o octets)

-- The block at the start, in a section with this byte order and these interfaces. A section's header gives its own byte
-- order.
unfoldable pub pcapng_at : Order → List Interface → List ℕ → Result Front CaptureFault
pcapng_at o interfaces octets =
    if nat_lt (length octets) 12 then Ok front.More else
    (if number_in order.Big 4 octets == 0x0a0d0d0a then section_at (order_of (number_in order.Big 4 (drop 8 octets))) octets
    else in_block o interfaces octets (size_at o octets))
