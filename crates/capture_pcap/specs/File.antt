-- The packets of a capture file.
use Rattle.std.specs.Prelude.{◌≡◌, ◌≤◌, ◌<◌, ◌+◌, ◌-◌, ◌%◌, ◌/◌, ◌^◌, ◌==◌, ℕ, Bool, min, nat_lt, if◌then◌else◌, List, [], ◌∷◌, ◌++◌, length, take, drop, Option, Result, Ok, Err}
use Rattle.capture_pcap.specs.declared.byte_order.Order.{Order}
use Rattle.capture_pcap.specs.declared.byte_order.Order.TheVariants as order
use Rattle.capture_pcap.specs.declared.next_block.Front.{Front}
use Rattle.capture_pcap.specs.declared.next_block.Front.TheVariants as front
use Rattle.capture_pcap.specs.declared.next_block.Interface.{Interface}
use Rattle.capture_pcap.specs.declared.fault.CaptureFault.{CaptureFault}
use Rattle.capture_pcap.specs.declared.fault.CaptureFault.TheVariants as fault
use Rattle.capture_pcap.specs.declared.block_reader.Format.{Format}
use Rattle.capture_pcap.specs.declared.block_reader.Format.TheVariants as format
use Rattle.capture_pcap.specs.declared.block_reader.Opening.{Opening}
use Rattle.capture_pcap.specs.declared.block_reader.Opening.TheVariants as opening
use Rattle.capture_pcap.specs.ByteOrder.{number_in}
use Rattle.capture_pcap.specs.NextBlock.{pcap_at, pcapng_at}

-- ---- the first bytes

-- The header of a pcap file: magic, version, four bytes each of zone and accuracy, the snapshot length, and the link
-- type, of which only the lowest 16 bits count.
abbrev pub pcap_opening_at : Order → ℕ → List ℕ → Opening
pcap_opening_at o parts octets =
    if nat_lt (length octets) 24 then opening.More else
    opening.Opened (format.Pcap o parts (number_in o 4 (drop 20 octets) % 65536)) 24

-- The error for a file that is not a capture, by its kind if its first four bytes show it.
abbrev pub no_capture : ℕ → CaptureFault
no_capture magic =
    if magic == 0x28b52ffd then fault.Zstd else
    (if magic / 65536 == 0x1f8b then fault.Gzip else fault.Unknown)

-- A pcap file starts with its magic number, in the byte order of all its numbers, with micro- or nanoseconds. A pcapng
-- file starts with a section's header, which gives the order.
unfoldable pub opening_at : List ℕ → Result Opening CaptureFault
opening_at octets =
    if nat_lt (length octets) 4 then Ok opening.More else
    (if number_in order.Big 4 octets == 0xa1b2c3d4 then Ok (pcap_opening_at order.Big 1000 octets) else
    (if number_in order.Big 4 octets == 0xd4c3b2a1 then Ok (pcap_opening_at order.Little 1000 octets) else
    (if number_in order.Big 4 octets == 0xa1b23c4d then Ok (pcap_opening_at order.Big 1000000 octets) else
    (if number_in order.Big 4 octets == 0x4d3cb2a1 then Ok (pcap_opening_at order.Little 1000000 octets) else
    (if number_in order.Big 4 octets == 0x0a0d0d0a then Ok (opening.Opened (format.Pcapng order.Little) 0) else
    Err (no_capture (number_in order.Big 4 octets)))))))

-- ---- what follows

-- The state of reading a file. The counts saturate.
pub record State : Type 0 where
  pub format : Format
  pub interfaces : List Interface
  pub packets : ℕ
  pub place : ℕ

abbrev pub new_state : Format → ℕ → State
new_state f size = record { format = f; interfaces = []; packets = 0; place = size }

abbrev pub greatest_count : ℕ
greatest_count = 2 ^ 64 - 1

abbrev pub front_by : Format → List Interface → List ℕ → Result Front CaptureFault
front_by (format.Pcap o parts link) interfaces octets = pcap_at o parts link octets
front_by (format.Pcapng o) interfaces octets = pcapng_at o interfaces octets

abbrev pub front_at : State → List ℕ → Result Front CaptureFault
front_at s octets = front_by s.format s.interfaces octets

abbrev pub size_of : Front → ℕ
size_of front.More = 0
size_of (front.Packet r) = r.size
size_of (front.Begun o size) = size
size_of (front.Described i size) = size
size_of (front.Passed counts size) = size

-- The state after a record or block, except for the offset.
abbrev pub derived_from : State → Front → State
derived_from s front.More = s
derived_from s (front.Packet r) = record s { packets = min (s.packets + 1) greatest_count }
derived_from s (front.Begun o size) = record s { format = format.Pcapng o; interfaces = [] }
derived_from s (front.Described i size) = record s { interfaces = s.interfaces ++ (i ∷ []) }
derived_from s (front.Passed counts size) = if counts then record s { packets = min (s.packets + 1) greatest_count } else s

abbrev pub after : State → Front → State
after s f = record (derived_from s f) { place = min (s.place + size_of f) greatest_count }

-- A packet with its number, counted from 1. The numbers saturate.
pub record Packet : Type 0 where
  pub number : ℕ
  pub time : Option ℕ
  pub link : ℕ
  pub octets : List ℕ
  pub whole : Bool

abbrev pub packets_in : State → List ℕ → Front → List Packet
packets_in s octets front.More = []
packets_in s octets (front.Packet r) =
    record { number = min (s.packets + 1) greatest_count; time = r.time; link = r.link; octets = take r.held (drop r.body octets); whole = r.whole } ∷ []
packets_in s octets (front.Begun o size) = []
packets_in s octets (front.Described i size) = []
packets_in s octets (front.Passed counts size) = []

-- How a file ends: after a complete record or block; within one, after this number of packets; or with an invalid one,
-- after this number of packets, at this offset.
pub data Ending : Type 0 where
  complete : Ending
  cut : ℕ → Ending
  faulty : ℕ → ℕ → CaptureFault → Ending

abbrev pub EndsAs : State → List ℕ → Ending → Type 0
EndsAs s octets complete = octets ≡ []
EndsAs s octets (cut count) = (0 < length octets) × (front_at s octets ≡ Ok front.More) × (count ≡ s.packets)
EndsAs s octets (faulty count place f) = (front_at s octets ≡ Err f) × (place ≡ s.place) × (count ≡ s.packets)

-- Holds if the bytes are these records or blocks, in order, with this ending, and these are their packets.
unfoldable pub Reads : List Front → State → List ℕ → List Packet → Ending → Type 0
Reads [] s octets packets ending = (packets ≡ []) × EndsAs s octets ending
Reads (f ∷ fs) s octets packets ending =
    (0 < size_of f) × (front_at s octets ≡ Ok f)
    × ((rest : List Packet) × (packets ≡ packets_in s octets f ++ rest) × Reads fs (after s f) (drop (size_of f) octets) rest ending)

-- Holds if a file with this start has these packets and this ending.
abbrev pub ReadsAfter : Result Opening CaptureFault → List ℕ → List Packet → Ending → Type 0
ReadsAfter (Ok opening.More) octets packets ending = (packets ≡ []) × (ending ≡ cut 0)
ReadsAfter (Ok (opening.Opened f size)) octets packets ending =
    (fs : List Front) × Reads fs (new_state f size) (drop size octets) packets ending
ReadsAfter (Err f) octets packets ending = (packets ≡ []) × (ending ≡ faulty 0 0 f)

-- Holds if these are the file's packets and its ending.
abbrev pub ReadsFile : List ℕ → List Packet → Ending → Type 0
ReadsFile octets packets ending = ReadsAfter (opening_at octets) octets packets ending

-- ---- what a reader also promises

-- Holds if the record or block that was found is complete.
abbrev pub IsWithin : ℕ → Front → Type 0
IsWithin n front.More = Unit {0}
IsWithin n (front.Packet r) = (r.body + r.held ≤ r.size) × (r.size ≤ n)
IsWithin n (front.Begun o size) = size ≤ n
IsWithin n (front.Described i size) = size ≤ n
IsWithin n (front.Passed counts size) = size ≤ n

-- Holds if a millisecond has at least one part.
abbrev pub HasParts : Format → Type 0
HasParts (format.Pcap o parts link) = 0 < parts
HasParts (format.Pcapng o) = Unit {0}

-- Holds if the header is complete.
abbrev pub HasOpened : ℕ → Opening → Type 0
HasOpened n opening.More = Unit {0}
HasOpened n (opening.Opened f size) = HasParts f × (size ≤ n)
