-- Laws of capture files.
use Rattle.std.specs.Prelude.{◌≡◌, ◌++◌, ℕ, List}
use Rattle.capture_pcap.specs.BlockReader.{Reading, ReadsOn}
use Rattle.capture_pcap.specs.File.{Packet, Ending, complete, cut, faulty, ReadsFile}

-- The bytes of a file have exactly one reading.
abbrev pub FileHasOneReading : Type 0
FileHasOneReading =
    (octets : List ℕ) (packets others : List Packet) (ending other : Ending) → ReadsFile octets packets ending
    → ReadsFile octets others other → (packets ≡ others) × (ending ≡ other)

-- Every file has a reading: it has packets, and an ending.
abbrev pub EachFileIsRead : Type 0
EachFileIsRead = (octets : List ℕ) → (packets : List Packet) × (ending : Ending) × ReadsFile octets packets ending

-- The rest of a partly read file has a reading, whatever bytes follow.
abbrev pub EachRestIsRead : Type 0
EachRestIsRead = (r : Reading) (rest : List ℕ) → (packets : List Packet) × (ending : Ending) × ReadsOn r rest packets ending

-- Holds if what was read from a prefix stays valid for the longer file. The longer file's packets start with the
-- prefix's packets. An error of the prefix is the longer file's error, at the same offset, after the same packets.
abbrev pub StaysReported : List Packet → Ending → List Packet → Ending → Type 0
StaysReported packets complete others other = (rest : List Packet) × (others ≡ packets ++ rest)
StaysReported packets (cut count) others other = (rest : List Packet) × (others ≡ packets ++ rest)
StaysReported packets (faulty count place f) others other = (others ≡ packets) × (other ≡ faulty count place f)

-- Bytes after a file do not change what was read from it.
abbrev pub WhatWasReadStays : Type 0
WhatWasReadStays =
    (octets more : List ℕ) (packets others : List Packet) (ending other : Ending) → ReadsFile octets packets ending
    → ReadsFile (octets ++ more) others other → StaysReported packets ending others other
