-- The HSMS messages in a stream of cells: four bytes of a length, and as many bytes as it gives. A SYN and a FIN are
-- messages of their own. A FIN within a message ends it, and what comes before the FIN is not a message. A length that
-- no message has is cut off alone, since nobody knows where the next message starts.
use Rattle.std.specs.Prelude.{ℕ, zero, suc, ◌+◌, ◌-◌, ◌*◌, ◌^◌, nat_lt, Bool, if◌then◌else◌, List, [], ◌∷◌, ◌++◌, map, Option, Some, None}
use Rattle.capture_tcp.specs.TcpStreams.{Cell, syn, octet, fin}

-- What a segment carries.
abbrev pub cells_of : Bool → List ℕ → Bool → List Cell
cells_of syns octets fins = (if syns then (syn ∷ []) else []) ++ (map (λ n. octet n) octets ++ (if fins then (fin ∷ []) else []))

abbrev pub one_more : Option ℕ → Option ℕ
one_more None = None
one_more (Some n) = Some (n + 1)

-- The number of cells of these bytes, or of those up to a FIN that comes before their end.
unfoldable pub cells_to : ℕ → List Cell → Option ℕ
cells_to zero cs = Some 0
cells_to (suc k) [] = None
cells_to (suc k) (syn ∷ cs) = Some 1
cells_to (suc k) (fin ∷ cs) = Some 1
cells_to (suc k) (octet n ∷ cs) = one_more (cells_to k cs)

-- The number of bytes after a length: as many as it gives, but 0 if no message has this length. A message has at least
-- ten bytes, and at most as many as can be buffered with those of the length.
abbrev pub octets_after : ℕ → ℕ
octets_after value = if nat_lt value 10 then 0 else (if nat_lt (2 ^ 26 - 4) value then 0 else value)

-- The size of a message if this many bytes of the length are still to come, and the bytes before give a value.
unfoldable pub size_by : ℕ → ℕ → List Cell → Option ℕ
size_by zero value cs = cells_to (octets_after value) cs
size_by (suc k) value [] = None
size_by (suc k) value (syn ∷ cs) = Some 1
size_by (suc k) value (fin ∷ cs) = Some 1
size_by (suc k) value (octet n ∷ cs) = one_more (size_by k (value * 256 + n) cs)

-- The number of cells of the message at the front, if it is complete.
abbrev pub message_size : List Cell → Option ℕ
message_size cs = size_by 4 0 cs
