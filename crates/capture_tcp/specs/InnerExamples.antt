-- Small captures, and what the definitions state of them. Each message has one cell here.
use Rattle.std.specs.Prelude.{◌≡◌, ℕ, true, false, List, [], ◌∷◌, map, Option, None, Some}
use Rattle.capture_tcp.specs.TcpStreams.{End, active, passive, Cell, syn, octet, Seen, places, loss, loss_shown, difference, wire_shows}
use Rattle.capture_tcp.specs.Message.{cells_of}
use Rattle.capture_tcp.specs.ConnectionEvents.{up, message, down, Entry, entry, emits}
use Rattle.capture_tcp.specs.ReaderState.{log_of}

abbrev pub one_cell : List Cell → Option ℕ
one_cell [] = None
one_cell (c ∷ cs) = Some 1

-- Both SYNs have the sequence number 1000.
abbrev pub base : End → ℕ
base e = 1000

abbrev pub sent : End → ℕ → ℕ → Option ℕ → List Cell → Seen
sent e packet number ack cells =
    record { from = e; packet = packet; time = packet; number = number; acknowledged = ack; cells = cells; pushed = true; reset = false }

abbrev pub connected : List Seen → List Seen
connected more = sent active 1 1000 None (syn ∷ []) ∷ (sent passive 2 1000 (Some 1001) (syn ∷ []) ∷ more)

abbrev pub senders : List Seen → List End
senders ss = map (λ s. s.of) (wire_shows one_cell base (connected ss))

abbrev pub packets : List Seen → List ℕ
packets ss = map (λ s. s.at.packet) (wire_shows one_cell base (connected ss))

-- The reply that packet 4 acknowledges is missing, and packet 5's data comes after the loss.
abbrev pub lost_reply : List Seen
lost_reply =
    sent active 3 1001 (Some 1001) (octet 7 ∷ []) ∷ (sent active 4 1002 (Some 1002) [] ∷ (sent active 5 1002 (Some 1002) (octet 8 ∷ []) ∷ []))

-- The reply is captured before the message that it acknowledges.
abbrev pub early_reply : List Seen
early_reply = sent passive 3 1001 (Some 1002) (octet 9 ∷ []) ∷ (sent active 4 1001 (Some 1001) (octet 7 ∷ []) ∷ [])

-- The byte of packet 5 is at an offset that was acknowledged.
abbrev pub asked : List Seen
asked = sent active 3 1001 (Some 1001) (octet 7 ∷ []) ∷ (sent passive 4 1001 (Some 1002) [] ∷ (record (sent active 5 1001 (Some 1001) (octet 0 ∷ [])) { pushed = false } ∷ []))

-- The copy in packet 4 differs from packet 3, and nothing acknowledged it.
abbrev pub other_copy : List Seen
other_copy = sent active 3 1001 (Some 1001) (octet 7 ∷ []) ∷ (sent active 4 1001 (Some 1001) (octet 0 ∷ (octet 1 ∷ [])) ∷ [])

-- One byte is missing before packet 4, and nothing acknowledges it.
abbrev pub gap_at_end : List Seen
gap_at_end = sent active 3 1001 (Some 1001) (octet 7 ∷ []) ∷ (sent active 4 1003 (Some 1001) (octet 8 ∷ []) ∷ [])

-- The message that packet 4 answers is missing. Packet 3, which comes after the missing message, is captured before the
-- reply.
abbrev pub lost_message : List Seen
lost_message = sent active 3 1002 (Some 1002) [] ∷ (sent passive 4 1001 (Some 1002) (octet 9 ∷ []) ∷ [])

abbrev pub LostReply : Type 0
LostReply = (loss [] (places base [] (connected lost_reply)) ≡ Some 4) × (packets lost_reply ≡ 1 ∷ (2 ∷ (3 ∷ [])))

abbrev pub EarlyReply : Type 0
EarlyReply =
    (loss [] (places base [] (connected early_reply)) ≡ None) × (packets early_reply ≡ 1 ∷ (2 ∷ (3 ∷ (3 ∷ []))))
    × (senders early_reply ≡ active ∷ (passive ∷ (active ∷ (passive ∷ []))))

abbrev pub Asked : Type 0
Asked = (difference [] (places base [] (connected asked)) ≡ None) × (packets asked ≡ 1 ∷ (2 ∷ (3 ∷ [])))

abbrev pub OtherCopy : Type 0
OtherCopy = (difference [] (places base [] (connected other_copy)) ≡ Some 4) × (packets other_copy ≡ 1 ∷ (2 ∷ (3 ∷ [])))

abbrev pub GapAtEnd : Type 0
GapAtEnd =
    (loss [] (places base [] (connected gap_at_end)) ≡ Some 4) × (loss_shown [] (places base [] (connected gap_at_end)) ≡ Some 4)
    × (packets gap_at_end ≡ 1 ∷ (2 ∷ (3 ∷ [])))

abbrev pub LostMessage : Type 0
LostMessage =
    (loss [] (places base [] (connected lost_message)) ≡ Some 3) × (loss_shown [] (places base [] (connected lost_message)) ≡ Some 4)
    × (packets lost_message ≡ 1 ∷ (2 ∷ []))

-- ---- the log of small captures

-- An HSMS message of this SType, without a text.
abbrev pub control : ℕ → List ℕ
control s = 0 ∷ 0 ∷ 0 ∷ 10 ∷ 255 ∷ 255 ∷ 0 ∷ 0 ∷ 0 ∷ s ∷ 0 ∷ 0 ∷ 0 ∷ 1 ∷ []

abbrev pub brings : End → ℕ → ℕ → ℕ → ℕ → Seen
brings e packet number ack s = sent e packet number (Some ack) (cells_of false (control s) false)

abbrev pub resets : End → ℕ → ℕ → ℕ → Seen
resets e packet number ack = record (sent e packet number (Some ack) []) { reset = true }

abbrev pub recorded_of : List Seen → List Entry
recorded_of ss = emits (places base [] ss)

-- Nobody listens at the passive end.
abbrev pub Refused : Type 0
Refused = recorded_of (sent active 1 1000 None (syn ∷ []) ∷ resets passive 2 1000 1001 ∷ []) ≡ []

-- The SYN and ACK is not answered.
abbrev pub HalfOpen : Type 0
HalfOpen = recorded_of (connected (resets passive 3 1001 1001 ∷ [])) ≡ []

-- Nobody listens at first. The SYN is sent again, since the reset was lost after the tap.
abbrev pub RefusedOnce : Type 0
RefusedOnce =
    recorded_of (sent active 1 1000 None (syn ∷ []) ∷ resets passive 2 1000 1001 ∷ sent active 3 1000 None (syn ∷ []) ∷ sent passive 4 1000 (Some 1001) (syn ∷ [])
    ∷ sent active 5 1001 (Some 1001) [] ∷ brings active 6 1001 1001 1 ∷ [])
    ≡ entry 5 up ∷ entry 6 (message active (control 1)) ∷ []

-- A Linktest.req, which is not acknowledged, crosses a Separate.
abbrev pub SeparateCrossed : Type 0
SeparateCrossed =
    recorded_of (connected (sent active 3 1001 (Some 1001) [] ∷ brings active 4 1001 1001 9 ∷ brings passive 5 1001 1001 5 ∷ []))
    ≡ entry 3 up ∷ entry 4 (message active (control 9)) ∷ []

-- A reset after a message, and what follows it.
abbrev pub ResetBetween : Type 0
ResetBetween =
    recorded_of (connected (sent active 3 1001 (Some 1001) [] ∷ brings active 4 1001 1001 1 ∷ resets passive 5 1001 1015 ∷ brings active 6 1015 1001 5 ∷ []))
    ≡ entry 3 up ∷ entry 4 (message active (control 1)) ∷ entry 5 down ∷ []

-- The SYN carries a byte, which is not a complete message, and a reset ends the connection. It ended, and nothing is
-- emitted.
abbrev pub over_unreported : List Seen
over_unreported = sent active 1 1000 None (syn ∷ octet 0 ∷ []) ∷ record (sent active 2 1002 None []) { reset = true } ∷ []

abbrev pub OverUnreported : Type 0
OverUnreported = ((log_of (places base [] over_unreported)).closed ≡ true) × (recorded_of over_unreported ≡ [])

-- The SYN and ACK is captured after the Select.req that acknowledges it.
abbrev pub UpLate : Type 0
UpLate =
    recorded_of (sent active 1 1000 None (syn ∷ []) ∷ sent active 2 1001 (Some 1001) [] ∷ brings active 3 1001 1001 1
    ∷ sent passive 4 1000 (Some 1001) (syn ∷ []) ∷ brings passive 5 1001 1015 2 ∷ [])
    ≡ entry 2 up ∷ entry 3 (message active (control 1)) ∷ entry 5 (message passive (control 2)) ∷ []

-- A FIN ends the connection, also within a message.
abbrev pub FinWithin : Type 0
FinWithin =
    recorded_of (connected (sent active 3 1001 (Some 1001) [] ∷ brings active 4 1001 1001 1 ∷ sent active 5 1015 (Some 1001) (cells_of false (0 ∷ 0 ∷ []) true) ∷ []))
    ≡ entry 3 up ∷ entry 4 (message active (control 1)) ∷ entry 5 down ∷ []
