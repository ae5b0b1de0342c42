-- The emitted entries of a connection, compared with what the packets show of it.
use Rattle.std.specs.Prelude.{◌≡◌, ◌⊎◌, ◌<◌, ◌++◌, ◌∷◌, ℕ, if◌then◌else◌, List, [], Some}
use Rattle.capture_tcp.specs.ReaderState.{AreRising}
use Rattle.capture_tcp.specs.Laws.{AreNumbered, EachEntry}
use Rattle.capture_tcp.specs.Message.{message_size}
use Rattle.capture_tcp.specs.ConnectionEvents.{ConnectionEvent, up, message, down, Entry, shown_entries, emits}
use Rattle.capture_tcp.specs.TcpStreams.{End, same_end, Placed, Seen, difference, loss, places, shows_of}

-- The messages of an end among entries.
abbrev pub and_message : End → ConnectionEvent → List (List ℕ) → List (List ℕ)
and_message d up rest = rest
and_message d down rest = rest
and_message d (message c octets) rest = if same_end c d then octets ∷ rest else rest

abbrev pub messages_emitted : End → List Entry → List (List ℕ)
messages_emitted d [] = []
messages_emitted d (e ∷ es) = and_message d e.emitted (messages_emitted d es)

-- The emitted messages of an end are the first ones that the packets show of it, in their order. None is invented,
-- emitted twice, or skipped before another one.
abbrev pub MessagesAreKept : Type 0
MessagesAreKept =
    (ps : List Placed) (d : End) → AreRising 0 ps
    → (rest : List (List ℕ)) × (messages_emitted d (shown_entries (shows_of message_size ps)) ≡ messages_emitted d (emits ps) ++ rest)

-- A capture that is cut anywhere emits a prefix of what the complete one emits.
abbrev pub PrefixIsEmitted : Type 0
PrefixIsEmitted =
    (base : End → ℕ) (first later : List Seen) → AreNumbered 0 (first ++ later)
    → (rest : List Entry) × (emits (places base [] (first ++ later)) ≡ emits (places base [] first) ++ rest)

-- Nothing is emitted where the log stops, or after it: at the first loss, or the first conflicting retransmission.
abbrev pub NothingEmittedAfterALoss : Type 0
NothingEmittedAfterALoss = (ps : List Placed) (k : ℕ) → (loss [] ps ≡ Some k) ⊎ (difference [] ps ≡ Some k) → EachEntry (λ n. n < k) (emits ps)
